-- The faults of a network text: their numbers and names.
use Rattle.std.specs.Prelude.{ℕ, List, codes}
use Rattle.racp_text.specs.Faults.{fault_at}
use Rattle.racp_text.specs.declared.fault.LineFault.{LineFault}
use Rattle.racp_sm.specs.declared.fault.SmFaultKind.{SmFaultKind}
use Rattle.racp_sm.specs.declared.fault.SmFaultKind.TheVariants.{NoJobs, NoRenewable, ManyProjects, OtherResources, NoPrecedence, NoRequests, BadNumber, Limit, BadRow, NotSingleMode, BadSuccessor, TooFew, TooMany, Cycle, Memory}

-- the fault of a text: its kind, and the line
abbrev pub SmFault : Type 0
SmFault = LineFault SmFaultKind

-- the number and the name of each
abbrev pub fault_entry : SmFaultKind → ℕ × List ℕ
fault_entry NoJobs = (1, codes "NoJobs")
fault_entry NoRenewable = (2, codes "NoRenewable")
fault_entry ManyProjects = (3, codes "ManyProjects")
fault_entry OtherResources = (4, codes "OtherResources")
fault_entry NoPrecedence = (5, codes "NoPrecedence")
fault_entry NoRequests = (6, codes "NoRequests")
fault_entry BadNumber = (7, codes "BadNumber")
fault_entry Limit = (8, codes "Limit")
fault_entry BadRow = (9, codes "BadRow")
fault_entry NotSingleMode = (10, codes "NotSingleMode")
fault_entry BadSuccessor = (11, codes "BadSuccessor")
fault_entry TooFew = (12, codes "TooFew")
fault_entry TooMany = (13, codes "TooMany")
fault_entry Cycle = (14, codes "Cycle")
fault_entry Memory = (15, codes "Memory")

abbrev pub fault_number : SmFaultKind → ℕ
fault_number kind = (fault_entry kind).0

abbrev pub fault_name : SmFaultKind → List ℕ
fault_name kind = (fault_entry kind).1

-- lack of memory is at no line
abbrev pub out_of_memory : SmFault
out_of_memory = fault_at Memory 0
