-- The faults of a text, and their numbers and names.
use Rattle.std.specs.Prelude.{ℕ, List, codes}
use Rattle.racp_text.specs.Faults.{fault_at}
use Rattle.racp_text.specs.declared.fault.LineFault.{LineFault}
use Rattle.racp_plan.specs.declared.text_fault.TextFaultKind.{TextFaultKind}
use Rattle.racp_plan.specs.declared.text_fault.TextFaultKind.TheVariants.{Syntax, Range, Memory}

-- the fault of a text: its kind, and the line
abbrev pub TextFault : Type 0
TextFault = LineFault TextFaultKind

-- the number and the name of each
abbrev pub fault_entry : TextFaultKind → ℕ × List ℕ
fault_entry Syntax = (1, codes "Syntax")
fault_entry Range = (2, codes "Range")
fault_entry Memory = (3, codes "Memory")

abbrev pub fault_number : TextFaultKind → ℕ
fault_number kind = (fault_entry kind).0

abbrev pub fault_name : TextFaultKind → List ℕ
fault_name kind = (fault_entry kind).1

-- lack of memory is at no line
abbrev pub out_of_memory : TextFault
out_of_memory = fault_at Memory 0
