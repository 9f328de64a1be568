-- The faults of an order text: their numbers and names.
use Rattle.std.specs.Prelude.{ℕ, List, codes}
use Rattle.racp_prices.specs.declared.fault.OrderFault.{OrderFault}
use Rattle.racp_prices.specs.declared.fault.OrderFault.TheVariants.{NotToml, Missing, Unknown, NotWhole, Range, Count, Memory, Version}

-- the number and the name of each
abbrev pub fault_entry : OrderFault → ℕ × List ℕ
fault_entry NotToml = (1, codes "NotToml")
fault_entry Missing = (2, codes "Missing")
fault_entry Unknown = (3, codes "Unknown")
fault_entry NotWhole = (4, codes "NotWhole")
fault_entry Range = (5, codes "Range")
fault_entry Count = (6, codes "Count")
fault_entry Memory = (7, codes "Memory")
fault_entry Version = (8, codes "Version")

abbrev pub fault_number : OrderFault → ℕ
fault_number kind = (fault_entry kind).0

abbrev pub fault_name : OrderFault → List ℕ
fault_name kind = (fault_entry kind).1
