-- What is written of a table of tasks.
use Rattle.std.specs.Prelude.{ℕ, List, Ok, Err}
use Rattle.racp_model.specs.Project.{Project}
use Rattle.racp_model.specs.Made.{IsMade, IsSameProject}
use Rattle.racp_model.specs.declared.fault.NetFault.{NetFault}
use Rattle.racp_model.specs.declared.fault.NetFault.TheVariants.{Limit, BadJob, Cycle, Memory}
use Rattle.racp_sm.specs.Reading.{IsReading}

-- a text that is read as a network of what a table says
abbrev pub IsNetworkText : Project → List ℕ → Type 0
IsNetworkText said text = (network : Project) × IsSameProject said network × IsReading text (Ok network)

-- why there is no such text; memory may run out at any table
abbrev pub IsTableRefused : Project → NetFault → Type 0
IsTableRefused said Limit = IsMade said (Err Limit)
IsTableRefused said BadJob = IsMade said (Err BadJob)
IsTableRefused said Cycle = IsMade said (Err Cycle)
IsTableRefused said Memory = Unit {0}
