-- What is told by what is found of the plan of an order.
use Rattle.std.specs.Prelude.{⊤}
use Rattle.racp_model.specs.Project.{Project}
use Rattle.racp_model.specs.Terms.{Terms}
use Rattle.racp_model.specs.Plan.{IsPlan, NoneIsEnough}
use Rattle.racp_found.specs.declared.found.Found.{Found}
use Rattle.racp_found.specs.declared.found.Found.TheVariants.{Plan, NoneEnough, Open}

-- the plan; that no capacities are enough; or neither, which tells nothing
abbrev pub IsFound : Project → Terms → Found → Type 0
IsFound p terms (Plan capacities starts) = IsPlan p terms capacities starts
IsFound p terms NoneEnough = NoneIsEnough p terms
IsFound p terms Open = ⊤

-- the plan, or that no capacities are enough
abbrev pub IsDecided : Project → Terms → Found → Type 0
IsDecided p terms (Plan capacities starts) = IsPlan p terms capacities starts
IsDecided p terms NoneEnough = NoneIsEnough p terms
IsDecided p terms Open = ⊥
