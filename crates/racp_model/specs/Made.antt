-- What making a network of jobs and pairs answers.
use Rattle.std.specs.Prelude.{◌≡◌, ◌↔◌, ℕ, length, Result, Ok, Err, Contains}
use Rattle.racp_model.specs.Project.{Project, IsWithinLimits, AreNumbers, IsAcyclic, IsSound}
use Rattle.racp_model.specs.Path.{HasRing}
use Rattle.racp_model.specs.declared.fault.NetFault.{NetFault}
use Rattle.racp_model.specs.declared.fault.NetFault.TheVariants.{Limit, BadJob, Cycle, Memory}

-- the same resources, jobs and relation; of the pairs, order and repetition do not matter
pub record IsSameProject (given made : Project) : Type 0 where
  pub resources : made.resources ≡ given.resources
  pub jobs : made.jobs ≡ given.jobs
  pub arcs : (arc : ℕ × ℕ) → Contains made.arcs arc ↔ Contains given.arcs arc

-- a network of what was given, or the first fault: a limit, a pair that names no job, a ring, and only if there is
-- none of these, lack of memory
abbrev pub IsMade : Project → Result Project NetFault → Type 0
IsMade given (Ok made) = IsSameProject given made × IsSound made
IsMade given (Err Limit) = IsWithinLimits given.resources given.jobs → ⊥
IsMade given (Err BadJob) = IsWithinLimits given.resources given.jobs × (AreNumbers (length given.jobs) given.arcs → ⊥)
IsMade given (Err Cycle) = IsWithinLimits given.resources given.jobs × AreNumbers (length given.jobs) given.arcs ×
    HasRing given
IsMade given (Err Memory) = IsWithinLimits given.resources given.jobs × AreNumbers (length given.jobs) given.arcs ×
    IsAcyclic given
