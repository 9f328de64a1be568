-- Why no findings are answered.
use Rattle.std.specs.Prelude.{⊤}
use Rattle.racp_by_questions.specs.declared.stop.PlanStop.{PlanStop}
use Rattle.racp_by_questions.specs.declared.stop.PlanStop.TheVariants.{Stopped, Memory, NoThread}

-- memory was refused, or a worker could not be started: a plan that is stopped is a finding
abbrev pub IsFault : PlanStop → Type 0
IsFault (Stopped not_before) = ⊥
IsFault Memory = ⊤
IsFault NoThread = ⊤
