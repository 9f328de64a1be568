-- Questions of the form that a network has: a capacity for each resource, and bounds for each job.
use Rattle.std.specs.Prelude.{◌≡◌, List, length, Contains}
use Rattle.racp_model.specs.Project.{Project}
use Rattle.racp_model.specs.Window.{Bounds}
use Rattle.racp_model.specs.declared.question.Question.{Question}

-- a window has a lower and an upper bound for each job
pub record HasBounds (p : Project) (window : Bounds) : Type 0 where
  pub lower : length window.lower ≡ length p.jobs
  pub upper : length window.upper ≡ length p.jobs

-- a question has a capacity for each resource, and its window has bounds for each job
pub record IsFormed (p : Project) (question : Question) : Type 0 where
  pub capacities : length question.capacities ≡ p.resources
  pub bounds : HasBounds p question.window

-- each question of a list has
abbrev pub AreFormed : Project → List Question → Type 0
AreFormed p questions = (question : Question) → Contains questions question → IsFormed p question
