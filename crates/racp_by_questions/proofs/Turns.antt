-- How many pieces runs of desks took.
use Rattle.std.proofs.Common.{◌≡◌, ℕ, ◌+◌, Bool, List, ◌∷◌, refl}
use Rattle.std.proofs.Math.Logic.{∥∥₁_map}
use Rattle.racp_model.specs.Project.{Project}
use Rattle.racp_model.specs.declared.question.Question.{Question}
use Rattle.racp_desk.specs.declared.closed.Closed.{Closed}
use Rattle.racp_desk.specs.Closing.{IsRunClosed}
use Rattle.racp_by_questions.specs.Crowds.{TookIn, HaveTaken}

-- one run more
pub one_more : (p : Project) (quiet : Bool) (pieces : ℕ) (questions : List Question) (turns : ℕ) (closed : Closed) → HaveTaken p quiet pieces → IsRunClosed p questions turns quiet closed →
    HaveTaken p quiet (pieces + closed.pieces)
one_more p quiet pieces questions turns closed taken h = ∥∥₁_map taken (λ (x : (runs : List Closed) × TookIn p quiet runs pieces). (closed ∷ x.0, (questions, turns, pieces, h, x.1, refl)))
