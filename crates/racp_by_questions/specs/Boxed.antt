-- Contracts of private functions: the first capacities that are enough, in a box of vectors.
use Rattle.std.specs.Prelude.{◌≡◌, ℕ, ◌+◌, List, Option, Result, Ok, Err}
use Rattle.racp_model.specs.Terms.{AreTermsOf, IsBefore, release_of, due_of}
use Rattle.racp_model.specs.Plan.{IsLeast, IsEnough}
use Rattle.racp_model.specs.Window.{IsRootWindow}
use Rattle.racp_by_questions.specs.Stops.{IsPlanStop}
use Rattle.racp_by_questions.specs.Stages.{AreSharpFloorsAndRoofs, IsStoppedInBox}
use Rattle.racp_by_questions.specs.declared.stop.PlanStop.{PlanStop}
use Rattle.racp_by_questions.specs.declared.vectors.VectorBox.{VectorBox}

-- the terms of an order for a network, its root window, sharpened floors with the pairs that they refute, and roofs
pub record IsVectorBox (b : VectorBox) : Type 0 where
  pub terms : AreTermsOf b.task.net.now b.task.order.now
  pub root : IsRootWindow b.task.net.now (release_of b.task.order.now) (due_of b.task.order.now) b.task.root.now
  pub sharp : AreSharpFloorsAndRoofs b.task.net.now b.task.order.now b.task.root.now b.sharp b.roofs.now

-- the first capacities of all that are enough, for which one series more was answered; or why they are not known: where an asker
-- stops, which it may, no series was answered
abbrev pub IsCheapest : VectorBox → (before after : ℕ) → (told : Option (List ℕ)) → (may_stop may_want_thread : Type 0) →
    Result (List ℕ) PlanStop → Type 0
IsCheapest b before after told may_stop may_want_thread (Ok capacities) =
    IsLeast (IsBefore b.task.order.now) (IsEnough b.task.net.now b.task.order.now) capacities × (after ≡ before + 1)
IsCheapest b before after told may_stop may_want_thread (Err stop) =
    IsPlanStop (IsStoppedInBox b.task.net.now b.task.order.now b.sharp.floors told) (may_stop × (after ≡ before))
    may_want_thread stop
