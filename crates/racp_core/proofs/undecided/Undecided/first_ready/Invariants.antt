use Rattle.racp_core.proofs.Places.{IsLookingOn}
use Rattle.racp_core.proofs.undecided.Undecided.first_ready.Given as goal

abbrev pub invariant-loop-place : goal.invariant-loop-place
invariant-loop-place l =
    (goal.iterator-loop-place).can_next l.place-iterator × (goal.iterator-loop-place).is_finite l.place-iterator × IsLookingOn l.rows l.self l.place-iterator
