use Rattle.std.proofs.Common.{length}
use Rattle.racp_core.proofs.Places.{IsCutting}
use Rattle.racp_core.proofs.undecided.Undecided.cut_at.Given as goal

abbrev pub invariant-loop-last : goal.invariant-loop-last
invariant-loop-last l = IsCutting l.initial.self-inside.places.keys l.end l.self-inside.places.keys

abbrev pub decreases-loop-last : goal.decreases-loop-last
decreases-loop-last l = length l.self-inside.places.keys
