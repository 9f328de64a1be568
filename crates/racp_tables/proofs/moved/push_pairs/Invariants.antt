use Rattle.std.proofs.Common.{◌≡◌, ◌++◌, drop, map}
use Rattle.racp_tables.specs.Joined.{moved_pair}
use Rattle.racp_tables.proofs.moved.push_pairs.Given as goal

abbrev pub invariant-loop-i : goal.invariant-loop-i
invariant-loop-i l = l.pairs.items ++ map (moved_pair l.shift.tasks l.shift.before l.shift.behind) (drop l.i l.more) ≡ l.initial.pairs.items ++ map (moved_pair l.shift.tasks l.shift.before l.shift.behind) l.more
