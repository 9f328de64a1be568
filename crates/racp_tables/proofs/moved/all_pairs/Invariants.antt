use Rattle.std.proofs.Common.{◌≡◌, ◌++◌, drop}
use Rattle.racp_tables.specs.Joined.{all_tasks, pairs_from}
use Rattle.racp_tables.proofs.moved.all_pairs.Given as goal

abbrev pub invariant-loop-i : goal.invariant-loop-i
invariant-loop-i l = l.pairs.items ++ pairs_from l.before l.behind (drop l.i l.parts) ≡ pairs_from 0 (all_tasks l.parts) l.parts
