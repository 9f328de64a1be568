use Rattle.std.proofs.Common.{◌≡◌, ◌+◌, length}
use Rattle.racp_trees.proofs.Spelling.{IsReading}
use Rattle.racp_trees.proofs.reading.read_vector.Given as goal

abbrev pub invariant-loop : goal.invariant-loop
invariant-loop l = IsReading l.count l.text l.vector.items l.rest × (length l.vector.items + 1 ≡ l.counter)
