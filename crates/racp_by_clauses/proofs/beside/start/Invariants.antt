use Rattle.std.proofs.Common.{◌≡◌, ◌+◌, ◌≤◌, length, vec_capacity}
use Rattle.racp_by_clauses.proofs.beside.start.Given as goal

abbrev pub invariant-loop-seat : goal.invariant-loop-seat
invariant-loop-seat g l = record { handles : length l.handles.items + 1 ≡ l.seat; room : l.workers ≤ vec_capacity l.handles }
