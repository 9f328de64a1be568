use Rattle.std.proofs.Common.{◌≡◌, ◌+◌, length}
use Rattle.racp_desk.proofs.running.join_all.Given as goal

abbrev pub invariant-loop-handle : goal.invariant-loop-handle
invariant-loop-handle g l = l.stock.share.parts + length l.handles.items ≡ l.initial.stock.share.parts + length l.initial.handles.items

abbrev pub decreases-loop-handle : goal.decreases-loop-handle
decreases-loop-handle g l = length l.handles.items
