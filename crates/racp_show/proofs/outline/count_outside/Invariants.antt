use Rattle.std.proofs.Common.{◌≡◌, ◌+◌, drop, map, nat_lt}
use Rattle.std.specs.List.{prefix_len}
use Rattle.racp_show.specs.Entries.{line_of}
use Rattle.racp_show.specs.Outlines.{depth_of}
use Rattle.racp_show.proofs.outline.count_outside.Given as goal

abbrev pub invariant-loop-place : goal.invariant-loop-place
invariant-loop-place l =
    prefix_len (λ line. nat_lt (depth_of line) l.depth) (map line_of l.begun) ≡ l.place + prefix_len (λ line. nat_lt (depth_of line) l.depth) (drop l.place (map line_of l.begun))
