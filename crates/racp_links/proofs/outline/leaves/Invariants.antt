use Rattle.std.proofs.Common.{◌≡◌}
use Rattle.std.specs.Prelude.{filter, not}
use Rattle.std.specs.List.{range_with_len}
use Rattle.racp_links.specs.Phases.{is_phase}
use Rattle.racp_links.proofs.outline.leaves.Given as goal

abbrev pub invariant-loop-place : goal.invariant-loop-place
invariant-loop-place l = l.found.items ≡ filter (λ task. not (is_phase l.parents task)) (range_with_len 1 l.place)
