use Rattle.std.proofs.Common.{◌≡◌, ◌≤◌, map}
use Rattle.std.specs.List.{range_with_len}
use Rattle.racp_links.specs.Phases.{leaf_number}
use Rattle.racp_links.proofs.outline.leaf_numbers.Given as goal

abbrev pub invariant-loop-place : goal.invariant-loop-place
invariant-loop-place l = record {
  few : l.count ≤ l.place;
  count : l.count ≡ leaf_number l.parents l.place;
  numbers : l.numbers.items ≡ map (leaf_number l.parents) (range_with_len 1 l.place);
}
