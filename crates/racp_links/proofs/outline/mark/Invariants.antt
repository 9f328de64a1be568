use Rattle.std.proofs.Common.{◌≡◌, ℕ, ◌<◌, false, length, get_or, take}
use Rattle.std.specs.Prelude.{◌==◌}
use Rattle.std.specs.List.{list_any}
use Rattle.racp_model.specs.Project.{number}
use Rattle.racp_links.proofs.outline.mark.Given as goal

abbrev pub invariant-loop-parent : goal.invariant-loop-parent
invariant-loop-parent l = record {
  places : length l.marks ≡ length l.parents;
  each : (k : ℕ) → k < length l.parents → get_or l.marks k false ≡ list_any (λ parent. parent == number k) (take l.parent-index l.parents);
}
