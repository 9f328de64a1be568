use Rattle.std.proofs.Common.{ℕ, ◌+◌, ◌≤◌, slice_index, arith, refl}
use Rattle.racp_model.specs.Project.{duration}
use Rattle.racp_model.proofs.lemmas.Arcs.{each_by_arcs}
use Rattle.racp_model.proofs.fitting.keeps_precedence.Goals as goal

pub returns-then-starts-j : goal.returns-then-starts-j
returns-then-starts-j c = ((λ e. cc), λ keeps. absurd (omega (arith, keeps _ _ (c.topological_arcs-i-items.ensures.order.sound c.loop-i.i-index (omega arith)))))

pub returns : goal.returns
returns c = (
  (λ _. each_by_arcs c.args.net.now c.topological_arcs-i-items.result.now (λ (i j : ℕ). slice_index c.args.starts.now i + duration c.args.net.now i ≤ slice_index c.args.starts.now j) c.topological_arcs-i-items.ensures.order
      (λ q l. c.loop-i.invariant q (omega arith))),
  λ _. refl,
)
