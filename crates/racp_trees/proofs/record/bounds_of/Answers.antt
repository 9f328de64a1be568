use Rattle.std.proofs.Common.{◌≡◌, ◌∙◌, ◌+◌, ◌<◌, ◌≤◌, ◌∷◌, [], ℕ, List, length, length-append, slice_index, arith, ap, subst}
use Rattle.racp_model.specs.Project.{duration}
use Rattle.racp_model.proofs.lemmas.Lists.{each-push}
use Rattle.racp_model.proofs.lemmas.Sums.{duration-small}
use Rattle.racp_trees.specs.Records.{AreBounds}
use Rattle.racp_trees.proofs.record.bounds_of.Goals.{then-started, else-started}
use Rattle.racp_trees.proofs.record.bounds_of.Goals as goal

pub overflow_add-early : goal.overflow_add-early
overflow_add-early c =
    omega (arith, c.requires.small c.loop-i.i (omega arith), c.duration.ensures, duration-small c.args.net.now c.loop-i.i c.job_count.ensures.sound (omega arith))

pub loop-i-preserved : goal.loop-i-preserved
loop-i-preserved c =
    let net = c.args.net.now in
    let early : ℕ → ℕ = slice_index c.args.early.now in
    let lower : ℕ → ℕ = slice_index c.args.lower.now in
    let i = c.loop-i.i in
    let old = c.loop-i.bounds.items in
    let new = c.push.new.self.items in
    let Ended : ℕ → ℕ → Type 0 = λ j bound. early j < c.args.time → bound ≡ early j + duration net j in
    let Bound : ℕ → ℕ → Type 0 = λ j bound. c.args.time ≤ early j → bound ≡ lower j in
    let ended : Ended i c.if-started.push = elim c.if-started.branch [
      | then-started w ↦ λ _. omega (arith, w.push-is, w.duration.ensures)
      | else-started w ↦ λ started. absurd (omega (arith, started, w.if-started.false))
    ] in
    let bound : Bound i c.if-started.push = elim c.if-started.branch [
      | then-started w ↦ λ later. absurd (omega (arith, later, w.if-started.true))
      | else-started w ↦ λ _. w.push-is
    ] in
    record {
      places = ap (λ (xs : List ℕ). length xs) c.in_ok-push.ensures.items ∙ length-append old (c.if-started.push ∷ []) ∙ omega (arith, c.loop-i.invariant.places);
      ended = each-push Ended old new c.if-started.push i c.loop-i.invariant.places c.in_ok-push.ensures.items c.loop-i.invariant.ended ended;
      bound = each-push Bound old new c.if-started.push i c.loop-i.invariant.places c.in_ok-push.ensures.items c.loop-i.invariant.bound bound;
    }

pub returns-clause-bounds : goal.returns-clause-bounds
returns-clause-bounds c =
    let all : c.loop-i.i ≡ length c.args.net.now.jobs = omega arith in
    subst (λ (n : ℕ). AreBounds c.args.net.now c.args.lower.now c.args.early.now c.args.time n c.loop-i.bounds.items) all c.loop-i.invariant
