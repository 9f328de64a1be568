use Rattle.std.proofs.Common.{List, ℕ, ◌<◌, length, subst}
use Rattle.racp_core.specs.Rows.{IsCutAt}
use Rattle.racp_core.proofs.Places.{cut_popped, cut_done, cut_all, empty_from}
use Rattle.racp_core.proofs.undecided.Undecided.cut_at.Goals as goal

pub returns-then-last-end : goal.returns-then-last-end
returns-then-last-end c =
    subst (λ (old : List ℕ). IsCutAt old c.args.end c.loop-last.self-inside.places.keys) c.self.view_is
    (cut_done c.self.inside.places.keys c.args.end c.in-Some.field-0.now c.loop-last.self-inside.places c.loop-last.invariant c.in-Some.ensures.greatest c.if-last-end.true)

pub loop-last-preserved : goal.loop-last-preserved
loop-last-preserved c =
    cut_popped c.self.inside.places.keys c.args.end c.in-Some.field-0.now c.loop-last.self-inside.places c.pop_last.new.self c.pop_last.result c.loop-last.invariant c.pop_last.ensures.variant c.pop_last.ensures.removal c.pop_last.ensures.greatest c.in-Some.ensures.member c.if-last-end.false

pub returns : goal.returns
returns c =
    let none : 0 < length c.loop-last.self-inside.places.keys → ⊥ = λ l. (let e = c.in_default.ensures.variant.1 l in absurd (cc e)) in
    subst (λ (old : List ℕ). IsCutAt old c.args.end c.loop-last.self-inside.places.keys) c.self.view_is
    (cut_all c.self.inside.places.keys c.loop-last.self-inside.places.keys c.args.end c.loop-last.invariant (empty_from c.loop-last.self-inside.places.keys none))
