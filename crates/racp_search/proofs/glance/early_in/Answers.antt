use Rattle.std.proofs.Common.{◌≡◌, ◌∙◌, ℕ, ◌≤◌, All, List, ap, arith, length, slice_index, subst, sym}
use Rattle.std.proofs.lemmas.List.{take-append-le, take_all}
use Rattle.racp_model.specs.Limits.{most_bound}
use Rattle.racp_model.specs.Path.{IsEarly}
use Rattle.racp_search.proofs.glance.early_in.Goals as goal

pub settle_early-requires-clause-places : goal.settle_early-requires-clause-places
settle_early-requires-clause-places c = ap (λ (xs : List ℕ). length xs) (c.deref_mut.ensures.value ∙ c.in_ok-starts.ensures) ∙ c.requires.places

pub settle_early-requires-clause-small : goal.settle_early-requires-clause-small
settle_early-requires-clause-small c = subst (λ (xs : List ℕ). All (λ x. x ≤ most_bound) xs) (sym (c.deref_mut.ensures.value ∙ c.in_ok-starts.ensures)) c.requires.small

pub returns : goal.returns
returns c =
    let net = c.args.net.now in
    let new : List ℕ = c.settle_early.new.starts in
    let n : ℕ = c.in_ok-starts.starts.len in
    let long : n ≡ length new = omega (arith, c.in_ok-starts.starts.ok.0, ap (λ (xs : List ℕ). length xs) c.in_ok-starts.ensures, c.requires.places, c.settle_early.ensures.places) in
    let is : c.new.result ≡ new = c.new.ensures ∙ (take-append-le n new _ (omega (arith, long)) ∙ take_all n new (omega (arith, long))) in
    subst (λ (starts : List ℕ). IsEarly net (slice_index c.args.lower.now) starts) (sym is)
    (subst (λ (xs : List ℕ). IsEarly net (slice_index xs) new) (c.deref_mut.ensures.value ∙ c.in_ok-starts.ensures) c.settle_early.ensures)
