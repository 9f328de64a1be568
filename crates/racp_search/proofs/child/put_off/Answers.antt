use Rattle.std.proofs.Common.{◌≡◌, ◌∙◌, ◌≤◌, ℕ, List, All, arith, ap, length, sym, subst}
use Rattle.std.proofs.Math.Seq.{take_at}
use Rattle.racp_model.specs.Project.{IsNumber}
use Rattle.racp_model.specs.Limits.{most_bound, most_start}
use Rattle.racp_model.specs.Window.{Bounds}
use Rattle.racp_search.specs.Children.{IsRaised, IsPutOff}
use Rattle.racp_search.proofs.Raising.{raised-small}
use Rattle.racp_search.proofs.child.put_off.Goals as goal

pub raise-requires : goal.raise-requires
raise-requires c = subst (λ (xs : List ℕ). All (IsNumber (length xs)) c.args.gone.now) (sym (c.deref_mut.ensures.value ∙ (c.in_ok-lower.ensures ∙ c.lower.ensures.bounds))) c.requires.gone

pub new-requires-3-clause-upper : goal.new-requires-3-clause-upper
new-requires-3-clause-upper c = subst (λ (xs : List ℕ). All (λ x. x ≤ most_start) xs) (sym (c.new-2.ensures ∙ (c.in_ok-upper.ensures ∙ c.upper.ensures.bounds))) c.upper.ensures.small

pub returns : goal.returns
returns c =
    let lower : c.new.result ≡ c.raise.new.times = c.new.ensures ∙ take_at c.raise.new.times _ c.in_ok-lower.lower.len (omega (arith, c.raise.ensures.places, ap (λ (xs : List ℕ). length xs) c.deref_mut.ensures.value, c.in_ok-lower.lower.ok)) in
    let old : c.deref_mut.result.now ≡ c.args.window.now.lower = c.deref_mut.ensures.value ∙ (c.in_ok-lower.ensures ∙ c.lower.ensures.bounds) in
    let is : IsPutOff c.args.window.now c.args.gone.now c.args.end (record { lower = c.new.result; upper = c.new-2.result }) = record {
      lower = subst (λ (xs : List ℕ). IsRaised c.args.window.now.lower c.args.gone.now c.args.end xs) (sym lower) (subst (λ (xs : List ℕ). IsRaised xs c.args.gone.now c.args.end c.raise.new.times) old c.raise.ensures);
      upper = c.new-2.ensures ∙ (c.in_ok-upper.ensures ∙ c.upper.ensures.bounds);
    } in
    subst (λ (w : Bounds). IsPutOff c.args.window.now c.args.gone.now c.args.end w) (sym c.new-3.ensures) is

pub new-requires-3-clause-lower : goal.new-requires-3-clause-lower
new-requires-3-clause-lower c =
    let lower : c.new.result ≡ c.raise.new.times = c.new.ensures ∙ take_at c.raise.new.times _ c.in_ok-lower.lower.len (omega (arith, c.raise.ensures.places, ap (λ (xs : List ℕ). length xs) c.deref_mut.ensures.value, c.in_ok-lower.lower.ok)) in
    let old : c.deref_mut.result.now ≡ c.args.window.now.lower = c.deref_mut.ensures.value ∙ (c.in_ok-lower.ensures ∙ c.lower.ensures.bounds) in
    subst (λ (xs : List ℕ). All (λ x. x ≤ most_bound) xs) (sym lower)
    (raised-small c.args.window.now.lower c.args.gone.now c.raise.new.times c.args.end most_bound (subst (λ (xs : List ℕ). IsRaised xs c.args.gone.now c.args.end c.raise.new.times) old c.raise.ensures) c.requires.end c.lower.ensures.small)
