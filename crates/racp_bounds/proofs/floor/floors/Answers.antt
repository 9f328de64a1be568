use Rattle.std.proofs.Common.{◌≡◌, ◌∙◌, ℕ, ◌+◌, ◌++◌, ◌∷◌, [], List, length, slice_index, inl, inr, ap, sym, subst, arith, length-append}
use Rattle.std.proofs.lemmas.Bool.{cases_lt}
use Rattle.std.proofs.lemmas.List.{get_or_append_left, get_or_push}
use Rattle.racp_bounds.specs.Floors.{IsFloor}
use Rattle.racp_bounds.proofs.floor.floors.Goals as goal

pub loop-k-preserved : goal.loop-k-preserved
loop-k-preserved c =
    let old : List ℕ = c.loop-k.units.items in
    let new : List ℕ = c.push.new.self.items in
    let units : ℕ = c.floor.result in
    let same : new ≡ old ++ units ∷ [] = c.in_ok-push.ensures.items in
    let places : length old ≡ c.loop-k.k = c.loop-k.invariant.places in
    let Is : ℕ → ℕ → Type 0 = IsFloor c.args.net.now c.args.root.now c.args.deadline in
    record {
      places = ap length same ∙ (length-append old (units ∷ []) ∙ ap (λ n. n + 1) places);
      each = λ q l. subst (λ (xs : List ℕ). Is q (slice_index xs q)) (sym same) (elim (cases_lt q c.loop-k.k) [
        | inl before ↦ subst (Is q) (sym (get_or_append_left old (units ∷ []) 0 q (omega (arith, before, places)))) (c.loop-k.invariant.each q before)
        | inr after ↦
            let at : c.loop-k.k ≡ q = omega (arith, after, l) in
            subst (λ k. Is k (slice_index (old ++ units ∷ []) k)) at (subst (Is c.loop-k.k) (sym (get_or_push old units 0 c.loop-k.k places)) c.floor.ensures)
      ]);
    }
