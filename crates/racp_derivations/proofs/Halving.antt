-- The place of a pair among pairs in rising order, by halving.
use Rattle.std.proofs.Common.{◌≡◌, sym, ◌∙◌, ap, subst, ℕ, ◌+◌, ◌<◌, ◌≤◌, inl, inr, true, false, List, length, arith}
use Rattle.std.specs.Prelude.{AllPairs, Some, None, slice_index_or, ◌&&◌}
use Rattle.std.specs.List.{position_or_len}
use Rattle.std.proofs.lemmas.Bool.{cases_lt, cond-true, cond-false, lt-ltb, le-ltb, eq-eqb}
use Rattle.std.proofs.lemmas.List.Sums.{position_or_len_is}
use Rattle.racp_model.specs.Project.{Project, IsArcBefore, number}
use Rattle.racp_derivations.specs.Lines.{is_pair, pair_at}
use Rattle.racp_derivations.specs.Pairs.{IsPlaceIn, HasPairAt}

before-trans : (a b c : ℕ × ℕ) → IsArcBefore a b → IsArcBefore b c → IsArcBefore a c
before-trans a b c (inl h) (inl k) = inl (omega (arith, h, k))
before-trans a b c (inl h) (inr k) = inl (omega (arith, h, k.0))
before-trans a b c (inr h) (inl k) = inl (omega (arith, h.0, k))
before-trans a b c (inr h) (inr k) = inr (omega (arith, h.0, k.0), omega (arith, h.1, k.1))

not-itself : (a b : ℕ × ℕ) → a.0 ≡ b.0 → a.1 ≡ b.1 → IsArcBefore a b → ⊥
not-itself a b e f (inl h) = omega (arith, e, h)
not-itself a b e f (inr h) = omega (arith, f, h.1)

pub place-first : (arcs : List (ℕ × ℕ)) (wanted : ℕ × ℕ) (n : ℕ) → n ≡ length arcs → IsPlaceIn arcs wanted 0 n
place-first arcs wanted n e = record {
  order = omega arith;
  within = omega (arith, e);
  below = λ k l. absurd (omega (arith, l));
  above = λ k h l b. absurd (omega (arith, h, l, e));
}

module _ (arcs : List (ℕ × ℕ)) (wanted : ℕ × ℕ) (rising : AllPairs IsArcBefore arcs) (low high middle : ℕ) (is : IsPlaceIn arcs wanted low high) (from : low ≤ middle) (until : middle < high) where
  pub place-up : IsArcBefore (slice_index_or arcs middle wanted) wanted → IsPlaceIn arcs wanted (middle + 1) high
  place-up before = record {
    order = omega (arith, until);
    within = is.within;
    below = λ k l. elim (cases_lt k middle) [
      | inl less ↦ before-trans (slice_index_or arcs k wanted) (slice_index_or arcs middle wanted) wanted (rising k middle wanted less (omega (arith, until, is.within))) before
      | inr here ↦
          let same : k ≡ middle = omega (arith, l, here) in
          subst (λ n. IsArcBefore (slice_index_or arcs n wanted) wanted) (sym same) before
    ];
    above = is.above;
  }

  pub place-down : (IsArcBefore (slice_index_or arcs middle wanted) wanted → ⊥) → IsPlaceIn arcs wanted low middle
  place-down after = record {
    order = from;
    within = omega (arith, until, is.within);
    below = is.below;
    above = λ k h l before. elim (cases_lt middle k) [
      | inl less ↦ after (before-trans (slice_index_or arcs middle wanted) (slice_index_or arcs k wanted) wanted (rising middle k wanted less l) before)
      | inr here ↦
          let same : k ≡ middle = omega (arith, h, here) in
          after (subst (λ n. IsArcBefore (slice_index_or arcs n wanted) wanted) same before)
    ];
  }

pub place-end : (arcs : List (ℕ × ℕ)) (wanted : ℕ × ℕ) (low high : ℕ) → IsPlaceIn arcs wanted low high → high ≤ low → IsPlaceIn arcs wanted low low
place-end arcs wanted low high is over = subst (λ n. IsPlaceIn arcs wanted low n) (omega (arith, over, is.order)) is

-- the pair of two places
module _ (p : Project) (i j at : ℕ) (is : IsPlaceIn p.arcs (number i, number j) at at) where
  abbrev wanted : ℕ × ℕ
  wanted = (number i, number j)

  other : (k : ℕ) → ((slice_index_or p.arcs k wanted).0 ≡ number i → (slice_index_or p.arcs k wanted).1 ≡ number j → ⊥) → is_pair i j (slice_index_or p.arcs k wanted) ≡ false
  other k none = grind (arith, none)

  earlier : (k : ℕ) → k < at → is_pair i j (slice_index_or p.arcs k wanted) ≡ false
  earlier k l = other k (λ e f. not-itself (slice_index_or p.arcs k wanted) wanted e f (is.below k l))

  pub pair-found : HasPairAt p.arcs at wanted → Some at ≡ pair_at p i j
  pair-found h =
      let x : ℕ × ℕ = slice_index_or p.arcs at wanted in
      let hit : is_pair i j x ≡ true = λ t. eq-eqb x.0 (number i) h.first t && eq-eqb x.1 (number j) h.second t in
      let first : position_or_len (is_pair i j) p.arcs ≡ at = position_or_len_is (is_pair i j) p.arcs at wanted (omega (arith, h.place)) earlier (λ m. hit) in
      sym (cond-true _ (Some (position_or_len (is_pair i j) p.arcs)) None (lt-ltb (position_or_len (is_pair i j) p.arcs) (length p.arcs) (omega (arith, first, h.place))) ∙ ap Some first)

  module _ (rising : AllPairs IsArcBefore p.arcs) where
    same-pair : (x : ℕ × ℕ) → x.0 ≡ number i → x.1 ≡ number j → x ≡ wanted
    same-pair x e f = λ t. (e t, f t)

    later : (k : ℕ) → at < k → k < length p.arcs → is_pair i j (slice_index_or p.arcs k wanted) ≡ false
    later k m l =
        let before : IsArcBefore (slice_index_or p.arcs at wanted) (slice_index_or p.arcs k wanted) = rising at k wanted m l in
        other k (λ e f. is.above at (omega arith) (omega (arith, m, l)) (subst (λ (a : ℕ × ℕ). IsArcBefore (slice_index_or p.arcs at wanted) a) (same-pair (slice_index_or p.arcs k wanted) e f) before))

    pub pair-missing : (HasPairAt p.arcs at wanted → ⊥) → None ≡ pair_at p i j
    pair-missing none =
        let each : (k : ℕ) → k < length p.arcs → is_pair i j (slice_index_or p.arcs k wanted) ≡ false =
        λ k l. elim (cases_lt k at) [
          | inl less ↦ earlier k less
          | inr from ↦ elim (cases_lt at k) [
            | inl more ↦ later k more l
            | inr here ↦
                let same : k ≡ at = omega (arith, from, here) in
                other k (λ e f. none (record { place = omega (arith, same, l); first = subst (λ n. (slice_index_or p.arcs n wanted).0 ≡ number i) same e; second = subst (λ n. (slice_index_or p.arcs n wanted).1 ≡ number j) same f }))
          ]
        ] in
        let all : position_or_len (is_pair i j) p.arcs ≡ length p.arcs =
        position_or_len_is (is_pair i j) p.arcs (length p.arcs) wanted (omega arith) each (λ l. absurd (omega (arith, l))) in
        sym (cond-false _ (Some (position_or_len (is_pair i j) p.arcs)) None (le-ltb (position_or_len (is_pair i j) p.arcs) (length p.arcs) (omega (arith, all))))
