-- What is still to come after some vectors: the vectors between floors and roofs that one of them stands at or before.
use Rattle.std.proofs.Common.{◌≡◌, ◌⊎◌, ℕ, true, List, length, inl, inr, refl, sym, ◌∙◌, ap, subst, Contains, AllPairs}
use Rattle.std.specs.declared.cmp.Ordering.{Ordering}
use Rattle.std.specs.declared.cmp.Ordering.TheVariants.{Less, Equal, Greater}
use Rattle.std.specs.Ordering.{is_le, ordering_reverse}
use Rattle.std.proofs.lemmas.List.Kept.{AllPairs-filter}
use Rattle.racp_model.specs.Terms.{Terms, vector_cmp, IsBefore}
use Rattle.racp_model.proofs.lemmas.Orders.{vector_total, vector_same}
use Rattle.racp_candidates.specs.Box.{IsBetween}
use Rattle.racp_candidates.specs.Vectors.{is_reached, to_come, all_between, in_order}
use Rattle.racp_questions.proofs.lemmas.Members.{filter_from, filter_to}
use Rattle.racp_candidates.proofs.Members.{any_from, any_to}
use Rattle.racp_candidates.proofs.InOrder.{IsInOrder, in_order_is}
use Rattle.racp_candidates.proofs.Between.{listed_from, listed_to}

module _ (terms : Terms) where
  -- a vector stands at another or before it
  abbrev pub IsNoLater : List ℕ → List ℕ → Type 0
  IsNoLater a b = (a ≡ b) ⊎ IsBefore terms a b

  pub no_later_from : (a b : List ℕ) → is_le (vector_cmp terms a b) ≡ true → IsNoLater a b
  no_later_from a b e = go (vector_cmp terms a b) refl e
    where
      go : (o : Ordering) → vector_cmp terms a b ≡ o → is_le o ≡ true → IsNoLater a b
      go Less same t = inr same
      go Equal same t = inl (vector_same terms a b same)
      go Greater same t = cc

  -- nothing is compared with itself as greater or less
  pub compared_itself : (a : List ℕ) → vector_cmp terms a a ≡ Equal
  compared_itself a = go (vector_cmp terms a a) refl
    where
      go : (o : Ordering) → vector_cmp terms a a ≡ o → vector_cmp terms a a ≡ Equal
      go Less e = let back : vector_cmp terms a a ≡ Greater = (vector_total terms).antisymm a a ∙ ap ordering_reverse e in let clash : Less ≡ Greater = sym e ∙ back in cc
      go Equal e = e
      go Greater e = let back : vector_cmp terms a a ≡ Less = (vector_total terms).antisymm a a ∙ ap ordering_reverse e in let clash : Greater ≡ Less = sym e ∙ back in cc

  pub no_later_to : (a b : List ℕ) → IsNoLater a b → is_le (vector_cmp terms a b) ≡ true
  no_later_to a b (inl same) = let P : List ℕ → Type 0 = λ v. is_le (vector_cmp terms a v) ≡ true in subst P same (ap is_le (compared_itself a))
  no_later_to a b (inr before) = ap is_le before

  pub reached_from : (vectors : List (List ℕ)) (v : List ℕ) → is_reached terms vectors v ≡ true → (one : List ℕ) × Contains vectors one × IsNoLater one v
  unfolding is_reached
  reached_from vectors v e =
      let m = any_from (λ one. is_le (vector_cmp terms one v)) vectors e in
      (m.0, m.1, no_later_from m.0 v m.2)

  pub reached_to : (vectors : List (List ℕ)) (v one : List ℕ) → Contains vectors one → IsNoLater one v → is_reached terms vectors v ≡ true
  unfolding is_reached
  reached_to vectors v one c h = any_to (λ one. is_le (vector_cmp terms one v)) vectors one c (no_later_to one v h)

  module _ (floors roofs : List ℕ) (same : length roofs ≡ length floors) where
    pub come_rising : (vectors : List (List ℕ)) → AllPairs (IsBefore terms) (to_come terms floors roofs vectors)
    unfolding to_come
    come_rising vectors =
        let whole : IsInOrder terms (all_between floors roofs) (in_order terms (all_between floors roofs)) = in_order_is terms (all_between floors roofs) in
        AllPairs-filter (IsBefore terms) (is_reached terms vectors) (in_order terms (all_between floors roofs)) whole.rising

    pub come_from : (vectors : List (List ℕ)) (v : List ℕ) → Contains (to_come terms floors roofs vectors) v → IsBetween floors roofs v × (is_reached terms vectors v ≡ true)
    unfolding to_come
    come_from vectors v c =
        let whole : IsInOrder terms (all_between floors roofs) (in_order terms (all_between floors roofs)) = in_order_is terms (all_between floors roofs) in
        let m = filter_from (is_reached terms vectors) (in_order terms (all_between floors roofs)) v c in
        (listed_from floors roofs v same ((whole.same v).0 m.0), m.1)

    pub come_to : (vectors : List (List ℕ)) (v : List ℕ) → IsBetween floors roofs v → is_reached terms vectors v ≡ true → Contains (to_come terms floors roofs vectors) v
    unfolding to_come
    come_to vectors v h reached =
        let whole : IsInOrder terms (all_between floors roofs) (in_order terms (all_between floors roofs)) = in_order_is terms (all_between floors roofs) in
        filter_to (is_reached terms vectors) (in_order terms (all_between floors roofs)) v ((whole.same v).1 (listed_to floors roofs v same h)) reached
