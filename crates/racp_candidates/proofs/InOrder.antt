-- Vectors put in order: the same vectors, each once, each standing before those after it.
use Rattle.std.proofs.Common.{◌≡◌, ◌⊎◌, ℕ, List, [], ◌∷◌, inl, inr, arith, refl, sym, ◌∙◌, ap, subst, Contains, AllPairs, All}
use Rattle.std.specs.Prelude.{◌↔◌}
use Rattle.std.specs.declared.cmp.Ordering.{Ordering}
use Rattle.std.specs.declared.cmp.Ordering.TheVariants.{Less, Equal, Greater}
use Rattle.std.specs.Ordering.{ordering_reverse}
use Rattle.std.proofs.lemmas.List.Elements.{All-nil, All-cons}
use Rattle.std.proofs.lemmas.List.Kept.{AllPairs-cons}
use Rattle.racp_model.specs.Terms.{Terms, vector_cmp, IsBefore}
use Rattle.racp_model.proofs.lemmas.Orders.{vector_total, vector_same}
use Rattle.racp_model.proofs.lemmas.Costs.{before_trans}
use Rattle.racp_model.proofs.lemmas.Relations.{member_cases, member_later, member_first, member_after, rising_tail, all_members}
use Rattle.racp_candidates.specs.Vectors.{put_by, put_in, in_order}

module _ (terms : Terms) where
  -- a vector put among vectors in order
  pub record IsPut (vector : List ℕ) (old new : List (List ℕ)) : Type 0 where
    pub rising : AllPairs (IsBefore terms) new
    pub same : (z : List ℕ) → Contains new z ↔ ((vector ≡ z) ⊎ Contains old z)

  pub put_first : (vector : List ℕ) (old : List (List ℕ)) → All (IsBefore terms vector) old → AllPairs (IsBefore terms) old → IsPut vector old (vector ∷ old)
  put_first vector old before rising = record {
    rising = AllPairs-cons (IsBefore terms) vector old before rising;
    same = λ z. (member_cases vector old z, λ s. elim s [ inl e ↦ member_first vector old z e | inr c ↦ member_later vector old z c ]);
  }

  pub put_before : (vector first : List ℕ) (rest : List (List ℕ)) → IsBefore terms vector first → AllPairs (IsBefore terms) (first ∷ rest) → IsPut vector (first ∷ rest) (vector ∷ (first ∷ rest))
  put_before vector first rest before rising =
      let later : All (IsBefore terms vector) rest = all_members (IsBefore terms vector) rest (λ z c. before_trans terms vector first z before (member_after (IsBefore terms) first rest z rising c)) in
      put_first vector (first ∷ rest) (All-cons (IsBefore terms vector) first rest before later) rising

  pub put_itself : (vector first : List ℕ) (rest : List (List ℕ)) → vector ≡ first → AllPairs (IsBefore terms) (first ∷ rest) → IsPut vector (first ∷ rest) (first ∷ rest)
  put_itself vector first rest e rising = record {
    rising = rising;
    same = λ z. (λ c. inr c, λ s. elim s [ inl i ↦ member_first first rest z (sym e ∙ i) | inr c ↦ c ]);
  }

  pub put_later : (vector first : List ℕ) (rest more : List (List ℕ)) → IsBefore terms first vector → AllPairs (IsBefore terms) (first ∷ rest) → IsPut vector rest more → IsPut vector (first ∷ rest) (first ∷ more)
  put_later vector first rest more after rising h = record {
    rising = AllPairs-cons (IsBefore terms) first more (all_members (IsBefore terms first) more (λ z c. below z ((h.same z).0 c))) h.rising;
    same = λ z. (λ c. into z (member_cases first more z c), λ s. back z s);
  }
    where
      below : (z : List ℕ) → (vector ≡ z) ⊎ Contains rest z → IsBefore terms first z
      below z (inl e) = subst (IsBefore terms first) e after
      below z (inr c) = member_after (IsBefore terms) first rest z rising c

      into : (z : List ℕ) → (first ≡ z) ⊎ Contains more z → (vector ≡ z) ⊎ Contains (first ∷ rest) z
      into z (inl e) = inr (member_first first rest z e)
      into z (inr c) = elim ((h.same z).0 c) [ inl e ↦ inl e | inr m ↦ inr (member_later first rest z m) ]

      back : (z : List ℕ) → (vector ≡ z) ⊎ Contains (first ∷ rest) z → Contains (first ∷ more) z
      back z (inl e) = member_later first more z ((h.same z).1 (inl e))
      back z (inr c) = elim (member_cases first rest z c) [ inl e ↦ member_first first more z e | inr m ↦ member_later first more z ((h.same z).1 (inr m)) ]

  pub put_is : (vector : List ℕ) (old : List (List ℕ)) → AllPairs (IsBefore terms) old → IsPut vector old (put_in terms vector old)
  unfolding put_in
  put_is vector [] rising = put_first vector [] (All-nil (IsBefore terms vector)) rising
  put_is vector (first ∷ rest) rising = go (put_is vector rest (rising_tail (IsBefore terms) first rest rising)) (vector_cmp terms vector first) refl
    where
      go : IsPut vector rest (put_in terms vector rest) → (o : Ordering) → vector_cmp terms vector first ≡ o → IsPut vector (first ∷ rest) (put_by o vector first rest (put_in terms vector rest))
      go more Less e = put_before vector first rest e rising
      go more Equal e = put_itself vector first rest (vector_same terms vector first e) rising
      go more Greater e = put_later vector first rest (put_in terms vector rest) ((vector_total terms).antisymm first vector ∙ ap ordering_reverse e) rising more

  -- the vectors of a list in order
  pub record IsInOrder (given made : List (List ℕ)) : Type 0 where
    pub rising : AllPairs (IsBefore terms) made
    pub same : (z : List ℕ) → Contains made z ↔ Contains given z

  pub joined : (vector : List ℕ) (given made more : List (List ℕ)) → IsInOrder given made → IsPut vector made more → IsInOrder (vector ∷ given) more
  joined vector given made more h w = record {
    rising = w.rising;
    same = λ z. (λ c. into z ((w.same z).0 c), λ c. back z (member_cases vector given z c));
  }
    where
      into : (z : List ℕ) → (vector ≡ z) ⊎ Contains made z → Contains (vector ∷ given) z
      into z (inl e) = member_first vector given z e
      into z (inr c) = member_later vector given z ((h.same z).0 c)

      back : (z : List ℕ) → (vector ≡ z) ⊎ Contains given z → Contains more z
      back z (inl e) = (w.same z).1 (inl e)
      back z (inr c) = (w.same z).1 (inr ((h.same z).1 c))

  pub in_order_is : (given : List (List ℕ)) → IsInOrder given (in_order terms given)
  unfolding in_order
  in_order_is [] = record { rising = λ i j d less l. absurd (omega (arith, less, l)); same = λ z. (λ c. c, λ c. c) }
  in_order_is (vector ∷ given) =
      let rest : IsInOrder given (in_order terms given) = in_order_is given in
      joined vector given (in_order terms given) (put_in terms vector (in_order terms given)) rest (put_is vector (in_order terms given) rest.rising)
