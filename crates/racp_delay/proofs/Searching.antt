-- The search for minimal delaying alternatives: what is found where it stops, and where it goes on.
use Rattle.std.proofs.Common.{◌≡◌, ℕ, ◌+◌, ◌-◌, ◌<◌, slice_index, inl, inr, List, [], ◌∷◌, ◌++◌, length, get_or, arith, refl, ap, sym, ◌∙◌, subst, Contains, AllPairs, append_assoc, length-append}
use Rattle.std.proofs.lemmas.Bool.{cases_lt}
use Rattle.std.proofs.lemmas.Bool.Decides.{nat_tests}
use Rattle.std.proofs.lemmas.Cmp.{tied_itself, nat_cmp_total}
use Rattle.std.proofs.lemmas.List.{append-nil, get_or_append_left, get_or-append_right}
use Rattle.std.proofs.lemmas.List.Elements.{Contains-append_left, Contains-append_right, Contains-append_cases, Contains-get_or}
use Rattle.std.specs.declared.cmp.Ordering.TheVariants.{Less, Equal}
use Rattle.std.specs.Ordering.{nat_cmp, ordering_then}
use Rattle.racp_model.specs.Project.{Project, place, request}
use Rattle.racp_model.specs.Terms.{lex_cmp, IsLexBefore}
use Rattle.racp_model.proofs.lemmas.Relations.{member_cases, no_member}
use Rattle.racp_delay.specs.Alternatives.{Splits, load, IsMinimalDelayingAlternative, AreAlternatives}
use Rattle.racp_delay.specs.Alternatives.Splits.{goes, stays}
use Rattle.racp_delay.specs.Found.{AreWithin, OneMoreRuns, SomeHaveRoom, Each, with_load, IsTight, AreFound}
use Rattle.racp_delay.proofs.Each.{each-left, each-right, each-at, each-from, each-map}
use Rattle.racp_delay.proofs.Splitting.{load-splits, splits-none, all_stay, each-gone}
use Rattle.racp_delay.proofs.Tight.{none_kept, tight-from_minimal, minimal-from_tight}

-- a list with a lesser job at the first difference stands before
pub less_before : (xs u v : List ℕ) (a b : ℕ) → a < b → IsLexBefore (xs ++ a ∷ u) (xs ++ b ∷ v)
less_before [] u v a b l = grind (arith, nat_tests)
less_before (x ∷ xs) u v a b l =
    let same : nat_cmp x x ≡ Equal = tied_itself nat_cmp_total x in
    let rest : lex_cmp (xs ++ a ∷ u) (xs ++ b ∷ v) ≡ Less = less_before xs u v a b l in
    ap (λ o. ordering_then o (lex_cmp (xs ++ a ∷ u) (xs ++ b ∷ v))) same ∙ rest

-- two lists in order, each of the first before each of the second, are in order one after the other
pub in_order-append : (f g : List (List ℕ)) → AllPairs IsLexBefore f → AllPairs IsLexBefore g → ((x y : List ℕ) → Contains f x → Contains g y → IsLexBefore x y) → AllPairs IsLexBefore (f ++ g)
in_order-append f g hf hg across a b d before within = elim (cases_lt b (length f)) [
  | inl left ↦
      let ea : get_or (f ++ g) a d ≡ get_or f a d = get_or_append_left f g d a (omega arith) in
      let eb : get_or (f ++ g) b d ≡ get_or f b d = get_or_append_left f g d b left in
      ap (λ x. lex_cmp x (get_or (f ++ g) b d)) ea ∙ (ap (λ y. lex_cmp (get_or f a d) y) eb ∙ hf a b d before left)
  | inr right ↦
      let in' : b - length f < length g = omega (arith, length-append f g) in
      let eb : get_or (f ++ g) b d ≡ get_or g (b - length f) d = get_or-append_right f g (length f) b d refl right in
      elim (cases_lt a (length f)) [
        | inl left ↦
            let ea : get_or (f ++ g) a d ≡ get_or f a d = get_or_append_left f g d a left in
            ap (λ x. lex_cmp x (get_or (f ++ g) b d)) ea ∙ (ap (λ y. lex_cmp (get_or f a d) y) eb ∙ across (get_or f a d) (get_or g (b - length f) d) (Contains-get_or f a d left) (Contains-get_or g (b - length f) d in'))
        | inr also ↦
            let ea : get_or (f ++ g) a d ≡ get_or g (a - length f) d = get_or-append_right f g (length f) a d refl also in
            ap (λ x. lex_cmp x (get_or (f ++ g) b d)) ea ∙ (ap (λ y. lex_cmp (get_or g (a - length f) d) y) eb ∙ hg (a - length f) (b - length f) d (omega arith) in')
      ]
]

-- one list alone is in order
pub in_order-one : (x : List ℕ) → AllPairs IsLexBefore (x ∷ [])
in_order-one x a b d before within = absurd (omega arith)

-- the only member of a list of one
pub only_member : (x y : List ℕ) → Contains (y ∷ []) x → x ≡ y
only_member x y c = elim (member_cases y [] x c) [ inl same ↦ sym same | inr later ↦ absurd (no_member x later) ]

module _ (p : Project) (capacities : List ℕ) (kept : ℕ → ℕ) (chosen rest : List ℕ) where
  -- nothing is found where the kept cannot run
  pub found-over : (AreWithin p capacities kept → ⊥) → AreFound p capacities kept chosen rest []
  found-over over = record {
    all = λ gone stay s t. absurd (over (λ k l. omega (arith, t.runs k l)));
    only = λ x c. absurd (no_member x c);
    in_order = λ a b d before within. absurd (omega arith);
  }

  -- nor where some job that goes could stay with all the others
  pub found-loose : SomeHaveRoom p capacities (with_load p kept rest) chosen → AreFound p capacities kept chosen rest []
  found-loose loose = record {
    all = λ gone stay s t. absurd (each-at (λ job. OneMoreRuns p capacities (with_load p kept stay) job → ⊥) chosen loose.0 loose.1 (each-left (λ job. OneMoreRuns p capacities (with_load p kept stay) job → ⊥) chosen gone t.tight)
        (λ k l. elim (cases_lt 0 (request p (place (slice_index chosen loose.0)) k)) [
          | inl some ↦ omega (arith, load-splits p k s, loose.2 k l some)
          | inr nothing ↦ omega (arith, nothing, t.runs k l)
        ]));
    only = λ x c. absurd (no_member x c);
    in_order = λ a b d before within. absurd (omega arith);
  }

  -- where the others run, those that go are one
  pub found-here : AreWithin p capacities (with_load p kept rest) → (SomeHaveRoom p capacities (with_load p kept rest) chosen → ⊥) → AreFound p capacities kept chosen rest (chosen ∷ [])
  unfolding load
  found-here runs tight = record {
    all = λ gone stay s t. none_goes gone stay s t;
    only = λ x c. ([], rest, splits-none rest, only_member x chosen c ∙ sym (append-nil chosen), record { runs = runs; tight = subst (λ (xs : List ℕ). Each (λ job. OneMoreRuns p capacities (with_load p kept rest) job → ⊥) xs) (sym (append-nil chosen)) each_tight });
    in_order = in_order-one chosen;
  }
    where
      each_tight : Each (λ job. OneMoreRuns p capacities (with_load p kept rest) job → ⊥) chosen
      each_tight = each-from (λ job. OneMoreRuns p capacities (with_load p kept rest) job → ⊥) chosen (λ i l runs_too. tight (i, l, λ k m some. runs_too k m))

      none_goes : (gone stay : List ℕ) → Splits rest gone stay → IsTight p capacities kept (chosen ++ gone) stay → Contains (chosen ∷ []) (chosen ++ gone)
      none_goes [] stay s t = (0, omega arith, sym (append-nil chosen))
      none_goes (job ∷ gone) stay s t = absurd ((each-right (λ i. OneMoreRuns p capacities (with_load p kept stay) i → ⊥) chosen (job ∷ gone) t.tight).0 (λ k l.
          let e : load p k rest ≡ (request p (place job) k + load p k gone) + load p k stay = load-splits p k s in
          omega (arith, runs k l)))

-- the loads of the kept after one job more is kept
abbrev pub IsMore : Project → (ℕ → ℕ) → ℕ → (ℕ → ℕ) → Type 0
IsMore p kept job more = (k : ℕ) → k < p.resources → more k ≡ kept k + request p (place job) k

-- what is tight beside loads is tight beside equal loads
pub tight-same : (p : Project) (capacities : List ℕ) (a b : ℕ → ℕ) (gone u v : List ℕ) → ((k : ℕ) → k < p.resources → with_load p a u k ≡ with_load p b v k) → IsTight p capacities a gone u → IsTight p capacities b gone v
tight-same p capacities a b gone u v same t = record {
  runs = λ k l. omega (arith, same k l, t.runs k l);
  tight = each-map (λ job. OneMoreRuns p capacities (with_load p a u) job → ⊥) (λ job. OneMoreRuns p capacities (with_load p b v) job → ⊥) gone (λ job h runs. h (λ k l. omega (arith, same k l, runs k l))) t.tight;
}

module _ (p : Project) (capacities : List ℕ) (kept more : ℕ → ℕ) (chosen : List ℕ) (job : ℕ) (rest : List ℕ) (f g : List (List ℕ)) (is_more : IsMore p kept job more) (rises : Each (λ i. job < i) rest)
    (over : AreWithin p capacities (with_load p kept (job ∷ rest)) → ⊥) (hf : AreFound p capacities kept (chosen ++ job ∷ []) rest f) (hg : AreFound p capacities more chosen rest g) where
  -- a job that stays is kept beside, or is one of those that stay
  pub one_more : (stay : List ℕ) (k : ℕ) → k < p.resources → with_load p more stay k ≡ with_load p kept (job ∷ stay) k
  unfolding load
  one_more stay k l = omega (arith, is_more k l)

  -- the next job goes, or it stays
  pub all_in_both : (gone stay : List ℕ) → Splits (job ∷ rest) gone stay → IsTight p capacities kept (chosen ++ gone) stay → Contains (f ++ g) (chosen ++ gone)
  all_in_both (i ∷ gone) stay (goes s) t =
      let e : (chosen ++ job ∷ []) ++ gone ≡ chosen ++ job ∷ gone = append_assoc chosen (job ∷ []) gone in
      let t' : IsTight p capacities kept ((chosen ++ job ∷ []) ++ gone) stay = subst (λ (xs : List ℕ). IsTight p capacities kept xs stay) (sym e) t in
      Contains-append_left f g (chosen ++ job ∷ gone) (subst (λ (xs : List ℕ). Contains f xs) e (hf.all gone stay s t'))
  all_in_both gone (i ∷ stay) (stays s) t =
      let t' : IsTight p capacities more (chosen ++ gone) stay = tight-same p capacities kept more (chosen ++ gone) (job ∷ stay) stay (λ k l. sym (one_more stay k l)) t in
      Contains-append_right f g (chosen ++ gone) (hg.all gone stay s t')

  -- a list in which the job goes stands before one in which it stays
  pub stands_before : (u gone stay : List ℕ) → Splits rest gone stay → AreWithin p capacities (with_load p more stay) → IsLexBefore (chosen ++ job ∷ u) (chosen ++ gone)
  stands_before u [] stay s runs =
      let e : stay ≡ rest = all_stay s in
      absurd (over (λ k l. omega (arith, one_more stay k l, runs k l, ap (λ (xs : List ℕ). with_load p kept (job ∷ xs) k) e)))
  stands_before u (i ∷ gone) stay s runs = less_before chosen u gone job i (each-gone (λ i. job < i) s rises).0

  -- so what is found both ways is all
  pub found-both : AreFound p capacities kept chosen (job ∷ rest) (f ++ g)
  found-both = record {
    all = all_in_both;
    only = λ x c. elim (Contains-append_cases f g x c) [
      | inl left ↦
          let h = hf.only x left in
          let e : (chosen ++ job ∷ []) ++ h.0 ≡ chosen ++ job ∷ h.0 = append_assoc chosen (job ∷ []) h.0 in
          (job ∷ h.0, h.1, goes h.2, h.3 ∙ e, subst (λ (xs : List ℕ). IsTight p capacities kept xs h.1) e h.4)
      | inr right ↦
          let h = hg.only x right in
          (h.0, job ∷ h.1, stays h.2, h.3, tight-same p capacities more kept (chosen ++ h.0) h.1 (job ∷ h.1) (one_more h.1) h.4)
    ];
    in_order = in_order-append f g hf.in_order hg.in_order (λ x y cx cy.
        let a = hf.only x cx in
        let b = hg.only y cy in
        let ea : x ≡ chosen ++ job ∷ a.0 = a.3 ∙ append_assoc chosen (job ∷ []) a.0 in
        ap (λ u. lex_cmp u y) ea ∙ (ap (λ v. lex_cmp (chosen ++ job ∷ a.0) v) b.3 ∙ stands_before a.0 b.0 b.1 b.2 b.4.runs));
  }

-- what is found beside loads is found beside equal loads
pub found-same : (p : Project) (capacities : List ℕ) (a b : ℕ → ℕ) (chosen rest : List ℕ) (lists : List (List ℕ)) → ((k : ℕ) → k < p.resources → a k ≡ b k) → AreFound p capacities a chosen rest lists → AreFound p capacities b chosen rest lists
found-same p capacities a b chosen rest lists same h = record {
  all = λ gone stay s t. h.all gone stay s (tight-same p capacities b a (chosen ++ gone) stay stay (λ k l. omega (arith, same k l)) t);
  only = λ x c. let f = h.only x c in (f.0, f.1, f.2, f.3, tight-same p capacities a b (chosen ++ f.0) f.1 f.1 (λ k l. omega (arith, same k l)) f.4);
  in_order = h.in_order;
}

-- at the start nothing is kept and nothing chosen, and what is found are the alternatives
pub found-alternatives : (p : Project) (capacities active : List ℕ) (lists : List (List ℕ)) → AreFound p capacities none_kept [] active lists → AreAlternatives p capacities active lists
found-alternatives p capacities active lists h = record {
  all = λ gone m. h.all gone m.delays.0 m.delays.1 (tight-from_minimal p capacities active gone m.delays.0 m.delays.1 m);
  only = λ gone c.
      let f = h.only gone c in
      subst (λ (x : List ℕ). IsMinimalDelayingAlternative p capacities active x) (sym f.3) (minimal-from_tight p capacities active f.0 f.1 f.2 f.4);
  in_order = h.in_order;
}
