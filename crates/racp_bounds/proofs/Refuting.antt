-- The refuted pairs that stand before a pair, one pair after the other; and what the question of a pair says of it.
use Rattle.std.proofs.Common.{◌≡◌, ◌⊎◌, ◌↔◌, ℕ, ◌+◌, ◌-◌, ◌<◌, ◌≤◌, inl, inr, List, [], ◌∷◌, ◌++◌, slice_index, set, Some, Contains, AllPairs, get_or, arith, ap, sym, subst}
use Rattle.std.proofs.lemmas.Bool.{cases_lt}
use Rattle.std.proofs.lemmas.List.Elements.{All-push, All-contains, Contains-get_or, Contains-append_left, Contains-push, Contains-push_cases}
use Rattle.std.proofs.lemmas.List.Quantifiers.{all_pairs_push}
use Rattle.racp_model.specs.Project.{Project, number, IsNumber, AreNumbers, IsArcBefore}
use Rattle.racp_model.specs.Window.{Bounds, IsYes, IsNo}
use Rattle.racp_model.specs.declared.question.Question.{Question}
use Rattle.racp_model.proofs.lemmas.Relations.{all_members, no_member}
use Rattle.racp_questions.specs.FirstYes.{IsFirst, IsFirstYes, IsYesAt}
use Rattle.racp_candidates.specs.Questions.{question_of}
use Rattle.racp_questions.specs.declared.asker.First.{First}
use Rattle.racp_questions.specs.declared.asker.First.TheVariants.{Yes, None as NoYes}
use Rattle.racp_bounds.specs.Sharp.{IsRefutedPair, AreRefutedPairs}
use Rattle.racp_questions.proofs.lemmas.Answered.{yes_of, no_of}

-- the refuted pairs of resources before the pair of the resources at places k and l
pub record ArePairsBefore (p : Project) (root : Bounds) (floors roofs : List ℕ) (k l : ℕ) (pairs : List (ℕ × ℕ)) : Type 0 where
  pub named : AreNumbers p.resources pairs
  pub rising : AllPairs IsArcBefore pairs
  pub members : (a b : ℕ) → Contains pairs (number a, number b) ↔ ((a < b) × (b < p.resources) × IsArcBefore (a, b) (k, l) × IsRefutedPair p root floors roofs a b)

-- pairs in order, by place, are in order by number
before_number : (a b k l : ℕ) → IsArcBefore (a, b) (k, l) → IsArcBefore (number a, number b) (number k, number l)
before_number a b k l h = elim h [ inl less ↦ inl (omega (arith, less)) | inr tie ↦ inr (omega (arith, tie.0), omega (arith, tie.1)) ]

module _ (p : Project) (root : Bounds) (floors roofs : List ℕ) where
  -- at first there is none
  pub none_before : ArePairsBefore p root floors roofs 0 0 []
  none_before = record {
    named = all_members (λ (arc : ℕ × ℕ). IsNumber p.resources arc.0 × IsNumber p.resources arc.1) [] (λ arc c. absurd (no_member arc c));
    rising = λ i j d less l. absurd (omega (arith, l));
    members = λ a b. (λ c. absurd (no_member (number a, number b) c), λ h. absurd (elim h.2 [ inl less ↦ omega (arith, less) | inr tie ↦ omega (arith, tie.1) ]));
  }

  module _ (k l : ℕ) (pairs : List (ℕ × ℕ)) where
    -- the same pairs stand before another pair, where no pair stands between
    moved : (m n : ℕ) → ((a b : ℕ) → a < b → b < p.resources → IsArcBefore (a, b) (k, l) ↔ IsArcBefore (a, b) (m, n)) → ArePairsBefore p root floors roofs k l pairs →
        ArePairsBefore p root floors roofs m n pairs
    moved m n same h = record {
      named = h.named;
      rising = h.rising;
      members = λ a b. (
        λ c. let r = (h.members a b).0 c in (r.0, r.1, (same a b r.0 r.1).0 r.2, r.3),
        λ r. (h.members a b).1 (r.0, r.1, (same a b r.0 r.1).1 r.2, r.3),
      );
    }

    -- before the pair stand those before the one that comes before it, and perhaps that one
    split : (a b : ℕ) → IsArcBefore (a, b) (k, l + 1) → IsArcBefore (a, b) (k, l) ⊎ ((a ≡ k) × (b ≡ l))
    split a b h = elim h [
      | inl less ↦ inl (inl less)
      | inr tie ↦ elim (cases_lt b l) [ inl under ↦ inl (inr (tie.0, under)) | inr most ↦ let last : b ≡ l = omega (arith, tie.1, most) in inr (tie.0, last) ]
    ]

    joined : (a b : ℕ) → IsArcBefore (a, b) (k, l) → IsArcBefore (a, b) (k, l + 1)
    joined a b h = elim h [ inl less ↦ inl less | inr tie ↦ inr (tie.0, omega (arith, tie.1)) ]

    -- the pairs of a resource with later ones
    pub row_begun : l ≡ 0 → ArePairsBefore p root floors roofs k l pairs → ArePairsBefore p root floors roofs k (k + 1) pairs
    row_begun start = moved k (k + 1)
        (λ a b less m. (
          λ h. elim h [ inl under ↦ inl under | inr tie ↦ absurd (omega (arith, tie.1, start)) ],
          λ h. elim h [ inl under ↦ inl under | inr tie ↦ absurd (omega (arith, tie.0, tie.1, less)) ],
        ))

    pub row_ended : p.resources ≤ l → ArePairsBefore p root floors roofs k l pairs → ArePairsBefore p root floors roofs (k + 1) 0 pairs
    row_ended end = moved (k + 1) 0
        (λ a b less m. (
          λ h. elim h [ inl under ↦ inl (omega (arith, under)) | inr tie ↦ inl (omega (arith, tie.0)) ],
          λ h. elim h [
            | inl under ↦ elim (cases_lt a k) [ inl low ↦ inl low | inr high ↦ let at : a ≡ k = omega (arith, under, high) in inr (at, omega (arith, m, end)) ]
            | inr tie ↦ absurd (omega (arith, tie.1))
          ],
        ))

    -- a pair that is not refuted adds none
    pub pair_kept : (IsRefutedPair p root floors roofs k l → ⊥) → ArePairsBefore p root floors roofs k l pairs → ArePairsBefore p root floors roofs k (l + 1) pairs
    pair_kept not h = record {
      named = h.named;
      rising = h.rising;
      members = λ a b. (
        λ c. let r = (h.members a b).0 c in (r.0, r.1, joined a b r.2, r.3),
        λ r. elim (split a b r.2) [
          | inl before ↦ (h.members a b).1 (r.0, r.1, before, r.3)
          | inr here ↦ absurd (not (subst (λ (y : ℕ). IsRefutedPair p root floors roofs k y) here.1 (subst (λ (x : ℕ). IsRefutedPair p root floors roofs x b) here.0 r.3)))
        ],
      );
    }

    -- each of the pairs is before the next one, also by number
    before_next : ArePairsBefore p root floors roofs k l pairs → (arc : ℕ × ℕ) → Contains pairs arc → IsArcBefore arc (number k, number l)
    before_next h arc c =
        let names : IsNumber p.resources arc.0 × IsNumber p.resources arc.1 = All-contains (λ (arc : ℕ × ℕ). IsNumber p.resources arc.0 × IsNumber p.resources arc.1) pairs arc h.named c in
        let a = arc.0 - 1 in
        let b = arc.1 - 1 in
        let first : arc.0 ≡ number a = omega (arith, names.0.0) in
        let second : arc.1 ≡ number b = omega (arith, names.1.0) in
        let is : arc ≡ (number a, number b) = λ i. (first i, second i) in
        let r = (h.members a b).0 (subst (λ (x : ℕ × ℕ). Contains pairs x) is c) in
        subst (λ (x : ℕ × ℕ). IsArcBefore x (number k, number l)) (sym is) (before_number a b k l r.2)

    -- a refuted pair is added at the end
    pub pair_added : k < l → l < p.resources → IsRefutedPair p root floors roofs k l → ArePairsBefore p root floors roofs k l pairs →
        ArePairsBefore p root floors roofs k (l + 1) (pairs ++ (number k, number l) ∷ [])
    pair_added less last refuted h = record {
      named = All-push (λ (arc : ℕ × ℕ). IsNumber p.resources arc.0 × IsNumber p.resources arc.1) pairs (number k, number l) h.named
          ((omega arith, omega (arith, less, last)), (omega arith, omega (arith, last)));
      rising = all_pairs_push IsArcBefore pairs (number k, number l) h.rising (λ i d m. before_next h (get_or pairs i d) (Contains-get_or pairs i d m));
      members = λ a b. (
        λ c. elim (Contains-push_cases pairs (number k, number l) (number a, number b) c) [
          | inl early ↦ let r = (h.members a b).0 early in (r.0, r.1, joined a b r.2, r.3)
          | inr same ↦
              let first : k ≡ a = omega (arith, ap (λ (x : ℕ × ℕ). x.0) same) in
              let second : l ≡ b = omega (arith, ap (λ (x : ℕ × ℕ). x.1) same) in
              (omega (arith, less, first, second), omega (arith, last, second), inr (sym first, omega (arith, second)), subst (λ (y : ℕ). IsRefutedPair p root floors roofs a y) second (subst (λ (x : ℕ). IsRefutedPair p root floors roofs x l) first refuted))
        ],
        λ r. elim (split a b r.2) [
          | inl before ↦ Contains-append_left pairs ((number k, number l) ∷ []) (number a, number b) ((h.members a b).1 (r.0, r.1, before, r.3))
          | inr here ↦
              let first : number k ≡ number a = omega (arith, here.0) in
              let second : number l ≡ number b = omega (arith, here.1) in
              let is : (number k, number l) ≡ (number a, number b) = λ i. (first i, second i) in
              subst (λ (x : ℕ × ℕ). Contains (pairs ++ (number k, number l) ∷ []) x) is (Contains-push pairs (number k, number l))
        ],
      );
    }

  -- before the end stand all
  pub all_before : (n : ℕ) (pairs : List (ℕ × ℕ)) → p.resources ≤ n → ArePairsBefore p root floors roofs n 0 pairs → AreRefutedPairs p root floors roofs pairs
  all_before n pairs end h = record {
    named = h.named;
    rising = h.rising;
    members = λ a b. (
      λ c. let r = (h.members a b).0 c in (r.0, r.1, r.3),
      λ r. (h.members a b).1 (r.0, r.1, inl (omega (arith, r.0, r.1, end)), r.2),
    );
  }

-- what the answer to the question of a pair says
module _ (p : Project) (root : Bounds) (floors roofs : List ℕ) (k l : ℕ) (capacities : List ℕ) (questions : List Question) (answer : First)
    (both : capacities ≡ set (set roofs k (slice_index floors k)) l (slice_index floors l)) (asked : questions ≡ question_of capacities root ∷ []) (told : IsFirst p questions answer) where
  -- with no yes the pair is refuted
  pub refuted_of : answer ≡ NoYes → IsRefutedPair p root floors roofs k l
  refuted_of is = subst (λ (c : List ℕ). IsNo p c root) both (no_of p questions (question_of capacities root ∷ []) answer asked is told 0 (omega arith))

  -- with a yes it is not
  pub kept_of : (index : ℕ) (starts : List ℕ) → answer ≡ Yes index starts → IsRefutedPair p root floors roofs k l → ⊥
  kept_of index starts is refuted =
      let first : IsFirstYes p (question_of capacities root ∷ []) (Some index) = yes_of p questions (question_of capacities root ∷ []) answer index starts asked is told in
      let here : index ≡ 0 = omega (arith, first.0) in
      let found : IsYes p capacities root = subst (λ (i : ℕ). IsYesAt p (question_of capacities root ∷ []) i) here first.1 in
      let moved : IsNo p capacities root = subst (λ (c : List ℕ). IsNo p c root) (sym both) refuted in
      moved found.0 found.1
