-- The questions of the vectors that no pair excludes are those of the box.
use Rattle.std.proofs.Common.{◌≡◌, ◌⊎◌, ℕ, ◌-◌, ◌<◌, Bool, true, false, ◌||◌, List, [], ◌∷◌, length, slice_index, map, inl, inr, arith, refl, sym, ap, subst, Contains, AllPairs, All}
use Rattle.std.specs.List.{filter}
use Rattle.std.proofs.lemmas.Bool.{lt-ltb, ltb-true}
use Rattle.std.proofs.lemmas.List.Elements.{All-contains}
use Rattle.std.proofs.lemmas.List.Kept.{AllPairs-filter}
use Rattle.racp_model.specs.Project.{number, IsNumber, AreNumbers}
use Rattle.racp_model.specs.Terms.{Terms, IsBefore}
use Rattle.racp_model.specs.Window.{Bounds}
use Rattle.racp_model.specs.declared.question.Question.{Question}
use Rattle.racp_model.proofs.lemmas.Relations.{all_members}
use Rattle.racp_candidates.specs.Questions.{question_of}
use Rattle.racp_candidates.specs.Box.{IsAbovePairs, IsInBox, AreBoxQuestions}
use Rattle.racp_candidates.specs.Vectors.{terms_of, AreVectorsInOrder, is_above, is_above_pairs, vectors_above, box_questions, HavePlaces}
use Rattle.racp_questions.proofs.lemmas.Members.{filter_from, filter_to}
use Rattle.racp_candidates.proofs.Members.{map_from, map_to, map_pairs, all_from, all_to}

pub either_from : (a b : Bool) → (a || b) ≡ true → (a ≡ true) ⊎ (b ≡ true)
either_from true b e = inl refl
either_from false b e = inr e

pub either_to : (a b : Bool) → (a ≡ true) ⊎ (b ≡ true) → (a || b) ≡ true
either_to true b h = refl
either_to false b (inl e) = cc
either_to false b (inr e) = e

module _ (floors : List ℕ) (pairs : List (ℕ × ℕ)) where
  -- a resource by its place, and by its number
  pub above_place : (v : List ℕ) (k : ℕ) → is_above floors v (number k) ≡ true → slice_index floors k < slice_index v k
  above_place v k e =
      let same : number k - 1 ≡ k = omega arith in
      let P : ℕ → Type 0 = λ j. slice_index floors j < slice_index v j in
      subst P same (ltb-true (slice_index floors (number k - 1)) (slice_index v (number k - 1)) e)

  pub place_above : (v : List ℕ) (k : ℕ) → slice_index floors k < slice_index v k → is_above floors v (number k) ≡ true
  place_above v k less =
      let same : k ≡ number k - 1 = omega arith in
      let P : ℕ → Type 0 = λ j. slice_index floors j < slice_index v j in
      lt-ltb (slice_index floors (number k - 1)) (slice_index v (number k - 1)) (subst P same less)

  pub above_from : (v : List ℕ) → is_above_pairs floors pairs v ≡ true → IsAbovePairs floors pairs v
  unfolding is_above_pairs
  above_from v e k l c =
      let test : ℕ × ℕ → Bool = λ pair. is_above floors v pair.0 || is_above floors v pair.1 in
      let one : (is_above floors v (number k) || is_above floors v (number l)) ≡ true = all_from test pairs e (number k, number l) c in
      elim (either_from (is_above floors v (number k)) (is_above floors v (number l)) one) [
        | inl here ↦ inl (above_place v k here)
        | inr here ↦ inr (above_place v l here)
      ]

  pub above_to : (v : List ℕ) → AreNumbers (length floors) pairs → IsAbovePairs floors pairs v → is_above_pairs floors pairs v ≡ true
  unfolding is_above_pairs
  above_to v numbers h = all_to test pairs passes
    where
      test : ℕ × ℕ → Bool
      test pair = is_above floors v pair.0 || is_above floors v pair.1

      named : ℕ × ℕ → Type 0
      named pair = IsNumber (length floors) pair.0 × IsNumber (length floors) pair.1

      above : (a : ℕ) → IsNumber (length floors) a → slice_index floors (a - 1) < slice_index v (a - 1) → is_above floors v a ≡ true
      above a is less = lt-ltb (slice_index floors (a - 1)) (slice_index v (a - 1)) less

      passes : (pair : ℕ × ℕ) → Contains pairs pair → test pair ≡ true
      passes pair c =
          let is : IsNumber (length floors) pair.0 × IsNumber (length floors) pair.1 = All-contains named pairs pair numbers c in
          let first : pair.0 ≡ number (pair.0 - 1) = omega (arith, is.0.0) in
          let second : pair.1 ≡ number (pair.1 - 1) = omega (arith, is.1.0) in
          let same : pair ≡ (number (pair.0 - 1), number (pair.1 - 1)) = λ i. (first i, second i) in
          let member : Contains pairs (number (pair.0 - 1), number (pair.1 - 1)) = subst (Contains pairs) same c in
          either_to (is_above floors v pair.0) (is_above floors v pair.1) (elim (h (pair.0 - 1) (pair.1 - 1) member) [
            | inl less ↦ inl (above pair.0 is.0 less)
            | inr less ↦ inr (above pair.1 is.1 less)
          ])

  module _ (terms : Terms) (roofs : List ℕ) (window : Bounds) (vectors : List (List ℕ)) (numbers : AreNumbers (length floors) pairs) (h : AreVectorsInOrder terms floors roofs vectors) where
    pub questions_rising : AllPairs (λ (a b : Question). IsBefore terms a.capacities b.capacities) (box_questions floors pairs window vectors)
    unfolding box_questions vectors_above
    questions_rising =
        map_pairs (λ v. question_of v window) (IsBefore terms) (λ (a b : Question). IsBefore terms a.capacities b.capacities) (λ a b before. before)
        (filter (is_above_pairs floors pairs) vectors) (AllPairs-filter (IsBefore terms) (is_above_pairs floors pairs) vectors h.rising)

    pub questions_windows : All (λ (q : Question). q.window ≡ window) (box_questions floors pairs window vectors)
    unfolding box_questions vectors_above
    questions_windows =
        all_members (λ (q : Question). q.window ≡ window) (map (λ v. question_of v window) (filter (is_above_pairs floors pairs) vectors)) (λ q c.
        let m = map_from (λ v. question_of v window) (filter (is_above_pairs floors pairs) vectors) q c in
        ap (λ (p : Question). p.window) m.2)

    pub questions_from : (v : List ℕ) → Contains (box_questions floors pairs window vectors) (question_of v window) → IsInBox floors roofs pairs v
    unfolding box_questions vectors_above
    questions_from v c =
        let m = map_from (λ v. question_of v window) (filter (is_above_pairs floors pairs) vectors) (question_of v window) c in
        let same : v ≡ m.0 = ap (λ (p : Question). p.capacities) m.2 in
        let kept = filter_from (is_above_pairs floors pairs) vectors m.0 m.1 in
        subst (IsInBox floors roofs pairs) (sym same) (record { between = (h.members m.0).0 kept.0; above_pairs = above_from m.0 kept.1 })

    pub questions_to : (v : List ℕ) → IsInBox floors roofs pairs v → Contains (box_questions floors pairs window vectors) (question_of v window)
    unfolding box_questions vectors_above
    questions_to v is =
        map_to (λ v. question_of v window) (filter (is_above_pairs floors pairs) vectors) v
        (filter_to (is_above_pairs floors pairs) vectors v ((h.members v).1 is.between) (above_to v numbers is.above_pairs))

    pub are_box_questions : AreBoxQuestions terms floors roofs pairs window (box_questions floors pairs window vectors)
    are_box_questions = record {
      rising = questions_rising;
      windows = questions_windows;
      members = λ v. (questions_from v, questions_to v);
    }

  -- each vector in order has its places
  pub order_places : (terms : Terms) (roofs : List ℕ) (vectors : List (List ℕ)) → AreVectorsInOrder terms floors roofs vectors → HavePlaces floors vectors
  order_places terms roofs vectors h = all_members (λ (v : List ℕ). length v ≡ length floors) vectors (λ v c. ((h.members v).0 c).places)

  -- the order of vectors looks at prices and owned units alone
  pub order_by : (terms : Terms) (prices owned : List ℕ) (roofs : List ℕ) (vectors : List (List ℕ)) → prices ≡ terms.prices → owned ≡ terms.owned →
      AreVectorsInOrder (terms_of prices owned) floors roofs vectors → AreVectorsInOrder terms floors roofs vectors
  order_by terms prices owned roofs vectors same_prices same_owned h =
      let Q : List ℕ → Type 0 = λ ps. AreVectorsInOrder (terms_of ps owned) floors roofs vectors in
      let R : List ℕ → Type 0 = λ os. AreVectorsInOrder (terms_of terms.prices os) floors roofs vectors in
      let g : AreVectorsInOrder (terms_of terms.prices terms.owned) floors roofs vectors = subst R same_owned (subst Q same_prices h) in
      record { rising = g.rising; members = g.members }

  -- what was taken off the vectors was taken off the questions
  pub question_taken : (window : Bounds) (old new : List (List ℕ)) (v : List ℕ) → vectors_above floors pairs old ≡ v ∷ vectors_above floors pairs new →
      box_questions floors pairs window old ≡ question_of v window ∷ box_questions floors pairs window new
  unfolding box_questions
  question_taken window old new v e = ap (map (λ w. question_of w window)) e

  pub no_question : (window : Bounds) (old : List (List ℕ)) → vectors_above floors pairs old ≡ [] → box_questions floors pairs window old ≡ []
  unfolding box_questions
  no_question window old e = ap (map (λ w. question_of w window)) e

  pub same_questions : (window : Bounds) (old new : List (List ℕ)) → vectors_above floors pairs new ≡ vectors_above floors pairs old →
      box_questions floors pairs window new ≡ box_questions floors pairs window old
  unfolding box_questions
  same_questions window old new e = ap (map (λ w. question_of w window)) e
