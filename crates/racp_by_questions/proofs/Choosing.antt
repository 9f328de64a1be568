-- From the questions of the box to the capacities of the plan.
use Rattle.std.proofs.Common.{◌≡◌, ◌∙◌, ℕ, ◌<◌, ◌≤◌, List, length, slice_index, inl, inr, Option, Some, None, Contains, refl, sym, ap, subst, arith}
use Rattle.std.proofs.lemmas.Bool.{cases_lt}
use Rattle.std.proofs.lemmas.List.{get_or_read}
use Rattle.std.proofs.lemmas.List.Elements.{Contains-get_or}
use Rattle.racp_model.specs.Project.{Project}
use Rattle.racp_model.specs.Schedule.{Admits, roof, ArePeaks}
use Rattle.racp_model.specs.Terms.{Terms, AreTermsOf, release_of, due_of, cost, IsBefore}
use Rattle.racp_model.specs.Plan.{IsLeast, IsEnough}
use Rattle.racp_model.specs.Window.{Bounds, Answers, IsYes, IsRootWindow}
use Rattle.racp_model.specs.declared.question.Question.{Question}
use Rattle.racp_model.proofs.lemmas.Orders.{lower-same}
use Rattle.racp_model.proofs.lemmas.Costs.{before_trans, before_apart, cheaper-before, lesser-before}
use Rattle.racp_model.proofs.lemmas.Usage.{fits-peaks, peaks-below}
use Rattle.racp_model.proofs.lemmas.Cuts.{cut, cut-at, cut_places, cut_admitting, cut_before}
use Rattle.racp_cpm.proofs.lemmas.Rooted.{answers-fit}
use Rattle.racp_prices.specs.Units.{AreMostUnits, cut_to}
use Rattle.racp_prices.proofs.lemmas.Ceilings.{cut-below, most-within}
use Rattle.racp_candidates.specs.Questions.{question_of}
use Rattle.racp_questions.specs.FirstYes.{question_at, no_question, IsYesAt, AreNoBefore, IsFirstYes, IsReached}
use Rattle.racp_candidates.specs.Box.{AreBounds, IsInBox, AreBoxQuestions}
use Rattle.racp_by_questions.proofs.lemmas.AtMost.{at_most-cost, at_most-not_after}
use Rattle.racp_bounds.specs.Floors.{AreFloors, AreRoofs}
use Rattle.racp_bounds.specs.Sharp.{AreSharpened, AreRefutedPairs, AreSharpenedBefore}
use Rattle.racp_bounds.proofs.lemmas.Above.{admitting_above, roofs_admit}
use Rattle.racp_bounds.proofs.lemmas.Sharpened.{above_admits, admitting_yes, admitting_above_sharpened, admitting_in_box}
use Rattle.racp_by_questions.specs.Stops.{IsNotAfterEnough}

-- so it is the same where the other does not stand before it
above-same : (p : Project) (terms : Terms) (low high : List ℕ) → AreTermsOf p terms → length low ≡ p.resources → length high ≡ p.resources →
    ((k : ℕ) → k < p.resources → slice_index low k ≤ slice_index high k) → (IsBefore terms low high → ⊥) → low ≡ high
above-same p terms low high t low_places high_places above not_before =
    lower-same low high (omega (arith, low_places, high_places)) (λ k l. above k (omega (arith, l, high_places)))
    (λ lesser. elim (cases_lt (cost terms low) (cost terms high)) [
      | inl less ↦ not_before (cheaper-before terms low high less)
      | inr more ↦ not_before (lesser-before terms low high (omega (arith, more, at_most-cost p terms t low high above)) lesser)
    ])

-- without ceilings the most units are the roofs
plain_roofs : (p : Project) (terms : Terms) (roofs : List ℕ) → AreMostUnits p terms roofs → terms.ceilings ≡ None → AreRoofs p roofs
plain_roofs p terms roofs most none = record {
  places = most.places;
  each = λ k l. most.each k l ∙ ap (λ (c : Option (List ℕ)). cut_to c k (roof p k)) none;
}

module _ (p : Project) (terms : Terms) (root : Bounds) (floors roofs : List ℕ) (t : AreTermsOf p terms) (h : IsRootWindow p (release_of terms) (due_of terms) root)
    (lowest : AreFloors p root terms.deadline floors) (most : AreMostUnits p terms roofs) where
  -- each job has to end by the deadline
  pub due_by : (i : ℕ) → i < length p.jobs → due_of terms i ≤ terms.deadline
  due_by i l = omega arith

  -- capacities that are enough, cut to the sums of requests, are within the roofs and admit
  pub cut_within : (vector : List ℕ) → IsEnough p terms vector → (k : ℕ) → k < p.resources → slice_index (cut p vector) k ≤ slice_index roofs k
  cut_within vector e k l =
      cut-below terms.ceilings (slice_index roofs k) (length vector) k (slice_index (cut p vector) k) (roof p k) vector e.ceilings (omega (arith, l, e.places)) (cut-at p vector k l) (most.each k l)

  pub cut_admits : (vector : List ℕ) → IsEnough p terms vector → Admits p (release_of terms) (due_of terms) (cut p vector)
  cut_admits vector e = cut_admitting p (release_of terms) (due_of terms) vector (cut p vector) (cut-at p vector) e.admits

  -- they are no greater than whole
  pub cut_less : (vector : List ℕ) → (k : ℕ) → k < p.resources → slice_index (cut p vector) k ≤ slice_index vector k
  cut_less vector k l = omega (arith, cut-at p vector k l)

  -- a yes within the roofs is enough
  pub yes_enough : (vector : List ℕ) → length vector ≡ p.resources → ((k : ℕ) → k < p.resources → slice_index vector k ≤ slice_index roofs k) → IsYes p vector root → IsEnough p terms vector
  yes_enough vector places within some = record {
    places = places;
    ceilings = most-within terms.ceilings (length vector) vector (roof p) (λ k l. omega (arith, within k (omega (arith, l, places)), most.each k (omega (arith, l, places))));
    admits = (some.0, answers-fit p (release_of terms) (due_of terms) root vector some.0 h some.1);
  }

  -- what is enough is at or above the floors
  pub enough_above : (vector : List ℕ) → IsEnough p terms vector → (k : ℕ) → k < p.resources → slice_index floors k ≤ slice_index vector k
  enough_above vector e k l = admitting_above p (release_of terms) (due_of terms) root terms.deadline floors vector h due_by lowest e.admits k l

  -- where some are enough, no floor is above its roof
  pub enough_bounds : (vector : List ℕ) → IsEnough p terms vector → AreBounds floors roofs
  enough_bounds vector e k l =
      let m : k < p.resources = omega (arith, l, lowest.places) in
      omega (arith, cut_within vector e k m, admitting_above p (release_of terms) (due_of terms) root terms.deadline floors (cut p vector) h due_by lowest (cut_admits vector e) k m)

  -- and the roofs are a yes
  pub enough_roofs : (vector : List ℕ) → IsEnough p terms vector → IsYes p roofs root
  enough_roofs vector e =
      admitting_yes p (release_of terms) (due_of terms) root roofs h
      (above_admits p (release_of terms) (due_of terms) (cut p vector) roofs (cut_within vector e) (cut_admits vector e))

  -- without ceilings they always are
  pub plain_yes : terms.ceilings ≡ None → IsYes p roofs root
  plain_yes none = admitting_yes p (release_of terms) (due_of terms) root roofs h (roofs_admit p (release_of terms) (due_of terms) root roofs h (plain_roofs p terms roofs most none))

  -- no capacities that are enough stand before floors of which some are sharpened
  pub reached_first : (n : ℕ) (reached : List ℕ) → AreSharpenedBefore p root floors roofs n reached → IsNotAfterEnough p terms reached
  reached_first n reached are = record {
    places = are.places;
    none = λ vector e before.
        at_most-not_after p terms t reached vector
        (λ k l.
        let low = admitting_above_sharpened p (release_of terms) (due_of terms) root terms.deadline n floors roofs reached (cut p vector) h due_by lowest most.places are (cut_within vector e) (cut_admits vector e) k l in
        omega (arith, low, cut_less vector k l))
        are.places e.places before;
  }

  -- the first floors are such
  pub first_reached : AreSharpenedBefore p root floors roofs 0 floors
  first_reached = record { places = lowest.places; sharpened = λ k low l. absurd (omega (arith, low)); first = λ k high l. refl }

  module _ (sharp : List ℕ) (pairs : List (ℕ × ℕ)) (questions : List Question) (are : AreSharpened p root floors roofs sharp) (refuted : AreRefutedPairs p root sharp roofs pairs)
      (box : AreBoxQuestions terms sharp roofs pairs root questions) where
    -- a question of the box is that of a vector of the box
    module _ (i : ℕ) (l : i < length questions) where
      in_list : Contains questions (question_at questions i)
      in_list = Contains-get_or questions i no_question l

      window_is : (question_at questions i).window ≡ root
      window_is = box.windows i no_question l

      pub boxed : IsInBox sharp roofs pairs (question_at questions i).capacities
      boxed = (box.members (question_at questions i).capacities).0
          (subst (λ (q : Question). Contains questions q) (ap (λ (w : Bounds). question_of (question_at questions i).capacities w) window_is) in_list)

      pub boxed_places : length (question_at questions i).capacities ≡ p.resources
      boxed_places = boxed.between.places ∙ are.places

      -- a yes is enough
      pub boxed_enough : IsYesAt p questions i → IsEnough p terms (question_at questions i).capacities
      boxed_enough some = yes_enough (question_at questions i).capacities boxed_places (λ k m. boxed.between.below k (omega (arith, m, are.places)))
          (subst (λ (w : Bounds). IsYes p (question_at questions i).capacities w) window_is some)

    -- capacities that are enough, cut, have a question, and it is a yes
    module _ (vector : List ℕ) (e : IsEnough p terms vector) where
      asked : Contains questions (question_of (cut p vector) root)
      asked = (box.members (cut p vector)).1
          (admitting_in_box p (release_of terms) (due_of terms) root terms.deadline floors roofs sharp pairs (cut p vector) h due_by lowest most.places are refuted (cut_places p vector) (cut_within vector e) (cut_admits vector e))

      abbrev place : ℕ
      place = asked.0

      place_in : place < length questions
      place_in = asked.1

      question_there : question_of (cut p vector) root ≡ question_at questions place
      question_there = get_or_read questions place (question_of (cut p vector) root) asked.1 (sym asked.2) no_question

      place_yes : IsYesAt p questions place
      place_yes = subst (λ (q : Question). IsYes p q.capacities q.window) question_there (admitting_yes p (release_of terms) (due_of terms) root (cut p vector) h (cut_admits vector e))

      -- where they stand before the vector of a question, so do they cut, and their question does
      place_before : (i : ℕ) → i < length questions → IsBefore terms vector (question_at questions i).capacities → place < i
      place_before i l before =
          let cuts : IsBefore terms (question_at questions place).capacities (question_at questions i).capacities = subst (λ (q : Question). IsBefore terms q.capacities (question_at questions i).capacities) question_there (cut_before p terms vector (question_at questions i).capacities t e.places before) in
          elim (cases_lt place i) [
            | inl less ↦ less
            | inr more ↦ elim (cases_lt i place) [
              | inl after ↦
                  let rising : IsBefore terms (question_at questions i).capacities (question_at questions place).capacities = box.rising i place no_question after place_in in
                  absurd (before_apart terms (question_at questions i).capacities (before_trans terms (question_at questions i).capacities (question_at questions place).capacities (question_at questions i).capacities rising cuts))
              | inr least ↦
                  let same : place ≡ i = omega (arith, more, least) in
                  absurd (before_apart terms (question_at questions i).capacities (subst (λ (n : ℕ). IsBefore terms (question_at questions n).capacities (question_at questions i).capacities) same cuts))
            ]
          ]

      -- not all questions before theirs and theirs are a no
      not_none : (n : ℕ) → place < n → AreNoBefore p questions n → ⊥
      not_none n l none = none place l place_yes.0 place_yes.1

      pub some_yes : AreNoBefore p questions (length questions) → ⊥
      some_yes none = not_none (length questions) place_in none

    -- no capacities that are enough stand before those of a question before which each is a no
    pub none_before : (i : ℕ) → i < length questions → AreNoBefore p questions i → IsNotAfterEnough p terms (question_at questions i).capacities
    none_before i l none = record {
      places = boxed_places i l;
      none = λ vector e before. not_none vector e i (place_before vector e i l before) none;
    }

    -- so those of the first yes are the first of all that are enough
    pub first_least : (i : ℕ) → IsFirstYes p questions (Some i) → IsLeast (IsBefore terms) (IsEnough p terms) (question_at questions i).capacities
    first_least i first = record { is = boxed_enough i first.0 first.1; least = (none_before i first.0 first.2).none }

    -- they are the peaks of starts that answer its question
    pub peaks_least : (i : ℕ) (starts peaks : List ℕ) → IsFirstYes p questions (Some i) → Answers p (question_at questions i).capacities (question_at questions i).window starts → ArePeaks p starts peaks →
        IsLeast (IsBefore terms) (IsEnough p terms) peaks
    peaks_least i starts peaks first answers are_peaks =
        let capacities = (question_at questions i).capacities in
        let inside : Answers p capacities root starts = subst (λ (w : Bounds). Answers p capacities w starts) (window_is i first.0) answers in
        let below = peaks-below p capacities starts peaks inside.fits are_peaks in
        let some : Answers p peaks root starts = record { lies = inside.lies; fits = fits-peaks p capacities starts peaks inside.fits are_peaks } in
        let enough : IsEnough p terms peaks = yes_enough peaks are_peaks.places (λ k l. omega (arith, below k l, (boxed i first.0).between.below k (omega (arith, l, are.places)))) (starts, some) in
        let least = first_least i first in
        subst (λ (c : List ℕ). IsLeast (IsBefore terms) (IsEnough p terms) c) (sym (above-same p terms peaks capacities t are_peaks.places (boxed_places i first.0) below (least.least peaks enough))) least

    -- and those that were reached stand after none
    pub reached_box : (capacities : List ℕ) → IsReached p questions (Some capacities) → IsNotAfterEnough p terms capacities
    reached_box capacities reached = subst (λ (c : List ℕ). IsNotAfterEnough p terms c) reached.2 (none_before reached.0 reached.1 reached.3)

    -- they are at or above the sharpened floors
    pub reached_boxed : (capacities : List ℕ) → IsReached p questions (Some capacities) → (k : ℕ) → k < p.resources → slice_index sharp k ≤ slice_index capacities k
    reached_boxed capacities reached k l =
        subst (λ (c : List ℕ). slice_index sharp k ≤ slice_index c k) reached.2 ((boxed reached.0 reached.1).between.above k (omega (arith, l, are.places)))
