-- The questions of a series have the form of a network: a capacity for each resource, and bounds for each job.
use Rattle.std.proofs.Common.{◌≡◌, ◌∙◌, ℕ, List, [], ◌∷◌, length, slice_index, map, set, inl, inr, Contains, sym, ap, subst, arith}
use Rattle.std.proofs.lemmas.List.{length-set}
use Rattle.std.proofs.lemmas.List.Elements.{All-contains}
use Rattle.racp_model.specs.Project.{Project}
use Rattle.racp_model.specs.Terms.{Terms}
use Rattle.racp_model.specs.Window.{Bounds}
use Rattle.racp_model.specs.Formed.{IsFormed, HasBounds, AreFormed}
use Rattle.racp_model.specs.declared.question.Question.{Question}
use Rattle.racp_model.proofs.lemmas.Relations.{member_cases}
use Rattle.racp_candidates.specs.Questions.{question_of, numbers_between, single_questions, window_at, start_questions}
use Rattle.racp_candidates.specs.Box.{AreBoxQuestions}

-- nothing is in the empty list
none_in : (question : Question) → Contains [] question → ⊥
none_in question there = omega (arith, there.1)

-- the questions that are made of some numbers have it, where the question of each number has
mapped_formed : (p : Project) (f : ℕ → Question) (numbers : List ℕ) → ((x : ℕ) → IsFormed p (f x)) → AreFormed p (map f numbers)
mapped_formed p f [] each question there = absurd (none_in question there)
mapped_formed p f (x ∷ numbers) each question there = elim (member_cases (f x) (map f numbers) question there) [
  | inl same ↦ subst (λ (q : Question). IsFormed p q) same (each x)
  | inr later ↦ mapped_formed p f numbers each question later
]

-- one question
pub one_formed : (p : Project) (capacities : List ℕ) (window : Bounds) → length capacities ≡ p.resources → HasBounds p window → AreFormed p (question_of capacities window ∷ [])
one_formed p capacities window places bounds question there = elim (member_cases (question_of capacities window) [] question there) [
  | inl same ↦ subst (λ (q : Question). IsFormed p q) same (record { capacities = places; bounds = bounds })
  | inr later ↦ absurd (none_in question later)
]

-- questions of one resource's units
pub singles_formed : (p : Project) (floors roofs : List ℕ) (k : ℕ) (window : Bounds) → length roofs ≡ p.resources → HasBounds p window → AreFormed p (single_questions floors roofs k window)
singles_formed p floors roofs k window places bounds =
    mapped_formed p (λ units. question_of (set roofs k units) window) (numbers_between (slice_index floors k) (slice_index roofs k))
    (λ units. record { capacities = length-set roofs k units ∙ places; bounds = bounds })

-- questions of one job's starts
pub starts_formed : (p : Project) (capacities : List ℕ) (window : Bounds) (i : ℕ) → length capacities ≡ p.resources → HasBounds p window → AreFormed p (start_questions capacities window i)
starts_formed p capacities window i places bounds =
    mapped_formed p (λ start. question_of capacities (window_at window i start)) (numbers_between (slice_index window.lower i) (slice_index window.upper i))
    (λ start. record {
      capacities = places;
      bounds = record { lower = length-set window.lower i start ∙ bounds.lower; upper = length-set window.upper i start ∙ bounds.upper };
    })

-- questions of a box
pub box_formed : (p : Project) (terms : Terms) (floors roofs : List ℕ) (pairs : List (ℕ × ℕ)) (window : Bounds) (questions : List Question) → AreBoxQuestions terms floors roofs pairs window questions →
    length floors ≡ p.resources → HasBounds p window → AreFormed p questions
box_formed p terms floors roofs pairs window questions h places bounds question c =
    let same : question.window ≡ window = All-contains (λ (q : Question). q.window ≡ window) questions question h.windows c in
    let is : question ≡ question_of question.capacities window = ap (λ (w : Bounds). question_of question.capacities w) same in
    let there = (h.members question.capacities).0 (subst (λ (q : Question). Contains questions q) is c) in
    record {
      capacities = there.between.places ∙ places;
      bounds = subst (λ (w : Bounds). HasBounds p w) (sym same) bounds;
    }
