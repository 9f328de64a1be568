-- A project of one job that runs for no time, and true findings of two windows: in one of them a start answers, in the
-- other none does.
use Rattle.std.proofs.Common.{◌≡◌, inl, inr, ℕ, zero, suc, ◌<◌, ◌≤◌, Bool, true, false, if◌then◌else◌, List, [], ◌∷◌, map, slice_index, Contains, refl, subst, arith}
use Rattle.racp_model.specs.Project.{Project, request}
use Rattle.racp_model.specs.Schedule.{sum_below, use_of, usage, is_active, Fits}
use Rattle.racp_model.specs.Window.{Bounds, LiesIn, Answers, IsInside, WindowsCover}
use Rattle.racp_model.specs.Formed.{HasBounds, IsFormed, AreFormed}
use Rattle.racp_model.specs.declared.question.Question.{Question}
use Rattle.racp_model.proofs.lemmas.Relations.{member_cases, member_first, member_later, no_member}
use Rattle.racp_search.specs.Truth.{IsRestOf}

abbrev pub idle : Project
idle = record { resources = 1; jobs = record { duration = 0; requests = 0 ∷ [] } ∷ []; arcs = [] }

abbrev pub units : List ℕ
units = 0 ∷ []

-- with an answer, or without
abbrev pub window_of : Bool → Bounds
window_of true = record { lower = 0 ∷ []; upper = 0 ∷ [] }
window_of false = record { lower = 1 ∷ []; upper = 0 ∷ [] }

abbrev pub question_of : Bool → Question
question_of answered = record { capacities = units; window = window_of answered }

bounds_of : (b : Bool) → HasBounds idle (window_of b)
bounds_of true = record { lower = refl; upper = refl }
bounds_of false = record { lower = refl; upper = refl }

pub formed : (bs : List Bool) → AreFormed idle (map question_of bs)
formed [] question c = absurd (no_member question c)
formed (b ∷ bs) question c = elim (member_cases (question_of b) (map question_of bs) question c) [
  | inl is ↦ subst (λ (q : Question). IsFormed idle q) is (record { capacities = refl; bounds = bounds_of b })
  | inr later ↦ formed bs question later
]

-- nothing is used
none_of_either : (b : Bool) (x : ℕ) → x ≡ 0 → (if b then x else 0) ≡ 0
none_of_either true x e = e
none_of_either false x e = refl

none_requested : (k : ℕ) → slice_index (0 ∷ []) k ≡ 0
none_requested zero = refl
none_requested (suc k) = refl

none_used : (k t : ℕ) → usage idle (0 ∷ []) k t ≡ 0
unfolding sum_below use_of request
none_used k t = (let none : (if is_active idle (0 ∷ []) t 0 then slice_index (0 ∷ []) k else 0) ≡ 0 = none_of_either (is_active idle (0 ∷ []) t 0) (slice_index (0 ∷ []) k) (none_requested k) in omega (arith, none))

starts_fit : Fits idle units (0 ∷ [])
starts_fit = record {
  precedence = λ i j p. absurd (omega (arith, p.1));
  within = λ k t l. (let none = none_used k t in omega (arith, none));
}

pub answers : Answers idle units (window_of true) (0 ∷ [])
answers = record {
  lies = record { places = refl; above = λ i l. omega arith; below = λ i l. omega arith };
  fits = starts_fit;
}

none_answers : (starts : List ℕ) → LiesIn idle (window_of false) starts → ⊥
none_answers starts lies = (let low = lies.above 0 (omega arith) in let high = lies.below 0 (omega arith) in omega (arith, low, high))

-- whether one of some windows has an answer
abbrev pub any_of : List Bool → Bool
any_of [] = false
any_of (true ∷ bs) = true
any_of (false ∷ bs) = any_of bs

some_answered : (bs : List Bool) → any_of bs ≡ true → Contains (map window_of bs) (window_of true)
some_answered [] e = absurd (cc e)
some_answered (true ∷ bs) e = member_first (window_of true) (map window_of bs) (window_of true) refl
some_answered (false ∷ bs) e = member_later (window_of false) (map window_of bs) (window_of true) (some_answered bs e)

-- each of them has an answer only where one has
one_of : (bs : List Bool) (part : Bounds) → Contains (map window_of bs) part → (b : Bool) × (window_of b ≡ part) × (b ≡ true → any_of bs ≡ true)
one_of [] part c = absurd (no_member part c)
one_of (true ∷ bs) part c = elim (member_cases (window_of true) (map window_of bs) part c) [
  | inl is ↦ (true, is, λ e. refl)
  | inr later ↦ (let one = one_of bs part later in (one.0, one.1, λ e. refl))
]
one_of (false ∷ bs) part c = elim (member_cases (window_of false) (map window_of bs) part c) [
  | inl is ↦ (false, is, λ e. absurd (cc e))
  | inr later ↦ one_of bs part later
]

inside_of : (a b : Bool) → (b ≡ true → a ≡ true) → IsInside idle (window_of a) (window_of b)
inside_of true true h = record { lower = λ i l. omega arith; upper = λ i l. omega arith }
inside_of true false h = record { lower = below; upper = λ i l. omega arith }
  where
    below : (i : ℕ) → i < 1 → slice_index (0 ∷ []) i ≤ slice_index (1 ∷ []) i
    below zero l = omega arith
    below (suc i) l = absurd (omega (arith, l))
inside_of false true h = absurd (let bad = h refl in cc bad)
inside_of false false h = record { lower = λ i l. omega arith; upper = λ i l. omega arith }

covered : (bs : List Bool) (a : Bool) → any_of bs ≡ a → WindowsCover idle units (window_of a) (map window_of bs)
covered bs true e starts answer = (window_of true, some_answered bs e, answer.lies)
covered bs false e starts answer = absurd (none_answers starts answer.lies)

pub rest_is : (bs : List Bool) → IsRestOf idle units (window_of (any_of bs)) (map window_of bs)
rest_is bs = record {
  covers = covered bs (any_of bs) refl;
  inside = λ part c. (let one = one_of bs part c in subst (λ (w : Bounds). IsInside idle (window_of (any_of bs)) w) one.1 (inside_of (any_of bs) one.0 one.2));
  bounds = λ part c. (let one = one_of bs part c in subst (λ (w : Bounds). HasBounds idle w) one.1 (bounds_of one.0));
}
