-- The starts of the jobs are fixed one after another, each at its least start.
use Rattle.std.proofs.Common.{◌≡◌, ◌∙◌, ◌⊎◌, ℕ, ◌+◌, ◌-◌, ◌<◌, ◌≤◌, List, length, slice_index, inl, inr, Some, All, refl, sym, ap, subst, arith}
use Rattle.std.proofs.lemmas.Bool.{cases_lt}
use Rattle.std.proofs.lemmas.Grind.{same_number_lists}
use Rattle.std.proofs.lemmas.List.{length-set}
use Rattle.std.proofs.lemmas.List.Elements.{All-from_get_or}
use Rattle.std.proofs.lemmas.List.FromFn.{get_or-map-range_with_len, length-map-range_with_len}
use Rattle.racp_model.specs.Project.{Project}
use Rattle.racp_model.specs.Schedule.{Fits, KeepsPrecedence}
use Rattle.racp_model.specs.Path.{IsEarly}
use Rattle.racp_model.specs.Terms.{IsLexBefore}
use Rattle.racp_model.specs.Plan.{IsLeast}
use Rattle.racp_model.specs.Window.{Bounds, LiesIn, Answers, IsYes, IsNo}
use Rattle.racp_model.specs.Formed.{HasBounds}
use Rattle.racp_model.specs.declared.question.Question.{Question}
use Rattle.racp_model.proofs.lemmas.Lists.{at_set}
use Rattle.racp_model.proofs.lemmas.Orders.{lex_from_first}
use Rattle.racp_model.proofs.lemmas.Costs.{lex_apart, lex_one_way}
use Rattle.racp_questions.specs.FirstYes.{IsFirstYes, question_at, no_question, AreNoBefore}
use Rattle.racp_candidates.specs.Questions.{question_of, window_at, start_questions}
use Rattle.racp_by_questions.specs.Fixing.{HasSchedule, IsSettledEarly, IsLeastStart, IsAfterFront, IsFixedBefore}

-- the questions of one job's starts
module _ (p : Project) (capacities : List ℕ) (window : Bounds) (j : ℕ) where
  -- there is one for each start from the lower to the upper bound
  pub question_count : length (start_questions capacities window j) ≡ slice_index window.upper j + 1 - slice_index window.lower j
  question_count = length-map-range_with_len (λ start. question_of capacities (window_at window j start)) (slice_index window.lower j) (slice_index window.upper j + 1 - slice_index window.lower j)

  -- the question at a place is that of the lower bound and so much later
  pub start_question : (i start : ℕ) → i < slice_index window.upper j + 1 - slice_index window.lower j → slice_index window.lower j + i ≡ start →
      question_at (start_questions capacities window j) i ≡ question_of capacities (window_at window j start)
  start_question i start l e =
      get_or-map-range_with_len (λ start. question_of capacities (window_at window j start)) (slice_index window.lower j) (slice_index window.upper j + 1 - slice_index window.lower j) i start no_question l e

  -- so a question that is a no says that no starts answer there
  no_start : (i start : ℕ) → i < slice_index window.upper j + 1 - slice_index window.lower j → slice_index window.lower j + i ≡ start →
      IsNo p (question_at (start_questions capacities window j) i).capacities (question_at (start_questions capacities window j) i).window → IsYes p capacities (window_at window j start) → ⊥
  no_start i start l e none some = subst (λ (q : Question). IsNo p q.capacities q.window) (start_question i start l e) none some.0 some.1

  -- the first yes is at a start up to the upper bound
  pub start_within : (index : ℕ) → IsFirstYes p (start_questions capacities window j) (Some index) → slice_index window.lower j + index ≤ slice_index window.upper j
  start_within index h = omega (arith, h.0, question_count)

  -- that is the least start
  pub start_least : (index : ℕ) → IsFirstYes p (start_questions capacities window j) (Some index) → IsLeastStart p capacities window j (slice_index window.lower j + index)
  start_least index h =
      let within : index < slice_index window.upper j + 1 - slice_index window.lower j = omega (arith, h.0, question_count) in
      record {
        is = record {
          above = omega arith;
          below = start_within index h;
          yes = subst (λ (q : Question). IsYes p q.capacities q.window) (start_question index (slice_index window.lower j + index) within refl) h.1;
        };
        least = λ start one less.
            let i = start - slice_index window.lower j in
            let before : i < index = omega (arith, one.above, less) in
            no_start i start (omega (arith, before, within)) (omega (arith, one.above)) (h.2 i before) one.yes;
      }

  -- starts that lie in the window lie in it with the job's bounds at its start
  pub lies_at : (starts : List ℕ) → j < length p.jobs → HasBounds p window → LiesIn p window starts → LiesIn p (window_at window j (slice_index starts j)) starts
  lies_at starts in' bounds lies = record {
    places = lies.places;
    above = λ i l. elim (at_set window.lower j (slice_index starts j) i (omega (arith, in', bounds.lower))) [
      | inl here ↦ omega (arith, here.1, ap (slice_index starts) here.0)
      | inr other ↦ omega (arith, other.1, lies.above i l)
    ];
    below = λ i l. elim (at_set window.upper j (slice_index starts j) i (omega (arith, in', bounds.upper))) [
      | inl here ↦ omega (arith, here.1, ap (slice_index starts) here.0)
      | inr other ↦ omega (arith, other.1, lies.below i l)
    ];
  }

  -- not each question is a no where the window is a yes
  pub some_start : j < length p.jobs → HasBounds p window → IsYes p capacities window → AreNoBefore p (start_questions capacities window j) (length (start_questions capacities window j)) → ⊥
  some_start in' bounds some none =
      let starts = some.0 in
      let answers : Answers p capacities window starts = some.1 in
      let i = slice_index starts j - slice_index window.lower j in
      let low = answers.lies.above j in' in
      let high = answers.lies.below j in' in
      let within : i < slice_index window.upper j + 1 - slice_index window.lower j = omega (arith, low, high) in
      no_start i (slice_index starts j) within (omega (arith, low)) (none i (omega (arith, within, question_count)))
      (starts, record { lies = lies_at starts in' bounds answers.lies; fits = answers.fits })

-- the early starts of a window with a schedule are small
pub early_small : (p : Project) (window : Bounds) (early : List ℕ) → HasSchedule p window → HasBounds p window → All (λ x. x ≤ 10000000) window.upper → IsEarly p (slice_index window.lower) early → All (λ x. x ≤ 20000000) early
early_small p window early some bounds small e =
    All-from_get_or (λ x. x ≤ 20000000) early 0
    (λ k l.
    let m : k < length p.jobs = omega (arith, l, e.places) in
    let top : slice_index window.upper k ≤ 10000000 = small k 0 (omega (arith, m, bounds.upper)) in
    omega (arith, e.least some.0 some.1.above some.2 k m, some.1.below k m, top))

module _ (p : Project) (capacities : List ℕ) (root : Bounds) where
  -- at first nothing is fixed
  pub fixed_none : HasBounds p root → IsYes p capacities root → IsFixedBefore p capacities root 0 root
  fixed_none bounds some = record { bounds = bounds; yes = some; inside = λ starts lies. lies; fixed = λ i l. absurd (omega (arith, l)); others = λ starts answers. inl answers.lies }

  module _ (n : ℕ) (window settled : Bounds) (h : IsFixedBefore p capacities root n window) (e : IsSettledEarly p window settled) where
    -- what lies in the window and keeps precedence lies above its early starts
    settled_lies : (starts : List ℕ) → LiesIn p window starts → KeepsPrecedence p starts → LiesIn p settled starts
    settled_lies starts lies keeps = record {
      places = lies.places;
      above = e.early.least starts lies.above keeps;
      below = λ i l. omega (arith, lies.below i l, ap (λ (u : List ℕ). slice_index u i) e.upper);
    }

    lies_settled : (starts : List ℕ) → LiesIn p settled starts → LiesIn p window starts
    lies_settled starts lies = record {
      places = lies.places;
      above = λ i l. omega (arith, lies.above i l, e.early.above i l);
      below = λ i l. omega (arith, lies.below i l, ap (λ (u : List ℕ). slice_index u i) e.upper);
    }

    pub settled_yes : IsYes p capacities settled
    settled_yes = (h.yes.0, record { lies = settled_lies h.yes.0 h.yes.1.lies h.yes.1.fits.precedence; fits = h.yes.1.fits })

    pub settled_bounds : HasBounds p settled
    settled_bounds = record { lower = e.early.places; upper = ap length e.upper ∙ h.bounds.upper }

    -- fixed starts stay
    same_front : (i : ℕ) → i < n → i < length p.jobs → slice_index settled.lower i ≡ slice_index window.lower i
    same_front i l m =
        let lies = settled_yes.1.lies in
        omega (arith, e.early.above i m, lies.above i m, lies.below i m, ap (λ (u : List ℕ). slice_index u i) e.upper, h.fixed i l)

    module _ (start : ℕ) (in' : n < length p.jobs) (least : IsLeastStart p capacities settled n start) where
      abbrev new : Bounds
      new = window_at settled n start

      new_lower : (i : ℕ) → ((i ≡ n) × (slice_index new.lower i ≡ start)) ⊎ ((i ≡ n → ⊥) × (slice_index new.lower i ≡ slice_index settled.lower i))
      new_lower i = at_set settled.lower n start i (omega (arith, in', settled_bounds.lower))

      new_upper : (i : ℕ) → ((i ≡ n) × (slice_index new.upper i ≡ start)) ⊎ ((i ≡ n → ⊥) × (slice_index new.upper i ≡ slice_index settled.upper i))
      new_upper i = at_set settled.upper n start i (omega (arith, in', settled_bounds.upper))

      front_now : (i : ℕ) → i < n → slice_index new.lower i ≡ slice_index window.lower i
      front_now i l = elim (new_lower i) [
        | inl here ↦ absurd (omega (arith, here.0, l))
        | inr other ↦ other.1 ∙ same_front i l (omega (arith, l, in'))
      ]

      inside_now : (starts : List ℕ) → LiesIn p new starts → LiesIn p settled starts
      inside_now starts lies = record {
        places = lies.places;
        above = λ i l. elim (new_lower i) [
          | inl here ↦ omega (arith, lies.above i l, here.1, least.is.above, ap (slice_index settled.lower) here.0)
          | inr other ↦ omega (arith, lies.above i l, other.1)
        ];
        below = λ i l. elim (new_upper i) [
          | inl here ↦ omega (arith, lies.below i l, here.1, least.is.below, ap (slice_index settled.upper) here.0)
          | inr other ↦ omega (arith, lies.below i l, other.1)
        ];
      }

      fixed_now : (i : ℕ) → i < n + 1 → slice_index new.lower i ≡ slice_index new.upper i
      fixed_now i l = elim (new_lower i) [
        | inl here ↦ elim (new_upper i) [
          | inl also ↦ here.1 ∙ sym also.1
          | inr other ↦ absurd (other.0 here.0)
        ]
        | inr other ↦ elim (new_upper i) [
          | inl also ↦ absurd (other.0 also.0)
          | inr too ↦
              let less : i < n = omega (arith, l, other.0) in
              other.1 ∙ (same_front i less (omega (arith, less, in')) ∙ (h.fixed i less ∙ (sym (ap (λ (u : List ℕ). slice_index u i) e.upper) ∙ sym too.1)))
        ]
      ]

      -- what answers and lies in the settled window lies in the new one, or comes later
      later : (starts : List ℕ) → LiesIn p settled starts → Fits p capacities starts → LiesIn p new starts ⊎ IsAfterFront (n + 1) new.lower starts
      later starts lies fits = elim (cases_lt (slice_index starts n) start) [
        | inl less ↦ absurd (least.least (slice_index starts n) (record {
          above = lies.above n in';
          below = lies.below n in';
          yes = (starts, record { lies = lies_at p capacities settled n starts in' settled_bounds lies; fits = fits });
        }) less)
        | inr more ↦ elim (cases_lt start (slice_index starts n)) [
          | inl after ↦ inr (
            n,
            omega arith,
            (λ q m.
                let l : q < length p.jobs = omega (arith, m, in') in
                omega (arith, front_now q m, same_front q m l, h.fixed q m, lies.above q l, lies.below q l, ap (λ (u : List ℕ). slice_index u q) e.upper)),
            elim (new_lower n) [
              | inl here ↦ omega (arith, here.1, after)
              | inr other ↦ absurd (other.0 refl)
            ],
          )
          | inr least' ↦
              let same : slice_index starts n ≡ start = omega (arith, more, least') in
              inl (subst (λ (s : ℕ). LiesIn p (window_at settled n s) starts) same (lies_at p capacities settled n starts in' settled_bounds lies))
        ]
      ]

      -- one more job is fixed
      pub fixed_one : IsFixedBefore p capacities root (n + 1) new
      fixed_one = record {
        bounds = record { lower = length-set settled.lower n start ∙ settled_bounds.lower; upper = length-set settled.upper n start ∙ settled_bounds.upper };
        yes = least.is.yes;
        inside = λ starts lies. h.inside starts (lies_settled starts (inside_now starts lies));
        fixed = fixed_now;
        others = λ starts answers. elim (h.others starts answers) [
          | inl lies ↦ later starts (settled_lies starts lies answers.fits.precedence) answers.fits
          | inr after ↦ inr (after.0, omega (arith, after.1), (λ q m. front_now q (omega (arith, m, after.1)) ∙ after.2 q m), omega (arith, front_now after.0 after.1, after.3))
        ];
      }

  -- where each job is fixed, the lower bounds are the least starts
  module _ (window : Bounds) (h : IsFixedBefore p capacities root (length p.jobs) window) where
    is_lower : (starts : List ℕ) → LiesIn p window starts → starts ≡ window.lower
    is_lower starts lies = same_number_lists starts window.lower (lies.places ∙ sym h.bounds.lower)
        (λ k l. let m : k < length p.jobs = omega (arith, l, lies.places) in omega (arith, lies.above k m, lies.below k m, h.fixed k m))

    pub lower_least : IsLeast IsLexBefore (Answers p capacities root) window.lower
    lower_least = record {
      is = subst (λ (starts : List ℕ). Answers p capacities root starts) (is_lower h.yes.0 h.yes.1.lies) (record { lies = h.inside h.yes.0 h.yes.1.lies; fits = h.yes.1.fits });
      least = λ starts answers before. elim (h.others starts answers) [
        | inl lies ↦ lex_apart window.lower (subst (λ (s : List ℕ). IsLexBefore s window.lower) (is_lower starts lies) before)
        | inr after ↦ lex_one_way starts window.lower before (lex_from_first window.lower starts after.0 (omega (arith, after.1, h.bounds.lower)) after.2 after.3)
      ];
    }
