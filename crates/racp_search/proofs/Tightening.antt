-- A window that is tightened before it is searched: nothing is lost, nothing new conflicts, and it weighs no more.
use Rattle.std.proofs.Common.{◌≡◌, ℕ, ◌+◌, ◌-◌, ◌*◌, ◌<◌, ◌≤◌, inl, inr, List, [], ◌∷◌, length, slice_index, nat_le, if◌then◌else◌, arith, refl, subst, Option, Some, None}
use Rattle.std.proofs.Math.Nat.{pow-le-pow_right}
use Rattle.std.proofs.lemmas.Bool.{cases_lt}
use Rattle.std.proofs.lemmas.Bool.Decides.{nat_tests}
use Rattle.racp_model.specs.Project.{Project, IsSound}
use Rattle.racp_model.specs.Schedule.{IsActive, use_of, sum_below}
use Rattle.racp_model.specs.Path.{IsEarly}
use Rattle.racp_model.specs.Window.{Bounds, IsInside}
use Rattle.racp_model.proofs.lemmas.Arcs.{precedes_in}
use Rattle.racp_model.proofs.lemmas.Lists.{row, row-at}
use Rattle.racp_model.proofs.lemmas.Relations.{member_first}
use Rattle.racp_model.proofs.lemmas.Sums.{sum_below-mono, sum_below-term}
use Rattle.racp_model.proofs.lemmas.Usage.{use_of-active, use_of-idle, active_cases}
use Rattle.racp_cpm.proofs.lemmas.SomeEarly.{some_early}
use Rattle.racp_timetable.specs.Narrowing.{IsNarrowed, IsTightened}
use Rattle.racp_timetable.specs.declared.tightening.Tightened.{Tightened}
use Rattle.racp_delay.specs.Laws.{lower_sum}
use Rattle.racp_search.specs.DepthFirst.{SearchFrame, open_parts, IsQuiet, IsSearchingNext, most_lists, weight}
use Rattle.racp_search.specs.DepthFirst.Part.{all_of}
use Rattle.racp_search.specs.Steps.{IsEntered}
use Rattle.racp_search.proofs.Stacks.{inside-sum, part-of_part, beneath-narrow, one, searching-replaced}
use Rattle.racp_search.proofs.Weights.{weights-append, weights-one}

-- what is told of a window, in equal projects
pub same_tightened : (p q : Project) (a b : List ℕ) (from : ℕ) (window : Bounds) (told : Tightened) → p ≡ q → a ≡ b → IsTightened p a from window told → IsTightened q b from window told
same_tightened p q a b from window told named same h =
    subst (λ (xs : List ℕ). IsTightened q xs from window told) same (subst (λ (r : Project). IsTightened r a from window told) named h)

-- a window inside another weighs no more
pub inside-lighter : (p : Project) (window narrow : Bounds) → IsInside p window narrow → weight p (all_of narrow) ≤ weight p (all_of window)
unfolding weight
inside-lighter p window narrow inside =
    pow-le-pow_right (let l : 0 < most_lists + 1 = omega arith in l) (let l : (length p.jobs * 10000000 + 1) - lower_sum p narrow ≤ (length p.jobs * 10000000 + 1) - lower_sum p window = omega (arith, inside-sum p window narrow inside) in l)

-- a number from a time on stays, another gives way
unfoldable pick : ℕ → ℕ → ℕ → ℕ
pick from a b = if nat_le from a then a else b

pick-late : (from a b : ℕ) → from ≤ a → pick from a b ≡ a
unfolding pick
pick-late from a b late = grind (arith, nat_tests)

pick-soon : (from a b : ℕ) → a < from → pick from a b ≡ b
unfolding pick
pick-soon from a b soon = grind (arith, nat_tests)

module _ (p : Project) (capacities : List ℕ) (from : ℕ) (window narrow : Bounds) (told : IsNarrowed p capacities from window narrow) (sound : IsSound p) where
  -- early starts of the tightened window that are before the time are those of the window
  module _ (old new : List ℕ) (first : IsEarly p (slice_index window.lower) old) (next : IsEarly p (slice_index narrow.lower) new) where
    pub early-no_sooner : (i : ℕ) → i < length p.jobs → slice_index old i ≤ slice_index new i
    early-no_sooner = first.least new (λ i l. omega (arith, told.inside.lower i l, next.above i l)) next.precedence

    starts : List ℕ
    starts = row (length p.jobs) (λ i. pick from (slice_index new i) (slice_index old i))

    starts-late : (i : ℕ) → i < length p.jobs → from ≤ slice_index new i → slice_index starts i ≡ slice_index new i
    unfolding starts
    starts-late i l late = omega (arith, row-at (length p.jobs) (λ i. pick from (slice_index new i) (slice_index old i)) i l, pick-late from (slice_index new i) (slice_index old i) late)

    starts-soon : (i : ℕ) → i < length p.jobs → slice_index new i < from → slice_index starts i ≡ slice_index old i
    unfolding starts
    starts-soon i l soon = omega (arith, row-at (length p.jobs) (λ i. pick from (slice_index new i) (slice_index old i)) i l, pick-soon from (slice_index new i) (slice_index old i) soon)

    starts-no_later : (i : ℕ) → i < length p.jobs → slice_index starts i ≤ slice_index new i
    starts-no_later i l = elim (cases_lt (slice_index new i) from) [
      | inl soon ↦ omega (arith, starts-soon i l soon, early-no_sooner i l)
      | inr late ↦ omega (arith, starts-late i l late)
    ]

    pub early-no_later : (i : ℕ) → i < length p.jobs → slice_index new i < from → slice_index new i ≤ slice_index old i
    early-no_later i l soon =
        omega (
          arith,
          starts-soon i l soon,
          next.least starts
              (λ j m. elim (cases_lt (slice_index new j) from) [
                | inl before ↦ omega (arith, starts-soon j m before, told.early old first.precedence (λ k n less. first.above k n) j m (omega (arith, next.above j m, before)))
                | inr after ↦ omega (arith, starts-late j m after, next.above j m)
              ])
              (λ j k order.
              let in' = precedes_in p j k sound order in
              elim (cases_lt (slice_index new k) from) [
                | inl before ↦ omega (arith, starts-soon k in'.1 before, starts-soon j in'.0 (omega (arith, next.precedence j k order, before)), first.precedence j k order)
                | inr after ↦ omega (arith, starts-late k in'.1 after, starts-no_later j in'.0, next.precedence j k order)
              ])
              i l,
        )

    -- so before the time they use no more
    pub early-uses : (k s i : ℕ) → s < from → i < length p.jobs → use_of p new k s i ≤ use_of p old k s i
    early-uses k s i before l = elim (active_cases p new s i) [
      | inl active ↦
          let started : slice_index new i ≤ s = active.started in
          let soon : slice_index new i ≤ slice_index old i = early-no_later i l (omega arith) in
          let there : IsActive p old s i = record { started = omega (arith, early-no_sooner i l); runs = omega (arith, active.runs) } in
          omega (arith, use_of-active p new k s i active, use_of-active p old k s i there)
      | inr idle ↦ omega (arith, use_of-idle p new k s i idle)
    ]

  -- the tightened window is as quiet
  pub narrowed-quiet : IsQuiet p capacities window from → IsQuiet p capacities narrow from
  narrowed-quiet quiet new next k s r before =
      let old = some_early p sound (slice_index window.lower) (sum_below (length p.jobs) (slice_index window.lower)) (λ i l. sum_below-term (length p.jobs) (slice_index window.lower) i l) in
      omega (arith, quiet old.0 old.1 k s r before, sum_below-mono (length p.jobs) (use_of p new k s) (use_of p old.0 k s) (λ i l. early-uses old.0 new old.1 next k s i before l))

  module _ (whole : Bounds) (stack : List SearchFrame) where
    -- it may be searched next in place of the window
    pub narrowed-next : IsSearchingNext p capacities whole stack window from → IsSearchingNext p capacities whole stack narrow from
    narrowed-next h = record {
      state = searching-replaced p capacities whole stack (all_of window ∷ []) (all_of narrow ∷ []) h.state
          (one p capacities whole window (all_of narrow ∷ []) (λ starts lies fits. (all_of narrow, member_first (all_of narrow) [] (all_of narrow) refl, told.answers starts (record { lies = lies; fits = fits }))));
      part = part-of_part p whole window narrow h.part (record { bounds = told.bounds; inside = told.inside });
      beneath = beneath-narrow p whole stack window narrow h.beneath (record { bounds = told.bounds; inside = told.inside });
      quiet = narrowed-quiet h.quiet;
    }

    -- and once it was entered, the window was
    pub narrowed-entered : (new : List SearchFrame) (answer : Option (List ℕ)) → IsEntered p capacities whole stack narrow new answer → IsEntered p capacities whole stack window new answer
    narrowed-entered new (Some starts) h = h
    narrowed-entered new None h = record {
      state = h.state;
      lighter = omega (
        arith,
        h.lighter,
        weights-append p (open_parts stack) (all_of narrow ∷ []),
        weights-append p (open_parts stack) (all_of window ∷ []),
        weights-one p (all_of narrow),
        weights-one p (all_of window),
        inside-lighter p window narrow told.inside,
      );
    }
