-- Windows that are narrowed step by step, and one bound that is moved.
use Rattle.std.proofs.Common.{◌≡◌, ℕ, ◌<◌, ◌≤◌, inl, inr, Bool, true, false, List, length, slice_index, set, arith, ap, subst, ◌∙◌}
use Rattle.std.proofs.lemmas.List.{length-set}
use Rattle.racp_model.specs.Project.{Project}
use Rattle.racp_model.specs.Formed.{HasBounds}
use Rattle.racp_model.specs.Schedule.{KeepsPrecedence}
use Rattle.racp_model.specs.Window.{Bounds, Answers, IsNo}
use Rattle.racp_model.proofs.lemmas.Lists.{at_set}
use Rattle.racp_timetable.specs.Narrowing.{IsAboveBefore, IsNarrowed, IsNarrowedOrNo}
use Rattle.racp_timetable.specs.Moving.{IsRaised, IsReduced}

-- a window is narrowed to itself
pub narrowed-same : (p : Project) (capacities : List ℕ) (from : ℕ) (window : Bounds) → HasBounds p window → IsNarrowed p capacities from window window
narrowed-same p capacities from window bounds = record {
  bounds = bounds;
  inside = record { lower = λ i l. omega arith; upper = λ i l. omega arith };
  answers = λ starts answers. answers.lies;
  early = λ starts keeps above. above;
}

-- narrowed twice it is narrowed, or nothing answers in it
pub narrowed-again : (p : Project) (capacities : List ℕ) (from : ℕ) (window middle narrow : Bounds) (answer : Bool) → IsNarrowed p capacities from window middle → IsNarrowedOrNo p capacities from middle narrow answer → IsNarrowedOrNo p capacities from window narrow answer
narrowed-again p capacities from window middle narrow true first second = record {
  bounds = second.bounds;
  inside = record {
    lower = λ i l. omega (arith, first.inside.lower i l, second.inside.lower i l);
    upper = λ i l. omega (arith, first.inside.upper i l, second.inside.upper i l);
  };
  answers = λ starts answers. second.answers starts (record { lies = first.answers starts answers; fits = answers.fits });
  early = λ starts keeps above. second.early starts keeps (first.early starts keeps above);
}
narrowed-again p capacities from window middle narrow false first second =
    λ starts answers. second starts (record { lies = first.answers starts answers; fits = answers.fits })

module _ (p : Project) (capacities : List ℕ) (from : ℕ) (window middle narrow : Bounds) (answer : Bool) (first : IsNarrowed p capacities from window middle) (second : IsNarrowedOrNo p capacities from middle narrow answer) where
  -- the first of these where the second time told that it is
  pub narrowed-on : answer ≡ true → IsNarrowed p capacities from window narrow
  narrowed-on is = let P : Bool → Type 0 = IsNarrowedOrNo p capacities from window narrow in subst P is (narrowed-again p capacities from window middle narrow answer first second)

  -- and the other where it told that nothing answers
  pub narrowed-no : answer ≡ false → IsNo p capacities window
  narrowed-no is = let P : Bool → Type 0 = IsNarrowedOrNo p capacities from window narrow in subst P is (narrowed-again p capacities from window middle narrow answer first second)

module _ (p : Project) (capacities : List ℕ) (from : ℕ) (window moved : Bounds) (i time : ℕ) (bounds : HasBounds p window) (job : i < length p.jobs) where
  -- a lower bound may be raised to a time before which the job starts in no answer
  pub raised : (answer : Bool) → slice_index window.lower i ≤ time → ((starts : List ℕ) → Answers p capacities window starts → time ≤ slice_index starts i) →
      ((starts : List ℕ) → KeepsPrecedence p starts → IsAboveBefore p window from starts → time < from → time ≤ slice_index starts i) → IsRaised window i time moved answer → IsNarrowedOrNo p capacities from window moved answer
  raised true up behind along is =
      let in' : i < length window.lower = omega (arith, bounds.lower) in
      let lower : moved.lower ≡ set window.lower i time = ap (λ (b : Bounds). b.lower) is in
      let upper : moved.upper ≡ window.upper = ap (λ (b : Bounds). b.upper) is in
      let at : (j : ℕ) → slice_index moved.lower j ≡ slice_index (set window.lower i time) j = λ j. ap (λ (xs : List ℕ). slice_index xs j) lower in
      let same : (j : ℕ) → slice_index moved.upper j ≡ slice_index window.upper j = λ j. ap (λ (xs : List ℕ). slice_index xs j) upper in
      record {
        bounds = record { lower = ap length lower ∙ (length-set window.lower i time ∙ bounds.lower); upper = ap length upper ∙ bounds.upper };
        inside = record {
          lower = λ j l. elim (at_set window.lower i time j in') [
            | inl here ↦ omega (arith, at j, here.1, up, ap (slice_index window.lower) here.0)
            | inr there ↦ omega (arith, at j, there.1)
          ];
          upper = λ j l. omega (arith, same j);
        };
        answers = λ starts answers. record {
          places = answers.lies.places;
          above = λ j l. elim (at_set window.lower i time j in') [
            | inl here ↦ omega (arith, at j, here.1, behind starts answers, ap (slice_index starts) here.0)
            | inr there ↦ omega (arith, at j, there.1, answers.lies.above j l)
          ];
          below = λ j l. omega (arith, same j, answers.lies.below j l);
        };
        early = λ starts keeps above j l less. elim (at_set window.lower i time j in') [
          | inl here ↦ omega (arith, at j, here.1, less, along starts keeps above (omega (arith, at j, here.1, less)), ap (slice_index starts) here.0)
          | inr there ↦ omega (arith, at j, there.1, above j l (omega (arith, at j, there.1, less)))
        ];
      }
  raised false up behind along is = λ starts answers. omega (arith, is, behind starts answers, answers.lies.below i job)

  -- an upper bound may be lowered to a time after which it starts in no answer
  pub reduced : (answer : Bool) → time ≤ slice_index window.upper i → ((starts : List ℕ) → Answers p capacities window starts → slice_index starts i ≤ time) → IsReduced window i time moved answer → IsNarrowedOrNo p capacities from window moved answer
  reduced true down until is =
      let in' : i < length window.upper = omega (arith, bounds.upper) in
      let lower : moved.lower ≡ window.lower = ap (λ (b : Bounds). b.lower) is in
      let upper : moved.upper ≡ set window.upper i time = ap (λ (b : Bounds). b.upper) is in
      let same : (j : ℕ) → slice_index moved.lower j ≡ slice_index window.lower j = λ j. ap (λ (xs : List ℕ). slice_index xs j) lower in
      let at : (j : ℕ) → slice_index moved.upper j ≡ slice_index (set window.upper i time) j = λ j. ap (λ (xs : List ℕ). slice_index xs j) upper in
      record {
        bounds = record { lower = ap length lower ∙ bounds.lower; upper = ap length upper ∙ (length-set window.upper i time ∙ bounds.upper) };
        inside = record {
          lower = λ j l. omega (arith, same j);
          upper = λ j l. elim (at_set window.upper i time j in') [
            | inl here ↦ omega (arith, at j, here.1, down, ap (slice_index window.upper) here.0)
            | inr there ↦ omega (arith, at j, there.1)
          ];
        };
        answers = λ starts answers. record {
          places = answers.lies.places;
          above = λ j l. omega (arith, same j, answers.lies.above j l);
          below = λ j l. elim (at_set window.upper i time j in') [
            | inl here ↦ omega (arith, at j, here.1, until starts answers, ap (slice_index starts) here.0)
            | inr there ↦ omega (arith, at j, there.1, answers.lies.below j l)
          ];
        };
        early = λ starts keeps above j l less. omega (arith, same j, above j l (omega (arith, same j, less)));
      }
  reduced false down until is = λ starts answers. omega (arith, is, until starts answers, answers.lies.above i job)
