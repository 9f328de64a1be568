-- Core usage: it is greatest at some late start, and no starts in the window avoid it.
use Rattle.std.proofs.Common.{◌≡◌, ℕ, ◌+◌, ◌<◌, ◌≤◌, List, length, slice_index, nat_cmp, inl, inr, arith, rules, ap, subst}
use Rattle.std.specs.Ordering.{ord_max}
use Rattle.std.proofs.lemmas.Bool.{cases_lt}
use Rattle.racp_model.specs.Project.{Project, duration, request}
use Rattle.racp_model.specs.Plan.{IsLeast}
use Rattle.racp_model.specs.Window.{Bounds}
use Rattle.racp_model.proofs.lemmas.Parts.{part, parts-within}
use Rattle.racp_model.specs.CoreTimes.{core_use, core_usage}
use Rattle.racp_bounds.specs.Floors.{IsAtCore}

-- a core usage is within a bound where it is at each late start
pub core-within : (p : Project) (root : Bounds) (k most : ℕ) → ((j : ℕ) → j < length p.jobs → core_usage p root k (slice_index root.upper j) ≤ most) → IsAtCore p root k most
unfolding core_use part
core-within p root k most = parts-within (slice_index root.upper) (λ i. slice_index root.lower i + duration p i) (λ i. request p i k) (length p.jobs) most

-- the greatest core usage at a late start is the greatest at any time
pub greatest_core : (p : Project) (root : Bounds) (k most n : ℕ) (late : List ℕ) → late ≡ root.upper → n ≡ length p.jobs →
    IsLeast ◌<◌ (λ units. (j : ℕ) → j < n → core_usage p root k (slice_index late j) ≤ units) most → IsLeast ◌<◌ (IsAtCore p root k) most
greatest_core p root k most n late same all h = record {
  is = core-within p root k most
      (λ j l.
      let P : List ℕ → Type 0 = λ starts. core_usage p root k (slice_index starts j) ≤ most in
      subst P same (h.is j (omega (arith, l, all))));
  least = λ other at less. h.least other (λ j l. at (slice_index late j)) less;
}

-- the greatest of the first values, and of one more
pub greatest_next : (f : ℕ → ℕ) (most n value next : ℕ) → value ≡ f n → next ≡ ord_max nat_cmp most value →
    IsLeast ◌<◌ (λ units. (j : ℕ) → j < n → f j ≤ units) most → IsLeast ◌<◌ (λ units. (j : ℕ) → j < n + 1 → f j ≤ units) next
greatest_next f most n value next is greater h =
    let at : most ≤ next = search (rules, greater) in
    let above : value ≤ next = search (rules, greater) in
    record {
      is = λ j l. elim (cases_lt j n) [
        | inl before ↦ omega (arith, h.is j before, at)
        | inr after ↦
            let same : j ≡ n = omega (arith, l, after) in
            omega (arith, ap f same, is, above)
      ];
      least = λ other all less. elim (cases_lt other most) [
        | inl lesser ↦ h.least other (λ j l. all j (omega (arith, l))) lesser
        | inr more ↦ search (rules, all n (omega arith), is, greater, less, more)
      ];
    }
