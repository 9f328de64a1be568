-- A sweep over the pairs that raises ranks.
use Rattle.std.proofs.Common.{◌≡◌, ◌≢◌, ℕ, ◌+◌, ◌*◌, ◌-◌, ◌<◌, ◌≤◌, inl, inr, Bool, true, false, List, length, slice_index, set, arith, ap, refl, ◌∙◌, subst, below_more, get_or-set_same}
use Rattle.std.proofs.Math.ListN.{length-set}
use Rattle.racp_model.specs.Project.{AreNumbers}
use Rattle.racp_model.specs.Schedule.{sum_below}
use Rattle.racp_model.specs.Ranks.{from_at, to_at, RisesAlong, lower_count, IsLowUnder, AreBelow, total, IsRaised}
use Rattle.racp_model.proofs.lemmas.Sums.{sum_below-lt, sum_below-bound}
use Rattle.racp_model.proofs.lemmas.Arcs.{from_at-below, to_at-below}
use Rattle.racp_model.proofs.lemmas.Lists.{at_set}
use Rattle.racp_model.proofs.lemmas.Ranking.{lower_count-rises, lower_count-below}

-- the ranks after the pairs before k
pub record IsSweeping (arcs : List (ℕ × ℕ)) (old : List ℕ) (k : ℕ) (raised : Bool) (rank : List ℕ) : Type 0 where
  pub places : length rank ≡ length old
  pub below : AreBelow (length old) rank
  pub low : (ranking : ℕ → ℕ) → RisesAlong arcs ranking → IsLowUnder ranking old → IsLowUnder ranking rank
  pub least : total old ≤ total rank
  pub kept : raised ≡ false → rank ≡ old
  pub seen : raised ≡ false → (q : ℕ) → q < k → slice_index old (from_at arcs q) < slice_index old (to_at arcs q)
  pub more : raised ≡ true → total old < total rank

-- before the first pair
pub sweeping-start : (arcs : List (ℕ × ℕ)) (old : List ℕ) → AreBelow (length old) old → IsSweeping arcs old 0 false old
sweeping-start arcs old below = record {
  places = refl;
  below = below;
  low = λ ranking rises h. h;
  least = omega arith;
  kept = λ e. refl;
  seen = λ e q l. absurd (omega arith);
  more = λ e. cc;
}

-- a pair along which the rank rises already
pub sweeping-skip : (arcs : List (ℕ × ℕ)) (old : List ℕ) (k : ℕ) (raised : Bool) (rank : List ℕ) (from to : ℕ) → IsSweeping arcs old k raised rank → from ≡ from_at arcs k → to ≡ to_at arcs k → slice_index rank from < slice_index rank to
    → IsSweeping arcs old (k + 1) raised rank
sweeping-skip arcs old k raised rank from to h ef et up = record {
  places = h.places;
  below = h.below;
  low = h.low;
  least = h.least;
  kept = h.kept;
  seen = λ e. below_more (λ q. slice_index old (from_at arcs q) < slice_index old (to_at arcs q)) k (h.seen e) (
      let P : List ℕ → Type 0 = λ (xs : List ℕ). slice_index xs (from_at arcs k) < slice_index xs (to_at arcs k) in
      subst P (h.kept e) (rw (← ef, ← et) up)
      );
  more = h.more;
}

-- a raised rank is still below what a ranking allows
pub raised-low : (arcs : List (ℕ × ℕ)) (rank : List ℕ) (k from to : ℕ) (ranking : ℕ → ℕ) → AreNumbers (length rank) arcs → k < length arcs → from ≡ from_at arcs k → to ≡ to_at arcs k → RisesAlong arcs ranking → IsLowUnder ranking rank
    → slice_index rank from + 1 ≤ lower_count (length rank) ranking to
raised-low arcs rank k from to ranking numbers l ef et rises low =
    let in' : from < length rank = rw ef (from_at-below arcs (length rank) k numbers l) in
    let up : ranking from < ranking to = rw (ef, et) (rises k l) in
    omega (arith, low from in', lower_count-rises (length rank) ranking from to in' up)

-- a pair along which the rank has to be raised
pub sweeping-raise : (arcs : List (ℕ × ℕ)) (old : List ℕ) (k : ℕ) (raised : Bool) (rank : List ℕ) (from to : ℕ) → AreNumbers (length old) arcs → k < length arcs → IsSweeping arcs old k raised rank → from ≡ from_at arcs k → to ≡ to_at arcs k
    → slice_index rank to ≤ slice_index rank from → slice_index rank from + 1 ≢ length rank → IsSweeping arcs old (k + 1) true (set rank to (slice_index rank from + 1))
sweeping-raise arcs old k raised rank from to numbers l h ef et down room =
    let numbers' : AreNumbers (length rank) arcs = rw h.places numbers in
    let to_in : to < length rank = rw et (to_at-below arcs (length rank) k numbers' l) in
    let from_in : from < length rank = rw ef (from_at-below arcs (length rank) k numbers' l) in
    let new : List ℕ = set rank to (slice_index rank from + 1) in
    let same : length (set rank to (slice_index rank from + 1)) ≡ length rank = length-set rank to (slice_index rank from + 1) in
    let grows : sum_below (length rank) (slice_index rank) < sum_below (length rank) (slice_index (set rank to (slice_index rank from + 1))) =
    sum_below-lt (length rank) (slice_index rank) (slice_index (set rank to (slice_index rank from + 1))) to
    (λ i o. elim (at_set rank to (slice_index rank from + 1) i to_in) [
      | inl here ↦ let e : slice_index rank i ≡ slice_index rank to = ap (slice_index rank) here.0 in omega (arith, here.1)
      | inr there ↦ omega (arith, there.1)
    ]) to_in (let e : slice_index (set rank to (slice_index rank from + 1)) to ≡ slice_index rank from + 1 = get_or-set_same rank to (slice_index rank from + 1) 0 to_in in omega arith) in
    record {
      places = same ∙ h.places;
      below = λ i o. elim (at_set rank to (slice_index rank from + 1) i to_in) [
        | inl here ↦ omega (arith, here.1, h.below from from_in, h.places)
        | inr there ↦ omega (arith, there.1, h.below i (omega (arith, same)))
      ];
      low = λ ranking rises before.
          let low : IsLowUnder ranking rank = h.low ranking rises before in
          λ i o. rw same (elim (at_set rank to (slice_index rank from + 1) i to_in) [
            | inl here ↦ rw (here.1, here.0) (raised-low arcs rank k from to ranking numbers' l ef et rises low)
            | inr there ↦ rw there.1 (low i (omega (arith, same)))
          ]);
      least = rw same (omega (arith, h.least));
      kept = λ e. cc;
      seen = λ e. cc;
      more = λ e. rw same (omega (arith, h.least));
    }

-- a rank that would reach the number of jobs leaves no ranking
pub sweeping-ring : (arcs : List (ℕ × ℕ)) (old : List ℕ) (k : ℕ) (raised : Bool) (rank : List ℕ) (from to : ℕ) → AreNumbers (length old) arcs → k < length arcs → IsSweeping arcs old k raised rank → from ≡ from_at arcs k → to ≡ to_at arcs k
    → slice_index rank from + 1 ≡ length rank → (ranking : ℕ → ℕ) → RisesAlong arcs ranking → IsLowUnder ranking old → ⊥
sweeping-ring arcs old k raised rank from to numbers l h ef et full ranking rises before =
    let numbers' : AreNumbers (length rank) arcs = rw h.places numbers in
    let to_in : to < length rank = rw et (to_at-below arcs (length rank) k numbers' l) in
    omega (arith, raised-low arcs rank k from to ranking numbers' l ef et rises (h.low ranking rises before), lower_count-below (length rank) ranking to to_in)

-- a sweep that raised no rank found that they rise
pub sweeping-settled : (arcs : List (ℕ × ℕ)) (old rank : List ℕ) → IsSweeping arcs old (length arcs) false rank → (rank ≡ old) × RisesAlong arcs (slice_index old)
sweeping-settled arcs old rank h = (h.kept refl, h.seen refl)

-- a sweep that raised a rank raised none too far
pub sweeping-raised : (arcs : List (ℕ × ℕ)) (old : List ℕ) (k : ℕ) (rank : List ℕ) → IsSweeping arcs old k true rank → IsRaised arcs old rank
sweeping-raised arcs old k rank h = record {
  places = h.places;
  below = h.below;
  more = h.more refl;
  low = h.low;
}

-- ranks below a number are together at most its product with how many they are
pub total-most : (rank : List ℕ) (n : ℕ) → AreBelow n rank → total rank ≤ length rank * n
total-most rank n below = sum_below-bound (length rank) n (slice_index rank) (λ i l. omega (arith, below i l))

-- raised ranks leave less to the most that there can be
pub total-nearer : (arcs : List (ℕ × ℕ)) (old new : List ℕ) → IsRaised arcs old new → length new * length new - total new < length old * length old - total old
total-nearer arcs old new h =
    let same : length new * length new ≡ length old * length old = ap (λ n. n * n) h.places in
    let row : length new * length old ≡ length old * length old = ap (λ n. n * length old) h.places in
    omega (arith, h.more, total-most new (length old) h.below)
