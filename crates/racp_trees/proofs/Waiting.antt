-- What a record tells of bounds: the wait, or the far bound, of each.
use Rattle.std.proofs.Common.{◌≡◌, inl, inr, ℕ, ◌+◌, ◌-◌, ◌<◌, ◌==◌, min, max, if◌then◌else◌, List, length, slice_index, Bool, true, false, arith, refl, ap, ◌∙◌}
use Rattle.std.proofs.lemmas.Bool.{eqb-true, eqb-false, cases_lt}
use Rattle.racp_model.specs.Project.{Project}
use Rattle.racp_cutset.specs.Covering.{SearchNode, AreStartedBefore}
use Rattle.racp_trees.specs.Records.{wait_of, bound_by, bound_at, IsRecordOf, AreBounds, AreWaits, AreTold}
use Rattle.racp_trees.specs.declared.record.Record.{Record}

-- the bound, or the time where that is later
pub bound-told : (time bound far : ℕ) → (wait_of bound time ≡ 65535 → far ≡ bound) → bound_by time (wait_of bound time) far ≡ max time bound
bound-told time bound far told = go (wait_of bound time == 65535) refl
  where
    wait-is : wait_of bound time ≡ min 65535 (bound - time)
    wait-is = refl

    go : (b : Bool) → (wait_of bound time == 65535) ≡ b → (if b then max time far else time + wait_of bound time) ≡ max time bound
    go true e = ap (λ (x : ℕ). max time x) (told (eqb-true (wait_of bound time) 65535 e))
    go false e = elim (cases_lt (wait_of bound time) 65535) [
      | inl less ↦ omega (arith, wait-is, less)
      | inr more ↦ absurd (eqb-false (wait_of bound time) 65535 e (omega (arith, wait-is, more)))
    ]

-- the record of rows that tell the bounds
pub record-told : (p : Project) (v : SearchNode) (kept : Record) (bounds : List ℕ) → kept.capacities.items ≡ v.capacities → kept.time ≡ v.time → AreStartedBefore v.early v.time kept.started →
    AreBounds p v.window.lower v.early v.time (length p.jobs) bounds → AreWaits bounds v.time (length bounds) kept.waits.items → AreTold bounds kept.waits.items kept.far.value.items → IsRecordOf p v kept
record-told p v kept bounds capacities time started are waits told = record {
  capacities = capacities;
  time = time;
  started = started;
  places = waits.places ∙ are.places;
  ends = λ i l is. at i l ∙ ap (λ (x : ℕ). max v.time x) (are.ended i l is);
  lower = λ i l later. at i l ∙ ap (λ (x : ℕ). max v.time x) (are.bound i l later);
}
  where
    at : (i : ℕ) → i < length p.jobs → bound_at kept i ≡ max v.time (slice_index bounds i)
    at i l =
        let j : i < length bounds = omega (arith, l, are.places) in
        let wait : slice_index kept.waits.items i ≡ wait_of (slice_index bounds i) v.time = waits.told i j in
        ap (λ (t : ℕ). bound_by t (slice_index kept.waits.items i) (slice_index kept.far.value.items i)) time ∙
        (ap (λ (w : ℕ). bound_by v.time w (slice_index kept.far.value.items i)) wait ∙
        bound-told v.time (slice_index bounds i) (slice_index kept.far.value.items i) (λ e. told i j (wait ∙ e)))
