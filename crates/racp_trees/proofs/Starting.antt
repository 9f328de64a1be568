-- The set of the jobs that start before a time, as it is collected; and what it tells of nodes.
use Rattle.std.proofs.Common.{◌≡◌, ◌↔◌, ◌⊎◌, inl, inr, ℕ, ◌+◌, ◌<◌, ◌≤◌, List, [], length, slice_index, arith, subst, ap, Contains, All}
use Rattle.std.proofs.lemmas.List.Kept.{AllPairs-from_increasing}
use Rattle.std.proofs.lemmas.Bool.{cases_lt}
use Rattle.std.specs.List.Sorted.{IsStrictlyIncreasing}
use Rattle.racp_model.specs.Project.{Project, number, place, IsNumber, IsSound}
use Rattle.racp_model.specs.Path.{IsEarly}
use Rattle.racp_model.specs.JobSets.{AreJobs, IsInserted}
use Rattle.racp_model.proofs.lemmas.Relations.{no_member, same_from_members}
use Rattle.racp_cpm.proofs.lemmas.Bounded.{some_starts}
use Rattle.racp_cutset.specs.Covering.{SearchNode, IsNode, IsStarted, AreStartedBefore, Covers, FitsBeforeTime}
use Rattle.racp_cutset.specs.Told.{started_from_sets}
use Rattle.racp_trees.specs.Records.{IsRecordOf, RecordCovers}
use Rattle.racp_trees.specs.declared.record.Record.{Record}

-- of the jobs before place n those that start before the time
pub record AreStartedBelow (early : List ℕ) (time n : ℕ) (started : List ℕ) : Type 0 where
  pub rises : IsStrictlyIncreasing started
  pub only : (job : ℕ) → Contains started job → IsNumber n job × (slice_index early (place job) < time)
  pub all : (job : ℕ) → IsNumber n job → slice_index early (place job) < time → Contains started job

-- none at the start
pub started-none : (early : List ℕ) (time : ℕ) → AreStartedBelow early time 0 []
started-none early time = record {
  rises = λ k l. absurd (omega arith);
  only = λ job c. absurd (no_member job c);
  all = λ job is a. absurd (omega (arith, is.0, is.1));
}

-- the place of a job below n + 1 is below n, or n
pub next-number : (n job : ℕ) → IsNumber (n + 1) job → IsNumber n job ⊎ (job ≡ number n)
next-number n job is = elim (cases_lt n job) [ inl last ↦ inr (omega (arith, is.1)) | inr before ↦ inl (is.0, before) ]

-- one more
pub started-more : (early : List ℕ) (time n : ℕ) (started new : List ℕ) → AreStartedBelow early time n started → slice_index early n < time → IsInserted started (number n) new → AreJobs new → AreStartedBelow early time (n + 1) new
started-more early time n started new h a inserted are = record {
  rises = are.rises;
  only = λ other c. elim ((inserted other).0 c) [
    | inl same ↦ ((omega (arith, same), omega (arith, same)), (let e : n ≡ place other = omega (arith, same) in subst (λ (i : ℕ). slice_index early i < time) e a))
    | inr old ↦ let o = h.only other old in ((o.0.0, omega (arith, o.0.1)), o.1)
  ];
  all = λ other is b. elim (next-number n other is) [
    | inl before ↦ (inserted other).1 (inr (h.all other before b))
    | inr last ↦ (inserted other).1 (inl last)
  ];
}

-- or the same
pub started-same : (early : List ℕ) (time n : ℕ) (started : List ℕ) → AreStartedBelow early time n started → time ≤ slice_index early n → AreStartedBelow early time (n + 1) started
started-same early time n started h later = record {
  rises = h.rises;
  only = λ other c. (let o = h.only other c in ((o.0.0, omega (arith, o.0.1)), o.1));
  all = λ other is b. elim (next-number n other is) [
    | inl before ↦ h.all other before b
    | inr last ↦ absurd (
        let e : place other ≡ n = omega (arith, last) in
        let at : slice_index early n < time = subst (λ (i : ℕ). slice_index early i < time) e b in
        omega (arith, at, later))
  ];
}

-- at the end all
pub started-end : (early : List ℕ) (time n : ℕ) (started : List ℕ) → n ≡ length early → AreStartedBelow early time n started → AreStartedBefore early time started
started-end early time n started e h =
    let g : AreStartedBelow early time (length early) started = subst (λ (m : ℕ). AreStartedBelow early time m started) e h in
    record { rises = g.rises; members = λ job. (g.only job, λ h'. g.all job h'.0 h'.1) }

-- the started jobs of one node are in the set of another with the same started jobs
started_within : (p : Project) (v w : SearchNode) (s r : List ℕ) → IsNode p v → IsNode p w → AreStartedBefore v.early v.time s → AreStartedBefore w.early w.time r
    → ((i : ℕ) → i < length p.jobs → IsStarted v i → IsStarted w i) → (job : ℕ) → Contains s job → Contains r job
started_within p v w s r hv hw first second into job c =
    let is = (first.members job).0 c in
    (second.members job).1 ((is.0.0, omega (arith, is.0.1, hv.early.places, hw.early.places)), into (place job) (omega (arith, is.0.0, is.0.1, hv.early.places)) is.1)

-- nodes with the same started jobs have equal sets
sets_from_started : (p : Project) (v w : SearchNode) (s r : List ℕ) → IsNode p v → IsNode p w → AreStartedBefore v.early v.time s → AreStartedBefore w.early w.time r
    → ((i : ℕ) → i < length p.jobs → IsStarted v i ↔ IsStarted w i) → s ≡ r
sets_from_started p v w s r hv hw first second same =
    same_from_members (λ x y. x < y) (λ x y a b. absurd (omega arith)) s r (AllPairs-from_increasing s first.rises) (AllPairs-from_increasing r second.rises)
    (started_within p v w s r hv hw first second (λ i l. (same i l).0)) (started_within p w v r s hw hv second first (λ i l. (same i l).1))

-- early starts above bounds of at most 20,000,000 are at most 25,120,000
pub early_small : (p : Project) (lower early : List ℕ) → IsSound p → length lower ≡ length p.jobs → All (λ x. x ≤ 20000000) lower → IsEarly p (slice_index lower) early
    → (i : ℕ) → i < length p.jobs → slice_index early i ≤ 25120000
early_small p lower early sound places small h i l =
    let some = some_starts p (slice_index lower) 20000000 sound (λ j m. small j 0 (omega (arith, places))) in
    omega (arith, some.1.small i l, h.least some.0 some.1.above some.1.precedence i l)

-- one record covers another where its node covers the other's
module _ (p : Project) (v w : SearchNode) (r s : Record) (hv : IsNode p v) (hw : IsNode p w) (fits : FitsBeforeTime p v) (upper : v.window.upper ≡ w.window.upper) (is_r : IsRecordOf p v r) (is_s : IsRecordOf p w s) where
  at : (xs ys : List ℕ) → xs ≡ ys → (i : ℕ) → slice_index xs i ≡ slice_index ys i
  at xs ys same i = ap (λ (zs : List ℕ). slice_index zs i) same

  there : RecordCovers r s → Covers p v w
  there h =
      let started = started_from_sets p v w r.started s.started hv hw is_r.started is_s.started h.started in
      record {
        room = record {
          capacities = λ k l. omega (arith, h.capacities k (omega (arith, l, hv.resources, ap (λ (xs : List ℕ). length xs) is_r.capacities)), at r.capacities.items v.capacities is_r.capacities k, at s.capacities.items w.capacities is_s.capacities k);
          upper = λ i l. omega (arith, at v.window.upper w.window.upper upper i);
        };
        cutset = record { started = started; time = omega (arith, h.time, is_r.time, is_s.time) };
        ends = λ i l is. omega (arith, h.bounds i (omega (arith, l, is_r.places)), is_r.ends i l is, is_s.ends i l ((started i l).0 is));
        lower = λ i l later. omega (arith, h.bounds i (omega (arith, l, is_r.places)), is_r.lower i l later, is_s.lower i l (not_started i l later));
        fits = fits;
      }
    where
      not_started : (i : ℕ) → i < length p.jobs → v.time ≤ slice_index v.early i → w.time ≤ slice_index w.early i
      not_started i l later = elim (cases_lt (slice_index w.early i) w.time) [
        | inl is ↦ absurd (let also = ((started_from_sets p v w r.started s.started hv hw is_r.started is_s.started h.started) i l).1 is in omega (arith, also, later))
        | inr other ↦ other
      ]

  back : Covers p v w → RecordCovers r s
  back h = record {
    capacities = λ k l. omega (arith, h.room.capacities k (omega (arith, l, hv.resources, ap (λ (xs : List ℕ). length xs) is_r.capacities)), at r.capacities.items v.capacities is_r.capacities k, at s.capacities.items w.capacities is_s.capacities k);
    time = omega (arith, h.cutset.time, is_r.time, is_s.time);
    started = sets_from_started p v w r.started s.started hv hw is_r.started is_s.started h.cutset.started;
    bounds = λ i l.
        let j : i < length p.jobs = omega (arith, l, is_r.places) in
        elim (cases_lt (slice_index v.early i) v.time) [
          | inl is ↦ omega (arith, h.ends i j is, h.cutset.time, is_r.ends i j is, is_s.ends i j ((h.cutset.started i j).0 is))
          | inr later ↦ elim (cases_lt (slice_index w.early i) w.time) [
            | inl also ↦ absurd (let is = (h.cutset.started i j).1 also in omega (arith, is, later))
            | inr other ↦ omega (arith, h.lower i j later, h.cutset.time, is_r.lower i j later, is_s.lower i j other)
          ]
        ];
  }

  pub records_cover : RecordCovers r s ↔ Covers p v w
  records_cover = (there, back)
