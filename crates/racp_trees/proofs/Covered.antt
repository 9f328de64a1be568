-- Whether a closed node covers the node of a window, told by their records.
use Rattle.std.proofs.Common.{◌≡◌, ◌↔◌, inl, inr, ◌∙◌, ℕ, List, length, slice_index, IsTrue, Bool, arith, refl, sym, subst, ap}
use Rattle.std.specs.Prelude.{Option, Some, None}
use Rattle.std.proofs.lemmas.Bool.{cases_lt}
use Rattle.racp_model.specs.Project.{Project}
use Rattle.racp_model.specs.Path.{IsEarly}
use Rattle.racp_model.specs.Schedule.{IsWithinCapacities}
use Rattle.racp_delay.specs.Branching.{IsFirstExcess, IsConflict}
use Rattle.racp_cutset.specs.Covering.{SearchNode, IsNode, Covers}
use Rattle.racp_cutset.specs.Told.{early_unique}
use Rattle.racp_trees.specs.Trees.{IsNodeOf, IsCovered}
use Rattle.racp_trees.specs.Records.{IsRecordOf, RecordCovers, AreAlike, HasRows, record_at}
use Rattle.racp_trees.specs.Nodes.{AreRecords, HasPlace, IsCoveredHere}
use Rattle.racp_trees.specs.declared.record.Record.{Record}
use Rattle.racp_trees.specs.declared.closed.Closed.{Closed}
use Rattle.racp_trees.proofs.Starting.{records_cover}

-- the node of a window, with its early starts
abbrev pub node_at : List ℕ → List ℕ → List ℕ → List ℕ → ℕ → SearchNode
node_at capacities lower upper early time = record { capacities = capacities; window = record { lower = lower; upper = upper }; early = early; time = time }

pub node_is : (p : Project) (a lower upper early : List ℕ) (v : SearchNode) → IsEarly p (slice_index lower) early → IsNodeOf p a (record { lower = lower; upper = upper }) v → v ≡ node_at a lower upper early v.time
node_is p a lower upper early v h is =
    let e : v.early ≡ early = early_unique p lower lower v.early early refl is.early h in
    λ i. record { capacities = is.of_resources i; window = is.placed i; early = e i; time = v.time }

-- the first conflict is one
pub first_one : (p : Project) (a early : List ℕ) (s t : ℕ) → IsFirstExcess p a early s → IsFirstExcess p a early t → s ≡ t
first_one p a early s t g h = elim (cases_lt s t) [
  | inl less ↦ absurd (omega (arith, h.before g.exceeds.0 s g.exceeds.1 less, g.exceeds.2))
  | inr more ↦ elim (cases_lt t s) [
    | inl less ↦ absurd (omega (arith, g.before h.exceeds.0 t h.exceeds.1 less, h.exceeds.2))
    | inr same ↦ omega (arith, more, same)
  ]
]

module _ (p : Project) (a lower early : List ℕ) (closed : Closed) (number : ℕ) (h : IsEarly p (slice_index lower) early) where
  abbrev Here : List ℕ → List (ℕ × SearchNode) → Type 0
  Here upper nodes = IsCoveredHere p a (record { lower = lower; upper = upper }) nodes number

  -- what it is where the node is known
  covered_at : (upper : List ℕ) (nodes : List (ℕ × SearchNode)) → Here upper nodes → (t : ℕ) × IsCovered p nodes (node_at a lower upper early t) number
  covered_at upper nodes is = (is.0.time, subst (λ (v : SearchNode). IsCovered p nodes v number) (node_is p a lower upper early is.0 h is.1) is.2)

  pub no_conflict : IsWithinCapacities p a early → (upper : List ℕ) (nodes : List (ℕ × SearchNode)) → Here upper nodes → ⊥
  no_conflict within upper nodes is =
      let at = covered_at upper nodes is in
      omega (arith, within at.1.first.exceeds.0 at.0 at.1.first.exceeds.1, at.1.first.exceeds.2)

  pub no_record : HasPlace closed number → ((kept : Record) → record_at closed number ≡ Some (Some kept) → ⊥) → (upper : List ℕ) (nodes : List (ℕ × SearchNode)) → AreRecords p upper nodes closed → Here upper nodes → ⊥
  no_record place none upper nodes are is = go place.0 place.1
    where
      go : (kept : Option Record) → record_at closed number ≡ Some kept → ⊥
      go None e = are.all number is.2.by is.2.is_closed e
      go (Some kept) e = none kept e

  -- the node's record in equal rows
  pub row_of : (b early' : List ℕ) (t : ℕ) (row : Record) (upper : List ℕ) → b ≡ a → early' ≡ early → IsRecordOf p (node_at b lower upper early' t) row → IsRecordOf p (node_at a lower upper early t) row
  row_of b early' t row upper is_b is_early is =
      subst (λ (xs : List ℕ). IsRecordOf p (node_at a lower upper xs t) row) is_early (subst (λ (xs : List ℕ). IsRecordOf p (node_at xs lower upper early' t) row) is_b is)

  pub alike : (by row : Record) (t : ℕ) (upper : List ℕ) → length a ≡ p.resources → HasRows p by → IsRecordOf p (node_at a lower upper early t) row → AreAlike by row
  alike by row t upper places rows is = record {
    capacities = ap (λ (xs : List ℕ). length xs) is.capacities ∙ (places ∙ sym rows.capacities);
    bounds = is.places ∙ sym rows.bounds;
  }

  pub covered_is : (by row : Record) (t : ℕ) (active : List ℕ) (yes' : Bool) → length a ≡ p.resources → length lower ≡ length p.jobs → IsConflict p a early t active → record_at closed number ≡ Some (Some by) → (IsTrue yes' ↔ RecordCovers by row) →
      ((upper : List ℕ) → IsRecordOf p (node_at a lower upper early t) row) → (upper : List ℕ) (nodes : List (ℕ × SearchNode)) → length upper ≡ length p.jobs → AreRecords p upper nodes closed → IsTrue yes' ↔ Here upper nodes
  covered_is by row t active yes' places low conflict at answer rows upper nodes high are =
      let told = are.told number by at in
      let v : SearchNode = told.0 in
      let w : SearchNode = node_at a lower upper early t in
      let own : IsNode p w = record { resources = places; lower = low; upper = high; early = h } in
      let same = records_cover p v w by row (are.node number v told.1) own (are.fits number v told.1) (are.bounds number v told.1) told.2 (rows upper) in (
        λ y. (w, record { of_resources = refl; placed = refl; early = h }, record { first = conflict.first; by = v; is_closed = told.1; covers = same.0 (answer.0 y) }),
        λ is.
            let found = covered_at upper nodes is in
            let when : found.0 ≡ t = first_one p a early found.0 t found.1.first conflict.first in
            let there : Covers p found.1.by w = subst (λ (s : ℕ). Covers p found.1.by (node_at a lower upper early s)) when found.1.covers in
            answer.1 (same.1 (subst (λ (x : SearchNode). Covers p x w) (are.one number found.1.by v found.1.is_closed told.1) there)),
      )
