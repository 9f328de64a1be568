-- What a line says of the node of a window, told by its early starts.
use Rattle.std.proofs.Common.{◌≡◌, ◌↔◌, ◌∙◌, ℕ, ◌<◌, ◌≤◌, List, [], ◌∷◌, ◌++◌, length, slice_index, All, IsTrue, Bool, arith, refl, sym, subst, ap}
use Rattle.std.specs.Prelude.{Some, None}
use Rattle.racp_model.specs.Project.{Project, IsSound, place, IsNumber}
use Rattle.racp_model.specs.Path.{IsEarly}
use Rattle.racp_model.specs.Window.{Bounds}
use Rattle.racp_model.specs.Limits.{most_bound, most_start}
use Rattle.racp_delay.specs.Branching.{IsConflict}
use Rattle.racp_cutset.specs.Covering.{SearchNode}
use Rattle.racp_trees.specs.Trees.{IsNodeOf, IsTooLate}
use Rattle.racp_trees.specs.Rows.{early_of}
use Rattle.racp_trees.specs.Following.{IsOpened}
use Rattle.racp_trees.specs.Nodes.{IsDivisionAnswer}
use Rattle.racp_trees.specs.Enough.{IsAtMost}
use Rattle.racp_trees.specs.Readers.{IsOpenedBy}
use Rattle.racp_trees.specs.declared.branch.Branch.{Branch}
use Rattle.racp_trees.specs.declared.reader.Reader.{Reader}
use Rattle.racp_trees.proofs.Rounds.{early_is}
use Rattle.racp_trees.proofs.Covered.{node_at, node_is}

module _ (p : Project) (a lower upper early : List ℕ) (h : IsEarly p (slice_index lower) early) where
  abbrev window : Bounds
  window = record { lower = lower; upper = upper }

  -- L
  pub late_is : (job : ℕ) (yes' : Bool) → (IsTrue yes' ↔ (IsNumber (length early) job × (slice_index upper (place job) < slice_index early (place job)))) → IsTrue yes' ↔ ((v : SearchNode) × IsNodeOf p a window v × IsTooLate p v job)
  late_is job yes' answer = (
    λ y.
        let is = answer.0 y in
        (node_at a lower upper early 0, record { of_resources = refl; placed = refl; early = h }, record { named = (is.0.0, omega (arith, is.0.1, h.places)); late = is.1 }),
    λ found.
        let late : IsTooLate p (node_at a lower upper early found.0.time) job = subst (λ (v : SearchNode). IsTooLate p v job) (node_is p a lower upper early found.0 h found.1) found.2 in
        answer.1 ((late.named.0, omega (arith, late.named.1, h.places)), late.late),
  )

  -- D
  opened_parts : (time : ℕ) (v : SearchNode) (active : List ℕ) → IsOpened p a window time v active → IsAtMost (length early) early upper × IsConflict p a early time active
  opened_parts time v active o =
      let is : IsOpened p a window time (node_at a lower upper early v.time) active = subst (λ (x : SearchNode). IsOpened p a window time x active) (node_is p a lower upper early v h o.is) o in
      (λ i l. is.below i (omega (arith, l, h.places)), subst (λ (t : ℕ). IsConflict p a early t active) is.at is.clash)

  pub not_divided : (time : ℕ) → IsDivisionAnswer p a upper early time None → (v : SearchNode) (active : List ℕ) → IsOpened p a window time v active → ⊥
  not_divided time none v active o = let parts = opened_parts time v active o in none active parts.0 parts.1

  -- the branch that is opened
  pub divided_by : (time : ℕ) (active : List ℕ) (branch : Branch) (old new : Reader) → IsSound p → IsDivisionAnswer p a upper early time (Some active) → length lower ≡ length p.jobs → All (λ x. x ≤ most_bound) lower → length upper ≡ length p.jobs → All (λ x. x ≤ most_start) upper →
      branch.lower ≡ lower → branch.active ≡ active → branch.time ≡ time → branch.number ≡ old.number → branch.last.items ≡ [] → new.branches.items ≡ old.branches.items ++ branch ∷ [] → new.closed ≡ old.closed →
      IsOpenedBy p a window time old new
  divided_by time active branch old new sound answer low small high top is_lower is_active is_time is_number is_last pushed kept =
      let is_early : early_of p branch.lower ≡ early = ap (λ (xs : List ℕ). early_of p xs) is_lower ∙ early_is p lower early sound h in
      let conflict : IsConflict p a (early_of p branch.lower) branch.time branch.active =
      subst (λ (xs : List ℕ). IsConflict p a xs branch.time branch.active) (sym is_early) (subst (λ (t : ℕ). IsConflict p a early t branch.active) (sym is_time) (subst (λ (xs : List ℕ). IsConflict p a early time xs) (sym is_active) answer.1)) in
      let starts : IsEarly p (slice_index branch.lower) (early_of p branch.lower) =
      subst (λ (xs : List ℕ). IsEarly p (slice_index xs) (early_of p branch.lower)) (sym is_lower) (subst (λ (xs : List ℕ). IsEarly p (slice_index lower) xs) (sym is_early) h) in
      record {
        branch = branch;
        is = record {
          places = ap (λ (xs : List ℕ). length xs) is_lower ∙ low;
          small = subst (λ (xs : List ℕ). All (λ x. x ≤ most_bound) xs) (sym is_lower) small;
          starts = starts;
          below = λ i l. omega (arith, ap (λ (xs : List ℕ). slice_index xs i) is_early, answer.0 i (omega (arith, l, h.places)), top i 0 (omega (arith, l, high)));
          conflict = conflict;
        };
        opened = record {
          is = record { of_resources = refl; placed = λ i. record { lower = is_lower i; upper = upper }; early = subst (λ (xs : List ℕ). IsEarly p (slice_index lower) xs) (sym is_early) h };
          below = λ i l. omega (arith, ap (λ (xs : List ℕ). slice_index xs i) is_early, answer.0 i (omega (arith, l, h.places)));
          at = is_time;
          clash = conflict;
        };
        number = is_number;
        last = is_last;
        branches = pushed;
        closed = kept;
      }
