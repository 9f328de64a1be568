-- Why the rows of a record tell one node at most. These are proofs, which the ghost field of a record needs; nothing here has to be
-- believed.
use Rattle.std.proofs.Common.{◌≡◌, ◌↔◌, ◌∙◌, ℕ, ◌<◌, inl, inr, List, length, slice_index, Contains, arith, refl, sym, subst}
use Rattle.std.proofs.lemmas.Bool.{cases_lt}
use Rattle.std.proofs.lemmas.List.{ext_get_or}
use mathlib.Core.Logic.{∥∥₁_elim, ∥∥₁_prop}
use mathlib.Core.HLevel.{Σ_prop_path}
use Rattle.std.specs.Coded.{Coded, Coded-set, code_by, coded×, coded_ℕ, coded_list}
use Rattle.racp_model.specs.Project.{Project, number, place}
use Rattle.racp_model.specs.Path.{IsEarly}
use Rattle.racp_cutset.specs.Covering.{SearchNode, IsNode, IsStarted, AreStartedBefore}
use Rattle.racp_cutset.specs.Records.{IsPacked, Told}

-- a job is in the set of the started jobs if it is started, and only then
pub in_started : (n : ℕ) (early : List ℕ) (time : ℕ) (started : List ℕ) → length early ≡ n → AreStartedBefore early time started → (i : ℕ) → i < n → (slice_index early i < time) ↔ Contains started (number i)
in_started n early time started places h i l =
    let e : place (number i) ≡ i = omega arith in
    let P : ℕ → Type 0 = λ j. slice_index early j < time in
    (λ before. (h.members (number i)).1 ((omega arith, omega (arith, places)), subst P (sym e) before), λ c. subst P e ((h.members (number i)).0 c).1)

-- nodes of the same number of jobs whose sets of started jobs are equal have the same started jobs
pub started_from_sets : (p : Project) (v w : SearchNode) (s r : List ℕ) → IsNode p v → IsNode p w → AreStartedBefore v.early v.time s → AreStartedBefore w.early w.time r → s ≡ r
    → (i : ℕ) → i < length p.jobs → IsStarted v i ↔ IsStarted w i
started_from_sets p v w s r hv hw first second same i l =
    let a = in_started (length p.jobs) v.early v.time s hv.early.places first i l in
    let b = in_started (length p.jobs) w.early w.time r hw.early.places second i l in
    (λ x. b.1 (subst (λ (xs : List ℕ). Contains xs (number i)) same (a.0 x)), λ x. a.1 (subst (λ (xs : List ℕ). Contains xs (number i)) (sym same) (b.0 x)))

-- early starts above equal bounds are equal
pub early_unique : (p : Project) (low high e f : List ℕ) → low ≡ high → IsEarly p (slice_index low) e → IsEarly p (slice_index high) f → e ≡ f
early_unique p low high e f same a b =
    let c : IsEarly p (slice_index low) f = subst (λ (xs : List ℕ). IsEarly p (slice_index xs) f) (sym same) b in
    ext_get_or 0 e f (a.places ∙ sym c.places) (λ i l.
    omega (arith, a.least f c.above c.precedence i (omega (arith, l, a.places)), c.least e a.above a.precedence i (omega (arith, l, a.places))))

module _ (p : Project) (capacities upper bounds started : List ℕ) (time : ℕ) where
  abbrev Packed : SearchNode → Type 0
  Packed = IsPacked p capacities upper bounds started time

  -- two nodes with the same rows have the same started jobs
  pub same_started : (v w : SearchNode) → Packed v → Packed w → (i : ℕ) → i < length p.jobs → IsStarted v i ↔ IsStarted w i
  same_started v w a b = started_from_sets p v w started started a.node b.node a.jobs b.jobs refl

  -- the same lower bounds
  pub same_bound : (v w : SearchNode) → Packed v → Packed w → (i : ℕ) → i < length p.jobs → slice_index v.window.lower i ≡ slice_index w.window.lower i
  same_bound v w a b i l = elim (cases_lt (slice_index v.early i) v.time) [
    | inl yes' ↦ (let also = (same_started v w a b i l).0 yes' in omega (arith, a.ends i l yes', b.ends i l also, a.starts i l yes', b.starts i l also))
    | inr later ↦ elim (cases_lt (slice_index w.early i) w.time) [
      | inl yes' ↦ absurd (let also = (same_started v w a b i l).1 yes' in omega (arith, also, later))
      | inr also ↦ omega (arith, a.lower i l later, b.lower i l also)
    ]
  ]

  pub same_lower : (v w : SearchNode) → Packed v → Packed w → v.window.lower ≡ w.window.lower
  same_lower v w a b = ext_get_or 0 v.window.lower w.window.lower (a.node.lower ∙ sym b.node.lower) (λ i l. same_bound v w a b i (omega (arith, l, a.node.lower)))

  -- so they are one node
  pub same_node : (v w : SearchNode) → Packed v → Packed w → v ≡ w
  same_node v w a b =
      let lower = same_lower v w a b in
      let early = early_unique p v.window.lower w.window.lower v.early w.early lower a.node.early b.node.early in
      let resources = a.of_resources ∙ sym b.of_resources in
      let high = a.of_upper ∙ sym b.of_upper in
      let when = a.of_time ∙ sym b.of_time in
      λ i. record { capacities = resources i; window = record { lower = lower i; upper = high i }; early = early i; time = when i }

abbrev node_code : Coded SearchNode
node_code =
    code_by (List ℕ × (List ℕ × (List ℕ × (List ℕ × ℕ)))) (coded× (coded_list coded_ℕ) (coded× (coded_list coded_ℕ) (coded× (coded_list coded_ℕ) (coded× (coded_list coded_ℕ) coded_ℕ))))
    (λ v. (v.capacities, (v.window.lower, (v.window.upper, (v.early, v.time)))))
    (λ t. record { capacities = t.0; window = record { lower = t.1.0; upper = t.1.1.0 }; early = t.1.1.1.0; time = t.1.1.1.1 })
    (λ _. refl)

pub node_set : IsSet SearchNode
node_set = Coded-set node_code

-- rows tell one node at most
pub told_once : (p : Project) (capacities upper bounds started : List ℕ) (time : ℕ) → IsProp (Told p capacities upper bounds started time)
told_once p capacities upper bounds started time a b =
    Σ_prop_path (λ v. ∥∥₁_prop)
    (∥∥₁_elim a.1 (node_set a.0 b.0) (λ x. ∥∥₁_elim b.1 (node_set a.0 b.0) (λ y. same_node p capacities upper bounds started time a.0 b.0 x y)))
