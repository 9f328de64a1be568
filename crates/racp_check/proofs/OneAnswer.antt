-- The check answers one thing of a plan: what is first is one thing, and of two faults none is before the other.
use Rattle.std.proofs.Common.{◌≡◌, ℕ, zero, suc, ◌<◌, ◌≤◌, inl, inr, List, length, slice_index, Option, Some, None, Ok, Err, Result, IsSomeAnd, IfSome, arith, refl, sym, ◌∙◌, ap, subst}
use Rattle.std.proofs.lemmas.Bool.{cases_lt}
use Rattle.std.proofs.Math.ListN.{get_or-eq_default}
use Rattle.racp_model.specs.Project.{Project, number}
use Rattle.racp_model.specs.Schedule.{KeepsPrecedence, EndsBy, IsWithinCapacities}
use Rattle.racp_model.specs.Path.{IsFirstLate}
use Rattle.racp_model.specs.Terms.{Terms, release_of, due_of, IsWithinCeilings}
use Rattle.racp_model.proofs.lemmas.Lists.{below_suc}
use Rattle.racp_model.proofs.lemmas.Inserting.{cases_arcs}
use Rattle.racp_plan.specs.declared.plan.Plan.{Plan}
use Rattle.racp_check.specs.declared.plan_fault.PlanFault.{PlanFault}
use Rattle.racp_check.specs.declared.plan_fault.PlanFault.TheVariants.{Cost, Late, Order, Over, Ceiling, Early}
use Rattle.racp_check.specs.PlanFaults.{HasRightCost, IsFitting, IsFirstBroken, IsFirstOver, IsFirstAbove, IsFirstEarly, IsChecked, fault_number}

-- of two numbers, one is less or they are equal; where neither can be less, they are equal
pub neither_less : (a b : ℕ) → (a < b → ⊥) → (b < a → ⊥) → a ≡ b
neither_less a b h g = elim (cases_lt a b) [
  | inl less ↦ absurd (h less)
  | inr more ↦ elim (cases_lt b a) [ inl great ↦ absurd (g great) | inr same ↦ omega arith ]
]

-- there is one first late job
pub late_once : (p : Project) (due : ℕ → ℕ) (starts : List ℕ) (i j : ℕ) → IsFirstLate p due starts i → IsFirstLate p due starts j → i ≡ j
late_once p due starts i j h g = neither_less i j (λ l. omega (arith, h.late, g.first i l)) (λ l. omega (arith, g.late, h.first j l))

-- there is one first job that starts too early
pub early_once : (p : Project) (release : ℕ → ℕ) (starts : List ℕ) (i j : ℕ) → IsFirstEarly p release starts i → IsFirstEarly p release starts j → i ≡ j
early_once p release starts i j h g = neither_less i j (λ l. omega (arith, h.early, g.first i l)) (λ l. omega (arith, g.early, h.first j l))

-- there is one first capacity above its ceiling
pub above_once : (p : Project) (ceilings : Option (List ℕ)) (capacities : List ℕ) (i j : ℕ) → IsSomeAnd ceilings (λ c. IsFirstAbove p c capacities i) → IsSomeAnd ceilings (λ c. IsFirstAbove p c capacities j) → i ≡ j
above_once p (Some c) capacities i j h g = neither_less i j (λ l. omega (arith, h.above, g.first i l)) (λ l. omega (arith, g.above, h.first j l))
above_once p None capacities i j h g = absurd h

-- a capacity above its ceiling is not within the ceilings
pub above_within : (p : Project) (ceilings : Option (List ℕ)) (capacities : List ℕ) (k : ℕ) → IsSomeAnd ceilings (λ c. IsFirstAbove p c capacities k) →
    IfSome ceilings (λ c. (k : ℕ) → k < length capacities → slice_index capacities k ≤ slice_index c k) → ⊥
above_within p None capacities k h g = h
above_within p (Some c) capacities k h g = elim (cases_lt k (length capacities)) [
  | inl within ↦ omega (arith, h.above, g k within)
  | inr beyond ↦ omega (arith, h.above, get_or-eq_default capacities 0 beyond)
]

-- there is one first excess
pub over_once : (p : Project) (capacities starts : List ℕ) (k t l s : ℕ) → IsFirstOver p capacities starts k t → IsFirstOver p capacities starts l s → (k ≡ l) × (t ≡ s)
over_once p capacities starts k t l s h g =
    let time : t ≡ s = neither_less t s (λ less. omega (arith, h.over, g.first_time k t h.resource less)) (λ less. omega (arith, g.over, h.first_time l s g.resource less)) in
    let there : IsFirstOver p capacities starts k s = subst (IsFirstOver p capacities starts k) time h in
    (neither_less k l (λ less. omega (arith, there.over, g.first k less)) (λ less. omega (arith, g.over, there.first l less)), time)

-- there is one first pair that is not kept
pub broken_once : (p : Project) (starts : List ℕ) (i j a b : ℕ) → IsFirstBroken p starts i j → IsFirstBroken p starts a b → (i ≡ a) × (j ≡ b)
broken_once p starts i j a b h g = elim (cases_arcs (i, j) (a, b)) [
  | inl same ↦ (ap (λ (x : ℕ × ℕ). x.0) same, ap (λ (x : ℕ × ℕ). x.1) same)
  | inr other ↦ elim other [
    | inl before ↦ absurd (omega (arith, h.broken, g.first i j h.pair before))
    | inr after ↦ absurd (omega (arith, g.broken, h.first a b g.pair after))
  ]
]

-- what the tests of a plan are, by the numbers of their faults
abbrev pub Holds : Project → Terms → Plan → ℕ → Type 0
Holds p terms plan zero = Unit {0}
Holds p terms plan (suc zero) = HasRightCost terms plan
Holds p terms plan (suc (suc zero)) = EndsBy p (due_of terms) plan.starts
Holds p terms plan (suc (suc (suc zero))) = KeepsPrecedence p plan.starts
Holds p terms plan (suc (suc (suc (suc zero)))) = IsWithinCapacities p plan.capacities plan.starts
Holds p terms plan (suc (suc (suc (suc (suc zero))))) = IsWithinCeilings terms plan.capacities
Holds p terms plan (suc (suc (suc (suc (suc (suc n)))))) = (i : ℕ) → i < length p.jobs → release_of terms i ≤ slice_index plan.starts i

-- the tests before the one with number n hold
abbrev pub HoldBefore : Project → Terms → Plan → ℕ → Type 0
HoldBefore p terms plan n = (m : ℕ) → m < n → Holds p terms plan m

module _ (p : Project) (terms : Terms) (plan : Plan) where
  -- one test more, each after those before it
  one : HoldBefore p terms plan 1
  one = below_suc (Holds p terms plan) 0 (λ m l. absurd (omega arith)) tt

  two : HasRightCost terms plan → HoldBefore p terms plan 2
  two cost = below_suc (Holds p terms plan) 1 one cost

  three : HasRightCost terms plan → EndsBy p (due_of terms) plan.starts → HoldBefore p terms plan 3
  three cost ends = below_suc (Holds p terms plan) 2 (two cost) ends

  four : HasRightCost terms plan → EndsBy p (due_of terms) plan.starts → KeepsPrecedence p plan.starts → HoldBefore p terms plan 4
  four cost ends keeps = below_suc (Holds p terms plan) 3 (three cost ends) keeps

  five : HasRightCost terms plan → EndsBy p (due_of terms) plan.starts → KeepsPrecedence p plan.starts → IsWithinCapacities p plan.capacities plan.starts → HoldBefore p terms plan 5
  five cost ends keeps within = below_suc (Holds p terms plan) 4 (four cost ends keeps) within

  six : HasRightCost terms plan → EndsBy p (due_of terms) plan.starts → KeepsPrecedence p plan.starts → IsWithinCapacities p plan.capacities plan.starts →
      IsWithinCeilings terms plan.capacities → HoldBefore p terms plan 6
  six cost ends keeps within below = below_suc (Holds p terms plan) 5 (five cost ends keeps within) below

  -- where nothing is wrong, all tests hold
  all : IsFitting p terms plan → HoldBefore p terms plan 7
  all h = below_suc (Holds p terms plan) 6 (six h.cost h.fits.in_time.ends h.fits.fits.precedence h.fits.fits.within h.ceilings) h.fits.in_time.released

  -- the tests before a fault hold
  pub before : (fault : PlanFault) → IsChecked p terms plan (Err fault) → HoldBefore p terms plan (fault_number fault)
  before Cost h = one
  before (Late job) h = two h.0
  before (Order first second) h = three h.0 h.1
  before (Over resource time) h = four h.0 h.1 h.2
  before (Ceiling resource) h = five h.0 h.1 h.2 h.3
  before (Early job) h = six h.0 h.1 h.2 h.3 h.4

  -- the test of a fault does not hold
  pub fails : (fault : PlanFault) → IsChecked p terms plan (Err fault) → Holds p terms plan (fault_number fault) → ⊥
  fails Cost h holds = h holds
  fails (Late job) h holds = omega (arith, h.1.2.late, holds h.1.0 h.1.2.job)
  fails (Order first second) h holds = omega (arith, h.2.4.broken, holds h.2.0 h.2.1 h.2.4.pair)
  fails (Over resource time) h holds = omega (arith, h.3.2.over, holds h.3.0 time h.3.2.resource)
  fails (Ceiling resource) h holds = above_within p terms.ceilings plan.capacities h.4.0 h.4.2 holds
  fails (Early job) h holds = omega (arith, h.5.2.early, holds h.5.0 h.5.2.job)

  -- of two faults that are answered, none is tested before the other
  numbers : (one other : PlanFault) → IsChecked p terms plan (Err one) → IsChecked p terms plan (Err other) → fault_number one ≡ fault_number other
  numbers one other h g =
      neither_less (fault_number one) (fault_number other) (λ less. fails one h (before other g (fault_number one) less))
      (λ less. fails other g (before one h (fault_number other) less))

  -- so they are of one kind, with the same names
  same : (one other : PlanFault) → fault_number one ≡ fault_number other → IsChecked p terms plan (Err one) → IsChecked p terms plan (Err other) → one ≡ other
  same Cost Cost e h g = refl
  same (Late job) (Late other) e h g = ap Late (sym h.1.1 ∙ ap number (late_once p (due_of terms) plan.starts h.1.0 g.1.0 h.1.2 g.1.2) ∙ g.1.1)
  same (Order first second) (Order third fourth) e h g =
      let pair = broken_once p plan.starts h.2.0 h.2.1 g.2.0 g.2.1 h.2.4 g.2.4 in
      let before : first ≡ third = sym h.2.2 ∙ ap number pair.0 ∙ g.2.2 in
      let after : second ≡ fourth = sym h.2.3 ∙ ap number pair.1 ∙ g.2.3 in
      λ i. Order (before i) (after i)
  same (Over resource time) (Over other moment) e h g =
      let first = over_once p plan.capacities plan.starts h.3.0 time g.3.0 moment h.3.2 g.3.2 in
      let resources : resource ≡ other = sym h.3.1 ∙ ap number first.0 ∙ g.3.1 in
      λ i. Over (resources i) (first.1 i)
  same (Ceiling resource) (Ceiling other) e h g = ap Ceiling (sym h.4.1 ∙ ap number (above_once p terms.ceilings plan.capacities h.4.0 g.4.0 h.4.2 g.4.2) ∙ g.4.1)
  same (Early job) (Early other) e h g = ap Early (sym h.5.1 ∙ ap number (early_once p (release_of terms) plan.starts h.5.0 g.5.0 h.5.2 g.5.2) ∙ g.5.1)
  same one other e h g = absurd (omega (arith, e))

  -- nothing wrong and a fault do not go together
  apart : (fault : PlanFault) → IsFitting p terms plan → IsChecked p terms plan (Err fault) → ⊥
  apart Cost h g = fails Cost g (all h 1 (omega arith))
  apart (Late job) h g = fails (Late job) g (all h 2 (omega arith))
  apart (Order first second) h g = fails (Order first second) g (all h 3 (omega arith))
  apart (Over resource time) h g = fails (Over resource time) g (all h 4 (omega arith))
  apart (Ceiling resource) h g = fails (Ceiling resource) g (all h 5 (omega arith))
  apart (Early job) h g = fails (Early job) g (all h 6 (omega arith))

  -- the check answers one thing
  pub one_answer : (one other : Result (Unit {0}) PlanFault) → IsChecked p terms plan one → IsChecked p terms plan other → one ≡ other
  one_answer (Ok u) (Ok v) h g = refl
  one_answer (Ok u) (Err fault) h g = absurd (apart fault h g)
  one_answer (Err fault) (Ok v) h g = absurd (apart fault g h)
  one_answer (Err one) (Err other) h g = ap Err (same one other (numbers one other h g) h g)
