-- On the way up from a task, numbers fall; and lists of leaves, one more each time.
use Rattle.std.proofs.Common.{◌≡◌, ◌∙◌, ℕ, zero, suc, ◌+◌, ◌<◌, ◌≤◌, inl, inr, Bool, true, false, List, [], ◌∷◌, ◌++◌, length, ap, sym, arith, add-one, All}
use Rattle.std.specs.Prelude.{◌==◌, ◌||◌, filter, cond, not}
use Rattle.std.specs.List.{range_with_len}
use Rattle.std.proofs.lemmas.Bool.{cases_lt, cases_eq, ne_eqb, eq-eqb}
use Rattle.std.proofs.lemmas.List.{get_or_past, append-nil}
use Rattle.std.proofs.lemmas.List.Elements.{filter-append, All-same, All-filter}
use Rattle.std.proofs.lemmas.List.FromFn.{length-range_with_len, get_or-range_with_len}
use Rattle.racp_model.specs.Project.{place}
use Rattle.racp_links.specs.Phases.{parent_of, IsOutline, is_in_by, is_phase, leaves}

-- what a task is a part of does not stand after it
parent_at_most : (parents : List ℕ) (task : ℕ) → IsOutline parents → parent_of parents task ≤ task
parent_at_most parents task outline = elim (cases_lt (place task) (length parents)) [
  | inl inside ↦ omega (arith, outline.before (place task) inside)
  | inr outside ↦ omega (arith, get_or_past parents (place task) 0 outside)
]

-- and stands before it
pub parent_before : (parents : List ℕ) (task : ℕ) → IsOutline parents → 1 ≤ task → task ≤ length parents → parent_of parents task < task
parent_before parents task outline one known = omega (arith, outline.before (place task) (omega arith))

-- a task with a lower number is not in the whole
not_below : (parents : List ℕ) (whole steps task : ℕ) → IsOutline parents → task < whole → is_in_by parents whole steps task ≡ false
not_below parents whole zero task outline below = ne_eqb task whole (λ e. omega (arith, e))
not_below parents whole (suc steps) task outline below =
    let rest : Bool = is_in_by parents whole steps (parent_of parents task) in
    ap (λ (b : Bool). b || rest) (ne_eqb task whole (λ e. omega (arith, e)))
    ∙ not_below parents whole steps (parent_of parents task) outline (omega (arith, parent_at_most parents task outline))

-- the whole is in itself
at_whole : (parents : List ℕ) (whole steps task : ℕ) → task ≡ whole → is_in_by parents whole steps task ≡ true
at_whole parents whole zero task same = eq-eqb task whole same
at_whole parents whole (suc steps) task same =
    ap (λ (b : Bool). b || is_in_by parents whole steps (parent_of parents task)) (eq-eqb task whole same)

-- a task with no higher number is in the whole only if it is the whole
pub settled : (parents : List ℕ) (whole steps task : ℕ) → IsOutline parents → task ≤ whole → (task == whole) ≡ is_in_by parents whole steps task
settled parents whole steps task outline most = elim (cases_eq task whole) [
  | inl same ↦ eq-eqb task whole same ∙ sym (at_whole parents whole steps task same)
  | inr apart ↦ ne_eqb task whole apart ∙ sym (not_below parents whole steps task outline (omega (arith, apart)))
]

-- a task with a higher number is in the whole if what it is a part of is
pub climb : (parents : List ℕ) (whole task : ℕ) (answer : Bool) (steps : ℕ) → IsOutline parents → whole < task → task ≤ length parents → task ≤ steps →
    is_in_by parents whole steps task ≡ answer →
    (fewer : ℕ) × (parent_of parents task ≤ fewer) × (is_in_by parents whole fewer (parent_of parents task) ≡ answer)
climb parents whole task answer zero outline above known most is = absurd (omega arith)
climb parents whole task answer (suc steps) outline above known most is =
    let before : parent_of parents task < task = parent_before parents task outline (omega arith) known in
    let rest : Bool = is_in_by parents whole steps (parent_of parents task) in
    let step : ((task == whole) || rest) ≡ rest = ap (λ (b : Bool). b || rest) (ne_eqb task whole (λ e. omega (arith, e))) in
    (steps, omega arith, sym step ∙ is)

-- one number more
pub range_more : (a n : ℕ) → range_with_len a (n + 1) ≡ range_with_len a n ++ (a + n) ∷ []
range_more a n = ap (range_with_len a) (add-one n) ∙ grow a n
  where
    grow : (a n : ℕ) → range_with_len a (suc n) ≡ range_with_len a n ++ (a + n) ∷ []
    grow a zero = ap (λ (m : ℕ). m ∷ []) (omega arith)
    grow a (suc n) =
        let same : (a + 1) + n ≡ a + suc n = omega arith in
        ap (λ (rest : List ℕ). a ∷ rest) (grow (a + 1) n)
        ∙ ap (λ (last : ℕ). a ∷ (range_with_len (a + 1) n ++ last ∷ [])) same

-- of the numbers from 1 on, one more that passes a test
pub filter_more : (test : ℕ → Bool) (n task : ℕ) → task ≡ n + 1 →
    filter test (range_with_len 1 (n + 1)) ≡ filter test (range_with_len 1 n) ++ cond (test task) (task ∷ []) []
filter_more test n task is =
    let same : 1 + n ≡ task = omega arith in
    ap (filter test) (range_more 1 n)
    ∙ filter-append test (range_with_len 1 n) ((1 + n) ∷ [])
    ∙ ap (λ (m : ℕ). filter test (range_with_len 1 n) ++ cond (test m) (m ∷ []) []) same

-- the leaves up to a task that is none
pub no_leaf_more : (phase : ℕ → Bool) (n task : ℕ) (found : List ℕ) → task ≡ n + 1 → phase task ≡ true →
    found ≡ filter (λ a. not (phase a)) (range_with_len 1 n) → found ≡ filter (λ a. not (phase a)) (range_with_len 1 (n + 1))
no_leaf_more phase n task found is holds before =
    let test : ℕ → Bool = λ a. not (phase a) in
    before
    ∙ sym (append-nil (filter test (range_with_len 1 n)))
    ∙ ap (λ (b : Bool). filter test (range_with_len 1 n) ++ cond (not b) (task ∷ []) []) (sym holds)
    ∙ sym (filter_more test n task is)

-- and up to one that is
pub leaf_more : (phase : ℕ → Bool) (n task : ℕ) (found more : List ℕ) → task ≡ n + 1 → phase task ≡ false →
    found ≡ filter (λ a. not (phase a)) (range_with_len 1 n) → more ≡ found ++ task ∷ [] →
    more ≡ filter (λ a. not (phase a)) (range_with_len 1 (n + 1))
leaf_more phase n task found more is fails before pushed =
    let test : ℕ → Bool = λ a. not (phase a) in
    pushed
    ∙ ap (λ (list : List ℕ). list ++ task ∷ []) before
    ∙ ap (λ (b : Bool). filter test (range_with_len 1 n) ++ cond (not b) (task ∷ []) []) (sym fails)
    ∙ sym (filter_more test n task is)

-- leaves are tasks
pub leaves_known : (parents tasks : List ℕ) → tasks ≡ leaves parents → All (λ task. task ≤ length parents) tasks
leaves_known parents tasks same =
    let numbers : List ℕ = range_with_len 1 (length parents) in
    let P : ℕ → Type 0 = λ task. task ≤ length parents in
    let all : All P numbers = λ k d inside.
    let below : k < length parents = omega (arith, inside, length-range_with_len 1 (length parents)) in
    omega (arith, get_or-range_with_len 1 (length parents) k d below) in
    All-same P tasks (leaves parents) same (All-filter (λ task. not (is_phase parents task)) P numbers all)
