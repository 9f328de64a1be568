-- Each task has a leaf in it.
use Rattle.std.proofs.Common.{◌≡◌, ◌∙◌, ℕ, zero, suc, ◌+◌, ◌<◌, ◌≤◌, ◌⊎◌, inl, inr, Bool, true, false, List, [], ◌∷◌, length, slice_index, ap, sym, refl, subst, arith, Contains}
use Rattle.std.specs.Prelude.{◌==◌, ◌||◌, filter, cond, not}
use Rattle.std.specs.List.{range_with_len}
use Rattle.std.proofs.lemmas.Bool.{cases_Bool, cases_eq, eq-eqb, ne_eqb, eqb-true}
use Rattle.std.proofs.lemmas.List.{get_or_default}
use Rattle.std.proofs.lemmas.List.Folds.{Any-from_list_any}
use Rattle.std.proofs.lemmas.List.FromFn.{length-range_with_len, get_or-range_with_len}
use Rattle.racp_model.specs.Project.{place, IsNumber}
use Rattle.racp_model.proofs.lemmas.Relations.{member_cases, member_later, member_first, no_member}
use Rattle.racp_links.specs.Phases.{parent_of, IsOutline, is_in_by, is_in, is_phase, leaves, leaves_in}
use Rattle.racp_links.specs.Laws.{EachTaskHasLeaf}

-- what passes a test stays
passes : (test : ℕ → Bool) (xs : List ℕ) (x : ℕ) → Contains xs x → test x ≡ true → Contains (filter test xs) x
passes test [] x inside holds = absurd (no_member x inside)
passes test (y ∷ ys) x inside holds = elim (member_cases y ys x inside) [
  | inl same ↦
      let first : test y ≡ true = ap test same ∙ holds in
      subst (λ (b : Bool). Contains (cond b (y ∷ filter test ys) (filter test ys)) x) (sym first) (member_first y (filter test ys) x same)
  | inr later ↦ either (test y) (passes test ys x later holds)
]
  where
    either : (b : Bool) → Contains (filter test ys) x → Contains (cond b (y ∷ filter test ys) (filter test ys)) x
    either true rest = member_later y (filter test ys) x rest
    either false rest = rest

-- a task is among the numbers from 1 on
is_number : (n task : ℕ) → IsNumber n task → Contains (range_with_len 1 n) task
is_number n task named =
    let below : place task < n = omega (arith, named.0, named.1) in (
      place task,
      omega (arith, below, length-range_with_len 1 n),
      get_or-range_with_len 1 n (place task) task below ∙ omega (arith, named.0),
    )

-- what is in a whole by some steps is so by more
by_more : (parents : List ℕ) (whole steps more task : ℕ) → steps ≤ more → is_in_by parents whole steps task ≡ true → is_in_by parents whole more task ≡ true
by_more parents whole zero zero task most is = is
by_more parents whole (suc steps) zero task most is = absurd (omega arith)
by_more parents whole zero (suc more) task most is =
    ap (λ (b : Bool). b || is_in_by parents whole more (parent_of parents task)) is
by_more parents whole (suc steps) (suc more) task most is = elim (cases_eq task whole) [
  | inl same ↦ ap (λ (b : Bool). b || is_in_by parents whole more (parent_of parents task)) (eq-eqb task whole same)
  | inr apart ↦
      let test : (task == whole) ≡ false = ne_eqb task whole apart in
      let rest : is_in_by parents whole steps (parent_of parents task) ≡ true =
      sym (ap (λ (b : Bool). b || is_in_by parents whole steps (parent_of parents task)) test) ∙ is in
      ap (λ (b : Bool). b || is_in_by parents whole more (parent_of parents task)) test
      ∙ by_more parents whole steps more (parent_of parents task) (omega arith) rest
]

-- a part of what is in a whole is in it
part_is_in : (parents : List ℕ) (whole part : ℕ) → parent_of parents (suc part) ≤ part → is_in parents whole (parent_of parents (suc part)) ≡ true →
    is_in parents whole (suc part) ≡ true
part_is_in parents whole part before is =
    let rest : is_in_by parents whole part (parent_of parents (suc part)) ≡ true =
    by_more parents whole (parent_of parents (suc part)) part (parent_of parents (suc part)) before is in
    elim (cases_Bool (suc part == whole)) [
      | inl same ↦ ap (λ (b : Bool). b || is_in_by parents whole part (parent_of parents (suc part))) same
      | inr apart ↦ ap (λ (b : Bool). b || is_in_by parents whole part (parent_of parents (suc part))) apart ∙ rest
    ]

-- what is in a whole is a leaf, or has a part
leaf_or_part : (parents : List ℕ) (whole task : ℕ) → IsOutline parents → IsNumber (length parents) task → is_in parents whole task ≡ true →
    Contains (leaves_in parents whole) task ⊎ ((part : ℕ) × (task < part) × IsNumber (length parents) part × (is_in parents whole part ≡ true))
leaf_or_part parents whole task outline named is = elim (cases_Bool (is_phase parents task)) [
  | inr alone ↦ inl (passes (is_in parents whole) (leaves parents) task
      (passes (λ a. not (is_phase parents a)) (range_with_len 1 (length parents)) task (is_number (length parents) task named) (ap not alone)) is)
  | inl phase ↦
      let part = Any-from_list_any (λ parent. parent == task) parents phase in
      let above : part.1 ≡ task = eqb-true part.1 task part.4 in
      let parent : slice_index parents part.0 ≡ task = get_or_default parents part.0 0 part.1 part.2 ∙ part.3 ∙ above in
      let before : slice_index parents part.0 ≤ part.0 = outline.before part.0 part.2 in
      let inside : part.0 < length parents = part.2 in
      let here : place (suc part.0) ≡ part.0 = omega arith in
      let up : parent_of parents (suc part.0) ≡ task = ap (slice_index parents) here ∙ parent in
      let within : is_in parents whole (suc part.0) ≡ true =
      part_is_in parents whole part.0 (omega (arith, up, parent, before)) (ap (is_in parents whole) up ∙ is) in
      inr (suc part.0, omega (arith, parent, before), (omega arith, omega (arith, inside)), within)
]

-- below a task that is in a whole there is a leaf in it
leaf_below : (parents : List ℕ) (whole : ℕ) → IsOutline parents → (left task : ℕ) → length parents ≤ task + left → IsNumber (length parents) task →
    is_in parents whole task ≡ true → (leaf : ℕ) × Contains (leaves_in parents whole) leaf
leaf_below parents whole outline zero task most named is = elim (leaf_or_part parents whole task outline named is) [
  | inl leaf ↦ (task, leaf)
  | inr part ↦ absurd (omega (arith, most, part.1, part.2.1))
]
leaf_below parents whole outline (suc left) task most named is = elim (leaf_or_part parents whole task outline named is) [
  | inl leaf ↦ (task, leaf)
  | inr part ↦ leaf_below parents whole outline left part.0 (omega (arith, most, part.1)) part.2 part.3
]

-- each task has a leaf in it
pub each_has_leaf : EachTaskHasLeaf
each_has_leaf parents task outline named =
    leaf_below parents task outline (length parents) task (omega arith) named (itself task)
  where
    itself : (steps : ℕ) → is_in_by parents task steps task ≡ true
    itself zero = eq-eqb task task refl
    itself (suc steps) = ap (λ (b : Bool). b || is_in_by parents task steps (parent_of parents task)) (eq-eqb task task refl)
