-- Leaves that are numbered anew, and the links between them.
use Rattle.std.proofs.Common.{◌≡◌, ◌∙◌, ℕ, zero, suc, ◌+◌, ◌<◌, ◌≤◌, inl, inr, Bool, true, false, List, [], ◌∷◌, ◌++◌, length, get_or, map, ap, sym, refl, subst, arith, All, Contains}
use Rattle.std.specs.Prelude.{◌||◌, filter, cond, not, slice_index, if◌then◌else◌}
use Rattle.std.specs.List.{range_with_len}
use Rattle.std.proofs.lemmas.Bool.{cases_Bool, both_ways}
use Rattle.std.proofs.lemmas.List.{length-append, length-map, get_or-map, map_push}
use Rattle.std.proofs.lemmas.List.Elements.{All-nil, All-cons, All-map, All-contains, All-from_get_or, All-weaker}
use Rattle.std.proofs.lemmas.List.FromFn.{length-range_with_len, get_or-range_with_len}
use Rattle.racp_model.specs.Project.{place, IsNumber}
use Rattle.racp_model.proofs.lemmas.Relations.{member_cases, member_later, member_first, no_member, all_members}
use Rattle.racp_links.specs.declared.link.Link.{Link}
use Rattle.racp_links.specs.Links.{of_task, ran_before, ran_after, KeepsLink}
use Rattle.racp_links.specs.Faults.{no_link}
use Rattle.racp_links.specs.Phases.{is_phase, leaves, leaves_in, is_in, links_to, ties_phase, leaf_links_of, all_leaf_links, leaf_number, numbered, leaf_items, of_leaves}
use Rattle.racp_links.specs.PhaseFaults.{IsSpreadable, AreSpreadable}
use Rattle.racp_links.specs.Laws.{NumberedLinksAreLinks}
use Rattle.racp_links.proofs.LeafLinks.{all_joined, each_value, of_phase, of_tasks, leaf_link, leaf_links_are}
use Rattle.racp_links.proofs.Outlines.{range_more, filter_more}

-- whether a task is a leaf
abbrev leaf_test : List ℕ → ℕ → Bool
leaf_test parents task = not (is_phase parents task)

-- how many numbers one more leaf or phase adds
one_more : (parents : List ℕ) (n : ℕ) → leaf_number parents (n + 1) ≡ leaf_number parents n + (if is_phase parents (n + 1) then 0 else 1)
one_more parents n =
    let before : List ℕ = filter (leaf_test parents) (range_with_len 1 n) in
    ap length (filter_more (leaf_test parents) n (n + 1) refl)
    ∙ length-append before (cond (leaf_test parents (n + 1)) ((n + 1) ∷ []) [])
    ∙ ap (λ (m : ℕ). length before + m) (either (is_phase parents (n + 1)))
  where
    either : (b : Bool) → length (cond (not b) ((n + 1) ∷ []) []) ≡ (if b then 0 else 1)
    either true = refl
    either false = refl

-- the count of leaves with one more task, which is marked
pub counted_more : (parents : List ℕ) (n count more : ℕ) (mark : Bool) → mark ≡ is_phase parents (n + 1) → count ≡ leaf_number parents n →
    more ≡ count + (if mark then 0 else 1) → more ≡ leaf_number parents (n + 1)
counted_more parents n count more mark is before counted =
    counted
    ∙ ap (λ (m : ℕ). m + (if mark then 0 else 1)) before
    ∙ ap (λ (b : Bool). leaf_number parents n + (if b then 0 else 1)) is
    ∙ sym (one_more parents n)

-- and it is one more at most
pub few_more : (n count more : ℕ) (mark : Bool) → count ≤ n → more ≡ count + (if mark then 0 else 1) → more ≤ n + 1
few_more n count more true few counted = omega (arith, few, counted)
few_more n count more false few counted = omega (arith, few, counted)

-- the numbers of one more task
pub numbers_more : (parents numbers more : List ℕ) (n count : ℕ) → numbers ≡ map (leaf_number parents) (range_with_len 1 n) → count ≡ leaf_number parents (n + 1) →
    more ≡ numbers ++ count ∷ [] → more ≡ map (leaf_number parents) (range_with_len 1 (n + 1))
numbers_more parents numbers more n count before is pushed =
    let next : 1 + n ≡ n + 1 = omega arith in
    pushed
    ∙ ap (λ (list : List ℕ). list ++ count ∷ []) before
    ∙ ap (λ (last : ℕ). map (leaf_number parents) (range_with_len 1 n) ++ last ∷ []) (is ∙ ap (leaf_number parents) (sym next))
    ∙ sym (map_push (leaf_number parents) (range_with_len 1 n) (1 + n))
    ∙ ap (map (leaf_number parents)) (sym (range_more 1 n))

-- the number of a task, of the numbers of all
pub told_number : (parents numbers : List ℕ) (task : ℕ) → numbers ≡ map (leaf_number parents) (range_with_len 1 (length parents)) → IsNumber (length parents) task →
    slice_index numbers (place task) ≡ leaf_number parents task
told_number parents numbers task is named =
    let all : List ℕ = range_with_len 1 (length parents) in
    let below : place task < length parents = omega (arith, named.0, named.1) in
    let inside : place task < length all = omega (arith, below, length-range_with_len 1 (length parents)) in
    let at : 1 + place task ≡ task = omega (arith, named.0) in
    ap (λ (list : List ℕ). slice_index list (place task)) is
    ∙ get_or-map (leaf_number parents) all (place task) 0 0 inside
    ∙ ap (leaf_number parents) (get_or-range_with_len 1 (length parents) (place task) 0 below ∙ at)

-- the numbers are as many as the tasks
pub known_in : (parents numbers : List ℕ) (task : ℕ) → numbers ≡ map (leaf_number parents) (range_with_len 1 (length parents)) → IsNumber (length parents) task →
    IsNumber (length numbers) task
known_in parents numbers task is named =
    let count : length numbers ≡ length parents =
    ap length is ∙ length-map (range_with_len 1 (length parents)) (leaf_number parents) ∙ length-range_with_len 1 (length parents) in
    (named.0, omega (arith, named.1, count))

-- a link whose tasks are numbered by them
pub numbered_by : (parents numbers : List ℕ) (link : Link) → numbers ≡ map (leaf_number parents) (range_with_len 1 (length parents)) → IsNumber (length parents) link.before →
    IsNumber (length parents) link.after →
    record link { before = slice_index numbers (place link.before); after = slice_index numbers (place link.after) } ≡ numbered parents link
numbered_by parents numbers link is before after = λ i. record {
  before = told_number parents numbers link.before is before i;
  after = told_number parents numbers link.after is after i;
  kind = link.kind;
  lag = link.lag;
}

-- of values from a number on, that of a leaf stands as many places behind the first as there are leaves before it
at_leaf : (parents : List ℕ) (task k : ℕ) (values : List ℕ) → is_phase parents (task + k) ≡ false →
    get_or (leaf_items parents task values) (length (filter (leaf_test parents) (range_with_len task k))) 0 ≡ get_or values k 0
at_leaf parents task zero [] leaf = refl
at_leaf parents task (suc k) [] leaf = refl
at_leaf parents task zero (value ∷ values) leaf =
    let same : task ≡ task + 0 = omega arith in
    let here : is_phase parents task ≡ false = ap (is_phase parents) same ∙ leaf in
    ap (λ (b : Bool). get_or ((if b then [] else value ∷ []) ++ leaf_items parents (task + 1) values) 0 0) here
at_leaf parents task (suc k) (value ∷ values) leaf =
    let rest : List ℕ = leaf_items parents (task + 1) values in
    let behind : List ℕ = filter (leaf_test parents) (range_with_len (task + 1) k) in
    let same : (task + 1) + k ≡ task + suc k = omega arith in
    let later : get_or rest (length behind) 0 ≡ get_or values k 0 = at_leaf parents (task + 1) k values (ap (is_phase parents) same ∙ leaf) in
    let place_of : Bool → ℕ = λ b. get_or ((if b then [] else value ∷ []) ++ rest) (length (cond (not b) (task ∷ behind) behind)) 0 in
    elim (cases_Bool (is_phase parents task)) [
      | inl phase ↦ ap place_of phase ∙ later
      | inr alone ↦ ap place_of alone ∙ later
    ]

-- a task that is no phase
abbrev pub IsLeaf : List ℕ → ℕ → Type 0
IsLeaf parents task = IsNumber (length parents) task × (is_phase parents task ≡ false)

-- a link ties two of them
abbrev pub TiesLeaves : List ℕ → Link → Type 0
TiesLeaves parents link = IsLeaf parents link.before × IsLeaf parents link.after

-- the value of a leaf is found by its number among the leaves
leaf_value : (parents values : List ℕ) (task : ℕ) → IsLeaf parents task → of_task (of_leaves parents values) (leaf_number parents task) ≡ of_task values task
leaf_value parents values task leaf =
    let next : place task + 1 ≡ task = omega (arith, leaf.0.0) in
    let other : 1 + place task ≡ task = omega (arith, leaf.0.0) in
    let alone : is_phase parents (place task + 1) ≡ false = ap (is_phase parents) next ∙ leaf.1 in
    let count : leaf_number parents (place task + 1) ≡ leaf_number parents (place task) + 1 =
    one_more parents (place task) ∙ ap (λ (b : Bool). leaf_number parents (place task) + (if b then 0 else 1)) alone in
    let before : place (leaf_number parents task) ≡ leaf_number parents (place task) = omega (arith, count, ap (leaf_number parents) next) in
    ap (slice_index (of_leaves parents values)) before
    ∙ at_leaf parents 1 (place task) values (ap (is_phase parents) other ∙ leaf.1)

-- what stays of a list was in it, and passed the test
stayed : (test : ℕ → Bool) (xs : List ℕ) (x : ℕ) → Contains (filter test xs) x → Contains xs x × (test x ≡ true)
stayed test [] x inside = absurd (no_member x inside)
stayed test (y ∷ ys) x inside = elim (cases_Bool (test y)) [
  | inl passed ↦
      let kept : Contains (y ∷ filter test ys) x = subst (λ (b : Bool). Contains (cond b (y ∷ filter test ys) (filter test ys)) x) passed inside in
      elim (member_cases y (filter test ys) x kept) [
        | inl same ↦ (member_first y ys x same, ap test (sym same) ∙ passed)
        | inr later ↦ (member_later y ys x (stayed test ys x later).0, (stayed test ys x later).1)
      ]
  | inr failed ↦
      let kept : Contains (filter test ys) x = subst (λ (b : Bool). Contains (cond b (y ∷ filter test ys) (filter test ys)) x) failed inside in
      (member_later y ys x (stayed test ys x kept).0, (stayed test ys x kept).1)
]

-- one of the numbers from 1 on
from_one : (n task : ℕ) → Contains (range_with_len 1 n) task → IsNumber n task
from_one n task inside =
    let below : inside.0 < n = omega (arith, inside.1, length-range_with_len 1 n) in
    let is : 1 + inside.0 ≡ task = sym (get_or-range_with_len 1 n inside.0 task below) ∙ inside.2 in
    (omega (arith, is), omega (arith, is, below))

-- the opposite of true
opposite : (b : Bool) → not b ≡ true → b ≡ false
opposite true is = sym is
opposite false is = refl

-- what is a leaf in a task is a leaf
is_leaf : (parents : List ℕ) (whole task : ℕ) → Contains (leaves_in parents whole) task → IsLeaf parents task
is_leaf parents whole task inside =
    let leaf : Contains (leaves parents) task = (stayed (is_in parents whole) (leaves parents) task inside).0 in
    let both = stayed (leaf_test parents) (range_with_len 1 (length parents)) task leaf in
    (from_one (length parents) task both.0, opposite (is_phase parents task) both.1)

-- a link that ties no phase ties two leaves
both_alone : (parents : List ℕ) (link : Link) → ties_phase parents link ≡ false → (is_phase parents link.before ≡ false) × (is_phase parents link.after ≡ false)
both_alone parents link apart = elim (cases_Bool (is_phase parents link.before)) [
  | inl phase ↦ absurd (both_ways (ties_phase parents link) apart (ap (λ (b : Bool). b || is_phase parents link.after) phase))
  | inr alone ↦ (alone, sym (ap (λ (b : Bool). b || is_phase parents link.after) alone) ∙ apart)
]

-- the links that a link stands for tie leaves
between_leaves : (parents : List ℕ) (link : Link) → IsSpreadable parents link → All (TiesLeaves parents) (leaf_links_of parents link)
between_leaves parents link can = elim (cases_Bool (ties_phase parents link)) [
  | inl ties ↦
      let firsts : List ℕ = leaves_in parents link.before in
      let seconds : List ℕ = leaves_in parents link.after in
      subst (All (TiesLeaves parents)) (sym (of_phase parents link ties))
      (all_joined (TiesLeaves parents) (links_to link.lag seconds) firsts (λ first is_first.
      All-map (TiesLeaves parents) (leaf_link link.lag first) seconds
      (all_members (λ second. TiesLeaves parents (leaf_link link.lag first second)) seconds (λ second is_second.
      (is_leaf parents link.before first is_first, is_leaf parents link.after second is_second)))))
  | inr apart ↦
      let alone = both_alone parents link apart in
      subst (All (TiesLeaves parents)) (sym (of_tasks parents link apart))
      (All-cons (TiesLeaves parents) link [] ((can.names.0, alone.0), (can.names.1, alone.1)) (All-nil (TiesLeaves parents)))
]

-- and so do those of all links
pub all_tie_leaves : (parents : List ℕ) (links : List Link) → AreSpreadable parents links → All (TiesLeaves parents) (all_leaf_links parents links)
all_tie_leaves parents links can =
    let each : All (IsSpreadable parents) links = All-from_get_or (IsSpreadable parents) links no_link can in
    all_joined (TiesLeaves parents) (leaf_links_of parents) links (λ link inside.
    between_leaves parents link (All-contains (IsSpreadable parents) links link each inside))

-- their first tasks are known
pub firsts_known : (parents : List ℕ) (links : List Link) → All (TiesLeaves parents) links → All (λ link. IsNumber (length parents) link.before) links
firsts_known parents links all = All-weaker (TiesLeaves parents) (λ link. IsNumber (length parents) link.before) (λ link ties. ties.0.0) links all

-- and their second tasks
pub seconds_known : (parents : List ℕ) (links : List Link) → All (TiesLeaves parents) links → All (λ link. IsNumber (length parents) link.after) links
seconds_known parents links all = All-weaker (TiesLeaves parents) (λ link. IsNumber (length parents) link.after) (λ link ties. ties.1.0) links all

-- a link between leaves is kept by the starts of the leaves alone exactly if it is kept by all starts
module _ (durations parents starts : List ℕ) where
  abbrev Alone : Link → Type 0
  Alone link = KeepsLink (of_leaves parents durations) (of_leaves parents starts) (numbered parents link)

  one_kept : (link : Link) → TiesLeaves parents link → KeepsLink durations starts link → Alone link
  one_kept link ties kept = omega (
    arith,
    kept,
    leaf_value parents starts link.before ties.0,
    ap (ran_before link.kind) (leaf_value parents durations link.before ties.0),
    leaf_value parents starts link.after ties.1,
    ap (ran_after link.kind) (leaf_value parents durations link.after ties.1),
  )

  one_back : (link : Link) → TiesLeaves parents link → Alone link → KeepsLink durations starts link
  one_back link ties kept = omega (
    arith,
    kept,
    leaf_value parents starts link.before ties.0,
    ap (ran_before link.kind) (leaf_value parents durations link.before ties.0),
    leaf_value parents starts link.after ties.1,
    ap (ran_after link.kind) (leaf_value parents durations link.after ties.1),
  )

  all_kept : (links : List Link) → All (TiesLeaves parents) links → All (KeepsLink durations starts) links →
      All (KeepsLink (of_leaves parents durations) (of_leaves parents starts)) (map (numbered parents) links)
  all_kept links ties kept =
      All-map (KeepsLink (of_leaves parents durations) (of_leaves parents starts)) (numbered parents) links
      (all_members Alone links (λ link inside.
      one_kept link (All-contains (TiesLeaves parents) links link ties inside) (All-contains (KeepsLink durations starts) links link kept inside)))

  all_back : (links : List Link) → All (TiesLeaves parents) links →
      All (KeepsLink (of_leaves parents durations) (of_leaves parents starts)) (map (numbered parents) links) → All (KeepsLink durations starts) links
  all_back links ties kept =
      all_members (KeepsLink durations starts) links (λ link inside.
      one_back link (All-contains (TiesLeaves parents) links link ties inside)
      (each_value (KeepsLink (of_leaves parents durations) (of_leaves parents starts)) (numbered parents) links kept link inside))

-- starts keep links of phases exactly if the starts of the leaves alone keep the links between these
pub numbered_links_are : NumberedLinksAreLinks
numbered_links_are durations parents links starts can =
    let spread = leaf_links_are durations parents links starts can in
    let ties : All (TiesLeaves parents) (all_leaf_links parents links) = all_tie_leaves parents links can in (
      λ kept. all_kept durations parents starts (all_leaf_links parents links) ties (spread.0 kept),
      λ kept. spread.1 (all_back durations parents starts (all_leaf_links parents links) ties kept),
    )
