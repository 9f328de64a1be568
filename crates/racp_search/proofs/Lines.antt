-- The lines of trees that refute a question: what is on the stack weighs less with each, and at the end they are a tree's.
use Rattle.std.proofs.Common.{◌≡◌, inl, inr, ◌∙◌, ℕ, zero, suc, ◌+◌, ◌-◌, ◌*◌, ◌^◌, ◌<◌, ◌≤◌, List, [], ◌∷◌, ◌++◌, length, map, slice_index, slice_index_or, Contains, arith, refl, sym, subst, ap, append_assoc}
use Rattle.std.specs.Prelude.{reverse, Some}
use Rattle.std.proofs.Math.Nat.{mul-le-mul_left, one-le-pow, pow-suc}
use Rattle.std.proofs.lemmas.List.{append-nil, reverse-append}
use Rattle.std.proofs.lemmas.List.Elements.{Contains-append_cases}
use Rattle.racp_model.specs.Project.{Project, IsSound}
use Rattle.racp_model.specs.Window.{Bounds, IsInside, IsYes}
use Rattle.racp_model.specs.Formed.{HasBounds}
use Rattle.racp_model.specs.declared.question.Question.{Question}
use Rattle.racp_model.proofs.lemmas.Sums.{sum_below-bound}
use Rattle.racp_model.proofs.lemmas.Relations.{member_cases, member_first, member_later, no_member}
use Rattle.racp_delay.specs.Alternatives.{AreAlternatives}
use Rattle.racp_delay.specs.Laws.{SubsetsGo, lower_sum}
use Rattle.racp_cutset.specs.Covering.{SearchNode}
use Rattle.racp_trees.specs.Trees.{Trees, none, tree, lines_of, node_count, divided, Hold, IsNodeOf, IsTooLate, IsDivided}
use Rattle.racp_trees.specs.declared.step.Step.{Step}
use Rattle.racp_trees.specs.declared.step.Step.TheVariants.{L, D, C}
use Rattle.racp_search.specs.DepthFirst.{HasActive, Part, IsHigher, most_lists, rank, weight, weights}
use Rattle.racp_search.specs.DepthFirst.Part.{all_of}
use Rattle.racp_search.specs.Refuting.{ArePutOn, IsConflicting, IsDividedInto, IsLate, IsLineOf, IsRefutation}
use Rattle.racp_search.specs.declared.refuting.Divided.{Divided}
use Rattle.racp_search.proofs.Going.{gone_are_jobs, same_default}
use Rattle.racp_search.proofs.Ranks.{place-less, place-rises}
use Rattle.racp_search.proofs.Weights.{child-weight, weights-none, weight-some}
use Rattle.racp_search.proofs.Dividing.{node_of, node_active}

-- a list of lists has what stands at its places
pub list_there : (lists : List (List ℕ)) (k : ℕ) (gone : List ℕ) → k < length lists → gone ≡ slice_index_or lists k [] → Contains lists gone
list_there lists k gone within e = (k, within, same_default lists k gone [] within ∙ sym e)

module _ (p : Project) (v : SearchNode) (active : List ℕ) (lists : List (List ℕ)) (are : AreAlternatives p v.capacities active lists) (sound : IsSound p) (law : SubsetsGo) (is : HasActive p v active) where
  -- the place of an alternative is at most its rank
  place_rank : (k : ℕ) → k < length lists → k ≤ rank 512 (slice_index_or lists k [])
  place_rank zero l = omega arith
  place_rank (suc k) l =
      let before : k < length lists = omega (arith, l) in
      let at = λ (j : ℕ) (within : j < length lists). gone_are_jobs p v active (slice_index_or lists j []) sound law is (are.only (slice_index_or lists j []) (list_there lists j (slice_index_or lists j []) within refl)) in
      let rises = place-rises (slice_index_or lists k []) (slice_index_or lists (suc k) []) (at k before) (at (suc k) l) (are.in_order k (suc k) [] (omega arith) l) in
      omega (arith, place_rank k before, rises)

  -- so there are not too many
  pub few_lists : length lists ≤ most_lists
  few_lists = bound (length lists) refl
    where
      bound : (n : ℕ) → n ≡ length lists → length lists ≤ most_lists
      bound zero e = omega (arith, e)
      bound (suc n) e =
          let last : n < length lists = omega (arith, e) in
          let jobs = gone_are_jobs p v active (slice_index_or lists n []) sound law is (are.only (slice_index_or lists n []) (list_there lists n (slice_index_or lists n []) last refl)) in
          omega (arith, e, place_rank n last, place-less (slice_index_or lists n []) jobs)

-- the weight of the first of some parts is added
weights-first : (p : Project) (x : Part) (xs : List Part) → weights p (x ∷ xs) ≡ weight p x + weights p xs
unfolding weights
weights-first p x xs = refl

-- windows above a node's weigh as much as one list each at the most
parts_weight : (p : Project) (v : SearchNode) (parts : List Bounds) → ((part : Bounds) → Contains parts part → IsHigher p v.window part) → lower_sum p v.window ≤ length p.jobs * 10000000 →
    weights p (map all_of parts) ≤ (most_lists + 1) ^ (length p.jobs * 10000000 - lower_sum p v.window) * length parts
parts_weight p v [] higher small = omega (arith, weights-none p)
parts_weight p v (part ∷ parts) higher small =
    let x : ℕ = (most_lists + 1) ^ (length p.jobs * 10000000 - lower_sum p v.window) in
    let first : weight p (all_of part) ≤ x = child-weight p v part (higher part (member_first part parts part refl)) small in
    let rest : weights p (map all_of parts) ≤ x * length parts = parts_weight p v parts (λ w c. higher w (member_later part parts w c)) small in
    let whole : weights p (map all_of (part ∷ parts)) ≡ weight p (all_of part) + weights p (map all_of parts) = weights-first p (all_of part) (map all_of parts) in
    omega (arith, first, rest, whole)

-- so together less than the node's window
pub parts_lighter : (p : Project) (v : SearchNode) (parts : List Bounds) → ((part : Bounds) → Contains parts part → IsHigher p v.window part) → lower_sum p v.window ≤ length p.jobs * 10000000 → length parts ≤ most_lists →
    weights p (map all_of parts) < weight p (all_of v.window)
unfolding weight
parts_lighter p v parts higher small few =
    let u : ℕ = length p.jobs * 10000000 in
    let m : ℕ = u - lower_sum p v.window in
    let e : suc m ≡ (u + 1) - lower_sum p v.window = omega (arith, small) in
    let some : 1 ≤ (most_lists + 1) ^ m = one-le-pow m (most_lists + 1) (let l : 0 < most_lists + 1 = omega arith in l) in
    let up : (most_lists + 1) ^ ((u + 1) - lower_sum p v.window) ≡ (most_lists + 1) ^ m * (most_lists + 1) = ap (λ k. (most_lists + 1) ^ k) (sym e) ∙ pow-suc (most_lists + 1) m in
    let all : (most_lists + 1) ^ m * length parts ≤ (most_lists + 1) ^ m * most_lists = mul-le-mul_left ((most_lists + 1) ^ m) few in
    omega (arith, some, up, all, parts_weight p v parts higher small)

-- the line of a window that is divided
pub divided_into : {d : Divided} {lists : List (List ℕ)} {old new : List Bounds} → IsSound d.net.now → SubsetsGo → IsConflicting d → AreAlternatives d.net.now d.capacities.now d.clash.now.active lists → ArePutOn d lists old new →
    IsDividedInto d.net.now d.capacities.now d.window.now d.clash.now.time old new
divided_into {d} {lists} {old} {new} sound law is are on = record {
  node = node_of d;
  of_window = record { of_resources = refl; placed = refl; early = is.conflict.early };
  parts = on.parts;
  divided = record {
    below = is.conflict.below;
    at = refl;
    active = d.clash.now.active;
    clash = is.conflict.first;
    children = record { lists = lists; alternatives = are; each = on.children };
  };
  stacked = on.stacked;
  below = on.below;
  lighter = parts_lighter d.net.now (node_of d) on.parts (λ part c. (on.below part c).higher) small
      (let few : length lists ≤ most_lists = few_lists d.net.now (node_of d) d.clash.now.active lists are sound law (node_active d is) in omega (arith, on.few, few));
}
  where
    small : lower_sum d.net.now d.window.now ≤ length d.net.now.jobs * 10000000
    small = sum_below-bound (length d.net.now.jobs) 10000000 (slice_index d.window.now.lower) (λ i l. omega (arith, is.conflict.early.above i l, is.conflict.small i l))

-- trees without C lines that hold for windows
abbrev pub Refutes : Project → List ℕ → List Bounds → Trees → Type 0
Refutes p capacities [] none = Unit {0}
Refutes p capacities [] (tree v step children others) = ⊥
Refutes p capacities (window ∷ windows) none = ⊥
Refutes p capacities (window ∷ windows) (tree v (L job) children others) =
    IsNodeOf p capacities window v × IsTooLate p v job × (children ≡ none) × Refutes p capacities windows others
Refutes p capacities (window ∷ windows) (tree v (C node) children others) = ⊥
Refutes p capacities (window ∷ windows) (tree v (D time) children others) =
    IsNodeOf p capacities window v ×
    ((parts : List Bounds) × IsDivided p v time parts × Refutes p capacities parts children) ×
    Refutes p capacities windows others

-- they hold, whatever was closed before and whatever the number of the first node is
pub refutes_hold : (p : Project) (capacities : List ℕ) (closed : List (ℕ × SearchNode)) (n : ℕ) (windows : List Bounds) (trees : Trees) → Refutes p capacities windows trees → Hold p capacities closed n windows trees
refutes_hold p capacities closed n [] none h = tt
refutes_hold p capacities closed n [] (tree v step children others) h = absurd h
refutes_hold p capacities closed n (window ∷ windows) none h = absurd h
refutes_hold p capacities closed n (window ∷ windows) (tree v (L job) children others) h =
    (h.0, h.1, h.2, refutes_hold p capacities closed (n + 1) windows others h.3)
refutes_hold p capacities closed n (window ∷ windows) (tree v (C node) children others) h = absurd h
refutes_hold p capacities closed n (window ∷ windows) (tree v (D time) children others) h = (
  h.0,
  (h.1.0, h.1.1, refutes_hold p capacities closed (n + 1) h.1.0 children h.1.2),
  refutes_hold p capacities (((n, v) ∷ divided (n + 1) children) ++ closed) (n + 1 + node_count children) windows others h.2,
)

-- trees for some windows and then others
pub record AreParted (p : Project) (capacities : List ℕ) (first second : List Bounds) (trees : Trees) : Type 0 where
  pub front : Trees
  pub back : Trees
  pub of_first : Refutes p capacities first front
  pub of_second : Refutes p capacities second back
  pub lines : lines_of trees ≡ lines_of front ++ lines_of back

pub part_trees : (p : Project) (capacities : List ℕ) (first second : List Bounds) (trees : Trees) → Refutes p capacities (first ++ second) trees → AreParted p capacities first second trees
unfolding lines_of
part_trees p capacities [] second trees h = record { front = none; back = trees; of_first = tt; of_second = h; lines = refl }
part_trees p capacities (window ∷ first) second none h = absurd h
part_trees p capacities (window ∷ first) second (tree v (L job) children others) h =
    let rest = part_trees p capacities first second others h.3 in
    record {
      front = tree v (L job) children rest.front;
      back = rest.back;
      of_first = (h.0, h.1, h.2, rest.of_first);
      of_second = rest.of_second;
      lines = ap (λ (xs : List Step). L job ∷ (lines_of children ++ xs)) rest.lines ∙ ap (λ (xs : List Step). L job ∷ xs) (sym (append_assoc (lines_of children) (lines_of rest.front) (lines_of rest.back)));
    }
part_trees p capacities (window ∷ first) second (tree v (C node) children others) h = absurd h
part_trees p capacities (window ∷ first) second (tree v (D time) children others) h =
    let rest = part_trees p capacities first second others h.2 in
    record {
      front = tree v (D time) children rest.front;
      back = rest.back;
      of_first = (h.0, h.1, rest.of_first);
      of_second = rest.of_second;
      lines = ap (λ (xs : List Step). D time ∷ (lines_of children ++ xs)) rest.lines ∙ ap (λ (xs : List Step). D time ∷ xs) (sym (append_assoc (lines_of children) (lines_of rest.front) (lines_of rest.back)));
    }

module _ (p : Project) (capacities : List ℕ) (whole : Bounds) where
  -- lines that were made, and windows on the stack, the next one last: whatever trees refute these, the lines and theirs are
  -- those of a tree that refutes the whole
  pub record AreLines (steps : List Step) (stack : List Bounds) : Type 0 where
    pub made : (rest : Trees) → Refutes p capacities (reverse stack) rest → (all : Trees) × Refutes p capacities (whole ∷ []) all × (lines_of all ≡ steps ++ lines_of rest)
    pub bounds : (w : Bounds) → Contains (reverse stack) w → HasBounds p w
    pub inside : (w : Bounds) → Contains (reverse stack) w → IsInside p whole w

  -- at the start none was made
  pub lines-start : (steps : List Step) (stack : List Bounds) → HasBounds p whole → steps ≡ [] → stack ≡ whole ∷ [] → AreLines steps stack
  lines-start steps stack has none' one = subst (λ (xs : List Bounds). AreLines steps xs) (sym one) (subst (λ (ys : List Step). AreLines ys (whole ∷ [])) (sym none') (record {
    made = λ rest h. (rest, h, refl);
    bounds = λ w c. subst (HasBounds p) (only w c) has;
    inside = λ w c. subst (λ (x : Bounds). IsInside p whole x) (only w c) (record { lower = λ i l. omega arith; upper = λ i l. omega arith });
  }))
    where
      only : (w : Bounds) → Contains (whole ∷ []) w → whole ≡ w
      only w c = elim (member_cases whole [] w c) [ inl same ↦ same | inr there ↦ absurd (no_member w there) ]

  -- the next window is taken off
  module _ (steps : List Step) (stack below : List Bounds) (window : Bounds) (h : AreLines steps stack) (taken : stack ≡ below ++ window ∷ []) where
    next_first : reverse stack ≡ window ∷ reverse below
    next_first = ap (λ (xs : List Bounds). reverse xs) taken ∙ reverse-append below (window ∷ [])

    pub next-bounds : HasBounds p window
    next-bounds = h.bounds window (subst (λ (xs : List Bounds). Contains xs window) (sym next_first) (member_first window (reverse below) window refl))

    pub next-inside : IsInside p whole window
    next-inside = h.inside window (subst (λ (xs : List Bounds). Contains xs window) (sym next_first) (member_first window (reverse below) window refl))

    later : (w : Bounds) → Contains (reverse below) w → Contains (reverse stack) w
    later w c = subst (λ (xs : List Bounds). Contains xs w) (sym next_first) (member_later window (reverse below) w c)

    -- its line is that of a job that is too late
    pub lines-late : (job : ℕ) (new : List Bounds) (newer : List Step) → IsLate p capacities window job below new → newer ≡ steps ++ L job ∷ [] → AreLines newer new
    unfolding lines_of
    lines-late job new newer is added = subst (λ (xs : List Bounds). AreLines newer xs) (sym is.same) (record {
      made = λ rest t.
          let own : Refutes p capacities (window ∷ reverse below) (tree is.node (L job) none rest) = (is.of_window, is.late, refl, t) in
          let all = h.made (tree is.node (L job) none rest) (subst (λ (xs : List Bounds). Refutes p capacities xs (tree is.node (L job) none rest)) (sym next_first) own) in
          (all.0, all.1, all.2 ∙ (sym (append_assoc steps (L job ∷ []) (lines_of rest)) ∙ ap (λ (xs : List Step). xs ++ lines_of rest) (sym added)));
      bounds = λ w c. h.bounds w (later w c);
      inside = λ w c. h.inside w (later w c);
    })

    -- or it is divided
    pub lines-divided : (time : ℕ) (new : List Bounds) (newer : List Step) → IsDividedInto p capacities window time below new → newer ≡ steps ++ D time ∷ [] → AreLines newer new
    unfolding lines_of
    lines-divided time new newer is added = record {
      made = λ rest t.
          let parted = part_trees p capacities is.parts (reverse below) rest (subst (λ (xs : List Bounds). Refutes p capacities xs rest) is.stacked t) in
          let own : Refutes p capacities (window ∷ reverse below) (tree is.node (D time) parted.front parted.back) = (is.of_window, (is.parts, is.divided, parted.of_first), parted.of_second) in
          let all = h.made (tree is.node (D time) parted.front parted.back) (subst (λ (xs : List Bounds). Refutes p capacities xs (tree is.node (D time) parted.front parted.back)) (sym next_first) own) in
          (all.0, all.1, all.2 ∙ (ap (λ (xs : List Step). steps ++ D time ∷ xs) (sym parted.lines) ∙ (sym (append_assoc steps (D time ∷ []) (lines_of rest)) ∙ ap (λ (xs : List Step). xs ++ lines_of rest) (sym added))));
      bounds = λ w c. elim (Contains-append_cases is.parts (reverse below) w (subst (λ (xs : List Bounds). Contains xs w) is.stacked c)) [
        | inl part ↦ (is.below w part).part.bounds
        | inr there ↦ h.bounds w (later w there)
      ];
      inside = λ w c. elim (Contains-append_cases is.parts (reverse below) w (subst (λ (xs : List Bounds). Contains xs w) is.stacked c)) [
        | inl part ↦ inside_both w (is.below w part).part.inside
        | inr there ↦ h.inside w (later w there)
      ];
    }
      where
        inside_both : (w : Bounds) → IsInside p window w → IsInside p whole w
        inside_both w i = record { lower = λ j l. omega (arith, next-inside.lower j l, i.lower j l); upper = λ j l. omega (arith, next-inside.upper j l, i.upper j l) }

    -- what answers in it answers in the whole
    pub next-yes : IsYes p capacities window → IsYes p capacities whole
    next-yes is = (
      is.0,
      record {
        lies = record {
          places = is.1.lies.places;
          above = λ i l. omega (arith, next-inside.lower i l, is.1.lies.above i l);
          below = λ i l. omega (arith, next-inside.upper i l, is.1.lies.below i l);
        };
        fits = is.1.fits;
      },
    )

    -- whatever the line is
    pub lines-next : (step : Step) (new : List Bounds) (newer : List Step) → IsLineOf p capacities window below new (Some step) → newer ≡ steps ++ step ∷ [] → AreLines newer new
    lines-next (L job) new newer is added = lines-late job new newer is added
    lines-next (D time) new newer is added = lines-divided time new newer is added
    lines-next (C node) new newer is added = absurd is

  -- the stack weighs less after each line
  abbrev pub stack_weight : List Bounds → ℕ
  stack_weight stack = weights p (map all_of (reverse stack))

  taken-weight : (window : Bounds) (rest : List Bounds) → weights p (map all_of (window ∷ rest)) ≡ weight p (all_of window) + weights p (map all_of rest)
  taken-weight window rest = weights-first p (all_of window) (map all_of rest)

  append-weight : (xs ys : List Bounds) → weights p (map all_of (xs ++ ys)) ≡ weights p (map all_of xs) + weights p (map all_of ys)
  append-weight [] ys = omega (arith, weights-none p)
  append-weight (x ∷ xs) ys = omega (arith, append-weight xs ys, taken-weight x (xs ++ ys), taken-weight x xs)

  pub line-lighter : (stack below new : List Bounds) (window : Bounds) (step : Step) → stack ≡ below ++ window ∷ [] → IsLineOf p capacities window below new (Some step) → stack_weight new < stack_weight stack
  line-lighter stack below new window step taken is =
      let next : reverse stack ≡ window ∷ reverse below = ap (λ (xs : List Bounds). reverse xs) taken ∙ reverse-append below (window ∷ []) in
      let before : stack_weight stack ≡ weight p (all_of window) + weights p (map all_of (reverse below)) = ap (λ (xs : List Bounds). weights p (map all_of xs)) next ∙ taken-weight window (reverse below) in
      less step is before
    where
      less : (s : Step) → IsLineOf p capacities window below new (Some s) → stack_weight stack ≡ weight p (all_of window) + weights p (map all_of (reverse below)) → stack_weight new < stack_weight stack
      less (L job) late before = omega (arith, before, weight-some p window, ap (λ (xs : List Bounds). stack_weight xs) late.same)
      less (D time) parted before = omega (arith, before, parted.lighter, ap (λ (xs : List Bounds). weights p (map all_of xs)) parted.stacked, append-weight parted.parts (reverse below))
      less (C node) none' before = absurd none'

-- where the stack is empty the lines are those of a tree
pub lines-end : (p : Project) (question : Question) (steps : List Step) (stack : List Bounds) → stack ≡ [] → AreLines p question.capacities question.window steps stack → IsRefutation p question steps
unfolding lines_of
lines-end p question steps stack e h =
    let all = h.made none (subst (λ (xs : List Bounds). Refutes p question.capacities (reverse xs) none) (sym e) tt) in
    record {
      tree = all.0;
      holds = refutes_hold p question.capacities [] 1 (question.window ∷ []) all.0 all.1;
      lines = all.2 ∙ append-nil steps;
    }

-- a stack without windows
pub empty_stack : (stack : List Bounds) → length stack ≡ 0 → stack ≡ []
empty_stack [] e = refl
empty_stack (window ∷ stack) e = absurd (omega (arith, e))
