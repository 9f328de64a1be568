-- Trees that hold refute their windows.
use Rattle.std.proofs.Common.{◌≡◌, inl, inr, ◌∙◌, ℕ, ◌+◌, ◌<◌, List, [], ◌∷◌, ◌++◌, length, slice_index, Contains, arith, refl, sym, subst, ap}
use Rattle.racp_model.specs.Project.{Project, place, IsSound}
use Rattle.racp_model.specs.Path.{IsEarly}
use Rattle.racp_model.specs.Window.{Bounds, IsNo, WindowsCover}
use Rattle.racp_model.specs.Formed.{HasBounds}
use Rattle.racp_model.proofs.lemmas.Relations.{member_cases, member_first, member_later, no_member}
use Rattle.racp_delay.specs.Laws.{ChildrenCover}
use Rattle.racp_cutset.specs.Covering.{SearchNode, IsNode}
use Rattle.racp_cutset.specs.Laws.{CoveringRefutes}
use Rattle.racp_trees.specs.Trees.{Trees, none, tree, node_count, divided, Hold, IsNodeOf, IsTooLate, IsDivided, IsCovered, AreRefutedNodes}
use Rattle.racp_trees.specs.Laws.{TreesRefute}
use Rattle.racp_trees.specs.declared.step.Step.TheVariants.{L, D, C}
use Rattle.racp_trees.proofs.Children.{have_children, children_bounds}
use Rattle.racp_trees.proofs.Numbered.{refuted_both, refuted_more, refuted_none}

-- windows that are refuted
abbrev AllNo : Project → List ℕ → List Bounds → Type 0
AllNo p capacities windows = (window : Bounds) → Contains windows window → IsNo p capacities window

no_more : (p : Project) (capacities : List ℕ) (first : Bounds) (windows : List Bounds) → IsNo p capacities first → AllNo p capacities windows → AllNo p capacities (first ∷ windows)
no_more p capacities first windows is rest window c = elim (member_cases first windows window c) [
  | inl same ↦ subst (λ (w : Bounds). IsNo p capacities w) same is
  | inr there ↦ rest window there
]

-- windows with bounds
abbrev AllBound : Project → List Bounds → Type 0
AllBound p windows = (window : Bounds) → Contains windows window → HasBounds p window

module _ (p : Project) (sound : IsSound p) (cover : ChildrenCover) (covering : CoveringRefutes) (capacities : List ℕ) (places : length capacities ≡ p.resources) where
  -- the node of a window with bounds is a node
  node_of : (window : Bounds) (v : SearchNode) → HasBounds p window → IsNodeOf p capacities window v → IsNode p v
  node_of window v bounds is = record {
    resources = ap (λ (xs : List ℕ). length xs) is.of_resources ∙ places;
    lower = ap (λ (w : Bounds). length w.lower) is.placed ∙ bounds.lower;
    upper = ap (λ (w : Bounds). length w.upper) is.placed ∙ bounds.upper;
    early = subst (λ (w : Bounds). IsEarly p (slice_index w.lower) v.early) (sym is.placed) is.early;
  }

  -- what is told of the node of a window is told of the window
  no_from : (window : Bounds) (v : SearchNode) → IsNodeOf p capacities window v → IsNo p v.capacities v.window → IsNo p capacities window
  no_from window v is refutes = subst (λ (w : Bounds). IsNo p capacities w) is.placed (subst (λ (xs : List ℕ). IsNo p xs v.window) is.of_resources refutes)

  -- a job that is too late
  late_no : (window : Bounds) (v : SearchNode) (job : ℕ) → HasBounds p window → IsNodeOf p capacities window v → IsTooLate p v job → IsNo p v.capacities v.window
  late_no window v job bounds is late starts answer =
      let j : place job < length p.jobs = omega (arith, late.named.0, late.named.1) in
      let node = node_of window v bounds is in
      omega (arith, late.late, node.early.least starts answer.lies.above answer.fits.precedence (place job) j, answer.lies.below (place job) j)

  -- a node of which each child is refuted
  divided_no : (v : SearchNode) (time : ℕ) (parts : List Bounds) → IsNode p v → IsDivided p v time parts → AllNo p v.capacities parts → IsNo p v.capacities v.window
  divided_no v time parts node is none' starts answer =
      let covers : WindowsCover p v.capacities v.window parts =
      cover p v.capacities v.window v.early v.time is.active parts node.early is.clash (have_children p v.capacities v.early is.active v.window parts is.children) in
      let found = covers starts answer in
      none' found.0 found.1 starts (record { lies = found.2; fits = answer.fits })

  -- a node that a closed node covers
  covered_no : (closed : List (ℕ × SearchNode)) (v : SearchNode) (m : ℕ) → IsNode p v → IsCovered p closed v m → AreRefutedNodes p closed → IsNo p v.capacities v.window
  covered_no closed v m node is are =
      let by = are m is.by is.is_closed in
      covering p is.by v sound by.0 node is.covers by.1

  pub refuted : (closed : List (ℕ × SearchNode)) (n : ℕ) (windows : List Bounds) (trees : Trees) → AllBound p windows → AreRefutedNodes p closed → Hold p capacities closed n windows trees →
      AllNo p capacities windows × AreRefutedNodes p (divided n trees)
  unfolding divided
  refuted closed n [] none bounds are h = (λ w c. absurd (no_member w c), refuted_none p)
  refuted closed n [] (tree v step children others) bounds are h = absurd h
  refuted closed n (window ∷ windows) none bounds are h = absurd h
  refuted closed n (window ∷ windows) (tree v (L job) children others) bounds are h =
      let here : HasBounds p window = bounds window (member_first window windows window refl) in
      let refutes : IsNo p v.capacities v.window = late_no window v job here h.0 h.1 in
      let rest = refuted closed (n + 1) windows others (λ w c. bounds w (member_later window windows w c)) are h.3 in
      (no_more p capacities window windows (no_from window v h.0 refutes) rest.0, rest.1)
  refuted closed n (window ∷ windows) (tree v (C m) children others) bounds are h =
      let here : HasBounds p window = bounds window (member_first window windows window refl) in
      let node : IsNode p v = node_of window v here h.0 in
      let refutes : IsNo p v.capacities v.window = covered_no closed v m node h.1 are in
      let rest = refuted closed (n + 1) windows others (λ w c. bounds w (member_later window windows w c)) are h.3 in
      (no_more p capacities window windows (no_from window v h.0 refutes) rest.0, rest.1)
  refuted closed n (window ∷ windows) (tree v (D time) children others) bounds are h =
      let here : HasBounds p window = bounds window (member_first window windows window refl) in
      let node : IsNode p v = node_of window v here h.0 in
      let parts : List Bounds = h.1.0 in
      let is : IsDivided p v time parts = h.1.1 in
      let fine : HasBounds p v.window = record { lower = node.lower; upper = node.upper } in
      let below = refuted closed (n + 1) parts children (children_bounds p v.capacities v.early is.active v.window parts is.children fine) are h.1.2 in
      let told : AllNo p v.capacities parts = subst (λ (xs : List ℕ). AllNo p xs parts) (sym h.0.of_resources) below.0 in
      let refutes : IsNo p v.capacities v.window = divided_no v time parts node is told in
      let own : AreRefutedNodes p ((n, v) ∷ divided (n + 1) children) = refuted_more p n v (divided (n + 1) children) (node, refutes) below.1 in
      let rest = refuted (((n, v) ∷ divided (n + 1) children) ++ closed) (n + 1 + node_count children) windows others (λ w c. bounds w (member_later window windows w c))
      (refuted_both p ((n, v) ∷ divided (n + 1) children) closed own are) h.2 in (
        no_more p capacities window windows (no_from window v h.0 refutes) rest.0,
        refuted_more p n v (divided (n + 1) children ++ divided (n + 1 + node_count children) others) (node, refutes)
            (refuted_both p (divided (n + 1) children) (divided (n + 1 + node_count children) others) below.1 rest.1),
      )

pub trees_refuted : ChildrenCover → CoveringRefutes → TreesRefute
trees_refuted cover covering p capacities closed n windows trees sound places bounds are h = refuted p sound cover covering capacities places closed n windows trees bounds are h
