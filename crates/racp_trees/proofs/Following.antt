-- Trees are read line by line.
use Rattle.std.proofs.Common.{◌≡◌, ◌≢◌, ◌↔◌, inl, inr, ◌∙◌, ℕ, ◌+◌, ◌≤◌, List, [], ◌∷◌, ◌++◌, length, Contains, arith, refl, sym, subst, ap, append_assoc}
use Rattle.std.proofs.lemmas.List.{length-append}
use Rattle.std.proofs.lemmas.List.Elements.{Contains-append_cases, Contains-append_left, Contains-append_right}
use Rattle.racp_model.specs.Project.{Project}
use Rattle.racp_model.specs.Terms.{IsLexBefore}
use Rattle.racp_model.specs.Window.{Bounds}
use Rattle.racp_model.proofs.lemmas.Relations.{member_cases, member_first, member_later, no_member}
use Rattle.racp_delay.specs.Alternatives.{IsMinimalDelayingAlternative}
use Rattle.racp_cutset.specs.Covering.{SearchNode}
use Rattle.racp_trees.specs.Children.{AreChildrenOf, IsChildFor, NoneStays}
use Rattle.racp_trees.specs.Texts.{step_line, step_number, tree_text, most_number, HasSmallLines}
use Rattle.racp_trees.specs.Trees.{Trees, none, tree, lines_of, node_count, divided, Hold, IsDivided}
use Rattle.racp_trees.specs.Following.{IsNextBehind, OpenNode, read_on, AreBehind, AreToCome, BeginsWith, Ending, Follow, IsNext, IsOpened, IsStepped}
use Rattle.racp_trees.specs.declared.step.Step.{Step}
use Rattle.racp_trees.specs.declared.step.Step.TheVariants.{L, D, C}
use Rattle.racp_trees.proofs.Lines.{one_line, text-none, text-tree, small-none, small-tree, small-first, small-children, small-others}
use Rattle.racp_trees.proofs.Alternating.{front, front-back, none_behind, behind_none, all_behind}

abbrev Numbered : Type 0
Numbered = ℕ × SearchNode

-- each closed node of one list is in another
abbrev pub Within : List Numbered → List Numbered → Type 0
Within xs ys = (x : Numbered) → Contains xs x → Contains ys x

-- an ending asks only which nodes are closed
abbrev pub Stays : Ending → Type 0
Stays Ends = (xs ys : List Numbered) (n : ℕ) (text : List ℕ) → Within xs ys → Ends xs n text → Ends ys n text

within-front : (front xs ys : List Numbered) → Within xs ys → Within (front ++ xs) (front ++ ys)
within-front front xs ys h x c = elim (Contains-append_cases front xs x c) [ inl a ↦ Contains-append_left front ys x a | inr b ↦ Contains-append_right front ys x (h x b) ]

-- with more closed nodes trees hold as well
pub hold-more : (p : Project) (a : List ℕ) (xs ys : List Numbered) (n : ℕ) (windows : List Bounds) (trees : Trees) → Within xs ys → Hold p a xs n windows trees → Hold p a ys n windows trees
hold-more p a xs ys n [] none w h = h
hold-more p a xs ys n [] (tree v step children others) w h = absurd h
hold-more p a xs ys n (window ∷ windows) none w h = absurd h
hold-more p a xs ys n (window ∷ windows) (tree v (L job) children others) w h = (h.0, h.1, h.2, hold-more p a xs ys (n + 1) windows others w h.3)
hold-more p a xs ys n (window ∷ windows) (tree v (C m) children others) w h =
    (h.0, record { first = h.1.first; by = h.1.by; is_closed = w (m, h.1.by) h.1.is_closed; covers = h.1.covers }, h.2, hold-more p a xs ys (n + 1) windows others w h.3)
hold-more p a xs ys n (window ∷ windows) (tree v (D time) children others) w h = (
  h.0,
  (h.1.0, h.1.1, hold-more p a xs ys (n + 1) h.1.0 children w h.1.2),
  hold-more p a (((n, v) ∷ divided (n + 1) children) ++ xs) (((n, v) ∷ divided (n + 1) children) ++ ys) (n + 1 + node_count children) windows others
      (within-front ((n, v) ∷ divided (n + 1) children) xs ys w) h.2,
)

lines-none : lines_of none ≡ []
unfolding lines_of
lines-none = refl

lines-tree : (v : SearchNode) (step : Step) (children others : Trees) → lines_of (tree v step children others) ≡ step ∷ (lines_of children ++ lines_of others)
unfolding lines_of
lines-tree v step children others = refl

divided-none : (n : ℕ) → divided n none ≡ []
unfolding divided
divided-none n = refl

divided-D : (n : ℕ) (v : SearchNode) (time : ℕ) (children others : Trees) → divided n (tree v (D time) children others) ≡ (n, v) ∷ (divided (n + 1) children ++ divided (n + 1 + node_count children) others)
unfolding divided
divided-D n v time children others = refl

divided-L : (n : ℕ) (v : SearchNode) (job : ℕ) (children others : Trees) → divided n (tree v (L job) children others) ≡ divided (n + 1) others
unfolding divided
divided-L n v job children others = refl

divided-C : (n : ℕ) (v : SearchNode) (m : ℕ) (children others : Trees) → divided n (tree v (C m) children others) ≡ divided (n + 1) others
unfolding divided
divided-C n v m children others = refl

-- how many nodes trees have
count-none : node_count none ≡ 0
count-none = ap (λ (xs : List Step). length xs) lines-none

count-tree : (v : SearchNode) (step : Step) (children others : Trees) → node_count (tree v step children others) ≡ 1 + (node_count children + node_count others)
count-tree v step children others =
    let e : node_count (tree v step children others) ≡ length (step ∷ (lines_of children ++ lines_of others)) = ap (λ (xs : List Step). length xs) (lines-tree v step children others) in
    omega (arith, e, length-append (lines_of children) (lines_of others))

-- one tree
abbrev pub alone : SearchNode → Step → Trees → Trees
alone v step children = tree v step children none

-- what a line closes, once its children are closed
abbrev opened : ℕ → SearchNode → Step → Trees → List Numbered
opened n v (L job) children = []
opened n v (C m) children = []
opened n v (D time) children = (n, v) ∷ divided (n + 1) children

no_more : (xs : List Numbered) → xs ++ [] ≡ xs
no_more [] = refl
no_more (x ∷ xs) = ap (λ (ys : List Numbered). x ∷ ys) (no_more xs)

divided-alone : (n : ℕ) (v : SearchNode) (step : Step) (children : Trees) → divided n (alone v step children) ≡ opened n v step children
divided-alone n v (L job) children = divided-L n v job children none ∙ divided-none (n + 1)
divided-alone n v (C m) children = divided-C n v m children none ∙ divided-none (n + 1)
divided-alone n v (D time) children =
    divided-D n v time children none ∙
    (ap (λ (xs : List Numbered). (n, v) ∷ (divided (n + 1) children ++ xs)) (divided-none (n + 1 + node_count children)) ∙ ap (λ (xs : List Numbered). (n, v) ∷ xs) (no_more (divided (n + 1) children)))

count-alone : (v : SearchNode) (step : Step) (children : Trees) → node_count (alone v step children) ≡ 1 + node_count children
count-alone v step children = omega (arith, count-tree v step children none, count-none)

-- the closed nodes in another order
shuffle : (x : Numbered) (xs ys zs : List Numbered) → Within ((x ∷ (xs ++ ys)) ++ zs) ((x ∷ ys) ++ (xs ++ zs))
shuffle x xs ys zs y c = elim (Contains-append_cases (x ∷ (xs ++ ys)) zs y c) [
  | inr old ↦ Contains-append_right (x ∷ ys) (xs ++ zs) y (Contains-append_right xs zs y old)
  | inl new ↦ elim (member_cases x (xs ++ ys) y new) [
    | inl own ↦ Contains-append_left (x ∷ ys) (xs ++ zs) y (member_first x ys y own)
    | inr below ↦ elim (Contains-append_cases xs ys y below) [
      | inl one ↦ Contains-append_right (x ∷ ys) (xs ++ zs) y (Contains-append_left xs zs y one)
      | inr two ↦ Contains-append_left (x ∷ ys) (xs ++ zs) y (member_later x ys y two)
    ]
  ]
]

shuffle-back : (x : Numbered) (xs ys zs : List Numbered) → Within ((x ∷ ys) ++ (xs ++ zs)) ((x ∷ (xs ++ ys)) ++ zs)
shuffle-back x xs ys zs y c = elim (Contains-append_cases (x ∷ ys) (xs ++ zs) y c) [
  | inl new ↦ Contains-append_left (x ∷ (xs ++ ys)) zs y (elim (member_cases x ys y new) [
    | inl own ↦ member_first x (xs ++ ys) y own
    | inr two ↦ member_later x (xs ++ ys) y (Contains-append_right xs ys y two)
  ])
  | inr rest ↦ elim (Contains-append_cases xs zs y rest) [
    | inr old ↦ Contains-append_right (x ∷ (xs ++ ys)) zs y old
    | inl one ↦ Contains-append_left (x ∷ (xs ++ ys)) zs y (member_later x (xs ++ ys) y (Contains-append_left xs ys y one))
  ]
]

-- a tree in front of others
module _ (p : Project) (a : List ℕ) where
  -- a tree holds, and then the others; and what they close
  pub record Parts (closed : List Numbered) (n : ℕ) (window : Bounds) (windows : List Bounds) (v : SearchNode) (step : Step) (children others : Trees) : Type 0 where
    pub first : Hold p a closed n (window ∷ []) (alone v step children)
    pub then : Hold p a (opened n v step children ++ closed) (n + 1 + node_count children) windows others
    pub both : divided n (tree v step children others) ≡ opened n v step children ++ divided (n + 1 + node_count children) others

  leaf-count : (n : ℕ) (children : Trees) → children ≡ none → n + 1 ≡ n + 1 + node_count children
  leaf-count n children leaf = omega (arith, ap (λ (x : Trees). node_count x) leaf, count-none)

  split : (closed : List Numbered) (n : ℕ) (window : Bounds) (windows : List Bounds) (v : SearchNode) (step : Step) (children others : Trees) → Hold p a closed n (window ∷ windows) (tree v step children others) →
      Parts closed n window windows v step children others
  split closed n window windows v (L job) children others h = record {
    first = (h.0, h.1, h.2, tt);
    then = subst (λ (m : ℕ). Hold p a closed m windows others) (leaf-count n children h.2) h.3;
    both = divided-L n v job children others ∙ ap (λ (m : ℕ). divided m others) (leaf-count n children h.2);
  }
  split closed n window windows v (C m) children others h = record {
    first = (h.0, h.1, h.2, tt);
    then = subst (λ (k : ℕ). Hold p a closed k windows others) (leaf-count n children h.2) h.3;
    both = divided-C n v m children others ∙ ap (λ (k : ℕ). divided k others) (leaf-count n children h.2);
  }
  split closed n window windows v (D time) children others h = record {
    first = (h.0, h.1, tt);
    then = h.2;
    both = divided-D n v time children others;
  }

  join : (closed : List Numbered) (n : ℕ) (window : Bounds) (windows : List Bounds) (v : SearchNode) (step : Step) (children others : Trees) → Hold p a closed n (window ∷ []) (alone v step children) →
      Hold p a (opened n v step children ++ closed) (n + 1 + node_count children) windows others → Hold p a closed n (window ∷ windows) (tree v step children others)
  join closed n window windows v (L job) children others h g = (h.0, h.1, h.2, subst (λ (m : ℕ). Hold p a closed m windows others) (sym (leaf-count n children h.2)) g)
  join closed n window windows v (C m) children others h g = (h.0, h.1, h.2, subst (λ (k : ℕ). Hold p a closed k windows others) (sym (leaf-count n children h.2)) g)
  join closed n window windows v (D time) children others h g = (h.0, h.1, g)

module _ (p : Project) (a : List ℕ) (Ends : Ending) (stays : Stays Ends) where
  abbrev Follows : List Numbered → ℕ → List OpenNode → List ℕ → Type 0
  Follows = Follow p a Ends

  -- with more closed nodes a text goes on as well
  pub follow-more : (xs ys : List Numbered) (n : ℕ) (frames : List OpenNode) (text : List ℕ) → Within xs ys → Follow p a Ends xs n frames text → Follow p a Ends ys n frames text
  follow-more xs ys n [] text w h = stays xs ys n text w h
  follow-more xs ys n (f ∷ frames) text w h = (
    h.0,
    h.1,
    h.2,
    h.3,
    record { holds = hold-more p a xs ys n h.0 h.2 w h.4.holds; small = h.4.small; whole = h.4.whole },
    follow-more (((f.number, f.node) ∷ divided n h.2) ++ xs) (((f.number, f.node) ∷ divided n h.2) ++ ys) (n + node_count h.2) frames h.3
        (within-front ((f.number, f.node) ∷ divided n h.2) xs ys w) h.5,
  )

  -- with equal numbers and closed nodes
  follow-at : (xs ys : List Numbered) (n m : ℕ) (frames : List OpenNode) (text : List ℕ) → xs ≡ ys → n ≡ m → Follow p a Ends xs n frames text → Follow p a Ends ys m frames text
  follow-at xs ys n m frames text e same h = subst (λ (zs : List Numbered). Follow p a Ends zs m frames text) e (subst (λ (k : ℕ). Follow p a Ends xs k frames text) same h)

  -- the tree that is next, where its line is known
  pub record Front (closed : List Numbered) (n : ℕ) (window : Bounds) (frames : List OpenNode) (step : Step) (more : List ℕ) : Type 0 where
    pub node : SearchNode
    pub children : Trees
    pub after : List ℕ
    pub holds : Hold p a closed n (window ∷ []) (alone node step children)
    pub small : HasSmallLines children
    pub same : more ≡ tree_text children ++ after
    pub rest : Follow p a Ends (opened n node step children ++ closed) (n + 1 + node_count children) frames after

  pub front-tree : (closed : List Numbered) (n : ℕ) (window : Bounds) (frames : List OpenNode) (step : Step) (more : List ℕ) → step_number step ≤ most_number → IsNext p a Ends closed n window frames (step_line step ++ more) → Front closed n window frames step more
  front-tree closed n window frames step more little h = go h.0 h.1 h.2.holds h.2.small h.2.whole h.3
    where
      go : (trees : Trees) (after : List ℕ) → Hold p a closed n (window ∷ []) trees → HasSmallLines trees → step_line step ++ more ≡ tree_text trees ++ after → Follow p a Ends (divided n trees ++ closed) (n + node_count trees) frames after → Front closed n window frames step more
      go none after hold small e rest = absurd hold
      go (tree v other children (tree w second below others)) after hold small e rest = absurd ((split p a closed n window [] v other children (tree w second below others) hold).then)
      go (tree v other children none) after hold small e rest =
          let whole : step_line step ++ more ≡ step_line other ++ (tree_text children ++ after) =
          e ∙ (ap (λ (xs : List ℕ). xs ++ after) (text-tree v other children none) ∙ (append_assoc (step_line other) (tree_text children ++ tree_text none) after
          ∙ ap (λ (xs : List ℕ). step_line other ++ xs) (append_assoc (tree_text children) (tree_text none) after ∙ ap (λ (xs : List ℕ). tree_text children ++ (xs ++ after)) text-none))) in
          let is = one_line step other more (tree_text children ++ after) little (small-first v other children none small) whole in
          let back : other ≡ step = sym is.0 in
          record {
            node = v;
            children = children;
            after = after;
            holds = subst (λ (x : Step). Hold p a closed n (window ∷ []) (alone v x children)) back hold;
            small = small-children v other children none small;
            same = is.1;
            rest = subst (λ (x : Step). Follow p a Ends (opened n v x children ++ closed) (n + 1 + node_count children) frames after) back
                (follow-at (divided n (alone v other children) ++ closed) (opened n v other children ++ closed) (n + node_count (alone v other children)) (n + 1 + node_count children) frames after
                (ap (λ (xs : List Numbered). xs ++ closed) (divided-alone n v other children)) (omega (arith, count-alone v other children)) rest);
          }

  pub tree-front : (closed : List Numbered) (n : ℕ) (window : Bounds) (frames : List OpenNode) (step : Step) (more : List ℕ) → step_number step ≤ most_number → Front closed n window frames step more → IsNext p a Ends closed n window frames (step_line step ++ more)
  tree-front closed n window frames step more little h = (
    alone h.node step h.children,
    h.after,
    record {
      holds = h.holds;
      small = small-tree h.node step h.children none little h.small small-none;
      whole = ap (λ (xs : List ℕ). step_line step ++ xs) (h.same ∙ sym (append_assoc (tree_text h.children) (tree_text none) h.after ∙ ap (λ (xs : List ℕ). tree_text h.children ++ (xs ++ h.after)) text-none))
          ∙ sym (ap (λ (xs : List ℕ). xs ++ h.after) (text-tree h.node step h.children none) ∙ append_assoc (step_line step) (tree_text h.children ++ tree_text none) h.after);
    },
    follow-at (opened n h.node step h.children ++ closed) (divided n (alone h.node step h.children) ++ closed) (n + 1 + node_count h.children) (n + node_count (alone h.node step h.children)) frames h.after
        (ap (λ (xs : List Numbered). xs ++ closed) (sym (divided-alone n h.node step h.children))) (omega (arith, count-alone h.node step h.children)) h.rest,
  )

  -- a line without children
  leaf-rest : (closed : List Numbered) (n : ℕ) (frames : List OpenNode) (children : Trees) (more after : List ℕ) → children ≡ none → more ≡ tree_text children ++ after → Follow p a Ends closed (n + 1 + node_count children) frames after → Follow p a Ends closed (n + 1) frames more
  leaf-rest closed n frames children more after leaf same rest =
      let bare : more ≡ after = same ∙ ap (λ (xs : List ℕ). xs ++ after) (ap (λ (x : Trees). tree_text x) leaf ∙ text-none) in
      subst (λ (xs : List ℕ). Follow p a Ends closed (n + 1) frames xs) (sym bare)
      (follow-at closed closed (n + 1 + node_count children) (n + 1) frames after refl (omega (arith, leaf-count p a n children leaf)) rest)

  leaf-front : (closed : List Numbered) (n : ℕ) (frames : List OpenNode) (more : List ℕ) → Follow p a Ends closed (n + 1) frames more → Follow p a Ends closed (n + 1 + node_count none) frames more
  leaf-front closed n frames more h = follow-at closed closed (n + 1) (n + 1 + node_count none) frames more refl (omega (arith, count-none)) h

  bare : (more : List ℕ) → more ≡ tree_text none ++ more
  bare more = sym (ap (λ (xs : List ℕ). xs ++ more) text-none)

  module _ (goes : (v : SearchNode) (active : List ℕ) (window : Bounds) (time : ℕ) → IsOpened p a window time v active → (gone : List ℕ) → IsMinimalDelayingAlternative p v.capacities active gone → gone ≢ []) where
    stepped : (closed : List Numbered) (n : ℕ) (window : Bounds) (frames : List OpenNode) (step : Step) (more : List ℕ) → Front closed n window frames step more → IsStepped p a Ends closed n window frames step more
    stepped closed n window frames (L job) more h = ((h.node, h.holds.0, h.holds.1), leaf-rest closed n frames h.children more h.after h.holds.2 h.same h.rest)
    stepped closed n window frames (C m) more h = ((h.node, h.holds.0, h.holds.1), leaf-rest closed n frames h.children more h.after h.holds.2 h.same h.rest)
    stepped closed n window frames (D time) more h =
        let parts : List Bounds = h.holds.1.0 in
        let is : IsDivided p h.node time parts = h.holds.1.1 in
        let opens : IsOpened p a window time h.node is.active = record { is = h.holds.0; below = is.below; at = is.at; clash = is.clash } in
        let f : OpenNode = record { number = n; node = h.node; active = is.active; last = [] } in (
          h.node,
          is.active,
          opens,
          (
            parts,
            record { lists = is.children.lists; behind = (all_behind p f is.children.lists refl (goes h.node is.active window time opens)).0 is.children.alternatives; each = is.children.each },
            h.children,
            h.after,
            record { holds = h.holds.1.2; small = h.small; whole = h.same },
            h.rest,
          ),
        )

    unstepped : (closed : List Numbered) (n : ℕ) (window : Bounds) (frames : List OpenNode) (step : Step) (more : List ℕ) → IsStepped p a Ends closed n window frames step more → Front closed n window frames step more
    unstepped closed n window frames (L job) more h = record { node = h.0.0; children = none; after = more; holds = (h.0.1, h.0.2, refl, tt); small = small-none; same = bare more; rest = leaf-front closed n frames more h.1 }
    unstepped closed n window frames (C m) more h = record { node = h.0.0; children = none; after = more; holds = (h.0.1, h.0.2, refl, tt); small = small-none; same = bare more; rest = leaf-front closed n frames more h.1 }
    unstepped closed n window frames (D time) more h =
        let v : SearchNode = h.0 in
        let active : List ℕ = h.1 in
        let opens : IsOpened p a window time v active = h.2 in
        let f : OpenNode = record { number = n; node = v; active = active; last = [] } in
        let come : AreToCome p f h.3.0 = h.3.1 in
        record {
          node = v;
          children = h.3.2;
          after = h.3.3;
          holds = (
            opens.is,
            (
              h.3.0,
              record {
                below = opens.below;
                at = opens.at;
                active = active;
                clash = opens.clash;
                children = record { lists = come.lists; alternatives = (all_behind p f come.lists refl (goes v active window time opens)).1 come.behind; each = come.each };
              },
              h.3.4.holds,
            ),
            tt,
          );
          small = h.3.4.small;
          same = h.3.4.whole;
          rest = h.3.5;
        }

    -- the next line
    pub line_follows : (closed : List Numbered) (n : ℕ) (window : Bounds) (frames : List OpenNode) (step : Step) (more : List ℕ) → step_number step ≤ most_number →
        IsNext p a Ends closed n window frames (step_line step ++ more) ↔ IsStepped p a Ends closed n window frames step more
    line_follows closed n window frames step more little = (
      λ h. stepped closed n window frames step more (front-tree closed n window frames step more little h),
      λ h. tree-front closed n window frames step more little (unstepped closed n window frames step more h),
    )

  -- a text that begins with no line
  pub line_missing : (closed : List Numbered) (n : ℕ) (window : Bounds) (frames : List OpenNode) (text : List ℕ) → ((step : Step) (more : List ℕ) → step_number step ≤ most_number → text ≡ step_line step ++ more → ⊥) →
      IsNext p a Ends closed n window frames text → ⊥
  line_missing closed n window frames text none' h = go h.0 h.1 h.2.holds h.2.small h.2.whole
    where
      go : (trees : Trees) (after : List ℕ) → Hold p a closed n (window ∷ []) trees → HasSmallLines trees → text ≡ tree_text trees ++ after → ⊥
      go none after hold small e = absurd hold
      go (tree v step children others) after hold small e = none' step ((tree_text children ++ tree_text others) ++ after) (small-first v step children others small)
          (e ∙ (ap (λ (xs : List ℕ). xs ++ after) (text-tree v step children others) ∙ append_assoc (step_line step) (tree_text children ++ tree_text others) after))

  -- the windows to come where the next alternative is known: of none of whose jobs some stay
  module _ (f : OpenNode) (gone : List ℕ) (next : IsNextBehind p f gone) where
    none_stays : NoneStays f.active gone → (windows : List Bounds) → AreToCome p f windows → AreToCome p (read_on f gone) windows
    none_stays stay windows h =
        let is = front p f gone next h.lists h.behind in
        let each : AreChildrenOf p f.node.early f.active f.node.window (gone ∷ is.rest) windows = subst (λ (xs : List (List ℕ)). AreChildrenOf p f.node.early f.active f.node.window xs windows) is.same h.each in
        record {
          lists = is.rest;
          behind = is.behind;
          each = elim each [
            | inl skipped ↦ skipped.1
            | inr child ↦ absurd (
                let kept : List ℕ = next.minimal.delays.0 in
                let of = child.3.1 kept next.minimal.delays.1 in
                no_member of.first.some.0 (subst (λ (xs : List ℕ). Contains xs of.first.some.0) (stay kept next.minimal.delays.1) of.first.some.1))
          ];
        }

    stays_none : NoneStays f.active gone → (windows : List Bounds) → AreToCome p (read_on f gone) windows → AreToCome p f windows
    stays_none stay windows h = record { lists = gone ∷ h.lists; behind = front-back p f gone next h.lists h.behind; each = inl (stay, h.each) }

    -- where no active job stays, nothing changes
    pub whole_passed : (closed : List Numbered) (n : ℕ) (frames : List OpenNode) (text : List ℕ) → NoneStays f.active gone →
        Follow p a Ends closed n (f ∷ frames) text ↔ Follow p a Ends closed n (read_on f gone ∷ frames) text
    whole_passed closed n frames text stay = (
      λ h. (h.0, none_stays stay h.0 h.1, h.2, h.3, h.4, h.5),
      λ h. (h.0, stays_none stay h.0 h.1, h.2, h.3, h.4, h.5),
    )

    module _ (child : Bounds) (some : NoneStays f.active gone → ⊥) (is_child : IsChildFor p f.node.early f.active f.node.window gone child)
        (one : (other : Bounds) → IsChildFor p f.node.early f.active f.node.window gone other → other ≡ child) where
      record Come (windows : List Bounds) : Type 0 where
        rest : List Bounds
        same : windows ≡ child ∷ rest
        come : AreToCome p (read_on f gone) rest

      come-child : (windows : List Bounds) → AreToCome p f windows → Come windows
      come-child windows h =
          let is = front p f gone next h.lists h.behind in
          let each : AreChildrenOf p f.node.early f.active f.node.window (gone ∷ is.rest) windows = subst (λ (xs : List (List ℕ)). AreChildrenOf p f.node.early f.active f.node.window xs windows) is.same h.each in
          elim each [
            | inl skipped ↦ absurd (some skipped.0)
            | inr other ↦ record {
              rest = other.1;
              same = other.2 ∙ ap (λ (w : Bounds). w ∷ other.1) (one other.0 other.3);
              come = record { lists = is.rest; behind = is.behind; each = other.4 };
            }
          ]

      child-come : (rest : List Bounds) → AreToCome p (read_on f gone) rest → AreToCome p f (child ∷ rest)
      child-come rest h = record { lists = gone ∷ h.lists; behind = front-back p f gone next h.lists h.behind; each = inr (child, rest, refl, is_child, h.each) }

      abbrev own : Numbered
      own = (f.number, f.node)

      -- the window of its child is next
      pub child_next : (closed : List Numbered) (n : ℕ) (frames : List OpenNode) (text : List ℕ) → Follow p a Ends closed n (f ∷ frames) text ↔ IsNext p a Ends closed n child (read_on f gone ∷ frames) text
      child_next closed n frames text = (
        λ h. let c = come-child h.0 h.1 in there c.rest c.come h.2 h.3 (subst (λ (ws : List Bounds). Hold p a closed n ws h.2) c.same h.4.holds) h.4.small h.4.whole h.5,
        λ h. back h.0 h.1 h.2.holds h.2.small h.2.whole h.3.0 h.3.1 h.3.2 h.3.3 h.3.4 h.3.5,
      )
        where
          texts : (v : SearchNode) (step : Step) (children others : Trees) (after : List ℕ) → tree_text (tree v step children others) ++ after ≡ tree_text (alone v step children) ++ (tree_text others ++ after)
          texts v step children others after =
              (ap (λ (xs : List ℕ). xs ++ after) (text-tree v step children others) ∙ (append_assoc (step_line step) (tree_text children ++ tree_text others) after ∙ ap (λ (xs : List ℕ). step_line step ++ xs) (append_assoc (tree_text children) (tree_text others) after)))
              ∙ sym (ap (λ (xs : List ℕ). xs ++ (tree_text others ++ after)) (text-tree v step children none)
              ∙ (append_assoc (step_line step) (tree_text children ++ tree_text none) (tree_text others ++ after)
              ∙ ap (λ (xs : List ℕ). step_line step ++ xs) (append_assoc (tree_text children) (tree_text none) (tree_text others ++ after) ∙ ap (λ (xs : List ℕ). tree_text children ++ (xs ++ (tree_text others ++ after))) text-none)))

          there : (rest : List Bounds) → AreToCome p (read_on f gone) rest → (trees : Trees) (after : List ℕ) → Hold p a closed n (child ∷ rest) trees → HasSmallLines trees → text ≡ tree_text trees ++ after →
              Follow p a Ends ((own ∷ divided n trees) ++ closed) (n + node_count trees) frames after → IsNext p a Ends closed n child (read_on f gone ∷ frames) text
          there rest come none after hold small e h = absurd hold
          there rest come (tree v step children others) after hold small e h =
              let parts = split p a closed n child rest v step children others hold in
              let first : List Numbered = opened n v step children in
              let m : ℕ = n + 1 + node_count children in
              let shown : first ≡ divided n (alone v step children) = sym (divided-alone n v step children) in
              let at : m ≡ n + node_count (alone v step children) = omega (arith, count-alone v step children) in
              let told : Follow p a Ends ((own ∷ divided m others) ++ (first ++ closed)) (m + node_count others) frames after =
              follow-more ((own ∷ (first ++ divided m others)) ++ closed) ((own ∷ divided m others) ++ (first ++ closed)) (m + node_count others) frames after (shuffle own first (divided m others) closed)
              (follow-at ((own ∷ divided n (tree v step children others)) ++ closed) ((own ∷ (first ++ divided m others)) ++ closed) (n + node_count (tree v step children others)) (m + node_count others) frames after
              (ap (λ (xs : List Numbered). (own ∷ xs) ++ closed) parts.both) (omega (arith, count-tree v step children others)) h) in
              let inner : Follow p a Ends (first ++ closed) m (read_on f gone ∷ frames) (tree_text others ++ after) =
              (rest, come, others, after, record { holds = parts.then; small = small-others v step children others small; whole = refl }, told) in (
                alone v step children,
                tree_text others ++ after,
                record { holds = parts.first; small = small-tree v step children none (small-first v step children others small) (small-children v step children others small) small-none; whole = e ∙ texts v step children others after },
                follow-at (first ++ closed) (divided n (alone v step children) ++ closed) m (n + node_count (alone v step children)) (read_on f gone ∷ frames) (tree_text others ++ after) (ap (λ (xs : List Numbered). xs ++ closed) shown) at inner,
              )

          back : (trees : Trees) (after : List ℕ) → Hold p a closed n (child ∷ []) trees → HasSmallLines trees → text ≡ tree_text trees ++ after →
              (rest : List Bounds) → AreToCome p (read_on f gone) rest → (others : Trees) (last : List ℕ) → BeginsWith p a (divided n trees ++ closed) (n + node_count trees) rest after others last →
              Follow p a Ends ((own ∷ divided (n + node_count trees) others) ++ (divided n trees ++ closed)) (n + node_count trees + node_count others) frames last → Follow p a Ends closed n (f ∷ frames) text
          back none after hold small e rest come others last begins h = absurd hold
          back (tree v step children (tree w second below more)) after hold small e rest come others last begins h = absurd ((split p a closed n child [] v step children (tree w second below more) hold).then)
          back (tree v step children none) after hold small e rest come others last begins h =
              let first : List Numbered = opened n v step children in
              let m : ℕ = n + 1 + node_count children in
              let shown : divided n (alone v step children) ≡ first = divided-alone n v step children in
              let at : n + node_count (alone v step children) ≡ m = omega (arith, count-alone v step children) in
              let then : Hold p a (first ++ closed) m rest others =
              subst (λ (xs : List Numbered). Hold p a (xs ++ closed) m rest others) shown (subst (λ (k : ℕ). Hold p a (divided n (alone v step children) ++ closed) k rest others) at begins.holds) in
              let all : Hold p a closed n (child ∷ rest) (tree v step children others) = join p a closed n child rest v step children others hold then in
              let parts = split p a closed n child rest v step children others all in
              let told : Follow p a Ends ((own ∷ divided m others) ++ (first ++ closed)) (m + node_count others) frames last =
              follow-at ((own ∷ divided (n + node_count (alone v step children)) others) ++ (divided n (alone v step children) ++ closed)) ((own ∷ divided m others) ++ (first ++ closed)) (n + node_count (alone v step children) + node_count others) (m + node_count others) frames last
              (ap (λ (k : ℕ). (own ∷ divided k others) ++ (divided n (alone v step children) ++ closed)) at ∙ ap (λ (xs : List Numbered). (own ∷ divided m others) ++ (xs ++ closed)) shown) (omega (arith, at)) h in (
                child ∷ rest,
                child-come rest come,
                tree v step children others,
                last,
                record {
                  holds = all;
                  small = small-tree v step children others (small-first v step children none small) (small-children v step children none small) begins.small;
                  whole = e ∙ (ap (λ (xs : List ℕ). tree_text (alone v step children) ++ xs) begins.whole ∙ sym (texts v step children others last));
                },
                follow-at ((own ∷ (first ++ divided m others)) ++ closed) ((own ∷ divided n (tree v step children others)) ++ closed) (m + node_count others) (n + node_count (tree v step children others)) frames last
                    (ap (λ (xs : List Numbered). (own ∷ xs) ++ closed) (sym parts.both)) (omega (arith, count-tree v step children others))
                    (follow-more ((own ∷ divided m others) ++ (first ++ closed)) ((own ∷ (first ++ divided m others)) ++ closed) (m + node_count others) frames last (shuffle-back own first (divided m others) closed) told),
              )

  -- an open node without alternatives to come is closed
  pub node_closes : (f : OpenNode) → ((other : List ℕ) → IsMinimalDelayingAlternative p f.node.capacities f.active other → IsLexBefore f.last other → ⊥) → (closed : List Numbered) (n : ℕ) (frames : List OpenNode) (text : List ℕ) →
      Follow p a Ends closed n (f ∷ frames) text ↔ Follow p a Ends ((f.number, f.node) ∷ closed) n frames text
  node_closes f none' closed n frames text = (
    λ h. there h.0 h.1.lists h.1.behind h.1.each h.2 h.3 h.4.holds h.4.whole h.5,
    λ h. (
      [],
      record { lists = []; behind = behind_none p f none'; each = refl },
      none,
      text,
      record { holds = tt; small = small-none; whole = bare text },
      follow-at ((f.number, f.node) ∷ closed) (((f.number, f.node) ∷ divided n none) ++ closed) n (n + node_count none) frames text
          (ap (λ (xs : List Numbered). ((f.number, f.node) ∷ xs) ++ closed) (sym (divided-none n))) (omega (arith, count-none)) h,
    ),
  )
    where
      there : (windows : List Bounds) (lists : List (List ℕ)) → AreBehind p f lists → AreChildrenOf p f.node.early f.active f.node.window lists windows → (trees : Trees) (after : List ℕ) → Hold p a closed n windows trees → text ≡ tree_text trees ++ after →
          Follow p a Ends (((f.number, f.node) ∷ divided n trees) ++ closed) (n + node_count trees) frames after → Follow p a Ends ((f.number, f.node) ∷ closed) n frames text
      there windows lists behind each trees after hold e h =
          let no_lists : lists ≡ [] = none_behind p f none' lists behind in
          let no_windows : windows ≡ [] = subst (λ (xs : List (List ℕ)). AreChildrenOf p f.node.early f.active f.node.window xs windows) no_lists each in
          close trees (subst (λ (ws : List Bounds). Hold p a closed n ws trees) no_windows hold) e h
        where
          close : (trees : Trees) → Hold p a closed n [] trees → text ≡ tree_text trees ++ after → Follow p a Ends (((f.number, f.node) ∷ divided n trees) ++ closed) (n + node_count trees) frames after → Follow p a Ends ((f.number, f.node) ∷ closed) n frames text
          close none hold e h =
              let same : text ≡ after = e ∙ ap (λ (xs : List ℕ). xs ++ after) text-none in
              subst (λ (xs : List ℕ). Follow p a Ends ((f.number, f.node) ∷ closed) n frames xs) (sym same)
              (follow-at (((f.number, f.node) ∷ divided n none) ++ closed) ((f.number, f.node) ∷ closed) (n + node_count none) n frames after
              (ap (λ (xs : List Numbered). ((f.number, f.node) ∷ xs) ++ closed) (divided-none n)) (omega (arith, count-none)) h)
          close (tree v step children others) hold e h = absurd hold
