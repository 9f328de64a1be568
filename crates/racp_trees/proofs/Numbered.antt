-- Closed nodes that are refuted, in lists.
use Rattle.std.proofs.Common.{◌≡◌, inl, inr, ℕ, List, [], ◌∷◌, ◌++◌, Contains, subst}
use Rattle.std.proofs.lemmas.List.Elements.{Contains-append_cases}
use Rattle.racp_model.specs.Project.{Project}
use Rattle.racp_model.specs.Window.{IsNo}
use Rattle.racp_model.proofs.lemmas.Relations.{member_cases, no_member}
use Rattle.racp_cutset.specs.Covering.{SearchNode, IsNode}
use Rattle.racp_trees.specs.Trees.{AreRefutedNodes}

-- a numbered node is refuted
abbrev IsRefutedAt : Project → ℕ × SearchNode → Type 0
IsRefutedAt p x = IsNode p x.1 × IsNo p x.1.capacities x.1.window

-- nodes of two lists
pub refuted_both : (p : Project) (xs ys : List (ℕ × SearchNode)) → AreRefutedNodes p xs → AreRefutedNodes p ys → AreRefutedNodes p (xs ++ ys)
refuted_both p xs ys a b n v c = elim (Contains-append_cases xs ys (n, v) c) [ inl one ↦ a n v one | inr other ↦ b n v other ]

-- one node more
pub refuted_more : (p : Project) (m : ℕ) (w : SearchNode) (xs : List (ℕ × SearchNode)) → IsNode p w × IsNo p w.capacities w.window → AreRefutedNodes p xs → AreRefutedNodes p ((m, w) ∷ xs)
refuted_more p m w xs first rest n v c = elim (member_cases (m, w) xs (n, v) c) [
  | inl same ↦ subst (IsRefutedAt p) same first
  | inr there ↦ rest n v there
]

pub refuted_none : (p : Project) → AreRefutedNodes p []
refuted_none p n v c = absurd (no_member (n, v) c)
