-- Child windows, one alternative after another (from racp_search).
use Rattle.std.proofs.Common.{◌≢◌, inl, inr, ◌∙◌, ℕ, List, [], ◌∷◌, length, Contains, refl, sym, subst, ap}
use Rattle.racp_model.specs.Project.{Project}
use Rattle.racp_model.specs.Window.{Bounds}
use Rattle.racp_model.specs.Formed.{HasBounds}
use Rattle.racp_model.proofs.lemmas.Relations.{member_cases, member_first, member_later, no_member}
use Rattle.racp_delay.specs.Alternatives.{Splits}
use Rattle.racp_delay.specs.Branching.{IsChild}
use Rattle.racp_delay.specs.Laws.{HaveChildren}
use Rattle.racp_trees.specs.Children.{IsChildFor, AreChildrenOf, AreChildren}

module _ (p : Project) (early active : List ℕ) (window : Bounds) where
  -- the child of each list in which some stay
  pub child_of : (lists : List (List ℕ)) (children : List Bounds) (gone kept : List ℕ) → AreChildrenOf p early active window lists children → Contains lists gone → Splits active gone kept → kept ≢ [] →
      (child : Bounds) × Contains children child × IsChild p early window gone kept child
  child_of [] children gone kept h c s some = absurd (no_member gone c)
  child_of (first ∷ lists) children gone kept h c s some = elim h [
    | inl skipped ↦ elim (member_cases first lists gone c) [
      | inl here ↦ absurd (some (skipped.0 kept (subst (λ (x : List ℕ). Splits active x kept) (sym here) s)))
      | inr there ↦ child_of lists children gone kept skipped.1 there s some
    ]
    | inr is ↦ elim (member_cases first lists gone c) [
      | inl here ↦
          let split : Splits active first kept = subst (λ (x : List ℕ). Splits active x kept) (sym here) s in
          (is.0, subst (λ (xs : List Bounds). Contains xs is.0) (sym is.2) (member_first is.0 is.1 is.0 refl), subst (λ (x : List ℕ). IsChild p early window x kept is.0) here (is.3.1 kept split))
      | inr there ↦
          let found = child_of lists is.1 gone kept is.4 there s some in
          (found.0, subst (λ (xs : List Bounds). Contains xs found.0) (sym is.2) (member_later is.0 is.1 found.0 found.1), found.2)
    ]
  ]

  -- each child is that of some list
  pub list_of : (lists : List (List ℕ)) (children : List Bounds) (child : Bounds) → AreChildrenOf p early active window lists children → Contains children child →
      (gone : List ℕ) × Contains lists gone × IsChildFor p early active window gone child
  list_of [] children child h c = absurd (no_member child (subst (λ (xs : List Bounds). Contains xs child) h c))
  list_of (first ∷ lists) children child h c = elim h [
    | inl skipped ↦ let found = list_of lists children child skipped.1 c in (found.0, member_later first lists found.0 found.1, found.2)
    | inr is ↦ elim (member_cases is.0 is.1 child (subst (λ (xs : List Bounds). Contains xs child) is.2 c)) [
      | inl here ↦ (first, member_first first lists first refl, subst (λ (x : Bounds). IsChildFor p early active window first x) here is.3)
      | inr there ↦ let found = list_of lists is.1 child is.4 there in (found.0, member_later first lists found.0 found.1, found.2)
    ]
  ]

-- among the children is one for each alternative
pub have_children : (p : Project) (capacities early active : List ℕ) (window : Bounds) (children : List Bounds) → AreChildren p capacities early active window children → HaveChildren p capacities early active window children
have_children p capacities early active window children are gone kept s some minimal =
    child_of p early active window are.lists children gone kept are.each (are.alternatives.all gone minimal) s some

-- and each has bounds for each job
pub children_bounds : (p : Project) (capacities early active : List ℕ) (window : Bounds) (children : List Bounds) → AreChildren p capacities early active window children → HasBounds p window →
    (child : Bounds) → Contains children child → HasBounds p child
children_bounds p capacities early active window children are bounds child c =
    let found = list_of p early active window are.lists children child are.each c in
    let minimal = are.alternatives.only found.0 found.1 in
    let is = found.2.1 minimal.delays.0 minimal.delays.1 in
    record { lower = found.2.0 ∙ bounds.lower; upper = ap (λ (xs : List ℕ). length xs) is.upper ∙ bounds.upper }
