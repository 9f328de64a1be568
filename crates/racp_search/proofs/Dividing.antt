-- Trees that refute a question: the child windows of a window, and the lines that are made of them.
use Rattle.std.proofs.Common.{◌≡◌, ◌≢◌, inl, inr, ◌∙◌, ℕ, ◌+◌, ◌<◌, ◌≤◌, List, [], ◌∷◌, ◌++◌, length, Contains, All, arith, refl, sym, subst, ap}
use Rattle.std.specs.Prelude.{reverse, drop, get_or}
use Rattle.std.proofs.lemmas.List.{drop_all, drop_more, reverse-append}
use Rattle.racp_model.specs.Project.{IsNumber, IsSound}
use Rattle.racp_model.specs.Window.{Bounds}
use Rattle.racp_delay.specs.Alternatives.{Splits}
use Rattle.racp_delay.specs.Branching.{IsFirstEnd}
use Rattle.racp_delay.specs.Laws.{OthersStay, SubsetsGo, ChildIsInside, ChildIsHigher, NoConflictBefore}
use Rattle.racp_cutset.specs.Covering.{SearchNode}
use Rattle.racp_search.specs.Children.{IsPutOff}
use Rattle.racp_model.proofs.lemmas.Relations.{member_cases, no_member}
use Rattle.racp_trees.specs.Children.{NoneStays, AreChildrenOf}
use Rattle.racp_search.specs.DepthFirst.{HasActive, IsBelow}
use Rattle.racp_search.specs.Refuting.{ArePutOn, IsConflicting, IsPartAnswer}
use Rattle.racp_search.specs.declared.refuting.Divided.{Divided}
use Rattle.racp_search.proofs.Children.{child_is, end_small, gone_numbers}
use Rattle.std.specs.Prelude.{Some}

-- the node of a window whose early starts have a conflict
abbrev pub node_of : Divided → SearchNode
node_of d = record { capacities = d.capacities.now; window = d.window.now; early = d.early.now; time = d.clash.now.time }

-- and its active jobs
pub node_active : (d : Divided) → IsConflicting d → HasActive d.net.now (node_of d) d.clash.now.active
node_active d is = record {
  node = record { resources = is.places; lower = is.bounds.lower; upper = is.bounds.upper; early = is.conflict.early };
  fits = record { within = λ k s resource before. is.conflict.first.first.before k s resource before; below = λ i l started. is.conflict.below i l };
  conflict = is.conflict.first;
  small = is.conflict.small;
}

module _ (d : Divided) (is : IsConflicting d) (gone kept : List ℕ) (splits : Splits d.clash.now.active gone kept) where
  -- the jobs that go are jobs of the project
  pub part_numbers : SubsetsGo → All (IsNumber (length d.window.now.lower)) gone
  part_numbers law = gone_numbers d.net.now d.capacities.now d.early.now d.clash.now.time d.clash.now.active gone kept (length d.window.now.lower) law is.bounds.lower is.conflict.first splits

  -- the first end of those that stay is small
  pub part_end : OthersStay → IsSound d.net.now → (end : ℕ) → IsFirstEnd d.net.now d.early.now kept end → end ≤ 10010000
  part_end law sound end first = end_small d.net.now d.capacities.now d.early.now d.clash.now.time d.clash.now.active gone kept end law sound is.conflict.first is.conflict.small splits first

  -- what is put off is the child window
  pub part_is : ChildIsInside → ChildIsHigher → NoConflictBefore → gone ≢ [] → (end : ℕ) → ((others : List ℕ) → Splits d.clash.now.active gone others → IsFirstEnd d.net.now d.early.now others end) →
      (part : Bounds) → IsPutOff d.window.now gone end part → IsPartAnswer d gone (Some part)
  part_is inside higher quiet some end ends part off =
      let child = child_is d.net.now (node_of d) d.clash.now.active gone (node_active d is) kept end part inside higher quiet splits some ends off in
      (child.below, (off.lower.places, child.is))

-- a stack with one window more
put-on_stack : (old new : List Bounds) (part : Bounds) → new ≡ old ++ part ∷ [] → reverse new ≡ part ∷ reverse old
put-on_stack old new part e = ap (λ (xs : List Bounds). reverse xs) e ∙ reverse-append old (part ∷ [])

module _ (d : Divided) (lists : List (List ℕ)) (old : List Bounds) where
  -- the child windows of the lists from a place on were put on a stack
  pub record IsPutting (left : ℕ) (new : List Bounds) : Type 0 where
    pub parts : List Bounds
    pub children : AreChildrenOf d.net.now d.early.now d.clash.now.active d.window.now (drop left lists) parts
    pub stacked : reverse new ≡ parts ++ reverse old
    pub below : (part : Bounds) → Contains parts part → IsBelow d.net.now d.window.now part
    pub few : length parts + left ≤ length lists

  -- before the first none was
  pub putting-start : (left : ℕ) (new : List Bounds) → left ≡ length lists → new ≡ old → IsPutting left new
  putting-start left new e same = record {
    parts = [];
    children = subst (λ (xs : List (List ℕ)). AreChildrenOf d.net.now d.early.now d.clash.now.active d.window.now xs []) (sym (drop_all left lists (omega (arith, e)))) refl;
    stacked = ap (λ (xs : List Bounds). reverse xs) same;
    below = λ part c. absurd (no_member part c);
    few = omega (arith, e);
  }

  -- of the next one no active job stays
  pub putting-none : (left next : ℕ) (new : List Bounds) (gone : List ℕ) → next + 1 ≡ left → next < length lists → gone ≡ get_or lists next [] → NoneStays d.clash.now.active gone → IsPutting left new → IsPutting next new
  putting-none left next new gone e within here none h = record {
    parts = h.parts;
    children =
        subst (λ (xs : List (List ℕ)). AreChildrenOf d.net.now d.early.now d.clash.now.active d.window.now xs h.parts) (sym (drop_more lists next [] within))
        (subst (λ (first : List ℕ). AreChildrenOf d.net.now d.early.now d.clash.now.active d.window.now (first ∷ drop (next + 1) lists) h.parts) here
        (inl (none, subst (λ n. AreChildrenOf d.net.now d.early.now d.clash.now.active d.window.now (drop n lists) h.parts) (sym e) h.children)));
    stacked = h.stacked;
    below = h.below;
    few = omega (arith, h.few, e);
  }

  -- its child window is put on
  pub putting-more : (left next : ℕ) (new newer : List Bounds) (gone : List ℕ) (part : Bounds) → next + 1 ≡ left → next < length lists → gone ≡ get_or lists next [] → IsPartAnswer d gone (Some part) → newer ≡ new ++ part ∷ [] → IsPutting left new → IsPutting next newer
  putting-more left next new newer gone part e within here is on h = record {
    parts = part ∷ h.parts;
    children =
        subst (λ (xs : List (List ℕ)). AreChildrenOf d.net.now d.early.now d.clash.now.active d.window.now xs (part ∷ h.parts)) (sym (drop_more lists next [] within))
        (subst (λ (first : List ℕ). AreChildrenOf d.net.now d.early.now d.clash.now.active d.window.now (first ∷ drop (next + 1) lists) (part ∷ h.parts)) here
        (inr (part, h.parts, refl, is.1, subst (λ n. AreChildrenOf d.net.now d.early.now d.clash.now.active d.window.now (drop n lists) h.parts) (sym e) h.children)));
    stacked = put-on_stack new newer part on ∙ ap (λ (xs : List Bounds). part ∷ xs) h.stacked;
    below = λ other c. elim (member_cases part h.parts other c) [
      | inl same ↦ subst (λ (w : Bounds). IsBelow d.net.now d.window.now w) same is.0
      | inr there ↦ h.below other there
    ];
    few = omega (arith, h.few, e);
  }

  -- at the end all were
  pub putting-end : (left : ℕ) (new : List Bounds) → left ≡ 0 → IsPutting left new → ArePutOn d lists old new
  putting-end left new e h = record {
    parts = h.parts;
    children = subst (λ n. AreChildrenOf d.net.now d.early.now d.clash.now.active d.window.now (drop n lists) h.parts) e h.children;
    stacked = h.stacked;
    below = h.below;
    few = omega (arith, h.few);
  }
