-- A window is entered, and how a search ends.
use Rattle.std.proofs.Common.{◌≡◌, inl, inr, ℕ, ◌+◌, ◌<◌, ◌≤◌, List, [], ◌∷◌, ◌++◌, true, Contains, arith, refl, sym, subst, ap, Option, Some, None, IfSome, IsTrue, IsFalse, false}
use Rattle.std.proofs.lemmas.Bool.{cases_lt}
use Rattle.racp_model.specs.Project.{Project}
use Rattle.racp_model.specs.Window.{Bounds, IsNo}
use Rattle.racp_model.specs.Formed.{HasBounds}
use Rattle.racp_model.proofs.lemmas.Relations.{no_member}
use Rattle.racp_search.specs.Truth.{IsRestOf, IsFoundOrLeft, IsDecision}
use Rattle.racp_search.specs.DepthFirst.{SearchFrame, open_parts, IsSearching, IsSearchingNext, IsFrameOf}
use Rattle.racp_search.specs.Glances.{IsGlance}
use Rattle.racp_search.specs.declared.glance.Glance.{Glance}
use Rattle.racp_search.specs.Steps.{IsClosed}
use Rattle.racp_search.specs.Ends.{IsSpent, IsEnd}
use Rattle.racp_search.specs.declared.ended.Ended.{Ended}
use Rattle.racp_search.proofs.Stacks.{searching-start, searching-refuted, searching-framed}
use Rattle.racp_search.proofs.Weights.{framed-lighter, closed-lighter}

-- what is learnt of a window, in equal projects
pub same_glance : (p q : Project) (a b : List ℕ) (window : Bounds) (glance : Glance) → p ≡ q → a ≡ b → IsGlance p a window glance → IsGlance q b window glance
same_glance p q a b window glance named same h =
    subst (λ (xs : List ℕ). IsGlance q xs window glance) same (subst (λ (r : Project). IsGlance r a window glance) named h)

-- a refuted window is closed
pub closed-refuted : (p : Project) (capacities : List ℕ) (whole : Bounds) (stack : List SearchFrame) (w : Bounds) (from : ℕ) → IsSearchingNext p capacities whole stack w from → IsNo p capacities w → IsClosed p capacities whole stack w stack
closed-refuted p capacities whole stack w from h refuted = record {
  state = searching-refuted p capacities whole stack w h.state refuted;
  lighter = closed-lighter p (open_parts stack) w;
}

-- so is one whose frame is on the stack
pub closed-framed : (q : Project) (capacities : List ℕ) (whole : Bounds) (stack new : List SearchFrame) (w : Bounds) (from : ℕ) (f : SearchFrame) → IsSearchingNext q capacities whole stack w from → IsFrameOf q capacities w f → new ≡ stack ++ f ∷ [] → IsClosed q capacities whole stack w new
closed-framed q capacities whole stack new w from f h is e =
    subst (λ (xs : List SearchFrame). IsClosed q capacities whole stack w xs) (sym e)
    (record { state = searching-framed q capacities whole stack w from f h is; lighter = framed-lighter q capacities stack w f is })

-- at the start a copy of the whole window is searched next
pub started : (p : Project) (capacities : List ℕ) (whole copy : Bounds) (frames : List SearchFrame) → HasBounds p whole → copy.lower ≡ whole.lower → copy.upper ≡ whole.upper → frames ≡ [] → IsSearchingNext p capacities whole frames copy 0
started p capacities whole copy frames bounds lower upper none =
    let same_lower : record { lower = copy.lower; upper = whole.upper } ≡ whole = subst (λ (xs : List ℕ). record { lower = xs; upper = whole.upper } ≡ whole) (sym lower) refl in
    let same : copy ≡ whole = subst (λ (xs : List ℕ). record { lower = copy.lower; upper = xs } ≡ whole) (sym upper) same_lower in
    let copied : IsSearchingNext p capacities whole [] copy 0 = subst (λ (w : Bounds). IsSearchingNext p capacities whole [] w 0) (sym same) (searching-start p capacities whole bounds) in
    subst (λ (xs : List SearchFrame). IsSearchingNext p capacities whole xs copy 0) (sym none) copied

-- a search that leaves nothing and finds nothing
pub end_nothing : (p : Project) (capacities : List ℕ) (whole : Bounds) (quantum : Option ℕ) (nodes : ℕ) (ended : Ended) → IsSearching p capacities whole [] [] → 0 < nodes →
    ended.found ≡ None → ended.rest.items ≡ [] → ended.stopped ≡ false → IsEnd p capacities whole quantum nodes ended
end_nothing p capacities whole quantum nodes ended h some found rest stopped =
    let left : IsRestOf p capacities whole ended.rest.items = subst (λ (xs : List Bounds). IsRestOf p capacities whole xs) (sym rest) (record {
      covers = λ starts answer. let v = h.covers starts answer.lies answer.fits in absurd (no_member v.0 v.1);
      inside = λ part c. absurd (no_member part c);
      bounds = λ part c. absurd (no_member part c);
    }) in
    record {
      is_true = subst (λ (xs : Option (List ℕ)). IsFoundOrLeft p capacities whole xs ended.rest.items) (sym found) left;
      searched = λ a. some;
      stopped = λ a. absurd (cc (a, stopped));
      spent = λ a b. absurd (b rest);
      all = λ a b. rest;
      higher = λ a part c. absurd (no_member part (subst (λ (xs : List Bounds). Contains xs part) rest c));
    }

-- no node is within each quantum
pub none_yet : (quantum : Option ℕ) (nodes : ℕ) → nodes ≡ 0 → IfSome quantum (λ most. nodes ≤ most)
none_yet (Some most) nodes e = omega (arith, e)
none_yet None nodes e = tt

-- a spent quantum allows some node, and is there
pub spent_some : (quantum : Option ℕ) (nodes : ℕ) → IsSpent quantum nodes true → IfSome quantum (λ most. 1 ≤ most) → 0 < nodes
spent_some (Some most) nodes h some = omega (arith, h.0 refl, some)
spent_some None nodes h some = absurd (cc h)

pub spent_there : (quantum : Option ℕ) (nodes : ℕ) → IsSpent quantum nodes true → quantum ≡ None → ⊥
spent_there (Some most) nodes h e = absurd (cc e)
spent_there None nodes h e = absurd (cc h)

-- no node is within each quantum
pub within_none : (quantum : Option ℕ) (nodes : ℕ) → nodes ≡ 0 → IfSome quantum (λ most. nodes ≤ most)
within_none (Some most) nodes none = omega (arith, none)
within_none None nodes none = tt

-- one node more is within a quantum that is not spent
pub within_still : (quantum : Option ℕ) (nodes new : ℕ) → IsSpent quantum nodes false → new ≤ nodes + 1 → IfSome quantum (λ most. new ≤ most)
within_still (Some most) nodes new h l = elim (cases_lt nodes most) [
  | inl less ↦ omega (arith, less, l)
  | inr spent ↦ absurd (cc (h.1 spent))
]
within_still None nodes new h l = tt

-- and is spent exactly
pub spent_exactly : (quantum : Option ℕ) (nodes : ℕ) → IsSpent quantum nodes true → IfSome quantum (λ most. nodes ≤ most) → quantum ≡ Some nodes
spent_exactly (Some most) nodes h within = ap Some (omega (arith, h.0 refl, within))
spent_exactly None nodes h within = absurd (cc h)

-- false is not true, and true is not false
pub false_is_not_true : IsTrue false → ⊥
false_is_not_true h = absurd (cc h)

pub not_false : IsFalse true → ⊥
not_false h = absurd (cc h)

-- where a search without a quantum was not stopped, it decides the question
pub decided : (p : Project) (capacities : List ℕ) (window : Bounds) (nodes : ℕ) (ended : Ended) → IsEnd p capacities window None nodes ended → IsFalse ended.stopped → IsDecision p capacities window ended.found
decided p capacities window nodes ended h on = go ended.found h.is_true
  where
    go : (found : Option (List ℕ)) → IsFoundOrLeft p capacities window found ended.rest.items → IsDecision p capacities window found
    go (Some starts) is = is.0
    go None is = λ starts answer. let v = (subst (λ (xs : List Bounds). IsRestOf p capacities window xs) (h.all on refl) is).covers starts answer in no_member v.0 v.1
