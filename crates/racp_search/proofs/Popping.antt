-- The last frame of a stack is taken out: a window below it is searched next, or it is used up.
use Rattle.std.proofs.Common.{◌≡◌, inl, inr, ◌∙◌, ℕ, zero, suc, ◌≤◌, List, [], ◌∷◌, ◌++◌, length, slice_set, take, drop, arith, refl, sym, subst, ap}
use Rattle.std.proofs.lemmas.List.{append-nil, append_assoc, take-append-drop, take-set-le}
use Rattle.std.proofs.Math.Seq.{take-append_seam, take-length}
use Rattle.racp_model.specs.Project.{Project}
use Rattle.racp_model.specs.Window.{Bounds, IsNo}
use Rattle.racp_cutset.specs.Covering.{SearchNode}
use Rattle.racp_cutset.specs.Kept.{Kept, StayKept, IsKeptOrDropped, TakesPlace, front}
use Rattle.racp_search.specs.DepthFirst.{SearchFrame, Part, parts_of, open_parts, IsSearching, IsSearchingNext, IsTaken, IsUsedUp, weights}
use Rattle.racp_search.specs.DepthFirst.Part.{all_of}
use Rattle.racp_search.specs.Steps.{IsNext}
use Rattle.racp_search.proofs.Stacks.{open-last, last-inside, inside-sum, searching-next, searching-popped, frame-refuted}
use Rattle.racp_search.proofs.Weights.{weights-append}

-- what is kept stays
pub stays : (kept : Kept) → StayKept kept kept
stays kept = ([], ap (λ (xs : List SearchNode). record { records = xs; most = kept.most }) (sym (append-nil kept.records)))

-- what was kept stays where a record takes a place behind it
pub replaced : (start old : Kept) (record_node : SearchNode) (new : Kept) (count : ℕ) → length start.records ≤ count → StayKept start old → TakesPlace count old record_node new → StayKept start new
replaced start old record_node new count within kept taken =
    let n : ℕ = length start.records in
    let xs : List SearchNode = slice_set old.records taken.place record_node in
    let same : old.records ≡ start.records ++ kept.0 = ap (λ (k : Kept). k.records) kept.1 in
    let front_is : take n xs ≡ start.records =
    take-set-le n old.records taken.place record_node (omega (arith, within, taken.behind)) ∙ (ap (λ (ys : List SearchNode). take n ys) same ∙ take-append_seam start.records kept.0) in
    let whole : xs ≡ start.records ++ drop n xs = sym (take-append-drop n xs) ∙ ap (λ (ys : List SearchNode). ys ++ drop n xs) front_is in (
      drop n xs,
      taken.written ∙ (ap (λ (ys : List SearchNode). record { records = ys; most = old.most }) whole
          ∙ ap (λ (m : ℕ). record { records = start.records ++ drop n xs; most = m }) (ap (λ (k : Kept). k.most) kept.1)),
    )

-- one record more, one in place of another behind what was kept, or none, leaves what was kept
pub one_more : (start old : Kept) (record_node : SearchNode) (new : Kept) (count : ℕ) → length start.records ≤ count → StayKept start old → IsKeptOrDropped count old record_node new → StayKept start new
one_more start old record_node new count within kept step = elim step [
  | inl more ↦ (
    kept.0 ++ record_node ∷ [],
    more ∙ (ap (λ (k : Kept). record { records = k.records ++ record_node ∷ []; most = k.most }) kept.1
        ∙ ap (λ (xs : List SearchNode). record { records = xs; most = start.most }) (append_assoc start.records kept.0 (record_node ∷ []))),
  )
  | inr rest ↦ elim rest [
    | inl taken ↦ replaced start old record_node new count within kept taken
    | inr same ↦ (kept.0, same ∙ kept.1)
  ]
]

-- the first of them stay to begin with
pub first_stay : (count : ℕ) (old : Kept) → StayKept (front count old) old
first_stay count old = (
  drop count old.records,
  ap (λ (xs : List SearchNode). record { records = xs; most = old.most }) (sym (take-append-drop count old.records)),
)

-- where the first ones are all, all stay
pub all_stay : (count : ℕ) (old new : Kept) → count ≡ length old.records → StayKept (front count old) new → StayKept old new
all_stay count old new is h =
    subst (λ (xs : List SearchNode). StayKept (record { records = xs; most = old.most }) new) (ap (λ (n : ℕ). take n old.records) is ∙ take-length old.records) h

-- the first ones of the first ones with others behind them
first_of_first : (count : ℕ) (xs behind : List SearchNode) → (more : List SearchNode) × (take count (take count xs ++ behind) ≡ take count xs ++ more)
first_of_first zero xs behind = ([], refl)
first_of_first (suc n) [] behind = (take (suc n) behind, refl)
first_of_first (suc n) (x ∷ xs) behind =
    let rest = first_of_first n xs behind in
    (rest.0, ap (λ (ys : List SearchNode). x ∷ ys) rest.1)

-- what stays from one time to the next, and from there to a third one, stays
pub stay_on : (count : ℕ) (start old new : Kept) → StayKept (front count start) old → StayKept (front count old) new → StayKept (front count start) new
stay_on count start old new kept still =
    let F : List SearchNode = take count start.records in
    let same : old.records ≡ F ++ kept.0 = ap (λ (k : Kept). k.records) kept.1 in
    let most : old.most ≡ start.most = ap (λ (k : Kept). k.most) kept.1 in
    let seam = first_of_first count start.records kept.0 in
    let taken : take count old.records ≡ F ++ seam.0 = ap (λ (xs : List SearchNode). take count xs) same ∙ seam.1 in (
      seam.0 ++ still.0,
      still.1 ∙ (ap (λ (xs : List SearchNode). record { records = xs ++ still.0; most = old.most }) taken
          ∙ (ap (λ (m : ℕ). record { records = (F ++ seam.0) ++ still.0; most = m }) most
          ∙ ap (λ (xs : List SearchNode). record { records = xs; most = start.most }) (append_assoc F seam.0 still.0))),
    )

-- the parts of a stack with one frame more
pub open-with : (fs : List SearchFrame) (f : SearchFrame) → open_parts (fs ++ f ∷ []) ≡ open_parts fs ++ parts_of f
open-with fs f = sym (append-nil (open_parts (fs ++ f ∷ []))) ∙ (open-last fs f [] ∙ ap (λ (xs : List Part). open_parts fs ++ xs) (append-nil (parts_of f)))

module _ (p : Project) (capacities : List ℕ) (whole : Bounds) (start stack fs : List SearchFrame) (f g : SearchFrame) where
  -- a window below the last frame
  pub is_next : (next : Bounds) (from : ℕ) (new : List SearchFrame) → from ≡ g.node.time → stack ≡ fs ++ f ∷ [] → IsSearching p capacities whole stack [] → weights p (open_parts stack) ≤ weights p (open_parts start) →
      IsTaken p capacities f g next → new ≡ fs ++ g ∷ [] → IsNext p capacities whole start (record { window = next; from = from }) new
  is_next next from new is_time is_stack h lighter taken is_new =
      let at : IsSearching p capacities whole (fs ++ f ∷ []) [] = subst (λ (xs : List SearchFrame). IsSearching p capacities whole xs []) is_stack h in
      subst (λ (xs : List SearchFrame). IsNext p capacities whole start (record { window = next; from = from }) xs) (sym is_new)
      (record {
        state = subst (λ t. IsSearchingNext p capacities whole (fs ++ g ∷ []) next t) (sym is_time) (searching-next p capacities whole fs f g next at taken);
        higher = omega (arith, inside-sum p whole f.node.window (last-inside p capacities whole fs f [] at).inside, taken.below.higher);
        lighter = omega (
          arith,
          ap (weights p) (open-last fs g (all_of next ∷ [])),
          weights-append p (open_parts fs) (parts_of g ++ all_of next ∷ []),
          ap (λ (xs : List SearchFrame). weights p (open_parts xs)) is_stack,
          ap (weights p) (open-with fs f),
          weights-append p (open_parts fs) (parts_of f),
          taken.lighter,
          lighter,
        );
      })

  -- the frame is used up
  pub is_refuted : stack ≡ fs ++ f ∷ [] → IsSearching p capacities whole stack [] → IsUsedUp p capacities f g → IsNo p g.node.capacities g.node.window
  is_refuted is_stack h none = frame-refuted p capacities whole fs f g (subst (λ (xs : List SearchFrame). IsSearching p capacities whole xs []) is_stack h) none

  pub is_popped : stack ≡ fs ++ f ∷ [] → IsSearching p capacities whole stack [] → IsUsedUp p capacities f g → IsSearching p capacities whole fs []
  is_popped is_stack h none = searching-popped p capacities whole fs f g (subst (λ (xs : List SearchFrame). IsSearching p capacities whole xs []) is_stack h) none

  pub popped-lighter : stack ≡ fs ++ f ∷ [] → weights p (open_parts stack) ≤ weights p (open_parts start) → weights p (open_parts fs) ≤ weights p (open_parts start)
  popped-lighter is_stack lighter =
      omega (arith, lighter, ap (λ (xs : List SearchFrame). weights p (open_parts xs)) is_stack, ap (weights p) (open-with fs f), weights-append p (open_parts fs) (parts_of f))
