-- The heap of a frontier: its first entry, and the entries after it was taken out and its children were put in.
use Rattle.std.proofs.Common.{◌≡◌, ◌⊎◌, ℕ, true, false, List, [], ◌∷◌, ◌++◌, length, inl, inr, arith, refl, sym, ◌∙◌, ap, subst, Contains, All}
use Rattle.std.specs.List.Sorted.{IsPermutation}
use Rattle.std.specs.declared.cmp.Reverse.{Reverse}
use Rattle.std.specs.declared.cmp.Ordering.{Ordering}
use Rattle.std.specs.declared.cmp.Ordering.TheVariants.{Less, Equal, Greater}
use Rattle.std.specs.Ordering.{nat_cmp, is_lt, ordering_then, ordering_reverse}
use Rattle.std.specs.BinaryHeap.{IsHeap, IsUpperBound}
use Rattle.std.proofs.lemmas.List.{map-append}
use Rattle.std.proofs.lemmas.List.Sorted.{IsPermutation-trans, IsPermutation-sym, Contains-permutation, All-permutation, length_permutation}
use Rattle.std.proofs.lemmas.List.Elements.{All-append, All-tail, All-contains, All-from_recursion, Contains-append_left, Contains-append_cases}
use Rattle.racp_model.specs.Terms.{Terms, cost, lex_cmp, vector_cmp}
use Rattle.racp_model.proofs.lemmas.Orders.{vector_total, vector_same}
use Rattle.racp_model.proofs.lemmas.Relations.{member_cases, member_first, no_member}
use Rattle.racp_candidates.specs.declared.entry.Entry.{Entry}
use Rattle.racp_candidates.specs.Box.{ArePrices, AreBounds, IsBetween}
use Rattle.racp_candidates.specs.Vectors.{terms_of, AreVectorsInOrder, AreChildren, to_come, IsFrontier}
use Rattle.racp_candidates.specs.Frontier.{vectors_in, ArePriced, entry_cmp, IsEntered, IsFrontierHeap}
use Rattle.racp_candidates.proofs.Members.{map_from, map_to}
use Rattle.racp_candidates.proofs.Reached.{IsNoLater}
use Rattle.racp_candidates.proofs.Entered.{vectors_moved, no_vectors}
use Rattle.racp_candidates.proofs.Raised.{child_no_later}
use Rattle.racp_candidates.proofs.Frontiers.{not_after, first_frontier, first_to_come, none_to_come, IsStep, next_frontier, next_to_come}

-- a list of one element in another order
pub one_moved : (x : List ℕ) (ys : List (List ℕ)) → IsPermutation (x ∷ []) ys → ys ≡ x ∷ []
one_moved x [] moved = absurd (omega (arith, length_permutation (x ∷ []) [] moved))
one_moved x (y ∷ []) moved = elim (member_cases y [] x (Contains-permutation (x ∷ []) (y ∷ []) x moved (member_first x [] x refl))) [
  | inl same ↦ ap (λ (z : List ℕ). z ∷ []) same
  | inr later ↦ absurd (no_member x later)
]
one_moved x (y ∷ (z ∷ zs)) moved = absurd (omega (arith, length_permutation (x ∷ []) (y ∷ (z ∷ zs)) moved))

-- the vector of an entry is among the vectors
pub vector_of : (entries : List (Reverse Entry)) (entry : Reverse Entry) → Contains entries entry → Contains (vectors_in entries) entry.0.units.items
unfolding vectors_in
vector_of entries entry c = map_to (λ (e : Reverse Entry). e.0.units.items) entries entry c

pub entry_of : (entries : List (Reverse Entry)) (v : List ℕ) → Contains (vectors_in entries) v → (entry : Reverse Entry) × Contains entries entry × (v ≡ entry.0.units.items)
unfolding vectors_in
entry_of entries v c = map_from (λ (e : Reverse Entry). e.0.units.items) entries v c

pub vectors_joined : (a b : List (Reverse Entry)) → vectors_in (a ++ b) ≡ vectors_in a ++ vectors_in b
unfolding vectors_in
vectors_joined a b = map-append (λ (e : Reverse Entry). e.0.units.items) a b

pub vectors_cons : (e : Reverse Entry) (rest : List (Reverse Entry)) → vectors_in (e ∷ rest) ≡ e.0.units.items ∷ vectors_in rest
unfolding vectors_in
vectors_cons e rest = refl

-- an entry that is not less than another stands no later
pub no_later_entry : (terms : Terms) (a b : Reverse Entry) → a.0.cost ≡ cost terms a.0.units.items → b.0.cost ≡ cost terms b.0.units.items → is_lt (entry_cmp a b) ≡ false →
    IsNoLater terms a.0.units.items b.0.units.items
no_later_entry terms a b ea eb low = go (vector_cmp terms b.0.units.items a.0.units.items) refl (sym (ap is_lt same) ∙ low)
  where
    same : entry_cmp a b ≡ vector_cmp terms b.0.units.items a.0.units.items
    same = λ i. ordering_then (nat_cmp (eb i) (ea i)) (lex_cmp b.0.units.items a.0.units.items)

    go : (o : Ordering) → vector_cmp terms b.0.units.items a.0.units.items ≡ o → is_lt (vector_cmp terms b.0.units.items a.0.units.items) ≡ false → IsNoLater terms a.0.units.items b.0.units.items
    go Less e f = let clash : true ≡ false = sym (ap is_lt e) ∙ f in cc
    go Equal e f = inl (sym (vector_same terms b.0.units.items a.0.units.items e))
    go Greater e f = inr ((vector_total terms).antisymm a.0.units.items b.0.units.items ∙ ap ordering_reverse e)

-- two vectors neither of which stands after the other
pub same_place : (terms : Terms) (a b : List ℕ) → IsNoLater terms a b → IsNoLater terms b a → a ≡ b
same_place terms a b (inl same) back = same
same_place terms a b (inr before) back = absurd (not_after terms b a back before)

module _ (prices owned floors roofs : List ℕ) where
  -- the heap of the floors alone
  pub first_vectors : (units : List ℕ) (old new : List (Reverse Entry)) → old ≡ [] → units ≡ floors → IsEntered prices owned units old new → vectors_in new ≡ floors ∷ []
  first_vectors units old new none is e =
      let moved : IsPermutation (units ∷ []) (vectors_in new) = let P : List (List ℕ) → Type 0 = λ vs. IsPermutation (units ∷ vs) (vectors_in new) in subst P (no_vectors old none) e.moved in
      one_moved units (vectors_in new) moved ∙ ap (λ (z : List ℕ). z ∷ []) is

  pub first_heap : (units : List ℕ) (old new : List (Reverse Entry)) → old ≡ [] → units ≡ floors → ArePriced (terms_of prices owned) old → IsHeap entry_cmp old → IsEntered prices owned units old new →
      ArePrices prices owned → length prices ≡ length floors → length roofs ≡ length floors → AreBounds floors roofs → IsFrontierHeap prices owned floors roofs new
  first_heap units old new none is priced ordered e are floor_places roof_places bounds = record {
    are_prices = are;
    floor_places = floor_places;
    roof_places = roof_places;
    frontier = subst (IsFrontier (terms_of prices owned) floors roofs) (sym (first_vectors units old new none is e)) (first_frontier (terms_of prices owned) floors roofs floor_places roof_places bounds);
    priced = e.priced priced;
    ordered = e.ordered ordered;
  }

  pub first_list : (units : List ℕ) (old new : List (Reverse Entry)) → old ≡ [] → units ≡ floors → IsEntered prices owned units old new →
      length prices ≡ length floors → length roofs ≡ length floors → AreBounds floors roofs → AreVectorsInOrder (terms_of prices owned) floors roofs (to_come (terms_of prices owned) floors roofs (vectors_in new))
  first_list units old new none is e floor_places roof_places bounds =
      let P : List (List ℕ) → Type 0 = λ vs. AreVectorsInOrder (terms_of prices owned) floors roofs (to_come (terms_of prices owned) floors roofs vs) in
      subst P (sym (first_vectors units old new none is e)) (first_to_come (terms_of prices owned) floors roofs floor_places roof_places bounds)

  pub no_list : (entries : List (Reverse Entry)) → entries ≡ [] → IsFrontierHeap prices owned floors roofs entries → to_come (terms_of prices owned) floors roofs (vectors_in entries) ≡ []
  no_list entries none h =
      ap (to_come (terms_of prices owned) floors roofs) (no_vectors entries none) ∙ none_to_come (terms_of prices owned) floors roofs h.floor_places h.roof_places

  -- the first entry, its children, and the heap after they were put in and it was taken out
  pub record IsHeapStep (old : List (Reverse Entry)) (first : Reverse Entry) (children mid : List (Reverse Entry)) (popped : Reverse Entry) (new : List (Reverse Entry)) : Type 0 where
    pub heap : IsFrontierHeap prices owned floors roofs old
    pub member : Contains old first
    pub top : IsUpperBound entry_cmp first old
    pub children_are : AreChildren floors roofs first.0.units.items (vectors_in children)
    pub priced : ArePriced (terms_of prices owned) children
    pub joined : IsPermutation (old ++ children) mid
    pub parted : IsPermutation mid (popped ∷ new)
    pub greatest : IsUpperBound entry_cmp popped mid
    pub ordered : IsHeap entry_cmp new

  abbrev pub IsPricedEntry : Reverse Entry → Type 0
  IsPricedEntry e = e.0.cost ≡ cost (terms_of prices owned) e.0.units.items

  module _ (old : List (Reverse Entry)) (first : Reverse Entry) (children mid : List (Reverse Entry)) (popped : Reverse Entry) (new : List (Reverse Entry)) (s : IsHeapStep old first children mid popped new) where
    pub all_mid : All IsPricedEntry mid
    all_mid = All-permutation IsPricedEntry (old ++ children) mid s.joined (All-append IsPricedEntry old children s.heap.priced s.priced)

    pub all_new : All IsPricedEntry (popped ∷ new)
    all_new = All-permutation IsPricedEntry mid (popped ∷ new) s.parted all_mid

    pub first_least : (e : Reverse Entry) → Contains old e → IsNoLater (terms_of prices owned) first.0.units.items e.0.units.items
    first_least e c =
        let Q : Reverse Entry → Type 0 = λ y. is_lt (entry_cmp first y) ≡ false in
        no_later_entry (terms_of prices owned) first e (All-contains IsPricedEntry old first s.heap.priced s.member) (All-contains IsPricedEntry old e s.heap.priced c)
        (All-contains Q old e (All-from_recursion Q old s.top) c)

    pub popped_least : (e : Reverse Entry) → Contains mid e → IsNoLater (terms_of prices owned) popped.0.units.items e.0.units.items
    popped_least e c =
        let Q : Reverse Entry → Type 0 = λ y. is_lt (entry_cmp popped y) ≡ false in
        no_later_entry (terms_of prices owned) popped e (All-contains IsPricedEntry (popped ∷ new) popped all_new (member_first popped new popped refl)) (All-contains IsPricedEntry mid e all_mid c)
        (All-contains Q mid e (All-from_recursion Q mid s.greatest) c)

    pub first_between : IsBetween floors roofs first.0.units.items
    first_between = All-contains (IsBetween floors roofs) (vectors_in old) first.0.units.items s.heap.frontier.between (vector_of old first s.member)

    -- the entry that was taken out has the vector of the first
    pub popped_is : popped.0.units.items ≡ first.0.units.items
    popped_is = go (Contains-append_cases old children popped popped_in)
      where
        popped_in : Contains (old ++ children) popped
        popped_in = Contains-permutation mid (old ++ children) popped (IsPermutation-sym (old ++ children) mid s.joined) (Contains-permutation (popped ∷ new) mid popped (IsPermutation-sym mid (popped ∷ new) s.parted) (member_first popped new popped refl))

        low : IsNoLater (terms_of prices owned) popped.0.units.items first.0.units.items
        low = popped_least first (Contains-permutation (old ++ children) mid first s.joined (Contains-append_left old children first s.member))

        go : Contains old popped ⊎ Contains children popped → popped.0.units.items ≡ first.0.units.items
        go (inl c) = same_place (terms_of prices owned) popped.0.units.items first.0.units.items low (first_least popped c)
        go (inr c) =
            let child = (s.children_are.members popped.0.units.items).0 (vector_of children popped c) in
            absurd (not_after (terms_of prices owned) popped.0.units.items first.0.units.items low (child_no_later floors roofs (terms_of prices owned) first.0.units.items popped.0.units.items s.heap.floor_places first_between child))

    pub moved : IsPermutation (vectors_in old ++ vectors_in children) (first.0.units.items ∷ vectors_in new)
    moved =
        let whole : IsPermutation (vectors_in (old ++ children)) (vectors_in (popped ∷ new)) = vectors_moved (old ++ children) (popped ∷ new) (IsPermutation-trans (old ++ children) mid (popped ∷ new) s.joined s.parted) in
        let left : IsPermutation (vectors_in old ++ vectors_in children) (vectors_in (popped ∷ new)) = let P : List (List ℕ) → Type 0 = λ vs. IsPermutation vs (vectors_in (popped ∷ new)) in subst P (vectors_joined old children) whole in
        subst (IsPermutation (vectors_in old ++ vectors_in children)) (vectors_cons popped new ∙ ap (λ (v : List ℕ). v ∷ vectors_in new) popped_is) left

    pub step : IsStep (terms_of prices owned) floors roofs s.heap.floor_places s.heap.roof_places (vectors_in old) (vectors_in children) first.0.units.items (vectors_in new)
    step = record {
      frontier = s.heap.frontier;
      member = vector_of old first s.member;
      least = λ z c. least z (entry_of old z c);
      children = s.children_are;
      moved = moved;
    }
      where
        least : (z : List ℕ) → (entry : Reverse Entry) × Contains old entry × (z ≡ entry.0.units.items) → IsNoLater (terms_of prices owned) first.0.units.items z
        least z m = subst (IsNoLater (terms_of prices owned) first.0.units.items) (sym m.2) (first_least m.0 m.1)

    pub next_heap : IsFrontierHeap prices owned floors roofs new
    next_heap = record {
      are_prices = s.heap.are_prices;
      floor_places = s.heap.floor_places;
      roof_places = s.heap.roof_places;
      frontier = next_frontier (terms_of prices owned) floors roofs s.heap.floor_places s.heap.roof_places (vectors_in old) (vectors_in children) first.0.units.items (vectors_in new) step;
      priced = All-tail IsPricedEntry popped new all_new;
      ordered = s.ordered;
    }

    pub next_list : to_come (terms_of prices owned) floors roofs (vectors_in old) ≡ popped.0.units.items ∷ to_come (terms_of prices owned) floors roofs (vectors_in new)
    next_list =
        next_to_come (terms_of prices owned) floors roofs s.heap.floor_places s.heap.roof_places (vectors_in old) (vectors_in children) first.0.units.items (vectors_in new) step
        ∙ ap (λ (v : List ℕ). v ∷ to_come (terms_of prices owned) floors roofs (vectors_in new)) (sym popped_is)
