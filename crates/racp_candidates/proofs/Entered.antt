-- A vector that is put among entries with what it costs.
use Rattle.std.proofs.Common.{◌≡◌, ℕ, ◌≤◌, List, [], ◌∷◌, length, map, arith, refl, ap}
use Rattle.std.specs.declared.cmp.Reverse.{Reverse}
use Rattle.std.specs.List.Sorted.{IsPermutation}
use Rattle.std.specs.BinaryHeap.{IsHeap}
use Rattle.std.proofs.lemmas.List.Sorted.{IsPermutation-map, All-permutation}
use Rattle.std.proofs.lemmas.List.Elements.{All-nil, All-cons, All-same}
use Rattle.racp_model.specs.Terms.{Terms, cost}
use Rattle.racp_candidates.specs.declared.entry.Entry.{Entry}
use Rattle.racp_candidates.specs.Vectors.{terms_of}
use Rattle.racp_candidates.specs.Frontier.{vectors_in, ArePriced, entry_cmp, IsEntered}

-- the vectors of entries in another order
pub vectors_moved : (old new : List (Reverse Entry)) → IsPermutation old new → IsPermutation (vectors_in old) (vectors_in new)
unfolding vectors_in
vectors_moved old new moved = IsPermutation-map (λ (entry : Reverse Entry). entry.0.units.items) old new moved

pub entered : (prices owned : List ℕ) (entry : Reverse Entry) (old new : List (Reverse Entry)) →
    entry.0.cost ≡ cost (terms_of prices owned) entry.0.units.items → IsPermutation (entry ∷ old) new → (IsHeap entry_cmp old → IsHeap entry_cmp new) →
    IsEntered prices owned entry.0.units.items old new
unfolding vectors_in
entered prices owned entry old new priced moved ordered = record {
  moved = vectors_moved (entry ∷ old) new moved;
  priced = λ h. all_new h;
  ordered = ordered;
}
  where
    P : Reverse Entry → Type 0
    P e = e.0.cost ≡ cost (terms_of prices owned) e.0.units.items

    all_new : ArePriced (terms_of prices owned) old → ArePriced (terms_of prices owned) new
    all_new h = All-permutation P (entry ∷ old) new moved (All-cons P entry old priced h)

-- without entries there are no vectors, and none that says a wrong cost
pub no_vectors : (entries : List (Reverse Entry)) → entries ≡ [] → vectors_in entries ≡ []
unfolding vectors_in
no_vectors entries none = ap (map (λ (entry : Reverse Entry). entry.0.units.items)) none

pub none_priced : (terms : Terms) (entries : List (Reverse Entry)) → entries ≡ [] → ArePriced terms entries
none_priced terms entries none =
    let P : Reverse Entry → Type 0 = λ e. e.0.cost ≡ cost terms e.0.units.items in
    All-same P entries [] none (All-nil P)

-- a list of no length is empty
pub none_of : {X : Type 0} (xs : List X) → length xs ≤ 0 → xs ≡ []
none_of [] l = refl
none_of (x ∷ xs) l = absurd (omega (arith, l))
