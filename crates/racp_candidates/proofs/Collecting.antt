-- The children of a vector, place by place.
use Rattle.std.proofs.Common.{◌≡◌, ◌≢◌, ◌⊎◌, ℕ, ◌+◌, ◌<◌, ◌≤◌, List, [], ◌∷◌, length, slice_index, set, inl, inr, arith, refl, sym, ◌∙◌, ap, subst, Contains, AllPairs}
use Rattle.std.specs.Prelude.{◌↔◌}
use Rattle.std.specs.List.Sorted.{IsPermutation}
use Rattle.std.proofs.lemmas.Bool.{cases_lt}
use Rattle.std.proofs.lemmas.List.Kept.{AllPairs-cons}
use Rattle.std.proofs.lemmas.List.Sorted.{Contains-permutation, IsPermutation-sym}
use Rattle.racp_model.proofs.lemmas.Lists.{at_set}
use Rattle.racp_model.proofs.lemmas.Relations.{member_cases, member_later, member_first, no_member, all_members}
use Rattle.racp_candidates.specs.Box.{IsBetween}
use Rattle.racp_candidates.specs.Vectors.{IsChildAt, AreChildren}
use Rattle.std.specs.declared.cmp.Reverse.{Reverse}
use Rattle.racp_candidates.specs.declared.entry.Entry.{Entry}
use Rattle.racp_candidates.specs.Frontier.{vectors_in, IsEntered, IsLastRaised}
use Rattle.racp_candidates.proofs.Entered.{no_vectors}
use Rattle.racp_candidates.proofs.Distinct.{Differ, distinct_moved}

-- the vector with one unit more at a place
abbrev pub more_at : List ℕ → ℕ → List ℕ
more_at v j = set v j (slice_index v j + 1)

-- it has one unit more at a place from a first one on and below another, where the roof allows
pub record IsMoreBelow (floors roofs v : List ℕ) (first place : ℕ) (child : List ℕ) (j : ℕ) : Type 0 where
  pub from : first ≤ j
  pub below : j < place
  pub is_place : j < length floors
  pub room : slice_index v j < slice_index roofs j
  pub is : child ≡ more_at v j

-- all of these vectors, each once
pub record IsCollecting (floors roofs v : List ℕ) (place : ℕ) (children : List (List ℕ)) : Type 0 where
  pub first : ℕ
  pub last : IsLastRaised floors v first
  pub reached : first ≤ place
  pub once : AllPairs Differ children
  pub members : (child : List ℕ) → Contains children child ↔ ((j : ℕ) × IsMoreBelow floors roofs v first place child j)

module _ (floors roofs v : List ℕ) (h : IsBetween floors roofs v) where
  pub collect_start : (first : ℕ) → IsLastRaised floors v first → IsCollecting floors roofs v first []
  collect_start first last = record {
    first = first;
    last = last;
    reached = omega arith;
    once = λ i j d less l. absurd (omega (arith, less, l));
    members = λ child. (λ c. absurd (no_member child c), λ m. absurd (omega (arith, m.1.from, m.1.below)));
  }

  -- a vector at a place below the next one is at a place below this one, or at this one
  pub more_below : (first place : ℕ) (child : List ℕ) (j : ℕ) → IsMoreBelow floors roofs v first (place + 1) child j → IsMoreBelow floors roofs v first place child j ⊎ (j ≡ place)
  more_below first place child j m = elim (cases_lt j place) [
    | inl less ↦ inl (record { from = m.from; below = less; is_place = m.is_place; room = m.room; is = m.is })
    | inr most ↦ inr (omega (arith, most, m.below))
  ]

  pub more_later : (first place : ℕ) (child : List ℕ) (j : ℕ) → IsMoreBelow floors roofs v first place child j → IsMoreBelow floors roofs v first (place + 1) child j
  more_later first place child j m = record { from = m.from; below = omega (arith, m.below); is_place = m.is_place; room = m.room; is = m.is }

  pub collect_skip : (place : ℕ) (children : List (List ℕ)) → slice_index roofs place ≤ slice_index v place → IsCollecting floors roofs v place children → IsCollecting floors roofs v (place + 1) children
  collect_skip place children full s = record {
    first = s.first;
    last = s.last;
    reached = omega (arith, s.reached);
    once = s.once;
    members = λ child. (λ c. let m = (s.members child).0 c in (m.0, more_later s.first place child m.0 m.1), λ m. (s.members child).1 (m.0, back child m.0 m.1 (more_below s.first place child m.0 m.1)));
  }
    where
      back : (child : List ℕ) (j : ℕ) → IsMoreBelow floors roofs v s.first (place + 1) child j → IsMoreBelow floors roofs v s.first place child j ⊎ (j ≡ place) → IsMoreBelow floors roofs v s.first place child j
      back child j m (inl below) = below
      back child j m (inr same) =
          let left : slice_index v j ≡ slice_index v place = ap (slice_index v) same in
          let right : slice_index roofs j ≡ slice_index roofs place = ap (slice_index roofs) same in
          absurd (omega (arith, m.room, left, right, full))

  pub collect_enter : (place : ℕ) (children more : List (List ℕ)) → place < length floors → slice_index v place < slice_index roofs place →
      IsPermutation (more_at v place ∷ children) more → IsCollecting floors roofs v place children → IsCollecting floors roofs v (place + 1) more
  collect_enter place children more within room moved s = record {
    first = s.first;
    last = s.last;
    reached = omega (arith, s.reached);
    once = distinct_moved (more_at v place ∷ children) more moved (AllPairs-cons Differ (more_at v place) children (all_members (Differ (more_at v place)) children differs) s.once);
    members = λ child. (λ c. into child (member_cases (more_at v place) children child (Contains-permutation more (more_at v place ∷ children) child back c)), λ m. out child m.0 m.1 (more_below s.first place child m.0 m.1));
  }
    where
      back : IsPermutation more (more_at v place ∷ children)
      back = IsPermutation-sym (more_at v place ∷ children) more moved

      place_in : place < length v
      place_in = omega (arith, within, h.places)

      here_at : slice_index (more_at v place) place ≡ slice_index v place + 1
      here_at = elim (at_set v place (slice_index v place + 1) place place_in) [ inl here ↦ here.1 | inr other ↦ absurd (other.0 refl) ]

      differs : (z : List ℕ) → Contains children z → Differ (more_at v place) z
      differs z c same =
          let m = (s.members z).0 c in
          let in_v : m.0 < length v = omega (arith, m.1.is_place, h.places) in
          let at : slice_index z place ≡ slice_index (more_at v m.0) place = ap (λ (w : List ℕ). slice_index w place) m.1.is in
          let mine : slice_index (more_at v place) place ≡ slice_index z place = ap (λ (w : List ℕ). slice_index w place) same in
          elim (at_set v m.0 (slice_index v m.0 + 1) place in_v) [
            | inl here ↦ omega (arith, here.0, m.1.below)
            | inr other ↦ omega (arith, other.1, at, mine, here_at)
          ]

      into : (child : List ℕ) → (more_at v place ≡ child) ⊎ Contains children child → (j : ℕ) × IsMoreBelow floors roofs v s.first (place + 1) child j
      into child (inl same) = (place, record { from = s.reached; below = omega arith; is_place = within; room = room; is = sym same })
      into child (inr c) = let m = (s.members child).0 c in (m.0, more_later s.first place child m.0 m.1)

      out : (child : List ℕ) (j : ℕ) → IsMoreBelow floors roofs v s.first (place + 1) child j → IsMoreBelow floors roofs v s.first place child j ⊎ (j ≡ place) → Contains more child
      out child j m (inl below) = Contains-permutation (more_at v place ∷ children) more child moved (member_later (more_at v place) children child ((s.members child).1 (j, below)))
      out child j m (inr same) = Contains-permutation (more_at v place ∷ children) more child moved (member_first (more_at v place) children child (sym (m.is ∙ ap (more_at v) same)))

  pub collect_end : (place : ℕ) (children : List (List ℕ)) → length floors ≤ place → IsCollecting floors roofs v place children → AreChildren floors roofs v children
  collect_end place children whole s = record {
    once = s.once;
    members = λ child. (λ c. let m = (s.members child).0 c in (m.0, into child m.0 m.1), λ m. (s.members child).1 (m.0, out child m.0 m.1));
  }
    where
      into : (child : List ℕ) (j : ℕ) → IsMoreBelow floors roofs v s.first place child j → IsChildAt floors roofs v j child
      into child j m = record { is_place = m.is_place; at_floors = λ k less l. s.last.at_floors k (omega (arith, m.from, less)) l; room = m.room; is = m.is }

      from_first : (child : List ℕ) (j : ℕ) → IsChildAt floors roofs v j child → (s.first ≡ 0) ⊎ ((s.first < length floors) × (slice_index v s.first ≢ slice_index floors s.first)) → s.first ≤ j
      from_first child j m (inl none) = omega (arith, none)
      from_first child j m (inr some) = elim (cases_lt j s.first) [
        | inl less ↦ absurd (some.1 (m.at_floors s.first less some.0))
        | inr most ↦ omega (arith, most)
      ]

      out : (child : List ℕ) (j : ℕ) → IsChildAt floors roofs v j child → IsMoreBelow floors roofs v s.first place child j
      out child j m = record { from = from_first child j m s.last.raised; below = omega (arith, m.is_place, whole); is_place = m.is_place; room = m.room; is = m.is }

  -- the same over the entries of a heap
  pub collect_none : (first : ℕ) (entries : List (Reverse Entry)) → entries ≡ [] → IsLastRaised floors v first → IsCollecting floors roofs v first (vectors_in entries)
  collect_none first entries none last = subst (IsCollecting floors roofs v first) (sym (no_vectors entries none)) (collect_start first last)

  pub collect_entered : (prices owned units : List ℕ) (place : ℕ) (old new : List (Reverse Entry)) → place < length floors → slice_index v place < slice_index roofs place →
      units ≡ more_at v place → IsEntered prices owned units old new → IsCollecting floors roofs v place (vectors_in old) → IsCollecting floors roofs v (place + 1) (vectors_in new)
  collect_entered prices owned units place old new within room is e s =
      let moved : IsPermutation (more_at v place ∷ vectors_in old) (vectors_in new) = let P : List ℕ → Type 0 = λ w. IsPermutation (w ∷ vectors_in old) (vectors_in new) in subst P is e.moved in
      collect_enter place (vectors_in old) (vectors_in new) within room moved s
