-- Ordered sets of places, by their members.
use Rattle.std.proofs.Common.{◌≡◌, ◌∙◌, ◌⊎◌, inl, inr, ℕ, suc, ◌<◌, ◌↔◌, ◌≤◌, Bool, true, false, List, [], ◌∷◌, ◌++◌, length, Contains, Option, Some, None, IsSome, IfSome, arith, refl, sym, subst}
use Rattle.std.specs.BTreeSet.{BTreeSet, contains, Updates, UpdatesBy, IsUpperBound}
use Rattle.std.specs.BTreeMap.{is_at}
use Rattle.std.specs.Ordering.{nat_cmp}
use Rattle.std.specs.List.Sorted.{IsStrictlySortedBy}
use Rattle.std.proofs.lemmas.Cmp.{nat_cmp_total}
use Rattle.std.proofs.lemmas.Map.Lookups.{exact_unsigned}
use Rattle.std.proofs.lemmas.Map.Views.{btree_set_contains_iff, tells_apart}
use Rattle.std.proofs.lemmas.Map.Keys.{ge_from_not_lt, sorted_tail, below_from_sorted}
use Rattle.std.proofs.lemmas.List.Elements.{Contains-push_cases, Contains-append_left}
use Rattle.racp_model.proofs.lemmas.Relations.{member_cases, member_later, member_first, no_member}
use Rattle.racp_core.specs.Machine.{QuestionRow, row_at}
use Rattle.racp_core.specs.Rows.{IsAdded, IsRemoved, IsCutAt, IsFirstReady}

-- a set has what its list has
has : (s : BTreeSet ℕ) (i : ℕ) → contains nat_cmp s i ≡ true → Contains s.keys i
has s i e = (btree_set_contains_iff nat_cmp_total exact_unsigned s i).0 e

in_set : (s : BTreeSet ℕ) (i : ℕ) → Contains s.keys i → contains nat_cmp s i ≡ true
in_set s i c = (btree_set_contains_iff nat_cmp_total exact_unsigned s i).1 c

-- a place is the one that is sought, or another
same_or_other : (place i : ℕ) → (place ≡ i) ⊎ (is_at (nat_cmp place) i ≡ false)
same_or_other place i = go (is_at (nat_cmp place) i) refl
  where
    go : (b : Bool) → is_at (nat_cmp place) i ≡ b → (place ≡ i) ⊎ (is_at (nat_cmp place) i ≡ false)
    go true e = inl (tells_apart exact_unsigned place i e)
    go false e = inr e

pub added : (s n : BTreeSet ℕ) (place : ℕ) → Updates nat_cmp s n place true → IsAdded s.keys place n.keys
added s n place h i = (there, back)
  where
    there : Contains n.keys i → Contains s.keys i ⊎ (i ≡ place)
    there c = elim (same_or_other place i) [
      | inl same ↦ inr (sym same)
      | inr other ↦ inl (has s i (sym (h.2 i other) ∙ in_set n i c))
    ]

    back : Contains s.keys i ⊎ (i ≡ place) → Contains n.keys i
    back (inl c) = elim (same_or_other place i) [
      | inl same ↦ has n i (subst (λ (k : ℕ). contains nat_cmp n k ≡ true) same h.1)
      | inr other ↦ has n i (h.2 i other ∙ in_set s i c)
    ]
    back (inr e) = has n i (subst (λ (k : ℕ). contains nat_cmp n k ≡ true) (sym e) h.1)

pub removed : (s n : BTreeSet ℕ) (place : ℕ) → UpdatesBy nat_cmp (nat_cmp place) s n false → IsRemoved s.keys place n.keys
removed s n place h i = (there, back)
  where
    gone : (k : ℕ) → place ≡ k → Contains n.keys k → ⊥
    gone k same c = let e : true ≡ false = sym (in_set n k c) ∙ subst (λ (j : ℕ). contains nat_cmp n j ≡ false) same h.1 in absurd (cc e)

    there : Contains n.keys i → Contains s.keys i × (i ≡ place → ⊥)
    there c = elim (same_or_other place i) [
      | inl same ↦ absurd (gone i same c)
      | inr other ↦ (has s i (sym (h.2 i other) ∙ in_set n i c), λ e. gone i (sym e) c)
    ]

    back : Contains s.keys i × (i ≡ place → ⊥) → Contains n.keys i
    back (c, apart) = elim (same_or_other place i) [
      | inl same ↦ absurd (apart (sym same))
      | inr other ↦ has n i (h.2 i other ∙ in_set s i c)
    ]

-- some of the places of a set from an end on were taken away
abbrev pub IsCutting : List ℕ → ℕ → List ℕ → Type 0
IsCutting old end new = (i : ℕ) → (Contains new i → Contains old i) × (i < end → Contains old i → Contains new i)

-- the last is taken away, where it is none of those that stay
pub cut_last : (old : List ℕ) (end last : ℕ) (s n : BTreeSet ℕ) (place : ℕ) → IsCutting old end s.keys → s.keys ≡ n.keys ++ place ∷ [] → contains nat_cmp s last ≡ true → IsUpperBound nat_cmp s place → end ≤ last → IsCutting old end n.keys
cut_last old end last s n place h e is greatest later i = (there, back)
  where
    there : Contains n.keys i → Contains old i
    there c = (h i).0 (subst (λ (xs : List ℕ). Contains xs i) (sym e) (Contains-append_left n.keys (place ∷ []) i c))

    high : last ≤ place
    high = ge_from_not_lt place last (greatest last is)

    back : i < end → Contains old i → Contains n.keys i
    back l c = elim (Contains-push_cases n.keys place i (subst (λ (xs : List ℕ). Contains xs i) e ((h i).1 l c))) [
      | inl stays ↦ stays
      | inr same ↦ absurd (omega (arith, high, later, l, same))
    ]

-- so it is, where the last of a set is popped
pub cut_popped : (old : List ℕ) (end last : ℕ) (s n : BTreeSet ℕ) (popped : Option ℕ) → IsCutting old end s.keys → IsSome popped ↔ (0 < length s.keys) → IfSome popped (λ place. s.keys ≡ n.keys ++ place ∷ []) → IfSome popped (IsUpperBound nat_cmp s) →
    contains nat_cmp s last ≡ true → end ≤ last → IsCutting old end n.keys
cut_popped old end last s n (Some place) h there e greatest is later = cut_last old end last s n place h e is greatest later
cut_popped old end last s n None h there e greatest is later = let at = has s last is in let gone = there.1 (omega (arith, at.1)) in absurd (cc gone)

-- all that stay are before the end
pub cut_done : (old : List ℕ) (end last : ℕ) (s : BTreeSet ℕ) → IsCutting old end s.keys → IsUpperBound nat_cmp s last → last < end → IsCutAt old end s.keys
cut_done old end last s h greatest l i =
    (λ c. ((h i).0 c, (let low = ge_from_not_lt last i (greatest i (in_set s i c)) in omega (arith, low, l))), λ p. (h i).1 p.1 p.0)

-- a list that is not long is empty
pub empty_from : {X : Type 0} (xs : List X) → (0 < length xs → ⊥) → xs ≡ []
empty_from [] h = refl
empty_from (x ∷ xs) h = absurd (h (omega arith))

-- none stay
pub cut_all : (old keys : List ℕ) (end : ℕ) → IsCutting old end keys → keys ≡ [] → IsCutAt old end keys
cut_all old keys end h e i = (λ c. absurd (no_member i (subst (λ (xs : List ℕ). Contains xs i) e c)), λ p. (h i).1 p.1 p.0)

-- the places from the first on have been looked at, up to those that are left
pub record IsLookingOn (asked : List QuestionRow) (places left : List ℕ) : Type 0 where
  pub rising : IsStrictlySortedBy nat_cmp left
  pub within : (i : ℕ) → Contains left i → Contains places i
  pub none : (i : ℕ) → Contains places i → Contains left i ⊎ (i < length asked → (row_at asked i).ready ≡ [])

pub look_start : (asked : List QuestionRow) (places left : List ℕ) → left ≡ places → IsStrictlySortedBy nat_cmp places → IsLookingOn asked places left
look_start asked places left e rising = rw e (record { rising = rising; within = λ i c. c; none = λ i c. inl c })

-- one more has none open
pub look_step : (asked : List QuestionRow) (places left more : List ℕ) (place : ℕ) → IsLookingOn asked places left → left ≡ place ∷ more → (place < length asked → (row_at asked place).ready ≡ []) → IsLookingOn asked places more
look_step asked places left more place h e none = record {
  rising = sorted_tail nat_cmp place more (subst (λ (xs : List ℕ). IsStrictlySortedBy nat_cmp xs) e h.rising);
  within = λ i c. h.within i (rw e (member_later place more i c));
  none = λ i c. elim (h.none i c) [
    | inl there ↦ elim (member_cases place more i (subst (λ (xs : List ℕ). Contains xs i) e there)) [
      | inl same ↦ inr (subst (λ (k : ℕ). k < length asked → (row_at asked k).ready ≡ []) same none)
      | inr later ↦ inl later
    ]
    | inr done ↦ inr done
  ];
}

-- a place in the tail of a rising list is above the head
later_above : (place : ℕ) (more : List ℕ) (i : ℕ) → IsStrictlySortedBy nat_cmp (place ∷ more) → Contains more i → place < i
later_above place more i rising (k, l, e) =
    let up = below_from_sorted (place ∷ more) 0 (suc k) i rising (omega arith) (omega (arith, l)) in
    omega (arith, up, e)

-- this one has some open
pub look_found : (asked : List QuestionRow) (places left more : List ℕ) (place : ℕ) → IsLookingOn asked places left → left ≡ place ∷ more → place < length asked → 0 < length (row_at asked place).ready → IsFirstReady asked places place
look_found asked places left more place h e there some = record {
  is = h.within place (rw e (member_first place more place refl));
  asked_there = there;
  some = some;
  least = λ i c l. elim (h.none i c) [
    | inl left_over ↦ elim (member_cases place more i (subst (λ (xs : List ℕ). Contains xs i) e left_over)) [
      | inl same ↦ absurd (omega (arith, same, l))
      | inr later ↦ absurd (let up = later_above place more i (subst (λ (xs : List ℕ). IsStrictlySortedBy nat_cmp xs) e h.rising) later in omega (arith, up, l))
    ]
    | inr done ↦ done (omega (arith, l, there))
  ];
}

-- none has any
pub look_end : (asked : List QuestionRow) (places left : List ℕ) → IsLookingOn asked places left → left ≡ [] → (i : ℕ) → Contains places i → i < length asked → (row_at asked i).ready ≡ []
look_end asked places left h e i c l = elim (h.none i c) [
  | inl there ↦ absurd (no_member i (subst (λ (xs : List ℕ). Contains xs i) e there))
  | inr done ↦ done l
]

-- a question without an open window
pub none_ready : (row : QuestionRow) → (0 < length row.ready → ⊥) → row.ready ≡ []
none_ready row h = empty_from row.ready h
