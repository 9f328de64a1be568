-- What is true of each job of a list, and of some job of it.
use Rattle.std.proofs.Common.{◌≡◌, ◌≢◌, ℕ, zero, suc, ◌<◌, ◌≤◌, ◌⊎◌, inl, inr, List, [], ◌∷◌, ◌++◌, length, slice_index, arith, refl, subst, ◌∙◌, Contains, All, AllPairs}
use Rattle.std.proofs.lemmas.Bool.{cases_lt}
use Rattle.std.proofs.lemmas.List.{get_or_default}
use Rattle.std.proofs.lemmas.List.Elements.{All-from_get_or}
use Rattle.std.proofs.lemmas.List.Kept.{AllPairs-from_increasing}
use Rattle.std.specs.List.Sorted.{IsStrictlyIncreasing}
use Rattle.racp_model.proofs.lemmas.Relations.{member_after, rising_tail}
use Rattle.racp_delay.specs.Found.{Each}

-- of two lists in one, the first
pub each-left : (P : ℕ → Type 0) (xs ys : List ℕ) → Each P (xs ++ ys) → Each P xs
each-left P [] ys h = tt
each-left P (x ∷ xs) ys h = (h.0, each-left P xs ys h.1)

-- and the second
pub each-right : (P : ℕ → Type 0) (xs ys : List ℕ) → Each P (xs ++ ys) → Each P ys
each-right P [] ys h = h
each-right P (x ∷ xs) ys h = each-right P xs ys h.1

-- the one at a place
pub each-at : (P : ℕ → Type 0) (xs : List ℕ) (i : ℕ) → i < length xs → Each P xs → P (slice_index xs i)
each-at P [] i l h = absurd (omega arith)
each-at P (x ∷ xs) zero l h = h.0
each-at P (x ∷ xs) (suc i) l h = each-at P xs i (omega arith) h.1

-- by places
pub each-from : (P : ℕ → Type 0) (xs : List ℕ) → ((i : ℕ) → i < length xs → P (slice_index xs i)) → Each P xs
each-from P [] h = tt
each-from P (x ∷ xs) h = (h zero (omega arith), each-from P xs (λ i l. h (suc i) (omega arith)))

-- by members
pub each-members : (P : ℕ → Type 0) (xs : List ℕ) → ((x : ℕ) → Contains xs x → P x) → Each P xs
each-members P xs h = each-from P xs (λ i l. h (slice_index xs i) (i, l, get_or_default xs i (slice_index xs i) 0 l))

-- a member
pub each-member : (P : ℕ → Type 0) (xs : List ℕ) (x : ℕ) → Each P xs → Contains xs x → P x
each-member P xs x h c =
    let e : slice_index xs c.0 ≡ x = get_or_default xs c.0 0 x c.1 ∙ c.2 in
    subst P e (each-at P xs c.0 c.1 h)

-- what follows for each
pub each-map : (P Q : ℕ → Type 0) (xs : List ℕ) → ((x : ℕ) → P x → Q x) → Each P xs → Each Q xs
each-map P Q [] f h = tt
each-map P Q (x ∷ xs) f h = (f x h.0, each-map P Q xs f h.1)

-- two facts for each
pub each-both : (P Q : ℕ → Type 0) (xs : List ℕ) → Each P xs → Each Q xs → Each (λ x. P x × Q x) xs
each-both P Q [] a b = tt
each-both P Q (x ∷ xs) a b = ((a.0, b.0), each-both P Q xs a.1 b.1)

-- by recursion and by place
pub each-all : (P : ℕ → Type 0) (xs : List ℕ) → Each P xs → All P xs
each-all P xs h = All-from_get_or P xs 0 (λ i l. each-at P xs i l h)

pub all-each : (P : ℕ → Type 0) (xs : List ℕ) → All P xs → Each P xs
all-each P xs h = each-from P xs (λ i l. h i 0 l)

-- what is true of some job of a list
abbrev pub Some_of : (ℕ → Type 0) → List ℕ → Type 0
Some_of P [] = ⊥
Some_of P (x ∷ xs) = P x ⊎ Some_of P xs

-- that one, with what is true of each
pub some-each : (P Q : ℕ → Type 0) (xs : List ℕ) → Some_of P xs → Each Q xs → (x : ℕ) × P x × Q x
some-each P Q [] s h = absurd s
some-each P Q (x ∷ xs) s h = elim s [
  | inl here ↦ (x, here, h.0)
  | inr there ↦ some-each P Q xs there h.1
]

-- then the list is not empty
pub some_not_empty : (P : ℕ → Type 0) (xs : List ℕ) → Some_of P xs → xs ≢ []
some_not_empty P [] s e = s
some_not_empty P (x ∷ xs) s e = cc

-- the least of a number of each job
pub least_of : (f : ℕ → ℕ) (xs : List ℕ) → xs ≢ [] → (m : ℕ) × Each (λ x. m ≤ f x) xs × Some_of (λ x. f x ≡ m) xs
least_of f [] some = absurd (some refl)
least_of f (x ∷ []) some = (f x, (omega arith, tt), inl refl)
least_of f (x ∷ (y ∷ xs)) some =
    let h = least_of f (y ∷ xs) (λ e. cc) in
    elim (cases_lt (f x) h.0) [
      | inl less ↦ (f x, (omega arith, each-map (λ z. h.0 ≤ f z) (λ z. f x ≤ f z) (y ∷ xs) (λ z l. omega arith) h.1), inl refl)
      | inr most ↦ (h.0, (most, h.1), inr h.2)
    ]

-- a rising list: each is below those after it
abbrev pub Ascends : List ℕ → Type 0
Ascends [] = Unit {0}
Ascends (x ∷ xs) = Each (λ y. x < y) xs × Ascends xs

pub ascends : (xs : List ℕ) → IsStrictlyIncreasing xs → Ascends xs
ascends xs h = by_pairs xs (AllPairs-from_increasing xs h)
  where
    by_pairs : (ys : List ℕ) → AllPairs (λ x y. x < y) ys → Ascends ys
    by_pairs [] rising = tt
    by_pairs (y ∷ ys) rising = (
      each-members (λ z. y < z) ys (λ z c. member_after (λ a b. a < b) y ys z rising c),
      by_pairs ys (rising_tail (λ a b. a < b) y ys rising),
    )
