-- Pieces that are out, each by its own number.
use Rattle.std.proofs.Common.{◌≡◌, ◌∙◌, inl, inr, ℕ, ◌+◌, ◌<◌, ◌≤◌, Bool, true, false, nat_eq, List, [], ◌∷◌, ◌++◌, length, IsPermutation, Contains, refl, sym, ap, arith}
use Rattle.std.specs.List.{sum_by}
use Rattle.std.proofs.lemmas.List.Sums.{sum_by-append, sum_by-cons}
use Rattle.std.proofs.lemmas.List.Sorted.{Contains-permutation, IsPermutation-sym, length_permutation, sum_by-IsPermutation}
use Rattle.racp_model.proofs.lemmas.Relations.{member_cases, member_later, member_first, no_member}
use Rattle.racp_core.specs.Machine.{PieceOut}
use Rattle.racp_desk.specs.Desk.{has_number}

-- a number counts where it is the piece's
number_is : (n k : ℕ) → n ≡ k → nat_eq n k ≡ true
number_is n k e = grind (arith, e)

pub has_own : (number : ℕ) (piece : PieceOut) → piece.number ≡ number → has_number number piece ≡ 1
has_own number piece e = rw (number_is piece.number number e) refl

-- no piece of a list has a number
none_more : (number : ℕ) (x : PieceOut) (xs : List PieceOut) → (x.number ≡ number → ⊥) → sum_by (has_number number) xs ≡ 0 → sum_by (has_number number) (x ∷ xs) ≡ 0
none_more number x xs other rest = go (nat_eq x.number number) refl
  where
    go : (b : Bool) → nat_eq x.number number ≡ b → sum_by (has_number number) (x ∷ xs) ≡ 0
    go true e = absurd (other (grind (arith, e)))
    go false e = (let zero : has_number number x ≡ 0 = rw e refl in let sum = sum_by-cons (has_number number) x xs in omega (arith, sum, zero, rest))

pub none_has : (number : ℕ) (xs : List PieceOut) → ((x : PieceOut) → Contains xs x → x.number ≡ number → ⊥) → sum_by (has_number number) xs ≡ 0
none_has number [] h = refl
none_has number (x ∷ xs) h = none_more number x xs (h x (member_first x xs x refl)) (none_has number xs (λ y c. h y (member_later x xs y c)))

-- a piece of a list counts
pub some_has : (number : ℕ) (xs : List PieceOut) (x : PieceOut) → Contains xs x → x.number ≡ number → 0 < sum_by (has_number number) xs
some_has number [] x c e = absurd (no_member x c)
some_has number (y ∷ ys) x c e =
    let sum = sum_by-cons (has_number number) y ys in
    elim (member_cases y ys x c) [
      | inl is ↦ (let one = has_own number y (ap (λ (p : PieceOut). p.number) is ∙ e) in omega (arith, one, sum))
      | inr later ↦ (let more = some_has number ys x later e in omega (arith, more, sum))
    ]

-- a piece comes back: the others were out as well, are one fewer, and none has its number
module _ (old new : List PieceOut) (piece : PieceOut) (back : IsPermutation old (piece ∷ new)) where
  pub was_out : (x : PieceOut) → Contains new x → Contains old x
  was_out x c = Contains-permutation (piece ∷ new) old x (IsPermutation-sym old (piece ∷ new) back) (member_later piece new x c)

  pub one_fewer : length old ≡ length new + 1
  one_fewer = (let e = length_permutation old (piece ∷ new) back in omega (arith, e))

  count_is : (number : ℕ) → has_number number piece + sum_by (has_number number) new ≡ sum_by (has_number number) old
  count_is number = sym (sum_by-cons (has_number number) piece new) ∙ sum_by-IsPermutation (has_number number) old (piece ∷ new) back

  pub still_once : (number : ℕ) → sum_by (has_number number) old ≤ 1 → sum_by (has_number number) new ≤ 1
  still_once number h = (let e = count_is number in omega (arith, e, h))

  pub others_differ : sum_by (has_number piece.number) old ≤ 1 → (x : PieceOut) → Contains new x → x.number ≡ piece.number → ⊥
  others_differ h x c e =
      let sum = count_is piece.number in
      let one = has_own piece.number piece refl in
      let more = some_has piece.number new x c e in
      omega (arith, sum, one, more, h)

-- a piece goes out whose number none of the others has
pub once_more : (old : List PieceOut) (piece : PieceOut) (number : ℕ) → sum_by (has_number number) old ≤ 1 → ((x : PieceOut) → Contains old x → x.number ≡ piece.number → ⊥) → sum_by (has_number number) (old ++ piece ∷ []) ≤ 1
once_more old piece number h new = go (nat_eq piece.number number) refl
  where
    sum : sum_by (has_number number) (old ++ piece ∷ []) ≡ sum_by (has_number number) old + (has_number number piece + 0)
    sum = sum_by-append (has_number number) old (piece ∷ []) ∙ ap (λ (k : ℕ). sum_by (has_number number) old + k) (sum_by-cons (has_number number) piece [])

    go : (b : Bool) → nat_eq piece.number number ≡ b → sum_by (has_number number) (old ++ piece ∷ []) ≤ 1
    go true e =
        let same : piece.number ≡ number = grind (arith, e) in
        let none = none_has number old (λ x c n. new x c (n ∙ sym same)) in
        let one = has_own number piece same in
        omega (arith, sum, none, one)
    go false e = (let zero : has_number number piece ≡ 0 = rw e refl in omega (arith, sum, zero, h))
