-- The greater of two numbers.
use Rattle.std.proofs.Common.{ℕ, ◌≤◌, ◌==◌, Bool, true, false, cond, inl, inr, Less, Equal, Greater, nat_cmp, lt-ltb, le-ltb, arith, sym, subst}
use Rattle.std.proofs.lemmas.Bool.{cases_lt}
use Rattle.std.specs.Ordering.{is_lt, ord_max}

-- what holds of the greater of two numbers, either of which may be that
pub greater_is : (P : ℕ → Type 0) (a b : ℕ) → (b ≤ a → P a) → (a ≤ b → P b) → P (ord_max nat_cmp a b)
greater_is P a b first second = elim (cases_lt b a) [
  | inl less ↦ subst (λ (t : Bool). P (picked t)) (sym (lt-ltb b a less)) (first (omega (arith, less)))
  | inr more ↦ subst (λ (t : Bool). P (picked t)) (sym (le-ltb b a more)) (later (b == a) (second more))
]
  where
    picked : Bool → ℕ
    picked t = cond (is_lt (cond t Less (cond (b == a) Equal Greater))) a b

    later : (t : Bool) → P b → P (cond (is_lt (cond t Equal Greater)) a b)
    later true h = h
    later false h = h
