-- Where no element passes a test.
use Rattle.std.proofs.Common.{◌≡◌, sym, ◌∙◌, inl, inr, Bool, List, length, arith, nat_lt}
use Rattle.std.specs.Prelude.{Some, None, position, not}
use Rattle.std.specs.List.{position_or_len}
use Rattle.std.proofs.lemmas.Bool.{cases_Bool, ltb-false, cond-true}
use Rattle.std.proofs.lemmas.Option.{none-some}
use Rattle.std.proofs.lemmas.List.Sums.{prefix_len-le-length}

-- where no place is found, no element passes
pub not_found : {X : Type 0} (test : X → Bool) (xs : List X) → position test xs ≡ None → position_or_len test xs ≡ length xs
not_found test xs e = elim (cases_Bool (nat_lt (position_or_len test xs) (length xs))) [
  | inl t ↦ absurd (none-some (position_or_len test xs) (sym e ∙ cond-true _ (Some (position_or_len test xs)) None t))
  | inr f ↦ omega (arith, prefix_len-le-length (λ x. not (test x)) xs, ltb-false (position_or_len test xs) (length xs) f)
]
