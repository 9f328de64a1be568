-- The first of a list that is made from rising numbers.
use Rattle.std.proofs.Common.{◌≡◌, ℕ, suc, ◌+◌, ◌-◌, ◌<◌, ◌∷◌, map, arith, ap}
use Rattle.std.specs.List.{range_with_len}

-- from below an end, the number itself comes first, and then those from the next number on
pub values_step : {X : Type 0} (f : ℕ → X) (a end : ℕ) → a < end → map f (range_with_len a (end - a)) ≡ f a ∷ map f (range_with_len (a + 1) (end - (a + 1)))
values_step f a end less =
    let e : end - a ≡ suc (end - (a + 1)) = omega arith in
    ap (λ n. map f (range_with_len a n)) e
