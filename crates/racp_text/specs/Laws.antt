-- Laws of numbers in decimal. Each is the contract of a public function.
use Rattle.std.specs.Prelude.{◌≡◌, ℕ, ◌+◌, ◌*◌, ◌≤◌, ◌++◌, List, [], ◌∷◌}
use Rattle.racp_text.specs.Numbers.{value}

-- numbers are decimal: one more digit makes ten times as much and the digit, and zeros in front change nothing
abbrev pub NumbersAreDecimal : Type 0
NumbersAreDecimal =
    (digits : List ℕ) (digit : ℕ) → digit ≤ 9 →
    (value (digits ++ (48 + digit) ∷ []) ≡ value digits * 10 + digit) × (value (48 ∷ digits) ≡ value digits)
