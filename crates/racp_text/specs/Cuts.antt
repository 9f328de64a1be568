-- Bytes cut at the first byte that passes a test.
use Rattle.std.specs.Prelude.{◌≡◌, ℕ, ◌<◌, ◌==◌, Bool, List, length, Option, Some, None}
use Rattle.std.specs.List.{before_first, after_first, position_or_len}
use denote.Ref.{Bor}

-- the byte that ends a line
abbrev pub is_line_feed : ℕ → Bool
is_line_feed b = b == 10

-- these are what stands before the first byte that passes the test, and what after it
abbrev pub AreParts : (ℕ → Bool) → List ℕ → List ℕ → List ℕ → Type 0
AreParts test bytes front back =
    (position_or_len test bytes < length bytes) × (front ≡ before_first test bytes) × (back ≡ after_first test bytes)

-- the two parts, or none if no byte passes
abbrev pub IsCut : (ℕ → Bool) → List ℕ → Option (Bor (List ℕ) × Bor (List ℕ)) → Type 0
IsCut test bytes (Some parts) = AreParts test bytes parts.0.now parts.1.now
IsCut test bytes None = position_or_len test bytes ≡ length bytes
