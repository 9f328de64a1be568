-- Units that are cut to the roofs and to the ceilings.
use Rattle.std.proofs.Common.{◌≡◌, ℕ, ◌<◌, ◌≤◌, min, List, slice_index, Option, Some, None, IfSome, arith}
use Rattle.racp_prices.specs.Units.{cut_to}

-- cut to the roofs, units within the ceilings are at most the most units
pub cut-below : (ceilings : Option (List ℕ)) (units n k x top : ℕ) → (whole : List ℕ) → IfSome ceilings (λ most. (q : ℕ) → q < n → slice_index whole q ≤ slice_index most q) → k < n →
    x ≡ min (slice_index whole k) top → units ≡ cut_to ceilings k top → x ≤ units
cut-below None units n k x top whole h l e f = omega (arith, e, f)
cut-below (Some most) units n k x top whole h l e f = omega (arith, e, f, h k l)

-- and the most units are within the ceilings
pub most-within : (ceilings : Option (List ℕ)) (n : ℕ) (whole : List ℕ) (top : ℕ → ℕ) → ((k : ℕ) → k < n → slice_index whole k ≤ cut_to ceilings k (top k)) →
    IfSome ceilings (λ most. (q : ℕ) → q < n → slice_index whole q ≤ slice_index most q)
most-within None n whole top h = tt
most-within (Some most) n whole top h = λ q l. omega (arith, h q l)
