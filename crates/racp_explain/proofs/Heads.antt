-- The first words of a cause, in the pieces in which they are written.
use Rattle.std.proofs.Common.{◌≡◌, ◌∙◌, ℕ, List, [], ◌++◌, ap, append_assoc, codes, length, take}
use Rattle.std.proofs.Math.Seq.{take-append_seam}
use Rattle.std.specs.Fmt.{decimal}
use Rattle.std.specs.Io.{StartsWith}
use Rattle.racp_prices.specs.Faults.{fault_number, fault_name}
use Rattle.racp_prices.specs.declared.fault.OrderFault.{OrderFault}
use Rattle.racp_explain.specs.Causes.{order_head, placed_head}

pub placed_pieces : (name place format : List ℕ) (number : ℕ) (fault rest : List ℕ) →
    codes "racp: " ++ (name ++ (place ++ (codes ": " ++ (format ++ (codes " " ++ (decimal number ++ (codes " " ++ (fault ++ rest)))))))) ≡ placed_head name place format number fault ++ rest
unfolding placed_head
placed_pieces name place format number fault rest = simp append_assoc

-- an order is told of without a line
pub order_placed : (name : List ℕ) (fault : OrderFault) →
    placed_head name [] (codes "order") (fault_number fault) (fault_name fault) ≡ order_head name fault
unfolding placed_head order_head
order_placed name fault = simp append_assoc

-- a text that is one text and then another begins with the first
pub begins : (text head rest : List ℕ) → text ≡ head ++ rest → StartsWith text head
begins text head rest is = ap (take (length head)) is ∙ take-append_seam head rest
