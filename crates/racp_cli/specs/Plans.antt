-- What `plan` answers to the texts of a network and an order: a status, and the text that is written.
use Rattle.std.specs.Prelude.{◌≡◌, ◌⊎◌, ℕ, List, length, Ok, Err}
use Rattle.racp_model.specs.Project.{Project}
use Rattle.racp_sm.specs.Reading.{IsReading}
use Rattle.racp_sm.specs.Faults.{SmFault}
use Rattle.racp_prices.specs.Orders.{IsOrder}
use Rattle.racp_prices.specs.declared.fault.OrderFault.{OrderFault}
use Rattle.racp_lexfix.specs.Printing.{IsPrinted}
use Rattle.racp_cli.specs.Texts.{refusal_line, order_refusal_line, memory_line}

-- the network text is refused
abbrev pub IsNetworkLine : List ℕ → ℕ → List ℕ → Type 0
IsNetworkLine net status text = (fault : SmFault) × IsReading net (Err fault) × (status ≡ 5) ×
    (text ≡ refusal_line fault)

-- it is read as a network, and the order text is refused
abbrev pub IsOrderLine : List ℕ → List ℕ → ℕ → List ℕ → Type 0
IsOrderLine net order status text =
    (network : Project) × (fault : OrderFault) × IsReading net (Ok network) ×
    IsOrder network.resources (length network.jobs) order (Err fault) ×
    (status ≡ 5) × (text ≡ order_refusal_line fault)

-- memory ran out
abbrev pub IsMemoryLine : ℕ → List ℕ → Type 0
IsMemoryLine status text = (status ≡ 6) × (text ≡ memory_line)

-- what is right for two texts: the plan, or why there is none, for the network and the order that they are read as; or why the first
-- of them that is refused is; memory may run out at any texts
abbrev pub IsPlanAnswer : List ℕ → List ℕ → ℕ → List ℕ → Type 0
IsPlanAnswer net order status text =
    IsPrinted net order text status ⊎ (IsNetworkLine net status text ⊎
    (IsOrderLine net order status text ⊎ IsMemoryLine status text))
