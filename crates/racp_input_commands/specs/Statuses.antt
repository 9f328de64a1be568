-- The status of a command that writes a network or an order.
use Rattle.std.specs.Prelude.{◌≡◌, ◌⊎◌, ℕ, List}
use Rattle.racp_cli.specs.OrderAnswers.{IsOrderAnswer}
use Rattle.racp_cli.specs.declared.order.Asked.{Asked}

-- some answer of a command that writes a network or an order has this status; nothing is said of which
abbrev pub IsStatusOfInput : ℕ → Type 0
IsStatusOfInput status =
    ((asked : Asked) × (net : List ℕ) × (text : List ℕ) × IsOrderAnswer asked net status text) ⊎ (status ≡ 0)
