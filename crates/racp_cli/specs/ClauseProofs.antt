-- What `prove --facts` answers to the texts of a network and an order: a status, and the text that is written.
use Rattle.std.specs.Prelude.{◌⊎◌, ℕ, List, [], ◌∷◌, Option, Result}
use Rattle.racp_prove.specs.Showing.{IsShowingPrinted}
use Rattle.racp_cli.specs.Plans.{IsNetworkLine, IsOrderLine, IsMemoryLine}
use Rattle.racp_streams.specs.Streams.{Reader, IsRun, ToTwo}
use Rattle.racp_streams.specs.declared.fault.StreamFault.{StreamFault}

-- what is right for two texts: a certificate by clauses for the plan, or of a bound, or why there is no plan, or that none was made,
-- for the network and the order that they are read as; or why the first of them that is refused is; memory may run out at any texts
abbrev pub IsClauseProofAnswer : List ℕ → List ℕ → ℕ → List ℕ → Type 0
IsClauseProofAnswer net order status text =
    IsShowingPrinted net order text status ⊎ (IsNetworkLine net status text ⊎
    (IsOrderLine net order status text ⊎ IsMemoryLine status text))

-- a run of `prove --facts`
abbrev pub IsClauseProofRun : Reader → Reader → Option (List ℕ) → Option (List ℕ) → Result ℕ StreamFault → Type 0
IsClauseProofRun net order = IsRun (ToTwo IsClauseProofAnswer) (net ∷ (order ∷ []))
