-- What `prove` answers to the texts of a network and an order: a status, and the text that is written.
use Rattle.std.specs.Prelude.{◌⊎◌, ℕ, Bool, List, [], ◌∷◌, Option, Result}
use Rattle.racp_prove.specs.Proving.{IsProofPrinted, IsProofPrintedUntil}
use Rattle.racp_cli.specs.Plans.{IsNetworkLine, IsOrderLine, IsMemoryLine}
use Rattle.racp_streams.specs.Streams.{Reader, IsRun, ToTwo}
use Rattle.racp_streams.specs.declared.fault.StreamFault.{StreamFault}

-- what is right for two texts: a certificate for the plan, or that none was made, or why there is no plan, for the network and the
-- order that they are read as; or why the first of them that is refused is; memory may run out at any texts
abbrev pub IsProofAnswer : List ℕ → List ℕ → ℕ → List ℕ → Type 0
IsProofAnswer net order status text =
    IsProofPrinted net order text status ⊎ (IsNetworkLine net status text ⊎
    (IsOrderLine net order status text ⊎ IsMemoryLine status text))

-- a run of `prove`
abbrev pub IsProofRun : Reader → Reader → Option (List ℕ) → Option (List ℕ) → Result ℕ StreamFault → Type 0
IsProofRun net order = IsRun (ToTwo IsProofAnswer) (net ∷ (order ∷ []))

-- the same where it may be stopped, by a stop that is quiet or not
abbrev pub IsProofAnswerUntil : (quiet : Bool) → List ℕ → List ℕ → ℕ → List ℕ → Type 0
IsProofAnswerUntil quiet net order status text =
    IsProofPrintedUntil quiet net order text status ⊎ (IsNetworkLine net status text ⊎
    (IsOrderLine net order status text ⊎ IsMemoryLine status text))

-- a run of `prove` that may be stopped
abbrev pub IsProofRunUntil : (quiet : Bool) → Reader → Reader → Option (List ℕ) → Option (List ℕ) →
    Result ℕ StreamFault → Type 0
IsProofRunUntil quiet net order = IsRun (ToTwo (IsProofAnswerUntil quiet)) (net ∷ (order ∷ []))
