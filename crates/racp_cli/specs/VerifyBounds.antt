-- What `verify` answers to the texts of a network, an order and a certificate of a bound.
use Rattle.std.specs.Prelude.{◌≡◌, ◌⊎◌, ℕ, Bool, IsTrue, IfSome, List, [], ◌∷◌, Option, Some, None, Result}
use Rattle.racp_model.specs.Project.{Project}
use Rattle.racp_model.specs.Terms.{Terms}
use Rattle.racp_found.specs.Told.{IsLeastOfEnough}
use Rattle.racp_derivations.specs.BoundTexts.{IsLeastByText}
use Rattle.racp_lexfix.specs.Printing.{AreTextsOf}
use Rattle.racp_cli.specs.Plans.{IsNetworkLine, IsOrderLine, IsMemoryLine}
use Rattle.racp_streams.specs.Streams.{Reader, IsRun, ToThree}
use Rattle.racp_cli.specs.Texts.{at_least_line, unproved_line, stopped_line}
use Rattle.racp_streams.specs.declared.fault.StreamFault.{StreamFault}

-- the line that is written of a bound that is shown, or where none is
abbrev pub bound_text : Option ℕ → List ℕ
bound_text (Some least) = at_least_line least
bound_text None = unproved_line

-- and its status
abbrev pub bound_status : Option ℕ → ℕ
bound_status (Some least) = 0
bound_status None = 8

-- status and text stand for the bound that a text shows of a network and an order, and that it is one, or for that it shows none
pub record IsBoundLine (network : Project) (terms : Terms) (proof : List ℕ) (status : ℕ) (text : List ℕ) : Type 0 where
  pub found : Option ℕ
  pub exact : IsLeastByText network terms proof found
  pub least : IfSome found (IsLeastOfEnough network terms)
  pub with_status : status ≡ bound_status found
  pub with_text : text ≡ bound_text found

-- the same; or it was stopped, which a quiet stop does not do
abbrev pub IsBoundTold : (quiet : Bool) → Project → Terms → List ℕ → ℕ → List ℕ → Type 0
IsBoundTold quiet network terms proof status text =
    IsBoundLine network terms proof status text ⊎ ((IsTrue quiet → ⊥) × (status ≡ 4) × (text ≡ stopped_line []))

-- what is right for three texts: this for the network and the order that they are read as; or why the first of them that is
-- refused is; memory may run out at any texts
abbrev pub IsBoundAnswer : (quiet : Bool) → List ℕ → List ℕ → List ℕ → ℕ → List ℕ → Type 0
IsBoundAnswer quiet net order proof status text =
    ((network : Project) × (terms : Terms) × AreTextsOf net order network terms ×
    IsBoundTold quiet network terms proof status text) ⊎
    (IsNetworkLine net status text ⊎ (IsOrderLine net order status text ⊎ IsMemoryLine status text))

-- a run of `verify` of a bound
abbrev pub IsBoundRun : (quiet : Bool) → Reader → Reader → Reader → Option (List ℕ) → Option (List ℕ) →
    Result ℕ StreamFault → Type 0
IsBoundRun quiet net order proof = IsRun (ToThree (IsBoundAnswer quiet)) (net ∷ (order ∷ (proof ∷ [])))
