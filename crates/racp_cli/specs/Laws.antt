-- Laws of the texts. Each is the contract of a public function.
use Rattle.std.specs.Prelude.{◌≡◌, ℕ, ◌^◌, ◌<◌, Bool, List, All}
use Rattle.racp_cli.specs.Answers.{CpmOutcome, Early, Refused, OutOfMemory, cpm_text}
use Rattle.racp_cli.specs.Crowds.{IsCrowdAnswer}

-- the numbers of an answer fit 64 bits
abbrev pub IsWithin64Bits : CpmOutcome → Type 0
IsWithin64Bits (Early critical starts) = (critical < 2 ^ 64) × All (λ start. start < 2 ^ 64) starts
IsWithin64Bits (Refused fault) = fault.line < 2 ^ 64
IsWithin64Bits OutOfMemory = Unit {0}

-- no two answers share one text
abbrev pub OneTextOneAnswer : Type 0
OneTextOneAnswer = (a b : CpmOutcome) → IsWithin64Bits a → IsWithin64Bits b → cpm_text a ≡ cpm_text b → a ≡ b

-- no text that `plan` writes, on one thread or by workers, goes with two statuses
abbrev pub OneTextOneStatus : Type 0
OneTextOneStatus =
    (turns other_turns : ℕ) (quiet other_quiet : Bool) (net order other_net other_order text : List ℕ) (a b : ℕ) →
    IsCrowdAnswer turns quiet net order a text → IsCrowdAnswer other_turns other_quiet other_net other_order b text →
    a ≡ b
