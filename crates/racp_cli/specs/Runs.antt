-- Runs of commands: from the bytes of their readers to those of their writer.
use Rattle.std.specs.Prelude.{ℕ, Bool, List, [], ◌∷◌, Option, Result}
use Rattle.racp_streams.specs.Streams.{IsRun, Reader, ToOne, ToTwo, ToThree, ToFour}
use Rattle.racp_streams.specs.declared.fault.StreamFault.{StreamFault}
use Rattle.racp_cli.specs.Answers.{IsCpmAnswer}
use Rattle.racp_cli.specs.Checks.{IsCheckAnswer}
use Rattle.racp_cli.specs.Plans.{IsPlanAnswer}
use Rattle.racp_cli.specs.Verifies.{IsVerifyAnswer, IsVerifyAnswerUntil}

-- a run of `cpm`
abbrev pub IsCpmRun : Reader → Option (List ℕ) → Option (List ℕ) → Result ℕ StreamFault → Type 0
IsCpmRun net = IsRun (ToOne IsCpmAnswer) (net ∷ [])

-- a run of `plan`
abbrev pub IsPlanRun : Reader → Reader → Option (List ℕ) → Option (List ℕ) → Result ℕ StreamFault → Type 0
IsPlanRun net order = IsRun (ToTwo IsPlanAnswer) (net ∷ (order ∷ []))

-- a run of `check`
abbrev pub IsCheckRun : Reader → Reader → Reader → Option (List ℕ) → Option (List ℕ) → Result ℕ StreamFault → Type 0
IsCheckRun net order plan = IsRun (ToThree IsCheckAnswer) (net ∷ (order ∷ (plan ∷ [])))

-- a run of `verify`
abbrev pub IsVerifyRun : Reader → Reader → Reader → Reader → Option (List ℕ) → Option (List ℕ) → Result ℕ StreamFault → Type 0
IsVerifyRun net order plan proof = IsRun (ToFour IsVerifyAnswer) (net ∷ (order ∷ (plan ∷ (proof ∷ []))))

-- a run of `verify` that may be stopped, for the text of a certificate
abbrev pub IsVerifyRunUntil : Bool → List ℕ → Reader → Reader → Reader → Option (List ℕ) → Option (List ℕ) → Result ℕ StreamFault → Type 0
IsVerifyRunUntil quiet proof net order plan =
    IsRun (ToThree (λ first second third. IsVerifyAnswerUntil quiet first second third proof)) (net ∷ (order ∷ (plan ∷ [])))
