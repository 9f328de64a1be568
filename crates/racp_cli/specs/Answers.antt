-- What `cpm` answers to a network text.
use Rattle.std.specs.Prelude.{◌≡◌, ℕ, List, Ok, Err}
use Rattle.racp_model.specs.Project.{Project}
use Rattle.racp_model.specs.Path.{IsEarly, IsCriticalLength}
use Rattle.racp_sm.specs.Reading.{IsReading}
use Rattle.racp_sm.specs.Faults.{SmFault}
use Rattle.racp_cli.specs.Texts.{early_text, refusal_line, memory_line}

-- the critical length and the early starts; the fault of the text; or that memory ran out
pub data CpmOutcome : Type 0 where
  Early : (critical : ℕ) (starts : List ℕ) → CpmOutcome
  Refused : SmFault → CpmOutcome
  OutOfMemory : CpmOutcome

-- the text that is written
abbrev pub cpm_text : CpmOutcome → List ℕ
cpm_text (Early critical starts) = early_text critical starts
cpm_text (Refused fault) = refusal_line fault
cpm_text OutOfMemory = memory_line

-- the status
abbrev pub cpm_status : CpmOutcome → ℕ
cpm_status (Early critical starts) = 0
cpm_status (Refused fault) = 5
cpm_status OutOfMemory = 6

-- the answer is that to a network text: what is right for the network that it is read as, or why it is refused; memory may
-- run out at any text
abbrev pub IsCpm : List ℕ → CpmOutcome → Type 0
IsCpm input (Early critical starts) =
    (network : Project) × IsReading input (Ok network) × IsCriticalLength network (λ _. 0) critical ×
    IsEarly network (λ _. 0) starts
IsCpm input (Refused fault) = IsReading input (Err fault)
IsCpm input OutOfMemory = Unit {0}

-- status and text stand for an answer to the input
pub record IsCpmAnswer (input : List ℕ) (status : ℕ) (text : List ℕ) : Type 0 where
  pub answer : CpmOutcome
  pub right : IsCpm input answer
  pub with_status : cpm_status answer ≡ status
  pub with_text : cpm_text answer ≡ text

-- the text of the critical length and the early starts of a network
abbrev pub IsEarlyText : Project → List ℕ → Type 0
IsEarlyText network text =
    (critical : ℕ) × (starts : List ℕ) × IsCriticalLength network (λ _. 0) critical × IsEarly network (λ _. 0) starts ×
    (text ≡ early_text critical starts)
