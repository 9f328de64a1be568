-- Texts that stand for an answer, and what is written of them.
use mathlib.Core.Path.{fun_ext}
use Rattle.std.proofs.Common.{◌≡◌, ℕ, List, Ok, Err, replicate, slice_index, refl, sym, ap, subst, inl, inr}
use Rattle.racp_model.specs.Project.{Project}
use Rattle.racp_model.specs.Path.{IsEarly, IsCriticalLength}
use Rattle.racp_model.proofs.lemmas.Zeros.{zeros}
use Rattle.racp_sm.specs.Reading.{IsReading, IsReadingOrMemory}
use Rattle.racp_sm.specs.Faults.{SmFault}
use Rattle.racp_sm.specs.declared.fault.SmFaultKind.TheVariants.{Memory}
use Rattle.racp_cli.specs.Texts.{early_text, memory_line}
use Rattle.racp_cli.specs.Answers.{Early, Refused, OutOfMemory, IsEarlyText, IsCpmAnswer}
use Rattle.racp_cli.specs.Responses.{IsNetworkRefused}

-- a row of zeros releases each job at 0
pub released_at_zero : (n : ℕ) → slice_index (replicate n 0) ≡ (λ _. 0)
released_at_zero n = fun_ext (zeros n)

-- what is right for a row of zeros is the answer
pub answers_early : (network : Project) (n critical : ℕ) (starts text : List ℕ) → IsCriticalLength network (slice_index (replicate n 0)) critical → IsEarly network (slice_index (replicate n 0)) starts
    → text ≡ early_text critical starts → IsEarlyText network text
answers_early network n critical starts text length early e =
    let same = released_at_zero n in
    (critical, starts, subst (λ (release : ℕ → ℕ). IsCriticalLength network release critical) same length, subst (λ (release : ℕ → ℕ). IsEarly network release starts) same early, e)

-- the answer to a text that is read as a network
pub answers_network : (input : List ℕ) (network : Project) (text : List ℕ) → IsReading input (Ok network) → IsEarlyText network text → IsCpmAnswer input 0 text
answers_network input network text reading early =
    record { answer = Early early.0 early.1; right = (network, reading, early.2, early.3); with_status = refl; with_text = sym early.4 }

-- the fault of a text is right where it is not that memory ran out
pub right_refusal : (input : List ℕ) (fault : SmFault) → IsReadingOrMemory input (Err fault) → (fault.kind ≡ Memory → ⊥) → IsReading input (Err fault)
right_refusal input fault (inl right) other = right
right_refusal input fault (inr (project, says, memory)) other = absurd (other (ap (λ (f : SmFault). f.kind) memory))

-- the answer to a text that is refused
pub answers_refusal : (input : List ℕ) (fault : SmFault) (status : ℕ) (text : List ℕ) → IsReadingOrMemory input (Err fault) → IsNetworkRefused fault status text → IsCpmAnswer input status text
answers_refusal input fault status text reading (other, with_status, with_text) =
    record { answer = Refused fault; right = right_refusal input fault reading other; with_status = with_status; with_text = with_text }

-- the answer where memory ran out
pub answers_memory : (input : List ℕ) → IsCpmAnswer input 6 memory_line
answers_memory input = record { answer = OutOfMemory; right = tt; with_status = refl; with_text = refl }
