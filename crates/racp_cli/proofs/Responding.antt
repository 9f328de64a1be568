-- From what was read of the readers, and an answer that was written, to a run.
use Rattle.std.proofs.Common.{ℕ, List, Option, Ok, Err, sym, subst, IfOk}
use Rattle.std.specs.Prelude.{Result, Vec}
use Rattle.std.specs.declared.alloc.AllocError.{AllocError}
use Rattle.std.specs.declared.alloc.Global.{Global}
use Rattle.std.specs.Io.KnownBytes.{Keeps}
use Rattle.racp_cli.specs.Texts.{memory_line}
use Rattle.racp_cli.specs.Responses.{IsMade}
use Rattle.racp_streams.specs.Streams.{Reader, AreInputs, IsReadUntil, IsStopped, IsAnswerWritten, IsRun}
use Rattle.racp_streams.specs.declared.fault.StreamFault.{StreamFault}
use Rattle.racp_streams.specs.declared.fault.StreamFault.TheVariants.{Read, Write, TooLong, Memory}

-- what was written of an answer is what was written of each answer that it stands for
pub answered_as : (A B : ℕ → List ℕ → Type 0) (old new : Option (List ℕ)) (result : Result ℕ StreamFault) → ((status : ℕ) (text : List ℕ) → A status text → B status text) →
    IsAnswerWritten A old new result → IsAnswerWritten B old new result
answered_as A B old new (Ok status) f (text, a, appended) = (text, f status text a, appended)
answered_as A B old new (Err fault) f (is, status, text, a, beginning) = (is, status, text, f status text a, beginning)

-- an answer that was made is right, or memory ran out
pub made_right : (A : ℕ → List ℕ → Type 0) (made : Result (ℕ × Vec ℕ Global) AllocError) → IfOk made (λ answer. A answer.0 answer.1.items) → A 6 memory_line →
    (status : ℕ) (text : List ℕ) → IsMade made status text → A status text
made_right A (Ok made) right memory status text (e, f) = subst (λ s. A s text) e (subst (A made.0) f right)
made_right A (Err error) right memory status text (e, f) = subst (λ s. A s text) e (subst (A 6) f memory)

-- the fault is that of a writer
abbrev IsOfWriter : StreamFault → Type 0
IsOfWriter Read = ⊥
IsOfWriter Write = Unit {0}
IsOfWriter TooLong = ⊥
IsOfWriter Memory = ⊥

-- all readers were read, and an answer to them is written
pub run_answered : (Answer : List (List ℕ) → ℕ → List ℕ → Type 0) (readers : List Reader) (inputs : List (List ℕ)) (old new : Option (List ℕ)) (result : Result ℕ StreamFault) →
    AreInputs readers inputs → IsAnswerWritten (Answer inputs) old new result → IsRun Answer readers old new result
run_answered Answer readers inputs old new (Ok status) are answered = (inputs, are, answered)
run_answered Answer readers inputs old new (Err Read) are answered = absurd (subst IsOfWriter (sym answered.0) tt)
run_answered Answer readers inputs old new (Err Write) are answered = (inputs, are, answered)
run_answered Answer readers inputs old new (Err TooLong) are answered = absurd (subst IsOfWriter (sym answered.0) tt)
run_answered Answer readers inputs old new (Err Memory) are answered = absurd (subst IsOfWriter (sym answered.0) tt)

-- one of the readers failed
pub run_stopped : (Answer : List (List ℕ) → ℕ → List ℕ → Type 0) (readers : List Reader) (old new : Option (List ℕ)) (fault : StreamFault) (unread left : Option (List ℕ)) →
    IsReadUntil unread left fault → IsStopped readers fault → Keeps old new → IsRun Answer readers old new (Err fault)
run_stopped Answer readers old new Read unread left until stopped keeps = (stopped, keeps)
run_stopped Answer readers old new Write unread left until stopped keeps = absurd until
run_stopped Answer readers old new TooLong unread left until stopped keeps = (stopped, keeps)
run_stopped Answer readers old new Memory unread left until stopped keeps = (stopped, keeps)
