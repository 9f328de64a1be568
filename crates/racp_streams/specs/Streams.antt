-- What is read of a reader and what is written to a writer, in what they say of their bytes before and after. One that says
-- nothing (`None`) is not spoken of.
use Rattle.std.specs.Prelude.{◌≡◌, ◌⊎◌, ℕ, ◌+◌, ◌<◌, ◌≤◌, List, [], ◌∷◌, ◌++◌, length, All, Option, Result, Ok, Err, codes}
use Rattle.std.specs.Io.KnownBytes.{Consumes, Appends, Keeps, IsAtEnd}
use Rattle.racp_streams.specs.declared.fault.StreamFault.{StreamFault}
use Rattle.racp_streams.specs.declared.fault.StreamFault.TheVariants.{Read, Write, TooLong, Memory}

-- how many bytes are read of one reader at most
abbrev pub input_limit : ℕ
input_limit = 16777216

-- the input is all that the reader had: bytes, and not too many
pub record IsInput (unread left : Option (List ℕ)) (input : List ℕ) : Type 0 where
  pub bytes : All (λ byte. byte < 256) input
  pub taken : Consumes unread left input
  pub none_left : IsAtEnd left
  pub within : length input ≤ input_limit

-- this many bytes were read at most, and no others
abbrev pub IsBeginning : Option (List ℕ) → Option (List ℕ) → ℕ → Type 0
IsBeginning unread left most = (front : List ℕ) × Consumes unread left front × (length front ≤ most)

-- one byte more was read than there may be
abbrev pub IsInputTooLong : Option (List ℕ) → Option (List ℕ) → Type 0
IsInputTooLong unread left = (front : List ℕ) × Consumes unread left front × (length front ≡ input_limit + 1)

-- what was read before a fault
abbrev pub IsReadUntil : Option (List ℕ) → Option (List ℕ) → StreamFault → Type 0
IsReadUntil unread left Read = IsBeginning unread left input_limit
IsReadUntil unread left Write = ⊥
IsReadUntil unread left TooLong = IsInputTooLong unread left
IsReadUntil unread left Memory = IsBeginning unread left (input_limit + 1)

-- a beginning of the text was written
abbrev pub WritesBeginning : Option (List ℕ) → Option (List ℕ) → List ℕ → Type 0
WritesBeginning old new text = (front rest : List ℕ) × (text ≡ front ++ rest) × Appends old new front

-- what was written of a text: all of it, or a beginning if the writer failed
abbrev pub IsWritten : Option (List ℕ) → Option (List ℕ) → List ℕ → Result (Unit {0}) StreamFault → Type 0
IsWritten old new text (Ok done) = Appends old new text
IsWritten old new text (Err fault) = (fault ≡ Write) × WritesBeginning old new text

-- what was written as an answer: its whole text, with its status, or a beginning of it if the writer failed
abbrev pub IsAnswerWritten : (ℕ → List ℕ → Type 0) → Option (List ℕ) → Option (List ℕ) → Result ℕ StreamFault → Type 0
IsAnswerWritten Answer old new (Ok status) = (text : List ℕ) × Answer status text × Appends old new text
IsAnswerWritten Answer old new (Err fault) = (fault ≡ Write) × (status : ℕ) × (text : List ℕ) × Answer status text ×
    WritesBeginning old new text

-- what a reader has before and after a run
pub record Reader : Type 0 where
  pub unread : Option (List ℕ)
  pub left : Option (List ℕ)

-- these inputs are all that the readers had
abbrev pub AreInputs : List Reader → List (List ℕ) → Type 0
AreInputs [] [] = Unit {0}
AreInputs [] (input ∷ inputs) = ⊥
AreInputs (reader ∷ readers) [] = ⊥
AreInputs (reader ∷ readers) (input ∷ inputs) = IsInput reader.unread reader.left input × AreInputs readers inputs

-- nothing was read of these readers
abbrev pub AreUntouched : List Reader → Type 0
AreUntouched [] = Unit {0}
AreUntouched (reader ∷ readers) = (reader.left ≡ reader.unread) × AreUntouched readers

-- one of the readers failed with this fault: those before it were read whole, and nothing of those after it was read
abbrev pub IsStopped : List Reader → StreamFault → Type 0
IsStopped [] fault = ⊥
IsStopped (reader ∷ readers) fault =
    (IsReadUntil reader.unread reader.left fault × AreUntouched readers) ⊎
    ((input : List ℕ) × IsInput reader.unread reader.left input × IsStopped readers fault)

-- a run, from the bytes of the readers to those of the writer: all of each reader is read, one after another, and an answer to
-- these inputs is written, or the writer fails; or reading fails, and nothing is written
abbrev pub IsRun : (List (List ℕ) → ℕ → List ℕ → Type 0) → List Reader → Option (List ℕ) → Option (List ℕ) →
    Result ℕ StreamFault → Type 0
IsRun Answer readers old new (Ok status) = (inputs : List (List ℕ)) × AreInputs readers inputs ×
    IsAnswerWritten (Answer inputs) old new (Ok status)
IsRun Answer readers old new (Err Write) = (inputs : List (List ℕ)) × AreInputs readers inputs ×
    IsAnswerWritten (Answer inputs) old new (Err Write)
IsRun Answer readers old new (Err fault) = IsStopped readers fault × Keeps old new

-- the answers to one input
abbrev pub ToOne : (List ℕ → ℕ → List ℕ → Type 0) → List (List ℕ) → ℕ → List ℕ → Type 0
ToOne Answer [] status text = ⊥
ToOne Answer (input ∷ []) status text = Answer input status text
ToOne Answer (input ∷ (other ∷ inputs)) status text = ⊥

-- the answers to two inputs
abbrev pub ToTwo : (List ℕ → List ℕ → ℕ → List ℕ → Type 0) → List (List ℕ) → ℕ → List ℕ → Type 0
ToTwo Answer (first ∷ (second ∷ [])) status text = Answer first second status text
ToTwo Answer _ status text = ⊥

-- the answers to three inputs
abbrev pub ToThree : (List ℕ → List ℕ → List ℕ → ℕ → List ℕ → Type 0) → List (List ℕ) → ℕ → List ℕ → Type 0
ToThree Answer (first ∷ (second ∷ (third ∷ []))) status text = Answer first second third status text
ToThree Answer _ status text = ⊥

-- the answers to four inputs
abbrev pub ToFour : (List ℕ → List ℕ → List ℕ → List ℕ → ℕ → List ℕ → Type 0) → List (List ℕ) → ℕ → List ℕ → Type 0
ToFour Answer (first ∷ (second ∷ (third ∷ (fourth ∷ [])))) status text = Answer first second third fourth status text
ToFour Answer _ status text = ⊥

-- what is printed of a fault
abbrev pub fault_line : StreamFault → List ℕ
fault_line Read = codes "read fault"
fault_line Write = codes "write fault"
fault_line TooLong = codes "too long"
fault_line Memory = codes "memory"

-- the status that tells of a fault
abbrev pub fault_status : StreamFault → ℕ
fault_status Read = 7
fault_status Write = 7
fault_status TooLong = 7
fault_status Memory = 6
