-- The two parts of a network text, each a stream of words: the precedence relation, and the durations and requests.
use Rattle.std.specs.Prelude.{ℕ, zero, suc, ◌+◌, List, [], ◌∷◌, ◌++◌, map, Result, Ok, Err, if◌then◌else◌}
use Rattle.racp_model.specs.Project.{Activity}
use Rattle.racp_text.specs.Numbers.{is_number}
use Rattle.racp_sm.specs.Lines.{Word}
use Rattle.racp_sm.specs.Head.{number_within}
use Rattle.racp_model.specs.Steps.{◌>>=◌}
use Rattle.racp_text.specs.Faults.{fault_at, refused}
use Rattle.racp_sm.specs.Faults.{SmFault}
use Rattle.racp_sm.specs.declared.fault.SmFaultKind.{SmFaultKind}
use Rattle.racp_sm.specs.declared.fault.SmFaultKind.TheVariants.{BadNumber, Limit, BadRow, NotSingleMode, BadSuccessor, TooFew, TooMany}

-- the number at the front of a stream, from low to high, and the words after it; a stream that has ended is too short,
-- at the title of its part
abbrev pub next_number : ℕ → SmFaultKind → ℕ → ℕ → List Word → Result (ℕ × List Word) SmFault
next_number title kind low high [] = refused TooFew title
next_number title kind low high (word ∷ words) = do
  number ← number_within kind low high word
  Ok (number, words)

-- that many numbers at the front of a stream, and the words after them
unfoldable pub next_numbers : ℕ → SmFaultKind → ℕ → ℕ → ℕ → List Word → Result (List ℕ × List Word) SmFault
next_numbers title kind low high zero words = Ok ([], words)
next_numbers title kind low high (suc count) words = do
  number ← next_number title kind low high words
  others ← next_numbers title kind low high count number.1
  Ok (number.0 ∷ others.0, others.1)

-- what is wrong if this word is left: a number is one too many
abbrev pub left_over : Word → SmFault
left_over word = fault_at (if is_number word.bytes then TooMany else BadNumber) word.line

-- no word is left
abbrev pub nothing_left : List Word → Result (List Word) SmFault
nothing_left [] = Ok []
nothing_left (word ∷ words) = Err (left_over word)

-- the row of one of n jobs in the precedence part, and the words after it: its number, the number of its modes, how
-- many successors it has, and these; its pairs are those of the job with each
unfoldable pub successor_row : ℕ → ℕ → ℕ → List Word → Result (List (ℕ × ℕ) × List Word) SmFault
successor_row title n job words = do
  number ← next_number title BadRow job job words
  modes ← next_number title NotSingleMode 1 1 number.1
  count ← next_number title Limit 0 512 modes.1
  successors ← next_numbers title BadSuccessor 1 n count.0 count.1
  Ok (map (λ successor. (job, successor)) successors.0, successors.1)

-- the rows of this many of n jobs, from this one on
unfoldable pub successor_rows : ℕ → ℕ → ℕ → ℕ → List Word → Result (List (ℕ × ℕ) × List Word) SmFault
successor_rows title n job zero words = Ok ([], words)
successor_rows title n job (suc count) words = do
  row ← successor_row title n job words
  others ← successor_rows title n (job + 1) count row.1
  Ok (row.0 ++ others.0, others.1)

-- the row of a job in the requests part, and the words after it: its number, its mode, its duration, and what it
-- requests of each resource
unfoldable pub request_row : ℕ → ℕ → ℕ → List Word → Result (Activity × List Word) SmFault
request_row title resources job words = do
  number ← next_number title BadRow job job words
  mode ← next_number title NotSingleMode 1 1 number.1
  duration ← next_number title Limit 0 10000 mode.1
  requests ← next_numbers title Limit 0 10000 resources duration.1
  Ok (record { duration = duration.0; requests = requests.0 }, requests.1)

-- the rows of this many jobs, from this one on
unfoldable pub request_rows : ℕ → ℕ → ℕ → ℕ → List Word → Result (List Activity × List Word) SmFault
request_rows title resources job zero words = Ok ([], words)
request_rows title resources job (suc count) words = do
  row ← request_row title resources job words
  others ← request_rows title resources (job + 1) count row.1
  Ok (row.0 ∷ others.0, others.1)

-- the precedence relation that a whole stream gives: the pairs of each job and its successors
unfoldable pub arcs_of : ℕ → ℕ → List Word → Result (List (ℕ × ℕ)) SmFault
arcs_of title n words = do
  rows ← successor_rows title n 1 n words
  end ← nothing_left rows.1
  Ok rows.0

-- the jobs that a whole stream gives
unfoldable pub jobs_of : ℕ → ℕ → ℕ → List Word → Result (List Activity) SmFault
jobs_of title resources n words = do
  rows ← request_rows title resources 1 n words
  end ← nothing_left rows.1
  Ok rows.0
