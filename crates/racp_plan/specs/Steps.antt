-- What the steps of writing and reading answer: private words.
use Rattle.std.specs.Prelude.{◌≡◌, ◌⊎◌, ℕ, zero, suc, ◌+◌, ◌==◌, List, [], ◌∷◌, ◌++◌, length, take, drop, Option, Some, None, Result, Ok, Err, bytes_eq, nat_le, if◌then◌else◌, codes}
use Rattle.std.specs.List.{before_first, after_first, list_any}
use denote.Ref.{Bor}
use Rattle.std.specs.Fmt.{decimal}
use Rattle.racp_model.specs.Steps.{◌>>=◌}
use Rattle.racp_plan.specs.Texts.{line}
use Rattle.racp_text.specs.Numbers.{value}
use Rattle.racp_plan.specs.PlanReading.{most_number, most_cost, is_decimal, words_for}
use Rattle.racp_text.specs.Cuts.{is_line_feed}
use Rattle.racp_text.specs.Faults.{refused}
use Rattle.racp_plan.specs.TextFaults.{out_of_memory, TextFault}
use Rattle.racp_plan.specs.declared.text_fault.TextFaultKind.TheVariants.{Syntax, Range}
use Rattle.racp_plan.specs.declared.plan.Plan.{Plan}

-- a line of words and a number
abbrev pub number_line : List ℕ → ℕ → List ℕ
number_line words number = line (words ++ decimal number)

-- a line for each number, the first of them of this resource or job
abbrev pub number_lines : List ℕ → ℕ → List ℕ → List ℕ
number_lines word place [] = []
number_lines word place (number ∷ numbers) =
    number_line (words_for word place) number ++ number_lines word (place + 1) numbers

-- the bytes after a reference, if there is one
abbrev pub contents : Option (Bor (List ℕ)) → Option (List ℕ)
contents (Some bytes) = Some bytes.now
contents None = None

-- what is left of a text, from a line on: the number of this line, from 1, and the bytes
pub record Rest : Type 0 where
  pub line : ℕ
  pub bytes : List ℕ

-- the next line, without its line feed, and what is left after it; a line without line feed is not of its form
abbrev pub next_line : Rest → Result (List ℕ × Rest) TextFault
next_line rest =
    if list_any is_line_feed rest.bytes
    then Ok (
      before_first is_line_feed rest.bytes,
      record { line = rest.line + 1; bytes = after_first is_line_feed rest.bytes },
    )
    else refused Syntax rest.line

-- what stands after these words, or none if the line begins with others
unfoldable pub after_words : List ℕ → List ℕ → Option (List ℕ)
after_words words line = if bytes_eq (take (length words) line) words then Some (drop (length words) line) else None

-- the number of a line of which this stands after its words, if it is at most so great; n is the number of the line
abbrev pub number_on : ℕ → ℕ → Option (List ℕ) → Result ℕ TextFault
number_on n most None = refused Syntax n
number_on n most (Some digits) =
    if is_decimal digits
    then (if nat_le (value digits) most then Ok (value digits) else refused Range n)
    else refused Syntax n

-- the number on the next line, which is these words and a number up to this one, and what is left after it
unfoldable pub next_number : List ℕ → ℕ → Rest → Result (ℕ × Rest) TextFault
next_number words most rest = do
  line ← next_line rest
  number ← number_on rest.line most (after_words words line.0)
  Ok (number, line.1)

-- the numbers on the next lines, one for each of this many resources or jobs from this one on, and what is left after
-- them
unfoldable pub next_numbers : List ℕ → ℕ → ℕ → Rest → Result (List ℕ × Rest) TextFault
next_numbers word number zero rest = Ok ([], rest)
next_numbers word number (suc count) rest = do
  first ← next_number (words_for word number) most_number rest
  others ← next_numbers word (number + 1) count first.1
  Ok (first.0 ∷ others.0, others.1)

-- nothing is left
abbrev pub nothing_left : Rest → Result (Unit {0}) TextFault
nothing_left rest = if length rest.bytes == 0 then Ok tt else refused Syntax rest.line

-- the last line is `end`, and nothing is left after it
unfoldable pub last_line : Rest → Result (Unit {0}) TextFault
last_line rest = do
  line ← next_line rest
  if bytes_eq line.0 (codes "end") then nothing_left line.1 else refused Syntax rest.line

-- the lines of a plan of this many resources and jobs, in order
unfoldable pub reading : ℕ → ℕ → List ℕ → Result Plan TextFault
reading resources jobs text = do
  deadline ← next_number (codes "deadline ") most_number (record { line = 1; bytes = text })
  critical ← next_number (codes "critical ") most_number deadline.1
  cost ← next_number (codes "cost ") most_cost critical.1
  capacities ← next_numbers (codes "capacity ") 1 resources cost.1
  starts ← next_numbers (codes "start ") 1 jobs capacities.1
  end ← last_line starts.1
  Ok (record {
    deadline = deadline.0;
    critical = critical.0;
    cost = cost.0;
    capacities = capacities.0;
    starts = starts.0;
  })

-- reading answers this, unless it answers a plan and memory ran out
abbrev pub GivesOrMemory : Result Plan TextFault → Result Plan TextFault → Type 0
GivesOrMemory (Ok plan) read = read ≡ Ok plan
GivesOrMemory (Err fault) read = (read ≡ Err fault) ⊎ ((plan : Plan) × (read ≡ Ok plan) × (fault ≡ out_of_memory))
