-- What the steps of reading answer: private words, over lists.
use Rattle.std.specs.Prelude.{◌≡◌, ℕ, ◌<◌, ◌++◌, Bool, false, List, [], ◌∷◌, length, map, drop, flat_map, Option, Some, None, Result, Ok, Err, if◌then◌else◌}
use Rattle.std.specs.List.{before_first, slice_split}
use denote.Ref.{Bor}
use Rattle.racp_text.specs.Cuts.{is_line_feed}
use Rattle.racp_text.specs.Numbers.{value}
use Rattle.racp_sm.specs.Lines.{Line, Word, line_pieces, words_in, words_of, has_words}
use Rattle.racp_sm.specs.Head.{Entries, begins_with, has_key, value_word, projects_key, jobs_key, renewable_key, nonrenewable_key, doubly_constrained_key}
use Rattle.racp_sm.specs.Reading.{precedence_title, requests_title, availabilities_title, from_first, ends_part, words_between_rules}
use Rattle.racp_text.specs.Faults.{fault_at}
use Rattle.racp_sm.specs.Faults.{SmFault}
use Rattle.racp_sm.specs.declared.fault.SmFaultKind.{SmFaultKind}
use Rattle.racp_sm.specs.declared.part.Part.{Part}
use Rattle.racp_sm.specs.declared.part.Part.TheVariants.{Precedence, Requests}
use Rattle.racp_sm.specs.declared.part.Mark.{Mark}
use Rattle.racp_sm.specs.declared.part.Mark.TheVariants.{Title, End}

-- the first line is taken off, or there is none
abbrev pub TakesPiece : List ℕ → Option (Bor (List ℕ) × Bor (List ℕ)) → Type 0
TakesPiece text (Some parts) =
    (line_pieces (slice_split is_line_feed text) ≡ parts.0.now ∷ line_pieces (slice_split is_line_feed parts.1.now)) ×
    (length parts.1.now < length text)
TakesPiece text None = line_pieces (slice_split is_line_feed text) ≡ []

-- the first word is taken off, or there is none
abbrev pub TakesWord : List ℕ → Option (Bor (List ℕ) × Bor (List ℕ)) → Type 0
TakesWord bytes (Some parts) = words_in bytes ≡ parts.0.now ∷ words_in parts.1.now
TakesWord bytes None = words_in bytes ≡ []

-- the texts after references
abbrev pub texts : List (Bor (List ℕ)) → List (List ℕ)
texts = map (λ text. text.now)

-- these words are taken off, or the bytes begin with others
abbrev pub TakesWords : List (List ℕ) → List ℕ → Option (Bor (List ℕ)) → Type 0
TakesWords names bytes (Some rest) = words_in bytes ≡ names ++ words_in rest.now
TakesWords names bytes None = begins_with (words_in bytes) names ≡ false

-- the first of some things is taken off, or there are none
abbrev pub Takes : {X : Type 0} → List X → Option X → List X → Type 0
Takes old (Some x) new = old ≡ x ∷ new
Takes old None new = (old ≡ []) × (new ≡ [])

-- the title of a part, and of the one after it
abbrev pub title_of : Part → List (List ℕ)
title_of Precedence = precedence_title
title_of Requests = requests_title

abbrev pub next_title : Part → List (List ℕ)
next_title Precedence = requests_title
next_title Requests = availabilities_title

-- whether a line has a mark
abbrev pub has_mark : Mark → Line → Bool
has_mark (Title part) = has_words (title_of part)
has_mark (End part) = ends_part (next_title part)

-- the words of a line in a part
abbrev pub words_in_part : Part → Line → List Word
words_in_part Precedence = words_of
words_in_part Requests = words_between_rules

-- the first line is taken off, unless it has the mark or there is none
abbrev pub TakesBefore : (Line → Bool) → List Line → Option Line → List Line → Type 0
TakesBefore mark old (Some line) new =
    (before_first mark old ≡ line ∷ before_first mark new) × (from_first mark old ≡ from_first mark new) ×
    (old ≡ line ∷ new)
TakesBefore mark old None new = (before_first mark old ≡ []) × (from_first mark old ≡ new) × (new ≡ old)

-- the stream of a part: the number of its title line, the words still to come, and the lines after the part
pub record Words : Type 0 where
  pub title : ℕ
  pub words : List Word
  pub after : List Line

-- what is left of a part that has some words left and then these lines
abbrev pub stream_of : Part → ℕ → List Word → List Line → Words
stream_of part title words lines = record {
  title = title;
  words = words ++ flat_map (words_in_part part) (before_first (has_mark (End part)) lines);
  after = from_first (has_mark (End part)) lines;
}

-- only the words of a stream change
abbrev pub IsSameStream : Words → Words → Type 0
IsSameStream old new = (new.title ≡ old.title) × (new.after ≡ old.after)

-- reading a whole stream answers a thing, which is kept like this
abbrev pub GivesAll : {X Y : Type 0} → (X → Y → Type 0) → Result X SmFault → Result Y SmFault → Type 0
GivesAll {X} {Y} keeps (Ok x) read = (y : Y) × (read ≡ Ok y) × keeps x y
GivesAll keeps (Err fault) read = read ≡ Err fault

-- the value of this line, if it has the key and none was kept before
abbrev pub kept_entry : Option Word → Bool → Word → Option Word
kept_entry (Some word) fits value = Some word
kept_entry None fits value = if fits then Some value else None

-- pairs of a job with each number that was read
abbrev pub with_each : ℕ → Result (List ℕ × List Word) SmFault → Result (List (ℕ × ℕ) × List Word) SmFault
with_each job (Ok read) = Ok (map (λ number. (job, number)) read.0, read.1)
with_each job (Err fault) = Err fault

-- this in place of what was read
abbrev pub map_ok : {X Y : Type 0} → Y → Result X SmFault → Result Y SmFault
map_ok y (Ok x) = Ok y
map_ok y (Err fault) = Err fault

-- the stream of a part whose title is the first of these lines; the heading after it is skipped
abbrev pub part_stream : Part → SmFaultKind → List Line → Result Words SmFault
part_stream part missing [] = Err (fault_at missing 0)
part_stream part missing (title ∷ lines) = Ok (stream_of part title.number [] (drop 1 lines))

-- a value after a line, if it was this before
abbrev pub noted : List (List ℕ) → Line → Option Word → Option Word
noted names line kept = kept_entry kept (has_key names line) (value_word line)

-- the values of the head after a line
abbrev pub after_line : Line → Entries → Entries
after_line line kept = record {
  projects = noted projects_key line kept.projects;
  jobs = noted jobs_key line kept.jobs;
  renewable = noted renewable_key line kept.renewable;
  nonrenewable = noted nonrenewable_key line kept.nonrenewable;
  doubly_constrained = noted doubly_constrained_key line kept.doubly_constrained;
}
