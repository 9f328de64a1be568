-- The head of a network text: how many jobs and resources there are.
use Rattle.std.specs.Prelude.{ℕ, ◌==◌, ◌&&◌, Bool, true, false, List, [], ◌∷◌, Option, Some, None, Result, Ok, nat_le, if◌then◌else◌, codes}
use Rattle.std.specs.List.{before_first, after_first, list_any}
use Rattle.racp_text.specs.Numbers.{is_number, value}
use Rattle.racp_sm.specs.Lines.{Line, Word, words_in, is_word}
use Rattle.racp_model.specs.Steps.{◌>>=◌}
use Rattle.racp_text.specs.Faults.{refused}
use Rattle.racp_sm.specs.Faults.{SmFault}
use Rattle.racp_sm.specs.declared.fault.SmFaultKind.{SmFaultKind}
use Rattle.racp_sm.specs.declared.fault.SmFaultKind.TheVariants.{NoJobs, NoRenewable, ManyProjects, OtherResources, BadNumber, Limit}

abbrev pub is_colon : ℕ → Bool
is_colon b = b == 58

-- whether the words begin with these
abbrev pub begins_with : List (List ℕ) → List (List ℕ) → Bool
begins_with words [] = true
begins_with [] (name ∷ names) = false
begins_with (word ∷ words) (name ∷ names) = is_word word name && begins_with words names

-- whether the line has a colon, and what stands before the first one begins with these words
abbrev pub has_key : List (List ℕ) → Line → Bool
has_key names line = list_any is_colon line.bytes && begins_with (words_in (before_first is_colon line.bytes)) names

-- the first of some words, or no letters
abbrev pub first_or_empty : List (List ℕ) → List ℕ
first_or_empty [] = []
first_or_empty (word ∷ words) = word

-- the first word after the line's first colon; if there is none, a word without letters, which is no number
abbrev pub value_word : Line → Word
value_word line = record { line = line.number; bytes = first_or_empty (words_in (after_first is_colon line.bytes)) }

-- the value of the first line with this key
abbrev pub entry : List (List ℕ) → List Line → Option Word
entry names [] = None
entry names (line ∷ more) = if has_key names line then Some (value_word line) else entry names more

-- the number that a word stands for, if it is from low to high; else a fault at the word's line
abbrev pub number_within : SmFaultKind → ℕ → ℕ → Word → Result ℕ SmFault
number_within kind low high word =
    if is_number word.bytes
    then (if nat_le low (value word.bytes) && nat_le (value word.bytes) high
    then Ok (value word.bytes)
    else refused kind word.line)
    else refused BadNumber word.line

-- the number of an entry that has to be there
abbrev pub required : SmFaultKind → ℕ → ℕ → Option Word → Result ℕ SmFault
required missing low high None = refused missing 0
required missing low high (Some word) = number_within Limit low high word

-- an entry that may be missing, and else has this number
abbrev pub optional : SmFaultKind → ℕ → Option Word → Result ℕ SmFault
optional other wanted None = Ok wanted
optional other wanted (Some word) = number_within other wanted wanted word

-- the values of the head, if they are there: how many projects, jobs, and resources of each kind
pub record Entries : Type 0 where
  pub projects : Option Word
  pub jobs : Option Word
  pub renewable : Option Word
  pub nonrenewable : Option Word
  pub doubly_constrained : Option Word

-- their keys
abbrev pub projects_key : List (List ℕ)
projects_key = codes "projects" ∷ []

abbrev pub jobs_key : List (List ℕ)
jobs_key = codes "jobs" ∷ []

abbrev pub renewable_key : List (List ℕ)
renewable_key = codes "-" ∷ (codes "renewable" ∷ [])

abbrev pub nonrenewable_key : List (List ℕ)
nonrenewable_key = codes "-" ∷ (codes "nonrenewable" ∷ [])

abbrev pub doubly_constrained_key : List (List ℕ)
doubly_constrained_key = codes "-" ∷ (codes "doubly" ∷ (codes "constrained" ∷ []))

-- the values of the head's lines
abbrev pub entries_of : List Line → Entries
entries_of head = record {
  projects = entry projects_key head;
  jobs = entry jobs_key head;
  renewable = entry renewable_key head;
  nonrenewable = entry nonrenewable_key head;
  doubly_constrained = entry doubly_constrained_key head;
}

-- how many jobs and resources there are
pub record Counts : Type 0 where
  pub jobs : ℕ
  pub resources : ℕ

-- the counts that the head's values say
unfoldable pub counts_of : Entries → Result Counts SmFault
counts_of entries = do
  projects ← optional ManyProjects 1 entries.projects
  jobs ← required NoJobs 1 512 entries.jobs
  resources ← required NoRenewable 1 16 entries.renewable
  nonrenewable ← optional OtherResources 0 entries.nonrenewable
  doubly_constrained ← optional OtherResources 0 entries.doubly_constrained
  Ok (record { jobs = jobs; resources = resources })
