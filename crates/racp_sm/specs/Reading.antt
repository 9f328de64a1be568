-- What a network text is read as (a profile of the single-mode .sm files of the PSPLIB library, Kolisch and Sprecher
-- 1997).
use Rattle.std.specs.Prelude.{◌≡◌, ◌⊎◌, ℕ, ◌==◌, ◌||◌, Bool, false, List, [], ◌∷◌, drop, flat_map, Result, Ok, Err, if◌then◌else◌, codes}
use Rattle.std.specs.List.{list_all, before_first, position_or_len}
use Rattle.racp_model.specs.Project.{Activity, Project, IsSound}
use Rattle.racp_model.specs.Path.{HasRing}
use Rattle.racp_model.specs.Made.{IsSameProject}
use Rattle.racp_sm.specs.Lines.{Line, Word, lines_of, words_in, words_of, has_words}
use Rattle.racp_sm.specs.Head.{entries_of, counts_of}
use Rattle.racp_sm.specs.Parts.{arcs_of, jobs_of}
use Rattle.racp_model.specs.Steps.{◌>>=◌}
use Rattle.racp_text.specs.Faults.{refused, fault_at}
use Rattle.racp_sm.specs.Faults.{out_of_memory, SmFault}
use Rattle.racp_sm.specs.declared.fault.SmFaultKind.TheVariants.{NoPrecedence, NoRequests, Cycle}

-- the title lines
abbrev pub precedence_title : List (List ℕ)
precedence_title = codes "PRECEDENCE" ∷ (codes "RELATIONS:" ∷ [])

abbrev pub requests_title : List (List ℕ)
requests_title = codes "REQUESTS/DURATIONS:" ∷ []

abbrev pub availabilities_title : List (List ℕ)
availabilities_title = codes "RESOURCEAVAILABILITIES:" ∷ []

-- the lines from the first on that passes a test
abbrev pub from_first : (Line → Bool) → List Line → List Line
from_first test lines = drop (position_or_len test lines) lines

-- whether the first of some words begins with a star
abbrev pub has_star : List (List ℕ) → Bool
has_star [] = false
has_star ([] ∷ words) = false
has_star ((letter ∷ letters) ∷ words) = letter == 42

-- whether a part ends before this line: at a line of stars, or at the next title
abbrev pub ends_part : List (List ℕ) → Line → Bool
ends_part next line = has_star (words_in line.bytes) || has_words next line

-- whether the line is a rule: one word, of dashes alone
abbrev pub is_one_of_dashes : List (List ℕ) → Bool
is_one_of_dashes [] = false
is_one_of_dashes (word ∷ []) = list_all (λ letter. letter == 45) word
is_one_of_dashes (word ∷ (other ∷ words)) = false

abbrev pub is_rule : Line → Bool
is_rule line = is_one_of_dashes (words_in line.bytes)

-- the words of a line in the requests part, where rules are skipped
abbrev pub words_between_rules : Line → List Word
words_between_rules line = if is_rule line then [] else words_of line

-- the precedence part of n jobs, from its title on: its pairs, and the lines after it; the line after the title is a
-- heading
unfoldable pub precedence_part : ℕ → List Line → Result (List (ℕ × ℕ) × List Line) SmFault
precedence_part n [] = refused NoPrecedence 0
precedence_part n (title ∷ lines) = do
  arcs ← arcs_of title.number n (flat_map words_of (before_first (ends_part requests_title) (drop 1 lines)))
  Ok (arcs, from_first (ends_part requests_title) (drop 1 lines))

-- the requests part, from its title on: the jobs; the line after the title is a heading
unfoldable pub requests_part : ℕ → ℕ → List Line → Result (List Activity) SmFault
requests_part resources n [] = refused NoRequests 0
requests_part resources n (title ∷ lines) =
    jobs_of title.number resources n
    (flat_map words_between_rules (before_first (ends_part availabilities_title) (drop 1 lines)))

-- what the text says: a project, or the first fault
unfoldable pub reading : List ℕ → Result Project SmFault
reading text = do
  counts ← counts_of (entries_of (before_first (has_words precedence_title) (lines_of text)))
  arcs ← precedence_part counts.jobs (from_first (has_words precedence_title) (lines_of text))
  jobs ← requests_part counts.resources counts.jobs (from_first (has_words requests_title) arcs.1)
  Ok (record { resources = counts.resources; jobs = jobs; arcs = arcs.0 })

-- what a text is read as: the network of what it says, if no job waits for itself, or the first fault, a ring being
-- the last
abbrev pub IsReading : List ℕ → Result Project SmFault → Type 0
IsReading text (Ok network) =
    (project : Project) × (reading text ≡ Ok project) × IsSameProject project network × IsSound network
IsReading text (Err fault) =
    (reading text ≡ Err fault)
    ⊎ ((project : Project) × (reading text ≡ Ok project) × HasRing project × (fault ≡ fault_at Cycle 0))

-- the same, unless the text says a project and memory ran out
abbrev pub IsReadingOrMemory : List ℕ → Result Project SmFault → Type 0
IsReadingOrMemory text (Ok network) = IsReading text (Ok network)
IsReadingOrMemory text (Err fault) =
    IsReading text (Err fault) ⊎ ((project : Project) × (reading text ≡ Ok project) × (fault ≡ out_of_memory))
