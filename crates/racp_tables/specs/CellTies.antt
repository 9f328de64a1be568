-- The ties that the cells of rows say.
use Rattle.std.specs.Prelude.{◌≡◌, ℕ, ◌+◌, ◌==◌, Bool, not, if◌then◌else◌, List, [], ◌∷◌, ◌++◌, map, filter, length, chars, encode_utf8_all, string_bytes, option_map, Option, Some, None}
use Rattle.std.specs.Char.{is_whitespace}
use Rattle.std.specs.Str.{trim}
use Rattle.racp_links.specs.declared.link.LinkKind.TheVariants.{FinishToStart}
use Rattle.racp_tables.specs.LinkWords.{link_said, without_lag}
use Rattle.racp_tables.specs.Called.{is_in_range, range_named, task_named}
use Rattle.racp_tables.specs.Pieces.{between}
use Rattle.racp_tables.specs.declared.link_words.Word.{Word}
use Rattle.racp_tables.specs.declared.link_words.Word.TheVariants as word
use Rattle.racp_tables.specs.declared.named.Named.{Named}
use Rattle.racp_tables.specs.declared.named.Named.TheVariants as task
use Rattle.racp_tables.specs.declared.reading.Scale.{Scale}
use Rattle.racp_tables.specs.declared.row.Row.{Row}
use Rattle.racp_tables.specs.declared.ties.Tie.{Tie}
use Rattle.racp_tables.specs.declared.ties.Ties.{Ties}

-- the ties of words one after another, if each of them says some
abbrev pub all_ties : List (Option (List Tie)) → Option (List Tie)
all_ties [] = Some []
all_ties (None ∷ more) = None
all_ties (Some ties ∷ more) = option_map (λ rest. ties ++ rest) (all_ties more)

-- ties to the tasks of a range of rows, of which the first stands at a place, from the end of each
abbrev pub range_ties_from : ℕ → List Row → ℕ × ℕ → List Tie
range_ties_from place [] range = []
range_ties_from place (row ∷ rows) range =
    if is_in_range range row then without_lag place FinishToStart ∷ range_ties_from (place + 1) rows range else range_ties_from (place + 1) rows range

abbrev pub range_ties : List Row → ℕ × ℕ → List Tie
range_ties rows range = range_ties_from 0 rows range

-- a text with one blank in place of each letter that is one
abbrev pub one_blank : List ℕ → List ℕ
one_blank text = encode_utf8_all (map (λ letter. if is_whitespace letter then 32 else letter) (chars text))

-- whether there is some text; the words between blanks
abbrev pub is_some_text : List ℕ → Bool
is_some_text part = not (length part == 0)

abbrev pub blank_words : List ℕ → List (List ℕ)
blank_words text = filter is_some_text (between 32 (one_blank text))

-- ties, and behind them those that are said
abbrev pub behind : List Tie → Option (List Tie) → Option (List Tie)
behind ties said = option_map (λ more. ties ++ more) said

-- the tie of a word that says one
abbrev pub tie_said : Word → Option (List Tie)
tie_said (word.Tie tie) = Some (tie ∷ [])
tie_said (word.Lead place) = None
tie_said word.Several = None
tie_said word.None = None

-- the tie of a part of a word
abbrev pub single_tie : List Row → Scale → List ℕ → Option (List Tie)
single_tie rows scale part = tie_said (link_said rows scale part)

-- the ties to the tasks of a range, or else those of words between blanks
abbrev pub range_or : List Row → Scale → List ℕ → Option (ℕ × ℕ) → Option (List Tie)
range_or rows scale text (Some range) = Some (range_ties rows range)
range_or rows scale text None = all_ties (map (single_tie rows scale) (blank_words text))

-- the tie of a word that says one, or else those of its parts
abbrev pub tie_or : Word → Option (List Tie) → Option (List Tie)
tie_or (word.Tie tie) other = Some (tie ∷ [])
tie_or (word.Lead place) other = None
tie_or word.Several other = None
tie_or word.None other = other

-- the ties that a word says: one, a range of them, or those of words between blanks
abbrev pub word_ties : List Row → Scale → List ℕ → Option (List Tie)
word_ties rows scale text = if length text == 0 then Some [] else tie_or (link_said rows scale text) (range_or rows scale text (range_named rows text))

-- the same without the blanks around it; the ties of the words between commas
abbrev pub trimmed_ties : List Row → Scale → List ℕ → Option (List Tie)
trimmed_ties rows scale text = word_ties rows scale (trim text)

abbrev pub part_ties : List Row → Scale → List ℕ → Option (List Tie)
part_ties rows scale part = all_ties (map (trimmed_ties rows scale) (between 44 part))

abbrev pub task_or_words : List Row → Scale → List ℕ → Named → Option (List Tie)
task_or_words rows scale cell (task.One place) = Some (without_lag place FinishToStart ∷ [])
task_or_words rows scale cell task.Several = all_ties (map (part_ties rows scale) (between 59 cell))
task_or_words rows scale cell task.None = all_ties (map (part_ties rows scale) (between 59 cell))

-- the ties that a cell says: it is the name of a task, or it has words between commas and semicolons
abbrev pub cell_ties : List Row → Scale → List ℕ → Option (List Tie)
cell_ties rows scale cell = task_or_words rows scale cell (task_named rows cell)

-- the ties that the two cells of a row say
abbrev pub ties_said : List Row → Scale → Row → Option (List Tie) × Option (List Tie)
ties_said rows scale row = (cell_ties rows scale (string_bytes row.predecessors), cell_ties rows scale (string_bytes row.successors))

abbrev pub ties_read : Ties → Option (List Tie) × Option (List Tie)
ties_read ties = (Some ties.before.items, Some ties.after.items)

-- the ties of rows are those that their cells say
abbrev pub AreTiesOf : List Row → Scale → List Ties → Type 0
AreTiesOf rows scale ties = map (ties_said rows scale) rows ≡ map ties_read ties
