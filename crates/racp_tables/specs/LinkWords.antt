-- What words say of links: a task, and then perhaps the letters of a kind, and a lag, as `3SS+2 days`.
use Rattle.std.specs.Prelude.{ℕ, ◌-◌, ◌==◌, Bool, true, false, not, ◌&&◌, ◌||◌, if◌then◌else◌, List, length, take, drop, codes, is_some, Option, Some, None}
use Rattle.std.specs.Str.{str_eq_ignore_ascii_case, trim}
use Rattle.racp_links.specs.declared.link.LinkKind.{LinkKind}
use Rattle.racp_links.specs.declared.link.LinkKind.TheVariants.{FinishToStart, StartToStart, FinishToFinish, StartToFinish}
use Rattle.racp_tables.specs.Called.{task_named}
use Rattle.racp_tables.specs.Pieces.{parts_at_last}
use Rattle.racp_tables.specs.Times.{time_said}
use Rattle.racp_tables.specs.declared.link_words.Word.{Word}
use Rattle.racp_tables.specs.declared.link_words.Word.TheVariants as word
use Rattle.racp_tables.specs.declared.named.Named.{Named}
use Rattle.racp_tables.specs.declared.named.Named.TheVariants as task
use Rattle.racp_tables.specs.declared.reading.Scale.{Scale}
use Rattle.racp_tables.specs.declared.row.Row.{Row}
use Rattle.racp_tables.specs.declared.ties.Tie.{Tie}

-- a tie of a kind without a lag
abbrev pub without_lag : ℕ → LinkKind → Tie
without_lag place kind = record { place = place; kind = kind; lag = 0 }

-- whether letters are one of two, large or small: an English word's or a German one's
abbrev pub is_either : List ℕ → List ℕ → List ℕ → Bool
is_either english german letters = str_eq_ignore_ascii_case letters english || str_eq_ignore_ascii_case letters german

-- the kind of link that letters stand for
abbrev pub kind_of : List ℕ → Option LinkKind
kind_of letters =
    if is_either (codes "FS") (codes "EA") letters then Some FinishToStart
    else (if is_either (codes "SS") (codes "AA") letters then Some StartToStart
    else (if is_either (codes "FF") (codes "EE") letters then Some FinishToFinish
    else (if is_either (codes "SF") (codes "AE") letters then Some StartToFinish else None)))

-- a link of a kind to the task that was named, or else something other
abbrev pub link_to : Named → LinkKind → Word → Word
link_to (task.One place) kind other = word.Tie (without_lag place kind)
link_to task.Several kind other = word.Several
link_to task.None kind other = other

-- a link to the task that is named before the letters of a kind
abbrev pub of_kind : List Row → List ℕ → Option LinkKind → Word
of_kind rows front (Some kind) = link_to (task_named rows front) kind word.None
of_kind rows front None = word.None

-- what a word that ends with two letters of a kind says
abbrev pub with_letters : List Row → List ℕ → Word
with_letters rows text = of_kind rows (trim (take (length text - 2) text)) (kind_of (drop (length text - 2) text))

-- what a word without a lag says: the name of a task, or one before the letters of a kind
abbrev pub kinded : List Row → List ℕ → Word
kinded rows text = link_to (task_named rows text) FinishToStart (with_letters rows text)

-- a link with this lag
abbrev pub lagged : Word → Option ℕ → Word
lagged (word.Tie tie) (Some lag) = word.Tie (record { place = tie.place; kind = tie.kind; lag = lag })
lagged (word.Lead place) (Some lag) = word.Lead place
lagged word.Several (Some lag) = word.Several
lagged word.None (Some lag) = word.None
lagged said None = word.None

-- a link before a plus sign, with the lag behind it; or else something other
abbrev pub lag_or : List Row → Scale → Option (List ℕ × List ℕ) → Word → Word
lag_or rows scale (Some parts) other = lagged (kinded rows (trim parts.0)) (time_said (trim parts.1) scale 10000)
lag_or rows scale None other = other

-- a link with a lead
abbrev pub led : Word → Word
led (word.Tie tie) = word.Lead tie.place
led (word.Lead place) = word.Lead place
led word.Several = word.Several
led word.None = word.None

abbrev pub is_one : Named → Bool
is_one (task.One place) = true
is_one task.Several = false
is_one task.None = false

-- a link before a minus sign with a time behind it, as 3FS-2; 3-2 is none
abbrev pub lead_said : List Row → Scale → Option (List ℕ × List ℕ) → Word
lead_said rows scale (Some parts) =
    if is_some (time_said (trim parts.1) scale 10000) && not (is_one (task_named rows (trim parts.0))) then led (kinded rows (trim parts.0)) else word.None
lead_said rows scale None = word.None

-- what is said, or else something other
abbrev pub said_or : Word → Word → Word
said_or (word.Tie tie) other = word.Tie tie
said_or (word.Lead place) other = word.Lead place
said_or word.Several other = word.Several
said_or word.None other = other

-- what a word says of a link
abbrev pub link_said : List Row → Scale → List ℕ → Word
link_said rows scale text =
    if length text == 0 then word.None
    else said_or (kinded rows text) (lag_or rows scale (parts_at_last 43 text) (lead_said rows scale (parts_at_last 45 text)))
