-- How the letters of names are written.
use Rattle.std.specs.Prelude.{ℕ, ◌==◌, ◌||◌, ◌∷◌, ◌++◌, Bool, List, [], chars, encode_utf8, flat_map, if◌then◌else◌}
use Rattle.racp_export.specs.declared.letters.Letters.{Letters}
use Rattle.racp_export.specs.declared.letters.Letters.TheVariants.{Events, Markdown, Digits, TaskJuggler}

-- a backslash, a semicolon and a comma mean something else than themselves in a text of iCalendar
abbrev pub is_event_mark : ℕ → Bool
is_event_mark letter = letter == 92 || letter == 59 || letter == 44

-- so may in Markdown \ | * _ ` ~ and [ ] < > &
abbrev pub is_span_mark : ℕ → Bool
is_span_mark letter = letter == 92 || letter == 124 || letter == 42 || letter == 95 || letter == 96 || letter == 126

abbrev pub is_link_mark : ℕ → Bool
is_link_mark letter = letter == 91 || letter == 93 || letter == 60 || letter == 62 || letter == 38

abbrev pub is_markdown_mark : ℕ → Bool
is_markdown_mark letter = is_span_mark letter || is_link_mark letter

-- a letter, with a backslash before it if it is a mark
abbrev pub marked : Bool → ℕ → List ℕ
marked mark letter = if mark then 92 ∷ encode_utf8 letter else encode_utf8 letter

-- a letter unless it is left out
abbrev pub unless : Bool → ℕ → List ℕ
unless out letter = if out then [] else encode_utf8 letter

-- in TaskJuggler a backslash or a dollar sign means something else before some letters, so a blank stands behind it
abbrev pub is_juggler_mark : ℕ → Bool
is_juggler_mark letter = letter == 92 || letter == 36

abbrev pub juggled : ℕ → List ℕ
juggled letter = if is_juggler_mark letter then encode_utf8 letter ++ 32 ∷ [] else marked (letter == 34) letter

-- what stands for a letter: in iCalendar and in Markdown what is read as that letter; nothing for a hyphen of a date;
-- and in TaskJuggler what is read as that letter, but for the blank
abbrev pub letter_text : Letters → ℕ → List ℕ
letter_text Events letter = marked (is_event_mark letter) letter
letter_text Markdown letter = marked (is_markdown_mark letter) letter
letter_text Digits letter = unless (letter == 45) letter
letter_text TaskJuggler letter = juggled letter

-- a text, written with these letters
unfoldable pub spelled : Letters → List ℕ → List ℕ
spelled letters text = flat_map (letter_text letters) (chars text)
