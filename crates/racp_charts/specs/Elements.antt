-- Names and numbers on a page.
use Rattle.std.specs.Prelude.{ℕ, ◌+◌, ◌-◌, ◌==◌, Bool, List, [], ◌∷◌, ◌++◌, Option, Some, None, false, nat_lt, chars, codes, encode_utf8, if◌then◌else◌}
use Rattle.std.specs.Fmt.{decimal}
use Rattle.unicode_width.specs.Width.{str_width}
use Rattle.racp_show.specs.Labels.{cut}
use Rattle.racp_show.specs.declared.predecessor.Predecessor.{Predecessor}
use Rattle.racp_charts.specs.Texts.{◌⋅◌, escaped}

-- a word and a number
unfoldable pub numbered_text : List ℕ → ℕ → List ℕ
numbered_text word number = word ⋅ codes " " ⋅ decimal number

-- a name as HTML writes it, or a word and a number if there is none
abbrev pub name_text : Option (List ℕ) → List ℕ → ℕ → List ℕ
name_text (Some name) word number = escaped name
name_text None word number = numbered_text word number

-- the beginning of a name, and an ellipsis, which take so many columns
unfoldable pub cut_text : ℕ → List ℕ → List ℕ
cut_text most name = escaped (cut (most - 1) name) ⋅ encode_utf8 8230

-- a name, cut if it takes more columns
abbrev pub text_within : ℕ → List ℕ → List ℕ
text_within most name = if nat_lt most (str_width false (chars name)) then cut_text most name else escaped name

-- the same, or a word and a number if there is none
abbrev pub short_text : ℕ → Option (List ℕ) → List ℕ → ℕ → List ℕ
short_text most (Some name) word number = text_within most name
short_text most None word number = numbered_text word number

-- what a task waits for: the number of a task, and a lag if there is one
abbrev pub predecessor_text : Predecessor → List ℕ
predecessor_text predecessor =
    if predecessor.lag == 0 then decimal predecessor.job
    else decimal predecessor.job ⋅ codes "+" ⋅ decimal predecessor.lag

-- that at a place of some, with a comma before it unless it is the first
abbrev pub listed_predecessor : ℕ → Predecessor → List ℕ
listed_predecessor place predecessor =
    if place == 0 then predecessor_text predecessor else codes ", " ⋅ predecessor_text predecessor

-- those from a place on
abbrev pub predecessor_list : ℕ → List Predecessor → List ℕ
predecessor_list place [] = []
predecessor_list place (predecessor ∷ predecessors) =
    listed_predecessor place predecessor ++ predecessor_list (place + 1) predecessors

-- what the shape of a task is called: whether it is on the critical chain says its colour
abbrev pub shape_class : Bool → List ℕ
shape_class critical = if critical then codes "critical" else codes "bar"
