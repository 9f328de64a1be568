-- Contracts of private functions: tables with one more key, and their texts.
use Rattle.std.specs.Prelude.{◌≡◌, ◌≤◌, ℕ, List, Option, Some, None}
use Rattle.std.specs.Ordering.{nat_cmp, match_ordering}
use Rattle.std.specs.Cmp.Lexicographic.{slice_cmp}
use Rattle.toml.specs.Data.{Data, Members, no_members, member, members_depth}
use Rattle.toml.specs.Parse.{parse_document}

-- the table with this value at a key
unfoldable pub put : List ℕ → Data → Members → Members
put key value no_members = member key value no_members
put key value (member other old others) =
    match_ordering (slice_cmp nat_cmp key other) (member key value (member other old others)) (member other value others)
    (member other old (put key value others))

-- the same, if there is a value
abbrev pub put_optional : List ℕ → Option Data → Members → Members
put_optional key None table = table
put_optional key (Some value) table = put key value table

-- a table that is not too deep is read of its text
abbrev pub IsText : Members → List ℕ → Type 0
IsText table text = members_depth table ≤ 80 → parse_document text ≡ Some table
