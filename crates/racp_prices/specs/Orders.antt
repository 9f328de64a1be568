-- What an order text is read as: the terms of an order, or why it is none. The text is TOML; the rules are tested in the
-- order in which they stand here.
use Rattle.std.specs.Prelude.{◌≡◌, ◌⊎◌, ℕ, ℤ, pos, negsuc, ◌+◌, ◌==◌, ◌&&◌, Bool, true, min, List, [], ◌∷◌, length, map, replicate, Option, Some, None, Result, Ok, Err, is_some, nat_le, if◌then◌else◌, codes, IsUtf8, bytes_eq, unwrap_or}
use Rattle.racp_model.specs.Limits.{latest_time, most_units}
use Rattle.std.specs.List.{list_any}
use Rattle.toml.specs.Data.{Data, integer, array, Items, no_items, item, Members, no_members, member, get_member, as_integer}
use Rattle.toml.specs.Parse.{parse_document}
use Rattle.racp_model.specs.Project.{Project}
use Rattle.racp_model.specs.Terms.{Terms, AreTermsOf}
use Rattle.racp_model.specs.Steps.{◌>>=◌}
use Rattle.racp_prices.specs.declared.fault.OrderFault.{OrderFault}
use Rattle.racp_prices.specs.declared.fault.OrderFault.TheVariants.{NotToml, Missing, Unknown, NotWhole, Range, Count, Memory, Version as WrongVersion}
use Rattle.racp_prices.specs.declared.version.Version.{Version}
use Rattle.racp_prices.specs.declared.version.Version.TheVariants.{First, Second}

-- a whole number
abbrev pub whole : Data → Result ℤ OrderFault
whole (integer number) = Ok number
whole _ = Err NotWhole

-- a whole number from 0 to the most there may be
abbrev pub within : ℕ → ℤ → Result ℕ OrderFault
within most (pos number) = if nat_le number most then Ok number else Err Range
within most (negsuc number) = Err Range

-- an array
abbrev pub array_of : Data → Result Items OrderFault
array_of (array items) = Ok items
array_of _ = Err NotWhole

-- whether the items are whole numbers alone
unfoldable pub are_whole : Items → Bool
are_whole no_items = true
are_whole (item value rest) = is_some (as_integer value) && are_whole rest

-- how many items there are
unfoldable pub count_of : Items → ℕ
count_of no_items = 0
count_of (item value rest) = 1 + count_of rest

-- the whole number that stands for a value
unfoldable pub number_of : ℕ → Data → Result ℕ OrderFault
number_of most value = do
  number ← whole value
  within most number

-- items that are whole numbers alone
unfoldable pub whole_items : Items → Result Items OrderFault
whole_items items = if are_whole items then Ok items else Err NotWhole

-- as many items as there have to be
unfoldable pub counted_items : ℕ → Items → Result Items OrderFault
counted_items count items = if count_of items == count then Ok items else Err Count

-- the whole numbers that stand for items, each from 0 to the most there may be
unfoldable pub all_within : ℕ → Items → Result (List ℕ) OrderFault
all_within most no_items = Ok []
all_within most (item value rest) = do
  number ← number_of most value
  numbers ← all_within most rest
  Ok (number ∷ numbers)

-- the whole numbers of an array: this many, each from 0 to the most there may be
unfoldable pub numbers_of : ℕ → ℕ → Data → Result (List ℕ) OrderFault
numbers_of count most value = do
  items ← array_of value
  wholes ← whole_items items
  counted ← counted_items count wholes
  all_within most counted

-- the same if the key is there
unfoldable pub optional_numbers : ℕ → ℕ → Option Data → Result (Option (List ℕ)) OrderFault
optional_numbers count most None = Ok None
optional_numbers count most (Some value) = do
  numbers ← numbers_of count most value
  Ok (Some numbers)

-- the version: the first if no key says it, and else the second, by the number 2
abbrev pub numbered_version : ℤ → Result Version OrderFault
numbered_version (pos number) = if number == 2 then Ok Second else Err WrongVersion
numbered_version (negsuc number) = Err WrongVersion

unfoldable pub version_of : Option Data → Result Version OrderFault
version_of None = Ok First
version_of (Some value) = do
  number ← whole value
  numbered_version number

-- the keys that every order has
abbrev pub plain_keys : List (List ℕ)
plain_keys = codes "deadline" ∷ (codes "prices" ∷ [])

-- the keys that an order of a version may have
abbrev pub keys_of : Version → List (List ℕ)
keys_of First = plain_keys
keys_of Second = codes "version" ∷ (codes "owned" ∷ (codes "ceiling" ∷ (codes "release" ∷ (codes "due" ∷ plain_keys))))

-- whether a table has no other keys than these
unfoldable pub has_only : List (List ℕ) → Members → Bool
has_only known no_members = true
has_only known (member key value rest) = list_any (bytes_eq key) known && has_only known rest

-- a value that has to be there
abbrev pub required : Option Data → Result Data OrderFault
required None = Err Missing
required (Some value) = Ok value

-- no other keys are there
unfoldable pub known_keys : Version → Members → Result Members OrderFault
known_keys version table = if has_only (keys_of version) table then Ok table else Err Unknown

-- the order that a table is, for this many resources and jobs: without `owned` no unit is owned, without `ceiling` there may be
-- any number of units, without `release` each job may start at 0, and without `due` each has to end by the deadline alone
unfoldable pub order_of : ℕ → ℕ → Members → Result Terms OrderFault
order_of resources jobs table = do
  version ← version_of (get_member (codes "version") table)
  deadline_value ← required (get_member (codes "deadline") table)
  price_values ← required (get_member (codes "prices") table)
  known ← known_keys version table
  deadline ← number_of latest_time deadline_value
  prices ← numbers_of resources 1000000 price_values
  owned ← optional_numbers resources most_units (get_member (codes "owned") known)
  ceilings ← optional_numbers resources most_units (get_member (codes "ceiling") known)
  release ← optional_numbers jobs latest_time (get_member (codes "release") known)
  due ← optional_numbers jobs latest_time (get_member (codes "due") known)
  Ok (record {
    deadline = deadline;
    prices = prices;
    owned = unwrap_or owned (replicate resources 0);
    ceilings = ceilings;
    release = unwrap_or release (replicate jobs 0);
    due = map (min deadline) (unwrap_or due (replicate jobs deadline));
  })

-- what a text is as TOML: a table, or none if it is not UTF-8 or not TOML
abbrev pub IsToml : List ℕ → Option Members → Type 0
IsToml text (Some table) = IsUtf8 text × (parse_document text ≡ Some table)
IsToml text None = IsUtf8 text → parse_document text ≡ None

-- the order that the table of a text is
abbrev pub order_in : ℕ → ℕ → Option Members → Result Terms OrderFault
order_in resources jobs None = Err NotToml
order_in resources jobs (Some table) = order_of resources jobs table

-- what a text is read as: the terms of an order, for this many resources and jobs, or the first rule that it breaks
abbrev pub IsOrder : ℕ → ℕ → List ℕ → Result Terms OrderFault → Type 0
IsOrder resources jobs text answer = (table : Option Members) × IsToml text table ×
    (answer ≡ order_in resources jobs table)

-- the same, unless the text is UTF-8 and memory ran out
abbrev pub IsOrderOrMemory : ℕ → ℕ → List ℕ → Result Terms OrderFault → Type 0
IsOrderOrMemory resources jobs text (Ok terms) = IsOrder resources jobs text (Ok terms)
IsOrderOrMemory resources jobs text (Err fault) = IsOrder resources jobs text (Err fault) ⊎
    (IsUtf8 text × (fault ≡ Memory))

-- the terms are those of each project with this many resources and jobs
abbrev pub FitEachProject : ℕ → ℕ → Terms → Type 0
FitEachProject resources jobs terms = (p : Project) → p.resources ≡ resources → length p.jobs ≡ jobs →
    AreTermsOf p terms
