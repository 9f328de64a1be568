-- What all items or all keys of a table are, against the tests of the definitions.
use Rattle.std.proofs.Common.{◌≡◌, ◌≢◌, refl, ℕ, Bool, true, false, IsTrue, All, List, [], ◌∷◌, length, is_some, bytes_eq, string_bytes, String, Global, Ok, Err, arith}
use Rattle.std.specs.List.{list_any}
use Rattle.std.specs.Map.{keys_of as keys_in}
use Rattle.std.proofs.lemmas.Bool.{and_parts, cond-true, cond-false, ne_eqb, eq-eqb}
use Rattle.std.proofs.lemmas.List.Elements.{All-cons, All-head, All-tail}
use Rattle.toml.specs.Data.{as_integer}
use Rattle.toml.specs.View.{view, items_view, members_view}
use Rattle.toml.specs.declared.value.Value.{Value}
use Rattle.racp_prices.specs.Orders.{are_whole, whole_items, counted_items, has_only, keys_of, known_keys}
use Rattle.racp_prices.specs.declared.fault.OrderFault.TheVariants.{NotWhole, Count, Unknown}
use Rattle.racp_prices.specs.declared.version.Version.{Version}
use Rattle.racp_prices.proofs.Lists.{count_values}

-- the value is a whole number
abbrev pub IsWhole : Value → Type 0
IsWhole value = IsTrue (is_some (as_integer (view value)))

whole_from : (values : List Value) → All IsWhole values → are_whole (items_view values) ≡ true
unfolding are_whole
whole_from [] h = refl
whole_from (value ∷ values) h = rw (All-head IsWhole value values h, whole_from values (All-tail IsWhole value values h))

whole_to : (values : List Value) → are_whole (items_view values) ≡ true → All IsWhole values
unfolding are_whole
whole_to [] h = λ k d l. absurd (omega (arith, l))
whole_to (value ∷ values) h =
    let (first, rest) = and_parts (is_some (as_integer (view value))) (are_whole (items_view values)) h in
    All-cons IsWhole value values first (whole_to values rest)

pub whole_ok : (values : List Value) → All IsWhole values → whole_items (items_view values) ≡ Ok (items_view values)
unfolding whole_items
whole_ok values h = rw (whole_from values h)

pub whole_err : (values : List Value) → (All IsWhole values → ⊥) → whole_items (items_view values) ≡ Err NotWhole
unfolding whole_items
whole_err values h = decided (are_whole (items_view values)) refl
  where
    decided : (b : Bool) → are_whole (items_view values) ≡ b → whole_items (items_view values) ≡ Err NotWhole
    decided true e = absurd (h (whole_to values e))
    decided false e = rw e

-- an order of the version may have this key
abbrev pub IsKnown : Version → String Global → Type 0
IsKnown version key = IsTrue (list_any (bytes_eq (string_bytes key)) (keys_of version))

known_from : (version : Version) (es : List (String Global × Value)) → All (IsKnown version) (keys_in es) → has_only (keys_of version) (members_view es) ≡ true
unfolding has_only
known_from version [] h = refl
known_from version (e ∷ es) h = rw (All-head (IsKnown version) e.0 (keys_in es) h, known_from version es (All-tail (IsKnown version) e.0 (keys_in es) h))

known_to : (version : Version) (es : List (String Global × Value)) → has_only (keys_of version) (members_view es) ≡ true → All (IsKnown version) (keys_in es)
unfolding has_only
known_to version [] h = λ k d l. absurd (omega (arith, l))
known_to version (e ∷ es) h =
    let (first, rest) = and_parts (list_any (bytes_eq (string_bytes e.0)) (keys_of version)) (has_only (keys_of version) (members_view es)) h in
    All-cons (IsKnown version) e.0 (keys_in es) first (known_to version es rest)

pub known_ok : (version : Version) (es : List (String Global × Value)) → All (IsKnown version) (keys_in es) → known_keys version (members_view es) ≡ Ok (members_view es)
unfolding known_keys
known_ok version es h = rw (known_from version es h)

pub known_err : (version : Version) (es : List (String Global × Value)) → (All (IsKnown version) (keys_in es) → ⊥) → known_keys version (members_view es) ≡ Err Unknown
unfolding known_keys
known_err version es h = decided (has_only (keys_of version) (members_view es)) refl
  where
    decided : (b : Bool) → has_only (keys_of version) (members_view es) ≡ b → known_keys version (members_view es) ≡ Err Unknown
    decided true e = absurd (h (known_to version es e))
    decided false e = rw e

pub count_ok : (values : List Value) (count : ℕ) → length values ≡ count → counted_items count (items_view values) ≡ Ok (items_view values)
unfolding counted_items
count_ok values count e = rw (count_values values) (cond-true _ _ _ (eq-eqb (length values) count e))

pub count_err : (values : List Value) (count : ℕ) → length values ≢ count → counted_items count (items_view values) ≡ Err Count
unfolding counted_items
count_err values count e = rw (count_values values) (cond-false _ _ _ (ne_eqb (length values) count e))
