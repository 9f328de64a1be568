-- Decimal numbers, in billionths, and the deadlines that they make.
use Rattle.std.specs.Prelude.{ℕ, ◌+◌, ◌-◌, ◌*◌, ◌/◌, ◌^◌, ◌==◌, ◌&&◌, Bool, List, length, Option, Some, None, nat_le, nat_lt, option_map, if◌then◌else◌}
use Rattle.std.specs.List.{position_or_len, before_first, after_first}
use Rattle.racp_model.specs.Limits.{latest_time}
use Rattle.racp_text.specs.Numbers.{is_number, value}

-- the number that one to nine decimal digits are
unfoldable pub short_number : List ℕ → Option ℕ
short_number digits = if is_number digits && nat_le (length digits) 9 then Some (value digits) else None

-- the billionths of what stands before the point
abbrev pub whole_billionths : List ℕ → Option ℕ
whole_billionths digits = option_map (λ number. number * 1000000000) (short_number digits)

-- the billionths of what stands after the point, where the first digit counts tenths
abbrev pub part_billionths : List ℕ → Option ℕ
part_billionths digits = option_map (λ number. number * 10 ^ (9 - length digits)) (short_number digits)

-- the sum of two numbers, if there are both
abbrev pub sum_of : Option ℕ → Option ℕ → Option ℕ
sum_of (Some x) (Some y) = Some (x + y)
sum_of _ _ = None

abbrev pub is_point : ℕ → Bool
is_point b = b == 46

-- the billionths of the decimal number that a word is: digits, or digits, a point and digits, one to nine of each; none
-- if it is anything else
unfoldable pub billionths_of : List ℕ → Option ℕ
billionths_of word =
    if nat_lt (position_or_len is_point word) (length word)
    then sum_of (whole_billionths (before_first is_point word)) (part_billionths (after_first is_point word))
    else whole_billionths word

-- the time, if a deadline may be as late
abbrev pub if_early : ℕ → Option ℕ
if_early time = if nat_le time latest_time then Some time else None

-- the whole part of this many billionths of a length, if a deadline may be as late
abbrev pub deadline_by : ℕ → ℕ → Option ℕ
deadline_by billionths critical = if_early (critical * billionths / 1000000000)
