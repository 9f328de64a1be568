-- Words and numbers on a line.
use Rattle.std.specs.Prelude.{ℕ, ◌==◌, ◌&&◌, Bool, nat_le, if◌then◌else◌, List, Option, Some, None}
use Rattle.std.specs.List.{before_first, after_first}
use Rattle.racp_model.specs.Project.{place}
use Rattle.racp_text.specs.Numbers.{value}
use Rattle.racp_plan.specs.PlanReading.{is_decimal}

-- reading goes on with what was read, or ends with nothing
infixl 10 ◌>>=◌
abbrev pub ◌>>=◌ : {A B : Type 0} → Option A → (A → Option B) → Option B
(Some x) >>= next = next x
None >>= next = None

-- the greatest number of a text
abbrev pub most_number : ℕ
most_number = 1000000000000000

abbrev pub is_blank : ℕ → Bool
is_blank b = b == 32

-- what stands before the first blank, and what behind it
unfoldable pub first_word : List ℕ → List ℕ
first_word bytes = before_first is_blank bytes

unfoldable pub behind_word : List ℕ → List ℕ
behind_word bytes = after_first is_blank bytes

-- the number that a word is: decimal, without leading zeros
unfoldable pub number_of : List ℕ → Option ℕ
number_of word = if is_decimal word && nat_le (value word) most_number then Some (value word) else None

-- the place of one of so many things that a number names
unfoldable pub place_of : ℕ → List ℕ → Option ℕ
place_of count word = do
  n ← number_of word
  if nat_le 1 n && nat_le n count then Some (place n) else None
