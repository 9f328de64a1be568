-- Words up to a blank; numbers up to the greatest, from numbers that are capped.
use Rattle.std.proofs.Common.{◌≡◌, sym, ◌∙◌, ap, ℕ, ◌+◌, ◌-◌, ◌<◌, ◌≤◌, true, List, [], length, take, drop, arith, rules}
use Rattle.std.specs.Prelude.{Some, None, ◌&&◌, nat_le, if◌then◌else◌}
use Rattle.std.specs.List.{position_or_len}
use Rattle.std.proofs.lemmas.List.{take_all, drop_all}
use Rattle.std.proofs.lemmas.Bool.{le-leb}
use Rattle.racp_text.specs.Numbers.{IsCapped, value}
use Rattle.racp_plan.specs.PlanReading.{is_decimal}
use Rattle.racp_derivations.specs.Words.{most_number, number_of, is_blank, first_word, behind_word}

-- no number
pub number-none : (word : List ℕ) → IsCapped is_decimal word None → number_of word ≡ None
unfolding number_of
number-none word h = ap (λ b. if b && nat_le (value word) most_number then Some (value word) else None) h

-- one up to the greatest
pub number-some : (word : List ℕ) (n : ℕ) → IsCapped is_decimal word (Some n) → n ≤ most_number → number_of word ≡ Some n
unfolding number_of
number-some word n h small =
    let same : value word ≡ n = omega (arith, h.1, small) in
    let fits : nat_le (value word) most_number ≡ true = le-leb (value word) most_number (omega (arith, same, small)) in
    ap (λ b. if b && nat_le (value word) most_number then Some (value word) else None) h.0
    ∙ (ap (λ b. if b then Some (value word) else None) fits ∙ ap Some same)

-- one above it
pub number-great : (word : List ℕ) (n : ℕ) → IsCapped is_decimal word (Some n) → most_number < n → number_of word ≡ None
unfolding number_of
number-great word n h great =
    let above : most_number < value word = omega (arith, h.1, great) in
    ap (λ b. if b && nat_le (value word) most_number then Some (value word) else None) h.0 ∙ (search rules)

-- without a blank the word is the whole, and nothing stands behind it
pub word-whole : (bytes : List ℕ) → position_or_len is_blank bytes ≡ length bytes → bytes ≡ first_word bytes
unfolding first_word
word-whole bytes none = sym (take_all (position_or_len is_blank bytes) bytes (omega (arith, none)))

take-none : (n : ℕ) (xs : List ℕ) → n ≡ 0 → take n xs ≡ []
take-none n xs e = ap (λ m. take m xs) e

pub nothing-behind : (bytes : List ℕ) → position_or_len is_blank bytes ≡ length bytes → take (length bytes - length bytes) (drop (length bytes) bytes) ≡ behind_word bytes
unfolding behind_word
nothing-behind bytes none =
    take-none (length bytes - length bytes) (drop (length bytes) bytes) (omega arith) ∙ sym (drop_all (position_or_len is_blank bytes + 1) bytes (omega (arith, none)))
