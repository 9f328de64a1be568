-- Texts that are cut at a letter.
use Rattle.std.proofs.Common.{◌≡◌, refl, ap, ℕ, ◌+◌, ◌-◌, ◌<◌, ◌≤◌, Bool, true, false, cond, ltb, List, length, take, drop, get_or, Option, Some, None, MatchOption, option_map, Bor, inl, inr, arith}
use Rattle.std.specs.List.{suffix_len}
use Rattle.std.proofs.lemmas.Bool.{cases_lt}
use Rattle.std.proofs.lemmas.List.Sums.{suffix_len-take_no}
use borrow.Author.Tests.{lt-ltb, le-ltb}

-- where a letter stands at a place, and what stands around it
pub parts_are : (at many : ℕ) (front back : List ℕ) (r : Option (Bor (List ℕ) × Bor (List ℕ))) →
    MatchOption r (at ≡ many) (λ x. (at < many) × (x.0.now ≡ front) × (x.1.now ≡ back)) →
    option_map {U = List ℕ × List ℕ} (λ (x : Bor (List ℕ) × Bor (List ℕ)). (x.0.now, x.1.now)) r ≡ cond (ltb at many) (Some (front, back)) None
parts_are at many front back None same =
    let no : ltb at many ≡ false = le-ltb at many (omega (arith, same)) in
    rw no refl
parts_are at many front back (Some x) found =
    let yes : ltb at many ≡ true = lt-ltb at many found.0 in
    rw (yes, ← found.1, ← found.2) refl

-- where a text ends that is trimmed letter by letter
pub end_is : (p : ℕ → Bool) (text : List ℕ) (n : ℕ) → n ≤ length text → n + suffix_len p text ≡ length text + suffix_len p (take n text) →
    (0 < n → p (get_or text (n - 1) 0) ≡ false) → n + suffix_len p text ≡ length text
end_is p text n within count stops =
    elim (cases_lt 0 n) [
      | inl some ↦
          let none : suffix_len p (take n text) ≡ 0 = suffix_len-take_no p text n 0 some within (stops some) in
          omega (arith, count, none)
      | inr few ↦
          let zero_is : n ≡ 0 = omega (arith, few) in
          let none : suffix_len p (take n text) ≡ 0 = ap (λ (m : ℕ). suffix_len p (take m text)) zero_is in
          omega (arith, count, none)
    ]

-- the text up to there
pub front_is : (p : ℕ → Bool) (text : List ℕ) (n : ℕ) → n + suffix_len p text ≡ length text → take n text ≡ take (length text - suffix_len p text) text
front_is p text n count =
    let same : n ≡ length text - suffix_len p text = omega (arith, count) in
    ap (λ (m : ℕ). take m text) same

-- the parts around the last letter
pub last_parts : (text : List ℕ) (after end : ℕ) → end + after ≡ length text → 0 < end →
    ◌≡◌ {A = Option (List ℕ × List ℕ)} (Some (take (end - 1) text, drop end text))
    (cond (ltb after (length text)) (Some (take (length text - after - 1) text, drop (length text - after) text)) None)
last_parts text after end count some =
    let yes : ltb after (length text) ≡ true = lt-ltb after (length text) (omega (arith, count)) in
    let same : length text - after ≡ end = omega (arith, count) in
    rw (yes, same) refl
