-- What is read of a line is what stands there.
use Rattle.std.proofs.Common.{◌≡◌, ◌∙◌, ℕ, ◌+◌, ◌<◌, ◌≤◌, ◌==◌, true, false, List, [], ◌∷◌, ◌++◌, length, All, arith, refl, sym, subst, ap, codes, append_assoc, length-append}
use Rattle.std.specs.Prelude.{Option, Some, None, min}
use denote.Ref.{Bor}
use Rattle.std.specs.Fmt.{decimal}
use Rattle.std.specs.List.{position_or_len}
use Rattle.std.proofs.lemmas.Bool.{true≢false, eq-eqb}
use Rattle.std.proofs.lemmas.Option.{none-some}
use Rattle.std.proofs.lemmas.List.{append_cancel_left}
use Rattle.std.proofs.lemmas.List.Elements.{All-nil, All-push, All-head, All-tail}
use Rattle.racp_text.specs.Numbers.{value}
use Rattle.racp_text.specs.Cuts.{AreParts}
use Rattle.racp_plan.specs.PlanReading.{is_decimal}
use Rattle.racp_plan.specs.Steps.{after_words, contents}
use Rattle.racp_plan.proofs.lemmas.Numbers.{same_number, blank_is_no_digit}
use Rattle.racp_plan.proofs.lemmas.Fronts.{words_from, words_before, parts_of, whole_of}
use Rattle.racp_plan.proofs.lemmas.Digits.{decimal-is, value-decimal, decimal-value, not_in_decimal}
use Rattle.racp_trees.specs.Texts.{step_number, step_letter, numbers_text, vector_line, most_number}
use Rattle.racp_trees.specs.Reading.{IsBehind, IsSpelled, IsNumberBefore, IsNumberOn, IsStepAnswer, IsVectorAnswer}
use Rattle.racp_trees.specs.declared.step.Step.{Step}
use Rattle.racp_trees.specs.declared.step.Step.TheVariants.{L, D, C}
use Rattle.racp_trees.proofs.Lines.{line_then}

pub behind_is : (words text : List ℕ) (r : Option (Bor (List ℕ))) → contents r ≡ after_words words text → IsBehind words text r
behind_is words text (Some rest) e = words_from words text rest.now (sym e)
behind_is words text None e = λ rest same. none-some rest (e ∙ (ap (after_words words) same ∙ words_before words rest))

-- digits that are no number
pub not_spelled : (digits : List ℕ) → is_decimal digits ≡ false → IsSpelled digits None
not_spelled digits e n small same = true≢false (sym (decimal-is n (omega arith)) ∙ (ap is_decimal (sym same) ∙ e))

pub spelled_is : (digits : List ℕ) (number : ℕ) → is_decimal digits ≡ true → number ≡ min (value digits) 18446744073709551615 → number ≤ 4294967295 → IsSpelled digits (Some number)
spelled_is digits number is e small =
    let same : value digits ≡ number = omega (arith, e, small) in
    (small, sym (decimal-value digits is (omega (arith, same, small))) ∙ ap decimal same)

pub too_great : (digits : List ℕ) (number : ℕ) → number ≡ min (value digits) 18446744073709551615 → 4294967295 < number → IsSpelled digits None
too_great digits number e great n small same =
    let is : value digits ≡ n = ap value same ∙ value-decimal n (omega arith) in
    omega (arith, is, e, great, small)

-- the parts of a number up to a byte
parts_at : (end n : ℕ) (text rest : List ℕ) → end < 48 → n ≤ most_number → text ≡ decimal n ++ end ∷ rest → AreParts (λ b. b == end) text (decimal n) rest
parts_at end n text rest low small same =
    subst (λ (xs : List ℕ). AreParts (λ b. b == end) xs (decimal n) rest) (sym same)
    (parts_of (λ b. b == end) (decimal n) end rest (not_in_decimal end n low (omega arith)) (eq-eqb end end refl))

pub no_end : (end : ℕ) (text : List ℕ) → end < 48 → position_or_len (λ b. b == end) text ≡ length text → IsNumberBefore end text None
no_end end text low e n rest small same = omega (arith, e, (parts_at end n text rest low small same).0)

pub no_number : (end : ℕ) (text digits more : List ℕ) → end < 48 → AreParts (λ b. b == end) text digits more → IsSpelled digits None → IsNumberBefore end text None
no_number end text digits more low parts none n rest small same = none n small (parts.1 ∙ sym (parts_at end n text rest low small same).1)

pub number_is : (end : ℕ) (text digits : List ℕ) (more : Bor (List ℕ)) (number : ℕ) → AreParts (λ b. b == end) text digits more.now → IsSpelled digits (Some number) → IsNumberBefore end text (Some (number, more))
number_is end text digits more number parts is = (is.0, whole_of end text digits more.now parts ∙ ap (λ (xs : List ℕ). xs ++ end ∷ more.now) is.1)

-- behind words
pub no_words : (words text : List ℕ) → IsBehind words text None → IsNumberOn words text None
no_words words text none n rest small same = none (decimal n ++ 10 ∷ rest) same

pub number_behind : (words text : List ℕ) (rest : Bor (List ℕ)) (r : Option (ℕ × Bor (List ℕ))) → IsBehind words text (Some rest) → IsNumberBefore 10 rest.now r → IsNumberOn words text r
number_behind words text rest (Some x) whole is = (is.0, whole ∙ ap (λ (xs : List ℕ). words ++ xs) is.1)
number_behind words text rest None whole is = λ n more small same. is n more small (append_cancel_left words rest.now (decimal n ++ 10 ∷ more) (sym whole ∙ same))

-- the line of a tree
pub step_is : (text : List ℕ) (step : Step) (rest : Bor (List ℕ)) → step_number step ≤ most_number → text ≡ step_letter step ++ (decimal (step_number step) ++ 10 ∷ rest.now) → IsStepAnswer text (Some (step, rest))
step_is text step rest small same = (small, same ∙ sym (line_then step rest.now))

pub no_step : (text : List ℕ) → IsNumberOn (codes "L ") text None → IsNumberOn (codes "D ") text None → IsNumberOn (codes "C ") text None → IsStepAnswer text None
no_step text l d k (L job) more small same = l job more small (same ∙ line_then (L job) more)
no_step text l d k (D time) more small same = d time more small (same ∙ line_then (D time) more)
no_step text l d k (C node) more small same = k node more small (same ∙ line_then (C node) more)

-- the numbers of a vector, without the blank in front of the first
abbrev pub ended : List ℕ → List ℕ → List ℕ
ended [] rest = 10 ∷ rest
ended (n ∷ numbers) rest = decimal n ++ (numbers_text numbers ++ 10 ∷ rest)

numbers_more : (n : ℕ) (numbers : List ℕ) → numbers_text (n ∷ numbers) ≡ 32 ∷ (decimal n ++ numbers_text numbers)
unfolding numbers_text
numbers_more n numbers = refl

pub blank_then : (n : ℕ) (numbers rest : List ℕ) → numbers_text (n ∷ numbers) ++ 10 ∷ rest ≡ 32 ∷ ended (n ∷ numbers) rest
blank_then n numbers rest = ap (λ (xs : List ℕ). xs ++ 10 ∷ rest) (numbers_more n numbers) ∙ ap (λ (xs : List ℕ). 32 ∷ xs) (append_assoc (decimal n) (numbers_text numbers) (10 ∷ rest))

numbers_none : numbers_text [] ≡ []
unfolding numbers_text
numbers_none = refl

vector_then : (vector rest : List ℕ) → vector_line vector ++ rest ≡ codes "vector" ++ (numbers_text vector ++ 10 ∷ rest)
unfolding vector_line
vector_then vector rest = append_assoc (codes "vector") (numbers_text vector ++ 10 ∷ []) rest ∙ ap (λ (xs : List ℕ). codes "vector" ++ xs) (append_assoc (numbers_text vector) (10 ∷ []) rest)

-- the words and the blank in front of the first number
pub vector_ended : (n : ℕ) (numbers rest : List ℕ) → vector_line (n ∷ numbers) ++ rest ≡ codes "vector " ++ ended (n ∷ numbers) rest
vector_ended n numbers rest = vector_then (n ∷ numbers) rest ∙ ap (λ (xs : List ℕ). codes "vector" ++ xs) (blank_then n numbers rest)

abbrev pub AreSmall : List ℕ → Type 0
AreSmall = All (λ n. n ≤ most_number)

-- these numbers were read, and this is what stands behind them and the byte after the last one
pub record IsReading (count : ℕ) (text numbers rest : List ℕ) : Type 0 where
  pub small : AreSmall numbers
  pub each : (vector more : List ℕ) → length vector ≡ count → AreSmall vector → text ≡ vector_line vector ++ more →
      (others : List ℕ) × (vector ≡ numbers ++ others) × (rest ≡ ended others more)
  pub back : (n : ℕ) (others more : List ℕ) → rest ≡ ended (n ∷ others) more → text ≡ vector_line (numbers ++ n ∷ others) ++ more

pub reading_first : (count : ℕ) (text rest : List ℕ) → 1 ≤ count → text ≡ codes "vector " ++ rest → IsReading count text [] rest
reading_first count text rest some whole = record {
  small = All-nil (λ n. n ≤ most_number);
  each = λ vector more places small same. (vector, refl, first vector more places same);
  back = λ n others more same. whole ∙ (ap (λ (xs : List ℕ). codes "vector " ++ xs) same ∙ sym (vector_ended n others more));
}
  where
    first : (vector more : List ℕ) → length vector ≡ count → text ≡ vector_line vector ++ more → rest ≡ ended vector more
    first [] more places same = absurd (omega (arith, places))
    first (n ∷ numbers) more places same = append_cancel_left (codes "vector ") rest (ended (n ∷ numbers) more) (sym whole ∙ (same ∙ vector_ended n numbers more))

-- no vector stands there without the words
pub no_vector_words : (count : ℕ) (text : List ℕ) → 1 ≤ count → IsBehind (codes "vector ") text None → IsVectorAnswer count text None
no_vector_words count text some none [] rest places small same = absurd (omega (arith, places))
no_vector_words count text some none (n ∷ numbers) rest places small same = none (ended (n ∷ numbers) rest) (same ∙ vector_ended n numbers rest)

one_more : (xs : List ℕ) (n : ℕ) (ys : List ℕ) → (xs ++ n ∷ []) ++ ys ≡ xs ++ n ∷ ys
one_more xs n ys = append_assoc xs (n ∷ []) ys

-- what is small of the others
small_others : (numbers others vector : List ℕ) → vector ≡ numbers ++ others → AreSmall vector → AreSmall others
small_others [] others vector same h = subst AreSmall same h
small_others (x ∷ numbers) others vector same h = small_others numbers others (numbers ++ others) refl (All-tail (λ n. n ≤ most_number) x (numbers ++ others) (subst AreSmall same h))

module _ (count k : ℕ) (text numbers rest : List ℕ) (is : IsReading count text numbers rest) (places : length numbers + 1 ≡ k) where
  -- one number more
  pub reading_more : (n : ℕ) (more : List ℕ) → k < count → n ≤ most_number → rest ≡ decimal n ++ 32 ∷ more → IsReading count text (numbers ++ n ∷ []) more
  reading_more n more less little same = record {
    small = All-push (λ x. x ≤ most_number) numbers n is.small little;
    each = λ vector after size small whole.
        let h = is.each vector after size small whole in
        go vector after h.0 size (small_others numbers h.0 vector h.1 small) h.1 h.2;
    back = λ m others after e. is.back n (m ∷ others) after (same ∙ (ap (λ (xs : List ℕ). decimal n ++ 32 ∷ xs) e ∙ sym (ap (λ (xs : List ℕ). decimal n ++ xs) (blank_then m others after)))) ∙ ap (λ (xs : List ℕ). vector_line xs ++ after) (sym (one_more numbers n (m ∷ others)));
  }
    where
      go : (vector after others : List ℕ) → length vector ≡ count → AreSmall others → vector ≡ numbers ++ others → rest ≡ ended others after → (left : List ℕ) × (vector ≡ (numbers ++ n ∷ []) ++ left) × (more ≡ ended left after)
      go vector after [] size small e h = absurd (omega (arith, size, ap (λ (xs : List ℕ). length xs) e, length-append numbers [], places, less))
      go vector after (m ∷ []) size small e h = absurd (omega (arith, size, ap (λ (xs : List ℕ). length xs) e, length-append numbers (m ∷ []), places, less))
      go vector after (m ∷ (l ∷ others)) size small e h =
          let r = same_number n m more (ended (l ∷ others) after) 32 (omega arith) (omega (arith, All-head (λ x. x ≤ most_number) m (l ∷ others) small)) blank_is_no_digit (sym same ∙ (h ∙ ap (λ (xs : List ℕ). decimal m ++ xs) (blank_then l others after))) in
          (l ∷ others, e ∙ (ap (λ x. numbers ++ x ∷ (l ∷ others)) (sym r.0) ∙ sym (one_more numbers n (l ∷ others))), r.1)

  -- no number more
  pub reading_stops : k < count → IsNumberBefore 32 rest None → IsVectorAnswer count text None
  reading_stops less none vector after size small whole =
      let h = is.each vector after size small whole in
      go h.0 (small_others numbers h.0 vector h.1 small) h.1 h.2
    where
      go : (others : List ℕ) → AreSmall others → vector ≡ numbers ++ others → rest ≡ ended others after → ⊥
      go [] small e h = absurd (omega (arith, size, ap (λ (xs : List ℕ). length xs) e, length-append numbers [], places, less))
      go (m ∷ []) small e h = absurd (omega (arith, size, ap (λ (xs : List ℕ). length xs) e, length-append numbers (m ∷ []), places, less))
      go (m ∷ (l ∷ others)) small e h = none m (ended (l ∷ others) after) (All-head (λ x. x ≤ most_number) m (l ∷ others) small) (h ∙ ap (λ (xs : List ℕ). decimal m ++ xs) (blank_then l others after))

  last_then : (m : ℕ) (after : List ℕ) → ended (m ∷ []) after ≡ decimal m ++ 10 ∷ after
  last_then m after = ap (λ (xs : List ℕ). decimal m ++ (xs ++ 10 ∷ after)) numbers_none

  -- the last number
  pub reading_ends : (n : ℕ) (more : List ℕ) → k ≡ count → n ≤ most_number → rest ≡ decimal n ++ 10 ∷ more → (length (numbers ++ n ∷ []) ≡ count) × AreSmall (numbers ++ n ∷ []) × (text ≡ vector_line (numbers ++ n ∷ []) ++ more)
  reading_ends n more all little same = (
    omega (arith, length-append numbers (n ∷ []), places, all),
    All-push (λ x. x ≤ most_number) numbers n is.small little,
    is.back n [] more (same ∙ sym (last_then n more)),
  )

  pub reading_fails : k ≡ count → IsNumberBefore 10 rest None → IsVectorAnswer count text None
  reading_fails all none vector after size small whole =
      let h = is.each vector after size small whole in
      go h.0 (small_others numbers h.0 vector h.1 small) h.1 h.2
    where
      go : (others : List ℕ) → AreSmall others → vector ≡ numbers ++ others → rest ≡ ended others after → ⊥
      go [] small e h = absurd (omega (arith, size, ap (λ (xs : List ℕ). length xs) e, length-append numbers [], places, all))
      go (m ∷ []) small e h = none m after (All-head (λ x. x ≤ most_number) m [] small) (h ∙ last_then m after)
      go (m ∷ (l ∷ others)) small e h = absurd (omega (arith, size, ap (λ (xs : List ℕ). length xs) e, length-append numbers (m ∷ (l ∷ others)), places, all))

pub last_number : (m : ℕ) (after : List ℕ) → ended (m ∷ []) after ≡ decimal m ++ 10 ∷ after
last_number m after = ap (λ (xs : List ℕ). decimal m ++ (xs ++ 10 ∷ after)) numbers_none
