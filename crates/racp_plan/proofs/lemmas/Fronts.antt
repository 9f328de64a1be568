-- Bytes cut at the first byte of a kind, and bytes that begin with words.
use Rattle.std.proofs.Common.{◌≡◌, refl, sym, ◌∙◌, ap, ℕ, suc, ◌+◌, ◌<◌, ◌⊎◌, inl, inr, Bool, true, false, List, [], ◌∷◌, ◌++◌, length, take, drop, get_or, arith, ◌==◌, Ok, length-append, add-one, append_assoc, codes}
use Rattle.std.specs.Prelude.{Option, Some, None, not, MatchOption, bytes_eq}
use Rattle.std.specs.List.{position_or_len, list_any}
use Rattle.std.proofs.lemmas.Bool.{cases_Bool, true≢false, cond-true, cond-false, eqb-true}
use Rattle.std.proofs.lemmas.Option.{none-some}
use Rattle.std.proofs.lemmas.List.{take_at, take-append-drop, append_cancel_left}
use Rattle.std.proofs.lemmas.List.Sums.{prefix_len-le-length, split_at_first, prefix_len_stops}
use Rattle.std.proofs.lemmas.Slice.Eq.{bytes_eq-Decides}
use denote.Ref.{Bor}
use Rattle.std.specs.Fmt.{decimal}
use Rattle.racp_plan.specs.PlanReading.{words_for}
use Rattle.racp_text.specs.Cuts.{AreParts, is_line_feed}
use Rattle.racp_text.specs.Faults.{refused}
use Rattle.racp_plan.specs.Steps.{Rest, after_words, contents, next_line}
use Rattle.racp_plan.specs.declared.text_fault.TextFaultKind.TheVariants.{Syntax}

-- whether an element passes, by the place of the first that does
pub some_passes : (test : ℕ → Bool) (xs : List ℕ) → position_or_len test xs < length xs → list_any test xs ≡ true
some_passes test [] l = absurd (omega (arith, l))
some_passes test (x ∷ xs) l = grind (arith, l, some_passes test xs)

pub none_passes : (test : ℕ → Bool) (xs : List ℕ) → position_or_len test xs ≡ length xs → list_any test xs ≡ false
none_passes test [] e = refl
none_passes test (x ∷ xs) e = grind (arith, e, none_passes test xs)

-- where an element passes, there is a first place
pub some_place : (test : ℕ → Bool) (xs : List ℕ) → list_any test xs ≡ true → position_or_len test xs < length xs
some_place test xs e =
    let other : position_or_len test xs ≡ length xs → ⊥ = λ same. true≢false (sym e ∙ none_passes test xs same) in
    omega (arith, prefix_len-le-length (λ x. not (test x)) xs, other)

-- a front without such a byte, the byte, and the rest are the parts of a cut
place_after : (test : ℕ → Bool) (front : List ℕ) (byte : ℕ) (back : List ℕ) → list_any test front ≡ false → test byte ≡ true → position_or_len test (front ++ byte ∷ back) ≡ length front
place_after test [] byte back none is = grind (arith, is)
place_after test (x ∷ front) byte back none is = grind (arith, none, is, place_after test front byte back)

drop_suc : (front : List ℕ) (byte : ℕ) (back : List ℕ) → drop (suc (length front)) (front ++ byte ∷ back) ≡ back
drop_suc [] byte back = refl
drop_suc (x ∷ front) byte back = drop_suc front byte back

drop_front : (front : List ℕ) (byte : ℕ) (back : List ℕ) → drop (length front + 1) (front ++ byte ∷ back) ≡ back
drop_front front byte back = rw add-one (drop_suc front byte back)

pub parts_of : (test : ℕ → Bool) (front : List ℕ) (byte : ℕ) (back : List ℕ) → list_any test front ≡ false → test byte ≡ true → AreParts test (front ++ byte ∷ back) front back
parts_of test front byte back none is =
    let place = place_after test front byte back none is in (
      omega (arith, place, length-append front (byte ∷ back)),
      sym (ap (λ n. take n (front ++ byte ∷ back)) place ∙ take_at front (byte ∷ back) (length front) refl),
      sym (ap (λ n. drop (n + 1) (front ++ byte ∷ back)) place ∙ drop_front front byte back),
    )

-- the byte at the first place passes
passed : (b : Bool) → not b ≡ false → b ≡ true
passed true e = refl
passed false e = sym e

-- the whole of the parts of a cut at a byte
pub whole_of : (byte : ℕ) (bytes front back : List ℕ) → AreParts (λ b. b == byte) bytes front back → bytes ≡ front ++ byte ∷ back
whole_of byte bytes front back h =
    let place = position_or_len (λ b. b == byte) bytes in
    let passes : (get_or bytes place 0 == byte) ≡ true = passed _ (prefix_len_stops (λ b. not (b == byte)) bytes 0 h.0) in
    split_at_first (λ b. b == byte) bytes 0 h.0 ∙ cc (h.1, h.2, eqb-true (get_or bytes place 0) byte passes)

drop_words : (words rest : List ℕ) → drop (length words) (words ++ rest) ≡ rest
drop_words [] rest = refl
drop_words (x ∷ words) rest = drop_words words rest

-- bytes begin with words, or nothing stands after these words
pub words_before : (words rest : List ℕ) → after_words words (words ++ rest) ≡ Some rest
unfolding after_words
words_before words rest =
    let front : bytes_eq (take (length words) (words ++ rest)) words ≡ true = (bytes_eq-Decides (take (length words) (words ++ rest)) words).1 (take_at words rest (length words) refl) in
    cond-true _ _ _ front ∙ ap Some (drop_words words rest)

pub words_cases : (words line : List ℕ) → (after_words words line ≡ None) ⊎ ((rest : List ℕ) × (line ≡ words ++ rest) × (after_words words line ≡ Some rest))
unfolding after_words
words_cases words line = elim (cases_Bool (bytes_eq (take (length words) line) words)) [
  | inl t ↦
      let front = (bytes_eq-Decides (take (length words) line) words).0 t in
      inr (drop (length words) line, sym (take-append-drop (length words) line) ∙ ap (λ f. f ++ drop (length words) line) front, cond-true _ _ _ t)
  | inr f ↦ inl (cond-false _ _ _ f)
]

-- what is left where a prefix is taken off
pub stripped : (words line : List ℕ) (r : Option (Bor (List ℕ))) →
    MatchOption r (bytes_eq (take (length words) line) words ≡ false) (λ x. (bytes_eq (take (length words) line) words ≡ true) × (x.now ≡ drop (length words) line) × (length x.now + length words ≡ length line)) →
    contents r ≡ after_words words line
unfolding after_words
stripped words line None h = sym (cond-false _ _ _ h)
stripped words line (Some x) h = ap Some h.1 ∙ sym (cond-true _ _ _ h.0)

-- the next line
pub line_cut : (rest : Rest) (line back : List ℕ) → AreParts is_line_feed rest.bytes line back → next_line rest ≡ Ok (line, record { line = rest.line + 1; bytes = back })
line_cut rest line back h =
    cond-true _ _ _ (some_passes is_line_feed rest.bytes h.0) ∙ sym (λ i. Ok (h.1 i, record { line = rest.line + 1; bytes = h.2 i }))

pub line_none : (rest : Rest) → position_or_len is_line_feed rest.bytes ≡ length rest.bytes → next_line rest ≡ refused Syntax rest.line
line_none rest e = cond-false _ _ _ (none_passes is_line_feed rest.bytes e)

-- what stands after words
pub words_from : (words line rest : List ℕ) → after_words words line ≡ Some rest → line ≡ words ++ rest
words_from words line rest e = elim (words_cases words line) [
  | inl none ↦ absurd (none-some rest (sym none ∙ e))
  | inr some ↦
      let same : some.0 ≡ rest = cc (some.2, e) in
      some.1 ∙ ap (λ r. words ++ r) same
]

-- words in two parts, one after the other
pub words_apart-some : (first second line rest : List ℕ) → after_words first line ≡ Some rest → after_words (first ++ second) line ≡ after_words second rest
words_apart-some first second line rest e =
    let whole = words_from first line rest e in
    elim (words_cases second rest) [
      | inl none ↦ elim (words_cases (first ++ second) line) [
        | inl missing ↦ missing ∙ sym none
        | inr some ↦
            let after : rest ≡ second ++ some.0 = append_cancel_left first rest (second ++ some.0) (sym whole ∙ some.1 ∙ append_assoc first second some.0) in
            absurd (none-some some.0 (sym none ∙ ap (after_words second) after ∙ words_before second some.0))
      ]
      | inr some ↦
          let front : line ≡ (first ++ second) ++ some.0 = whole ∙ ap (λ r. first ++ r) some.1 ∙ sym (append_assoc first second some.0) in
          ap (after_words (first ++ second)) front ∙ words_before (first ++ second) some.0 ∙ sym some.2
    ]

pub words_apart-none : (first second line : List ℕ) → after_words first line ≡ None → after_words (first ++ second) line ≡ None
words_apart-none first second line e = elim (words_cases (first ++ second) line) [
  | inl missing ↦ missing
  | inr some ↦
      let front : line ≡ first ++ (second ++ some.0) = some.1 ∙ append_assoc first second some.0 in
      absurd (none-some (second ++ some.0) (sym e ∙ ap (after_words first) front ∙ words_before first (second ++ some.0)))
]

-- the same of the words of a resource or a job
pub own_words-some : (word line rest : List ℕ) (number : ℕ) → Some rest ≡ after_words word line → after_words (decimal number ++ codes " ") rest ≡ after_words (words_for word number) line
unfolding words_for
own_words-some word line rest number e =
    sym (words_apart-some word (decimal number ++ codes " ") line rest (sym e)) ∙ ap (λ w. after_words w line) (sym (append_assoc word (decimal number) (codes " ")))

pub own_words-none : (word line : List ℕ) (number : ℕ) → None ≡ after_words word line → None ≡ after_words (words_for word number) line
unfolding words_for
own_words-none word line number e =
    sym (words_apart-none word (decimal number ++ codes " ") line (sym e)) ∙ ap (λ w. after_words w line) (sym (append_assoc word (decimal number) (codes " ")))
