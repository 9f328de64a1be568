-- The first wrong line of a text: where reading stops.
use Rattle.std.proofs.Common.{◌≡◌, refl, sym, ◌∙◌, ap, subst, ℕ, ◌+◌, ◌^◌, ◌<◌, ◌≤◌, ◌⊎◌, inl, inr, false, cond, List, [], ◌++◌, length, arith, codes, append-nil, Ok, Err}
use Rattle.std.specs.Prelude.{Some, Result, nat_le, bytes_eq, ◌==◌, ◌||◌}
use Rattle.std.specs.List.{list_any, before_first, after_first}
use Rattle.std.specs.Fmt.{decimal}
use Rattle.std.proofs.lemmas.Bool.{cases_Bool, cond-true, cond-false, le-leb, lt-leb, eq-eqb, true≢false}
use Rattle.std.proofs.lemmas.Bool.Decides.{leb_tells}
use Rattle.std.proofs.lemmas.List.Folds.{list_any-append}
use Rattle.std.proofs.lemmas.Slice.Eq.{bytes_eq-Decides}
use Rattle.racp_plan.specs.TextFaults.{TextFault}
use Rattle.racp_plan.specs.declared.text_fault.TextFaultKind.{TextFaultKind}
use Rattle.racp_plan.specs.declared.text_fault.TextFaultKind.TheVariants.{Syntax, Range, Memory}
use Rattle.racp_plan.specs.Texts.{line}
use Rattle.racp_text.specs.Faults.{fault_at}
use Rattle.racp_text.specs.Numbers.{value}
use Rattle.racp_plan.specs.PlanReading.{Form, BeginsWithLine, IsWrong, IsWrongEnd, is_decimal}
use Rattle.racp_model.specs.Steps.{◌>>=◌}
use Rattle.racp_model.proofs.lemmas.Results.{IsFault}
use Rattle.racp_text.specs.Cuts.{is_line_feed}
use Rattle.racp_text.specs.Faults.{refused}
use Rattle.racp_plan.specs.Steps.{Rest, next_line, after_words, number_on, next_number, nothing_left, last_line}
use Rattle.racp_plan.proofs.lemmas.Fronts.{words_before, words_cases}
use Rattle.racp_plan.proofs.lemmas.Digits.{not_in_digits, decimal-is, value-decimal}
use Rattle.racp_plan.proofs.Written.{rest_at, line_next, line_read, bind_on, no_more, next_read, last_read}

-- words without a line feed
abbrev pub IsOneLine : List ℕ → Type 0
IsOneLine words = list_any is_line_feed words ≡ false

-- a line of words and digits is the next line
digits_next : (words : List ℕ) (n number : ℕ) (text rest : List ℕ) → IsOneLine words → (h : BeginsWithLine words number text rest) → next_line (rest_at n text) ≡ Ok (words ++ h.digits, rest_at (n + 1) rest)
digits_next words n number text rest one h =
    let none : list_any is_line_feed h.digits ≡ false = not_in_digits 10 h.digits (omega arith) h.plain in
    let both : list_any is_line_feed (words ++ h.digits) ≡ false = list_any-append is_line_feed words h.digits ∙ (λ i. one i || none i) in
    ap (λ bytes. next_line (rest_at n bytes)) h.whole ∙ line_next n (words ++ h.digits) rest both

number_next : (words : List ℕ) (most n number : ℕ) (text rest : List ℕ) → IsOneLine words → (h : BeginsWithLine words number text rest) →
    next_number words most (rest_at n text) ≡ (number_on n most (Some h.digits) >>= (λ value. Ok (value, rest_at (n + 1) rest)))
unfolding next_number
number_next words most n number text rest one h =
    bind_on _ (λ found. number_on n most (after_words words found.0) >>= (λ value. Ok (value, found.1))) (words ++ h.digits, rest_at (n + 1) rest) _ (digits_next words n number text rest one h)
    (ap (λ digits. number_on n most digits >>= (λ value. Ok (value, rest_at (n + 1) rest))) (words_before words h.digits))

-- a right line is read
pub line_right : (words : List ℕ) (most n number : ℕ) (text rest : List ℕ) → IsOneLine words → BeginsWithLine words number text rest → number ≤ most → next_number words most (rest_at n text) ≡ Ok (number, rest_at (n + 1) rest)
line_right words most n number text rest one h within =
    let read : number_on n most (Some h.digits) ≡ Ok number = cond-true _ _ _ h.plain ∙ (cond-true _ _ _ (le-leb (value h.digits) most (omega (arith, h.same, within))) ∙ ap Ok h.same) in
    number_next words most n number text rest one h ∙ ap (λ r. r >>= (λ value. Ok (value, rest_at (n + 1) rest))) read

-- a number that is too great is found
line_over : (words : List ℕ) (most n number : ℕ) (text rest : List ℕ) → IsOneLine words → BeginsWithLine words number text rest → most < number → next_number words most (rest_at n text) ≡ Err (fault_at Range n)
line_over words most n number text rest one h over =
    let read : number_on n most (Some h.digits) ≡ Err (fault_at Range n) = cond-true _ _ _ h.plain ∙ cond-false _ _ _ (lt-leb (value h.digits) most (omega (arith, h.same, over))) in
    number_next words most n number text rest one h ∙ ap (λ r. r >>= (λ value. Ok (value, rest_at (n + 1) rest))) read

-- a line that is no number's is found to be wrong
abbrev pub kind_or : TextFaultKind → Result (ℕ × Rest) TextFault → TextFaultKind
kind_or other (Ok x) = other
kind_or other (Err fault) = fault.kind

abbrev pub IsSyntax : TextFaultKind → Type 0
IsSyntax Syntax = Unit {0}
IsSyntax Range = ⊥
IsSyntax Memory = ⊥

syntax_wrong : (words : List ℕ) (most n : ℕ) (text : List ℕ) → IsOneLine words → next_number words most (rest_at n text) ≡ Err (fault_at Syntax n) → (number : ℕ) (rest : List ℕ) → BeginsWithLine words number text rest → ⊥
syntax_wrong words most n text one e number rest h = elim (leb_tells number most) [
  | inl within ↦ subst IsFault (sym e ∙ line_right words most n number text rest one h within.1) tt
  | inr over ↦ subst IsSyntax (ap (kind_or Syntax) (sym e ∙ line_over words most n number text rest one h over.1)) tt
]

-- what a fault of the next line says
abbrev pub IsLineFault : List ℕ → ℕ → ℕ → List ℕ → TextFault → Type 0
IsLineFault words most n text fault = (fault ≡ fault_at Syntax n) ⊎ ((fault ≡ fault_at Range n) × (number : ℕ) × (rest : List ℕ) × BeginsWithLine words number text rest × (most < number))

fault_or : TextFault → Result (ℕ × Rest) TextFault → TextFault
fault_or other (Ok x) = other
fault_or other (Err fault) = fault

same_fault : (f g : TextFault) → let one : Result (ℕ × Rest) TextFault = Err f in one ≡ Err g → f ≡ g
unfolding fault_or
same_fault f g e = ap (fault_or f) e

pub line_fault : (words : List ℕ) (most n : ℕ) (text : List ℕ) (fault : TextFault) → next_number words most (rest_at n text) ≡ Err fault → IsLineFault words most n text fault
unfolding next_number
line_fault words most n text fault e = elim (cases_Bool (list_any is_line_feed text)) [
  | inr f ↦
      let none : next_line (rest_at n text) ≡ Err (fault_at Syntax n) = cond-false _ _ _ f in
      let next = λ (found : List ℕ × Rest). number_on n most (after_words words found.0) >>= (λ value. Ok (value, found.1)) in
      inl (sym (same_fault (fault_at Syntax n) fault (sym (ap (λ r. r >>= next) none) ∙ e)))
  | inl t ↦
      let found : List ℕ × Rest = (before_first is_line_feed text, rest_at (n + 1) (after_first is_line_feed text)) in
      let some : next_line (rest_at n text) ≡ Ok found = cond-true _ _ _ t in
      let next = λ (found : List ℕ × Rest). number_on n most (after_words words found.0) >>= (λ value. Ok (value, found.1)) in
      let on_line = sym (ap (λ r. r >>= next) some) ∙ e in
      elim (words_cases words found.0) [
        | inl none ↦
            let wrong = sym (ap (λ digits. number_on n most digits >>= (λ value. Ok (value, found.1))) none) ∙ on_line in
            inl (sym (same_fault (fault_at Syntax n) fault wrong))
        | inr after ↦
            let digits : List ℕ = after.0 in
            let whole : text ≡ line (words ++ digits) ++ found.1.bytes = line_read (rest_at n text) found some ∙ ap (λ l. line l ++ found.1.bytes) after.1 in
            let on_digits = sym (ap (λ digits. number_on n most digits >>= (λ value. Ok (value, found.1))) after.2) ∙ on_line in
            elim (cases_Bool (is_decimal digits)) [
              | inr other ↦ inl (sym (same_fault (fault_at Syntax n) fault (sym (ap (λ r. r >>= (λ value. Ok (value, found.1))) (cond-false _ _ _ other)) ∙ on_digits)))
              | inl plain ↦
                  let in_range : Result ℕ TextFault = cond (nat_le (value digits) most) (Ok (value digits)) (Err (fault_at Range n)) in
                  let on_value : (in_range >>= (λ value. Ok (value, found.1))) ≡ Err fault = sym (ap (λ r. r >>= (λ value. Ok (value, found.1))) (cond-true _ in_range _ plain)) ∙ on_digits in
                  elim (leb_tells (value digits) most) [
                    | inl within ↦ absurd (subst IsFault (sym on_value ∙ ap (λ r. r >>= (λ value. Ok (value, found.1))) (cond-true _ _ _ within.0)) tt)
                    | inr over ↦
                        let range = same_fault (fault_at Range n) fault (sym (ap (λ r. r >>= (λ value. Ok (value, found.1))) (cond-false _ _ _ over.0)) ∙ on_value) in
                        inr (sym range, value digits, found.1.bytes, record { digits = digits; plain = plain; same = refl; whole = whole }, over.1)
                  ]
            ]
      ]
]

-- what a line that is read says
pub right_line : (words : List ℕ) (most n : ℕ) (text : List ℕ) (x : ℕ × Rest) → most < 2 ^ 64 → next_number words most (rest_at n text) ≡ Ok x → BeginsWithLine words x.0 text x.1.bytes × (x.0 ≤ most)
right_line words most n text x fits e =
    let said = next_read words most (rest_at n text) x fits e in
    let small : x.0 < 2 ^ 64 = omega (arith, said.1, fits) in
    (record { digits = decimal x.0; plain = decimal-is x.0 small; same = value-decimal x.0 small; whole = said.0 }, said.1)

-- so the line is wrong
pub fault_wrong : (form : Form) (n : ℕ) (text : List ℕ) (fault : TextFault) → IsOneLine form.words → next_number form.words form.most (rest_at n text) ≡ Err fault → (fault.line ≡ n) × IsWrong form text fault.kind
fault_wrong form n text fault one e = elim (line_fault form.words form.most n text fault e) [
  | inl syntax ↦
      let wrong = syntax_wrong form.words form.most n text one (e ∙ ap Err syntax) in
      (ap (λ (f : TextFault). f.line) syntax, subst (λ (f : TextFault). IsWrong form text f.kind) (sym syntax) wrong)
  | inr range ↦ (ap (λ (f : TextFault). f.line) range.0, subst (λ (f : TextFault). IsWrong form text f.kind) (sym range.0) (range.1, range.2, range.3, range.4))
]

-- and a wrong line is found
pub wrong_fault : (form : Form) (n : ℕ) (text : List ℕ) (kind : TextFaultKind) → form.most < 2 ^ 64 → IsOneLine form.words → IsWrong form text kind → next_number form.words form.most (rest_at n text) ≡ Err (fault_at kind n)
wrong_fault form n text Syntax fits one w = by_first (next_number form.words form.most (rest_at n text)) refl
  where
    by_first : (r : Result (ℕ × Rest) TextFault) → next_number form.words form.most (rest_at n text) ≡ r → next_number form.words form.most (rest_at n text) ≡ Err (fault_at Syntax n)
    by_first (Ok x) e = absurd (w x.0 x.1.bytes (right_line form.words form.most n text x fits e).0)
    by_first (Err fault) e = elim (line_fault form.words form.most n text fault e) [
      | inl syntax ↦ e ∙ ap Err syntax
      | inr range ↦ absurd (w range.1 range.2 range.3)
    ]
wrong_fault form n text Range fits one w = line_over form.words form.most n w.0 text w.1 one w.2 w.3
wrong_fault form n text Memory fits one w = absurd w

-- the end of a text
end_next : (n : ℕ) (rest : List ℕ) → last_line (rest_at n (line (codes "end") ++ rest)) ≡ nothing_left (rest_at (n + 1) rest)
unfolding last_line
end_next n rest = bind_on _ _ (codes "end", rest_at (n + 1) rest) _ (line_next n (codes "end") rest refl) refl

end_or : TextFault → Result (Unit {0}) TextFault → TextFault
end_or other (Ok x) = other
end_or other (Err fault) = fault

same_end : (f g : TextFault) → let one : Result (Unit {0}) TextFault = Err f in one ≡ Err g → f ≡ g
unfolding end_or
same_end f g e = ap (end_or f) e

-- where the last line is wrong, the text does not go on with it
no_end : (n : ℕ) (text : List ℕ) (fault : TextFault) → last_line (rest_at n text) ≡ Err fault → fault.line ≡ n → (rest : List ℕ) → text ≡ line (codes "end") ++ rest → ⊥
no_end n text fault e same rest whole =
    let after : nothing_left (rest_at (n + 1) rest) ≡ Err fault = sym (ap (λ bytes. last_line (rest_at n bytes)) whole ∙ end_next n rest) ∙ e in
    elim (cases_Bool (length rest == 0)) [
      | inl t ↦ subst IsFault (sym after ∙ cond-true _ _ _ t) tt
      | inr f ↦
          let other = same_end (fault_at Syntax (n + 1)) fault (sym (cond-false _ _ _ f) ∙ after) in
          omega (arith, same, ap (λ (g : TextFault). g.line) other)
    ]

pub end_fault : (n : ℕ) (text : List ℕ) (fault : TextFault) → last_line (rest_at n text) ≡ Err fault → IsWrongEnd n text fault
unfolding last_line
end_fault n text fault e = elim (cases_Bool (list_any is_line_feed text)) [
  | inr f ↦
      let none : next_line (rest_at n text) ≡ Err (fault_at Syntax n) = cond-false _ _ _ f in
      let wrong = same_end (fault_at Syntax n) fault (sym (ap (λ r. r >>= (λ l. cond (bytes_eq l.0 (codes "end")) (nothing_left l.1) (refused Syntax n))) none) ∙ e) in
      here wrong
  | inl t ↦
      let found : List ℕ × Rest = (before_first is_line_feed text, rest_at (n + 1) (after_first is_line_feed text)) in
      let some : next_line (rest_at n text) ≡ Ok found = cond-true _ _ _ t in
      let on_line : cond (bytes_eq found.0 (codes "end")) (nothing_left found.1) (refused Syntax n) ≡ Err fault = sym (ap (λ r. r >>= (λ l. cond (bytes_eq l.0 (codes "end")) (nothing_left l.1) (refused Syntax n))) some) ∙ e in
      elim (cases_Bool (bytes_eq found.0 (codes "end"))) [
        | inr other ↦ here (same_end (fault_at Syntax n) fault (sym (cond-false _ _ _ other) ∙ on_line))
        | inl last ↦
            let whole : text ≡ line (codes "end") ++ found.1.bytes = line_read (rest_at n text) found some ∙ ap (λ l. line l ++ found.1.bytes) ((bytes_eq-Decides found.0 (codes "end")).0 last) in
            let on_rest : nothing_left found.1 ≡ Err fault = sym (cond-true _ _ _ last) ∙ on_line in
            elim (cases_Bool (length found.1.bytes == 0)) [
              | inl none ↦ absurd (subst IsFault (sym on_rest ∙ cond-true _ _ _ none) tt)
              | inr more ↦
                  let wrong = same_end (fault_at Syntax (n + 1)) fault (sym (cond-false _ _ _ more) ∙ on_rest) in
                  let some_left = λ (empty : found.1.bytes ≡ []). true≢false (sym (eq-eqb (length found.1.bytes) 0 (ap length empty)) ∙ more) in
                  (ap (λ (g : TextFault). g.kind) (sym wrong), inr (ap (λ (g : TextFault). g.line) (sym wrong), found.1.bytes, whole, some_left))
            ]
      ]
]
  where
    here : fault_at Syntax n ≡ fault → IsWrongEnd n text fault
    here wrong =
        let same : fault.line ≡ n = ap (λ (g : TextFault). g.line) (sym wrong) in
        (ap (λ (g : TextFault). g.kind) (sym wrong), inl (same, no_end n text fault e same))

pub end_wrong : (n : ℕ) (text : List ℕ) (fault : TextFault) → IsWrongEnd n text fault → last_line (rest_at n text) ≡ Err fault
end_wrong n text fault (kind, inl missing) = by_last (last_line (rest_at n text)) refl
  where
    by_last : (r : Result (Unit {0}) TextFault) → last_line (rest_at n text) ≡ r → last_line (rest_at n text) ≡ Err fault
    by_last (Ok x) e = absurd (missing.1 [] (last_read (rest_at n text) x e ∙ sym (append-nil (line (codes "end")))))
    by_last (Err found) e = elim (end_fault n text found e).1 [
      | inl same ↦ e ∙ (λ i. Err (fault_at (((end_fault n text found e).0 ∙ sym kind) i) ((same.0 ∙ sym missing.0) i)))
      | inr more ↦ absurd (missing.1 more.1 more.2)
    ]
end_wrong n text fault (kind, inr more) =
    let some_left : (length more.1 == 0) ≡ false = elim (cases_Bool (length more.1 == 0)) [ inl t ↦ absurd (more.3 (no_more more.1 t)) | inr f ↦ f ] in
    ap (λ bytes. last_line (rest_at n bytes)) more.2 ∙ end_next n more.1 ∙ cond-false _ _ _ some_left ∙ (λ i. Err (fault_at (sym kind i) (sym more.0 i)))
