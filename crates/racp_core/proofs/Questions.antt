-- The list of all questions stays as it is.
use Rattle.std.proofs.Common.{◌≡◌, ◌∙◌, inl, inr, ℕ, suc, ◌<◌, List, [], ◌∷◌, ◌++◌, length, map, slice_set, refl, ap, arith, append_assoc}
use Rattle.std.proofs.lemmas.List.{map-append, get_or-set_same, get_or-set_other, length-set, get_or-map, get_or_append_left, length-map}
use Rattle.std.proofs.lemmas.Bool.{cases_eq, cases_lt}
use Rattle.racp_model.specs.declared.question.Question.{Question}
use Rattle.racp_questions.specs.FirstYes.{no_question, question_at}
use Rattle.racp_core.specs.Machine.{QuestionRow, Machine, all_questions, opened, row_at, no_row}
use Rattle.racp_core.specs.Steps.{AreShutFrom}

abbrev pub questions_in : List QuestionRow → List Question
questions_in asked = map (λ row. row.question) asked

-- rows of the same questions
pub record AreSameQuestions (asked next : List QuestionRow) : Type 0 where
  pub places : length next ≡ length asked
  pub each : (i : ℕ) → i < length asked → (row_at next i).question ≡ (row_at asked i).question

pub same_list : (asked next : List QuestionRow) → AreSameQuestions asked next → questions_in next ≡ questions_in asked
same_list [] [] h = refl
same_list [] (y ∷ ys) h = absurd (let e = h.places in omega (arith, e))
same_list (x ∷ xs) [] h = absurd (let e = h.places in omega (arith, e))
same_list (x ∷ xs) (y ∷ ys) h =
    let first : y.question ≡ x.question = h.each 0 (omega arith) in
    let e = h.places in
    let rest : questions_in ys ≡ questions_in xs = same_list xs ys (record { places = omega (arith, e); each = λ i l. h.each (suc i) (omega (arith, l)) }) in
    ap (λ (q : Question). q ∷ questions_in ys) first ∙ ap (λ (qs : List Question). x.question ∷ qs) rest

-- one row changes, and not its question
pub set_same : (asked : List QuestionRow) (index : ℕ) (row : QuestionRow) → index < length asked → row.question ≡ (row_at asked index).question → AreSameQuestions asked (slice_set asked index row)
set_same asked index row there same = record {
  places = length-set asked index row;
  each = λ i l. elim (cases_eq i index) [
    | inl e ↦ rw (e, get_or-set_same asked index row no_row there) same
    | inr other ↦ rw (get_or-set_other asked index i row no_row other) refl
  ];
}

-- open windows are discarded
pub shut_same : (index : ℕ) (asked next : List QuestionRow) → AreShutFrom index asked next → AreSameQuestions asked next
shut_same index asked next h = record {
  places = h.places;
  each = λ i l. elim (cases_lt i index) [
    | inl before ↦ ap (λ (r : QuestionRow). r.question) (h.before i before)
    | inr after ↦ ap (λ (r : QuestionRow). r.question) (h.after i (omega (arith, after)) l)
  ];
}

pub same_trans : (a b c : List QuestionRow) → AreSameQuestions a b → AreSameQuestions b c → AreSameQuestions a c
same_trans a b c h k = record {
  places = k.places ∙ h.places;
  each = λ i l. k.each i (let e = h.places in omega (arith, l, e)) ∙ h.each i l;
}

-- so the list of all is the same
pub same_all : (asked next : List QuestionRow) (rest : List Question) → AreSameQuestions asked next → questions_in next ++ rest ≡ questions_in asked ++ rest
same_all asked next rest h = ap (λ (qs : List Question). qs ++ rest) (same_list asked next h)

-- a question moves from those to come to those that were asked
pub asked_all : (asked : List QuestionRow) (question : Question) (rest : List Question) → questions_in (asked ++ opened question ∷ []) ++ rest ≡ questions_in asked ++ (question ∷ rest)
asked_all asked question rest = ap (λ (qs : List Question). qs ++ rest) (map-append (λ (r : QuestionRow). r.question) asked (opened question ∷ [])) ∙ append_assoc (questions_in asked) (question ∷ []) rest

-- the question at a place that was asked
pub question_there : (m : Machine) (i : ℕ) → i < length m.asked → question_at (all_questions m) i ≡ (row_at m.asked i).question
question_there m i l =
    let long : length (questions_in m.asked) ≡ length m.asked = length-map m.asked (λ (r : QuestionRow). r.question) in
    get_or_append_left (questions_in m.asked) m.to_come no_question i (omega (arith, long, l)) ∙ get_or-map (λ (r : QuestionRow). r.question) m.asked i no_row no_question l
