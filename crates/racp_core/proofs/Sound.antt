-- What is true of the collector's states stays true: where it is new, where a question is asked, where a piece goes out or comes
-- back without a yes.
use Rattle.std.proofs.Common.{◌≡◌, ◌∙◌, inl, inr, ℕ, ◌<◌, Bool, true, IsTrue, IsFalse, List, [], ◌∷◌, ◌++◌, length, slice_set, Option, Some, None, refl, sym, ap, subst, arith, length-append}
use Rattle.std.proofs.lemmas.List.{get_or-set_same, get_or-set_other, length-set, get_or_append_left, get_or_push}
use Rattle.std.proofs.lemmas.Bool.{cases_eq, cases_lt}
use Rattle.std.proofs.lemmas.List.Elements.{Contains-append_right}
use Rattle.racp_model.specs.Project.{Project}
use Rattle.racp_model.specs.Window.{Bounds, Answers}
use Rattle.racp_model.specs.Formed.{AreFormed, HasBounds}
use Rattle.racp_model.specs.declared.question.Question.{Question}
use Rattle.racp_model.proofs.lemmas.Relations.{member_first}
use Rattle.racp_search.specs.Truth.{IsRestOf}
use Rattle.racp_core.specs.Machine.{PieceOut, QuestionRow, KnownYes, Machine, fresh, all_questions, opened, row_at, no_row, is_before}
use Rattle.racp_core.specs.Truth.{IsKept, HasAnswer, IsSoundState}
use Rattle.racp_core.specs.Steps.{IsSent, IsBack, windows_before}
use Rattle.racp_core.proofs.Tests.{not_both}
use Rattle.racp_core.proofs.Kept.{kept_new, kept_sent, kept_back}
use Rattle.racp_core.proofs.Questions.{questions_in, AreSameQuestions, set_same, same_all, asked_all}

-- the windows that open of a question: all before the least yes, and none from there on
pub windows_there : (least : Option KnownYes) (i : ℕ) (windows : List Bounds) → IsTrue (is_before least i) → windows_before least i windows ≡ windows
windows_there least i windows h = rw h refl

pub windows_gone : (least : Option KnownYes) (i : ℕ) (windows : List Bounds) → IsFalse (is_before least i) → windows_before least i windows ≡ []
windows_gone least i windows h = rw h refl

-- a collector of which nothing was asked
pub sound_fresh : (p : Project) (questions : List Question) → AreFormed p questions → IsSoundState p (fresh questions)
sound_fresh p questions formed = record {
  kept = λ i l b. absurd (omega (arith, l));
  answers = tt;
  shut = λ i l b. absurd (omega (arith, l));
  formed = formed;
  finished = λ e. absurd (cc e);
}

-- the answer of the least yes, where questions stay
pub answer_stays : (p : Project) (asked next : List QuestionRow) (least : Option KnownYes) → AreSameQuestions asked next → HasAnswer p asked least → HasAnswer p next least
answer_stays p asked next None same h = tt
answer_stays p asked next (Some y) same (l, h) =
    let e = same.places in
    (omega (arith, l, e), subst (λ (q : Question). Answers p q.capacities q.window y.starts) (sym (same.each y.index l)) h)

-- the form of the questions, where they stay
pub formed_stays : (p : Project) (before after : List Question) → after ≡ before → AreFormed p before → AreFormed p after
formed_stays p before after e h = rw e h

-- a question is asked
pub sound_asked : (p : Project) (m : Machine) (question : Question) (rest : List Question) → m.least ≡ None → m.to_come ≡ question ∷ rest → IsSoundState p m →
    IsSoundState p (record m { asked = m.asked ++ opened question ∷ []; to_come = rest })
sound_asked p m question rest none next h = record {
  kept = kept;
  answers = rw none tt;
  shut = λ i l b. absurd (not_both (is_before m.least i) (rw none refl) b);
  formed = formed_stays p (all_questions m) (questions_in (m.asked ++ opened question ∷ []) ++ rest) (asked_all m.asked question rest ∙ ap (λ (qs : List Question). questions_in m.asked ++ qs) (sym next)) h.formed;
  finished = λ e. absurd (let none_left = sym next ∙ h.finished e in cc none_left);
}
  where
    bounds : HasBounds p question.window
    bounds = (h.formed question (Contains-append_right (questions_in m.asked) m.to_come question (rw next (member_first question rest question refl)))).bounds

    kept : (i : ℕ) → i < length (m.asked ++ opened question ∷ []) → IsTrue (is_before m.least i) → IsKept p (row_at (m.asked ++ opened question ∷ []) i)
    kept i l b = elim (cases_lt i (length m.asked)) [
      | inl before ↦ rw (get_or_append_left m.asked (opened question ∷ []) no_row i before) (h.kept i before b)
      | inr after ↦
          let long = length-append m.asked (opened question ∷ []) in
          let e : length m.asked ≡ i = omega (arith, long, l, after) in
          rw (get_or_push m.asked (opened question) no_row i e) (kept_new p question bounds)
    ]

-- one row changes, and keeps what it kept
pub sound_set : (p : Project) (m : Machine) (index taken : ℕ) (row : QuestionRow) → index < length m.asked → row.question ≡ (row_at m.asked index).question → (IsTrue (is_before m.least index) → IsKept p (row_at m.asked index) → IsKept p row) →
    (IsFalse (is_before m.least index) → (row_at m.asked index).ready ≡ [] → row.ready ≡ []) → IsSoundState p m → IsSoundState p (record m { asked = slice_set m.asked index row; taken = taken })
sound_set p m index taken row there same keeps stays h = record {
  kept = λ i l b. elim (cases_eq i index) [
    | inl e ↦ rw (e, get_or-set_same m.asked index row no_row there) (keeps (subst (λ (k : ℕ). IsTrue (is_before m.least k)) e b) (h.kept index there (subst (λ (k : ℕ). IsTrue (is_before m.least k)) e b)))
    | inr other ↦ rw (get_or-set_other m.asked index i row no_row other) (h.kept i (let long = length-set m.asked index row in omega (arith, l, long)) b)
  ];
  answers = answer_stays p m.asked (slice_set m.asked index row) m.least (set_same m.asked index row there same) h.answers;
  shut = λ i l b. elim (cases_eq i index) [
    | inl e ↦ rw (e, get_or-set_same m.asked index row no_row there) (let here = subst (λ (k : ℕ). IsFalse (is_before m.least k)) e b in stays here (h.shut index there here))
    | inr other ↦ rw (get_or-set_other m.asked index i row no_row other) (h.shut i (let long = length-set m.asked index row in omega (arith, l, long)) b)
  ];
  formed = formed_stays p (all_questions m) (questions_in (slice_set m.asked index row) ++ m.to_come) (same_all m.asked (slice_set m.asked index row) m.to_come (set_same m.asked index row there same)) h.formed;
  finished = h.finished;
}

-- a piece goes out, of a question before the least yes
pub sound_sent : (p : Project) (m : Machine) (index taken : ℕ) (piece : PieceOut) (row : QuestionRow) → index < length m.asked → IsTrue (is_before m.least index) → IsSent piece (row_at m.asked index) row → IsSoundState p m → IsSoundState p (record m { asked = slice_set m.asked index row; taken = taken })
sound_sent p m index taken piece row there before sent h =
    sound_set p m index taken row there sent.0 (λ _. kept_sent p piece (row_at m.asked index) row sent) (λ not _. absurd (not_both (is_before m.least index) before not)) h

-- a piece comes back, with what is left of its window
pub sound_back : (p : Project) (m : Machine) (index : ℕ) (piece : PieceOut) (windows : List Bounds) (row : QuestionRow) → index < length m.asked → IsBack piece (windows_before m.least index windows) (row_at m.asked index) row →
    (IsTrue (is_before m.least index) → IsRestOf p (row_at m.asked index).question.capacities piece.window windows) → IsSoundState p m → IsSoundState p (record m { asked = slice_set m.asked index row })
sound_back p m index piece windows row there back rest h =
    sound_set p m index m.taken row there back.0
    (λ b. kept_back p piece windows (row_at m.asked index) row (subst (λ (ws : List Bounds). IsBack piece ws (row_at m.asked index) row) (windows_there m.least index windows b) back) (rest b))
    (λ not none. back.1 ∙ (ap (λ (ws : List Bounds). (row_at m.asked index).ready ++ ws) (windows_gone m.least index windows not) ∙ ap (λ (ws : List Bounds). ws ++ []) none)) h

-- nothing of a question is noticed of a number or a mark
pub sound_halted : (p : Project) (m : Machine) (halted : Bool) → IsSoundState p m → IsSoundState p (record m { halted = halted })
sound_halted p m halted h = record { kept = h.kept; answers = h.answers; shut = h.shut; formed = h.formed; finished = h.finished }

pub sound_ended : (p : Project) (m : Machine) → m.to_come ≡ [] → IsSoundState p m → IsSoundState p (record m { ended = true })
sound_ended p m none h = record { kept = h.kept; answers = h.answers; shut = h.shut; formed = h.formed; finished = λ _. none }
