-- A collector of one seat, of which each piece is searched to its end before the next is taken.
use Rattle.std.proofs.Common.{◌≡◌, ◌∙◌, ℕ, ◌+◌, ◌<◌, Bool, true, false, is_some, not, IsTrue, Bor, option_copied, if◌then◌else◌, append-nil, IsPermutation, inl, inr, List, [], ◌∷◌, ◌++◌, length, slice_set, Option, Some, None, Contains, refl, sym, ap, subst, arith}
use Rattle.std.proofs.lemmas.Bool.{cases_lt}
use Rattle.std.proofs.lemmas.List.{get_or-append-add, get_or_append_left, get_or-set_same, get_or-set_other, length-set, length-append}
use Rattle.std.proofs.lemmas.List.Sorted.{length_permutation}
use Rattle.racp_model.specs.Window.{Bounds}
use Rattle.racp_model.specs.declared.question.Question.{Question}
use Rattle.racp_search.specs.Truth.{SearchPiece, SearchFinding, rest_windows}
use Rattle.racp_core.specs.Machine.{PieceOut, QuestionRow, KnownYes, Machine, opened, row_at, no_row, is_before, IsDone, AreDone, IsSettledBy, IsSettled}
use Rattle.racp_core.specs.Steps.{out_of, IsOut, IsNextAsked, IsSent, HasNoOpen, IsPieceTaken, windows_before, IsReturned, IsAnswered, lesser}
use Rattle.racp_core.specs.Replies.{IsMerged}
use Rattle.racp_by_questions.specs.Working.{IsIdle, IsAtWork, IsHandedIn}

-- a list without elements
none_of : {X : Type 0} (xs : List X) → length xs ≡ 0 → xs ≡ []
none_of [] e = refl
none_of (x ∷ xs) e = absurd (omega (arith, e))

-- what is taken out of one thing leaves none
left_of_one : {X : Type 0} (x y : X) (rest : List X) → IsPermutation (x ∷ []) (y ∷ rest) → rest ≡ []
left_of_one x y rest h = none_of rest (omega (arith, length_permutation (x ∷ []) (y ∷ rest) h))

-- a row behind others
row_behind : (asked : List QuestionRow) (row : QuestionRow) → row_at (asked ++ row ∷ []) (length asked) ≡ row
row_behind asked row = ap (λ n. row_at (asked ++ row ∷ []) n) (omega arith) ∙ get_or-append-add asked (row ∷ []) 0 no_row

-- what is known of a yes where none is known
before_unknown : (least : Option KnownYes) (i : ℕ) → least ≡ None → IsTrue (is_before least i)
before_unknown None i e = refl
before_unknown (Some y) i e = absurd (cc e)

-- a list of one element is not empty
one_is_none : {X : Type 0} (x : X) (xs : List X) → x ∷ xs ≡ [] → ⊥
one_is_none x xs e = (let n = ap length e in omega (arith, n))

-- a question with an open window is not done
some_done : (row : QuestionRow) → 0 < length row.ready → IsDone row → ⊥
some_done row some done = (let n = ap length done.0 in omega (arith, n, some))

-- where a question with an open window was asked and no yes is known, the answer is not known
running_on : (least : Option KnownYes) (ended : Bool) (asked : List QuestionRow) → least ≡ None → (i : ℕ) → i < length asked → {window : Bounds} → window ∷ [] ≡ (row_at asked i).ready → IsSettledBy least ended asked → ⊥
running_on None ended asked e i l {window} ready settled = one_is_none window [] (ready ∙ (settled.1 i l).0)
running_on (Some y) ended asked e i l ready settled = absurd (cc e)

-- where the series has ended and each question is done, it is
settled_at_end : (least : Option KnownYes) (asked : List QuestionRow) → least ≡ None → AreDone asked (length asked) → IsSettledBy least true asked
settled_at_end None asked e done = (refl, done)
settled_at_end (Some y) asked e done = absurd (cc e)

-- and where each question before a yes is done, of which none was known
settled_at : (y : KnownYes) (old new : Option KnownYes) (ended : Bool) (asked : List QuestionRow) → old ≡ None → new ≡ Some (lesser old y) → AreDone asked y.index → IsSettledBy new ended asked
settled_at y None new ended asked e is done = subst (λ (least : Option KnownYes). IsSettledBy least ended asked) (sym is) done
settled_at y (Some x) new ended asked e is done = absurd (cc e)

-- no windows, before a yes or not
none_if : (test : Bool) (windows : List Bounds) → windows ≡ [] → (if test then windows else []) ≡ []
none_if true windows e = e
none_if false windows e = refl

no_windows : (least : Option KnownYes) (i : ℕ) → windows_before least i [] ≡ []
no_windows least i = none_if (is_before least i) [] refl

module _ (old mid : Machine) (index : ℕ) (idle : IsIdle old) (asked : IsNextAsked old mid index) where
  abbrev pub question : Question
  question = asked.first.0

  rows : mid.asked ≡ old.asked ++ opened question ∷ []
  rows = ap (λ (m : Machine). m.asked) asked.first.3

  pub count : length mid.asked ≡ index + 1
  count = ap length rows ∙ (length-append old.asked (opened question ∷ []) ∙ (let e = asked.next in omega (arith, e)))

  -- the asked question stands last, and is open
  pub last_row : row_at mid.asked index ≡ opened question
  last_row = ap (λ (rows : List QuestionRow). row_at rows index) rows ∙ (ap (λ n. row_at (old.asked ++ opened question ∷ []) n) asked.next ∙ row_behind old.asked (opened question))

  -- those before it are done
  pub earlier : (i : ℕ) → i < index → row_at mid.asked i ≡ row_at old.asked i
  earlier i l = ap (λ (rows : List QuestionRow). row_at rows i) rows ∙ get_or_append_left old.asked (opened question ∷ []) no_row i (let e = asked.next in omega (arith, l, e))

  pub earlier_done : AreDone mid.asked index
  earlier_done i l = subst IsDone (sym (earlier i l)) (idle.done i (let e = asked.next in omega (arith, l, e)))

  pub mid_running : mid.halted ≡ false
  mid_running = ap (λ (m : Machine). m.halted) asked.first.3 ∙ asked.running

  pub mid_unknown : mid.least ≡ None
  mid_unknown = ap (λ (m : Machine). m.least) asked.first.3 ∙ asked.unknown

  pub mid_numbered : mid.taken ≡ index
  mid_numbered = ap (λ (m : Machine). m.taken) asked.first.3 ∙ (idle.numbered ∙ sym asked.next)

  -- so the answer is not known
  pub not_settled : IsSettled mid → ⊥
  not_settled h = running_on mid.least mid.ended mid.asked mid_unknown index (let e = count in omega (arith, e)) (sym (ap (λ (row : QuestionRow). row.ready) last_row)) h

  -- some window is open
  pub not_none : HasNoOpen mid → ⊥
  not_none h = one_is_none (question.window) [] (sym (ap (λ (row : QuestionRow). row.ready) last_row) ∙ h index (let e = count in omega (arith, e)) (before_unknown mid.least index mid_unknown))

  -- the piece that is taken is of the asked question
  module _ (new : Machine) (seat : ℕ) (piece : SearchPiece) (taken : IsPieceTaken mid seat piece new) where
    at_last : piece.index ≡ index
    at_last = elim (cases_lt piece.index index) [
      | inl less ↦ absurd (some_done (row_at mid.asked piece.index) taken.least.some (earlier_done piece.index less))
      | inr more ↦ (let a = taken.least.asked in let b = count in omega (arith, more, a, b))
    ]

    abbrev row : QuestionRow
    row = taken.row.0

    sent : IsSent (out_of piece) (opened question) row
    sent = subst (λ (old : QuestionRow). IsSent (out_of piece) old row) (ap (λ n. row_at mid.asked n) at_last ∙ last_row) taken.row.1

    asked_now : new.asked ≡ slice_set mid.asked piece.index row
    asked_now = ap (λ (m : Machine). m.asked) taken.row.2

    within : piece.index < length mid.asked
    within = taken.least.asked

    row_now : row_at new.asked piece.index ≡ row
    row_now = ap (λ (rows : List QuestionRow). row_at rows piece.index) asked_now ∙ get_or-set_same mid.asked piece.index row no_row within

    earlier_now : (i : ℕ) → i < piece.index → row_at new.asked i ≡ row_at mid.asked i
    earlier_now i l = ap (λ (rows : List QuestionRow). row_at rows i) asked_now ∙ get_or-set_other mid.asked piece.index i row no_row (λ e. omega (arith, e, l))

    pub at_work : IsAtWork new piece
    at_work = record {
      running = ap (λ (m : Machine). m.halted) taken.row.2 ∙ mid_running;
      unknown = ap (λ (m : Machine). m.least) taken.row.2 ∙ mid_unknown;
      last = ap length asked_now ∙ (length-set mid.asked piece.index row ∙ (count ∙ ap (λ n. n + 1) (sym at_last)));
      done = λ i l. subst IsDone (sym (earlier_now i l)) (earlier_done i (let e = at_last in omega (arith, l, e)));
      numbered = ap (λ (m : Machine). m.taken) taken.row.2 ∙ (ap (λ n. n + 1) mid_numbered ∙ (sym count ∙ (sym (length-set mid.asked piece.index row) ∙ sym (ap length asked_now))));
      ready = ap (λ (r : QuestionRow). r.ready) row_now ∙ left_of_one question.window piece.question.window row.ready sent.1;
      out = ap (λ (r : QuestionRow). r.out) row_now ∙ sent.2;
      capacities = taken.capacities ∙ (ap (λ n. (row_at mid.asked n).question.capacities) at_last ∙ (ap (λ (r : QuestionRow). r.question.capacities) last_row ∙ (ap (λ (q : Question). q.capacities) (sym sent.0) ∙ ap (λ (r : QuestionRow). r.question.capacities) (sym row_now))));
    }

    pub fewer : length new.to_come < length old.to_come
    fewer =
        let come : new.to_come ≡ asked.first.1 = ap (λ (m : Machine). m.to_come) taken.row.2 ∙ ap (λ (m : Machine). m.to_come) asked.first.3 in
        let a = ap length come in
        let b = ap length asked.first.2 in
        omega (arith, a, b)

-- the series has ended: the answer is known
pub ended : (old new : Machine) → IsIdle old → new ≡ record old { ended = true } → IsSettled new
ended old new idle e = subst IsSettled (sym e) (settled_at_end old.least old.asked idle.unknown idle.done)

module _ (m : Machine) (piece : SearchPiece) (work : IsAtWork m piece) where
  -- the piece is out
  pub is_out : IsOut m piece
  is_out = (
    (let e = work.last in omega (arith, e)),
    work.capacities,
    subst (λ (out : List PieceOut). Contains out (out_of piece)) (sym work.out) (0, omega arith, refl),
  )

  -- its finding without a yes, of which nothing is left, is in
  module _ (new : Machine) (returned : IsReturned m piece [] new) where
    abbrev back : QuestionRow
    back = returned.row.0

    asked_back : new.asked ≡ slice_set m.asked piece.index back
    asked_back = ap (λ (n : Machine). n.asked) returned.row.2

    here : piece.index < length m.asked
    here = (let e = work.last in omega (arith, e))

    back_done : IsDone back
    back_done = (
      returned.row.1.1 ∙ (ap (λ (windows : List Bounds). (row_at m.asked piece.index).ready ++ windows) (no_windows m.least piece.index) ∙ (append-nil (row_at m.asked piece.index).ready ∙ work.ready)),
      left_of_one (out_of piece) (out_of piece) back.out (subst (λ (out : List PieceOut). IsPermutation out (out_of piece ∷ back.out)) work.out returned.row.1.2),
    )

    pub idle_again : IsIdle new
    idle_again = record {
      running = ap (λ (n : Machine). n.halted) returned.row.2 ∙ work.running;
      unknown = ap (λ (n : Machine). n.least) returned.row.2 ∙ work.unknown;
      done = λ i l. elim (cases_lt i piece.index) [
        | inl less ↦ subst IsDone (sym (ap (λ (rows : List QuestionRow). row_at rows i) asked_back ∙ get_or-set_other m.asked piece.index i back no_row (λ e. omega (arith, e, less)))) (work.done i less)
        | inr more ↦
            let same : i ≡ piece.index = (let a = ap length asked_back in let b = length-set m.asked piece.index back in let e = work.last in omega (arith, l, more, a, b, e)) in
            subst IsDone (sym (ap (λ n. row_at new.asked n) same ∙ (ap (λ (rows : List QuestionRow). row_at rows piece.index) asked_back ∙ get_or-set_same m.asked piece.index back no_row here))) back_done
      ];
      numbered = ap (λ (n : Machine). n.taken) returned.row.2 ∙ (work.numbered ∙ sym (ap length asked_back ∙ length-set m.asked piece.index back));
    }

    pub same_to_come : new.to_come ≡ m.to_come
    same_to_come = ap (λ (n : Machine). n.to_come) returned.row.2

  -- its finding with a yes is in: the answer is known
  pub known : (starts : List ℕ) (new : Machine) → IsAnswered m piece starts new → IsSettled new
  known starts new answered =
      settled_at (record { index = piece.index; starts = starts }) m.least new.least new.ended new.asked work.unknown (ap (λ (n : Machine). n.least) answered.changed)
      (λ i l. subst IsDone
      (sym (answered.row.2.before i l ∙ get_or-set_other m.asked piece.index i answered.row.0 no_row (λ e. omega (arith, e, l)))) (work.done i l))

-- whether there is something behind a reference
pub copied_some : {T : Type 0} (o : Option (Bor T)) → is_some (option_copied o) ≡ is_some o
copied_some None = refl
copied_some (Some x) = refl

-- a finding is in
pub handed_in : (m new : Machine) (finding : SearchFinding) (found : Option (List ℕ)) (more : Bool) → is_some found ≡ not more → IsAtWork m finding.piece →
    (found ≡ None → rest_windows finding.piece.question.window finding.rest ≡ []) → IsMerged m finding found new → IsHandedIn m more new
handed_in m new finding None true e work whole merged =
    let returned : IsReturned m finding.piece [] new = subst (λ (windows : List Bounds). IsReturned m finding.piece windows new) (whole refl) merged in
    (idle_again m finding.piece work new returned, same_to_come m finding.piece work new returned)
handed_in m new finding None false e work whole merged = absurd (cc e)
handed_in m new finding (Some starts) true e work whole merged = absurd (cc e)
handed_in m new finding (Some starts) false e work whole merged = known m finding.piece work starts new merged
