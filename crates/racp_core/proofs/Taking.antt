-- A piece goes out.
use Rattle.std.proofs.Common.{◌≡◌, ◌∙◌, ℕ, ◌+◌, ◌<◌, IsTrue, List, [], ◌∷◌, length, slice_index_or, slice_set, Option, Some, None, Contains, refl, ap, subst, arith}
use Rattle.std.proofs.lemmas.List.{get_or_read, get_or-map, length-map}
use Rattle.std.proofs.lemmas.List.Sorted.{Contains-permutation, IsPermutation-sym}
use Rattle.std.proofs.lemmas.List.Elements.{Contains-append_left, Contains-get_or}
use Rattle.racp_model.specs.Project.{Project}
use Rattle.racp_model.specs.Formed.{IsFormed}
use Rattle.racp_model.specs.declared.question.Question.{Question}
use Rattle.racp_model.proofs.lemmas.Relations.{member_first}
use Rattle.racp_search.specs.Truth.{SearchPiece}
use Rattle.racp_questions.specs.FirstYes.{no_question}
use Rattle.racp_core.specs.Machine.{QuestionRow, KnownYes, Machine, all_questions, row_at, no_row, is_before}
use Rattle.racp_core.specs.Steps.{IsSent, IsLeastOpen, HasNoOpen, IsPieceTaken, out_of}
use Rattle.racp_core.specs.Rows.{IsFirstReady, IsCut}
use Rattle.racp_core.specs.Truth.{IsState}
use Rattle.racp_core.proofs.Tests.{below_yes, before_yes, undecided_is, undecided_if}
use Rattle.racp_core.proofs.Places.{empty_from}
use Rattle.racp_core.proofs.Questions.{questions_in}
use Rattle.racp_core.proofs.States.{state_sent}

-- what stands before a place before the least yes does too
before_down : (least : Option KnownYes) (i j : ℕ) → IsTrue (is_before least i) → j < i → IsTrue (is_before least j)
before_down None i j b l = refl
before_down (Some y) i j b l = let o = below_yes y i b in before_yes y j (omega (arith, o, l))

module _ (p : Project) (m : Machine) (places : List ℕ) (h : IsState p m places) where
  -- no undecided question has an open window
  pub none_ready : ((i : ℕ) → Contains places i → i < length m.asked → (row_at m.asked i).ready ≡ []) → HasNoOpen m
  none_ready none i l b = empty_from (row_at m.asked i).ready (λ some. (let e = ap length (none i ((h.undecided i).1 (undecided_if m.least m.asked i b (omega (arith, some)))) l) in omega (arith, e, some)))

  -- the first that has one
  pub least_ready : (i : ℕ) → IsFirstReady m.asked places i → IsLeastOpen m i
  least_ready i first = record {
    asked = first.asked_there;
    before = (undecided_is m.least m.asked i ((h.undecided i).0 first.is)).1;
    some = first.some;
    least = λ j l. empty_from (row_at m.asked j).ready (λ some.
        (let b = before_down m.least i j (undecided_is m.least m.asked i ((h.undecided i).0 first.is)).1 l in
        let e = ap length (first.least j ((h.undecided j).1 (undecided_if m.least m.asked j b (omega (arith, some)))) l) in
        omega (arith, e, some)));
  }

  -- an open window of it goes out
  module _ (index taken seat : ℕ) (row new : QuestionRow) (piece : SearchPiece) (first : IsFirstReady m.asked places index) (here : row ≡ slice_index_or m.asked index row) (cut : IsCut taken seat index row piece new) where
    taken_row : row ≡ row_at m.asked index
    taken_row = get_or_read m.asked index row first.asked_there here no_row

    taken_sent : IsSent (out_of piece) (row_at m.asked index) new
    taken_sent = subst (λ (r : QuestionRow). IsSent (out_of piece) r new) taken_row cut.sent

    pub state_taken : (count : ℕ) → IsState p (record m { asked = slice_set m.asked index new; taken = count }) places
    state_taken count =
        let least = least_ready index first in
        state_sent p m places index count (out_of piece) new least.asked least.before least.some taken_sent h

    pub taken_step : taken ≡ m.taken → IsPieceTaken m seat piece (record m { asked = slice_set m.asked index new; taken = m.taken + 1 })
    taken_step e =
        subst (λ (k : ℕ). IsLeastOpen m k → piece.question.capacities ≡ (row_at m.asked k).question.capacities → IsSent (out_of piece) (row_at m.asked k) new → IsPieceTaken m seat piece (record m { asked = slice_set m.asked k new; taken = m.taken + 1 })) cut.placed
        (λ least same sent. record { least = least; number = cut.numbered ∙ e; seated = cut.seated; capacities = same; row = (new, sent, refl) })
        (least_ready index first) (cut.capacities ∙ ap (λ (r : QuestionRow). r.question.capacities) taken_row) taken_sent

    pub taken_formed : IsFormed p piece.question
    taken_formed =
        let least = least_ready index first in
        let kept = h.sound.kept index least.asked least.before in
        let ready : Contains (row_at m.asked index).ready piece.question.window =
        Contains-permutation (piece.question.window ∷ new.ready) (row_at m.asked index).ready piece.question.window (IsPermutation-sym (row_at m.asked index).ready (piece.question.window ∷ new.ready) taken_sent.1) (member_first piece.question.window new.ready piece.question.window refl) in
        let long : length (questions_in m.asked) ≡ length m.asked = length-map m.asked (λ (r : QuestionRow). r.question) in
        let there : Contains (all_questions m) (row_at m.asked index).question =
        Contains-append_left (questions_in m.asked) m.to_come (row_at m.asked index).question
        (subst (λ (q : Question). Contains (questions_in m.asked) q) (get_or-map (λ (r : QuestionRow). r.question) m.asked index no_row no_question least.asked) (Contains-get_or (questions_in m.asked) index no_question (let l = least.asked in omega (arith, long, l)))) in
        let formed = h.sound.formed (row_at m.asked index).question there in
        record {
          capacities = ap length (cut.capacities ∙ ap (λ (r : QuestionRow). r.question.capacities) taken_row) ∙ formed.capacities;
          bounds = kept.bounds piece.question.window (Contains-append_left (row_at m.asked index).ready _ piece.question.window ready);
        }
