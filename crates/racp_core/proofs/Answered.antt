-- What is true of the collector's states stays true where a yes comes in.
use Rattle.std.proofs.Common.{◌≡◌, ◌∙◌, inl, inr, ℕ, ◌<◌, Bool, true, false, nat_le, if◌then◌else◌, IsTrue, IsFalse, List, [], ◌++◌, length, slice_set, Option, Some, None, refl, ap, arith}
use Rattle.std.proofs.lemmas.List.{get_or-set_other}
use Rattle.std.proofs.lemmas.Bool.{cases_lt}
use borrow.Author.Tests.{leb-true, leb-false}
use Rattle.racp_model.specs.Project.{Project}
use Rattle.racp_model.specs.Window.{Answers}
use Rattle.racp_search.specs.Truth.{SearchPiece}
use Rattle.racp_core.specs.Machine.{QuestionRow, KnownYes, Machine, all_questions, row_at, no_row, is_before}
use Rattle.racp_core.specs.Truth.{IsKept, HasAnswer, IsSoundState}
use Rattle.racp_core.specs.Steps.{IsOut, IsBack, out_of, lesser, AreShutFrom}
use Rattle.racp_core.proofs.Tests.{not_both, no_from, below_yes, before_yes}
use Rattle.racp_core.proofs.Kept.{lies_inside, out_held}
use Rattle.racp_core.proofs.Questions.{questions_in, AreSameQuestions, set_same, shut_same, same_trans, same_all}
use Rattle.racp_core.proofs.Sound.{answer_stays, formed_stays}

-- what stands before the lesser of two yeses stands before both
pub before_lesser : (least : Option KnownYes) (y : KnownYes) (i : ℕ) → IsTrue (is_before (Some (lesser least y)) i) → IsTrue (is_before least i) × (i < y.index)
before_lesser None y i b = (refl, below_yes y i b)
before_lesser (Some x) y i b = go (nat_le x.index y.index) refl (below_yes (lesser (Some x) y) i b)
  where
    go : (t : Bool) → nat_le x.index y.index ≡ t → i < (if t then x else y).index → IsTrue (is_before (Some x) i) × (i < y.index)
    go true e l = let o = leb-true x.index y.index e in (before_yes x i l, omega (arith, o, l))
    go false e l = let o = leb-false x.index y.index e in (before_yes x i (omega (arith, o, l)), l)

-- and the other way round
pub lesser_after : (least : Option KnownYes) (y : KnownYes) (i : ℕ) → IsTrue (is_before least i) → i < y.index → IsTrue (is_before (Some (lesser least y)) i)
lesser_after None y i b l = before_yes y i l
lesser_after (Some x) y i b l = before_yes (lesser (Some x) y) i (go (nat_le x.index y.index) refl)
  where
    go : (t : Bool) → nat_le x.index y.index ≡ t → i < (if t then x else y).index
    go true e = below_yes x i b
    go false e = l

-- the lesser of two yeses has an answer
lesser_answer : (p : Project) (asked next : List QuestionRow) (least : Option KnownYes) (index : ℕ) (starts : List ℕ) → AreSameQuestions asked next → index < length asked →
    (IsTrue (is_before least index) → Answers p (row_at asked index).question.capacities (row_at asked index).question.window starts) → HasAnswer p asked least → HasAnswer p next (Some (lesser least (record { index = index; starts = starts })))
lesser_answer p asked next None index starts same there new h = answer_stays p asked next (Some (record { index = index; starts = starts })) same (there, new refl)
lesser_answer p asked next (Some x) index starts same there new h = go (nat_le x.index index) refl
  where
    go : (t : Bool) → nat_le x.index index ≡ t → HasAnswer p next (Some (if t then x else record { index = index; starts = starts }))
    go true e = answer_stays p asked next (Some x) same h
    go false e = let o = leb-false x.index index e in answer_stays p asked next (Some (record { index = index; starts = starts })) same (there, new (before_yes x index (omega (arith, o))))

-- a piece comes back with a yes
pub sound_answered : (p : Project) (m : Machine) (piece : SearchPiece) (starts : List ℕ) (row : QuestionRow) (next : List QuestionRow) → IsOut m piece → IsBack (out_of piece) [] (row_at m.asked piece.index) row →
    AreShutFrom piece.index (slice_set m.asked piece.index row) next → Answers p piece.question.capacities piece.question.window starts → IsSoundState p m →
    IsSoundState p (record m { asked = next; least = Some (lesser m.least (record { index = piece.index; starts = starts })) })
sound_answered p m piece starts row next (there, capacities, out) back shutting answer h = record {
  kept = kept;
  answers = lesser_answer p m.asked next m.least piece.index starts same there new h.answers;
  shut = shut_after;
  formed = formed_stays p (all_questions m) (questions_in next ++ m.to_come) (same_all m.asked next m.to_come same) h.formed;
  finished = h.finished;
}
  where
    set_there : AreSameQuestions m.asked (slice_set m.asked piece.index row)
    set_there = set_same m.asked piece.index row there back.0

    same : AreSameQuestions m.asked next
    same = same_trans m.asked (slice_set m.asked piece.index row) next set_there (shut_same piece.index (slice_set m.asked piece.index row) next shutting)

    stays : (i : ℕ) → i < piece.index → row_at next i ≡ row_at m.asked i
    stays i l = shutting.before i l ∙ get_or-set_other m.asked piece.index i row no_row (λ e. absurd (omega (arith, e, l)))

    kept : (i : ℕ) → i < length next → IsTrue (is_before (Some (lesser m.least (record { index = piece.index; starts = starts }))) i) → IsKept p (row_at next i)
    kept i l b =
        let both = before_lesser m.least (record { index = piece.index; starts = starts }) i b in
        rw (stays i both.1) (h.kept i (let e = same.places in omega (arith, l, e)) both.0)

    new : IsTrue (is_before m.least piece.index) → Answers p (row_at m.asked piece.index).question.capacities (row_at m.asked piece.index).question.window starts
    new b = record {
      lies = lies_inside p (row_at m.asked piece.index).question.window piece.question.window starts ((h.kept piece.index there b).inside piece.question.window (out_held (out_of piece) (row_at m.asked piece.index) out)) answer.lies;
      fits = rw (← capacities) answer.fits;
    }

    shut_after : (i : ℕ) → i < length next → IsFalse (is_before (Some (lesser m.least (record { index = piece.index; starts = starts }))) i) → (row_at next i).ready ≡ []
    shut_after i l b = elim (cases_lt i piece.index) [
      | inl before ↦
          let not : IsFalse (is_before m.least i) =
          no_from (is_before m.least i) (λ was. not_both (is_before (Some (lesser m.least (record { index = piece.index; starts = starts }))) i) (lesser_after m.least (record { index = piece.index; starts = starts }) i was before) b) in
          rw (stays i before) (h.shut i (let e = same.places in omega (arith, l, e)) not)
      | inr after ↦ ap (λ (r : QuestionRow). r.ready) (shutting.after i (omega (arith, after)) (let e = same.places in let f = set_there.places in omega (arith, l, e, f)))
    ]
