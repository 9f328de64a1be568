-- The places of the undecided questions, where the rows change.
use Rattle.std.proofs.Common.{◌≡◌, ◌∙◌, inl, inr, ℕ, ◌+◌, ◌<◌, IsTrue, List, [], ◌∷◌, ◌++◌, length, slice_set, Option, Some, None, Contains, refl, sym, ap, subst, arith, length-append}
use Rattle.std.proofs.lemmas.List.{get_or-set_same, get_or-set_other, get_or_append_left, get_or_push}
use Rattle.std.proofs.lemmas.Bool.{cases_eq, cases_lt}
use Rattle.racp_model.specs.declared.question.Question.{Question}
use Rattle.racp_core.specs.Machine.{PieceOut, QuestionRow, KnownYes, opened, row_at, no_row, is_undecided}
use Rattle.racp_core.specs.Steps.{IsSent, lesser, AreShutFrom}
use Rattle.racp_core.specs.Rows.{IsAdded, IsCutAt, IsRemovedIfDone}
use Rattle.racp_core.specs.Truth.{AreUndecided}
use Rattle.racp_core.proofs.Tests.{undecided_is, undecided_if}
use Rattle.racp_core.proofs.Answered.{before_lesser, lesser_after}

-- one question more
pub open_asked : (asked : List QuestionRow) (question : Question) (places more : List ℕ) → AreUndecided None asked places → IsAdded places (length asked) more → AreUndecided None (asked ++ opened question ∷ []) more
open_asked asked question places more h added i = (there, back)
  where
    long : length (asked ++ opened question ∷ []) ≡ length asked + 1
    long = length-append asked (opened question ∷ [])

    at_end : (k : ℕ) → length asked ≡ k → row_at (asked ++ opened question ∷ []) k ≡ opened question
    at_end k e = get_or_push asked (opened question) no_row k e

    there : Contains more i → IsTrue (is_undecided None (asked ++ opened question ∷ []) i)
    there c = elim ((added i).0 c) [
      | inl old ↦
          let was = undecided_is None asked i ((h i).0 old) in
          undecided_if None (asked ++ opened question ∷ []) i refl (rw (get_or_append_left asked (opened question ∷ []) no_row i was.0) was.2)
      | inr e ↦ undecided_if None (asked ++ opened question ∷ []) i refl (rw (at_end i (sym e)) (omega arith))
    ]

    back : IsTrue (is_undecided None (asked ++ opened question ∷ []) i) → Contains more i
    back undecided =
        let is = undecided_is None (asked ++ opened question ∷ []) i undecided in
        elim (cases_lt i (length asked)) [
          | inl before ↦ (added i).1 (inl ((h i).1 (undecided_if None asked i refl (subst (λ (r : QuestionRow). 0 < length r.ready + length r.out) (get_or_append_left asked (opened question ∷ []) no_row i before) is.2))))
          | inr after ↦ (added i).1 (inr (omega (arith, after, is.0, long)))
        ]

-- one row changes
pub open_set : (least : Option KnownYes) (asked : List QuestionRow) (index : ℕ) (row : QuestionRow) (places more : List ℕ) → index < length asked → 0 < length (row_at asked index).ready + length (row_at asked index).out →
    AreUndecided least asked places → IsRemovedIfDone (slice_set asked index row) places index more → AreUndecided least (slice_set asked index row) more
open_set least asked index row places more l busy h settled i = (there, back)
  where
    there : Contains more i → IsTrue (is_undecided least (slice_set asked index row) i)
    there c =
        let was = (settled i).0 c in
        let old = undecided_is least asked i ((h i).0 was.0) in
        undecided_if least (slice_set asked index row) i old.1 (elim (cases_eq i index) [
          | inl e ↦ rw e (was.1 e)
          | inr other ↦ rw (get_or-set_other asked index i row no_row other) old.2
        ])

    back : IsTrue (is_undecided least (slice_set asked index row) i) → Contains more i
    back undecided =
        let is = undecided_is least (slice_set asked index row) i undecided in
        (settled i).1 (elim (cases_eq i index) [
          | inl e ↦ ((h i).1 (undecided_if least asked i is.1 (rw e busy)), λ _. subst (λ (k : ℕ). 0 < length (row_at (slice_set asked index row) k).ready + length (row_at (slice_set asked index row) k).out) e is.2)
          | inr other ↦ ((h i).1 (undecided_if least asked i is.1 (subst (λ (r : QuestionRow). 0 < length r.ready + length r.out) (get_or-set_other asked index i row no_row other) is.2)), λ e. absurd (other e))
        ])

-- a piece goes out
pub open_sent : (least : Option KnownYes) (asked : List QuestionRow) (index : ℕ) (piece : PieceOut) (row : QuestionRow) (places : List ℕ) → index < length asked → 0 < length (row_at asked index).ready →
    IsSent piece (row_at asked index) row → AreUndecided least asked places → AreUndecided least (slice_set asked index row) places
open_sent least asked index piece row places l some sent h =
    open_set least asked index row places places l (omega (arith, some)) h (λ i. (λ c. (c, λ _. rw (get_or-set_same asked index row no_row l) busy), λ c. c.0))
  where
    long : length row.out ≡ length (row_at asked index).out + 1
    long = ap (λ (xs : List PieceOut). length xs) sent.2 ∙ length-append (row_at asked index).out (piece ∷ [])

    busy : 0 < length row.ready + length row.out
    busy = omega (arith, long)

-- a yes comes in
pub open_cut : (least : Option KnownYes) (asked next : List QuestionRow) (index : ℕ) (row : QuestionRow) (starts : List ℕ) (places more : List ℕ) → index < length asked → AreShutFrom index (slice_set asked index row) next → IsCutAt places index more →
    AreUndecided least asked places → AreUndecided (Some (lesser least (record { index = index; starts = starts }))) next more
open_cut least asked next index row starts places more l shutting cutting h i = (there, back)
  where
    stays : i < index → row_at next i ≡ row_at asked i
    stays b = shutting.before i b ∙ get_or-set_other asked index i row no_row (λ e. absurd (omega (arith, e, b)))

    there : Contains more i → IsTrue (is_undecided (Some (lesser least (record { index = index; starts = starts }))) next i)
    there c =
        let was = (cutting i).0 c in
        let old = undecided_is least asked i ((h i).0 was.0) in
        undecided_if (Some (lesser least (record { index = index; starts = starts }))) next i (lesser_after least (record { index = index; starts = starts }) i old.1 was.1) (rw (stays was.1) old.2)

    back : IsTrue (is_undecided (Some (lesser least (record { index = index; starts = starts }))) next i) → Contains more i
    back undecided =
        let is = undecided_is (Some (lesser least (record { index = index; starts = starts }))) next i undecided in
        let both = before_lesser least (record { index = index; starts = starts }) i is.1 in
        (cutting i).1 ((h i).1 (undecided_if least asked i both.0 (subst (λ (r : QuestionRow). 0 < length r.ready + length r.out) (stays both.1) is.2)), both.1)
