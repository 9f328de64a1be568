-- Open windows are discarded from a place on, question by question.
use Rattle.std.proofs.Common.{◌≡◌, ◌∙◌, inl, inr, ℕ, ◌+◌, ◌<◌, ◌≤◌, List, length, slice_index_or, slice_set, refl, ap, arith}
use Rattle.std.proofs.lemmas.List.{get_or-set_same, get_or-set_other, length-set, get_or_read}
use Rattle.std.proofs.lemmas.Bool.{cases_eq}
use Rattle.racp_core.specs.Machine.{QuestionRow, row_at, no_row}
use Rattle.racp_core.specs.Steps.{AreShutFrom, shut}

-- as far as a place
pub record IsShutting (index place : ℕ) (old new : List QuestionRow) : Type 0 where
  pub places : length new ≡ length old
  pub before : (i : ℕ) → i < index → row_at new i ≡ row_at old i
  pub between : (i : ℕ) → index ≤ i → i < place → i < length old → row_at new i ≡ shut (row_at old i)
  pub later : (i : ℕ) → place ≤ i → row_at new i ≡ row_at old i

pub shutting_start : (index : ℕ) (rows : List QuestionRow) → IsShutting index index rows rows
shutting_start index rows = record {
  places = refl;
  before = λ i l. refl;
  between = λ i l m. absurd (omega (arith, l, m));
  later = λ i l. refl;
}

pub shutting_step : (index place : ℕ) (old new next : List QuestionRow) (row after : QuestionRow) → index ≤ place → place < length new → row ≡ slice_index_or new place row → after ≡ shut row → next ≡ slice_set new place after → IsShutting index place old new → IsShutting index (place + 1) old next
shutting_step index place old new next row after from l here is e h = rw e (record {
  places = length-set new place after ∙ h.places;
  before = λ i b. get_or-set_other new place i after no_row (λ same. omega (arith, same, b, from)) ∙ h.before i b;
  between = λ i a b c. elim (cases_eq i place) [
    | inl same ↦ rw (same, get_or-set_same new place after no_row l) (is ∙ ap shut (get_or_read new place row l here no_row ∙ h.later place (omega arith)))
    | inr other ↦ get_or-set_other new place i after no_row other ∙ h.between i a (omega (arith, b, other)) c
  ];
  later = λ i a. get_or-set_other new place i after no_row (λ same. omega (arith, same, a)) ∙ h.later i (omega (arith, a));
})

pub shutting_end : (index place : ℕ) (old new : List QuestionRow) → length new ≤ place → IsShutting index place old new → AreShutFrom index old new
shutting_end index place old new l h = record {
  places = h.places;
  before = h.before;
  after = λ i a b. h.between i a (let e = h.places in omega (arith, e, b, l)) b;
}
