-- What the tests of a state say: which places stand before the least yes, and which questions are undecided.
use Rattle.std.proofs.Common.{◌≡◌, ◌∙◌, ◌⊎◌, inl, inr, ℕ, ◌+◌, ◌<◌, ◌&&◌, Bool, true, false, nat_lt, IsTrue, IsFalse, List, length, Option, Some, refl, sym, ap, arith}
use Rattle.std.proofs.lemmas.List.{get_or_past}
use Rattle.std.proofs.lemmas.Bool.{cases_lt, ltb-true, lt-ltb}
use Rattle.racp_core.specs.Machine.{QuestionRow, KnownYes, row_at, no_row, is_before, is_undecided, IsDone}
use Rattle.racp_core.proofs.Places.{empty_from}

-- a test says yes or no, and not both
pub yes_or_no : (b : Bool) → IsTrue b ⊎ IsFalse b
yes_or_no true = inl refl
yes_or_no false = inr refl

pub not_both : (b : Bool) → IsTrue b → IsFalse b → ⊥
not_both b holds fails = absurd (let clash = sym holds ∙ fails in cc clash)

pub no_from : (b : Bool) → (IsTrue b → ⊥) → IsFalse b
no_from true h = absurd (h refl)
no_from false h = refl

-- two tests
both : (a b : Bool) → (a && b) ≡ true → (a ≡ true) × (b ≡ true)
both true true e = (refl, refl)
both true false e = absurd (cc e)
both false b e = absurd (cc e)

and_true : (a b : Bool) → a ≡ true → b ≡ true → (a && b) ≡ true
and_true a b e f = rw (e, f) refl

-- what stands before a yes has a lower place
pub below_yes : (y : KnownYes) (i : ℕ) → IsTrue (is_before (Some y) i) → i < y.index
below_yes y i before = ltb-true i y.index before

pub before_yes : (y : KnownYes) (i : ℕ) → i < y.index → IsTrue (is_before (Some y) i)
before_yes y i below = lt-ltb i y.index below

-- nothing of a question is open or out, or something is
pub done_from : (row : QuestionRow) → (0 < length row.ready + length row.out → ⊥) → IsDone row
done_from row h = (empty_from row.ready (λ l. h (omega (arith, l))), empty_from row.out (λ l. h (omega (arith, l))))

pub busy_done : (row : QuestionRow) → IsDone row → 0 < length row.ready + length row.out → ⊥
busy_done row (ready, out) busy = let a = ap length ready in let b = ap length out in omega (arith, a, b, busy)

module _ (least : Option KnownYes) (asked : List QuestionRow) (i : ℕ) where
  -- at a place where something is open or out a question was asked
  asked_there : 0 < length (row_at asked i).ready + length (row_at asked i).out → i < length asked
  asked_there busy = elim (cases_lt i (length asked)) [
    | inl there ↦ there
    | inr past ↦ let none = ap (λ (r : QuestionRow). length r.ready + length r.out) (get_or_past asked i no_row past) in absurd (omega (arith, none, busy))
  ]

  -- an undecided question was asked and stands before the least yes, and something of it is open or out
  pub undecided_is : IsTrue (is_undecided least asked i) → (i < length asked) × IsTrue (is_before least i) × (0 < length (row_at asked i).ready + length (row_at asked i).out)
  undecided_is undecided =
      let parts = both (is_before least i) (nat_lt 0 (length (row_at asked i).ready + length (row_at asked i).out)) undecided in
      let busy = ltb-true 0 (length (row_at asked i).ready + length (row_at asked i).out) parts.1 in
      (asked_there busy, parts.0, busy)

  pub undecided_if : IsTrue (is_before least i) → 0 < length (row_at asked i).ready + length (row_at asked i).out → IsTrue (is_undecided least asked i)
  undecided_if before busy =
      and_true (is_before least i) (nat_lt 0 (length (row_at asked i).ready + length (row_at asked i).out)) before
      (lt-ltb 0 (length (row_at asked i).ready + length (row_at asked i).out) busy)

  -- nothing is open or out of a question before the least yes that is decided
  pub decided_done : IsTrue (is_before least i) → IsFalse (is_undecided least asked i) → IsDone (row_at asked i)
  decided_done before decided = done_from (row_at asked i) (λ busy. not_both (is_undecided least asked i) (undecided_if before busy) decided)
