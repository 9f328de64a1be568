-- The counts of a desk show its answer.
use Rattle.std.proofs.Common.{◌≡◌, ◌∙◌, inl, inr, ℕ, zero, suc, ◌+◌, ◌<◌, ◌≤◌, ◌&&◌, Bool, true, false, nat_lt, IsTrue, IsFalse, List, [], ◌∷◌, ◌++◌, length, map, take, min, ◌-◌, slice_index, Option, Some, None, refl, sym, ap, subst, arith}
use Rattle.std.specs.List.{slice_get}
use Rattle.std.specs.Option.{option_map}
use Rattle.std.proofs.lemmas.List.{get_or_past}
use Rattle.std.proofs.lemmas.Bool.{cases_lt, ltb-true, lt-ltb}
use Rattle.racp_core.specs.Machine.{Machine, KnownYes, QuestionRow, IsSettled, IsSettledBy, IsDone, AreDone, is_before, is_undecided, row_at, no_row, all_questions}
use Rattle.racp_model.specs.declared.question.Question.{Question}
use Rattle.racp_core.specs.Replies.{IsOutcome, IsFirstOpen, reached_by}
use Rattle.racp_core.specs.declared.replies.Outcome.{Outcome}
use Rattle.racp_core.specs.declared.replies.Outcome.TheVariants.{First, NoYes, Open}
use Rattle.racp_desk.specs.Log.{Tally}
use Rattle.racp_desk.specs.Desk.{Counts}
use Rattle.racp_desk.specs.Closing.{IsQuietAt, IsFirstLeft, Shows, told_of}
use Rattle.racp_desk.proofs.Counted.{same_test, before_yes}
use Rattle.racp_desk.proofs.Allowed.{earlier}

-- two tests
both : (a b : Bool) → (a && b) ≡ true → (a ≡ true) × (b ≡ true)
both true true e = (refl, refl)
both true false e = absurd (cc e)
both false b e = absurd (cc e)

-- what is open or out of an undecided question
something_left : (least : Option KnownYes) (asked : List QuestionRow) (i : ℕ) → IsTrue (is_undecided least asked i) → IsTrue (is_before least i) × (0 < length (row_at asked i).ready + length (row_at asked i).out)
something_left least asked i undecided =
    let parts = both (is_before least i) (nat_lt 0 (length (row_at asked i).ready + length (row_at asked i).out)) undecided in
    (parts.0, ltb-true 0 (length (row_at asked i).ready + length (row_at asked i).out) parts.1)

-- nothing is of a decided one
none_busy : (before : Bool) (n : ℕ) → before ≡ true → (before && nat_lt 0 n) ≡ false → n ≡ 0
none_busy before zero b e = refl
none_busy true (suc n) b e = absurd (let busy = lt-ltb 0 (suc n) (omega arith) in cc (busy, e))
none_busy false (suc n) b e = absurd (cc b)

nothing_left : (least : Option KnownYes) (asked : List QuestionRow) (i : ℕ) → IsTrue (is_before least i) → IsFalse (is_undecided least asked i) → length (row_at asked i).ready + length (row_at asked i).out ≡ 0
nothing_left least asked i before decided = none_busy (is_before least i) (length (row_at asked i).ready + length (row_at asked i).out) before decided

empty_of : {X : Type 0} (xs : List X) → length xs ≡ 0 → xs ≡ []
empty_of [] e = refl
empty_of (x ∷ xs) e = absurd (omega (arith, e))

done_from : (row : QuestionRow) → length row.ready + length row.out ≡ 0 → IsDone row
done_from row e = (empty_of row.ready (omega (arith, e)), empty_of row.out (omega (arith, e)))

-- nothing stands behind the end
past_end : (xs : List ℕ) (i : ℕ) → length xs ≤ i → slice_index xs i ≡ 0
past_end [] i l = refl
past_end (x ∷ xs) zero l = absurd (omega (arith, l))
past_end (x ∷ xs) (suc i) l = past_end xs i (omega (arith, l))

-- a question that is done is quiet
done_quiet : (t : Tally) (m : Machine) (n i : ℕ) → Counts t m → AreDone m.asked n → i < n → IsTrue (is_before m.least i) → IsQuietAt t i
done_quiet t m n i h done l b = elim (cases_lt i (length m.asked)) [
  | inl there ↦ (h.ready i there b ∙ ap (λ xs. length xs) (done i l).0, h.out i there ∙ ap (λ xs. length xs) (done i l).1)
  | inr past ↦ (let p = h.ready_places in let q = h.out_places in (past_end t.ready i (omega (arith, p, past)), past_end t.out i (omega (arith, q, past))))
]

-- a question before the least yes that is decided is quiet
decided_quiet : (t : Tally) (m : Machine) (i : ℕ) → Counts t m → i < length m.asked → IsTrue (is_before m.least i) → IsFalse (is_undecided m.least m.asked i) → IsQuietAt t i
decided_quiet t m i h there before decided =
    let none = nothing_left m.least m.asked i before decided in
    let ready = h.ready i there before in
    let out = h.out i there in
    (omega (arith, ready, none), omega (arith, out, none))

-- nothing is open or out of any question before a yes, where each asked question is decided
done_before : (m : Machine) (y : KnownYes) → m.least ≡ Some y → ((i : ℕ) → i < length m.asked → IsFalse (is_undecided m.least m.asked i)) → AreDone m.asked y.index
done_before m y is decided i l = elim (cases_lt i (length m.asked)) [
  | inl there ↦ done_from (row_at m.asked i) (nothing_left m.least m.asked i (rw is (before_yes y i l)) (decided i there))
  | inr past ↦ rw (get_or_past m.asked i no_row past) (refl, refl)
]

-- the first question that is not decided
first_left : (t : Tally) (m : Machine) (index : ℕ) → Counts t m → (IsSettled m → ⊥) → IsFirstOpen m index → IsFirstLeft t index
first_left t m index h pending first = elim (cases_lt index (length m.asked)) [
  | inl there ↦ (let parts = something_left m.least m.asked index (first.open_there there) in record {
    most = (let p = h.ready_places in let l = first.most in omega (arith, p, l));
    quiet = λ i l. decided_quiet t m i h (omega (arith, there, l)) (earlier m.least index i parts.0 l) (first.decided i l);
    before = λ l. rw (h.least, same_test m.least index) parts.0;
    busy = λ l. (let ready = h.ready index there parts.0 in let out = h.out index there in let some = parts.1 in omega (arith, ready, out, some));
    unasked = λ e. absurd (let p = h.ready_places in omega (arith, p, e, there));
  })
  | inr past ↦ (let all : (i : ℕ) → i < length m.asked → IsFalse (is_undecided m.least m.asked i) = λ i l. first.decided i (omega (arith, past, l)) in
      let none = no_yes m.least refl all in record {
        most = (let p = h.ready_places in let l = first.most in omega (arith, p, l));
        quiet = λ i l. (let k : i < length m.asked = (let f = first.most in omega (arith, f, l)) in decided_quiet t m i h k (rw none refl) (all i k));
        before = λ l. absurd (let p = h.ready_places in omega (arith, p, l, past));
        busy = λ l. absurd (let p = h.ready_places in omega (arith, p, l, past));
        unasked = λ e. h.least ∙ ap (λ (y : Option KnownYes). option_map (λ (z : KnownYes). z.index) y) none;
      })
]
  where
    no_yes : (least : Option KnownYes) → m.least ≡ least → ((i : ℕ) → i < length m.asked → IsFalse (is_undecided m.least m.asked i)) → m.least ≡ None
    no_yes None is all = is
    no_yes (Some y) is all = absurd (pending (subst (λ (x : Option KnownYes). IsSettledBy x m.ended m.asked) (sym is) (done_before m y is all)))

pub shows_outcome : (t : Tally) (m : Machine) (outcome : Outcome) → Counts t m → IsOutcome m outcome → Shows t outcome
shows_outcome t m (First index starts) h answer =
    let done : AreDone m.asked index = subst (λ (y : Option KnownYes). IsSettledBy y m.ended m.asked) answer.1 answer.0 in (
      h.least ∙ ap (λ (y : Option KnownYes). option_map (λ (z : KnownYes). z.index) y) answer.1,
      λ i l. done_quiet t m index i h done l (subst (λ (y : Option KnownYes). IsTrue (is_before y i)) (sym answer.1) (before_yes (record { index = index; starts = starts }) i l)),
    )
shows_outcome t m NoYes h answer =
    let settled = subst (λ (y : Option KnownYes). IsSettledBy y m.ended m.asked) answer.1 answer.0 in (
      h.least ∙ ap (λ (y : Option KnownYes). option_map (λ (z : KnownYes). z.index) y) answer.1,
      λ i l. done_quiet t m (length m.asked) i h settled.1 (let p = h.ready_places in omega (arith, p, l)) (subst (λ (y : Option KnownYes). IsTrue (is_before y i)) (sym answer.1) refl),
    )
shows_outcome t m (Open index) h answer = first_left t m index h answer.0 answer.1

-- the capacities that are told
told_at : (asked : List QuestionRow) (later : List Question) (i : ℕ) → option_map (λ (r : QuestionRow). r.question.capacities) (slice_get asked i) ≡ option_map (λ (q : Question). q.capacities) (slice_get (take (length asked) (map (λ (r : QuestionRow). r.question) asked ++ later)) i)
told_at [] later i = refl
told_at (r ∷ rs) later zero = refl
told_at (r ∷ rs) later (suc i) = told_at rs later i

pub told_is : (t : Tally) (m : Machine) (series : List Question) (outcome : Outcome) → Counts t m → all_questions m ≡ series → reached_by m outcome ≡ told_of series (length t.ready) outcome
told_is t m series (First index starts) h same = refl
told_is t m series NoYes h same = refl
told_is t m series (Open index) h same = subst (λ (qs : List Question). reached_by m (Open index) ≡ told_of qs (length t.ready) (Open index)) same
    (subst (λ (n : ℕ). reached_by m (Open index) ≡ told_of (all_questions m) n (Open index)) (sym h.ready_places) (told_at m.asked m.to_come (min index (length m.asked - 1))))
