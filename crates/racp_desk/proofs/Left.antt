-- Each legal log is left by a run: what a collector can do next.
use Rattle.std.proofs.Common.{◌≡◌, ◌∙◌, inl, inr, ℕ, zero, suc, ◌+◌, ◌^◌, ◌<◌, ◌≤◌, Bool, true, false, IsTrue, List, [], ◌∷◌, ◌++◌, length, slice_index_or, slice_set, Option, Some, None, Contains, IsPermutation, refl, sym, ap, subst, arith, length-append}
use Rattle.std.specs.Option.{option_map, is_some}
use Rattle.std.specs.List.{swap_remove}
use Rattle.std.proofs.lemmas.List.{length-set, get_or-set_same, get_or-set_other, get_or_append_left, get_or_push}
use Rattle.std.proofs.lemmas.List.Sorted.{IsPermutation-refl, IsPermutation-swap_remove, Contains-permutation}
use Rattle.std.proofs.lemmas.List.Elements.{Contains-append_left, Contains-append_right}
use Rattle.std.proofs.lemmas.Bool.{cases_eq, cases_lt}
use denote.RawPtr.{null_ptr}
use Rattle.racp_model.specs.Window.{Bounds}
use Rattle.racp_model.specs.declared.question.Question.{Question}
use Rattle.racp_model.proofs.lemmas.Relations.{member_cases, member_first}
use Rattle.racp_search.specs.Truth.{SearchPiece}
use Rattle.racp_search.specs.declared.finding.Rest.{Rest}
use Rattle.racp_search.specs.declared.finding.Rest.TheVariants.{Windows}
use Rattle.racp_core.specs.Machine.{PieceOut, QuestionRow, KnownYes, Machine, IsSettled, IsSettledBy, opened, row_at, no_row, is_before}
use Rattle.racp_core.specs.Steps.{IsNextAsked, IsPieceTaken, IsLeastOpen, IsReturned, IsAnswered, AreShutFrom, out_of, shut, windows_before, lesser}
use Rattle.racp_desk.specs.Log.{TakenPiece, Tally, no_piece, piece_at, stands_before, IsLeastReady}
use Rattle.racp_desk.specs.Desk.{Counts}
use Rattle.racp_desk.proofs.Counted.{same_test, below_yes}
use Rattle.racp_desk.proofs.Allowed.{earlier}

-- each piece that is out by a tally is out of a collector, with a window of which so much is known
abbrev pub IsHeld : (ℕ → Bounds → Type 0) → Machine → ℕ → TakenPiece → Type 0
IsHeld Known m number piece = (piece.index < length m.asked) × (window : Bounds) × Known number window × Contains (row_at m.asked piece.index).out (record { number = number; seat = piece.seat; window = window })

abbrev pub Holds : (ℕ → Bounds → Type 0) → List TakenPiece → Machine → Type 0
Holds Known taken m = (number : ℕ) → number < length taken → (slice_index_or taken number no_piece).is_out ≡ true → IsHeld Known m number (slice_index_or taken number no_piece)

-- so many windows, as a rest
abbrev pub rest_of : (windows : List Bounds) → length windows < 2 ^ 63 → Rest
rest_of windows few = Windows (record { ptr = null_ptr; len = length windows; cap = length windows; alloc = record { memory = record { seal = tt } }; items = windows; ok = (refl, omega arith); small = few })

-- what was not told is not known
none_known : (least : Option KnownYes) → option_map (λ (y : KnownYes). y.index) least ≡ None → least ≡ None
none_known None e = refl
none_known (Some y) e = absurd (cc e)

-- a desk that was not halted runs
pub runs : (t : Tally) (m : Machine) → Counts t m → t.halt ≡ None → m.halted ≡ false
runs t m h none = sym h.halted ∙ ap is_some none

none_of : {X : Type 0} (xs : List X) → length xs ≡ 0 → xs ≡ []
none_of [] e = refl
none_of (x ∷ xs) e = absurd (omega (arith, e))

-- the next question is asked
module _ (t : Tally) (m : Machine) (question : Question) (later : List Question) (h : Counts t m) where
  abbrev pub asked_next : Machine
  asked_next = record m { asked = m.asked ++ opened question ∷ []; to_come = later }

  pub ask_step : (index : ℕ) → m.to_come ≡ question ∷ later → index ≡ length t.ready → t.least ≡ None → t.halt ≡ None → IsNextAsked m asked_next index
  ask_step index come place none running = record {
    running = runs t m h running;
    unknown = none_known m.least (sym h.least ∙ none);
    next = place ∙ h.ready_places;
    first = (question, later, come, refl);
  }

  pub ask_holds : (Known : ℕ → Bounds → Type 0) → Holds Known t.taken m → Holds Known t.taken asked_next
  ask_holds Known held number given out =
      let was = held number given out in
      let long = length-append m.asked (opened question ∷ []) in
      let there = was.0 in
      (omega (arith, there, long), was.1, was.2, rw (get_or_append_left m.asked (opened question ∷ []) no_row (piece_at t number).index there) was.3)

-- the least question with an open window
module _ (t : Tally) (m : Machine) (index : ℕ) (h : Counts t m) (least : IsLeastReady t index) where
  there : index < length m.asked
  there = (let p = h.ready_places in let l = least.asked in omega (arith, p, l))

  before : IsTrue (is_before m.least index)
  before = subst (λ (b : Bool). IsTrue b) (same_test m.least index) (subst (λ (y : Option ℕ). IsTrue (stands_before y index)) h.least least.before)

  pub least_open : IsLeastOpen m index
  least_open = record {
    asked = there;
    before = before;
    some = (let n = h.ready index there before in let l = least.some in omega (arith, n, l));
    least = λ j l. none_of (row_at m.asked j).ready (let n = h.ready j (let k = there in omega (arith, k, l)) (earlier m.least index j before l) in let z = least.least j l in omega (arith, n, z));
  }

-- a window of it goes out
module _ (t : Tally) (m : Machine) (seat number index : ℕ) (window : Bounds) (left : List Bounds) (h : Counts t m) (least : IsLeastOpen m index) (ready_is : (row_at m.asked index).ready ≡ window ∷ left) where
  abbrev pub sent_piece : SearchPiece
  sent_piece = record { number = number; seat = seat; index = index; question = record { capacities = (row_at m.asked index).question.capacities; window = window } }

  abbrev pub sent_row : QuestionRow
  sent_row = record { question = (row_at m.asked index).question; ready = left; out = (row_at m.asked index).out ++ out_of sent_piece ∷ [] }

  abbrev pub sent_next : Machine
  sent_next = record m { asked = slice_set m.asked index sent_row; taken = m.taken + 1 }

  -- the answer is not known
  unsettled : (yes : Option KnownYes) → IsTrue (is_before yes index) → IsSettledBy yes m.ended m.asked → ⊥
  unsettled None b settled = (let none = (settled.1 index least.asked).0 in let n = ap (λ (ws : List Bounds). length ws) (sym ready_is ∙ none) in omega (arith, n))
  unsettled (Some y) b settled = (let none = (settled index (below_yes y index b)).0 in let n = ap (λ (ws : List Bounds). length ws) (sym ready_is ∙ none) in omega (arith, n))

  pub take_step : number ≡ length t.taken → IsPieceTaken m seat sent_piece sent_next
  take_step e = record {
    least = least;
    number = e ∙ h.taken;
    seated = refl;
    capacities = refl;
    row = (sent_row, (refl, subst (λ (ws : List Bounds). IsPermutation ws (window ∷ left)) (sym ready_is) (IsPermutation-refl (window ∷ left)), refl), refl);
  }

  pub pending : IsSettled m → ⊥
  pending settled = unsettled m.least least.before settled

  -- what was out stays out
  stays : (j : ℕ) (x : PieceOut) → Contains (row_at m.asked j).out x → Contains (row_at sent_next.asked j).out x
  stays j x c = elim (cases_eq j index) [
    | inl e ↦ rw (e, get_or-set_same m.asked index sent_row no_row least.asked) (Contains-append_left (row_at m.asked index).out (out_of sent_piece ∷ []) x (subst (λ (k : ℕ). Contains (row_at m.asked k).out x) e c))
    | inr far ↦ rw (get_or-set_other m.asked index j sent_row no_row far) c
  ]

  places : length sent_next.asked ≡ length m.asked
  places = length-set m.asked index sent_row

  abbrev pub more_taken : List TakenPiece
  more_taken = t.taken ++ record { seat = seat; index = index; is_out = true } ∷ []

  pub take_holds : (Known : ℕ → Bounds → Type 0) → Known number window → number ≡ length t.taken → Holds Known t.taken m → Holds Known more_taken sent_next
  take_holds Known known e held k given out = elim (cases_lt k (length t.taken)) [
    | inl old ↦ (let same : slice_index_or more_taken k no_piece ≡ piece_at t k = get_or_append_left t.taken (record { seat = seat; index = index; is_out = true } ∷ []) no_piece k old in
        let was = held k old (ap (λ (p : TakenPiece). p.is_out) (sym same) ∙ out) in
        let within = was.0 in
        let far = places in
        subst (λ (p : TakenPiece). IsHeld Known sent_next k p) (sym same) (omega (arith, within, far), was.1, was.2, stays (piece_at t k).index (record { number = k; seat = (piece_at t k).seat; window = was.1 }) was.3))
    | inr new ↦ (let long = length-append t.taken (record { seat = seat; index = index; is_out = true } ∷ []) in
        let last : length t.taken ≡ k = omega (arith, long, given, new) in
        let same : slice_index_or more_taken k no_piece ≡ record { seat = seat; index = index; is_out = true } = get_or_push t.taken (record { seat = seat; index = index; is_out = true }) no_piece k last in
        let own : Contains (row_at sent_next.asked index).out (out_of sent_piece) = rw (get_or-set_same m.asked index sent_row no_row least.asked) (Contains-append_right (row_at m.asked index).out (out_of sent_piece ∷ []) (out_of sent_piece) (member_first (out_of sent_piece) [] (out_of sent_piece) refl)) in
        let here = least.asked in
        let far = places in
        subst (λ (p : TakenPiece). IsHeld Known sent_next k p) (sym same)
        (omega (arith, here, far), window, subst (λ (n : ℕ). Known n window) (e ∙ last) known, subst (λ (n : ℕ). Contains (row_at sent_next.asked index).out (record { number = n; seat = seat; window = window })) (e ∙ last) own))
  ]

-- one that is in a list can be taken out of it, and the others stay
removed : {X : Type 0} (xs : List X) (x : X) → Contains xs x → (ys : List X) × IsPermutation xs (x ∷ ys)
removed xs x c = (swap_remove xs c.0 x, IsPermutation-swap_remove xs c.0 x c.1 (sym c.2))

still_out : (old new : List PieceOut) (piece x : PieceOut) → IsPermutation old (piece ∷ new) → Contains old x → (x.number ≡ piece.number → ⊥) → Contains new x
still_out old new piece x back c other = elim (member_cases piece new x (Contains-permutation old (piece ∷ new) x back c)) [
  | inl is ↦ absurd (other (ap (λ (p : PieceOut). p.number) (sym is)))
  | inr still ↦ still
]

-- after a piece came in the others are held as before
holds_others : (Known Then : ℕ → Bounds → Type 0) (taken : List TakenPiece) (m next : Machine) (number : ℕ) (gone : TakenPiece) → gone.is_out ≡ false → ((k : ℕ) (w : Bounds) → (k ≡ number → ⊥) → Known k w → Then k w) → Holds Known taken m →
    length next.asked ≡ length m.asked → ((j : ℕ) (x : PieceOut) → j < length m.asked → Contains (row_at m.asked j).out x → (x.number ≡ number → ⊥) → Contains (row_at next.asked j).out x) → Holds Then (slice_set taken number gone) next
holds_others Known Then taken m next number gone is_in on held places stays k given out =
    let long = length-set taken number gone in
    elim (cases_eq k number) [
      | inl e ↦ (let same : slice_index_or (slice_set taken number gone) k no_piece ≡ gone = rw e (get_or-set_same taken number gone no_piece (omega (arith, given, long, e))) in
          let wrong = sym is_in ∙ (ap (λ (p : TakenPiece). p.is_out) (sym same) ∙ out) in absurd (cc wrong))
      | inr other ↦ (let same : slice_index_or (slice_set taken number gone) k no_piece ≡ slice_index_or taken k no_piece = get_or-set_other taken number k gone no_piece other in
          let was = held k (omega (arith, given, long)) (ap (λ (p : TakenPiece). p.is_out) (sym same) ∙ out) in
          let within = was.0 in
          subst (λ (p : TakenPiece). IsHeld Then next k p) (sym same)
          (omega (arith, within, places), was.1, on k was.1 other was.2, stays (slice_index_or taken k no_piece).index (record { number = k; seat = (slice_index_or taken k no_piece).seat; window = was.1 }) was.0 was.3 other))
    ]

-- rows that are shut from a place on
abbrev pub shut_from : ℕ → List QuestionRow → List QuestionRow
shut_from n [] = []
shut_from zero (r ∷ rs) = shut r ∷ shut_from zero rs
shut_from (suc n) (r ∷ rs) = r ∷ shut_from n rs

pub shut_places : (n : ℕ) (rows : List QuestionRow) → length (shut_from n rows) ≡ length rows
shut_places n [] = refl
shut_places zero (r ∷ rs) = ap suc (shut_places zero rs)
shut_places (suc n) (r ∷ rs) = ap suc (shut_places n rs)

pub shut_before : (n : ℕ) (rows : List QuestionRow) (i : ℕ) → i < n → row_at (shut_from n rows) i ≡ row_at rows i
shut_before n [] i l = refl
shut_before zero (r ∷ rs) i l = absurd (omega (arith, l))
shut_before (suc n) (r ∷ rs) zero l = refl
shut_before (suc n) (r ∷ rs) (suc i) l = shut_before n rs i (omega (arith, l))

shut_after : (n : ℕ) (rows : List QuestionRow) (i : ℕ) → n ≤ i → i < length rows → row_at (shut_from n rows) i ≡ shut (row_at rows i)
shut_after n [] i from l = absurd (omega (arith, l))
shut_after zero (r ∷ rs) zero from l = refl
shut_after zero (r ∷ rs) (suc i) from l = shut_after zero rs i (omega arith) (omega (arith, l))
shut_after (suc n) (r ∷ rs) zero from l = absurd (omega (arith, from))
shut_after (suc n) (r ∷ rs) (suc i) from l = shut_after n rs i (omega (arith, from)) (omega (arith, l))

shut_is : (n : ℕ) (rows : List QuestionRow) → AreShutFrom n rows (shut_from n rows)
shut_is n rows = record { places = shut_places n rows; before = shut_before n rows; after = shut_after n rows }

shut_out : (n : ℕ) (rows : List QuestionRow) (i : ℕ) → i < length rows → (row_at (shut_from n rows) i).out ≡ (row_at rows i).out
shut_out n rows i l = elim (cases_lt i n) [
  | inl below ↦ ap (λ (r : QuestionRow). r.out) (shut_before n rows i below)
  | inr from ↦ ap (λ (r : QuestionRow). r.out) (shut_after n rows i from l)
]

pub shut_question : (n : ℕ) (rows : List QuestionRow) (i : ℕ) → i < length rows → (row_at (shut_from n rows) i).question ≡ (row_at rows i).question
shut_question n rows i l = elim (cases_lt i n) [
  | inl below ↦ ap (λ (r : QuestionRow). r.question) (shut_before n rows i below)
  | inr from ↦ ap (λ (r : QuestionRow). r.question) (shut_after n rows i from l)
]

-- a piece that is out comes in
module _ (m : Machine) (seat number home : ℕ) (window : Bounds) (within : home < length m.asked) (out : Contains (row_at m.asked home).out (record { number = number; seat = seat; window = window })) where
  abbrev pub back_piece : SearchPiece
  back_piece = record { number = number; seat = seat; index = home; question = record { capacities = (row_at m.asked home).question.capacities; window = window } }

  pub others : (ys : List PieceOut) × IsPermutation (row_at m.asked home).out (out_of back_piece ∷ ys)
  others = removed (row_at m.asked home).out (out_of back_piece) out

  abbrev pub back_row : (windows : List Bounds) → QuestionRow
  back_row windows = record { question = (row_at m.asked home).question; ready = (row_at m.asked home).ready ++ windows; out = others.0 }

  abbrev pub back_next : (windows : List Bounds) → Machine
  back_next windows = record m { asked = slice_set m.asked home (back_row (windows_before m.least home windows)) }

  pub back_step : (windows : List Bounds) → IsReturned m back_piece windows (back_next windows)
  back_step windows = record { out = (within, refl, out); row = (back_row (windows_before m.least home windows), (refl, refl, others.1), refl) }

  stays_out : (windows : List Bounds) (j : ℕ) (x : PieceOut) → Contains (row_at m.asked j).out x → (x.number ≡ number → ⊥) → Contains (row_at (slice_set m.asked home (back_row windows)) j).out x
  stays_out windows j x c other = elim (cases_eq j home) [
    | inl e ↦ rw (e, get_or-set_same m.asked home (back_row windows) no_row within) (still_out (row_at m.asked home).out others.0 (out_of back_piece) x others.1 (subst (λ (k : ℕ). Contains (row_at m.asked k).out x) e c) other)
    | inr far ↦ rw (get_or-set_other m.asked home j (back_row windows) no_row far) c
  ]

  abbrev pub answered_next : (starts : List ℕ) → Machine
  answered_next starts = record m {
    asked = shut_from home (slice_set m.asked home (back_row []));
    least = Some (lesser m.least (record { index = home; starts = starts }));
  }

  pub answer_step : (starts : List ℕ) → IsAnswered m back_piece starts (answered_next starts)
  answer_step starts = record {
    out = (within, refl, out);
    row = (back_row [], (refl, refl, others.1), shut_is home (slice_set m.asked home (back_row [])));
    changed = refl;
  }

  -- the others are held
  module _ (Known Then : ℕ → Bounds → Type 0) (taken : List TakenPiece) (gone : TakenPiece) (is_in : gone.is_out ≡ false) (on : (k : ℕ) (w : Bounds) → (k ≡ number → ⊥) → Known k w → Then k w) (held : Holds Known taken m) where
    pub back_holds : (windows : List Bounds) → Holds Then (slice_set taken number gone) (back_next windows)
    back_holds windows = holds_others Known Then taken m (back_next windows) number gone is_in on held (length-set m.asked home (back_row (windows_before m.least home windows)))
        (λ j x l c other. stays_out (windows_before m.least home windows) j x c other)

    pub answer_holds : (starts : List ℕ) → Holds Then (slice_set taken number gone) (answered_next starts)
    answer_holds starts = holds_others Known Then taken m (answered_next starts) number gone is_in on held (shut_places home (slice_set m.asked home (back_row [])) ∙ length-set m.asked home (back_row []))
        (λ j x l c other. subst (λ (xs : List PieceOut). Contains xs x) (sym (shut_out home (slice_set m.asked home (back_row [])) j (let e = length-set m.asked home (back_row []) in omega (arith, l, e)))) (stays_out [] j x c other))
