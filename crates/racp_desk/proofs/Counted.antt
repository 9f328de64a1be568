-- A tally goes on counting what a collector has.
use Rattle.std.proofs.Common.{◌≡◌, ◌∙◌, inl, inr, ℕ, ◌+◌, ◌-◌, ◌<◌, ◌≤◌, Bool, true, false, nat_le, if◌then◌else◌, IsTrue, List, [], ◌∷◌, ◌++◌, length, slice_index, slice_set, Option, Some, None, Contains, refl, sym, ap, subst, arith, length-append}
use Rattle.std.specs.Option.{option_map}
use Rattle.std.proofs.lemmas.List.{length-set, get_or-set_same, get_or-set_other, get_or_append_left, get_or_push}
use Rattle.std.proofs.lemmas.List.Sorted.{length_permutation}
use Rattle.std.proofs.lemmas.List.Elements.{Contains-append_cases}
use Rattle.std.proofs.lemmas.Bool.{cases_eq, cases_lt, ltb-true, lt-ltb}
use Rattle.racp_model.specs.Window.{Bounds}
use Rattle.racp_model.specs.declared.question.Question.{Question}
use Rattle.racp_model.proofs.lemmas.Relations.{member_cases, no_member}
use Rattle.racp_search.specs.Truth.{SearchPiece}
use Rattle.racp_core.specs.Machine.{PieceOut, QuestionRow, KnownYes, Machine, fresh, opened, row_at, no_row, is_before}
use Rattle.racp_core.specs.Steps.{IsSent, IsBack, IsNextAsked, IsPieceTaken, IsReturned, IsAnswered, AreShutFrom, out_of, windows_before, lesser}
use Rattle.racp_desk.specs.Log.{TakenPiece, Tally, no_piece, piece_at, stands_before, opening, lesser_place, brought_in, nothing}
use Rattle.racp_desk.specs.declared.log.Cause.{Cause}
use Rattle.racp_desk.specs.Desk.{Counts, as_taken}
use Rattle.racp_desk.proofs.Pieces.{was_out, one_fewer, still_once, others_differ, once_more}

-- whether a place stands before the least yes, in both
pub same_test : (least : Option KnownYes) (i : ℕ) → stands_before (option_map (λ (y : KnownYes). y.index) least) i ≡ is_before least i
same_test None i = refl
same_test (Some y) i = refl

-- what stands before a yes has a lower place, and the other way round
pub below_yes : (y : KnownYes) (i : ℕ) → IsTrue (is_before (Some y) i) → i < y.index
below_yes y i before = ltb-true i y.index before

pub before_yes : (y : KnownYes) (i : ℕ) → i < y.index → IsTrue (is_before (Some y) i)
before_yes y i below = lt-ltb i y.index below

pub counts_fresh : (questions : List Question) → Counts nothing (fresh questions)
counts_fresh questions = record {
  ready_places = refl;
  out_places = refl;
  ready = λ i l b. absurd (omega (arith, l));
  out = λ i l. absurd (omega (arith, l));
  taken = refl;
  pieces = λ i piece l c. absurd (omega (arith, l));
  once = λ i number l. absurd (omega (arith, l));
  least = refl;
  halted = refl;
}

-- a question is asked
pub counts_opened : (t : Tally) (m : Machine) (question : Question) (rest : List Question) → Counts t m →
    Counts (record t { ready = t.ready ++ 1 ∷ []; out = t.out ++ 0 ∷ [] }) (record m { asked = m.asked ++ opened question ∷ []; to_come = rest })
counts_opened t m question rest h = record {
  ready_places = (let a = length-append t.ready (1 ∷ []) in let b = length-append m.asked (opened question ∷ []) in let e = h.ready_places in omega (arith, a, b, e));
  out_places = (let a = length-append t.out (0 ∷ []) in let b = length-append m.asked (opened question ∷ []) in let e = h.out_places in omega (arith, a, b, e));
  ready = λ i l b. elim (cases_lt i (length m.asked)) [
    | inl there ↦ rw (get_or_append_left t.ready (1 ∷ []) 0 i (let e = h.ready_places in omega (arith, e, there)), get_or_append_left m.asked (opened question ∷ []) no_row i there) (h.ready i there b)
    | inr after ↦ rw (get_or_push t.ready 1 0 i (let e = h.ready_places in let k = last i l after in omega (arith, e, k)), get_or_push m.asked (opened question) no_row i (last i l after)) refl
  ];
  out = λ i l. elim (cases_lt i (length m.asked)) [
    | inl there ↦ rw (get_or_append_left t.out (0 ∷ []) 0 i (let e = h.out_places in omega (arith, e, there)), get_or_append_left m.asked (opened question ∷ []) no_row i there) (h.out i there)
    | inr after ↦ rw (get_or_push t.out 0 0 i (let e = h.out_places in let k = last i l after in omega (arith, e, k)), get_or_push m.asked (opened question) no_row i (last i l after)) refl
  ];
  taken = h.taken;
  pieces = λ i piece l c. elim (cases_lt i (length m.asked)) [
    | inl there ↦ h.pieces i piece there (rw (get_or_append_left m.asked (opened question ∷ []) no_row i there) at c)
    | inr after ↦ absurd (no_member piece (rw (get_or_push m.asked (opened question) no_row i (last i l after)) at c))
  ];
  once = λ i number l. elim (cases_lt i (length m.asked)) [
    | inl there ↦ rw (get_or_append_left m.asked (opened question ∷ []) no_row i there) (h.once i number there)
    | inr after ↦ rw (get_or_push m.asked (opened question) no_row i (last i l after)) (omega arith)
  ];
  least = h.least;
  halted = h.halted;
}
  where
    last : (i : ℕ) → i < length (m.asked ++ opened question ∷ []) → length m.asked ≤ i → length m.asked ≡ i
    last i l after = (let long = length-append m.asked (opened question ∷ []) in omega (arith, long, l, after))

pub counts_asked : (t : Tally) (old new : Machine) (index : ℕ) → IsNextAsked old new index → Counts t old → Counts (record t { ready = t.ready ++ 1 ∷ []; out = t.out ++ 0 ∷ [] }) new
counts_asked t old new index step h =
    subst (λ (m : Machine). Counts (record t { ready = t.ready ++ 1 ∷ []; out = t.out ++ 0 ∷ [] }) m) (sym step.first.3) (counts_opened t old step.first.0 step.first.1 h)

-- a piece goes out
module _ (t : Tally) (m : Machine) (index : ℕ) (piece : PieceOut) (row : QuestionRow) (there : index < length m.asked) (number : piece.number ≡ m.taken) (sent : IsSent piece (row_at m.asked index) row) (h : Counts t m) where
  abbrev pub sent_tally : Tally
  sent_tally = record t {
    ready = slice_set t.ready index (slice_index t.ready index - 1);
    out = slice_set t.out index (slice_index t.out index + 1);
    taken = t.taken ++ record { seat = piece.seat; index = index; is_out = true } ∷ [];
  }

  within : (i : ℕ) → i < length (slice_set m.asked index row) → i < length m.asked
  within i l = (let e = length-set m.asked index row in omega (arith, e, l))

  fresh_number : (i : ℕ) (x : PieceOut) → i < length m.asked → Contains (row_at m.asked i).out x → x.number ≡ piece.number → ⊥
  fresh_number i x l c e = (let n = (h.pieces i x l c).0 in let k = h.taken in omega (arith, e, n, k, number))

  known : (i : ℕ) (x : PieceOut) → i < length m.asked → Contains (row_at m.asked i).out x → (x.number < length sent_tally.taken) × (piece_at sent_tally x.number ≡ as_taken i x)
  known i x l c =
      let was = h.pieces i x l c in
      let long = length-append t.taken (record { seat = piece.seat; index = index; is_out = true } ∷ []) in
      let n = was.0 in
      (omega (arith, n, long), get_or_append_left t.taken (record { seat = piece.seat; index = index; is_out = true } ∷ []) no_piece x.number n ∙ was.1)

  pub counts_sent : Counts sent_tally (record m { asked = slice_set m.asked index row; taken = m.taken + 1 })
  counts_sent = record {
    ready_places = length-set t.ready index (slice_index t.ready index - 1) ∙ (h.ready_places ∙ sym (length-set m.asked index row));
    out_places = length-set t.out index (slice_index t.out index + 1) ∙ (h.out_places ∙ sym (length-set m.asked index row));
    ready = λ i l b. elim (cases_eq i index) [
      | inl e ↦ rw (e, get_or-set_same m.asked index row no_row there, get_or-set_same t.ready index (slice_index t.ready index - 1) 0 (let p = h.ready_places in omega (arith, p, there)))
          (let was = h.ready index there (subst (λ (k : ℕ). IsTrue (is_before m.least k)) e b) in let long = length_permutation (row_at m.asked index).ready (piece.window ∷ row.ready) sent.1 in omega (arith, was, long))
      | inr other ↦ rw (get_or-set_other m.asked index i row no_row other, get_or-set_other t.ready index i (slice_index t.ready index - 1) 0 other) (h.ready i (within i l) b)
    ];
    out = λ i l. elim (cases_eq i index) [
      | inl e ↦ rw (e, get_or-set_same m.asked index row no_row there, get_or-set_same t.out index (slice_index t.out index + 1) 0 (let p = h.out_places in omega (arith, p, there)))
          (let was = h.out index there in let long : length row.out ≡ length (row_at m.asked index).out + 1 = ap (λ (xs : List PieceOut). length xs) sent.2 ∙ length-append (row_at m.asked index).out (piece ∷ []) in omega (arith, was, long))
      | inr other ↦ rw (get_or-set_other m.asked index i row no_row other, get_or-set_other t.out index i (slice_index t.out index + 1) 0 other) (h.out i (within i l))
    ];
    taken = (let long = length-append t.taken (record { seat = piece.seat; index = index; is_out = true } ∷ []) in let e = h.taken in omega (arith, long, e));
    pieces = λ i x l c. elim (cases_eq i index) [
      | inl e ↦ own i x e (rw (e, get_or-set_same m.asked index row no_row there) at c)
      | inr other ↦ known i x (within i l) (rw (get_or-set_other m.asked index i row no_row other) at c)
    ];
    once = λ i n l. elim (cases_eq i index) [
      | inl e ↦ rw (e, get_or-set_same m.asked index row no_row there, sent.2) (once_more (row_at m.asked index).out piece n (h.once index n there) (λ x c. fresh_number index x there c))
      | inr other ↦ rw (get_or-set_other m.asked index i row no_row other) (h.once i n (within i l))
    ];
    least = h.least;
    halted = h.halted;
  }
    where
      own : (i : ℕ) (x : PieceOut) → i ≡ index → Contains row.out x → (x.number < length sent_tally.taken) × (piece_at sent_tally x.number ≡ as_taken i x)
      own i x e c = elim (Contains-append_cases (row_at m.asked index).out (piece ∷ []) x (rw sent.2 at c)) [
        | inl was ↦ subst (λ (k : ℕ). (x.number < length sent_tally.taken) × (piece_at sent_tally x.number ≡ as_taken k x)) (sym e) (known index x there was)
        | inr last ↦ elim (member_cases piece [] x last) [
          | inl is ↦ subst (λ (p : PieceOut). (p.number < length sent_tally.taken) × (piece_at sent_tally p.number ≡ as_taken i p)) is
              (let long = length-append t.taken (record { seat = piece.seat; index = index; is_out = true } ∷ []) in let k = h.taken in
              (omega (arith, long, k, number), get_or_push t.taken (record { seat = piece.seat; index = index; is_out = true }) no_piece piece.number (omega (arith, k, number)) ∙ ap (λ (j : ℕ). as_taken j piece) (sym e)))
          | inr none ↦ absurd (no_member x none)
        ]
      ]

-- a piece that comes in, in the words of its question
pub brought_as : (t : Tally) (number windows nodes seat index : ℕ) → piece_at t number ≡ record { seat = seat; index = index; is_out = true } → brought_in t number windows nodes ≡ record {
  ready = slice_set t.ready index (slice_index t.ready index + opening t.least index windows);
  out = slice_set t.out index (slice_index t.out index - 1);
  taken = slice_set t.taken number (record { seat = seat; index = index; is_out = false });
  least = t.least;
  nodes = t.nodes + nodes;
  halt = t.halt;
}
brought_as t number windows nodes seat index e = ap (λ (p : TakenPiece). record {
  ready = slice_set t.ready p.index (slice_index t.ready p.index + opening t.least p.index windows);
  out = slice_set t.out p.index (slice_index t.out p.index - 1);
  taken = slice_set t.taken number (record { seat = p.seat; index = p.index; is_out = false });
  least = t.least;
  nodes = t.nodes + nodes;
  halt = t.halt;
}) e

-- how many windows open
pub opened_windows : (t : Tally) (m : Machine) (index : ℕ) (windows : List Bounds) → t.least ≡ option_map (λ (y : KnownYes). y.index) m.least → IsTrue (is_before m.least index) →
    opening t.least index (length windows) ≡ length (windows_before m.least index windows)
opened_windows t m index windows e b =
    rw (e, same_test m.least index, b) refl

-- a piece is in
module _ (t : Tally) (m : Machine) (index nodes : ℕ) (piece : PieceOut) (windows : List Bounds) (row : QuestionRow) (there : index < length m.asked) (is_out : Contains (row_at m.asked index).out piece)
    (back : IsBack piece (windows_before m.least index windows) (row_at m.asked index) row) (h : Counts t m) where
  abbrev pub back_tally : Tally
  back_tally = record {
    ready = slice_set t.ready index (slice_index t.ready index + opening t.least index (length windows));
    out = slice_set t.out index (slice_index t.out index - 1);
    taken = slice_set t.taken piece.number (record { seat = piece.seat; index = index; is_out = false });
    least = t.least;
    nodes = t.nodes + nodes;
    halt = t.halt;
  }

  back_within : (i : ℕ) → i < length (slice_set m.asked index row) → i < length m.asked
  back_within i l = (let e = length-set m.asked index row in omega (arith, e, l))

  -- another piece that is still out
  still_known : (i : ℕ) (x : PieceOut) → i < length m.asked → Contains (row_at m.asked i).out x → (x.number ≡ piece.number → ⊥) → (x.number < length back_tally.taken) × (piece_at back_tally x.number ≡ as_taken i x)
  still_known i x l c other =
      let was = h.pieces i x l c in
      let n = was.0 in
      let long = length-set t.taken piece.number (record { seat = piece.seat; index = index; is_out = false }) in
      (omega (arith, n, long), get_or-set_other t.taken piece.number x.number (record { seat = piece.seat; index = index; is_out = false }) no_piece other ∙ was.1)

  -- a piece of another question has another number
  elsewhere : (i : ℕ) (x : PieceOut) → i < length m.asked → (i ≡ index → ⊥) → Contains (row_at m.asked i).out x → x.number ≡ piece.number → ⊥
  elsewhere i x l other c e =
      let here = (h.pieces index piece there is_out).1 in
      let far = (h.pieces i x l c).1 in
      let same : piece_at t x.number ≡ piece_at t piece.number = ap (λ (n : ℕ). piece_at t n) e in
      other (ap (λ (p : TakenPiece). p.index) (sym far ∙ (same ∙ here)))

  pub counts_back : Counts back_tally (record m { asked = slice_set m.asked index row })
  counts_back = record {
    ready_places = length-set t.ready index (slice_index t.ready index + opening t.least index (length windows)) ∙ (h.ready_places ∙ sym (length-set m.asked index row));
    out_places = length-set t.out index (slice_index t.out index - 1) ∙ (h.out_places ∙ sym (length-set m.asked index row));
    ready = λ i l b. elim (cases_eq i index) [
      | inl e ↦ rw (e, get_or-set_same m.asked index row no_row there, get_or-set_same t.ready index (slice_index t.ready index + opening t.least index (length windows)) 0 (let p = h.ready_places in omega (arith, p, there)))
          (grown (subst (λ (k : ℕ). IsTrue (is_before m.least k)) e b))
      | inr other ↦ rw (get_or-set_other m.asked index i row no_row other, get_or-set_other t.ready index i (slice_index t.ready index + opening t.least index (length windows)) 0 other) (h.ready i (back_within i l) b)
    ];
    out = λ i l. elim (cases_eq i index) [
      | inl e ↦ rw (e, get_or-set_same m.asked index row no_row there, get_or-set_same t.out index (slice_index t.out index - 1) 0 (let p = h.out_places in omega (arith, p, there)))
          (let was = h.out index there in let fewer = one_fewer (row_at m.asked index).out row.out piece back.2 in omega (arith, was, fewer))
      | inr other ↦ rw (get_or-set_other m.asked index i row no_row other, get_or-set_other t.out index i (slice_index t.out index - 1) 0 other) (h.out i (back_within i l))
    ];
    taken = length-set t.taken piece.number (record { seat = piece.seat; index = index; is_out = false }) ∙ h.taken;
    pieces = λ i x l c. elim (cases_eq i index) [
      | inl e ↦ own i x e (rw (e, get_or-set_same m.asked index row no_row there) at c)
      | inr other ↦ (let c' = rw (get_or-set_other m.asked index i row no_row other) at c in still_known i x (back_within i l) c' (elsewhere i x (back_within i l) other c'))
    ];
    once = λ i n l. elim (cases_eq i index) [
      | inl e ↦ rw (e, get_or-set_same m.asked index row no_row there) (still_once (row_at m.asked index).out row.out piece back.2 n (h.once index n there))
      | inr other ↦ rw (get_or-set_other m.asked index i row no_row other) (h.once i n (back_within i l))
    ];
    least = h.least;
    halted = h.halted;
  }
    where
      grown : IsTrue (is_before m.least index) → slice_index t.ready index + opening t.least index (length windows) ≡ length row.ready
      grown b =
          let was = h.ready index there b in
          let more = opened_windows t m index windows h.least b in
          let long : length row.ready ≡ length (row_at m.asked index).ready + length (windows_before m.least index windows) = ap (λ (ws : List Bounds). length ws) back.1 ∙ length-append (row_at m.asked index).ready (windows_before m.least index windows) in
          omega (arith, was, more, long)

      own : (i : ℕ) (x : PieceOut) → i ≡ index → Contains row.out x → (x.number < length back_tally.taken) × (piece_at back_tally x.number ≡ as_taken i x)
      own i x e c =
          let was : Contains (row_at m.asked index).out x = was_out (row_at m.asked index).out row.out piece back.2 x c in
          subst (λ (k : ℕ). (x.number < length back_tally.taken) × (piece_at back_tally x.number ≡ as_taken k x)) (sym e)
          (still_known index x there was (others_differ (row_at m.asked index).out row.out piece back.2 (h.once index piece.number there) x c))

-- a piece is in without a yes
pub counts_returned : (t : Tally) (old : Machine) (piece : SearchPiece) (windows : List Bounds) (new : Machine) (nodes : ℕ) → IsReturned old piece windows new → Counts t old → Counts (brought_in t piece.number (length windows) nodes) new
counts_returned t old piece windows new nodes step h =
    let known = (h.pieces piece.index (out_of piece) step.out.0 step.out.2).1 in
    subst (λ (x : Tally). Counts x new) (sym (brought_as t piece.number (length windows) nodes piece.seat piece.index known))
    (subst (λ (m : Machine). Counts (back_tally t old piece.index nodes (out_of piece) windows step.row.0 step.out.0 step.out.2 step.row.1 h) m) (sym step.row.2)
    (counts_back t old piece.index nodes (out_of piece) windows step.row.0 step.out.0 step.out.2 step.row.1 h))

-- the lesser of two yeses, in both
pub lesser_same : (least : Option KnownYes) (y : KnownYes) → (lesser least y).index ≡ lesser_place (option_map (λ (z : KnownYes). z.index) least) y.index
lesser_same None y = refl
lesser_same (Some x) y = go (nat_le x.index y.index)
  where
    go : (b : Bool) → (if b then x else y).index ≡ (if b then x.index else y.index)
    go true = refl
    go false = refl

-- what stands before it stands before both
pub before_lesser : (least : Option KnownYes) (y : KnownYes) (i : ℕ) → IsTrue (is_before (Some (lesser least y)) i) → (i < y.index) × IsTrue (is_before least i)
before_lesser None y i b = (below_yes y i b, refl)
before_lesser (Some x) y i b = go (nat_le x.index y.index) refl (below_yes (lesser (Some x) y) i b)
  where
    go : (t : Bool) → nat_le x.index y.index ≡ t → i < (if t then x else y).index → (i < y.index) × IsTrue (is_before (Some x) i)
    go true e k = (let n : x.index ≤ y.index = grind (arith, e) in omega (arith, n, k), before_yes x i k)
    go false e k = let n : y.index < x.index = grind (arith, e) in (k, before_yes x i (omega (arith, n, k)))

-- open windows are discarded from the place of a yes on
pub counts_shut : (t : Tally) (m : Machine) (y : KnownYes) (next : List QuestionRow) → AreShutFrom y.index m.asked next → Counts t m →
    Counts (record t { least = Some (lesser_place t.least y.index) }) (record m { asked = next; least = Some (lesser m.least y) })
counts_shut t m y next shutting h = record {
  ready_places = h.ready_places ∙ sym shutting.places;
  out_places = h.out_places ∙ sym shutting.places;
  ready = λ i l b. (let both = before_lesser m.least y i b in h.ready i (within i l) both.1 ∙ ap (λ (r : QuestionRow). length r.ready) (sym (shutting.before i both.0)));
  out = λ i l. h.out i (within i l) ∙ ap (λ (xs : List PieceOut). length xs) (sym (same_out i (within i l)));
  taken = h.taken;
  pieces = λ i x l c. h.pieces i x (within i l) (subst (λ (xs : List PieceOut). Contains xs x) (same_out i (within i l)) c);
  once = λ i n l. rw (same_out i (within i l)) (h.once i n (within i l));
  least = ap (λ (k : ℕ). Some k) (ap (λ (o : Option ℕ). lesser_place o y.index) h.least ∙ sym (lesser_same m.least y));
  halted = h.halted;
}
  where
    within : (i : ℕ) → i < length next → i < length m.asked
    within i l = (let e = shutting.places in omega (arith, e, l))

    same_out : (i : ℕ) → i < length m.asked → (row_at next i).out ≡ (row_at m.asked i).out
    same_out i l = elim (cases_lt i y.index) [
      | inl before ↦ ap (λ (r : QuestionRow). r.out) (shutting.before i before)
      | inr from ↦ ap (λ (r : QuestionRow). r.out) (shutting.after i from l)
    ]

-- nothing opens of nothing
none_if : (b : Bool) (xs : List Bounds) → xs ≡ [] → (if b then xs else []) ≡ []
none_if true xs e = e
none_if false xs e = refl

none_opens : (least : Option KnownYes) (i : ℕ) → windows_before least i [] ≡ []
none_opens least i = none_if (is_before least i) [] refl

-- a piece is in with a yes
pub counts_answered : (t : Tally) (old : Machine) (piece : SearchPiece) (starts : List ℕ) (new : Machine) (nodes : ℕ) → IsAnswered old piece starts new → Counts t old →
    Counts (record (brought_in t piece.number 0 nodes) { least = Some (lesser_place t.least (piece_at t piece.number).index) }) new
counts_answered t old piece starts new nodes step h =
    let known = (h.pieces piece.index (out_of piece) step.out.0 step.out.2).1 in
    let row : QuestionRow = step.row.0 in
    let place : (piece_at t piece.number).index ≡ piece.index = ap (λ (p : TakenPiece). p.index) known in
    let back : IsBack (out_of piece) (windows_before old.least piece.index []) (row_at old.asked piece.index) row = subst (λ (ws : List Bounds). IsBack (out_of piece) ws (row_at old.asked piece.index) row) (sym (none_opens old.least piece.index)) step.row.1 in
    let first : Counts (brought_in t piece.number 0 nodes) (record old { asked = slice_set old.asked piece.index row }) = subst (λ (x : Tally). Counts x (record old { asked = slice_set old.asked piece.index row })) (sym (brought_as t piece.number 0 nodes piece.seat piece.index known))
    (counts_back t old piece.index nodes (out_of piece) [] row step.out.0 step.out.2 back h) in
    subst (λ (k : ℕ). Counts (record (brought_in t piece.number 0 nodes) { least = Some (lesser_place t.least k) }) new) (sym place)
    (subst (λ (m : Machine). Counts (record (brought_in t piece.number 0 nodes) { least = Some (lesser_place t.least piece.index) }) m) (sym step.changed) (counts_shut (brought_in t piece.number 0 nodes) (record old { asked = slice_set old.asked piece.index row }) (record { index = piece.index; starts = starts }) new.asked step.row.2 first))

-- a piece is taken
pub counts_taken : (t : Tally) (old : Machine) (seat : ℕ) (piece : SearchPiece) (new : Machine) → IsPieceTaken old seat piece new → Counts t old → Counts (record t {
  ready = slice_set t.ready piece.index (slice_index t.ready piece.index - 1);
  out = slice_set t.out piece.index (slice_index t.out piece.index + 1);
  taken = t.taken ++ record { seat = seat; index = piece.index; is_out = true } ∷ [];
}) new
counts_taken t old seat piece new step h =
    subst (λ (s : ℕ). Counts (record t {
      ready = slice_set t.ready piece.index (slice_index t.ready piece.index - 1);
      out = slice_set t.out piece.index (slice_index t.out piece.index + 1);
      taken = t.taken ++ record { seat = s; index = piece.index; is_out = true } ∷ [];
    }) new) step.seated
    (subst (λ (m : Machine). Counts (sent_tally t old piece.index (out_of piece) step.row.0 step.least.asked step.number step.row.1 h) m) (sym step.row.2)
    (counts_sent t old piece.index (out_of piece) step.row.0 step.least.asked step.number step.row.1 h))

-- the collector is halted
pub counts_halted : (t : Tally) (m : Machine) (cause : Cause) → Counts t m → Counts (record t { halt = Some cause }) (record m { halted = true })
counts_halted t m cause h = record {
  ready_places = h.ready_places;
  out_places = h.out_places;
  ready = h.ready;
  out = h.out;
  taken = h.taken;
  pieces = h.pieces;
  once = h.once;
  least = h.least;
  halted = refl;
}
