-- Logs that go on: they stay legal, and the counts that are held apart stay those of the tally.
use Rattle.std.proofs.Common.{◌≡◌, ◌∙◌, ℕ, ◌+◌, ◌-◌, ◌*◌, ◌<◌, ◌≤◌, Bool, true, false, List, [], ◌∷◌, ◌++◌, length, slice_index_or, slice_set, Option, Some, None, refl, sym, ap, arith, length-append}
use Rattle.std.specs.List.{sum_by}
use Rattle.std.proofs.lemmas.List.{length-set}
use Rattle.std.proofs.lemmas.List.Sums.{sum_by-set, sum_by-append}
use Rattle.racp_desk.specs.declared.log.Cause.{Cause}
use Rattle.racp_desk.specs.declared.log.Entry.{Entry}
use Rattle.racp_desk.specs.declared.log.Entry.TheVariants.{Asked, Taken, Handed, GivenBack, Halted}
use Rattle.racp_desk.specs.Log.{TakenPiece, Tally, no_piece, piece_at, after, counted, tally, count_out, away, MayFollow, AreLegal, IsAway, owed, IsBook, nothing}

-- the counts after one entry more
pub counted_push : (t : Tally) (es : List Entry) (e : Entry) → counted t (es ++ e ∷ []) ≡ after (counted t es) e
counted_push t [] e = refl
counted_push t (x ∷ es) e = counted_push (after t x) es e

-- a legal log with one entry more
pub legal_push : (turns : ℕ) (quiet : Bool) (t : Tally) (es : List Entry) (e : Entry) → AreLegal turns quiet t es → MayFollow turns quiet (counted t es) e → AreLegal turns quiet t (es ++ e ∷ [])
legal_push turns quiet t [] e h may = (may, tt)
legal_push turns quiet t (x ∷ es) e h may = (h.0, legal_push turns quiet (after t x) es e h.1 may)

-- a piece that comes in is out no more
pub away_less : (taken : List TakenPiece) (number seat index : ℕ) → number < length taken → (slice_index_or taken number no_piece).is_out ≡ true →
    sum_by count_out (slice_set taken number (record { seat = seat; index = index; is_out = false })) + 1 ≡ sum_by count_out taken
away_less taken number seat index there out =
    let s = sum_by-set count_out taken number (record { seat = seat; index = index; is_out = false }) no_piece there in
    let one : count_out (slice_index_or taken number no_piece) ≡ 1 = rw out refl in
    omega (arith, s, one)

-- a piece that goes out is out
pub away_more : (taken : List TakenPiece) (seat index : ℕ) → sum_by count_out (taken ++ record { seat = seat; index = index; is_out = true } ∷ []) ≡ sum_by count_out taken + 1
away_more taken seat index = sum_by-append count_out taken (record { seat = seat; index = index; is_out = true } ∷ [])

module _ (turns : ℕ) (quiet : Bool) (log next : List Entry) (pieces nodes out : ℕ) (halt : Option Cause) (capacity room : ℕ) (h : IsBook turns quiet log pieces nodes out halt capacity) where
  -- an entry more
  book_push : (e : Entry) (p n o : ℕ) (c : Option Cause) → next ≡ log ++ e ∷ [] → MayFollow turns quiet (tally log) e → length (after (tally log) e).taken ≡ p → (after (tally log) e).nodes ≡ n → away (after (tally log) e) ≡ o → (after (tally log) e).halt ≡ c →
      p ≤ turns → n + 1000000 * o ≤ 1000000 * p → length next + o + owed c ≤ room → IsBook turns quiet next p n o c room
  book_push e p n o c is may taken searched left halted few small enough =
      let t : tally next ≡ after (tally log) e = ap tally is ∙ counted_push nothing log e in record {
        few = h.few;
        legal = rw is (legal_push turns quiet nothing log e h.legal may);
        pieces_is = ap (λ (x : Tally). length x.taken) t ∙ taken;
        nodes_is = ap (λ (x : Tally). x.nodes) t ∙ searched;
        out_is = ap away t ∙ left;
        halt_is = ap (λ (x : Tally). x.halt) t ∙ halted;
        turns_left = few;
        nodes_few = small;
        room = enough;
      }

  longer : (e : Entry) → next ≡ log ++ e ∷ [] → length next ≡ length log + 1
  longer e is = ap (λ (es : List Entry). length es) is ∙ length-append log (e ∷ [])

  pub book_asked : (index : ℕ) → next ≡ log ++ Asked index ∷ [] → capacity ≡ room → MayFollow turns quiet (tally log) (Asked index) → length log < capacity - (out + owed halt) → IsBook turns quiet next pieces nodes out halt room
  book_asked index is same may enough =
      book_push (Asked index) pieces nodes out halt is may h.pieces_is h.nodes_is h.out_is h.halt_is h.turns_left h.nodes_few (let l = longer (Asked index) is in omega (arith, l, enough, same))

  pub book_taken : (seat number index : ℕ) → next ≡ log ++ Taken seat number index ∷ [] → capacity ≡ room → MayFollow turns quiet (tally log) (Taken seat number index) → length log + 1 < capacity - (out + owed halt) → IsBook turns quiet next (pieces + 1) nodes (out + 1) halt room
  book_taken seat number index is same may enough =
      let long = length-append (tally log).taken (record { seat = seat; index = index; is_out = true } ∷ []) in
      let was = h.pieces_is in
      let few = may.1 in
      let more = away_more (tally log).taken seat index in
      let out_was = h.out_is in
      book_push (Taken seat number index) (pieces + 1) nodes (out + 1) halt is may (omega (arith, long, was)) h.nodes_is (omega (arith, more, out_was)) h.halt_is (omega (arith, was, few)) (let f = h.nodes_few in omega (arith, f))
      (let l = longer (Taken seat number index) is in omega (arith, l, enough, same))

  pub some_out : (seat number : ℕ) → IsAway (tally log) seat number → 0 < out
  some_out seat number a =
      let e = away_less (tally log).taken number 0 0 a.given a.out in
      let was = h.out_is in
      omega (arith, e, was)

  pub book_handed : (seat number rest : ℕ) (found : Bool) (more : ℕ) → next ≡ log ++ Handed seat number rest found more ∷ [] → capacity ≡ room → MayFollow turns quiet (tally log) (Handed seat number rest found more) → IsBook turns quiet next pieces (nodes + more) (out - 1) halt room
  book_handed seat number rest found more is same may = cases found is may
    where
      less : (seat' index : ℕ) → sum_by count_out (slice_set (tally log).taken number (record { seat = seat'; index = index; is_out = false })) ≡ out - 1
      less seat' index = (let e = away_less (tally log).taken number seat' index may.0.given may.0.out in let was = h.out_is in omega (arith, e, was))

      long : (piece : TakenPiece) → length (slice_set (tally log).taken number piece) ≡ pieces
      long piece = length-set (tally log).taken number piece ∙ h.pieces_is

      some : 0 < out
      some = some_out seat number may.0

      small : nodes + more + 1000000 * (out - 1) ≤ 1000000 * pieces
      small = (let f = h.nodes_few in let n = may.2 in omega (arith, f, n, some))

      cases : (b : Bool) → next ≡ log ++ Handed seat number rest b more ∷ [] → MayFollow turns quiet (tally log) (Handed seat number rest b more) → IsBook turns quiet next pieces (nodes + more) (out - 1) halt room
      cases false e m =
          book_push (Handed seat number rest false more) pieces (nodes + more) (out - 1) halt e m (long (record { seat = (piece_at (tally log) number).seat; index = (piece_at (tally log) number).index; is_out = false })) (ap (λ (k : ℕ). k + more) h.nodes_is)
          (less (piece_at (tally log) number).seat (piece_at (tally log) number).index) h.halt_is h.turns_left small (let l = longer (Handed seat number rest false more) e in let r = h.room in omega (arith, l, r, some, same))
      cases true e m =
          book_push (Handed seat number rest true more) pieces (nodes + more) (out - 1) halt e m (long (record { seat = (piece_at (tally log) number).seat; index = (piece_at (tally log) number).index; is_out = false })) (ap (λ (k : ℕ). k + more) h.nodes_is)
          (less (piece_at (tally log) number).seat (piece_at (tally log) number).index) h.halt_is h.turns_left small (let l = longer (Handed seat number rest true more) e in let r = h.room in omega (arith, l, r, some, same))

  pub book_given_back : (seat number : ℕ) → next ≡ log ++ GivenBack seat number ∷ [] → capacity ≡ room → MayFollow turns quiet (tally log) (GivenBack seat number) → IsBook turns quiet next pieces nodes (out - 1) halt room
  book_given_back seat number is same may =
      let some : 0 < out = some_out seat number may in
      let piece : TakenPiece = record { seat = (piece_at (tally log) number).seat; index = (piece_at (tally log) number).index; is_out = false } in
      let less : sum_by count_out (slice_set (tally log).taken number piece) ≡ out - 1 = (let e = away_less (tally log).taken number piece.seat piece.index may.given may.out in let was = h.out_is in omega (arith, e, was)) in
      book_push (GivenBack seat number) pieces nodes (out - 1) halt is may (length-set (tally log).taken number piece ∙ h.pieces_is) (let e = h.nodes_is in omega (arith, e)) less h.halt_is h.turns_left (let f = h.nodes_few in omega (arith, f, some))
      (let l = longer (GivenBack seat number) is in let r = h.room in omega (arith, l, r, some, same))

  pub book_halted : (cause : Cause) → next ≡ log ++ Halted cause ∷ [] → capacity ≡ room → MayFollow turns quiet (tally log) (Halted cause) → IsBook turns quiet next pieces nodes out (Some cause) room
  book_halted cause is same may =
      let none : halt ≡ None = sym h.halt_is ∙ may.0 in
      let one : owed halt ≡ 1 = rw none refl in
      book_push (Halted cause) pieces nodes out (Some cause) is may h.pieces_is h.nodes_is h.out_is refl h.turns_left h.nodes_few (let l = longer (Halted cause) is in let r = h.room in omega (arith, l, r, one, same))
