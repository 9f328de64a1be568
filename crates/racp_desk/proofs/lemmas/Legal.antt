-- What a legal log tells: no more pieces than turns were taken, and the desk was halted for a cause that holds.
use Rattle.std.proofs.Common.{◌≡◌, ℕ, zero, suc, ◌<◌, ◌≤◌, Bool, true, false, List, [], ◌∷◌, ◌++◌, length, slice_set, Option, Some, None, Contains, slice_index_or, sym, subst, arith, length-append}
use Rattle.std.proofs.lemmas.List.{length-set}
use Rattle.racp_desk.specs.declared.log.Cause.{Cause}
use Rattle.racp_desk.specs.declared.log.Cause.TheVariants.{Stop, Turns, Fault}
use Rattle.racp_desk.specs.declared.log.Entry.{Entry}
use Rattle.racp_desk.specs.declared.log.Entry.TheVariants.{Asked, Taken, Handed, GivenBack, Halted}
use Rattle.racp_desk.specs.Log.{Tally, TakenPiece, piece_at, nothing, after, counted, tally, MayFollow, MayHalt, AreLegal, IsLegal}

-- the cause of a halt holds
abbrev pub HasCause : ℕ → Bool → ℕ → Option Cause → Type 0
HasCause turns quiet pieces (Some Stop) = quiet ≡ false
HasCause turns quiet pieces (Some Turns) = pieces ≡ turns
HasCause turns quiet pieces (Some Fault) = Unit {0}
HasCause turns quiet pieces None = Unit {0}

pub record IsWithin (turns : ℕ) (quiet : Bool) (t : Tally) : Type 0 where
  pub few : length t.taken ≤ turns
  pub cause : HasCause turns quiet (length t.taken) t.halt

halted_for : (turns : ℕ) (quiet : Bool) (t : Tally) (cause : Cause) → MayHalt turns quiet t cause → HasCause turns quiet (length t.taken) (Some cause)
halted_for turns quiet t Stop h = h
halted_for turns quiet t Turns h = h
halted_for turns quiet t Fault h = tt

not_halted : (turns : ℕ) (quiet : Bool) (pieces : ℕ) (halt : Option Cause) → halt ≡ None → HasCause turns quiet pieces halt
not_halted turns quiet pieces halt e = subst (λ (c : Option Cause). HasCause turns quiet pieces c) (sym e) tt

-- a piece that comes in stays counted
came_in : (turns : ℕ) (quiet : Bool) (t : Tally) (number : ℕ) (piece : TakenPiece) → IsWithin turns quiet t → (length (slice_set t.taken number piece) ≤ turns) × HasCause turns quiet (length (slice_set t.taken number piece)) t.halt
came_in turns quiet t number piece h =
    let same = length-set t.taken number piece in
    ((let f = h.few in omega (arith, same, f)), subst (λ (n : ℕ). HasCause turns quiet n t.halt) (sym same) h.cause)

within_after : (turns : ℕ) (quiet : Bool) (t : Tally) (e : Entry) → IsWithin turns quiet t → MayFollow turns quiet t e → IsWithin turns quiet (after t e)
within_after turns quiet t (Asked index) h may = record { few = h.few; cause = h.cause }
within_after turns quiet t (Taken seat number index) h may = record {
  few = (let long = length-append t.taken (record { seat = seat; index = index; is_out = true } ∷ []) in let l = may.1 in omega (arith, long, l));
  cause = not_halted turns quiet (length (t.taken ++ record { seat = seat; index = index; is_out = true } ∷ [])) t.halt may.2;
}
within_after turns quiet t (Handed seat number rest false nodes) h may =
    let k = came_in turns quiet t number (record { seat = (piece_at t number).seat; index = (piece_at t number).index; is_out = false }) h in record { few = k.0; cause = k.1 }
within_after turns quiet t (Handed seat number rest true nodes) h may =
    let k = came_in turns quiet t number (record { seat = (piece_at t number).seat; index = (piece_at t number).index; is_out = false }) h in record { few = k.0; cause = k.1 }
within_after turns quiet t (GivenBack seat number) h may =
    let k = came_in turns quiet t number (record { seat = (piece_at t number).seat; index = (piece_at t number).index; is_out = false }) h in record { few = k.0; cause = k.1 }
within_after turns quiet t (Halted cause) h may = record { few = h.few; cause = halted_for turns quiet t cause may.1 }

within_all : (turns : ℕ) (quiet : Bool) (t : Tally) (es : List Entry) → IsWithin turns quiet t → AreLegal turns quiet t es → IsWithin turns quiet (counted t es)
within_all turns quiet t [] h legal = h
within_all turns quiet t (e ∷ es) h legal = within_all turns quiet (after t e) es (within_after turns quiet t e h legal.0) legal.1

pub legal_within : (turns : ℕ) (quiet : Bool) (log : List Entry) → IsLegal turns quiet log → IsWithin turns quiet (tally log)
legal_within turns quiet log legal = within_all turns quiet nothing log (record { few = omega arith; cause = tt }) legal

-- where a legal log has a halt for a stop, the stop is not quiet
stopped_at : (turns : ℕ) (quiet : Bool) (t : Tally) (es : List Entry) (k : ℕ) → AreLegal turns quiet t es → k < length es → slice_index_or es k (Halted Stop) ≡ Halted Stop → quiet ≡ false
stopped_at turns quiet t [] k legal less same = absurd (omega (arith, less))
stopped_at turns quiet t (e ∷ es) zero legal less same = (subst (λ (x : Entry). MayFollow turns quiet t x) same legal.0).1
stopped_at turns quiet t (e ∷ es) (suc k) legal less same = stopped_at turns quiet (after t e) es k legal.1 (omega (arith, less)) same

pub stopped_unquiet : (turns : ℕ) (quiet : Bool) (log : List Entry) → IsLegal turns quiet log → Contains log (Halted Stop) → quiet ≡ false
stopped_unquiet turns quiet log legal has = stopped_at turns quiet nothing log has.0 legal has.1 has.2
