-- What a collector does may be written next into a log that counts what it has.
use Rattle.std.proofs.Common.{◌≡◌, ◌∙◌, ℕ, ◌<◌, Bool, false, IsTrue, length, Option, Some, None, refl, sym, ap, arith}
use Rattle.std.specs.Option.{option_map, is_some}
use Rattle.racp_search.specs.Truth.{SearchPiece}
use Rattle.racp_core.specs.Machine.{KnownYes, Machine, is_before}
use Rattle.racp_core.specs.Steps.{IsNextAsked, IsPieceTaken, IsLeastOpen, IsOut, out_of}
use Rattle.racp_desk.specs.declared.log.Cause.{Cause}
use Rattle.racp_desk.specs.declared.log.Entry.TheVariants.{Asked, Taken}
use Rattle.racp_desk.specs.Log.{Tally, TakenPiece, IsLeastReady, IsAway, MayFollow}
use Rattle.racp_desk.specs.Desk.{Counts}
use Rattle.racp_desk.proofs.Counted.{same_test, below_yes, before_yes}

-- a desk that runs was not halted
pub none_halted : (halt : Option Cause) (halted : Bool) → is_some halt ≡ halted → halted ≡ false → halt ≡ None
none_halted None halted e f = refl
none_halted (Some c) halted e f = absurd (let bad = e ∙ f in cc bad)

pub may_ask : (turns : ℕ) (quiet : Bool) (t : Tally) (old new : Machine) (index : ℕ) → Counts t old → IsNextAsked old new index → MayFollow turns quiet t (Asked index)
may_ask turns quiet t old new index h step =
    (step.next ∙ sym h.ready_places, h.least ∙ ap (λ (y : Option KnownYes). option_map (λ (z : KnownYes). z.index) y) step.unknown, none_halted t.halt old.halted h.halted step.running)

-- what stands before a place that stands before the least yes
pub earlier : (least : Option KnownYes) (i j : ℕ) → IsTrue (is_before least i) → j < i → IsTrue (is_before least j)
earlier None i j b l = refl
earlier (Some y) i j b l = before_yes y j (let k = below_yes y i b in omega (arith, k, l))

least_ready : (t : Tally) (m : Machine) (index : ℕ) → Counts t m → IsLeastOpen m index → IsLeastReady t index
least_ready t m index h there = record {
  asked = (let p = h.ready_places in let l = there.asked in omega (arith, p, l));
  before = rw (h.least, same_test m.least index) there.before;
  some = (let e = h.ready index there.asked there.before in let l = there.some in omega (arith, e, l));
  least = λ j l. (let here = there.asked in h.ready j (omega (arith, here, l)) (earlier m.least index j there.before l)) ∙ ap (λ ws. length ws) (there.least j l);
}

pub may_take : (turns : ℕ) (quiet : Bool) (t : Tally) (old new : Machine) (seat : ℕ) (piece : SearchPiece) → Counts t old → old.halted ≡ false → old.taken < turns → IsPieceTaken old seat piece new →
    MayFollow turns quiet t (Taken seat piece.number piece.index)
may_take turns quiet t old new seat piece h running few step =
    (step.number ∙ sym h.taken, (let e = h.taken in omega (arith, e, few)), none_halted t.halt old.halted h.halted running, least_ready t old piece.index h step.least)

pub is_away : (t : Tally) (m : Machine) (piece : SearchPiece) → Counts t m → IsOut m piece → IsAway t piece.seat piece.number
is_away t m piece h out =
    let known = h.pieces piece.index (out_of piece) out.0 out.2 in record {
      given = known.0;
      out = ap (λ (p : TakenPiece). p.is_out) known.1;
      seated = ap (λ (p : TakenPiece). p.seat) known.1;
    }
