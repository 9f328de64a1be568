-- The log that a run leaves is legal, and its tally counts what the collector has.
use Rattle.std.proofs.Common.{◌≡◌, ◌∙◌, ℕ, Bool, true, false, List, [], ◌∷◌, ◌++◌, refl, sym, subst}
use Rattle.racp_core.specs.Machine.{Machine, fresh}
use Rattle.racp_core.specs.Runs.{Call, Ask, Take, Hand, GiveBack, Halt, Step}
use Rattle.racp_core.specs.declared.replies.Asked.TheVariants.{Question as Next, End, Enough, Halted as AskHalted}
use Rattle.racp_core.specs.declared.replies.Reply.TheVariants.{Piece as Work, Nothing, Done, Halted as TakeHalted}
use Rattle.racp_core.specs.declared.replies.Merged.TheVariants.{Taken as WasTaken, Stale}
use Rattle.racp_desk.specs.declared.log.Cause.{Cause}
use Rattle.racp_desk.specs.declared.log.Cause.TheVariants.{Stop, Turns, Fault}
use Rattle.racp_desk.specs.declared.log.Entry.{Entry}
use Rattle.racp_desk.specs.Log.{Tally, after, counted, nothing, MayHalt, AreLegal}
use Rattle.racp_desk.specs.Desk.{Counts}
use Rattle.racp_desk.specs.Laws.{Event, entries_of, IsCause, IsMade, LoggedRun, LogsAreLegal}
use Rattle.racp_desk.proofs.Counted.{counts_fresh, counts_asked, counts_taken, counts_returned, counts_halted}
use Rattle.racp_desk.proofs.Allowed.{may_ask, may_take, is_away, none_halted}
use Rattle.racp_desk.proofs.Desks.{merged_out, counts_handed, few_left}

-- the counts after two logs, one behind the other; both are legal
counted_both : (t : Tally) (xs ys : List Entry) → counted t (xs ++ ys) ≡ counted (counted t xs) ys
counted_both t [] ys = refl
counted_both t (x ∷ xs) ys = counted_both (after t x) xs ys

legal_both : (turns : ℕ) (quiet : Bool) (t : Tally) (xs ys : List Entry) → AreLegal turns quiet t xs → AreLegal turns quiet (counted t xs) ys → AreLegal turns quiet t (xs ++ ys)
legal_both turns quiet t [] ys a b = b
legal_both turns quiet t (x ∷ xs) ys a b = (a.0, legal_both turns quiet (after t x) xs ys a.1 b)

-- what a call that changes no count leaves
stays_counted : (t : Tally) (old new : Machine) → new ≡ old → Counts t old → Counts t new
stays_counted t old new is h = rw is h

ended_counted : (t : Tally) (old new : Machine) → new ≡ record old { ended = true } → Counts t old → Counts t new
ended_counted t old new is h = rw is (record {
  ready_places = h.ready_places;
  out_places = h.out_places;
  ready = h.ready;
  out = h.out;
  taken = h.taken;
  pieces = h.pieces;
  once = h.once;
  least = h.least;
  halted = h.halted;
})

-- a cause that holds of a collector may stand in its log
may_halt : (turns : ℕ) (quiet : Bool) (t : Tally) (m : Machine) (cause : Cause) → Counts t m → IsCause turns quiet m.taken cause → MayHalt turns quiet t cause
may_halt turns quiet t m Stop h is = is
may_halt turns quiet t m Turns h is = h.taken ∙ is
may_halt turns quiet t m Fault h is = tt

-- a collector is halted, once more or for the first time
halt_counted : (turns : ℕ) (quiet : Bool) (t : Tally) (m : Machine) (cause : Cause) (halted : Bool) → m.halted ≡ halted → Counts t m → IsCause turns quiet m.taken cause →
    AreLegal turns quiet t (entries_of halted Halt cause) × Counts (counted t (entries_of halted Halt cause)) (record m { halted = true })
halt_counted turns quiet t m cause true is h why = (
  tt,
  record {
    ready_places = h.ready_places;
    out_places = h.out_places;
    ready = h.ready;
    out = h.out;
    taken = h.taken;
    pieces = h.pieces;
    once = h.once;
    least = h.least;
    halted = h.halted ∙ is;
  },
)
halt_counted turns quiet t m cause false is h why = (((none_halted t.halt m.halted h.halted is, may_halt turns quiet t m cause h why), tt), counts_halted t m cause h)

-- a step
pub step_counted : (turns : ℕ) (quiet : Bool) (t : Tally) (old new : Machine) (call : Call) (cause : Cause) → Counts t old → IsMade turns quiet old.taken call cause → Step old call new →
    AreLegal turns quiet t (entries_of old.halted call cause) × Counts (counted t (entries_of old.halted call cause)) new
step_counted turns quiet t old new (Ask (Next index)) cause h made step = ((may_ask turns quiet t old new index h step, tt), counts_asked t old new index step h)
step_counted turns quiet t old new (Ask End) cause h made step = (tt, ended_counted t old new step.3 h)
step_counted turns quiet t old new (Ask Enough) cause h made step = (tt, stays_counted t old new step.2 h)
step_counted turns quiet t old new (Ask AskHalted) cause h made step = (tt, stays_counted t old new step.1 h)
step_counted turns quiet t old new (Take seat (Work piece)) cause h made step = ((may_take turns quiet t old new seat piece h step.1 made step.2, tt), counts_taken t old seat piece new step.2 h)
step_counted turns quiet t old new (Take seat Nothing) cause h made step = (tt, stays_counted t old new step.3 h)
step_counted turns quiet t old new (Take seat Done) cause h made step = (tt, stays_counted t old new step.1 h)
step_counted turns quiet t old new (Take seat TakeHalted) cause h made step = (tt, stays_counted t old new step.2 h)
step_counted turns quiet t old new (Hand finding WasTaken) cause h made step =
    (((is_away t old finding.piece h (merged_out old finding finding.found new step), made.0, made.1, few_left finding.rest), tt), counts_handed t old new finding step h)
step_counted turns quiet t old new (Hand finding Stale) cause h made step = (tt, stays_counted t old new step.1 h)
step_counted turns quiet t old new (GiveBack piece WasTaken) cause h made step = ((is_away t old piece h step.out, tt), counts_returned t old piece (piece.question.window ∷ []) new 0 step h)
step_counted turns quiet t old new (GiveBack piece Stale) cause h made step = (tt, stays_counted t old new step.1 h)
step_counted turns quiet t old new Halt cause h made step =
    let both = halt_counted turns quiet t old cause old.halted refl h made in
    (both.0, subst (λ (m : Machine). Counts (counted t (entries_of old.halted Halt cause)) m) (sym step) both.1)

-- a run
run_counted : (turns : ℕ) (quiet : Bool) (t : Tally) (start : Machine) (events : List Event) (end : Machine) (log : List Entry) → Counts t start → LoggedRun turns quiet start events end log → AreLegal turns quiet t log × Counts (counted t log) end
run_counted turns quiet t start [] end log h (same, none) = rw (none, same) (tt, h)
run_counted turns quiet t start (e ∷ es) end log h (next, rest, made, step, is, later) =
    let first = step_counted turns quiet t start next e.call e.cause h made step in
    let others = run_counted turns quiet (counted t (entries_of start.halted e.call e.cause)) next es end rest first.1 later in
    rw (is, counted_both t (entries_of start.halted e.call e.cause) rest) (legal_both turns quiet t (entries_of start.halted e.call e.cause) rest first.0 others.0, others.1)

pub logs_legal : LogsAreLegal
logs_legal turns quiet questions events m log run = run_counted turns quiet nothing (fresh questions) events m log (counts_fresh questions) run
