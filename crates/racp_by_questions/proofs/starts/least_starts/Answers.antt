use Rattle.std.proofs.Common.{◌≡◌, ◌<◌, ◌+◌, ℕ, length, arith, sym, subst}
use Rattle.racp_model.specs.Terms.{IsLexBefore}
use Rattle.racp_model.specs.Plan.{IsLeast}
use Rattle.racp_model.specs.Window.{Bounds, Answers}
use Rattle.racp_by_questions.specs.Fixing.{IsFixedBefore}
use Rattle.racp_by_questions.proofs.Fixing.{fixed_none, settled_bounds, settled_yes, fixed_one, lower_least}
use Rattle.std.proofs.lemmas.Result.{err_from_is_err_and}
use Rattle.racp_by_questions.proofs.starts.least_starts.Goals as goal

pub least_start-requires-clause-yes : goal.least_start-requires-clause-yes
least_start-requires-clause-yes g c = settled_yes c.args.net.now c.args.capacities.now c.args.root.now c.loop-j.j c.loop-j.window c.settled-window.result c.loop-j.invariant.fixed c.settled-window.ensures

pub loop-j-preserved : goal.loop-j-preserved
loop-j-preserved g c =
    let more : c.loop-j.j < length c.args.net.now.jobs = omega (arith, c.loop-j-test.true, c.job_count-j-end.ensures.count) in
    record {
      network = c.least_start.ensures.network;
      no_fewer = omega (arith, c.loop-j.invariant.no_fewer, c.least_start.ensures.no_fewer);
      fixed = subst (λ (window : Bounds). IsFixedBefore c.args.net.now c.args.capacities.now c.args.root.now (c.loop-j.j + 1) window) (sym c.fixed-window.ensures)
          (fixed_one c.args.net.now c.args.capacities.now c.args.root.now c.loop-j.j c.loop-j.window c.settled-window.result c.loop-j.invariant.fixed c.settled-window.ensures c.in_ok-start.start more
          c.in_ok-start.ensures.least);
    }

pub returns-clause-least : goal.returns-clause-least
returns-clause-least g c =
    let last : c.loop-j.j ≡ length c.args.net.now.jobs = omega (arith, c.loop-j-test.false, c.loop-j.auto.j-end, c.job_count-j-end.ensures.count) in
    subst (IsLeast IsLexBefore (Answers c.args.net.now c.args.capacities.now c.args.root.now)) (sym c.into_bounds-starts.ensures.lower)
    (lower_least c.args.net.now c.args.capacities.now c.args.root.now c.loop-j.window
    (subst (λ (n : ℕ). IsFixedBefore c.args.net.now c.args.capacities.now c.args.root.now n c.loop-j.window) last c.loop-j.invariant.fixed))

pub copy-requires : goal.copy-requires
copy-requires g c = tt

pub returns-in_err-window-clause-network : goal.returns-in_err-window-clause-network
returns-in_err-window-clause-network g c = c.requires.named

pub returns-in_err-window-clause-least : goal.returns-in_err-window-clause-least
returns-in_err-window-clause-least g c = rw ((err_from_is_err_and c.from_residual.result c.from_residual.ensures.1).1) tt

pub returns-in_err-window-clause-stop : goal.returns-in_err-window-clause-stop
returns-in_err-window-clause-stop g c =
    let p = err_from_is_err_and c.from_residual.result c.from_residual.ensures.1 in
    rw (p.1, p.2) tt

pub job_count-j-end-requires : goal.job_count-j-end-requires
job_count-j-end-requires g c = tt

pub least_start-requires-clause-named : goal.least_start-requires-clause-named
least_start-requires-clause-named g c = c.loop-j.invariant.network

pub least_start-requires-clause-capacities : goal.least_start-requires-clause-capacities
least_start-requires-clause-capacities g c = c.requires.capacities

pub least_start-requires-clause-job : goal.least_start-requires-clause-job
least_start-requires-clause-job g c = omega (arith, c.loop-j-test.true, c.job_count-j-end.ensures.count)

pub returns-in_err-start-clause-network : goal.returns-in_err-start-clause-network
returns-in_err-start-clause-network g c = c.least_start.ensures.network

pub returns-in_err-start-clause-least : goal.returns-in_err-start-clause-least
returns-in_err-start-clause-least g c = rw ((err_from_is_err_and c.from_residual-in_err-start.result c.from_residual-in_err-start.ensures.1).1) tt

pub returns-in_err-start-clause-no_fewer : goal.returns-in_err-start-clause-no_fewer
returns-in_err-start-clause-no_fewer g c = omega (arith, c.loop-j.invariant.no_fewer, c.least_start.ensures.no_fewer)

pub returns-in_err-start-clause-stop : goal.returns-in_err-start-clause-stop
returns-in_err-start-clause-stop g c =
    let p = err_from_is_err_and c.from_residual-in_err-start.result c.from_residual-in_err-start.ensures.1 in
    rw (p.1, p.2) c.in_err-start.ensures.stop

pub loop-j-smaller : goal.loop-j-smaller
loop-j-smaller g c = omega (arith, c.loop-j-test.true)

pub into_bounds-starts-requires : goal.into_bounds-starts-requires
into_bounds-starts-requires g c = tt

pub returns-clause-network : goal.returns-clause-network
returns-clause-network g c = c.loop-j.invariant.network

pub returns-clause-no_fewer : goal.returns-clause-no_fewer
returns-clause-no_fewer g c = c.loop-j.invariant.no_fewer

pub returns-clause-stop : goal.returns-clause-stop
returns-clause-stop g c = tt

pub loop-j-init : goal.loop-j-init
loop-j-init g c =
    record {
      network = c.requires.named;
      no_fewer = omega arith;
      fixed = subst (IsFixedBefore c.args.net.now c.args.capacities.now c.args.root.now 0) (sym c.in_ok-window.ensures) (fixed_none c.args.net.now c.args.capacities.now c.args.root.now c.requires.root c.requires.yes);
    }

pub settled-window-requires-clause-bounds : goal.settled-window-requires-clause-bounds
settled-window-requires-clause-bounds g c = c.loop-j.invariant.fixed.bounds

pub settled-window-requires-clause-schedule : goal.settled-window-requires-clause-schedule
settled-window-requires-clause-schedule g c =
    let yes = c.loop-j.invariant.fixed.yes in
    (yes.0, yes.1.lies, yes.1.fits.precedence)

pub least_start-requires-clause-window : goal.least_start-requires-clause-window
least_start-requires-clause-window g c = settled_bounds c.args.net.now c.args.capacities.now c.args.root.now c.loop-j.j c.loop-j.window c.settled-window.result c.loop-j.invariant.fixed c.settled-window.ensures

pub fixed-window-requires-clause-lower : goal.fixed-window-requires-clause-lower
fixed-window-requires-clause-lower g c =
    let bounds = settled_bounds c.args.net.now c.args.capacities.now c.args.root.now c.loop-j.j c.loop-j.window c.settled-window.result c.loop-j.invariant.fixed c.settled-window.ensures in
    omega (arith, c.loop-j-test.true, c.job_count-j-end.ensures.count, bounds.lower)

pub fixed-window-requires-clause-upper : goal.fixed-window-requires-clause-upper
fixed-window-requires-clause-upper g c =
    let bounds = settled_bounds c.args.net.now c.args.capacities.now c.args.root.now c.loop-j.j c.loop-j.window c.settled-window.result c.loop-j.invariant.fixed c.settled-window.ensures in
    omega (arith, c.loop-j-test.true, c.job_count-j-end.ensures.count, bounds.upper)
