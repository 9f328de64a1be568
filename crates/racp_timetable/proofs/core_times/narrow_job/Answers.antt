use Rattle.std.proofs.Common.{ℕ, ◌+◌, ◌<◌, ◌≤◌, slice_index, arith}
use Rattle.racp_model.specs.Project.{duration}
use Rattle.racp_timetable.specs.Cores.{HasRoom}
use Rattle.racp_timetable.proofs.Moving.{raised, reduced}
use Rattle.racp_timetable.proofs.Cores.{starts_behind, ends_before}
use Rattle.racp_timetable.proofs.core_times.narrow_job.Goals as goal

pub returns-then-core-end_of : goal.returns-then-core-end_of
returns-then-core-end_of c from first =
    let p = c.args.net.now in
    let w = c.args.window.now in
    let core = c.args.core.now in
    let i : ℕ = c.args.i in
    let full : HasRoom p c.args.capacities.now core.loads i → ⊥ = λ room. cc (c.has_room.ensures.1 room, c.if-has_room.false) in
    let runs : 0 < duration p i = omega (arith, c.duration-duration.ensures, c.if-duration-eq0.false) in
    let ends : core.time < slice_index w.lower i + duration p i = omega (arith, c.if-core-end_of.true, c.end_of-2.ensures, c.lower-first.ensures.bound) in
    let beside : core.time < slice_index w.upper i = omega (arith, c.if-last-core.false, c.upper-last.ensures.bound) in
    raised p c.args.capacities.now from w c.raise.new.self i core.until c.requires.bounds c.requires.job c.raise.result (omega (arith, c.if-core-first.false, c.lower-first.ensures.bound))
    (starts_behind p c.args.capacities.now w core c.requires.core i c.requires.job runs full ends beside) (λ starts keeps above less. absurd (omega (arith, c.requires.core.is.later))) c.raise.ensures

pub returns : goal.returns
returns c from first =
    let p = c.args.net.now in
    let w = c.args.window.now in
    let core = c.args.core.now in
    let i : ℕ = c.args.i in
    let full : HasRoom p c.args.capacities.now core.loads i → ⊥ = λ room. cc (c.has_room-else-core-last.ensures.1 room, c.if-has_room-2.false) in
    let runs : 0 < duration p i = omega (arith, c.duration-duration.ensures, c.if-duration-eq0.false) in
    let beside : slice_index w.lower i + duration p i ≤ core.time = omega (arith, c.if-core-end_of.false, c.end_of-2.ensures, c.lower-first.ensures.bound) in
    let begins : slice_index w.upper i < core.until = omega (arith, c.if-core-last.false, c.upper-last.ensures.bound) in
    let before = ends_before p c.args.capacities.now w core c.requires.core i c.requires.job runs full beside begins in
    reduced p c.args.capacities.now from w c.reduce.new.self i _ c.requires.bounds c.requires.job c.reduce.result (omega (arith, c.if-end_of-core.false, c.end_of.ensures, c.upper-last.ensures.bound, c.duration-duration.ensures))
    (λ starts answers. omega (arith, before starts answers, c.duration-duration.ensures)) c.reduce.ensures
