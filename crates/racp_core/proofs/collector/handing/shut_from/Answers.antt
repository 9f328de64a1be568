use Rattle.std.proofs.Common.{◌<◌, ◌≤◌, length, refl, arith}
use Rattle.racp_core.proofs.Shutting.{shutting_start, shutting_step, shutting_end}
use Rattle.racp_core.proofs.collector.handing.shut_from.Goals as goal

pub loop-place-init : goal.loop-place-init
loop-place-init c = shutting_start c.args.index c.args.rows.now.items

pub loop-place-preserved : goal.loop-place-preserved
loop-place-preserved c =
    let same = c.loop-place.invariant.places in
    let l : c.loop-place.place < length c.loop-place.rows.items = omega (arith, same, c.args.rows.now.ok.0) in
    shutting_step c.args.index c.loop-place.place c.args.rows.now.items c.loop-place.rows.items _ c.index_mut-row.result.now c.shut.new.self c.loop-place.auto.place l c.index_mut-row.ensures.value c.shut.ensures refl c.loop-place.invariant

pub returns : goal.returns
returns c =
    let same = c.loop-place.invariant.places in
    let l : length c.loop-place.rows.items ≤ c.loop-place.place = omega (arith, same, c.args.rows.now.ok.0) in
    shutting_end c.args.index c.loop-place.place c.args.rows.now.items c.loop-place.rows.items l c.loop-place.invariant
