use Rattle.std.proofs.Common.{◌≡◌, ◌∙◌, ◌∷◌, [], length, refl, ap, arith, length-append}
use Rattle.racp_desk.proofs.starting.start.Goals.{else-loop-seat-test, then-loop-seat-test+in-Err}
use Rattle.racp_desk.proofs.starting.start.Goals as goal

pub loop-seat-preserved : goal.loop-seat-preserved
loop-seat-preserved g c = record {
  parts = omega (arith, c.hire-worker.ensures, c.loop-seat.invariant.parts);
  handles = (let long = ap (λ hs. length hs) c.push_reserved.ensures.items ∙ length-append c.loop-seat.handles.items (c.in-Ok.handle ∷ []) in omega (arith, long, c.loop-seat.invariant.handles));
  room = (let same = c.push_reserved.ensures.capacity in omega (arith, same, c.loop-seat.invariant.room));
}

pub returns : goal.returns
returns g c =
    let started : c.loop-seat-test.stock.share.parts ≡ c.loop-seat.stock.share.parts = elim c.loop-seat-test.branch [
      | else-loop-seat-test w ↦ rw w.stock-is refl
      | then-loop-seat-test+in-Err w ↦ rw w.stock-is (omega (arith, w.hire-worker.ensures, w.refuse.ensures, w.take_back.ensures))
    ] in
    omega (arith, started, c.hire-worker-2.ensures, c.take_back-2.ensures, c.loop-seat.invariant.parts, c.loop-seat.invariant.handles)
