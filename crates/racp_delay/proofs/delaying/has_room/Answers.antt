use Rattle.std.proofs.Common.{◌≡◌, slice_index, true≢false, arith, sym, refl}
use Rattle.racp_model.specs.Project.{place, request}
use Rattle.racp_model.proofs.lemmas.Sums.{request-small}
use Rattle.racp_delay.proofs.delaying.has_room.Goals as goal

pub overflow_add-loads : goal.overflow_add-loads
overflow_add-loads c =
    let most = request-small c.args.net.now (place c.args.job) c.loop-k.k c.requests-requests.ensures.sound (omega arith) (omega (arith, c.requests-requests.ensures.count)) in
    omega (arith, most, c.requires.small c.loop-k.k (omega (arith, c.requests-requests.ensures.count)), c.requests-requests.ensures.requests c.loop-k.k)

pub returns : goal.returns
returns c = (λ _ k l. c.loop-k.invariant k (omega (arith, l, c.requests-requests.ensures.count, c.loop-k-test.false)), λ _. refl)

pub returns-then-loads-k : goal.returns-then-loads-k
returns-then-loads-k c =
    let k = c.loop-k.k in
    let same : slice_index c.requests-requests.result.now k ≡ request c.args.net.now (place c.args.job) k = c.requests-requests.ensures.requests k in (
      λ e. absurd (true≢false (sym e)),
      λ room. absurd (omega (arith, c.if-loads-k.true, same, room k (omega (arith, c.loop-k-test.true, c.requests-requests.ensures.count)))),
    )
