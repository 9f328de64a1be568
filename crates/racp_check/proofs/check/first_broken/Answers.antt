use Rattle.std.proofs.Common.{ℕ, arith}
use Rattle.racp_check.proofs.Precedence.{broken_answer, kept_answer}
use Rattle.racp_check.proofs.check.first_broken.Goals as goal

pub returns-then-starts-j : goal.returns-then-starts-j
returns-then-starts-j c =
    broken_answer c.args.net.now c.args.starts.now c.arcs-before-items.result.now c.loop-before.before-index c.arcs-before-items.ensures.arcs c.arcs-before-items.ensures.sound c.loop-before-test.true
    c.loop-before.invariant (omega (arith, c.duration.ensures, c.if-starts-j.true))

pub returns : goal.returns
returns c = kept_answer c.args.net.now c.args.starts.now c.arcs-before-items.result.now c.arcs-before-items.ensures.arcs (λ (q : ℕ) l. c.loop-before.invariant q (omega arith))
