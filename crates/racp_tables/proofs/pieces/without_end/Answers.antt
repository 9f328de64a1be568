use Rattle.std.proofs.Common.{◌≡◌, ◌∙◌, ◌<◌, ◌-◌, ℕ, List, eqb, false, get_or, arith}
use borrow.Author.Tests.{ne_eqb}
use Rattle.racp_tables.proofs.Cuts.{end_is, front_is}
use Rattle.racp_tables.proofs.pieces.without_end.Goals as goal
use Rattle.racp_tables.proofs.pieces.without_end.Goals.{then-loop-end-test+else-bytes-end, else-loop-end-test}

pub returns : goal.returns
returns c =
    let text : List ℕ = c.as_bytes-bytes.result.now in
    let stops : 0 < c.loop-end.end → eqb (get_or text (c.loop-end.end - 1) 0) c.args.letter ≡ false = elim c.loop-end-test.branch [
      | then-loop-end-test+else-bytes-end w ↦ λ some. ne_eqb _ _ w.if-bytes-end.false
      | else-loop-end-test w ↦ λ some. absurd (omega (arith, some, w.loop-end-test.false))
    ] in
    let count = end_is (λ (b : ℕ). eqb b c.args.letter) text c.loop-end.end c.loop-end.invariant.0 c.loop-end.invariant.1 stops in
    c.split_at.ensures.front ∙ (rw c.as_bytes-bytes.ensures.value at (front_is (λ (b : ℕ). eqb b c.args.letter) text c.loop-end.end count))
