use Rattle.std.proofs.Common.{◌≡◌, ◌<◌, ◌+◌, ◌-◌, ℕ, List, eqb, false, not, ap, get_or, length, arith}
use Rattle.std.specs.Str.{IsCharBoundary}
use Rattle.std.specs.List.{suffix_len}
use Rattle.std.proofs.lemmas.Str.{IsCharBoundary-after_ascii}
use borrow.Author.Tests.{eq-eqb}
use Rattle.racp_tables.proofs.Cuts.{end_is, last_parts}
use Rattle.racp_tables.proofs.pieces.parts_at_last.Goals as goal
use Rattle.racp_tables.proofs.pieces.parts_at_last.Goals.{then-loop-end-test+else-bytes-end, else-loop-end-test}

pub split_at-requires-2 : goal.split_at-requires-2
split_at-requires-2 c =
    let text : List ℕ = c.as_bytes-bytes.result.now in
    let some : 0 < c.loop-end.end = omega (arith, c.if-end-eq0.false) in
    let here : get_or text (c.loop-end.end - 1) 0 ≡ c.args.letter = elim c.loop-end-test.branch [
      | then-loop-end-test+else-bytes-end w ↦ omega (arith, w.if-bytes-end.false)
      | else-loop-end-test w ↦ absurd (omega (arith, some, w.loop-end-test.false))
    ] in
    let after : IsCharBoundary text ((c.loop-end.end - 1) + 1) =
    IsCharBoundary-after_ascii text (c.loop-end.end - 1) c.as_bytes-bytes.ensures.utf8 (omega (arith, some, c.loop-end.invariant.0)) (omega (arith, here, c.requires)) in
    let same : (c.loop-end.end - 1) + 1 ≡ c.loop-end.end = omega (arith, some) in
    rw (c.as_bytes-bytes.ensures.value, same) at after

pub returns : goal.returns
returns c =
    let text : List ℕ = c.as_bytes-bytes.result.now in
    let some : 0 < c.loop-end.end = omega (arith, c.if-end-eq0.false) in
    let stops : 0 < c.loop-end.end → not (eqb (get_or text (c.loop-end.end - 1) 0) c.args.letter) ≡ false = elim c.loop-end-test.branch [
      | then-loop-end-test+else-bytes-end w ↦ λ more. ap not (eq-eqb (get_or text (c.loop-end.end - 1) 0) c.args.letter (omega (arith, w.if-bytes-end.false)))
      | else-loop-end-test w ↦ λ more. absurd (omega (arith, some, w.loop-end-test.false))
    ] in
    let count : c.loop-end.end + suffix_len (λ (b : ℕ). not (eqb b c.args.letter)) text ≡ length text =
    end_is (λ (b : ℕ). not (eqb b c.args.letter)) text c.loop-end.end c.loop-end.invariant.0 c.loop-end.invariant.1 stops in
    rw (c.split_at.ensures.front, c.split_at-2.ensures.back) (rw c.as_bytes-bytes.ensures.value at (last_parts text (suffix_len (λ (b : ℕ). not (eqb b c.args.letter)) text) c.loop-end.end count some))
