use Rattle.std.proofs.Common.{◌≡◌, replicate, slice_index, rules}
use Rattle.std.proofs.lemmas.Result.{IfOk-weaker}
use Rattle.racp_cli.proofs.Answering.{answers_early}
use Rattle.racp_cli.proofs.cpm.early_answer.Goals as goal

pub returns : goal.returns
returns c =
    let n = c.job_count.result in
    let first : c.deref.result.now ≡ replicate n 0 = search rules in
    let same : c.as_slice.result.now ≡ c.in_ok-starts.starts = c.as_slice.ensures in
    let early = rw first at c.in_ok-starts.ensures in
    IfOk-weaker c.early_lines.result _ _ (λ text e. answers_early c.args.network.now n c.last_end-critical.result c.as_slice.result.now text.items
    (c.last_end-critical.ensures.critical (slice_index (replicate n 0)) early) (rw (same) early) e) c.early_lines.ensures
