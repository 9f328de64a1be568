use Rattle.std.proofs.Common.{◌≤◌, arith, rules, slice_index}
use Rattle.racp_show.proofs.Greatest.{usage-between}
use Rattle.racp_show.proofs.usage.greatest_usage.Goals as goal
use Rattle.racp_show.proofs.usage.greatest_usage.Goals.{then-from-start+then-start-to, else-from-start, else-from-start-via-then-from-start+else-start-to, else-from-start-via-else-from-start}

pub returns : goal.returns
returns c = record {
  most = usage-between c.args.net.now c.args.starts.now c.args.k c.args.from c.args.to c.loop-i.most c.loop-i.invariant.first (λ j job. c.loop-i.invariant.each j (omega (arith, job, c.job_count-i-end.ensures.count)));
  reached = c.loop-i.invariant.reached;
}

pub loop-i-preserved : goal.loop-i-preserved
loop-i-preserved c = elim c.if-from-start.branch [
  | then-from-start+then-start-to w ↦ search rules
  | else-from-start w ↦ elim w.else-from-start.branch [
    | else-from-start-via-then-from-start+else-start-to w' ↦ let late : c.args.to ≤ slice_index c.args.starts.now c.loop-i.i = w'.if-start-to.false in search rules
    | else-from-start-via-else-from-start w' ↦ search rules
  ]
]
