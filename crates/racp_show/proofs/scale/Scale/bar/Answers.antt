use Rattle.std.proofs.Common.{◌-◌, arith, refl}
use Rattle.racp_show.proofs.Spans.{later_column}
use Rattle.racp_show.proofs.scale.Scale.bar.Goals as goal

pub returns-then-start-end : goal.returns-then-start-end
returns-then-start-end c = record {
  begins = λ _. refl;
  stops = λ _. omega (arith, later_column c.args.start (c.args.end - 1) c.args.self.now.span c.args.self.now.some_time (omega (arith, c.if-start-end.true)));
  mark = λ same. absurd (omega (arith, same, c.if-start-end.true));
}
