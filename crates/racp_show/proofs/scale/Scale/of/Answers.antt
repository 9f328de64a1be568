use Rattle.std.proofs.Common.{◌≡◌, max, arith}
use Rattle.std.proofs.lemmas.Bool.Decides.{nat_tests}
use Rattle.racp_show.proofs.Spans.{least_span}
use Rattle.racp_show.proofs.scale.Scale.of.Goals as goal

pub returns : goal.returns
returns c =
    let greater : c.max-span.result ≡ max 1 c.div_ceil.result = grind (arith, nat_tests, c.max-span.ensures) in
    record {
      least = least_span c.args.deadline c.args.most c.div_ceil.result c.max-span.result c.requires.some_column c.div_ceil.ensures greater;
      count = c.div_ceil-columns.ensures;
    }
