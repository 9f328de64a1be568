use Rattle.std.proofs.lemmas.Nat.Gcd.{IsGcd-from_mod}
use Rattle.racp_delay.proofs.reach.+common_divisor.Goals as goal

pub returns : goal.returns
returns t c = IsGcd-from_mod c.args.first c.args.second c.common_divisor.result c.common_divisor.ensures
