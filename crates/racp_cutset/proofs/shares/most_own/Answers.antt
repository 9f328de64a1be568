use Rattle.std.proofs.Common.{◌*◌, ◌/◌, ℕ, ap}
use Rattle.racp_cutset.proofs.shares.most_own.Goals as goal

pub returns : goal.returns
returns c = ap (λ (numbers : ℕ). c.args.mebibytes * 131072 / (numbers * c.args.workers)) c.record_numbers.ensures.exact
