use Rattle.std.proofs.Common.{ap, length, slice_index, sym, ◌==◌}
use Rattle.std.specs.Prelude.{◌&&◌}
use Rattle.std.proofs.lemmas.Bool.{lt-ltb}
use Rattle.racp_derivations.proofs.words.has_zero_in_front.Goals as goal

pub returns-then-digits-gt1 : goal.returns-then-digits-gt1
returns-then-digits-gt1 c = sym (ap (λ b. b && (slice_index c.args.digits.now 0 == 48)) (lt-ltb 1 (length c.args.digits.now) c.if-digits-gt1.true))
