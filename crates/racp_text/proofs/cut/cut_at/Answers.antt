use Rattle.std.proofs.Common.{◌==◌, ◌∙◌, sym}
use Rattle.racp_text.proofs.lemmas.Cuts.{not_found}
use Rattle.racp_text.proofs.cut.cut_at.Goals as goal

pub returns-in_err-end : goal.returns-in_err-end
returns-in_err-end c = rw c.from_residual.ensures (not_found (λ b. b == c.args.byte) c.args.bytes.now (sym c.place_of.ensures ∙ c.in_err-end.was))
