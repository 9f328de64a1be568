use Rattle.std.proofs.Common.{◌∙◌, sym}
use Rattle.racp_sm.specs.Lines.{is_blank}
use Rattle.racp_text.proofs.lemmas.Cuts.{not_found}
use Rattle.racp_sm.proofs.cut.cut_at_blank.Goals as goal

pub returns-in_err-end : goal.returns-in_err-end
returns-in_err-end c = rw c.from_residual.ensures (not_found is_blank c.args.bytes.now (sym c.place_of_blank.ensures ∙ c.in_err-end.was))
