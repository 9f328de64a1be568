use Rattle.std.proofs.Common.{rules}
use Rattle.racp_curve.proofs.TextLines.{curve_text_pieces}
use Rattle.racp_curve.proofs.lines.curve_text.Goals as goal

pub returns : goal.returns
returns c = rw (← (curve_text_pieces c.args.steps.now c.in_ok-text.text.items c.in_ok-text.ensures)) (search rules)
