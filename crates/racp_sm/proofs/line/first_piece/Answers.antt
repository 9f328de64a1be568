use Rattle.racp_sm.proofs.Cutting.{first_line, only_line, back-shorter, some_length}
use Rattle.racp_text.specs.Cuts.{is_line_feed}
use Rattle.racp_sm.proofs.line.first_piece.Goals as goal

pub returns-in-Some : goal.returns-in-Some
returns-in-Some c = (first_line c.args.text.now c.in-Some.piece.now c.in-Some.rest.now c.in-Some.ensures, back-shorter is_line_feed c.args.text.now c.in-Some.piece.now c.in-Some.rest.now c.in-Some.ensures)

pub returns : goal.returns
returns c = (only_line c.args.text.now c.in_default.ensures (some_length _ c.if-is_empty.ensures), some_length _ c.if-is_empty.ensures)
