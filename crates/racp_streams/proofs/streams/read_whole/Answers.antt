use Rattle.std.proofs.Common.{rules}
use Rattle.std.proofs.lemmas.Result.{err_from_is_err_and}
use Rattle.racp_streams.proofs.Inputs.{stops_in_read, ends_in_read}
use Rattle.racp_streams.proofs.streams.read_whole.Goals as goal

pub returns-in_err-read_piece : goal.returns-in_err-read_piece
returns-in_err-read_piece g c =
    let p = err_from_is_err_and c.from_residual.result c.from_residual.ensures.1 in
    rw (p.1, p.2) (stops_in_read _ _ _ _ _ c.read_piece.new.input.items _ c.loop-buffer.invariant (search rules) (search rules) c.in_err-read_piece.ensures.piece)

pub returns-then-not-branch : goal.returns-then-not-branch
returns-then-not-branch g c = ends_in_read _ _ _ _ _ c.read_piece.new.input.items c.in_ok-read_piece.field-0 c.loop-buffer.invariant (search rules) (search rules) c.in_ok-read_piece.ensures.piece c.in_ok-read_piece.ensures.bytes
