use Rattle.std.proofs.Common.{◌≡◌, ◌∙◌, ◌++◌, ◌<◌, List, length, slice_set, ap, sym, subst, arith}
use Rattle.std.proofs.lemmas.Result.{err_from_is_err_and}
use Rattle.std.specs.Option.{option_to_list}
use Rattle.racp_search.specs.Truth.{SearchPiece, rest_windows}
use Rattle.racp_core.specs.Machine.{QuestionRow, Machine}
use Rattle.racp_core.specs.Rows.{IsRemovedIfDone}
use Rattle.racp_core.proofs.States.{state_put, put_step, state_read, written_as_read, rest_left}
use Rattle.racp_core.proofs.collector.Core.put.Goals as goal

pub invariant_of-self : goal.invariant_of-self
invariant_of-self g c =
    let i = c.self.inside in
    let m : Machine = record { asked = i.rows.items; to_come = option_to_list i.next ++ g.S.Series.questions i.series; least = i.least; taken = i.taken; ended = i.ended; halted = i.halted } in
    let there : c.args.finding.piece.index < length i.rows.items = subst (λ (x : Machine). c.args.finding.piece.index < length x.asked) (sym c.self.view_is) c.requires.place.index in
    let same : c.index-index.result ≡ c.args.finding.piece.index = c.index-index.ensures ∙ ap (λ (q : SearchPiece). q.index) c.piece.ensures.piece in
    state_read g.N.OfNetwork.network m i.undecided c.index-index.result c.index_mut-row.result.now c.put.new.self (omega (arith, there, same)) c.index_mut-row.ensures.value c.in_err-put.ensures.err.0 c.self.invariant

pub invariant_of-self-2 : goal.invariant_of-self-2
invariant_of-self-2 g c =
    let i = c.self.inside in
    let m : Machine = record { asked = i.rows.items; to_come = option_to_list i.next ++ g.S.Series.questions i.series; least = i.least; taken = i.taken; ended = i.ended; halted = i.halted } in
    let piece = c.args.finding.piece in
    let same : c.index-index.result ≡ piece.index = c.index-index.ensures ∙ ap (λ (q : SearchPiece). q.index) c.piece.ensures.piece in
    state_put m c.args.self.now piece c.args.at c.index-index.result c.is_before-opens.result (rest_windows piece.question.window c.args.finding.rest) c.index_mut-row.result.now c.put.new.self c.self.view_is same c.requires.place
    c.is_before-opens.ensures c.index_mut-row.ensures.value c.in_ok-put.ensures.ok g.N.OfNetwork.network i.undecided c.remove_if_done.new.undecided
    (λ _. rest_left g.N.OfNetwork.network piece.question.capacities piece.question.window c.args.finding.found (rest_windows piece.question.window c.args.finding.rest) c.piece.ensures.is_true c.requires.none)
    (subst (λ (xs : List QuestionRow). IsRemovedIfDone xs i.undecided c.index-index.result c.remove_if_done.new.undecided) c.deref.ensures.value c.remove_if_done.ensures) c.self.invariant

pub returns-clause-ok : goal.returns-clause-ok
returns-clause-ok g c =
    let i = c.self.inside in
    let m : Machine = record { asked = i.rows.items; to_come = option_to_list i.next ++ g.S.Series.questions i.series; least = i.least; taken = i.taken; ended = i.ended; halted = i.halted } in
    let piece = c.args.finding.piece in
    let same : c.index-index.result ≡ piece.index = c.index-index.ensures ∙ ap (λ (q : SearchPiece). q.index) c.piece.ensures.piece in
    put_step m c.args.self.now piece c.args.at c.index-index.result c.is_before-opens.result (rest_windows piece.question.window c.args.finding.rest) c.index_mut-row.result.now c.put.new.self c.self.view_is same c.requires.place
    c.is_before-opens.ensures c.index_mut-row.ensures.value c.in_ok-put.ensures.ok

pub returns-in_err-put-clause-err : goal.returns-in_err-put-clause-err
returns-in_err-put-clause-err g c =
    let i = c.self.inside in
    let m : Machine = record { asked = i.rows.items; to_come = option_to_list i.next ++ g.S.Series.questions i.series; least = i.least; taken = i.taken; ended = i.ended; halted = i.halted } in
    let there : c.args.finding.piece.index < length i.rows.items = subst (λ (x : Machine). c.args.finding.piece.index < length x.asked) (sym c.self.view_is) c.requires.place.index in
    let same : c.index-index.result ≡ c.args.finding.piece.index = c.index-index.ensures ∙ ap (λ (q : SearchPiece). q.index) c.piece.ensures.piece in
    let asked : slice_set i.rows.items c.index-index.result c.put.new.self ≡ i.rows.items =
    written_as_read i.rows.items c.index-index.result c.index_mut-row.result.now c.put.new.self (omega (arith, there, same)) c.index_mut-row.ensures.value c.in_err-put.ensures.err.0 in
    let kept : record m { asked = slice_set i.rows.items c.index-index.result c.put.new.self } ≡ c.args.self.now = ap (λ (rows : List QuestionRow). record m { asked = rows }) asked ∙ c.self.view_is in
    let p = err_from_is_err_and c.from_residual.result c.from_residual.ensures.1 in
    rw (p.1, p.2) (kept, c.in_err-put.ensures.err.1, c.in_err-put.ensures.err.2)
