use Rattle.std.proofs.Common.{◌≡◌, ◌++◌, ◌∷◌, [], List, slice_index_or, if◌then◌else◌, ap, sym, subst}
use Rattle.racp_model.specs.Window.{Bounds}
use Rattle.racp_model.specs.declared.question.Question.{Question}
use Rattle.std.specs.Option.{option_to_list}
use Rattle.racp_core.specs.Machine.{QuestionRow, Machine}
use Rattle.racp_core.specs.Steps.{IsBack}
use Rattle.racp_core.specs.Rows.{no_out, IsPlaceIn, IsRemovedIfDone}
use Rattle.racp_core.proofs.States.{state_put, put_step, whole_left, place_out}
use Rattle.racp_core.proofs.collector.Core.put_whole.Goals as goal

pub invariant_of-self : goal.invariant_of-self
invariant_of-self g c =
    let i = c.self.inside in
    let m : Machine = record { asked = i.rows.items; to_come = option_to_list i.next ++ g.S.Series.questions i.series; least = i.least; taken = i.taken; ended = i.ended; halted = i.halted } in
    let out = place_out m c.args.piece c.args.at (subst (λ (x : Machine). IsPlaceIn x.asked c.args.piece c.args.at) (sym c.self.view_is) c.requires) in
    let window : c.into_question-question.result.window ≡ c.args.piece.question.window = ap (λ (q : Question). q.window) c.into_question-question.ensures in
    let row = c.index_mut-row.result.now in
    let back = subst (λ (w : Bounds). IsBack (slice_index_or row.out c.args.at no_out) (if c.is_before-opens.result then w ∷ [] else []) row c.put_whole.new.self) window c.put_whole.ensures in
    state_put m c.args.self.now c.args.piece c.args.at c.index-index.result c.is_before-opens.result (c.args.piece.question.window ∷ []) c.index_mut-row.result.now c.put_whole.new.self c.self.view_is c.index-index.ensures c.requires
    c.is_before-opens.ensures c.index_mut-row.ensures.value back g.N.OfNetwork.network i.undecided c.remove_if_done.new.undecided (whole_left g.N.OfNetwork.network m i.undecided c.args.piece out c.self.invariant)
    (subst (λ (xs : List QuestionRow). IsRemovedIfDone xs i.undecided c.index-index.result c.remove_if_done.new.undecided) c.deref.ensures.value c.remove_if_done.ensures) c.self.invariant

pub returns : goal.returns
returns g c =
    let i = c.self.inside in
    let m : Machine = record { asked = i.rows.items; to_come = option_to_list i.next ++ g.S.Series.questions i.series; least = i.least; taken = i.taken; ended = i.ended; halted = i.halted } in
    let window : c.into_question-question.result.window ≡ c.args.piece.question.window = ap (λ (q : Question). q.window) c.into_question-question.ensures in
    let row = c.index_mut-row.result.now in
    let back = subst (λ (w : Bounds). IsBack (slice_index_or row.out c.args.at no_out) (if c.is_before-opens.result then w ∷ [] else []) row c.put_whole.new.self) window c.put_whole.ensures in
    put_step m c.args.self.now c.args.piece c.args.at c.index-index.result c.is_before-opens.result (c.args.piece.question.window ∷ []) c.index_mut-row.result.now c.put_whole.new.self c.self.view_is c.index-index.ensures c.requires
    c.is_before-opens.ensures c.index_mut-row.ensures.value back
