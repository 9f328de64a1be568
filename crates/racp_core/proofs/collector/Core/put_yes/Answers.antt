use Rattle.std.proofs.Common.{◌≡◌, ◌++◌, Option, subst}
use Rattle.std.specs.Option.{option_to_list}
use Rattle.racp_core.specs.Machine.{KnownYes, Machine}
use Rattle.racp_core.specs.Steps.{lesser}
use Rattle.racp_core.proofs.States.{state_yes, yes_step}
use Rattle.racp_core.proofs.collector.Core.put_yes.Goals as goal

pub invariant_of-self : goal.invariant_of-self
invariant_of-self g c =
    let i = c.self.inside in
    let m : Machine = record { asked = i.rows.items; to_come = option_to_list i.next ++ g.S.Series.questions i.series; least = i.least; taken = i.taken; ended = i.ended; halted = i.halted } in
    let least = subst (λ (b : Option KnownYes). c.lesser_yes.result ≡ lesser b (record { index = c.index-index.result; starts = c.args.starts })) c.take.ensures.value c.lesser_yes.ensures in
    state_yes m c.args.self.now i.undecided c.cut_at.new.self c.args.piece.now c.args.at c.index-index.result c.args.starts c.index_mut-row.result.now c.close.new.self c.shut_from.new.rows.items c.lesser_yes.result c.self.view_is c.index-index.ensures c.requires.place
    c.index_mut-row.ensures.value c.close.ensures c.shut_from.ensures least g.N.OfNetwork.network c.cut_at.ensures c.requires.yes c.self.invariant

pub returns : goal.returns
returns g c =
    let i = c.self.inside in
    let m : Machine = record { asked = i.rows.items; to_come = option_to_list i.next ++ g.S.Series.questions i.series; least = i.least; taken = i.taken; ended = i.ended; halted = i.halted } in
    let least = subst (λ (b : Option KnownYes). c.lesser_yes.result ≡ lesser b (record { index = c.index-index.result; starts = c.args.starts })) c.take.ensures.value c.lesser_yes.ensures in
    yes_step m c.args.self.now i.undecided c.cut_at.new.self c.args.piece.now c.args.at c.index-index.result c.args.starts c.index_mut-row.result.now c.close.new.self c.shut_from.new.rows.items c.lesser_yes.result c.self.view_is c.index-index.ensures c.requires.place
    c.index_mut-row.ensures.value c.close.ensures c.shut_from.ensures least
