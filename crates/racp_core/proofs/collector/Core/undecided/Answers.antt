use Rattle.std.proofs.Common.{◌≡◌, ◌++◌, ◌∙◌, subst}
use Rattle.std.specs.Option.{option_to_list}
use Rattle.racp_core.specs.Machine.{Machine, undecided_count}
use Rattle.racp_core.proofs.Counting.{counted}
use Rattle.racp_core.proofs.collector.Core.undecided.Goals as goal

pub returns : goal.returns
returns g c =
    let i = c.self.inside in
    let m : Machine = record { asked = i.rows.items; to_come = option_to_list i.next ++ g.S.Series.questions i.series; least = i.least; taken = i.taken; ended = i.ended; halted = i.halted } in
    subst (λ (x : Machine). c.len.result ≡ undecided_count x) c.self.view_is (c.len.ensures.count ∙ counted m i.undecided c.self.invariant.undecided c.len.ensures.rising)
