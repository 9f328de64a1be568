use Rattle.std.proofs.Common.{List, ◌∙◌, ap}
use Rattle.racp_cutset.specs.Covering.{SearchNode}
use Rattle.racp_cutset.specs.Kept.{Kept, front}
use Rattle.racp_cutset.proofs.local.Local.forget_behind.Goals as goal

pub returns : goal.returns
returns g c =
    let kept : List SearchNode → Kept = λ records. record { records = records; most = c.self.inside.limit } in
    ap kept c.truncate.ensures.items ∙ ap (front c.args.count) c.self.view_is
