use Rattle.std.proofs.Common.{refl, ap}
use Rattle.racp_search.specs.Truth.{SearchPiece}
use Rattle.racp_by_questions.proofs.Probing.{probed}
use Rattle.racp_by_questions.proofs.alone.Alone.probe_until.Goals as goal

pub returns-clause-probed : goal.returns-clause-probed
returns-clause-probed g c =
    probed _ c.args.net.now c.args.question c.args.most c.new-piece.result c.explore-finding.result c.in_ok-probe.probe c.requires.named c.explore-finding.ensures.explored (ap (λ (x : SearchPiece). x.question) c.new-piece.ensures)
    c.in_ok-probe.ensures.whole c.in_ok-probe.ensures.long c.in_ok-probe.ensures.probe
