use Rattle.std.proofs.Common.{◌≡◌, ℕ, List, map, rules, string_bytes, subst, sym}
use Rattle.racp_charts.specs.Pictures.{IsCostPicture}
use Rattle.racp_charts.specs.declared.costs.Corner.{Corner}
use Rattle.racp_cli.specs.CurveAnswers.{corner_of}
use Rattle.racp_cli.proofs.curve.picture.Goals as goal

pub returns : goal.returns
returns c =
    let same : c.into_bytes.result.items ≡ string_bytes c.in_ok-picture.picture = search rules in
    let corners : c.deref.result.now ≡ map corner_of c.args.steps.now = search rules in
    let drawn = subst (λ (all : List Corner). IsCostPicture c.args.calendar all c.args.last (string_bytes c.in_ok-picture.picture)) corners c.in_ok-picture.ensures in
    subst (λ (t : List ℕ). IsCostPicture c.args.calendar (map corner_of c.args.steps.now) c.args.last t) (sym same) drawn
