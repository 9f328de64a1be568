use Rattle.std.proofs.Common.{◌≡◌, rules, string_bytes, subst, sym, List, ℕ}
use Rattle.racp_charts.specs.Pictures.{IsPlanPicture}
use Rattle.racp_charts.specs.declared.drawing.Drawing.{Drawing}
use Rattle.racp_cli.proofs.show.drawn.Goals as goal

pub returns : goal.returns
returns c =
    let same : c.into_bytes.result.items ≡ string_bytes c.in_ok-picture.picture = search rules in
    let drawing : Drawing = record c.in_ok-drawing.drawing { calendar = c.args.look.calendar } in
    record { drawing = drawing; right = search rules; told = search rules; drawn = subst (λ (t : List ℕ). IsPlanPicture c.args.look.has_links drawing t) (sym same) c.in_ok-picture.ensures }
