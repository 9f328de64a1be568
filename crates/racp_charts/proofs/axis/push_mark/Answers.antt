use Rattle.std.proofs.Common.{◌∙◌, ◌+◌, ◌++◌, ℕ, ap, string_bytes}
use Rattle.racp_charts.specs.Axes.{across, mark_element, mark_line, mark_number}
use Rattle.racp_charts.proofs.Pieces.{in_two}
use Rattle.racp_charts.proofs.axis.push_mark.Goals as goal

pub returns : goal.returns
unfolding mark_element
returns c =
    in_two (string_bytes c.args.text.now) (mark_line (across c.args.span c.args.time) c.args.top c.args.bottom) (mark_number c.args.span c.args.time (c.args.bottom + 15)) (c.in_ok-push_line.ensures ∙ ap (λ (x : ℕ). string_bytes c.args.text.now ++ mark_line x c.args.top c.args.bottom) c.across.ensures.place) c.in_ok-push_number.ensures
