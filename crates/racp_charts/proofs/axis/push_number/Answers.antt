use Rattle.std.proofs.Common.{◌∙◌, ◌++◌, ℕ, ap, codes, string_bytes}
use Rattle.racp_charts.specs.Axes.{across, mark_begin, mark_number, told_time}
use Rattle.racp_charts.proofs.Pieces.{in_three}
use Rattle.racp_charts.proofs.axis.push_number.Goals as goal

pub returns : goal.returns
unfolding mark_number
returns c =
    in_three (string_bytes c.args.text.now) (mark_begin (across c.args.span c.args.time) c.args.y) (told_time c.args.span c.args.time) (codes "</text>\n") (c.in_ok-push_begin.ensures ∙ ap (λ (x : ℕ). string_bytes c.args.text.now ++ mark_begin x c.args.y) c.across.ensures.place) c.in_ok-push_told.ensures c.in_ok-push_str.ensures.bytes
