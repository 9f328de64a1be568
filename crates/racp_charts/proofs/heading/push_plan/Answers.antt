use Rattle.std.proofs.Common.{◌∙◌, ◌++◌, ℕ, List, ap, string_bytes}
use Rattle.racp_calendar.specs.Dates.{last_text}
use Rattle.racp_charts.specs.Pictures.{deadline_words, plan_title, plan_title_begin}
use Rattle.racp_charts.proofs.Pieces.{in_three}
use Rattle.racp_charts.proofs.heading.push_plan.Goals as goal

pub returns : goal.returns
unfolding plan_title
returns c =
    in_three (string_bytes c.args.text.now) (plan_title_begin c.args.cost) (deadline_words c.args.calendar) (last_text c.args.calendar c.args.deadline) c.in_ok-push_plan_begin.ensures (c.in_ok-push_str.ensures.bytes ∙ ap (λ (t : List ℕ). string_bytes c.push_plan_begin.new.text ++ t) c.deadline_words.ensures) c.in_ok-push_last.ensures
