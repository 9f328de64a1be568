use Rattle.std.proofs.Common.{◌∙◌, ap}
use Rattle.racp_export.specs.Days.{word_behind, word_behind_day}
use Rattle.racp_export.proofs.NextDay.{behind_word}
use Rattle.racp_export.proofs.behind.next_day.Goals as goal

pub returns-in-None : goal.returns-in-None
unfolding word_behind
returns-in-None c = ap word_behind_day c.in-None.ensures

pub returns-in-Some : goal.returns-in-Some
unfolding word_behind
returns-in-Some c = behind_word c.in-Some.day c.day_after.result c.day_after.ensures ∙ ap word_behind_day c.in-Some.ensures
