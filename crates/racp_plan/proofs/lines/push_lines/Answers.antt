use Rattle.std.proofs.Common.{◌≡◌, ◌+◌, ◌<◌, ◌++◌, length, get_or, codes, rules}
use Rattle.racp_plan.specs.PlanReading.{words_for}
use Rattle.racp_plan.specs.Steps.{number_line}
use Rattle.racp_plan.proofs.TextLines.{number_lines_on}
use Rattle.racp_plan.proofs.lines.push_lines.Goals as goal

pub loop-place-preserved : goal.loop-place-preserved
loop-place-preserved c =
    let place = c.loop-place.place in
    let numbers = c.args.numbers.now in
    let word = c.args.word.now ++ codes " " in
    let within : place < length numbers = search rules in
    let grown : c.push_line.new.text.items ≡ c.loop-place.text.items ++ number_line (words_for word (place + 1)) (get_or numbers place 0) = search rules in
    number_lines_on word numbers _ _ _ place within c.loop-place.invariant grown
