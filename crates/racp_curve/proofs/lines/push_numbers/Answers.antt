use Rattle.std.proofs.Common.{◌≡◌, ◌<◌, ◌++◌, codes, length, get_or, rules}
use Rattle.std.specs.Fmt.{decimal}
use Rattle.racp_curve.proofs.TextLines.{spaced_on}
use Rattle.racp_curve.proofs.lines.push_numbers.Goals as goal

pub loop-number-preserved : goal.loop-number-preserved
loop-number-preserved c =
    let place = c.loop-number.number-index in
    let numbers = c.args.numbers.now in
    let within : place < length numbers = search rules in
    let grown : c.push_number.new.text.items ≡ c.loop-number.text.items ++ (codes " " ++ decimal (get_or numbers place 0)) = search rules in
    spaced_on numbers _ _ _ place within c.loop-number.invariant grown
