use Rattle.std.proofs.Common.{◌≡◌, ◌<◌, ◌≤◌, [], ◌∷◌, ◌++◌, codes, length, get_or, arith, rules}
use Rattle.std.specs.Fmt.{decimal}
use Rattle.racp_curve.specs.Texts.{spaced}
use Rattle.racp_cli.proofs.TextLines.{spaced_all, spaced_on, stopped_line_pieces}
use Rattle.racp_cli.proofs.lines.stopped_line.Goals as goal

pub loop-place-preserved : goal.loop-place-preserved
loop-place-preserved c =
    let place = c.loop-place.place in
    let numbers = c.args.capacities.now in
    let within : place < length numbers = search rules in
    let grown : c.push_number.new.text.items ≡ c.loop-place.text.items ++ (codes " " ++ decimal (get_or numbers place 0)) = search rules in
    spaced_on numbers _ _ _ place within c.loop-place.invariant grown

pub returns : goal.returns
returns c =
    let past : length c.args.capacities.now ≤ c.loop-place.place = omega (arith, c.loop-place.auto.place-end, c.loop-place-test.false) in
    let all = spaced_all c.args.capacities.now c.loop-place.text.items (codes "stopped" ++ spaced c.args.capacities.now) c.loop-place.place past c.loop-place.invariant in
    let ended : c.push.new.self.items ≡ c.loop-place.text.items ++ 10 ∷ [] = search rules in
    rw ended (stopped_line_pieces c.args.capacities.now c.loop-place.text.items all)
