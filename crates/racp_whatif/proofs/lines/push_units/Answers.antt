use Rattle.std.proofs.Common.{◌≡◌, ◌<◌, ◌++◌, length, get_or, slice_index, string_bytes, rules}
use Rattle.racp_whatif.specs.Lines.{resource_called, units_beside}
use Rattle.racp_whatif.proofs.Listing.{beside_on}
use Rattle.racp_whatif.proofs.lines.push_units.Goals as goal

pub loop-place-preserved : goal.loop-place-preserved
loop-place-preserved c =
    let place = c.loop-place.place in
    let numbers = c.args.news.now in
    let olds = c.args.olds.now in
    let called = c.args.called.now in
    let within : place < length numbers = search rules in
    let grown : string_bytes c.push_units_beside.new.text ≡ string_bytes c.loop-place.text ++ units_beside (resource_called called.names.now called.jobs place) (slice_index olds place) (get_or numbers place 0) = search rules in
    beside_on called.names.now called.jobs olds numbers _ _ _ place within c.loop-place.invariant grown
