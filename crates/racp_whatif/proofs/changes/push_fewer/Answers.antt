use Rattle.std.proofs.Common.{◌≡◌, ◌<◌, ◌++◌, length, get_or, rules}
use Rattle.racp_whatif.specs.Changes.{one_fewer}
use Rattle.racp_whatif.proofs.Listing.{fewer_on}
use Rattle.racp_whatif.proofs.changes.push_fewer.Goals as goal

pub loop-place-preserved : goal.loop-place-preserved
loop-place-preserved c =
    let place = c.loop-place.place in
    let numbers = c.args.capacities.now in
    let within : place < length numbers = search rules in
    let grown : c.push_one_fewer.new.changes.items ≡ c.loop-place.changes.items ++ one_fewer place (get_or numbers place 0) = search rules in
    fewer_on numbers _ _ _ place within c.loop-place.invariant grown
