use Rattle.std.proofs.Common.{◌≡◌, ◌<◌, ◌++◌, length, get_or, rules}
use Rattle.racp_whatif.specs.Changes.{one_owned}
use Rattle.racp_whatif.proofs.Listing.{owned_on}
use Rattle.racp_whatif.proofs.changes.push_owned.Goals as goal

pub loop-place-preserved : goal.loop-place-preserved
loop-place-preserved c =
    let place = c.loop-place.place in
    let numbers = c.args.owned.now in
    let within : place < length numbers = search rules in
    let grown : c.push_one_owned.new.changes.items ≡ c.loop-place.changes.items ++ one_owned place (get_or numbers place 0) = search rules in
    owned_on numbers _ _ _ place within c.loop-place.invariant grown
