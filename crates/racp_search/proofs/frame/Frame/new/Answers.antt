use Rattle.std.proofs.Common.{◌≡◌, [], ap, true}
use Rattle.racp_search.specs.DepthFirst.{child_windows}
use Rattle.racp_search.proofs.frame.Frame.new.Goals as goal

pub returns : goal.returns
returns g c =
    let windows : child_windows c.args.children.items ≡ [] = ap child_windows c.requires.children in
    λ i. record { node = c.args.node; active = c.args.active; windows = windows i; last = c.requires.last i; more = true }
