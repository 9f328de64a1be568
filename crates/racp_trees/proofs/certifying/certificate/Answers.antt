use Rattle.std.proofs.Common.{◌≡◌, codes, rules}
use Rattle.racp_trees.proofs.Gathering.{first_written}
use Rattle.racp_trees.proofs.certifying.certificate.Goals as goal

pub push_rest-requires-clause-begun : goal.push_rest-requires-clause-begun
push_rest-requires-clause-begun g c =
    let begun : c.in_ok-text.text.items ≡ codes "proof\n" = search rules in
    first_written c.in_ok-text.text.items begun
