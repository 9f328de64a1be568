use Rattle.std.proofs.Common.{◌≡◌, ◌++◌, codes, rules}
use Rattle.racp_trees.proofs.Gathering.{last_written}
use Rattle.racp_trees.proofs.certifying.push_end.Goals as goal

pub returns : goal.returns
returns c =
    let ended : c.extend_from_slice.new.self.items ≡ c.args.text.now.items ++ codes "end\n" = search rules in
    last_written c.args.text.now.items c.extend_from_slice.new.self.items ended
