use Rattle.std.proofs.Common.{◌≡◌, arith, map, min, nat_lt, refl, rules}
use Rattle.std.proofs.lemmas.Grind.{common_steps}
use Rattle.std.specs.List.{prefix_len}
use Rattle.racp_show.specs.Entries.{line_of}
use Rattle.racp_show.specs.Outlines.{depth_of}
use Rattle.racp_show.proofs.Outlining.{cut_begun, same}
use Rattle.racp_show.proofs.outline.Outline.end_phases.Goals as goal

pub returns : goal.returns
returns c =
    let begun = c.args.self.now.begun.items in
    let count : c.count_outside-count.result ≡ prefix_len (λ line. nat_lt (depth_of line) c.args.depth) (map line_of begun) = search rules in
    let depth : c.min-self.result ≡ min c.args.self.now.depth c.args.depth = grind (arith, common_steps) in
    same _ _ refl (cut_begun c.args.depth begun c.count_outside-count.result c.truncate.new.self.items count c.truncate.ensures.items) depth refl refl
