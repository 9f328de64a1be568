use Rattle.std.proofs.Common.{◌≡◌, fold, map}
use Rattle.racp_show.specs.Called.{printed}
use Rattle.racp_show.specs.Entries.{outlined}
use Rattle.racp_show.specs.Outlines.{nothing, with_line}
use Rattle.racp_show.proofs.outline.Outline.of_lines.Given as goal

abbrev pub invariant-loop-line : goal.invariant-loop-line
invariant-loop-line l =
    outlined l.outline ≡ fold (with_line l.jobs) nothing (map printed (map (λ line. line.now) l.yielded))
