use Rattle.std.proofs.Common.{◌≡◌, [], map}
use Rattle.racp_xml.specs.Nesting.{name_of}
use Rattle.racp_xml.proofs.Steps.{one_more}
use Rattle.racp_xml.proofs.nesting.take_mark.Goals as goal

pub returns : goal.returns
returns c steps =
    rw c.in_ok-keep.ensures (one_more [] (map name_of c.args.read.now.opened.items) (map name_of c.nest.new.opened.items) c.args.read.now.found.items c.args.mark steps c.in_ok-nest.ensures)
