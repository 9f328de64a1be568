use Rattle.std.proofs.Common.{rules}
use Rattle.racp_xml.proofs.Steps.{closes}
use Rattle.racp_xml.proofs.nesting.nest.Goals as goal

pub returns-in-Some : goal.returns-in-Some
returns-in-Some c = closes c.args.mark c.args.opened.now.items c.pop.new.self.items c.in-Some.name c.in-Closes.is c.in-Some.ensures.items (search rules)
