use Rattle.racp_whatif.proofs.Found.{found-jointly}
use Rattle.racp_whatif.proofs.need.need_within.Goals as goal

pub returns-in-None : goal.returns-in-None
returns-in-None c =
    found-jointly c.args.net.now c.args.window.now c.args.ceilings.now (c.in_ok-need.ensures.none c.in-None.is) c.joint_above.result c.joint_above.ensures.above c.joint_above.ensures.none
