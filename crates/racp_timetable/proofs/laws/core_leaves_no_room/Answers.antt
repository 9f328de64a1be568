use Rattle.racp_timetable.proofs.Cores.{no_room}
use Rattle.racp_timetable.proofs.laws.core_leaves_no_room.Goals as goal

pub returns : goal.returns
returns c = no_room
