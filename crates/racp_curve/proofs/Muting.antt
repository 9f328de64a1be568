-- Who is told only how much was done.
use Rattle.racp_found.specs.declared.observer.News.{News}
use Rattle.racp_found.specs.declared.observer.News.TheVariants.{Deadline, Floors, Cost, Plan, Work}
use Rattle.racp_curve.specs.Following.{MayBeToldOfWork, MayHearWork}

pub work_heard : (may_hear : News → Type 0) → MayBeToldOfWork may_hear → (news : News) → MayHearWork may_hear news
work_heard may_hear told (Deadline deadline) = tt
work_heard may_hear told (Floors floors) = tt
work_heard may_hear told (Cost least) = tt
work_heard may_hear told (Plan capacities starts known) = tt
work_heard may_hear told (Work conflicts clauses) = told conflicts clauses
