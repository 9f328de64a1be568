-- What is told of a plan that is not known.
use Rattle.std.specs.Prelude.{◌≡◌, ℕ, List, IfSome}
use Rattle.racp_calendar.specs.declared.calendar.Calendar.{Calendar}
use Rattle.racp_json.specs.Plans.{IsBoundIn, IsSheetIn}
use Rattle.racp_json.specs.declared.stop.StopAnswer.{StopAnswer}

-- for the texts of a network, an order and the best plan that is known: the units before which no plan stands, what they cost, and
-- the sheet of that plan, with these names and the days of a calendar; the last two are left out where a text is refused
pub record IsStopOf (net order best : List ℕ) (units : List ℕ) (names : List (List ℕ)) (calendar : Calendar) (stop : StopAnswer) : Type 0 where
  pub units_are : stop.not_before.items ≡ units
  pub bound_is : IfSome stop.bound (IsBoundIn net order units)
  pub best_is : IfSome stop.best (IsSheetIn net order best names calendar)
