-- Time units.
use Rattle.std.specs.Prelude.{ℕ}
use Rattle.racp_calendar.specs.declared.unit.Unit.{Unit}
use Rattle.racp_calendar.specs.declared.unit.Unit.TheVariants.{Day, Week}

-- how many days a time unit has
abbrev pub unit_days : Unit → ℕ
unit_days Day = 1
unit_days Week = 7
