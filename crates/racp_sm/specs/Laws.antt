-- Laws of what texts are read as. Each is the contract of a public function.
use Rattle.std.specs.Prelude.{◌≡◌, ℕ, List, length, Result, Ok}
use Rattle.racp_model.specs.Project.{Project, IsWithinLimits, AreNumbers}
use Rattle.racp_sm.specs.Reading.{IsReading, reading}
use Rattle.racp_sm.specs.Faults.{SmFault}

-- a text is read as at most one thing
abbrev pub ReadingIsOne : Type 0
ReadingIsOne = (text : List ℕ) (x y : Result Project SmFault) → IsReading text x → IsReading text y → x ≡ y

-- each text is read as something
abbrev pub TextIsRead : Type 0
TextIsRead = (text : List ℕ) → (x : Result Project SmFault) × IsReading text x

-- the project that a text says is within the limits, and its pairs name its jobs
abbrev pub ReadWithinLimits : Type 0
ReadWithinLimits =
    (text : List ℕ) (project : Project) → reading text ≡ Ok project →
    IsWithinLimits project.resources project.jobs × AreNumbers (length project.jobs) project.arcs
