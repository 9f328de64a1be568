-- The words by which an explanation is asked for.
use Rattle.std.specs.Prelude.{ℕ, ◌==◌, ◌&&◌, ◌||◌, Bool, false, List, Option, Some, None, codes, bytes_eq}
use Rattle.racp_text.specs.Numbers.{is_number, value}
use Rattle.racp_sm.specs.Faults.{fault_number as sm_number, fault_name as sm_name}
use Rattle.racp_prices.specs.Faults.{fault_number as order_number, fault_name as order_name}
use Rattle.racp_plan.specs.TextFaults.{fault_number as plan_number, fault_name as plan_name}
use Rattle.racp_explain.specs.declared.subject.Line as lines
use Rattle.racp_explain.specs.declared.subject.Line.TheVariants.{Head, Cost, Late, Order as Before, Over, Ceiling, Early, TooLate, Due, NoRoom, Unproved, Stopped, NoThread, Memory, Read, Write, TooLong}
use Rattle.racp_explain.specs.declared.subject.Subject.{Subject}
use Rattle.racp_explain.specs.declared.subject.Subject.TheVariants.{Sm, Order, Plan, Names, NamesCount, Curve, CurveSteps, Changes, ChangesPlan, Line}

-- the first word of a line without a number, and its second word, or the first if there is no other
abbrev pub line_words : lines.Line → List ℕ × List ℕ
line_words Head = (codes "fault", codes "head")
line_words Cost = (codes "fault", codes "cost")
line_words Late = (codes "fault", codes "late")
line_words Before = (codes "fault", codes "order")
line_words Over = (codes "fault", codes "over")
line_words Ceiling = (codes "fault", codes "ceiling")
line_words Early = (codes "fault", codes "early")
line_words TooLate = (codes "impossible", codes "critical")
line_words Due = (codes "impossible", codes "due")
line_words NoRoom = (codes "impossible", codes "ceiling")
line_words Unproved = (codes "unproved", codes "unproved")
line_words Stopped = (codes "stopped", codes "stopped")
line_words NoThread = (codes "no", codes "thread")
line_words Memory = (codes "memory", codes "memory")
line_words Read = (codes "read", codes "fault")
line_words Write = (codes "write", codes "fault")
line_words TooLong = (codes "too", codes "long")

-- the kind of text that is refused, or the first word of the line
abbrev pub format_of : Subject → List ℕ
format_of (Sm kind) = codes "sm"
format_of (Order fault) = codes "order"
format_of (Plan kind) = codes "plan"
format_of Names = codes "names"
format_of NamesCount = codes "names"
format_of Curve = codes "curve"
format_of CurveSteps = codes "curve"
format_of Changes = codes "whatif"
format_of ChangesPlan = codes "whatif"
format_of (Line line) = (line_words line).0

-- the number of the fault, if it has one
abbrev pub number_of : Subject → Option ℕ
number_of (Sm kind) = Some (sm_number kind)
number_of (Order fault) = Some (order_number fault)
number_of (Plan kind) = Some (plan_number kind)
number_of Names = Some 1
number_of NamesCount = Some 2
number_of Curve = Some 1
number_of CurveSteps = Some 2
number_of Changes = Some 1
number_of ChangesPlan = Some 2
number_of (Line line) = None

-- the name of the fault, or the second word of the line
abbrev pub name_of : Subject → List ℕ
name_of (Sm kind) = sm_name kind
name_of (Order fault) = order_name fault
name_of (Plan kind) = plan_name kind
name_of Names = codes "NotUtf8"
name_of NamesCount = codes "Count"
name_of Curve = codes "NotUtf8"
name_of CurveSteps = codes "NoSteps"
name_of Changes = codes "NotUtf8"
name_of ChangesPlan = codes "OtherPlan"
name_of (Line line) = (line_words line).1

-- the word is this number in decimal, if there is one; zeros may stand in front
abbrev pub is_number_of : List ℕ → Option ℕ → Bool
is_number_of word None = false
is_number_of word (Some number) = is_number word && value word == number

-- the words are the format or the name of the subject, or its format and then its name or its number
abbrev pub is_named : List ℕ → Option (List ℕ) → Subject → Bool
is_named first None subject = bytes_eq first (format_of subject) || bytes_eq first (name_of subject)
is_named first (Some second) subject =
    bytes_eq first (format_of subject) &&
    (bytes_eq second (name_of subject) || is_number_of second (number_of subject))
