-- What `show` answers to the texts of a network, an order and a plan, by the names and the form that are asked for.
use Rattle.std.specs.Prelude.{◌≡◌, ◌⊎◌, ◌+◌, ℕ, Bool, List, [], ◌∷◌, ⊤, IsUtf8, Option, Result, Ok, Err, codes, false, length, true}
use Rattle.racp_model.specs.Project.{Project}
use Rattle.racp_model.specs.Terms.{Terms}
use Rattle.racp_plan.specs.declared.plan.Plan.{Plan}
use Rattle.racp_plan.specs.Texts.{line}
use Rattle.racp_check.specs.PlanFaults.{IsChecked}
use Rattle.racp_show.specs.Called.{are_names_for, names_of}
use Rattle.racp_show.specs.Outlines.{Outlined, outline_of}
use Rattle.racp_calendar.specs.declared.calendar.Calendar.{Calendar}
use Rattle.racp_charts.specs.Pictures.{IsPlanPicture}
use Rattle.racp_charts.specs.Choices.{IsDrawing}
use Rattle.racp_charts.specs.declared.drawing.Drawing.{Drawing}
use Rattle.racp_show.specs.Sheets.{IsSheet}
use Rattle.racp_show.specs.Tables.{table_text}
use Rattle.racp_show.specs.declared.sheet.Sheet.{Sheet}
use Rattle.racp_cli.specs.Checks.{AreRead, HasRightHead, IsCheck, check_status, check_text}
use Rattle.racp_streams.specs.Streams.{Reader, IsRun, ToThree}
use Rattle.racp_cli.specs.declared.check_fault.CheckFault.{CheckFault}
use Rattle.racp_streams.specs.declared.fault.StreamFault.{StreamFault}
use Rattle.racp_show.specs.declared.form.Form.{Form}
use Rattle.racp_show.specs.declared.form.Form.TheVariants.{Text, Ascii, Svg, Json, Csv}
use Rattle.racp_cli.specs.declared.show.Look.{Look}

-- a picture of what is drawn of a plan, with times as they are to be told
pub record IsDrawn (look : Look) (network : Project) (terms : Terms) (plan : Plan) (names : List (List ℕ))
    (outline : Outlined) (text : List ℕ) : Type 0 where
  pub drawing : Drawing
  pub right : IsDrawing network terms plan names outline drawing
  pub told : drawing.calendar ≡ look.calendar
  pub drawn : IsPlanPicture look.has_links drawing text

-- the table of a plan's sheet, with times as they are to be told
pub record IsSheetTable (calendar : Calendar) (network : Project) (terms : Terms) (plan : Plan) (names : List (List ℕ))
    (text : List ℕ) : Type 0 where
  pub sheet : Sheet
  pub right : IsSheet calendar network terms plan names sheet
  pub written : text ≡ table_text sheet

-- what is written of a plan: as SVG a picture, as CSV its table; nothing is said here of the other forms, whose
-- values racp_show speaks of
abbrev pub IsInForm : Form → Look → Project → Terms → Plan → List (List ℕ) → Outlined → List ℕ → Type 0
IsInForm Text look network terms plan names outline text = ⊤
IsInForm Ascii look network terms plan names outline text = ⊤
IsInForm Svg look network terms plan names outline text = IsDrawn look network terms plan names outline text
IsInForm Json look network terms plan names outline text = ⊤
IsInForm Csv look network terms plan names outline text = IsSheetTable look.calendar network terms plan names text

abbrev pub IsPicture : Look → Project → Terms → Plan → List (List ℕ) → Outlined → List ℕ → Type 0
IsPicture look network terms plan names outline text = IsInForm look.form look network terms plan names outline text

-- the line if names are not UTF-8
abbrev pub names_line : List ℕ
names_line = line (codes "refused names 1 NotUtf8")

-- the line if there are neither no names nor one for each job and resource
abbrev pub count_line : List ℕ
count_line = line (codes "refused names 2 Count")

-- the plan, if the text of its names has none or one for each job and resource, with the phases of that text
abbrev pub IsCounted : Look → Project → Terms → Plan → List ℕ → ℕ → List ℕ → Type 0
IsCounted look network terms plan names status text =
    ((are_names_for (names_of names) (length network.jobs + network.resources) ≡ true) × (status ≡ 0) ×
    IsPicture look network terms plan (names_of names) (outline_of (length network.jobs) names) text) ⊎
    ((are_names_for (names_of names) (length network.jobs + network.resources) ≡ false) × (status ≡ 5) ×
    (text ≡ count_line))

-- the plan with these names, or that they are none
abbrev pub IsNamed : Look → Project → Terms → Plan → List ℕ → ℕ → List ℕ → Type 0
IsNamed look network terms plan names status text =
    (IsUtf8 names × IsCounted look network terms plan names status text) ⊎
    ((IsUtf8 names → ⊥) × (status ≡ 5) × (text ≡ names_line))

-- the plan, with which nothing is wrong
pub record IsShown (look : Look) (net order plan : List ℕ) (status : ℕ) (text : List ℕ) : Type 0 where
  pub network : Project
  pub terms : Terms
  pub found : Plan
  pub are_read : AreRead net order plan network terms found
  pub head : HasRightHead network terms found
  pub checked : IsChecked network terms found (Ok tt)
  pub named : IsNamed look network terms found look.names.now status text

-- what `check` says of it
pub record IsFaulty (net order plan : List ℕ) (status : ℕ) (text : List ℕ) : Type 0 where
  pub fault : CheckFault
  pub right : IsCheck net order plan (Err fault)
  pub with_status : status ≡ check_status (Err fault)
  pub with_text : text ≡ check_text (Err fault)

-- what is right for the texts of a network, an order and a plan: the plan, if nothing is wrong with it; else what `check`
-- says; memory may run out at any texts
abbrev pub IsShowAnswer : Look → List ℕ → List ℕ → List ℕ → ℕ → List ℕ → Type 0
IsShowAnswer look net order plan status text =
    IsShown look net order plan status text ⊎ IsFaulty net order plan status text

-- a run of `show`
abbrev pub IsShowRun : Look → Reader → Reader → Reader → Option (List ℕ) → Option (List ℕ) → Result ℕ StreamFault → Type 0
IsShowRun look net order plan = IsRun (ToThree (IsShowAnswer look)) (net ∷ (order ∷ (plan ∷ [])))
