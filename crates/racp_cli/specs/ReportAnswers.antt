-- What `report` answers to the texts of a network, an order and a plan, and to what a page has beside them.
use Rattle.std.specs.Prelude.{◌≡◌, ◌≢◌, ◌⊎◌, ◌+◌, ◌++◌, ◌==◌, ◌&&◌, ℕ, Bool, MatchBool, List, [], ◌∷◌, IsUtf8, Option, Some, None, Result, Ok, String, codes, false, length, not, option_map, string_bytes, true}
use Rattle.std.specs.Global.{Global}
use Rattle.std.specs.List.{list_all}
use Rattle.racp_model.specs.Project.{Project}
use Rattle.racp_model.specs.Terms.{Terms}
use Rattle.racp_plan.specs.declared.plan.Plan.{Plan}
use Rattle.racp_plan.specs.Texts.{line}
use Rattle.racp_check.specs.PlanFaults.{IsChecked}
use Rattle.racp_calendar.specs.declared.calendar.Calendar.{Calendar}
use Rattle.racp_whatif.specs.Lines.{base_line}
use Rattle.racp_derivations.specs.BoundTexts.{IsLeastByText}
use Rattle.racp_report.specs.Pages.{IsPage}
use Rattle.racp_report.specs.Reports.{IsReport}
use Rattle.racp_report.specs.declared.claim.Claim.{Claim}
use Rattle.racp_report.specs.declared.claim.Claim.TheVariants.{Unknown, Cheapest, AtLeast}
use Rattle.racp_report.specs.declared.report.Report.{Report}
use Rattle.racp_json.specs.Lines.{rows_in}
use Rattle.racp_show.specs.Called.{are_names_for, names_of}
use Rattle.racp_show.specs.Outlines.{Outlined, outline_of}
use Rattle.racp_cli.specs.Checks.{AreRead, HasRightHead}
use Rattle.racp_cli.specs.Texts.{unproved_line}
use Rattle.racp_cli.specs.Verifies.{IsVerdict}
use Rattle.racp_cli.specs.ShowAnswers.{IsFaulty, count_line, names_line}
use Rattle.racp_streams.specs.Streams.{Reader, IsRun, ToThree}
use Rattle.racp_streams.specs.declared.fault.StreamFault.{StreamFault}
use Rattle.racp_cli.specs.declared.report.Page.{Page}

-- the page of a report that is right for the plan, the names, the text of a curve, the lines of changes and what is shown of
-- the cost, with times as a calendar tells them
pub record IsPageOf (claim : Claim) (calendar : Calendar) (curve changes : List ℕ) (network : Project) (terms : Terms) (plan : Plan)
    (names : List (List ℕ)) (outline : Outlined) (text : List ℕ) : Type 0 where
  pub report : Report
  pub right : IsReport network terms plan names outline curve changes claim report
  pub told : report.plan.calendar ≡ calendar
  pub page : String Global
  pub written : IsPage report page
  pub is : text ≡ string_bytes page

-- the lines for a text of changes that is not UTF-8, or that tells of another plan
abbrev pub changes_line : List ℕ
changes_line = line (codes "refused whatif 1 NotUtf8")

abbrev pub other_line : List ℕ
other_line = line (codes "refused whatif 2 OtherPlan")

-- a text of changes begins with the line of the plan, and this stands behind it; or it does not begin so
abbrev pub AreBehind : Plan → List ℕ → Option (List ℕ) → Type 0
AreBehind plan changes (Some rest) = changes ≡ base_line plan ++ rest
AreBehind plan changes None = (rest : List ℕ) → changes ≢ base_line plan ++ rest

-- the page, with the lines behind that of the plan; or that the text tells of another plan
abbrev pub IsBegun : Claim → Calendar → List ℕ → List ℕ → Project → Terms → Plan → List (List ℕ) → Outlined → ℕ → List ℕ → Type 0
IsBegun claim calendar curve changes network terms plan names outline status text =
    ((rest : List ℕ) × AreBehind plan changes (Some rest) × (status ≡ 0) ×
    IsPageOf claim calendar curve rest network terms plan names outline text) ⊎
    (AreBehind plan changes None × (status ≡ 5) × (text ≡ other_line))

-- the page, or that the text of changes is none; without it nothing is said of changes
abbrev pub IsChangedBy : Claim → Calendar → Option (List ℕ) → List ℕ → Project → Terms → Plan → List (List ℕ) → Outlined → ℕ →
    List ℕ → Type 0
IsChangedBy claim calendar None curve network terms plan names outline status text =
    (status ≡ 0) × IsPageOf claim calendar curve [] network terms plan names outline text
IsChangedBy claim calendar (Some changes) curve network terms plan names outline status text =
    (IsUtf8 changes × IsBegun claim calendar curve changes network terms plan names outline status text) ⊎
    ((IsUtf8 changes → ⊥) × (status ≡ 5) × (text ≡ changes_line))

-- the same of what a page has, with the text of a curve that is right, or is empty
abbrev pub IsChanged : Claim → Page → List ℕ → Project → Terms → Plan → List (List ℕ) → Outlined → ℕ → List ℕ → Type 0
IsChanged claim page = IsChangedBy claim page.calendar (option_map (λ changes. changes.now) page.changes)

-- some lines of a text begin with `deadline`, and each of these has so many numbers
abbrev pub are_steps : ℕ → List ℕ → Bool
are_steps wanted text =
    not (length (rows_in (codes "deadline") text) == 0) && list_all (λ row. length row == wanted) (rows_in (codes "deadline") text)

-- the lines for a curve that is not UTF-8, or has no steps of so many resources
abbrev pub curve_line : List ℕ
curve_line = line (codes "refused curve 1 NotUtf8")

abbrev pub steps_line : List ℕ
steps_line = line (codes "refused curve 2 NoSteps")

-- the page, or that the curve has no steps; a step has a deadline, a cost and the units of each resource
abbrev pub IsStepped : Claim → Page → List ℕ → Project → Terms → Plan → List (List ℕ) → Outlined → ℕ → List ℕ → Type 0
IsStepped claim page curve network terms plan names outline status text =
    ((are_steps (network.resources + 2) curve ≡ true) × IsChanged claim page curve network terms plan names outline status text) ⊎
    ((are_steps (network.resources + 2) curve ≡ false) × (status ≡ 5) × (text ≡ steps_line))

-- the page, or that the curve is none; without a curve nothing is said of other deadlines
abbrev pub IsCurvedBy : Claim → Page → Option (List ℕ) → Project → Terms → Plan → List (List ℕ) → Outlined → ℕ → List ℕ → Type 0
IsCurvedBy claim page None network terms plan names outline status text =
    IsChanged claim page [] network terms plan names outline status text
IsCurvedBy claim page (Some curve) network terms plan names outline status text =
    (IsUtf8 curve × IsStepped claim page curve network terms plan names outline status text) ⊎
    ((IsUtf8 curve → ⊥) × (status ≡ 5) × (text ≡ curve_line))

-- the same with the curve that a page has
abbrev pub IsCurved : Claim → Page → Project → Terms → Plan → List (List ℕ) → Outlined → ℕ → List ℕ → Type 0
IsCurved claim page = IsCurvedBy claim page (option_map (λ curve. curve.now) page.curve)

-- the same, if the text of the names has none or one for each job and resource, with the phases of that text
abbrev pub IsCountedReport : Claim → Page → Project → Terms → Plan → List ℕ → ℕ → List ℕ → Type 0
IsCountedReport claim page network terms plan names status text =
    ((are_names_for (names_of names) (length network.jobs + network.resources) ≡ true) ×
    IsCurved claim page network terms plan (names_of names) (outline_of (length network.jobs) names) status text) ⊎
    ((are_names_for (names_of names) (length network.jobs + network.resources) ≡ false) × (status ≡ 5) ×
    (text ≡ count_line))

-- the same with these names, or that they are none
abbrev pub IsNamedReport : Claim → Page → Project → Terms → Plan → List ℕ → ℕ → List ℕ → Type 0
IsNamedReport claim page network terms plan names status text =
    (IsUtf8 names × IsCountedReport claim page network terms plan names status text) ⊎
    ((IsUtf8 names → ⊥) × (status ≡ 5) × (text ≡ names_line))

-- what a text shows of what a plan costs: that the plan is the cheapest, if the text is a certificate for it; else what each
-- plan costs at least, if it is a certificate of a bound; else nothing
abbrev pub IsBoundBy : Project → Terms → List ℕ → Option Claim → Type 0
IsBoundBy network terms proof claim =
    (least : Option ℕ) × IsLeastByText network terms proof least × (claim ≡ option_map AtLeast least)

pub record IsShownBy (network : Project) (terms : Terms) (plan : Plan) (proof : List ℕ) (claim : Option Claim) : Type 0 where
  pub proved : Bool
  pub verdict : IsVerdict network terms plan proof proved
  pub is : MatchBool proved (claim ≡ Some Cheapest) (IsBoundBy network terms proof claim)

-- the same with the text that a page has; without one nothing is looked at
abbrev pub IsClaimBy : Project → Terms → Plan → Option (List ℕ) → Option Claim → Type 0
IsClaimBy network terms plan None claim = claim ≡ Some Unknown
IsClaimBy network terms plan (Some proof) claim = IsShownBy network terms plan proof claim

-- the page that says what is shown; or that the text shows nothing
abbrev pub IsClaimed : Page → Option Claim → Project → Terms → Plan → ℕ → List ℕ → Type 0
IsClaimed page (Some claim) network terms plan status text =
    IsNamedReport claim page network terms plan page.names.now status text
IsClaimed page None network terms plan status text = (status ≡ 8) × (text ≡ unproved_line)

-- the page about a plan with which nothing is wrong, or that the certificate shows nothing of it
pub record IsReported (page : Page) (net order plan : List ℕ) (status : ℕ) (text : List ℕ) : Type 0 where
  pub network : Project
  pub terms : Terms
  pub found : Plan
  pub are_read : AreRead net order plan network terms found
  pub head : HasRightHead network terms found
  pub checked : IsChecked network terms found (Ok tt)
  pub claim : Option Claim
  pub shown : IsClaimBy network terms found (option_map (λ proof. proof.now) page.proof) claim
  pub told : IsClaimed page claim network terms found status text

-- what is right for the texts: the page, if nothing is wrong with the plan; else what `check` says; memory may run out
-- at any texts
abbrev pub IsReportAnswer : Page → List ℕ → List ℕ → List ℕ → ℕ → List ℕ → Type 0
IsReportAnswer page net order plan status text =
    IsReported page net order plan status text ⊎ IsFaulty net order plan status text

-- a run of `report`
abbrev pub IsReportRun : Page → Reader → Reader → Reader → Option (List ℕ) → Option (List ℕ) → Result ℕ StreamFault → Type 0
IsReportRun page net order plan = IsRun (ToThree (IsReportAnswer page)) (net ∷ (order ∷ (plan ∷ [])))
