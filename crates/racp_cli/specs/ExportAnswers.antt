-- What `export` answers to the texts of a network, an order and a plan, by the names, the calendar and the format that are
-- asked for.
use Rattle.std.specs.Prelude.{◌≡◌, ◌⊎◌, ◌+◌, ℕ, List, [], ◌∷◌, IsUtf8, Option, Result, Ok, codes, false, length, true}
use Rattle.racp_model.specs.Project.{Project}
use Rattle.racp_model.specs.Terms.{Terms}
use Rattle.racp_plan.specs.declared.plan.Plan.{Plan}
use Rattle.racp_plan.specs.Texts.{line}
use Rattle.racp_check.specs.PlanFaults.{IsChecked}
use Rattle.racp_calendar.specs.declared.calendar.Calendar.{Calendar}
use Rattle.racp_export.specs.Days.{is_told}
use Rattle.racp_export.specs.Exports.{IsExport}
use Rattle.racp_export.specs.declared.format.Format.{Format}
use Rattle.racp_show.specs.Called.{are_names_for, names_of}
use Rattle.racp_show.specs.Outlines.{Outlined, outline_of}
use Rattle.racp_cli.specs.Checks.{AreRead, HasRightHead}
use Rattle.racp_cli.specs.ShowAnswers.{IsFaulty, count_line, names_line}
use Rattle.racp_cli.specs.declared.export.Target.{Target}
use Rattle.racp_streams.specs.Streams.{Reader, IsRun, ToThree}
use Rattle.racp_streams.specs.declared.fault.StreamFault.{StreamFault}

-- the line if the last day of the deadline or the day behind it has no date
abbrev pub calendar_line : List ℕ
calendar_line = line (codes "refused calendar 1 NoDay")

-- the plan, if the calendar tells it by dates
abbrev pub IsToldExport : Format → Calendar → Project → Terms → Plan → List (List ℕ) → Outlined → ℕ → List ℕ → Type 0
IsToldExport format calendar network terms plan names outline status text =
    ((is_told calendar terms.deadline ≡ true) × (status ≡ 0) ×
    IsExport format calendar network terms plan names outline text) ⊎
    ((is_told calendar terms.deadline ≡ false) × (status ≡ 5) × (text ≡ calendar_line))

-- the plan, if the text of its names has none or one for each job and resource, with the phases of that text
abbrev pub IsCountedExport : Target → Project → Terms → Plan → List ℕ → ℕ → List ℕ → Type 0
IsCountedExport target network terms plan names status text =
    ((are_names_for (names_of names) (length network.jobs + network.resources) ≡ true) ×
    IsToldExport target.format target.calendar network terms plan (names_of names) (outline_of (length network.jobs) names) status text) ⊎
    ((are_names_for (names_of names) (length network.jobs + network.resources) ≡ false) × (status ≡ 5) ×
    (text ≡ count_line))

-- the plan with these names, or that they are none
abbrev pub IsNamedExport : Target → Project → Terms → Plan → List ℕ → ℕ → List ℕ → Type 0
IsNamedExport target network terms plan names status text =
    (IsUtf8 names × IsCountedExport target network terms plan names status text) ⊎
    ((IsUtf8 names → ⊥) × (status ≡ 5) × (text ≡ names_line))

-- the plan, with which nothing is wrong
pub record IsExported (target : Target) (net order plan : List ℕ) (status : ℕ) (text : List ℕ) : Type 0 where
  pub network : Project
  pub terms : Terms
  pub found : Plan
  pub are_read : AreRead net order plan network terms found
  pub head : HasRightHead network terms found
  pub checked : IsChecked network terms found (Ok tt)
  pub named : IsNamedExport target network terms found target.names.now status text

-- what is right for the texts of a network, an order and a plan: the plan, if nothing is wrong with it; else what `check`
-- says; memory may run out at any texts
abbrev pub IsExportAnswer : Target → List ℕ → List ℕ → List ℕ → ℕ → List ℕ → Type 0
IsExportAnswer target net order plan status text =
    IsExported target net order plan status text ⊎ IsFaulty net order plan status text

-- a run of `export`
abbrev pub IsExportRun : Target → Reader → Reader → Reader → Option (List ℕ) → Option (List ℕ) → Result ℕ StreamFault → Type 0
IsExportRun target net order plan = IsRun (ToThree (IsExportAnswer target)) (net ∷ (order ∷ (plan ∷ [])))
