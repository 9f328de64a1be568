-- The status of what a command tells of a network or a plan.
use Rattle.std.specs.Prelude.{◌⊎◌, ℕ, Bool, List}
use Rattle.racp_cli.specs.Answers.{IsCpmAnswer}
use Rattle.racp_cli.specs.Checks.{IsCheckAnswer}
use Rattle.racp_cli.specs.ExportAnswers.{IsExportAnswer}
use Rattle.racp_cli.specs.ReportAnswers.{IsReportAnswer}
use Rattle.racp_cli.specs.ShowAnswers.{IsShowAnswer}
use Rattle.racp_cli.specs.declared.export.Target.{Target}
use Rattle.racp_cli.specs.declared.report.Page.{Page}
use Rattle.racp_cli.specs.declared.show.Look.{Look}
use Rattle.racp_cli.specs.Verifies.{IsVerifyAnswerUntil}
use Rattle.racp_cli.specs.VerifyBounds.{IsBoundAnswer}

-- some answer of a command that tells of a network or a plan has this status; nothing is said of which
abbrev pub IsStatusOfPlan : ℕ → Type 0
IsStatusOfPlan status =
    ((input : List ℕ) × (text : List ℕ) × IsCpmAnswer input status text) ⊎
    ((net order plan : List ℕ) × (text : List ℕ) × IsCheckAnswer net order plan status text) ⊎
    ((quiet : Bool) × (net order plan proof : List ℕ) × (text : List ℕ) ×
    (IsVerifyAnswerUntil quiet net order plan proof status text ⊎ IsBoundAnswer quiet net order proof status text)) ⊎
    ((net order plan : List ℕ) × (text : List ℕ) × (((look : Look) × IsShowAnswer look net order plan status text) ⊎
    ((target : Target) × IsExportAnswer target net order plan status text))) ⊎
    ((page : Page) × (net order plan : List ℕ) × (text : List ℕ) × IsReportAnswer page net order plan status text)
