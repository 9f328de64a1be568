-- A plan in the formats of other programs.
use Rattle.std.specs.Prelude.{◌≡◌, ℕ, List}
use Rattle.racp_calendar.specs.declared.calendar.Calendar.{Calendar}
use Rattle.racp_model.specs.Project.{Project}
use Rattle.racp_model.specs.Terms.{Terms}
use Rattle.racp_plan.specs.declared.plan.Plan.{Plan}
use Rattle.racp_show.specs.Outlines.{Outlined}
use Rattle.racp_show.specs.Rows.{AreRows}
use Rattle.racp_show.specs.declared.row.Row.{Row}
use Rattle.racp_export.specs.Events.{events_text}
use Rattle.racp_export.specs.MsProject.{project_text}
use Rattle.racp_export.specs.Tables.{csv_text, markdown_text}
use Rattle.racp_export.specs.TaskJuggler.{IsJuggled}
use Rattle.racp_export.specs.Told.{Told}
use Rattle.racp_export.specs.declared.format.Format.{Format}
use Rattle.racp_export.specs.declared.format.Format.TheVariants.{Events, Csv, Markdown, MsProject, TaskJuggler}

-- a text is that of rows in a format
abbrev pub IsIn : Format → Told → List Row → List ℕ → Type 0
IsIn Events told rows text = text ≡ events_text told.calendar told.project told.names rows
IsIn Csv told rows text = text ≡ csv_text told.calendar told.project told.names rows
IsIn Markdown told rows text = text ≡ markdown_text told.calendar told.project told.names rows
IsIn MsProject told rows text = text ≡ project_text told rows
IsIn TaskJuggler told rows text = IsJuggled told rows text

-- by what a plan is told
abbrev pub told_of : Calendar → Project → Terms → Plan → List (List ℕ) → Told
told_of calendar p terms plan names = record {
  calendar = calendar;
  project = p;
  names = names;
  starts = plan.starts;
  capacities = plan.capacities;
  deadline = terms.deadline;
}

-- the text of a plan: that of the rows of its outline
pub record IsExport (format : Format) (calendar : Calendar) (p : Project) (terms : Terms) (plan : Plan)
    (names : List (List ℕ)) (outline : Outlined) (text : List ℕ) : Type 0 where
  pub rows : List Row
  pub right : AreRows p terms plan.starts names outline rows
  pub written : IsIn format (told_of calendar p terms plan names) rows text
