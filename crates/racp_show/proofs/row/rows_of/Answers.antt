use Rattle.std.proofs.Common.{ℕ, List, All, length, subst, sym}
use Rattle.std.proofs.lemmas.List.Elements.{All-push}
use Rattle.racp_show.specs.Entries.{outlined}
use Rattle.racp_show.specs.Rows.{IsRow}
use Rattle.racp_show.specs.declared.row.Row.{Row}
use Rattle.racp_show.proofs.Shown.{shown_all, shown_more, within_at}
use Rattle.racp_show.proofs.Within.{rows_within}
use Rattle.racp_show.proofs.row.rows_of.Goals as goal

pub row_of-requires-clause-job : goal.row_of-requires-clause-job
row_of-requires-clause-job c =
    within_at (length c.args.net.now.jobs) c.rows-entries.result.now (outlined c.args.outline.now).rows c.loop-entry.entry-index c.entry-item.result c.rows-entries.ensures (rows_within c.args.net.now (outlined c.args.outline.now) c.requires.outline) c.loop-entry-test.true c.entry-item.is

pub loop-entry-preserved : goal.loop-entry-preserved
loop-entry-preserved c =
    let P : Row → Type 0 = IsRow c.args.net.now c.args.plan.now.starts c.in_ok-room.room c.args.names.now c.task_count-tasks.result in (
      shown_more c.loop-entry.rows.items c.push.new.self.items c.in_ok-row_of.field-0 c.rows-entries.result.now c.loop-entry.entry-index c.entry-item.result c.loop-entry-test.true c.entry-item.is c.in_ok-push.ensures.items c.in_ok-row_of.ensures.shown c.loop-entry.invariant.0,
      subst (All P) (sym c.in_ok-push.ensures.items) (All-push P c.loop-entry.rows.items c.in_ok-row_of.field-0 c.loop-entry.invariant.1 (subst (λ (starts : List ℕ). IsRow c.args.net.now starts c.in_ok-room.room c.args.names.now c.task_count-tasks.result c.in_ok-row_of.field-0) c.as_slice.ensures c.in_ok-row_of.ensures.right)),
    )

pub returns : goal.returns
returns c = record {
  room = c.in_ok-room.room;
  right = c.in_ok-room.ensures;
  listed = shown_all c.loop-entry.rows.items c.rows-entries.result.now (outlined c.args.outline.now).rows c.loop-entry.entry-index c.loop-entry-test.false c.rows-entries.ensures c.loop-entry.invariant.0;
  each = subst (λ (tasks : ℕ). All (IsRow c.args.net.now c.args.plan.now.starts c.in_ok-room.room c.args.names.now tasks) c.loop-entry.rows.items) c.task_count-tasks.ensures c.loop-entry.invariant.1;
}
