use Rattle.std.proofs.Common.{◌∙◌, ◌++◌, List, ℕ, ap, codes, string_bytes}
use Rattle.racp_model.specs.Project.{place}
use Rattle.racp_export.specs.Events.{content_line, days_text, description_lines, event_text, stamp_of, summary_text, uid_text}
use Rattle.racp_export.specs.Letters.{spelled}
use Rattle.racp_export.specs.Words.{needs_text}
use Rattle.racp_export.specs.declared.letters.Letters.TheVariants.{Events}
use Rattle.racp_export.proofs.Pieces.{in_six}
use Rattle.racp_export.proofs.events.push_event.Goals as goal

pub returns : goal.returns
unfolding event_text
returns c =
    let calendar = c.args.ground.now.calendar in
    let task = c.args.task.now in
    in_six (string_bytes c.args.text.now) (codes "BEGIN:VEVENT\r\n") (content_line (uid_text (stamp_of calendar) task)) (days_text calendar (stamp_of calendar) task) (content_line (summary_text task)) (description_lines (spelled Events (needs_text c.args.ground.now.net.now c.args.ground.now.names.now (place task.job)))) (codes "TRANSP:TRANSPARENT\r\nEND:VEVENT\r\n")
    c.in_ok-push_str.ensures.bytes
    (c.in_ok-push_uid.ensures ∙ ap (λ (stamp : List ℕ). string_bytes c.push_str.new.self ++ content_line (uid_text stamp task)) c.requires)
    (c.in_ok-push_days.ensures ∙ ap (λ (stamp : List ℕ). string_bytes c.push_uid.new.text ++ days_text calendar stamp task) c.requires)
    c.in_ok-push_summary.ensures c.in_ok-push_description.ensures c.in_ok-push_str-2.ensures.bytes
