use Rattle.std.proofs.Common.{List, String, All, subst, sym}
use Rattle.std.specs.Global.{Global}
use Rattle.std.proofs.lemmas.List.Elements.{All-push}
use Rattle.racp_show.specs.Labels.{IsWithinColumns}
use Rattle.racp_show.proofs.label.labels.Goals as goal

pub loop-entry-preserved : goal.loop-entry-preserved
loop-entry-preserved c =
    subst (λ (xs : List (String Global)). All (IsWithinColumns c.args.most) xs) (sym c.in_ok-push.ensures.items)
    (All-push (IsWithinColumns c.args.most) c.loop-entry.labels.items c.in_ok-row_label.field-0 c.loop-entry.invariant c.in_ok-row_label.ensures)

pub loop-k-preserved : goal.loop-k-preserved
loop-k-preserved c =
    subst (λ (xs : List (String Global)). All (IsWithinColumns c.args.most) xs) (sym c.in_ok-push-2.ensures.items)
    (All-push (IsWithinColumns c.args.most) c.loop-k.labels.items c.in_ok-label_within.field-0 c.loop-k.invariant c.in_ok-label_within.ensures.width)
