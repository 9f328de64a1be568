use Rattle.std.proofs.Common.{inl, inr, refl, subst}
use Rattle.std.specs.Prelude.{Option, IfSome}
use Rattle.racp_derivations.specs.BoundTexts.{IsBoundText}
use Rattle.racp_derivations.specs.declared.trimming.least.BoundCertificate.{BoundCertificate}
use Rattle.racp_prove.proofs.bounding.answer_bound.Goals as goal

pub returns-in-Some : goal.returns-in-Some
returns-in-Some c =
    let shown = subst (λ (o : Option BoundCertificate). IfSome o (λ made. IsBoundText c.args.task.now.net.now c.args.task.now.order.now made.least made.text.items)) c.in-Some.is c.requires in
    inr (inl (refl, c.in-Some.made.least, shown))
