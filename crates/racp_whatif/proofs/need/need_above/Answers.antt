use Rattle.std.proofs.Common.{◌≡◌, ◌∙◌, Some, option_map, ap, subst, sym}
use Rattle.racp_root.specs.Openings.{IsOpening}
use Rattle.racp_root.specs.declared.opening.Opening.TheVariants.{Root}
use Rattle.racp_model.specs.Terms.{Terms}
use Rattle.racp_whatif.proofs.Found.{answered}
use Rattle.racp_whatif.proofs.need.need_above.Goals as goal

pub returns-in-Root : goal.returns-in-Root
returns-in-Root c =
    let terms : Terms = c.args.order.now in
    let opening : IsOpening c.args.net.now terms (Root c.in-Root.critical c.in-Root.window) = subst (IsOpening c.args.net.now terms) c.in-Root.is c.in_ok-window.ensures in
    let are : terms.ceilings ≡ Some c.deref.result.now = sym (ap (λ (t : Terms). t.ceilings) c.order.view_is) ∙ (ap (option_map (λ list. list.items)) c.in-Some.is ∙ ap Some (sym c.deref.ensures.value)) in
    answered c.args.net.now c.in-Root.window c.deref.result.now terms opening.window_is are c.need_within.result c.need_within.ensures
