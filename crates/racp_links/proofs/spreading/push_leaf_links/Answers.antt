use Rattle.std.proofs.Common.{◌≡◌, ◌∙◌, ◌++◌, true, List, ap}
use Rattle.std.proofs.lemmas.Result.{on_ok_weaker}
use Rattle.racp_links.specs.declared.link.Link.{Link}
use Rattle.racp_links.specs.Phases.{ties_phase}
use Rattle.racp_links.proofs.Marks.{first_ties, second_ties, links_are}
use Rattle.racp_links.proofs.Outlines.{leaves_known}
use Rattle.racp_links.proofs.spreading.push_leaf_links.Goals as goal
use Rattle.racp_links.proofs.spreading.push_leaf_links.Goals.{else-not-marks-link-via-then-not-marks-link+else-not-marks-link-2, else-not-marks-link-via-else-not-marks-link}

pub those_in-requires-clause-known : goal.those_in-requires-clause-known
those_in-requires-clause-known c = leaves_known c.args.parents.now c.args.tasks.now c.requires.leaves

pub those_in-requires-2-clause-known : goal.those_in-requires-2-clause-known
those_in-requires-2-clause-known c = leaves_known c.args.parents.now c.args.tasks.now c.requires.leaves

pub returns : goal.returns
returns c =
    let ties : ties_phase c.args.parents.now c.args.link.now ≡ true = elim c.else-not-marks-link.branch [
      | else-not-marks-link-via-then-not-marks-link+else-not-marks-link-2 w ↦
          second_ties c.args.parents.now c.args.marks.now c.args.link.now c.requires.marks c.requires.names w.if-not-marks-link-2.false
      | else-not-marks-link-via-else-not-marks-link w ↦
          first_ties c.args.parents.now c.args.marks.now c.args.link.now c.requires.marks c.requires.names w.if-not-marks-link.false
    ] in
    on_ok_weaker c.push_links_between.result
    (λ made. made ∙ ap (λ (links : List Link). c.args.made.now.items ++ links)
    (links_are c.args.parents.now c.args.tasks.now c.deref.result.now c.deref-2.result.now c.args.link.now c.requires.leaves
    (c.deref.ensures.value ∙ c.in_ok-firsts.ensures) (c.deref-2.ensures.value ∙ c.in_ok-seconds.ensures) ties))
    c.push_links_between.ensures
