use Rattle.std.proofs.Common.{Err, ap, sym, ◌∙◌}
use Rattle.racp_plan.specs.Steps.{Rest, next_line}
use Rattle.racp_plan.proofs.lemmas.Fronts.{line_cut, line_none}
use Rattle.racp_plan.proofs.rest.Rest.next_line.Goals as goal

pub returns-in-Some : goal.returns-in-Some
returns-in-Some c =
    let inside : Rest = record { line = c.self.inside.line; bytes = c.self.inside.bytes.now } in
    sym (line_cut inside c.in-Some.line.now c.in-Some.bytes.now c.in-Some.ensures) ∙ ap next_line c.self.view_is

pub returns-in-None : goal.returns-in-None
returns-in-None c =
    let inside : Rest = record { line = c.self.inside.line; bytes = c.self.inside.bytes.now } in
    ap Err c.at.ensures ∙ sym (line_none inside c.in-None.ensures) ∙ ap next_line c.self.view_is
