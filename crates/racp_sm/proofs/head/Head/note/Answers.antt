use Rattle.racp_sm.specs.Head.{Entries}
use Rattle.racp_sm.proofs.Noting.{no_colon, key_line}
use Rattle.racp_sm.proofs.head.Head.note.Goals as goal

pub returns-in_default : goal.returns-in_default
returns-in_default c = no_colon c.args.line.now c.bytes.result.now c.args.self.now c.bytes.ensures c.in_default.ensures

pub returns : goal.returns
returns c =
    let inside : Entries = record {
      projects = c.self.inside.projects;
      jobs = c.self.inside.jobs;
      renewable = c.self.inside.renewable;
      nonrenewable = c.self.inside.nonrenewable;
      doubly_constrained = c.self.inside.doubly_constrained;
    } in
    key_line c.args.line.now c.bytes.result.now c.in-Some.key.now c.in-Some.after.now c.first_or_empty-value.result.now c.number-number.result inside c.args.self.now _
    (record { text_is = c.bytes.ensures; number_is = c.number-number.ensures; parts = c.in-Some.ensures; value_is = c.first_or_empty-value.ensures })
    c.self.view_is c.note_value.ensures c.note_value-2.ensures c.note_value-3.ensures c.note_value-4.ensures c.note_value-5.ensures
