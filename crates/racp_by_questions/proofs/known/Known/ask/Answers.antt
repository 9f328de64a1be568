use Rattle.std.proofs.Common.{◌≡◌, refl, subst}
use Rattle.racp_model.specs.Window.{IsNo}
use Rattle.racp_candidates.specs.Questions.{question_of}
use Rattle.racp_questions.specs.FirstYes.{IsProbed}
use Rattle.racp_by_questions.proofs.Learning.{known-refutes, known-enough, known-kept, known-learnt, known-same, learnt-enough, told_no, told_yes}
use Rattle.racp_by_questions.proofs.known.Known.ask.Goals as goal

pub returns-then-refutes-clause-told : goal.returns-then-refutes-clause-told
returns-then-refutes-clause-told g c =
    known-refutes c.args.subject.now c.requires.subject c.args.self.now c.requires.known c.args.units.now c.requires.units (c.refutes.ensures c.if-refutes.true)

pub returns-then-is_enough-clause-told : goal.returns-then-is_enough-clause-told
returns-then-is_enough-clause-told g c =
    known-enough c.args.subject.now c.requires.subject c.args.self.now c.requires.known c.args.units.now c.args.self.now.best c.args.units.now refl refl c.requires.units
    (c.is_enough.ensures.0 c.if-is_enough.true)

pub returns-in_ok-keep-in-No-clause-better : goal.returns-in_ok-keep-in-No-clause-better
returns-in_ok-keep-in-No-clause-better g c =
    let is_no : IsNo c.args.subject.now.net.now c.args.units.now c.args.subject.now.root.now = told_no c.args.subject.now.net.now (question_of c.args.units.now c.args.subject.now.root.now) c.args.most _ c.in_ok-probe.ensures.probed c.in-No.is in
    let same : c.in_ok-copy-in-No.field-0 ≡ c.args.units.now = c.in_ok-copy-in-No.ensures in
    known-kept c.args.subject.now c.requires.subject c.args.self.now c.requires.known c.in_ok-copy-in-No.field-0 c.keep.new.self (rw same c.requires.units) (rw same is_no)
    c.keep.ensures.best c.keep.ensures.cost c.in_ok-keep-in-No.ensures.refuted

pub returns-in_ok-peaks-in-Yes-clause-better : goal.returns-in_ok-peaks-in-Yes-clause-better
returns-in_ok-peaks-in-Yes-clause-better g c =
    known-learnt c.args.subject.now c.requires.subject c.args.self.now c.requires.known c.args.units.now c.in-Yes.starts c.in_ok-peaks-in-Yes.field-0 c.learn.new.self c.requires.units c.requires.within
    (told_yes c.args.subject.now.net.now (question_of c.args.units.now c.args.subject.now.root.now) c.args.most _ c.in-Yes.starts c.in_ok-probe.ensures.probed c.in-Yes.is) c.in_ok-peaks-in-Yes.ensures c.learn.ensures

pub returns-in_ok-peaks-in-Yes-clause-told : goal.returns-in_ok-peaks-in-Yes-clause-told
returns-in_ok-peaks-in-Yes-clause-told g c =
    learnt-enough c.args.subject.now c.requires.subject c.args.self.now c.requires.known c.args.units.now c.in-Yes.starts c.in_ok-peaks-in-Yes.field-0 c.learn.new.self c.requires.units c.requires.within
    (told_yes c.args.subject.now.net.now (question_of c.args.units.now c.args.subject.now.root.now) c.args.most _ c.in-Yes.starts c.in_ok-probe.ensures.probed c.in-Yes.is) c.in_ok-peaks-in-Yes.ensures c.learn.ensures

pub returns-then-refutes-clause-better : goal.returns-then-refutes-clause-better
returns-then-refutes-clause-better g c = known-same c.args.subject.now c.requires.subject c.args.self.now c.requires.known

pub returns-then-is_enough-clause-better : goal.returns-then-is_enough-clause-better
returns-then-is_enough-clause-better g c = known-same c.args.subject.now c.requires.subject c.args.self.now c.requires.known

pub returns-in-Open-clause-better : goal.returns-in-Open-clause-better
returns-in-Open-clause-better g c = known-same c.args.subject.now c.requires.subject c.args.self.now c.requires.known

pub returns-in_ok-keep-in-No-clause-told : goal.returns-in_ok-keep-in-No-clause-told
returns-in_ok-keep-in-No-clause-told g c = told_no c.args.subject.now.net.now (question_of c.args.units.now c.args.subject.now.root.now) c.args.most _ c.in_ok-probe.ensures.probed c.in-No.is

pub returns-in-Open-clause-told : goal.returns-in-Open-clause-told
returns-in-Open-clause-told g c = subst (IsProbed c.args.subject.now.net.now (question_of c.args.units.now c.args.subject.now.root.now) c.args.most) c.in-Open.is c.in_ok-probe.ensures.probed
