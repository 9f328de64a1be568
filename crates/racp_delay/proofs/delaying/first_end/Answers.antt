use Rattle.std.proofs.Common.{◌∙◌}
use Rattle.std.proofs.Common.{ℕ, List, ◌+◌, slice_index, arith, subst, Contains, Decides, eqb, ap, length}
use Rattle.std.proofs.lemmas.Bool.Decides.{Decides-eqb}
use Rattle.std.proofs.lemmas.List.Elements.{Decides-contains, contains_decides}
use Rattle.racp_model.specs.Project.{place}
use Rattle.racp_delay.specs.Branching.{IsFirstEndAnswer}
use Rattle.racp_delay.proofs.Ending.{next-is, seeking-start, seeking-skip, seeking-next, seeking-end}
use Rattle.racp_delay.proofs.delaying.first_end.Goals as goal

pub loop-job-init : goal.loop-job-init
loop-job-init c = seeking-start c.args.net.now c.as_slice-starts.result.now c.args.gone.now c.args.active.now c.into_iter-job-iterator.result (c.into_iter-job-iterator.ensures.into_iter_gives ∙ c.iter-job-items.ensures.same)

pub bounds-starts-place : goal.bounds-starts-place
bounds-starts-place c =
    let is = next-is c.args.net.now c.as_slice-starts.result.now c.args.gone.now c.args.active.now c.loop-job.job-iterator c.loop-job.first c.in-Some.job c.next.new.self c.loop-job.invariant c.in-Some.ensures.steps c.requires.active in
    omega (arith, is.0, is.1, c.requires.starts, ap (length {A = ℕ}) c.as_slice-starts.ensures)

pub duration-requires : goal.duration-requires
duration-requires c =
    let is = next-is c.args.net.now c.as_slice-starts.result.now c.args.gone.now c.args.active.now c.loop-job.job-iterator c.loop-job.first c.in-Some.job c.next.new.self c.loop-job.invariant c.in-Some.ensures.steps c.requires.active in
    omega (arith, is.0, is.1)

pub loop-job-preserved-then-not-contains : goal.loop-job-preserved-then-not-contains
loop-job-preserved-then-not-contains c =
    let test : Decides c.contains.result (Contains c.args.gone.now c.in-Some.job) = Decides-contains c.args.gone.now c.in-Some.job c.contains.result (contains_decides eqb Decides-eqb c.args.gone.now c.in-Some.job c.contains.result c.contains.ensures.cases) in
    seeking-next c.args.net.now c.as_slice-starts.result.now c.args.gone.now c.args.active.now c.loop-job.job-iterator c.loop-job.first c.in-Some.job c.next.new.self c.loop-job.invariant c.in-Some.ensures.steps
    (λ goes. cc (test.1 goes, c.if-not-contains.true)) (slice_index c.as_slice-starts.result.now (place c.in-Some.job) + c.duration.result) c.earlier-first.result (omega (arith, c.duration.ensures)) c.earlier-first.ensures

pub loop-job-preserved : goal.loop-job-preserved
loop-job-preserved c =
    let test : Decides c.contains.result (Contains c.args.gone.now c.in-Some.job) = Decides-contains c.args.gone.now c.in-Some.job c.contains.result (contains_decides eqb Decides-eqb c.args.gone.now c.in-Some.job c.contains.result c.contains.ensures.cases) in
    seeking-skip c.args.net.now c.as_slice-starts.result.now c.args.gone.now c.args.active.now c.loop-job.job-iterator c.loop-job.first c.in-Some.job c.next.new.self c.loop-job.invariant c.in-Some.ensures.steps (test.0 c.if-not-contains.false)

pub returns : goal.returns
returns c kept s =
    subst (λ (xs : List ℕ). IsFirstEndAnswer c.args.net.now xs kept c.loop-job.first) c.as_slice-starts.ensures
    (seeking-end c.args.net.now c.as_slice-starts.result.now c.args.gone.now c.args.active.now c.loop-job.job-iterator c.loop-job.first c.loop-job.invariant c.in-None.ensures.steps.0 c.iter-job-items.ensures.jobs kept s)
