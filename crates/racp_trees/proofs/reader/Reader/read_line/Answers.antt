use Rattle.std.proofs.Common.{◌↔◌, ◌∙◌, ◌<◌, ◌≤◌, refl, sym, ℕ, List, All, IsTrue, length, slice_index, subst, ap, arith}
use Rattle.std.specs.Prelude.{IfOk}
use Rattle.std.proofs.lemmas.Result.{IfOk-weaker}
use Rattle.racp_model.specs.Limits.{most_bound}
use Rattle.racp_model.specs.Project.{place, IsNumber}
use Rattle.racp_model.specs.Path.{IsEarly}
use Rattle.racp_trees.specs.Nodes.{IsCoveredHere}
use Rattle.racp_trees.specs.Readers.{IsLineAnswer}
use Rattle.racp_trees.specs.declared.step.Step.{Step}
use Rattle.racp_trees.specs.declared.step.Step.TheVariants.{C}
use Rattle.racp_trees.proofs.Starting.{early_small}
use Rattle.racp_trees.proofs.Opening.{late_is}
use Rattle.racp_trees.proofs.reader.Reader.read_line.Goals as goal

pub early-requires-clause-places : goal.early-requires-clause-places
early-requires-clause-places c = ap (λ (xs : List ℕ). length xs) c.deref.ensures.value ∙ c.requires.lower

pub early-requires-clause-small : goal.early-requires-clause-small
early-requires-clause-small c = subst (λ (xs : List ℕ). All (λ x. x ≤ most_bound) xs) (sym c.deref.ensures.value) c.requires.small

pub is_too_late-requires : goal.is_too_late-requires
is_too_late-requires c =
    omega (arith, ap (λ (xs : List ℕ). length xs) c.upper-upper.ensures.bounds, c.requires.root.upper, ap (λ (xs : List ℕ). length xs) c.as_slice.ensures, c.in_ok-early.ensures.places)

pub is_covered-requires-clause-capacities : goal.is_covered-requires-clause-capacities
is_covered-requires-clause-capacities c = c.requires.capacities

pub is_covered-requires-clause-lower : goal.is_covered-requires-clause-lower
is_covered-requires-clause-lower c = ap (λ (xs : List ℕ). length xs) c.deref-in-C.ensures.value ∙ c.requires.lower

pub is_covered-requires-clause-early : goal.is_covered-requires-clause-early
is_covered-requires-clause-early c =
    subst (λ (xs : List ℕ). IsEarly c.args.ground.now.net.now (slice_index xs) c.in_ok-early.early) (c.deref.ensures.value ∙ sym c.deref-in-C.ensures.value) c.in_ok-early.ensures

pub is_covered-requires-clause-rows : goal.is_covered-requires-clause-rows
is_covered-requires-clause-rows c = c.requires.ready.rows

pub is_covered-requires-clause-place : goal.is_covered-requires-clause-place
is_covered-requires-clause-place c = c.requires.place c.in-C.node c.in-C.is

pub open-requires-clause-capacities : goal.open-requires-clause-capacities
open-requires-clause-capacities c = c.requires.capacities

pub open-requires-clause-root : goal.open-requires-clause-root
open-requires-clause-root c = c.requires.root

pub open-requires-clause-lower : goal.open-requires-clause-lower
open-requires-clause-lower c = c.requires.lower

pub open-requires-clause-small : goal.open-requires-clause-small
open-requires-clause-small c = c.requires.small

pub open-requires-clause-early : goal.open-requires-clause-early
open-requires-clause-early c = subst (λ (xs : List ℕ). IsEarly c.args.ground.now.net.now (slice_index xs) c.in_ok-early.early) c.deref.ensures.value c.in_ok-early.ensures

pub returns-in-D-clause-line : goal.returns-in-D-clause-line
returns-in-D-clause-line c =
    subst (λ (s : Step). IfOk c.open.result (λ yes'. IsLineAnswer c.args.ground.now.net.now c.args.ground.now.capacities.now (record { lower = c.args.lower.items; upper = c.args.ground.now.root.now.upper }) c.args.self.now s yes' c.open.new.self))
    (sym c.in-D.is) c.open.ensures.line

pub is_covered-requires-clause-small : goal.is_covered-requires-clause-small
is_covered-requires-clause-small c =
    early_small c.args.ground.now.net.now c.args.lower.items c.in_ok-early.early c.job_count.ensures.sound c.requires.lower c.requires.small
    (subst (λ (xs : List ℕ). IsEarly c.args.ground.now.net.now (slice_index xs) c.in_ok-early.early) c.deref.ensures.value c.in_ok-early.ensures)

pub returns-in-L-clause-line : goal.returns-in-L-clause-line
returns-in-L-clause-line c =
    let p = c.args.ground.now.net.now in
    let a : List ℕ = c.args.ground.now.capacities.now in
    let lower : List ℕ = c.args.lower.items in
    let upper : List ℕ = c.args.ground.now.root.now.upper in
    let early : List ℕ = c.in_ok-early.early in
    let h : IsEarly p (slice_index lower) early = subst (λ (xs : List ℕ). IsEarly p (slice_index xs) early) c.deref.ensures.value c.in_ok-early.ensures in
    let answer = subst (λ (xs : List ℕ). IsTrue c.is_too_late.result ↔ (IsNumber (length early) c.in-L.job × (slice_index xs (place c.in-L.job) < slice_index early (place c.in-L.job)))) c.upper-upper.ensures.bounds
    (subst (λ (xs : List ℕ). IsTrue c.is_too_late.result ↔ (IsNumber (length xs) c.in-L.job × (slice_index c.upper-upper.result.now (place c.in-L.job) < slice_index xs (place c.in-L.job)))) c.as_slice.ensures c.is_too_late.ensures) in
    subst (λ (s : Step). IsLineAnswer p a (record { lower = lower; upper = upper }) c.args.self.now s c.is_too_late.result c.args.self.now) (sym c.in-L.is)
    (refl, refl, late_is p a lower upper early h c.in-L.job c.is_too_late.result answer)

pub returns-in-C-clause-line : goal.returns-in-C-clause-line
returns-in-C-clause-line c =
    let p = c.args.ground.now.net.now in
    let a : List ℕ = c.args.ground.now.capacities.now in
    let lower : List ℕ = c.args.lower.items in
    let upper : List ℕ = c.args.ground.now.root.now.upper in
    subst (λ (s : Step). IfOk c.is_covered.result (λ yes'. IsLineAnswer p a (record { lower = lower; upper = upper }) c.args.self.now s yes' c.args.self.now)) (sym c.in-C.is)
    (IfOk-weaker c.is_covered.result _ (λ yes'. IsLineAnswer p a (record { lower = lower; upper = upper }) c.args.self.now (C c.in-C.node) yes' c.args.self.now)
    (λ yes' is. (
      refl,
      refl,
      λ nodes are. subst (λ (xs : List ℕ). IsTrue yes' ↔ IsCoveredHere p a (record { lower = xs; upper = upper }) nodes c.in-C.node) c.deref-in-C.ensures.value (is upper nodes c.requires.root.upper are),
    )) c.is_covered.ensures)
