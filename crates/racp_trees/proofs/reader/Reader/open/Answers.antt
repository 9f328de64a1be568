use Rattle.std.proofs.Common.{◌∙◌, refl, ℕ, List, length, ap, subst}
use Rattle.std.specs.Prelude.{None, Some}
use Rattle.racp_trees.specs.Nodes.{IsDivisionAnswer}
use Rattle.racp_trees.proofs.Opening.{not_divided, divided_by}
use Rattle.racp_trees.proofs.reader.Reader.open.Goals as goal

pub active_at-requires-clause-capacities : goal.active_at-requires-clause-capacities
active_at-requires-clause-capacities c = c.requires.capacities

pub active_at-requires-clause-early : goal.active_at-requires-clause-early
active_at-requires-clause-early c = c.requires.early.places

pub active_at-requires-clause-upper : goal.active_at-requires-clause-upper
active_at-requires-clause-upper c = ap (λ (xs : List ℕ). length xs) c.upper-upper.ensures.bounds ∙ c.requires.root.upper

pub returns-in_default-clause-line : goal.returns-in_default-clause-line
returns-in_default-clause-line c =
    not_divided c.args.ground.now.net.now c.args.ground.now.capacities.now c.args.lower.items c.args.ground.now.root.now.upper c.args.early.now c.requires.early c.args.time
    (subst (λ (xs : List ℕ). IsDivisionAnswer c.args.ground.now.net.now c.args.ground.now.capacities.now xs c.args.early.now c.args.time None) c.upper-upper.ensures.bounds c.in_default.ensures)

pub returns-clause-line : goal.returns-clause-line
returns-clause-line c =
    divided_by c.args.ground.now.net.now c.args.ground.now.capacities.now c.args.lower.items c.args.ground.now.root.now.upper c.args.early.now c.requires.early c.args.time c.in-Some.active _ c.args.self.now _ c.job_count.ensures.sound
    (subst (λ (xs : List ℕ). IsDivisionAnswer c.args.ground.now.net.now c.args.ground.now.capacities.now xs c.args.early.now c.args.time (Some c.in-Some.active)) c.upper-upper.ensures.bounds c.in-Some.ensures)
    c.requires.lower c.requires.small c.requires.root.upper c.upper-upper.ensures.small c.in_ok-lower.ensures refl refl refl c.new-last.ensures.items c.in_ok-push.ensures.items refl
