use Rattle.std.proofs.Common.{◌≡◌, ◌∙◌, ◌++◌, ◌∷◌, [], List, ap, refl, sym, arith}
use Rattle.racp_show.specs.declared.usage.Step.{Step}
use Rattle.racp_show.proofs.Adding.{first_step, same_steps, more_steps, all_steps}
use Rattle.racp_show.proofs.usage.usage_steps.Goals as goal

pub loop-time-init : goal.loop-time-init
loop-time-init c =
    let step : Step = record { from = 0; units = c.used_at-units.result } in
    let is : c.push.new.self.items ≡ [] ++ step ∷ [] = c.in_ok-push.ensures.items ∙ ap (λ (xs : List Step). xs ++ step ∷ []) c.new-steps.ensures.items in
    record {
      steps = first_step c.args.net.now c.args.starts.now c.args.k c.push.new.self.items step is refl c.used_at-units.ensures;
      units = c.used_at-units.ensures;
    }

pub loop-time-preserved-then-now-units : goal.loop-time-preserved-then-now-units
loop-time-preserved-then-now-units c =
    let step : Step = record { from = c.next_change-time.result; units = c.used_at-now.result } in
    record {
      steps = more_steps c.args.net.now c.args.starts.now c.args.k c.loop-time.time c.next_change-time.result c.loop-time.steps.items c.push-then-now-units.new.self.items step c.next_change-time.ensures.change c.loop-time.invariant.steps
          c.in_ok-push-2.ensures.items refl c.used_at-now.ensures;
      units = c.used_at-now.ensures;
    }

pub loop-time-preserved : goal.loop-time-preserved
loop-time-preserved c =
    let units = sym c.if-now-units.false ∙ c.used_at-now.ensures in
    record {
      steps = same_steps c.args.net.now c.args.starts.now c.args.k c.loop-time.time c.next_change-time.result c.loop-time.steps.items c.next_change-time.ensures.change c.loop-time.invariant.steps (sym units ∙ c.loop-time.invariant.units);
      units = units;
    }

pub returns : goal.returns
returns c = all_steps c.args.net.now c.args.starts.now c.args.k c.args.deadline c.loop-time.time c.loop-time.steps.items c.requires.ends (omega arith) c.loop-time.invariant.steps
