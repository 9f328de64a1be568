use Rattle.std.proofs.Common.{subst, arith, false, refl}
use Rattle.racp_search.specs.Ends.{IsSpent}
use Rattle.racp_search.specs.Steps.{IsFurther, IsStep}
use Rattle.racp_search.proofs.Entering.{within_none, within_still, spent_some, spent_exactly}
use Rattle.racp_search.proofs.Popping.{first_stay, stay_on, all_stay}
use Rattle.racp_search.proofs.depth_first.Stack.go_on.Goals as goal

pub next-init : goal.next-init
next-init g c = record {
  state = c.requires.state;
  higher = λ some. absurd (omega (arith, c.requires.nodes, some));
  bounded = within_none c.args.limit.now.quantum c.args.nodes.now c.requires.nodes;
  kept = first_stay c.kept_count-first.result c.args.local.now;
}

pub next-preserved : goal.next-preserved
next-preserved g c =
    let is : IsFurther g.N.OfNetwork.network c.args.subject.now.capacities c.args.subject.now.window c.next.self.frames.items c.next.next.window c.step.new.self.frames.items c.in-Further.next =
    subst (IsStep g.N.OfNetwork.network c.args.subject.now.capacities c.args.subject.now.window c.next.self.frames.items c.next.next.window c.step.new.self.frames.items) c.in-Further.is c.in_ok-next.ensures.step in
    let unspent : IsSpent c.args.limit.now.quantum c.next.nodes false = subst (IsSpent c.args.limit.now.quantum c.next.nodes) c.if-is_spent.false c.is_spent.ensures in
    record {
      state = is.state;
      higher = λ a. is.higher;
      bounded = within_still c.args.limit.now.quantum c.next.nodes c.saturating_add.result unspent (omega (arith, c.saturating_add.ensures));
      kept = stay_on c.kept_count-first.result c.args.local.now c.next.local c.step.new.local c.next.invariant.kept c.step.ensures.kept;
    }

pub returns-in_err-next-clause-kept : goal.returns-in_err-next-clause-kept
returns-in_err-next-clause-kept g c =
    all_stay c.kept_count-first.result c.args.local.now c.step.new.local c.kept_count-first.ensures.count
    (stay_on c.kept_count-first.result c.args.local.now c.next.local c.step.new.local c.next.invariant.kept c.step.ensures.kept)

pub returns-in-Found-clause-kept : goal.returns-in-Found-clause-kept
returns-in-Found-clause-kept g c =
    all_stay c.kept_count-first.result c.args.local.now c.step.new.local c.kept_count-first.ensures.count
    (stay_on c.kept_count-first.result c.args.local.now c.next.local c.step.new.local c.next.invariant.kept c.step.ensures.kept)

pub returns-in-Nothing-clause-kept : goal.returns-in-Nothing-clause-kept
returns-in-Nothing-clause-kept g c =
    all_stay c.kept_count-first.result c.args.local.now c.step.new.local c.kept_count-first.ensures.count
    (stay_on c.kept_count-first.result c.args.local.now c.next.local c.step.new.local c.next.invariant.kept c.step.ensures.kept)

pub step-requires : goal.step-requires
step-requires g c = c.next.invariant.state

pub next-smaller : goal.next-smaller
next-smaller g c =
    let is : IsFurther g.N.OfNetwork.network c.args.subject.now.capacities c.args.subject.now.window c.next.self.frames.items c.next.next.window c.step.new.self.frames.items c.in-Further.next = subst (IsStep g.N.OfNetwork.network c.args.subject.now.capacities c.args.subject.now.window c.next.self.frames.items c.next.next.window c.step.new.self.frames.items) c.in-Further.is c.in_ok-next.ensures.step in
    is.lighter

pub returns-in-Found-clause-halt : goal.returns-in-Found-clause-halt
returns-in-Found-clause-halt g c = record {
  place = subst (IsStep g.N.OfNetwork.network c.args.subject.now.capacities c.args.subject.now.window c.next.self.frames.items c.next.next.window c.step.new.self.frames.items) c.in-Found.is c.in_ok-next.ensures.step;
  after = omega (arith, c.saturating_add.ensures);
}

pub returns-in-Nothing-clause-halt : goal.returns-in-Nothing-clause-halt
returns-in-Nothing-clause-halt g c = record {
  place = subst (IsStep g.N.OfNetwork.network c.args.subject.now.capacities c.args.subject.now.window c.next.self.frames.items c.next.next.window c.step.new.self.frames.items) c.in-Nothing.is c.in_ok-next.ensures.step;
  after = omega (arith, c.saturating_add.ensures);
}

pub returns-in-Found-clause-nodes : goal.returns-in-Found-clause-nodes
returns-in-Found-clause-nodes g c = within_still c.args.limit.now.quantum c.next.nodes c.saturating_add.result (subst (IsSpent c.args.limit.now.quantum c.next.nodes) c.if-is_spent.false c.is_spent.ensures) (omega (arith, c.saturating_add.ensures))

pub returns-in-Nothing-clause-nodes : goal.returns-in-Nothing-clause-nodes
returns-in-Nothing-clause-nodes g c = within_still c.args.limit.now.quantum c.next.nodes c.saturating_add.result (subst (IsSpent c.args.limit.now.quantum c.next.nodes) c.if-is_spent.false c.is_spent.ensures) (omega (arith, c.saturating_add.ensures))

pub returns-in_err-next-clause-nodes : goal.returns-in_err-next-clause-nodes
returns-in_err-next-clause-nodes g c = within_still c.args.limit.now.quantum c.next.nodes c.saturating_add.result (subst (IsSpent c.args.limit.now.quantum c.next.nodes) c.if-is_spent.false c.is_spent.ensures) (omega (arith, c.saturating_add.ensures))

pub returns-then-asked-clause-halt : goal.returns-then-asked-clause-halt
returns-then-asked-clause-halt g c = record {
  place = c.next.invariant.state;
  after = record {
    searched = λ a. absurd (cc a);
    spent = λ a. absurd (cc a);
    higher = c.next.invariant.higher;
    told = c.if-asked.ensures;
  };
}

pub returns-then-asked-clause-nodes : goal.returns-then-asked-clause-nodes
returns-then-asked-clause-nodes g c = c.next.invariant.bounded

pub returns-then-asked-clause-kept : goal.returns-then-asked-clause-kept
returns-then-asked-clause-kept g c = all_stay c.kept_count-first.result c.args.local.now c.next.local c.kept_count-first.ensures.count c.next.invariant.kept

pub returns-then-is_spent-clause-halt : goal.returns-then-is_spent-clause-halt
returns-then-is_spent-clause-halt g c = record {
  place = c.next.invariant.state;
  after = record {
    searched = λ a. spent_some c.args.limit.now.quantum c.next.nodes c.if-is_spent.ensures c.requires.quantum;
    spent = λ a. spent_exactly c.args.limit.now.quantum c.next.nodes c.if-is_spent.ensures c.next.invariant.bounded;
    higher = c.next.invariant.higher;
    told = λ a. refl;
  };
}

pub returns-then-is_spent-clause-nodes : goal.returns-then-is_spent-clause-nodes
returns-then-is_spent-clause-nodes g c = c.next.invariant.bounded

pub returns-then-is_spent-clause-kept : goal.returns-then-is_spent-clause-kept
returns-then-is_spent-clause-kept g c = all_stay c.kept_count-first.result c.args.local.now c.next.local c.kept_count-first.ensures.count c.next.invariant.kept
