use Rattle.std.proofs.Common.{◌∙◌, List, ℕ, subst, sym}
use Rattle.racp_delay.specs.Alternatives.{IsFollowing}
use Rattle.racp_trees.specs.Branches.{open_node}
use Rattle.racp_trees.specs.Following.{IsNextBehind}
use Rattle.racp_trees.proofs.Branching.{branch_numbers, next_is, none_is}
use Rattle.racp_trees.proofs.branch.Branch.next_alternative.Goals as goal

pub find_behind-requires-clause-active : goal.find_behind-requires-clause-active
find_behind-requires-clause-active g c = branch_numbers c.args.net.now c.args.capacities.now c.args.self.now c.requires.branch

pub returns-then-not-branch-clause-next : goal.returns-then-not-branch-clause-next
returns-then-not-branch-clause-next g c =
    none_is c.args.net.now c.args.capacities.now c.args.self.now c.requires.branch c.subsets_go.ensures c.in_ok-find_behind.field-0 c.find_behind.new.next c.if-not-branch.true
    (subst (λ (last : List ℕ). IsFollowing c.args.net.now c.args.capacities.now c.args.self.now.active c.args.self.now.active last c.in_ok-find_behind.field-0 c.find_behind.new.next) c.deref.ensures.value c.in_ok-find_behind.ensures.found)

pub returns-clause-next : goal.returns-clause-next
returns-clause-next g c upper =
    subst (λ (gone : List ℕ). IsNextBehind c.args.net.now (open_node c.args.net.now c.args.capacities.now upper c.args.self.now) gone) (sym (c.in_ok-copied.ensures ∙ c.jobs.ensures))
    (next_is c.args.net.now c.args.capacities.now c.args.self.now c.requires.branch c.subsets_go.ensures c.in_ok-find_behind.field-0 c.find_behind.new.next c.if-not-branch.false
    (subst (λ (last : List ℕ). IsFollowing c.args.net.now c.args.capacities.now c.args.self.now.active c.args.self.now.active last c.in_ok-find_behind.field-0 c.find_behind.new.next) c.deref.ensures.value c.in_ok-find_behind.ensures.found) upper)
