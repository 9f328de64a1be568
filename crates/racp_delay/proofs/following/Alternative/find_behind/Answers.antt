use Rattle.std.proofs.Common.{◌≡◌, ◌∙◌, ap, sym, subst, List, ℕ, length, slice_index}
use Rattle.std.proofs.lemmas.Result.{IfOk-weaker}
use Rattle.racp_model.specs.Terms.{IsLexBefore}
use Rattle.racp_delay.specs.Alternatives.{IsFollowing}
use Rattle.racp_delay.specs.Found.{IsExtended, IsSplitByFree}
use Rattle.racp_delay.proofs.Freed.{freed-left, freed-numbers, freed-rises, followed}
use Rattle.racp_delay.proofs.following.Alternative.find_behind.Goals as goal

pub look_behind-requires-clause-choice : goal.look_behind-requires-clause-choice
look_behind-requires-clause-choice g c =
    let s : IsSplitByFree c.args.net.now c.args.active.now.all.now c.args.active.now.free.now c.deref.result.now c.in_ok-kept.kept c.in_ok-kept.left = subst (λ (xs : List ℕ). IsSplitByFree c.args.net.now c.args.active.now.all.now c.args.active.now.free.now xs c.in_ok-kept.kept c.in_ok-kept.left) (sym c.deref.ensures.value) c.in_ok-kept.ensures.free in
    record {
      units = ap length c.as_slice.ensures ∙ c.requires.capacities;
      jobs = freed-numbers c.args.net.now c.args.capacities.now c.args.active.now.all.now c.args.active.now.free.now c.deref.result.now c.in_ok-kept.kept c.in_ok-kept.left s _ c.requires.active;
      rises = freed-rises c.args.net.now c.args.capacities.now c.args.active.now.all.now c.args.active.now.free.now c.deref.result.now c.in_ok-kept.kept c.in_ok-kept.left s c.in_ok-kept.ensures.jobs.rises;
      sums = freed-left c.args.net.now c.args.capacities.now c.args.active.now.all.now c.args.active.now.free.now c.deref.result.now c.in_ok-kept.kept c.in_ok-kept.left s;
      small = s.left_sums.small;
    }

pub returns-clause-found : goal.returns-clause-found
returns-clause-found g c =
    let p = c.args.net.now in
    let last = c.args.last.now in
    let new = c.look_behind.new.gone.items in
    let s : IsSplitByFree p c.args.active.now.all.now c.args.active.now.free.now c.deref.result.now c.in_ok-kept.kept c.in_ok-kept.left = subst (λ (xs : List ℕ). IsSplitByFree c.args.net.now c.args.active.now.all.now c.args.active.now.free.now xs c.in_ok-kept.kept c.in_ok-kept.left) (sym c.deref.ensures.value) c.in_ok-kept.ensures.free in
    let capacities : c.as_slice.result.now ≡ c.args.capacities.now = c.as_slice.ensures in
    IfOk-weaker c.look_behind.result
    (λ found. IsExtended p c.as_slice.result.now (slice_index c.in_ok-kept.kept) c.clear.new.self.items c.deref.result.now (IsLexBefore last) found new)
    (λ found. IsFollowing p c.args.capacities.now c.args.active.now.all.now c.args.active.now.free.now last found new)
    (λ found h.
    subst (λ (xs : List ℕ). IsFollowing p xs c.args.active.now.all.now c.args.active.now.free.now last found new) capacities
    (followed p c.as_slice.result.now c.args.active.now.all.now c.args.active.now.free.now c.deref.result.now c.in_ok-kept.kept c.in_ok-kept.left s c.in_ok-kept.ensures.jobs.rises last c.clear.new.self.items new found c.clear.ensures.items h))
    c.look_behind.ensures.found

pub look_behind-requires-clause-gone : goal.look_behind-requires-clause-gone
look_behind-requires-clause-gone g c = c.clear.ensures.items
