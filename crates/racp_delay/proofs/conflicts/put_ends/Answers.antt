use Rattle.std.proofs.Common.{◌≡◌, ℕ, List, subst, arith, rules}
use Rattle.std.specs.List.Sorted.{IsPermutation}
use Rattle.std.proofs.lemmas.List.Sorted.{IsNonDecreasingBy-from_sort_by_key}
use Rattle.racp_delay.specs.Sweeps.{events_of}
use Rattle.racp_delay.proofs.Events.{events-written, ends_of}
use Rattle.racp_delay.proofs.conflicts.put_ends.Goals as goal

pub returns : goal.returns
returns c =
    let filled : c.loop-i.events ≡ events_of c.args.net.now (ends_of c.args.net.now c.args.starts.now) =
    events-written c.args.net.now (ends_of c.args.net.now c.args.starts.now) c.loop-i.i c.loop-i.events (omega arith) (omega arith) c.loop-i.invariant in
    record {
      same = subst (λ (xs : List (ℕ × ℕ)). IsPermutation xs c.sort_unstable_by_key.new.self) filled c.sort_unstable_by_key.ensures.permutation;
      rises = λ a b l w. IsNonDecreasingBy-from_sort_by_key (λ (event : ℕ × ℕ). event.0) _ c.sort_unstable_by_key.ensures.sorted (λ x r q k. search rules) a b (0, 0) l w;
    }
