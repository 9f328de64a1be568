use Rattle.std.proofs.Common.{◌≡◌, ◌++◌, ℕ, List, Bor, drop, flat_map, map}
use Rattle.racp_tables.specs.Assigned.{mention_of, mentions_in}
use Rattle.racp_tables.proofs.mention.mentions_of.Given as goal

abbrev pub invariant-loop-part : goal.invariant-loop-part
invariant-loop-part l =
    map mention_of l.found.items ++ flat_map mentions_in (map (λ (part : Bor (List ℕ)). part.now) (drop l.part-index l.part-items))
    ≡ flat_map mentions_in (map (λ (part : Bor (List ℕ)). part.now) l.part-items)
