use Rattle.std.proofs.Common.{◌≡◌, ℕ, List, drop, map, string_bytes}
use Rattle.std.specs.Prelude.{fold}
use Rattle.racp_tables.specs.Assigned.{mention_of}
use Rattle.racp_tables.specs.Rosters.{with_name}
use Rattle.racp_tables.proofs.roster.add_names.Given as goal

abbrev pub invariant-loop-mention : goal.invariant-loop-mention
invariant-loop-mention l =
    fold with_name (map string_bytes l.roster.items) (map (λ (mention : List ℕ × List ℕ). mention.0) (map mention_of (drop l.mention-index l.found)))
    ≡ fold with_name (map string_bytes l.initial.roster.items) (map (λ (mention : List ℕ × List ℕ). mention.0) (map mention_of l.found))
