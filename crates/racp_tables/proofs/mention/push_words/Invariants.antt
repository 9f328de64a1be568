use Rattle.std.proofs.Common.{◌≡◌, ◌++◌, ℕ, List, Bor, drop, flat_map, map}
use Rattle.racp_tables.specs.Assigned.{mention_of, word_mentions}
use Rattle.racp_tables.proofs.mention.push_words.Given as goal

abbrev pub invariant-loop-word : goal.invariant-loop-word
invariant-loop-word l =
    map mention_of l.found.items ++ flat_map word_mentions (map (λ (word : Bor (List ℕ)). word.now) (drop l.word-index l.word-items))
    ≡ map mention_of l.initial.found.items ++ flat_map word_mentions (map (λ (word : Bor (List ℕ)). word.now) l.word-items)
