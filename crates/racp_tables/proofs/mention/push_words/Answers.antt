use Rattle.std.proofs.Common.{◌≡◌, ◌∙◌, ◌++◌, sym, ap, ℕ, List, [], Bor, drop, flat_map, map, arith}
use Rattle.std.proofs.lemmas.List.{append-nil, drop_all}
use Rattle.racp_tables.specs.Assigned.{mention_of, word_mentions}
use Rattle.racp_tables.proofs.mention.push_words.Goals as goal

abbrev now : Bor (List ℕ) → List ℕ
now part = part.now

pub returns : goal.returns
returns c =
    let items : List (Bor (List ℕ)) = c.deref-word-items.result.now in
    let none : drop c.loop-word.word-index items ≡ [] = drop_all c.loop-word.word-index items (omega (arith, c.loop-word-test.false)) in
    let whole = rw none at c.loop-word.invariant in
    let words : map now items ≡ _ = ap (λ (parts : List (Bor (List ℕ))). map now parts) c.deref-word-items.ensures.value ∙ c.in_ok-words.ensures in
    sym (append-nil (map mention_of c.loop-word.found.items)) ∙ whole
    ∙ ap (λ (parts : List (List ℕ)). map mention_of c.args.found.now.items ++ flat_map word_mentions parts) words
