use Rattle.std.proofs.Common.{◌≡◌, flat_map, map}
use Rattle.racp_json.specs.Lines.{number_of, word_of}
use Rattle.racp_json.proofs.line.line_of.Given as goal

abbrev pub invariant-loop-word : goal.invariant-loop-word
invariant-loop-word l =
    (map (λ word. word.now) l.words.items ≡ flat_map word_of (map (λ word. word.now) l.yielded)) ×
    (l.numbers.items ≡ flat_map number_of (map (λ word. word.now) l.yielded))
