use Rattle.std.proofs.Common.{◌≡◌, ◌∙◌, ℕ, List, ◌∷◌, ap, refl, rules, subst, sym, Ok, Err}
use Rattle.std.specs.Prelude.{Result}
use Rattle.racp_model.specs.Steps.{◌>>=◌}
use Rattle.racp_text.specs.Reading.{with_rest}
use Rattle.racp_sm.specs.Faults.{SmFault}
use Rattle.racp_sm.specs.Lines.{Word}
use Rattle.racp_sm.specs.Parts.{next_number}
use Rattle.racp_sm.specs.Steps.{Takes}
use Rattle.racp_sm.proofs.stream.Stream.next_number.Goals as goal
use Rattle.racp_sm.proofs.stream.Stream.next_number.Goals.{in-Some, in-None}

-- a number and the words after it
read_on : (read : Result ℕ SmFault) (rest : List Word) → with_rest (λ x. x) read rest ≡ (read >>= λ number. Ok (number, rest))
read_on (Ok number) rest = refl
read_on (Err fault) rest = refl

pub returns : goal.returns
returns c = record {
  number = elim c.match-next_word.branch [
    | in-Some w ↦
        let rest : List Word = c.next_word.new.self.words in
        let taken : c.args.self.now.words ≡ w.in-Some.word ∷ rest = subst (λ word. Takes c.args.self.now.words word rest) w.in-Some.is c.next_word.ensures.words in
        ap (λ read. with_rest (λ (x : ℕ). x) read rest) w.result-is
        ∙ (read_on w.number_within.result rest ∙ (ap (λ read. read >>= λ number. Ok (number, rest)) w.number_within.ensures.number ∙ ap (next_number c.args.self.now.title c.args.kind c.args.low c.args.high) (sym taken)))
    | in-None w ↦ search rules
  ];
  same = c.next_word.ensures.same;
}
