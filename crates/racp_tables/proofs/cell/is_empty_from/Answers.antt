use Rattle.std.proofs.Common.{◌≡◌, ◌∙◌, ◌<◌, sym, ap, ℕ, List, true, false, eqb, length, arith, rules}
use Rattle.csv.specs.Records.{fields_of}
use Rattle.racp_tables.proofs.Blanks.{blank_goes, text_ends}
use Rattle.racp_tables.proofs.cell.is_empty_from.Goals as goal

pub returns-then-not-is_empty : goal.returns-then-not-is_empty
returns-then-not-is_empty c =
    let within : c.loop-place.place < length (fields_of c.args.record.now) = omega (arith, c.loop-place-test.true, c.len-place-end.ensures) in
    let test : c.is_empty.result ≡ false = search rules in
    text_ends (fields_of c.args.record.now) c.args.first c.loop-place.place within c.loop-place.invariant
    (ap (λ (t : List ℕ). eqb (length t) 0) (sym c.cell_at.ensures) ∙ sym c.is_empty.ensures ∙ test)

pub loop-place-preserved : goal.loop-place-preserved
loop-place-preserved c =
    let within : c.loop-place.place < length (fields_of c.args.record.now) = omega (arith, c.loop-place-test.true, c.len-place-end.ensures) in
    let test : c.is_empty.result ≡ true = search rules in
    blank_goes (fields_of c.args.record.now) c.args.first c.loop-place.place within c.loop-place.invariant
    (ap (λ (t : List ℕ). eqb (length t) 0) (sym c.cell_at.ensures) ∙ sym c.is_empty.ensures ∙ test)
