use Rattle.std.proofs.Common.{◌≡◌, ◌<◌, ◌≤◌, [], ◌∷◌, ◌++◌, codes, length, get_or, arith, rules}
use Rattle.std.specs.Fmt.{decimal}
use Rattle.std.proofs.lemmas.List.{get_or_default}
use Rattle.racp_trees.proofs.Writing.{numbers_on, vector_written}
use Rattle.racp_trees.proofs.writer.push_vector.Goals as goal

pub loop-place-preserved : goal.loop-place-preserved
loop-place-preserved c =
    let place = c.loop-place.place in
    let numbers = c.args.vector.now in
    let within : place < length numbers = search rules in
    let grown : c.push_number.new.text.items ≡ c.loop-place.text.items ++ (codes " " ++ decimal (get_or numbers place 0)) = search rules in
    numbers_on numbers _ _ _ place within c.loop-place.invariant grown

pub returns-clause-small : goal.returns-clause-small
returns-clause-small c = λ k d l. omega (arith, c.type_inv.vector k, get_or_default c.args.vector.now k d 0 l)

pub returns-clause-line : goal.returns-clause-line
returns-clause-line c =
    let past : length c.args.vector.now ≤ c.loop-place.place = omega (arith, c.loop-place-test.false) in
    let ended : c.push.new.self.items ≡ c.loop-place.text.items ++ 10 ∷ [] = search rules in
    rw ended (vector_written c.args.vector.now c.args.text.now.items c.loop-place.text.items c.loop-place.place past c.loop-place.invariant)
