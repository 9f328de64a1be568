use Rattle.std.proofs.Common.{ℕ, List, length, sym, subst}
use Rattle.racp_model.specs.Project.{AreNumbers}
use Rattle.racp_model.specs.Window.{Bounds}
use Rattle.racp_candidates.specs.Box.{AreBoxQuestions}
use Rattle.racp_candidates.specs.Vectors.{AreVectorsInOrder, HavePlaces, box_questions}
use Rattle.racp_candidates.proofs.Boxes.{are_box_questions, order_places}
use Rattle.racp_candidates.proofs.vectors.Vectors.new.Goals as goal

pub invariant_of-result : goal.invariant_of-result
invariant_of-result c =
    let vectors = c.in_ok-frontier.frontier in
    let h : AreVectorsInOrder c.args.order.now c.args.floors c.args.roofs vectors = subst (λ (floors : List ℕ). AreVectorsInOrder c.args.order.now floors c.args.roofs vectors) c.as_slice.ensures c.in_ok-frontier.ensures in
    let P : List ℕ → Type 0 = λ floors. AreNumbers (length floors) c.args.pairs.items × HavePlaces floors vectors in
    subst P (sym c.into_vec.ensures) (c.requires.pairs, order_places c.args.floors c.args.pairs.items c.args.order.now c.args.roofs vectors h)

pub returns : goal.returns
returns c =
    let vectors = c.in_ok-frontier.frontier in
    let h : AreVectorsInOrder c.args.order.now c.args.floors c.args.roofs vectors = subst (λ (floors : List ℕ). AreVectorsInOrder c.args.order.now floors c.args.roofs vectors) c.as_slice.ensures c.in_ok-frontier.ensures in
    let whole : AreBoxQuestions c.args.order.now c.args.floors c.args.roofs c.args.pairs.items c.args.root.now (box_questions c.args.floors c.args.pairs.items c.args.root.now vectors) =
    are_box_questions c.args.floors c.args.pairs.items c.args.order.now c.args.roofs c.args.root.now vectors c.requires.pairs h in
    let P : List ℕ → Type 0 = λ floors. AreBoxQuestions c.args.order.now c.args.floors c.args.roofs c.args.pairs.items c.args.root.now (box_questions floors c.args.pairs.items c.args.root.now vectors) in
    let Q : Bounds → Type 0 = λ window. AreBoxQuestions c.args.order.now c.args.floors c.args.roofs c.args.pairs.items c.args.root.now (box_questions c.into_vec.result.items c.args.pairs.items window vectors) in
    subst Q (sym c.in_ok-window.ensures) (subst P (sym c.into_vec.ensures) whole)
