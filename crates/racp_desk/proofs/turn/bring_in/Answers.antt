use Rattle.std.proofs.Common.{◌∙◌, ◌<◌, ℕ, ap, subst, sym}
use Rattle.racp_search.specs.Truth.{SearchPiece, SearchFinding}
use Rattle.racp_desk.specs.Desk.{IsIn}
use Rattle.racp_desk.proofs.turn.bring_in.Goals as goal

pub hand-requires-clause-parts : goal.hand-requires-clause-parts
hand-requires-clause-parts g c = c.requires.parts

pub hand-requires-clause-nodes : goal.hand-requires-clause-nodes
hand-requires-clause-nodes g c = c.requires.nodes

pub give_back-requires : goal.give_back-requires
give_back-requires g c = subst (λ (n : ℕ). 0 < n) (sym c.hand.ensures.parts) c.requires.parts

pub returns-in-Ok-Taken-clause-came_in : goal.returns-in-Ok-Taken-clause-came_in
returns-in-Ok-Taken-clause-came_in g c = c.in-Ok-Taken.ensures.came_in

pub returns-in-Ok-Taken-clause-parts : goal.returns-in-Ok-Taken-clause-parts
returns-in-Ok-Taken-clause-parts g c = c.hand.ensures.parts

pub returns-in-Ok-Stale-clause-came_in : goal.returns-in-Ok-Stale-clause-came_in
returns-in-Ok-Stale-clause-came_in g c = c.in-Ok-Stale.ensures.came_in

pub returns-in-Ok-Stale-clause-parts : goal.returns-in-Ok-Stale-clause-parts
returns-in-Ok-Stale-clause-parts g c = c.hand.ensures.parts

pub returns-in-Err-clause-came_in : goal.returns-in-Err-clause-came_in
returns-in-Err-clause-came_in g c =
    let same = ap (λ (f : SearchFinding). f.piece) c.in-Err.ensures.err.1 in
    subst (λ (p : SearchPiece). IsIn c.give_back.new.self.core p) (c.into_piece.ensures ∙ same) c.give_back.ensures.came_in

pub returns-in-Err-clause-parts : goal.returns-in-Err-clause-parts
returns-in-Err-clause-parts g c = c.give_back.ensures.parts ∙ c.hand.ensures.parts
