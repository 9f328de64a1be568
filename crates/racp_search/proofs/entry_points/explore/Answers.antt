use Rattle.std.proofs.Common.{◌∙◌, ap, refl, subst, sym, IfOk}
use Rattle.racp_model.specs.Formed.{HasBounds, IsFormed}
use Rattle.racp_model.specs.Project.{Project}
use Rattle.racp_model.specs.declared.question.Question.{Question}
use Rattle.racp_search.specs.Truth.{SearchFinding, IsExplored}
use Rattle.racp_search.specs.Ends.{IsEnd}
use Rattle.racp_search.proofs.Popping.{stays}
use Rattle.racp_search.proofs.Exploring.{one_allowed, explored_none, true_end, explored, explored_quiet}
use Rattle.racp_search.proofs.entry_points.explore.Goals as goal

pub whole-requires : goal.whole-requires
whole-requires g c = subst (λ (p : Project). HasBounds p c.args.piece.question.window) c.requires.named c.requires.formed.bounds

pub after-requires-clause-bounds : goal.after-requires-clause-bounds
after-requires-clause-bounds g c = subst (λ (p : Project). HasBounds p c.args.piece.question.window) c.requires.named c.requires.formed.bounds

pub after-requires-clause-is_true : goal.after-requires-clause-is_true
after-requires-clause-is_true g c = true_end g.N.OfNetwork.network c.args.piece.question.capacities c.args.piece.question.window c.args.quantum c.search-end.new.nodes c.search-end.result (subst (λ (q : Question). IfOk c.search-end.result (IsEnd g.N.OfNetwork.network q.capacities q.window c.args.quantum c.search-end.new.nodes)) (c.new-subject.ensures ∙ c.question.ensures) c.search-end.ensures.end)

pub new-subject-requires-clause-named : goal.new-subject-requires-clause-named
new-subject-requires-clause-named g c = c.requires.named

pub new-subject-requires-clause-formed : goal.new-subject-requires-clause-formed
new-subject-requires-clause-formed g c = subst (λ (q : Question). IsFormed g.N.OfNetwork.network q) (sym c.question.ensures) (subst (λ (p : Project). IsFormed p c.args.piece.question) c.requires.named c.requires.formed)

pub search-end-requires-clause-nodes : goal.search-end-requires-clause-nodes
search-end-requires-clause-nodes g c = refl

pub search-end-requires-clause-quantum : goal.search-end-requires-clause-quantum
search-end-requires-clause-quantum g c = one_allowed c.args.quantum c.if-allows_none.ensures

pub returns-then-allows_none-clause-explored : goal.returns-then-allows_none-clause-explored
returns-then-allows_none-clause-explored g c = subst (IsExplored g.N.OfNetwork.network c.args.piece c.args.quantum) (sym c.whole.ensures) (explored_none g.N.OfNetwork.network c.args.piece c.args.quantum c.if-allows_none.ensures)

pub returns-then-allows_none-clause-quiet : goal.returns-then-allows_none-clause-quiet
returns-then-allows_none-clause-quiet g c = λ a. ap (λ (f : SearchFinding). f.stopped) c.whole.ensures

pub returns-then-allows_none-clause-kept : goal.returns-then-allows_none-clause-kept
returns-then-allows_none-clause-kept g c = stays c.args.local.now

pub returns-clause-explored : goal.returns-clause-explored
returns-clause-explored g c = explored g.N.OfNetwork.network c.args.piece c.args.quantum c.search-end.new.nodes c.search-end.ensures.nodes c.search-end.result c.after.result c.if-allows_none.ensures (subst (λ (q : Question). IfOk c.search-end.result (IsEnd g.N.OfNetwork.network q.capacities q.window c.args.quantum c.search-end.new.nodes)) (c.new-subject.ensures ∙ c.question.ensures) c.search-end.ensures.end) c.after.ensures.ok c.after.ensures.err

pub returns-clause-quiet : goal.returns-clause-quiet
returns-clause-quiet g c = explored_quiet c.args.piece c.search-end.new.nodes (g.S.Stop.is_quiet c.args.stop.now) c.search-end.result c.after.result c.search-end.ensures.quiet c.after.ensures.ok c.after.ensures.err

pub returns-clause-kept : goal.returns-clause-kept
returns-clause-kept g c = c.search-end.ensures.kept
