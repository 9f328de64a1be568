use Rattle.std.proofs.Common.{◌∙◌, ap}
use Rattle.racp_model.specs.Window.{Bounds}
use Rattle.racp_search.proofs.Entering.{none_yet, started}
use Rattle.racp_search.proofs.Popping.{stays}
use Rattle.racp_search.proofs.Ending.{halt_of, finished, finished_quiet}
use Rattle.racp_search.proofs.depth_first.search.Goals as goal

pub go_on-halt-requires-clause-state : goal.go_on-halt-requires-clause-state
go_on-halt-requires-clause-state g c =
    let same = c.in_ok-window.ensures ∙ c.whole.ensures.window in
    started g.N.OfNetwork.network c.args.subject.now.capacities c.args.subject.now.window c.in_ok-window.window c.new-stack.result.frames.items c.whole.ensures.bounds (ap (λ (w : Bounds). w.lower) same) (ap (λ (w : Bounds). w.upper) same) c.new-stack.ensures

pub finish-ended-requires : goal.finish-ended-requires
finish-ended-requires g c = halt_of g.N.OfNetwork.network c.args.subject.now.capacities c.args.subject.now.window c.args.quantum c.go_on-halt.new.nodes (g.S.Stop.is_quiet c.args.stop.now) c.go_on-halt.new.self.frames.items c.go_on-halt.result c.go_on-halt.ensures.halt

pub returns-clause-end : goal.returns-clause-end
returns-clause-end g c = finished g.N.OfNetwork.network c.args.subject.now.capacities c.args.subject.now.window c.args.quantum c.go_on-halt.new.nodes (g.S.Stop.is_quiet c.args.stop.now) c.go_on-halt.new.self.frames.items c.go_on-halt.result c.finish-ended.result c.go_on-halt.ensures.halt c.finish-ended.ensures

pub returns-clause-quiet : goal.returns-clause-quiet
returns-clause-quiet g c = finished_quiet g.N.OfNetwork.network c.args.subject.now.capacities c.args.subject.now.window c.args.quantum c.go_on-halt.new.nodes (g.S.Stop.is_quiet c.args.stop.now) c.go_on-halt.new.self.frames.items c.go_on-halt.result c.finish-ended.result c.go_on-halt.ensures.halt c.finish-ended.ensures

pub go_on-halt-requires-clause-nodes : goal.go_on-halt-requires-clause-nodes
go_on-halt-requires-clause-nodes g c = c.requires.nodes

pub go_on-halt-requires-clause-quantum : goal.go_on-halt-requires-clause-quantum
go_on-halt-requires-clause-quantum g c = c.requires.quantum

pub returns-clause-nodes : goal.returns-clause-nodes
returns-clause-nodes g c = c.go_on-halt.ensures.nodes

pub returns-clause-kept : goal.returns-clause-kept
returns-clause-kept g c = c.go_on-halt.ensures.kept

pub returns-in_err-window-clause-kept : goal.returns-in_err-window-clause-kept
returns-in_err-window-clause-kept g c = stays c.args.local.now

pub returns-in_err-window-clause-nodes : goal.returns-in_err-window-clause-nodes
returns-in_err-window-clause-nodes g c = none_yet c.args.quantum c.args.nodes.now c.requires.nodes
