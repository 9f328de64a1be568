use Rattle.std.proofs.Common.{◌≡◌, ◌∙◌, ap, sym, refl, length, arith, ◌++◌, ◌∷◌, []}
use Rattle.racp_model.specs.Window.{Bounds}
use Rattle.racp_core.proofs.OutAndBack.{cut, last_of}
use Rattle.racp_core.proofs.row.Row.take.Goals as goal

pub returns-clause-ok : goal.returns-clause-ok
returns-clause-ok g c =
    let n : c.len.result ≡ length c.self.inside.ready.items = omega (arith, c.self.inside.ready.ok.0) in
    let last : c.index.result.now ≡ c.take_last-window.result =
    c.index.ensures ∙ last_of c.self.inside.ready.items c.take_last-window.new.self.items c.take_last-window.result c.index.result.now c.len.result c.take_last-window.ensures.items n in
    let copied : c.in_ok-copy.copy ≡ c.take_last-window.result = c.in_ok-copy.ensures ∙ last in
    let out : c.push_reserved.new.self.items ≡ c.self.inside.out.items ++ record { number = c.args.number; seat = c.args.seat; window = c.take_last-window.result } ∷ [] = cc (c.push_reserved.ensures.items, c.in_ok-reserve.ensures.items) in
    rw (← c.self.view_is) (cut c.args.number c.args.seat c.args.index (record { question = c.self.inside.question; ready = c.self.inside.ready.items; out = c.self.inside.out.items })
    (record { question = c.self.inside.question; ready = c.take_last-window.new.self.items; out = c.push_reserved.new.self.items }) c.new.result (record { capacities = c.in_ok-capacities.capacities; window = c.in_ok-copy.copy }) c.new.ensures c.in_ok-capacities.ensures refl (c.take_last-window.ensures.items ∙ ap (λ (w : Bounds). c.take_last-window.new.self.items ++ w ∷ []) (sym copied)) (out ∙ ap (λ (w : Bounds). c.self.inside.out.items ++ record { number = c.args.number; seat = c.args.seat; window = w } ∷ []) (sym copied)))
