use Rattle.std.proofs.Common.{◌≡◌, ◌++◌, ◌∷◌, [], arith}
use Rattle.racp_desk.specs.declared.log.Entry.TheVariants.{Halted}
use Rattle.racp_desk.proofs.Desks.{longer, desk_halted}
use Rattle.racp_desk.proofs.state.State.halt.Goals as goal

pub invariant_of-self : goal.invariant_of-self
invariant_of-self g c =
    let i = c.self.inside in
    let next = c.note_halted.new.self.entries in
    let is : next ≡ i.book.entries ++ Halted c.args.cause ∷ [] = c.note_halted.ensures in (
      let long = longer i.book.entries next (Halted c.args.cause) is in omega (arith, long, c.add.ensures.total, c.self.invariant.0),
      desk_halted g.M.RunNames.series i.core c.halt.new.self i.book.entries next c.args.cause is c.halt.ensures.step c.self.invariant.1,
    )
