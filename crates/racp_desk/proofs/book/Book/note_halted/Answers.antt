use Rattle.std.proofs.Common.{vec_capacity, subst, sym}
use Rattle.racp_desk.specs.Log.{Log, tally, MayFollow}
use Rattle.racp_desk.specs.declared.log.Entry.TheVariants.{Halted}
use Rattle.racp_desk.proofs.Logs.{book_halted}
use Rattle.racp_desk.proofs.book.Book.note_halted.Goals as goal

pub invariant_of-self : goal.invariant_of-self
invariant_of-self g c =
    let i = c.self.inside in
    let may = subst (λ (l : Log). MayFollow g.M.Rules.turns g.M.Rules.quiet (tally l.entries) (Halted c.args.cause)) (sym c.self.view_is) c.requires in
    book_halted g.M.Rules.turns g.M.Rules.quiet i.entries.items c.push_reserved.new.self.items i.pieces i.nodes i.out i.halt (vec_capacity i.entries) (vec_capacity c.push_reserved.new.self) c.self.invariant c.args.cause c.push_reserved.ensures.items (sym c.push_reserved.ensures.capacity) may
