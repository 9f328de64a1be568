use Rattle.std.proofs.Common.{◌≤◌, vec_capacity, subst, sym, arith}
use Rattle.racp_desk.specs.Log.{Log, tally, MayFollow}
use Rattle.racp_desk.specs.declared.log.Entry.TheVariants.{Taken}
use Rattle.racp_desk.proofs.Logs.{book_taken}
use Rattle.racp_desk.proofs.book.Book.note_taken.Goals as goal

pub invariant_of-self : goal.invariant_of-self
invariant_of-self g c =
    let i = c.self.inside in
    let may = subst (λ (l : Log). MayFollow g.M.Rules.turns g.M.Rules.quiet (tally l.entries) (Taken c.args.seat c.args.number c.args.index)) (sym c.self.view_is) c.requires.legal in
    let some = subst (λ (l : Log). 2 ≤ l.room) (sym c.self.view_is) c.requires.room in
    book_taken g.M.Rules.turns g.M.Rules.quiet i.entries.items c.push_reserved.new.self.items i.pieces i.nodes i.out i.halt (vec_capacity i.entries) (vec_capacity c.push_reserved.new.self) c.self.invariant c.args.seat c.args.number c.args.index c.push_reserved.ensures.items (sym c.push_reserved.ensures.capacity) may (omega (arith, some))
