use Rattle.std.proofs.Common.{◌≡◌, length, arith, ap}
use Rattle.racp_by_questions.specs.declared.subject.Subject.{Subject}
use Rattle.racp_by_questions.proofs.Cheapest.{whole-has_all, whole-span}
use Rattle.racp_by_questions.proofs.Learning.{known-roofs}
use Rattle.racp_by_questions.proofs.halving.first_enough.Goals as goal

pub search-requires-clause-span : goal.search-requires-clause-span
search-requires-clause-span g c =
    let s : Subject = record { alloc = c.args.task.now.alloc; net = c.args.task.now.net; order = c.args.task.now.order; root = c.args.task.now.root; roofs = c.args.roofs } in
    rw c.in_ok-whole.ensures (whole-span s (record { terms = c.requires.terms; root = c.requires.root }) c.args.floors.now c.requires.floors c.requires.roofs)

pub search-requires-clause-known : goal.search-requires-clause-known
search-requires-clause-known g c =
    let s : Subject = record { alloc = c.args.task.now.alloc; net = c.args.task.now.net; order = c.args.task.now.order; root = c.args.task.now.root; roofs = c.args.roofs } in
    known-roofs s c.in_ok-known.known c.requires.roofs c.in_ok-known.ensures.best c.in_ok-known.ensures.cost c.in_ok-known.ensures.refuted

pub search-requires-clause-pending : goal.search-requires-clause-pending
search-requires-clause-pending g c span h =
    let e : length c.new-pending.result.items ≡ 0 = ap length c.new-pending.ensures.items in
    absurd (omega (arith, e, h.1))

pub search-requires-clause-rest : goal.search-requires-clause-rest
search-requires-clause-rest g c =
    let s : Subject = record { alloc = c.args.task.now.alloc; net = c.args.task.now.net; order = c.args.task.now.order; root = c.args.task.now.root; roofs = c.args.roofs } in
    rw c.in_ok-whole.ensures (whole-has_all s (record { terms = c.requires.terms; root = c.requires.root }) c.args.floors.now 18446744073709551615 c.requires.floors)
