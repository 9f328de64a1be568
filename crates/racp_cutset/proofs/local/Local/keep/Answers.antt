use Rattle.std.proofs.Common.{◌∙◌, ◌<◌, length, inl, inr, arith, ap, subst}
use Rattle.racp_cutset.specs.Kept.{Kept, IsKeptOrDropped}
use Rattle.racp_cutset.proofs.local.Local.keep.Goals as goal

pub returns-in-None : goal.returns-in-None
returns-in-None g c =
    subst (λ (old : Kept). IsKeptOrDropped c.args.first old c.args.nogood c.append.new.self) (c.gives_way.ensures.kept ∙ c.self.view_is) (elim c.append.ensures [
      | inl behind ↦ inl behind
      | inr dropped ↦ inr (inr dropped)
    ])

pub returns-in-Some : goal.returns-in-Some
returns-in-Some g c =
    let within : c.in-Some.place < length c.gives_way.new.self.records = omega (arith, c.in-Some.ensures.place.1, ap (λ (k : Kept). length k.records) c.gives_way.ensures.kept) in
    subst (λ (old : Kept). IsKeptOrDropped c.args.first old c.args.nogood c.put.new.self) (c.gives_way.ensures.kept ∙ c.self.view_is)
    (inr (inl (record { place = c.in-Some.place; behind = c.in-Some.ensures.place.0; within = within; written = c.put.ensures })))
