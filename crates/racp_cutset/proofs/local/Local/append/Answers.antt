use Rattle.std.proofs.Common.{List, [], ◌∷◌, ◌++◌, ◌∙◌, inl, inr, ap, sym, refl}
use Rattle.racp_cutset.specs.Covering.{SearchNode}
use Rattle.racp_cutset.specs.Kept.{Kept}
use Rattle.racp_cutset.proofs.local.Local.append.Goals as goal

pub returns-then-is_full : goal.returns-then-is_full
returns-then-is_full g c = inr refl

pub returns-then-is_ok : goal.returns-then-is_ok
returns-then-is_ok g c =
    let pushed = rw (sym c.is_ok.ensures.value ∙ c.if-is_ok.true) at c.push.ensures.items in
    let kept : List SearchNode → Kept = λ records. record { records = records; most = c.self.inside.limit } in
    inl (ap kept pushed ∙ ap (λ (k : Kept). record { records = k.records ++ c.args.nogood ∷ []; most = k.most }) c.self.view_is)

pub returns-else-is_ok : goal.returns-else-is_ok
returns-else-is_ok g c =
    let same = rw (sym c.is_ok.ensures.value ∙ c.if-is_ok.false) at c.push.ensures.items in
    let kept : List SearchNode → Kept = λ records. record { records = records; most = c.self.inside.limit } in
    inr (ap kept same ∙ c.self.view_is)
