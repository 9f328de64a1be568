use Rattle.std.proofs.Common.{◌≡◌, sym, subst, List}
use Rattle.std.specs.Prelude.{IfSome}
use Rattle.std.proofs.lemmas.Result.{IfOk-weaker}
use Rattle.racp_clauses.specs.declared.literal.Literal.{Literal}
use Rattle.racp_derivations.specs.Thinning.{InfersAs}
use Rattle.racp_derivations.proofs.Inferring.{found-infers}
use Rattle.racp_derivations.proofs.thinning.thinned.Goals as goal

pub returns : goal.returns
returns g c =
    let once : InfersAs c.in_ok-once.once.items c.args.clause.now =
    subst (λ (ls : List Literal). InfersAs c.in_ok-once.once.items ls) c.literals.ensures.literals c.in_ok-once.ensures in
    let twice : InfersAs c.in_ok-twice.twice.items c.in_ok-once.once.items =
    subst (λ (ls : List Literal). InfersAs c.in_ok-twice.twice.items ls) c.deref.ensures.value c.in_ok-twice.ensures in
    let again : InfersAs c.deref-2.result.now c.in_ok-once.once.items =
    subst (λ (ls : List Literal). InfersAs ls c.in_ok-once.once.items) (sym c.deref-2.ensures.value) twice in
    IfOk-weaker c.derived.result (λ found. IfSome found (λ short. short ≡ c.deref-2.result.now)) _
    (λ found e. found-infers found c.deref-2.result.now c.in_ok-once.once.items c.args.clause.now e again once) c.derived.ensures
