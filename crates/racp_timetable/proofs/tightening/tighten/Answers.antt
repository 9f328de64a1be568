use Rattle.std.proofs.Common.{Bool, List, ℕ, subst, sym}
use Rattle.racp_model.specs.Window.{Bounds, IsNo}
use Rattle.racp_timetable.specs.Narrowing.{IsNarrowed, IsNarrowedOrNo}
use Rattle.racp_timetable.proofs.tightening.tighten.Goals as goal

pub returns-then-branch : goal.returns-then-branch
returns-then-branch c =
    let net = c.args.net.now in
    let from = c.args.from in
    let narrow : IsNarrowed net c.as_slice.result.now from c.of-window.result c.narrow.new.window =
    subst (λ (b : Bool). IsNarrowedOrNo net c.as_slice.result.now from c.of-window.result c.narrow.new.window b) c.if-branch.true c.in_ok-narrow.ensures in
    subst (λ (w : Bounds). IsNarrowed net c.args.capacities.now from c.args.window w) (sym c.into_window.ensures)
    (subst (λ (w : Bounds). IsNarrowed net c.args.capacities.now from w c.narrow.new.window) c.of-window.ensures
    (subst (λ (xs : List ℕ). IsNarrowed net xs from c.of-window.result c.narrow.new.window) c.as_slice.ensures narrow))

pub returns : goal.returns
returns c =
    let net = c.args.net.now in
    let no : IsNo net c.as_slice.result.now c.of-window.result =
    subst (λ (b : Bool). IsNarrowedOrNo net c.as_slice.result.now c.args.from c.of-window.result c.narrow.new.window b) c.if-branch.false c.in_ok-narrow.ensures in
    subst (λ (w : Bounds). IsNo net c.args.capacities.now w) c.of-window.ensures
    (subst (λ (xs : List ℕ). IsNo net xs c.of-window.result) c.as_slice.ensures no)
