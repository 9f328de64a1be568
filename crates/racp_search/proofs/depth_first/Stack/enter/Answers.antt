use Rattle.std.proofs.Common.{◌≡◌, ℕ, List, length, None, refl, sym, subst}
use Rattle.racp_model.specs.Project.{Project}
use Rattle.racp_model.specs.Formed.{HasBounds}
use Rattle.racp_model.specs.Window.{Answers, IsNo}
use Rattle.racp_timetable.specs.Narrowing.{IsNarrowed, IsTightened}
use Rattle.racp_search.specs.DepthFirst.{IsFrameOf, IsQuiet, IsSearchingNext}
use Rattle.racp_search.specs.Glances.{IsGlance, IsExpanded}
use Rattle.racp_search.proofs.Entering.{same_glance, closed-refuted, closed-framed}
use Rattle.racp_search.proofs.Stacks.{answers-whole}
use Rattle.racp_search.proofs.Tightening.{same_tightened, narrowed-next, narrowed-entered}
use Rattle.racp_search.proofs.depth_first.Stack.enter.Goals as goal
use Rattle.racp_search.proofs.depth_first.Stack.enter.Goals.{in-Some+in_ok-push-in-Ok-Conflict, in_default}

pub returns-in-No-clause-entered : goal.returns-in-No-clause-entered
returns-in-No-clause-entered g c =
    let no : IsNo g.N.OfNetwork.network c.args.subject.now.capacities c.args.window = subst (IsTightened g.N.OfNetwork.network c.args.subject.now.capacities c.args.from c.args.window) c.in-No.is (same_tightened c.network-net.result.now g.N.OfNetwork.network c.capacities-capacities.result.now c.args.subject.now.capacities c.args.from c.args.window c.in_ok-window.field-0 c.network-net.ensures.named c.capacities-capacities.ensures c.in_ok-window.ensures) in
    closed-refuted g.N.OfNetwork.network c.args.subject.now.capacities c.args.subject.now.window c.args.self.now.frames.items c.args.window c.args.from c.requires no

pub look_at-requires-clause-quiet : goal.look_at-requires-clause-quiet
look_at-requires-clause-quiet g c =
    let told : IsNarrowed g.N.OfNetwork.network c.args.subject.now.capacities c.args.from c.args.window c.in-Open.window = subst (IsTightened g.N.OfNetwork.network c.args.subject.now.capacities c.args.from c.args.window) c.in-Open.is (same_tightened c.network-net.result.now g.N.OfNetwork.network c.capacities-capacities.result.now c.args.subject.now.capacities c.args.from c.args.window c.in_ok-window.field-0 c.network-net.ensures.named c.capacities-capacities.ensures c.in_ok-window.ensures) in
    let next : IsSearchingNext g.N.OfNetwork.network c.args.subject.now.capacities c.args.subject.now.window c.args.self.now.frames.items c.in-Open.window c.args.from = narrowed-next g.N.OfNetwork.network c.args.subject.now.capacities c.args.from c.args.window c.in-Open.window told c.network-net.ensures.sound c.args.subject.now.window c.args.self.now.frames.items c.requires in
    subst (λ (p : Project). IsQuiet p c.capacities-capacities.result.now c.in-Open.window c.args.from) (sym c.network-net.ensures.named)
    (subst (λ (xs : List ℕ). IsQuiet g.N.OfNetwork.network xs c.in-Open.window c.args.from) (sym c.capacities-capacities.ensures) next.quiet)

pub returns-in-Ok-Refuted-clause-entered : goal.returns-in-Ok-Refuted-clause-entered
returns-in-Ok-Refuted-clause-entered g c =
    let told : IsNarrowed g.N.OfNetwork.network c.args.subject.now.capacities c.args.from c.args.window c.in-Open.window = subst (IsTightened g.N.OfNetwork.network c.args.subject.now.capacities c.args.from c.args.window) c.in-Open.is (same_tightened c.network-net.result.now g.N.OfNetwork.network c.capacities-capacities.result.now c.args.subject.now.capacities c.args.from c.args.window c.in_ok-window.field-0 c.network-net.ensures.named c.capacities-capacities.ensures c.in_ok-window.ensures) in
    let next : IsSearchingNext g.N.OfNetwork.network c.args.subject.now.capacities c.args.subject.now.window c.args.self.now.frames.items c.in-Open.window c.args.from = narrowed-next g.N.OfNetwork.network c.args.subject.now.capacities c.args.from c.args.window c.in-Open.window told c.network-net.ensures.sound c.args.subject.now.window c.args.self.now.frames.items c.requires in
    let no : IsNo g.N.OfNetwork.network c.args.subject.now.capacities c.in-Open.window = subst (IsGlance g.N.OfNetwork.network c.args.subject.now.capacities c.in-Open.window) c.in-Ok-Refuted.field-0-is (same_glance c.network-net.result.now g.N.OfNetwork.network c.capacities-capacities.result.now c.args.subject.now.capacities c.in-Open.window c.in-Ok-Refuted.field-0 c.network-net.ensures.named c.capacities-capacities.ensures c.in-Ok-Refuted.ensures) in
    narrowed-entered g.N.OfNetwork.network c.args.subject.now.capacities c.args.from c.args.window c.in-Open.window told c.network-net.ensures.sound c.args.subject.now.window c.args.self.now.frames.items c.args.self.now.frames.items None
    (closed-refuted g.N.OfNetwork.network c.args.subject.now.capacities c.args.subject.now.window c.args.self.now.frames.items c.in-Open.window c.args.from next no)

pub returns-after-branch-4-clause-entered : goal.returns-after-branch-4-clause-entered
returns-after-branch-4-clause-entered g c =
    let told : IsNarrowed g.N.OfNetwork.network c.args.subject.now.capacities c.args.from c.args.window c.in-Open.window = subst (IsTightened g.N.OfNetwork.network c.args.subject.now.capacities c.args.from c.args.window) c.in-Open.is (same_tightened c.network-net.result.now g.N.OfNetwork.network c.capacities-capacities.result.now c.args.subject.now.capacities c.args.from c.args.window c.in_ok-window.field-0 c.network-net.ensures.named c.capacities-capacities.ensures c.in_ok-window.ensures) in
    let next : IsSearchingNext g.N.OfNetwork.network c.args.subject.now.capacities c.args.subject.now.window c.args.self.now.frames.items c.in-Open.window c.args.from = narrowed-next g.N.OfNetwork.network c.args.subject.now.capacities c.args.from c.args.window c.in-Open.window told c.network-net.ensures.sound c.args.subject.now.window c.args.self.now.frames.items c.requires in
    narrowed-entered g.N.OfNetwork.network c.args.subject.now.capacities c.args.from c.args.window c.in-Open.window told c.network-net.ensures.sound c.args.subject.now.window c.args.self.now.frames.items c.match-branch-4.self.frames.items None
    (elim c.match-branch-4.branch [
      | in-Some+in_ok-push-in-Ok-Conflict w ↦
          let is : IsFrameOf g.N.OfNetwork.network c.args.subject.now.capacities c.in-Open.window w.in-Some.frame = subst (IsExpanded g.N.OfNetwork.network c.args.subject.now.capacities c.in-Open.window) w.in-Some.is c.in_ok-frame-in-Ok-Conflict.ensures.expanded in
          rw w.self-is
          (closed-framed g.N.OfNetwork.network c.args.subject.now.capacities c.args.subject.now.window c.args.self.now.frames.items w.push.new.self.items c.in-Open.window c.args.from w.in-Some.frame next is w.in_ok-push-in-Ok-Conflict.ensures.items)
      | in_default w ↦
          rw w.self-is
          (closed-refuted g.N.OfNetwork.network c.args.subject.now.capacities c.args.subject.now.window c.args.self.now.frames.items c.in-Open.window c.args.from next
          (subst (IsExpanded g.N.OfNetwork.network c.args.subject.now.capacities c.in-Open.window) w.in_default.is c.in_ok-frame-in-Ok-Conflict.ensures.expanded))
    ])

pub returns-in-No-clause-kept : goal.returns-in-No-clause-kept
returns-in-No-clause-kept g c = refl

pub returns-in-Ok-Found-clause-kept : goal.returns-in-Ok-Found-clause-kept
returns-in-Ok-Found-clause-kept g c = refl

pub returns-in-Ok-Refuted-clause-kept : goal.returns-in-Ok-Refuted-clause-kept
returns-in-Ok-Refuted-clause-kept g c = refl

pub returns-in-Err-clause-kept : goal.returns-in-Err-clause-kept
returns-in-Err-clause-kept g c = refl

pub returns-in_err-window-clause-kept : goal.returns-in_err-window-clause-kept
returns-in_err-window-clause-kept g c = refl

pub returns-in_err-frame-in-Ok-Conflict-clause-kept : goal.returns-in_err-frame-in-Ok-Conflict-clause-kept
returns-in_err-frame-in-Ok-Conflict-clause-kept g c = c.expand.ensures.kept

pub returns-in_err-push-in-Ok-Conflict-clause-kept : goal.returns-in_err-push-in-Ok-Conflict-clause-kept
returns-in_err-push-in-Ok-Conflict-clause-kept g c = c.expand.ensures.kept

pub returns-after-branch-4-clause-kept : goal.returns-after-branch-4-clause-kept
returns-after-branch-4-clause-kept g c = c.expand.ensures.kept

pub returns-in-Ok-Found-clause-entered : goal.returns-in-Ok-Found-clause-entered
returns-in-Ok-Found-clause-entered g c =
    let told : IsNarrowed g.N.OfNetwork.network c.args.subject.now.capacities c.args.from c.args.window c.in-Open.window = subst (IsTightened g.N.OfNetwork.network c.args.subject.now.capacities c.args.from c.args.window) c.in-Open.is (same_tightened c.network-net.result.now g.N.OfNetwork.network c.capacities-capacities.result.now c.args.subject.now.capacities c.args.from c.args.window c.in_ok-window.field-0 c.network-net.ensures.named c.capacities-capacities.ensures c.in_ok-window.ensures) in
    let next : IsSearchingNext g.N.OfNetwork.network c.args.subject.now.capacities c.args.subject.now.window c.args.self.now.frames.items c.in-Open.window c.args.from = narrowed-next g.N.OfNetwork.network c.args.subject.now.capacities c.args.from c.args.window c.in-Open.window told c.network-net.ensures.sound c.args.subject.now.window c.args.self.now.frames.items c.requires in
    let found : Answers g.N.OfNetwork.network c.args.subject.now.capacities c.in-Open.window c.in-Ok-Found.starts = subst (IsGlance g.N.OfNetwork.network c.args.subject.now.capacities c.in-Open.window) c.in-Ok-Found.field-0-is (same_glance c.network-net.result.now g.N.OfNetwork.network c.capacities-capacities.result.now c.args.subject.now.capacities c.in-Open.window c.in-Ok-Found.field-0 c.network-net.ensures.named c.capacities-capacities.ensures c.in-Ok-Found.ensures) in
    answers-whole g.N.OfNetwork.network c.args.subject.now.capacities c.args.subject.now.window c.in-Open.window c.in-Ok-Found.starts next.part found

pub expand-requires-clause-bounds : goal.expand-requires-clause-bounds
expand-requires-clause-bounds g c =
    let told : IsNarrowed g.N.OfNetwork.network c.args.subject.now.capacities c.args.from c.args.window c.in-Open.window = subst (IsTightened g.N.OfNetwork.network c.args.subject.now.capacities c.args.from c.args.window) c.in-Open.is (same_tightened c.network-net.result.now g.N.OfNetwork.network c.capacities-capacities.result.now c.args.subject.now.capacities c.args.from c.args.window c.in_ok-window.field-0 c.network-net.ensures.named c.capacities-capacities.ensures c.in_ok-window.ensures) in
    told.bounds

pub expand-requires-clause-conflict : goal.expand-requires-clause-conflict
expand-requires-clause-conflict g c = subst (IsGlance g.N.OfNetwork.network c.args.subject.now.capacities c.in-Open.window) c.in-Ok-Conflict.field-0-is (same_glance c.network-net.result.now g.N.OfNetwork.network c.capacities-capacities.result.now c.args.subject.now.capacities c.in-Open.window c.in-Ok-Conflict.field-0 c.network-net.ensures.named c.capacities-capacities.ensures c.in-Ok-Conflict.ensures)

pub look_at-requires-clause-bounds : goal.look_at-requires-clause-bounds
look_at-requires-clause-bounds g c =
    let told : IsNarrowed g.N.OfNetwork.network c.args.subject.now.capacities c.args.from c.args.window c.in-Open.window = subst (IsTightened g.N.OfNetwork.network c.args.subject.now.capacities c.args.from c.args.window) c.in-Open.is (same_tightened c.network-net.result.now g.N.OfNetwork.network c.capacities-capacities.result.now c.args.subject.now.capacities c.args.from c.args.window c.in_ok-window.field-0 c.network-net.ensures.named c.capacities-capacities.ensures c.in_ok-window.ensures) in
    subst (λ (p : Project). HasBounds p c.in-Open.window) (sym c.network-net.ensures.named) told.bounds

pub look_at-requires-clause-capacities : goal.look_at-requires-clause-capacities
look_at-requires-clause-capacities g c = subst (λ (xs : List ℕ). length xs ≡ c.network-net.result.now.resources) (sym c.capacities-capacities.ensures) (subst (λ (p : Project). length c.args.subject.now.capacities ≡ p.resources) (sym c.network-net.ensures.named) c.network-net.ensures.formed.capacities)

pub tighten-requires-clause-bounds : goal.tighten-requires-clause-bounds
tighten-requires-clause-bounds g c = subst (λ (p : Project). HasBounds p c.args.window) (sym c.network-net.ensures.named) c.requires.part.bounds

pub tighten-requires-clause-capacities : goal.tighten-requires-clause-capacities
tighten-requires-clause-capacities g c = subst (λ (xs : List ℕ). length xs ≡ c.network-net.result.now.resources) (sym c.capacities-capacities.ensures) (subst (λ (p : Project). length c.args.subject.now.capacities ≡ p.resources) (sym c.network-net.ensures.named) c.network-net.ensures.formed.capacities)
