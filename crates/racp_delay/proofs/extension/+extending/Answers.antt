use Rattle.std.proofs.Common.{◌≡◌, ◌+◌, ◌∷◌, arith, refl, length, slice_index, vec_len}
use Rattle.std.proofs.lemmas.Result.{IfOk-weaker}
use Rattle.racp_model.specs.Project.{place, request, IsNumber}
use Rattle.racp_delay.specs.Found.{IsAny, IsExtended}
use Rattle.racp_delay.proofs.Adding.{all-same}
use Rattle.racp_delay.proofs.Chosen.{among-fewer, among-goes, among-same, goes-extended, stays-extended, stays-over}
use Rattle.racp_delay.proofs.Extended.{extended-here, extended-goes, as_before, none-goes, extended-over, extended-stays}
use Rattle.racp_delay.proofs.Reaching.{none-reached, room-reached, rows-among, same-loose}
use Rattle.racp_delay.proofs.extension.+extending.Goals as goal

pub branch-extend-requires : goal.branch-extend-requires
branch-extend-requires g t c κs lives = (
  omega (arith, c.decreases, among-fewer c.args.choice.now c.where_goes-less.result c.in-Some.others.now c.where_goes-less.ensures.among c.in-Some.ensures.cases.1),
  (
    lives,
    (
      c.where_goes-less.ensures.among.choice,
      (among-goes c.args.choice.now c.where_goes-less.result c.in-Some.others.now c.where_goes-less.ensures.among c.in-Some.job.now c.args.gone.now.items c.push.new.self.items c.requires.choice c.in-Some.ensures.cases.0 c.in_ok-push.ensures.items c.requires.gone, rows-among c.args.choice.now c.where_goes-less.result c.in-Some.job.now c.in-Some.others.now c.args.rows.now c.where_goes-less.ensures.among c.in-Some.ensures.cases.0 c.requires.rows),
    ),
  ),
)

pub branch-returns-then-branch-clause-found : goal.branch-returns-then-branch-clause-found
branch-returns-then-branch-clause-found g t c =
    extended-goes c.args.choice.now.net.now c.args.choice.now.capacities.now (slice_index c.args.choice.now.kept) (slice_index c.args.choice.now.left) c.args.gone.now.items c.args.choice.now.undecided.now IsAny c.requires.choice.sums
    c.in-Some.job.now c.in-Some.others.now c.in-Some.ensures.cases.0 c.requires.choice.rises c.requires.over c.push.new.self.items c.extend.new.gone.items c.in_ok-extend.field-0 c.in_ok-push.ensures.items c.if-branch.true (goes-extended c.args.choice.now c.where_goes-less.result c.in-Some.others.now c.where_goes-less.ensures c.push.new.self.items IsAny c.in_ok-extend.field-0 c.extend.new.gone.items c.in_ok-extend.ensures.found)

pub branch-returns-in_default-where_stays-clause-found : goal.branch-returns-in_default-where_stays-clause-found
branch-returns-in_default-where_stays-clause-found g t c =
    let p = c.args.choice.now.net.now in
    let kept = slice_index c.args.choice.now.kept in
    let left = slice_index c.args.choice.now.left in
    let first : c.args.choice.now.undecided.now ≡ c.in-Some.job.now ∷ c.in-Some.others.now = c.in-Some.ensures.cases.0 in
    let same : c.pop.new.self.items ≡ c.args.gone.now.items = as_before c.args.choice.now.net.now c.args.choice.now.capacities.now (slice_index c.args.choice.now.kept) (slice_index c.args.choice.now.left) c.args.gone.now.items c.args.choice.now.undecided.now IsAny c.requires.choice.sums
    c.in-Some.job.now c.in-Some.others.now c.in-Some.ensures.cases.0 c.push.new.self.items c.extend.new.gone.items c.pop.new.self.items c.in_ok-extend.field-0 (vec_len c.extend.new.gone) c.in_ok-push.ensures.items c.if-branch.false (goes-extended c.args.choice.now c.where_goes-less.result c.in-Some.others.now c.where_goes-less.ensures c.push.new.self.items IsAny c.in_ok-extend.field-0 c.extend.new.gone.items c.in_ok-extend.ensures.found) (omega (arith, c.extend.new.gone.ok.0)) c.pop.ensures.rest in (
      same,
      extended-over p c.args.choice.now.capacities.now kept left c.args.gone.now.items c.args.choice.now.undecided.now IsAny c.requires.choice.sums c.in-Some.job.now c.in-Some.others.now first (λ k. kept k + request p (place c.in-Some.job.now) k) (λ k l. refl)
          (none-goes p c.args.choice.now.capacities.now kept left c.args.gone.now.items c.args.choice.now.undecided.now IsAny c.requires.choice.sums c.in-Some.job.now c.in-Some.others.now first c.push.new.self.items c.extend.new.gone.items c.in_ok-extend.field-0 c.in_ok-push.ensures.items c.if-branch.false (goes-extended c.args.choice.now c.where_goes-less.result c.in-Some.others.now c.where_goes-less.ensures c.push.new.self.items IsAny c.in_ok-extend.field-0 c.extend.new.gone.items c.in_ok-extend.ensures.found))
          c.in_default-where_stays.ensures,
    )

pub branch-branch-more-requires : goal.branch-branch-more-requires
branch-branch-more-requires g t c κs lives =
    let same : c.pop.new.self.items ≡ c.args.gone.now.items = as_before c.args.choice.now.net.now c.args.choice.now.capacities.now (slice_index c.args.choice.now.kept) (slice_index c.args.choice.now.left) c.args.gone.now.items c.args.choice.now.undecided.now IsAny c.requires.choice.sums
    c.in-Some.job.now c.in-Some.others.now c.in-Some.ensures.cases.0 c.push.new.self.items c.extend.new.gone.items c.pop.new.self.items c.in_ok-extend.field-0 (vec_len c.extend.new.gone) c.in_ok-push.ensures.items c.if-branch.false (goes-extended c.args.choice.now c.where_goes-less.result c.in-Some.others.now c.where_goes-less.ensures c.push.new.self.items IsAny c.in_ok-extend.field-0 c.extend.new.gone.items c.in_ok-extend.ensures.found) (omega (arith, c.extend.new.gone.ok.0)) c.pop.ensures.rest in (
      omega (arith, c.decreases, among-fewer c.args.choice.now c.in-Some-where_stays.more c.in-Some.others.now c.in-Some-where_stays.ensures.among c.in-Some.ensures.cases.1),
      (
        lives,
        (
          c.in-Some-where_stays.ensures.among.choice,
          (
            among-same c.args.choice.now c.in-Some-where_stays.more c.in-Some.others.now c.in-Some-where_stays.ensures.among c.args.gone.now.items c.pop.new.self.items same c.requires.gone,
            (rows-among c.args.choice.now c.in-Some-where_stays.more c.in-Some.job.now c.in-Some.others.now c.args.rows.now c.in-Some-where_stays.ensures.among c.in-Some.ensures.cases.0 c.requires.rows, stays-over c.args.choice.now c.in-Some-where_stays.more c.in-Some.job.now c.in-Some.others.now c.in-Some-where_stays.ensures c.requires.over),
          ),
        ),
      ),
    )

pub branch-returns-clause-found : goal.branch-returns-clause-found
branch-returns-clause-found g t c =
    let p = c.args.choice.now.net.now in
    let kept = slice_index c.args.choice.now.kept in
    let left = slice_index c.args.choice.now.left in
    let first : c.args.choice.now.undecided.now ≡ c.in-Some.job.now ∷ c.in-Some.others.now = c.in-Some.ensures.cases.0 in
    let same : c.pop.new.self.items ≡ c.args.gone.now.items = as_before c.args.choice.now.net.now c.args.choice.now.capacities.now (slice_index c.args.choice.now.kept) (slice_index c.args.choice.now.left) c.args.gone.now.items c.args.choice.now.undecided.now IsAny c.requires.choice.sums
    c.in-Some.job.now c.in-Some.others.now c.in-Some.ensures.cases.0 c.push.new.self.items c.extend.new.gone.items c.pop.new.self.items c.in_ok-extend.field-0 (vec_len c.extend.new.gone) c.in_ok-push.ensures.items c.if-branch.false (goes-extended c.args.choice.now c.where_goes-less.result c.in-Some.others.now c.where_goes-less.ensures c.push.new.self.items IsAny c.in_ok-extend.field-0 c.extend.new.gone.items c.in_ok-extend.ensures.found) (omega (arith, c.extend.new.gone.ok.0)) c.pop.ensures.rest in
    IfOk-weaker c.branch-more.result
    (λ found. IsExtended c.in-Some-where_stays.more.net.now c.in-Some-where_stays.more.capacities.now (slice_index c.in-Some-where_stays.more.kept) c.pop.new.self.items c.in-Some-where_stays.more.undecided.now IsAny found c.branch-more.new.gone.items)
    (λ found. IsExtended p c.args.choice.now.capacities.now kept c.args.gone.now.items c.args.choice.now.undecided.now IsAny found c.branch-more.new.gone.items)
    (λ found h. extended-stays p c.args.choice.now.capacities.now kept left c.args.gone.now.items c.args.choice.now.undecided.now IsAny c.requires.choice.sums c.in-Some.job.now c.in-Some.others.now first (slice_index c.in-Some-where_stays.more.kept) c.in-Some-where_stays.ensures.kept
    (none-goes p c.args.choice.now.capacities.now kept left c.args.gone.now.items c.args.choice.now.undecided.now IsAny c.requires.choice.sums c.in-Some.job.now c.in-Some.others.now first c.push.new.self.items c.extend.new.gone.items c.in_ok-extend.field-0 c.in_ok-push.ensures.items c.if-branch.false (goes-extended c.args.choice.now c.where_goes-less.result c.in-Some.others.now c.where_goes-less.ensures c.push.new.self.items IsAny c.in_ok-extend.field-0 c.extend.new.gone.items c.in_ok-extend.ensures.found))
    c.pop.new.self.items c.branch-more.new.gone.items found same (stays-extended c.args.choice.now c.in-Some-where_stays.more c.in-Some.job.now c.in-Some.others.now c.in-Some-where_stays.ensures c.pop.new.self.items IsAny found c.branch-more.new.gone.items h))
    c.branch-more.ensures.found

pub extend-returns-then-some_have_room-clause-found : goal.extend-returns-then-some_have_room-clause-found
extend-returns-then-some_have_room-clause-found g t c =
    (refl, none-reached c.args.choice.now c.args.gone.now.items c.reach-most.result c.reach-most.ensures IsAny (same-loose c.args.choice.now.net.now c.args.choice.now.capacities.now (slice_index c.reach-most.result) c.deref.result.now c.args.gone.now.items c.deref.ensures.value (c.some_have_room.ensures.0 c.if-some_have_room.true)))

pub extend-returns-then-are_within-clause-found : goal.extend-returns-then-are_within-clause-found
extend-returns-then-are_within-clause-found g t c =
    extended-here c.args.choice.now.net.now c.args.choice.now.capacities.now (slice_index c.args.choice.now.kept) (slice_index c.args.choice.now.left) c.args.gone.now.items c.args.choice.now.undecided.now IsAny c.requires.choice.sums c.deref.result.now c.deref.ensures.value
    (c.are_within.ensures.0 c.if-are_within.true) (λ loose. cc (c.some_have_room.ensures.1 (room-reached c.args.choice.now c.deref.result.now c.reach-most.result c.reach-most.ensures loose), c.if-some_have_room.false)) tt

pub extend-branch-choice-requires : goal.extend-branch-choice-requires
extend-branch-choice-requires g t c κs lives = (
  omega (arith, c.decreases),
  (lives, (c.requires.choice, (c.requires.gone, (c.requires.rows, λ runs. cc (c.are_within.ensures.1 runs, c.if-are_within.false))))),
)

pub extend-some_have_room-requires-clause-capacities : goal.extend-some_have_room-requires-clause-capacities
extend-some_have_room-requires-clause-capacities g t c = c.requires.choice.units

pub extend-some_have_room-requires-clause-jobs : goal.extend-some_have_room-requires-clause-jobs
extend-some_have_room-requires-clause-jobs g t c =
    all-same (IsNumber (length c.args.choice.now.net.now.jobs)) c.args.gone.now.items c.deref.result.now c.deref.ensures.value c.requires.gone

pub extend-some_have_room-requires-clause-small : goal.extend-some_have_room-requires-clause-small
extend-some_have_room-requires-clause-small g t c k l = omega (arith, (c.reach-most.ensures k l).left, c.requires.choice.small k l)

pub extend-are_within-requires : goal.extend-are_within-requires
extend-are_within-requires g t c = record { capacities = c.requires.choice.units }

pub branch-where_goes-less-requires-clause-choice : goal.branch-where_goes-less-requires-clause-choice
branch-where_goes-less-requires-clause-choice g t c = c.requires.choice

pub branch-where_goes-less-requires-clause-first : goal.branch-where_goes-less-requires-clause-first
branch-where_goes-less-requires-clause-first g t c = c.in-Some.ensures.cases.0

pub branch-where_stays-requires-clause-choice : goal.branch-where_stays-requires-clause-choice
branch-where_stays-requires-clause-choice g t c = c.requires.choice

pub branch-where_stays-requires-clause-first : goal.branch-where_stays-requires-clause-first
branch-where_stays-requires-clause-first g t c = c.in-Some.ensures.cases.0
