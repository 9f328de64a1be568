use Rattle.std.proofs.Common.{◌≡◌, ℕ, refl, ◌+◌, ◌∷◌, arith, ◌∙◌, length, slice_index, vec_len}
use Rattle.std.proofs.lemmas.Result.{IfOk-weaker}
use Rattle.racp_model.specs.Project.{place, request, IsNumber}
use Rattle.racp_delay.specs.Alternatives.{job_lists}
use Rattle.racp_delay.specs.Found.{AreAdded}
use Rattle.racp_delay.proofs.Chosen.{among-fewer, among-goes, among-same, goes-added, stays-added, stays-over}
use Rattle.racp_delay.proofs.Adding.{all-same, added-over, added-loose, added-here, added-both, lists-push, popped_after, left-is, none-left}
use Rattle.racp_delay.proofs.delaying.+adding.Goals as goal

pub add-some_have_room-requires-clause-capacities : goal.add-some_have_room-requires-clause-capacities
add-some_have_room-requires-clause-capacities t c = c.requires.choice.units

pub add-some_have_room-requires-clause-jobs : goal.add-some_have_room-requires-clause-jobs
add-some_have_room-requires-clause-jobs t c =
    all-same (IsNumber (length c.args.choice.now.net.now.jobs)) c.args.gone.now.items c.deref.result.now c.deref.ensures.value c.requires.gone

pub add-some_have_room-requires-clause-small : goal.add-some_have_room-requires-clause-small
add-some_have_room-requires-clause-small t c = c.requires.choice.small

pub add-are_within-requires : goal.add-are_within-requires
add-are_within-requires t c = record { capacities = c.requires.choice.units }

pub add-returns-then-some_have_room-clause-added : goal.add-returns-then-some_have_room-clause-added
add-returns-then-some_have_room-clause-added t c =
    let lists = job_lists c.args.lists.now.items in
    added-loose c.args.choice.now.net.now c.args.choice.now.capacities.now (slice_index c.args.choice.now.kept) (slice_index c.args.choice.now.left) c.args.gone.now.items c.args.choice.now.undecided.now lists lists c.requires.choice.sums c.deref.result.now c.deref.ensures.value (c.some_have_room.ensures.0 c.if-some_have_room.true)

pub add-returns-then-are_within-clause-added : goal.add-returns-then-are_within-clause-added
add-returns-then-are_within-clause-added t c =
    added-here c.args.choice.now.net.now c.args.choice.now.capacities.now (slice_index c.args.choice.now.kept) (slice_index c.args.choice.now.left) c.args.gone.now.items c.args.choice.now.undecided.now (job_lists c.args.lists.now.items) (job_lists c.push.new.self.items) c.requires.choice.sums
    c.deref.result.now c.deref.ensures.value
    (lists-push c.args.lists.now.items c.push.new.self.items c.in_ok-alternative.alternative c.args.gone.now.items c.in_ok-push.ensures.items (c.in_ok-alternative.ensures.ok ∙ c.deref-then-are_within.ensures.value))
    (c.are_within.ensures.0 c.if-are_within.true) (λ loose. cc (c.some_have_room.ensures.1 loose, c.if-some_have_room.false))

pub add-add_branches-requires : goal.add-add_branches-requires
add-add_branches-requires t c = (
  omega (arith, c.decreases),
  (c.requires.choice, (c.requires.gone, λ runs. cc (c.are_within.ensures.1 runs, c.if-are_within.false))),
)

pub add-returns-clause-gone : goal.add-returns-clause-gone
add-returns-clause-gone t c = c.add_branches.ensures.gone

pub add-returns-clause-added : goal.add-returns-clause-added
add-returns-clause-added t c = c.add_branches.ensures.added

pub add_branches-returns-in_default-clause-added : goal.add_branches-returns-in_default-clause-added
add_branches-returns-in_default-clause-added t c =
    let kept = slice_index c.args.choice.now.kept in
    let lists = job_lists c.args.lists.now.items in
    let same = none-left c.args.choice.now.net.now kept (slice_index c.args.choice.now.left) c.args.choice.now.undecided.now c.in_default.ensures.cases c.requires.choice.sums in
    added-over c.args.choice.now.net.now c.args.choice.now.capacities.now kept (slice_index c.args.choice.now.left) c.args.gone.now.items c.args.choice.now.undecided.now lists lists c.requires.choice.sums
    (λ runs. c.requires.over (λ k l. omega (arith, same k l, runs k l)))

pub add_branches-where_goes-less-requires-clause-choice : goal.add_branches-where_goes-less-requires-clause-choice
add_branches-where_goes-less-requires-clause-choice t c = c.requires.choice

pub add_branches-where_goes-less-requires-clause-first : goal.add_branches-where_goes-less-requires-clause-first
add_branches-where_goes-less-requires-clause-first t c = c.in-Some.ensures.cases.0

pub add_branches-add-requires : goal.add_branches-add-requires
add_branches-add-requires t c = (
  omega (arith, c.decreases, among-fewer c.args.choice.now c.where_goes-less.result c.in-Some.others.now c.where_goes-less.ensures.among c.in-Some.ensures.cases.1),
  (
    c.where_goes-less.ensures.among.choice,
    among-goes c.args.choice.now c.where_goes-less.result c.in-Some.others.now c.where_goes-less.ensures.among c.in-Some.job.now c.args.gone.now.items c.push.new.self.items c.requires.choice c.in-Some.ensures.cases.0 c.in_ok-push.ensures.items c.requires.gone,
  ),
)

pub add_branches-where_stays-requires-clause-choice : goal.add_branches-where_stays-requires-clause-choice
add_branches-where_stays-requires-clause-choice t c = c.requires.choice

pub add_branches-where_stays-requires-clause-first : goal.add_branches-where_stays-requires-clause-first
add_branches-where_stays-requires-clause-first t c = c.in-Some.ensures.cases.0

pub add_branches-returns-in_default-where_stays-clause-gone : goal.add_branches-returns-in_default-where_stays-clause-gone
add_branches-returns-in_default-where_stays-clause-gone t c =
    let same : c.pop.new.self.items ≡ c.args.gone.now.items = popped_after c.args.gone.now.items c.push.new.self.items c.add.new.gone.items c.pop.new.self.items c.in-Some.job.now (vec_len c.add.new.gone) c.in_ok-push.ensures.items c.in_ok-add.ensures.gone (omega (arith, c.add.new.gone.ok.0)) c.pop.ensures.rest in same

pub add_branches-returns-in_default-where_stays-clause-added : goal.add_branches-returns-in_default-where_stays-clause-added
add_branches-returns-in_default-where_stays-clause-added t c =
    let first : c.args.choice.now.undecided.now ≡ c.in-Some.job.now ∷ c.in-Some.others.now = c.in-Some.ensures.cases.0 in
    let parts = left-is c.args.choice.now.net.now (slice_index c.args.choice.now.kept) (slice_index c.args.choice.now.left) c.in-Some.job.now c.args.choice.now.undecided.now c.in-Some.others.now first c.requires.choice.sums in
    let same : c.pop.new.self.items ≡ c.args.gone.now.items = popped_after c.args.gone.now.items c.push.new.self.items c.add.new.gone.items c.pop.new.self.items c.in-Some.job.now (vec_len c.add.new.gone) c.in_ok-push.ensures.items c.in_ok-add.ensures.gone (omega (arith, c.add.new.gone.ok.0)) c.pop.ensures.rest in
    let lists = job_lists c.add.new.lists.items in
    let more : ℕ → ℕ = λ k. slice_index c.args.choice.now.kept k + request c.args.choice.now.net.now (place c.in-Some.job.now) k in
    added-both c.args.choice.now.net.now c.args.choice.now.capacities.now (slice_index c.args.choice.now.kept) (slice_index c.args.choice.now.left) c.args.gone.now.items c.args.choice.now.undecided.now (job_lists c.args.lists.now.items) lists c.requires.choice.sums
    lists c.in-Some.job.now c.in-Some.others.now c.push.new.self.items c.pop.new.self.items more first c.requires.choice.rises c.in_ok-push.ensures.items same (λ k l. refl) c.requires.over (goes-added c.args.choice.now c.where_goes-less.result c.in-Some.others.now c.where_goes-less.ensures c.push.new.self.items (job_lists c.args.lists.now.items) (job_lists c.add.new.lists.items) c.in_ok-add.ensures.added)
    (added-over c.args.choice.now.net.now c.args.choice.now.capacities.now more (slice_index c.args.choice.now.left) c.pop.new.self.items c.in-Some.others.now lists lists (λ k l. omega (arith, parts k l))
    c.in_default-where_stays.ensures)

pub add_branches-add_branches-requires : goal.add_branches-add_branches-requires
add_branches-add_branches-requires t c =
    let same : c.pop.new.self.items ≡ c.args.gone.now.items = popped_after c.args.gone.now.items c.push.new.self.items c.add.new.gone.items c.pop.new.self.items c.in-Some.job.now (vec_len c.add.new.gone) c.in_ok-push.ensures.items c.in_ok-add.ensures.gone (omega (arith, c.add.new.gone.ok.0)) c.pop.ensures.rest in (
      omega (arith, c.decreases, among-fewer c.args.choice.now c.in-Some-where_stays.more c.in-Some.others.now c.in-Some-where_stays.ensures.among c.in-Some.ensures.cases.1),
      (
        c.in-Some-where_stays.ensures.among.choice,
        (
          among-same c.args.choice.now c.in-Some-where_stays.more c.in-Some.others.now c.in-Some-where_stays.ensures.among c.args.gone.now.items c.pop.new.self.items same c.requires.gone,
          stays-over c.args.choice.now c.in-Some-where_stays.more c.in-Some.job.now c.in-Some.others.now c.in-Some-where_stays.ensures c.requires.over,
        ),
      ),
    )

pub add_branches-returns-clause-gone : goal.add_branches-returns-clause-gone
add_branches-returns-clause-gone t c =
    let same : c.pop.new.self.items ≡ c.args.gone.now.items = popped_after c.args.gone.now.items c.push.new.self.items c.add.new.gone.items c.pop.new.self.items c.in-Some.job.now (vec_len c.add.new.gone) c.in_ok-push.ensures.items c.in_ok-add.ensures.gone (omega (arith, c.add.new.gone.ok.0)) c.pop.ensures.rest in
    IfOk-weaker c.add_branches.result (λ _. c.add_branches.new.gone.items ≡ c.pop.new.self.items) (λ _. c.add_branches.new.gone.items ≡ c.args.gone.now.items) (λ _ h. h ∙ same)
    c.add_branches.ensures.gone

pub add_branches-returns-clause-added : goal.add_branches-returns-clause-added
add_branches-returns-clause-added t c =
    let first : c.args.choice.now.undecided.now ≡ c.in-Some.job.now ∷ c.in-Some.others.now = c.in-Some.ensures.cases.0 in
    let same : c.pop.new.self.items ≡ c.args.gone.now.items = popped_after c.args.gone.now.items c.push.new.self.items c.add.new.gone.items c.pop.new.self.items c.in-Some.job.now (vec_len c.add.new.gone) c.in_ok-push.ensures.items c.in_ok-add.ensures.gone (omega (arith, c.add.new.gone.ok.0)) c.pop.ensures.rest in
    let old = job_lists c.args.lists.now.items in
    let mid = job_lists c.add.new.lists.items in
    let new = job_lists c.add_branches.new.lists.items in
    let more = slice_index c.in-Some-where_stays.more.kept in
    IfOk-weaker c.add_branches.result
    (λ _. AreAdded c.in-Some-where_stays.more.net.now c.in-Some-where_stays.more.capacities.now more c.pop.new.self.items c.in-Some-where_stays.more.undecided.now mid new)
    (λ _. AreAdded c.args.choice.now.net.now c.args.choice.now.capacities.now (slice_index c.args.choice.now.kept) c.args.gone.now.items c.args.choice.now.undecided.now old new)
    (λ _ h. added-both c.args.choice.now.net.now c.args.choice.now.capacities.now (slice_index c.args.choice.now.kept) (slice_index c.args.choice.now.left) c.args.gone.now.items c.args.choice.now.undecided.now old new c.requires.choice.sums
    mid c.in-Some.job.now c.in-Some.others.now c.push.new.self.items c.pop.new.self.items more first c.requires.choice.rises c.in_ok-push.ensures.items same c.in-Some-where_stays.ensures.kept c.requires.over (goes-added c.args.choice.now c.where_goes-less.result c.in-Some.others.now c.where_goes-less.ensures c.push.new.self.items (job_lists c.args.lists.now.items) (job_lists c.add.new.lists.items) c.in_ok-add.ensures.added) (stays-added c.args.choice.now c.in-Some-where_stays.more c.in-Some.job.now c.in-Some.others.now c.in-Some-where_stays.ensures c.pop.new.self.items mid new h))
    c.add_branches.ensures.added
