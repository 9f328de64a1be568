use Rattle.std.proofs.Common.{◌≡◌, ◌+◌, ◌∷◌, ◌++◌, [], arith, ap, ◌∙◌, refl, length, slice_index, vec_len}
use Rattle.std.proofs.lemmas.Result.{IfOk-weaker}
use Rattle.racp_model.specs.Project.{place, request, IsNumber}
use Rattle.racp_model.specs.Terms.{IsLexBefore}
use Rattle.racp_delay.specs.Found.{IsAny, IsExtended, HasNoExtension}
use Rattle.racp_delay.proofs.Adding.{all-same}
use Rattle.racp_delay.proofs.Chosen.{among-fewer, among-goes, among-same, goes-extended, stays-extended, stays-over}
use Rattle.racp_delay.proofs.Extended.{extended-past, extended-goes, as_before, none-goes, extended-over, extended-stays, not_behind, behind_same, behind_less_job, any-behind_empty, any-behind_less}
use Rattle.racp_delay.proofs.Reaching.{none-reached, rows-among, same-loose}
use Rattle.racp_delay.proofs.following.+extending_behind.Goals as goal
use Rattle.racp_delay.proofs.following.+extending_behind.Goals.{branch_behind-then-first-job-2+in_ok-push+in_ok-extend_behind+else-branch, branch_behind-else-first-job-2, extend_behind-then-some_have_room-via-then-some_have_room, extend_behind-then-some_have_room-via-else-some_have_room+then-are_within}

pub branch_behind-returns-in_default-clause-found : goal.branch_behind-returns-in_default-clause-found
branch_behind-returns-in_default-clause-found g t c =
    let p = c.args.choice.now.net.now in
    let kept = slice_index c.args.choice.now.kept in
    IfOk-weaker c.branch-choice.result
    (λ found. IsExtended p c.args.choice.now.capacities.now kept c.args.gone.now.items c.args.choice.now.undecided.now IsAny found c.branch-choice.new.gone.items)
    (λ found. IsExtended p c.args.choice.now.capacities.now kept c.args.gone.now.items c.args.choice.now.undecided.now (IsLexBefore c.args.last.now) found c.branch-choice.new.gone.items)
    (λ found. any-behind_empty p c.args.choice.now.capacities.now kept (slice_index c.args.choice.now.left) c.args.gone.now.items c.args.choice.now.undecided.now c.args.last.now c.requires.choice.sums c.requires.over c.in_default.ensures.cases found c.branch-choice.new.gone.items)
    c.branch-choice.ensures.found

pub branch_behind-returns-then-first-job-clause-found : goal.branch_behind-returns-then-first-job-clause-found
branch_behind-returns-then-first-job-clause-found g t c =
    let p = c.args.choice.now.net.now in
    let kept = slice_index c.args.choice.now.kept in
    IfOk-weaker c.branch-choice-then-first-job.result
    (λ found. IsExtended p c.args.choice.now.capacities.now kept c.args.gone.now.items c.args.choice.now.undecided.now IsAny found c.branch-choice-then-first-job.new.gone.items)
    (λ found. IsExtended p c.args.choice.now.capacities.now kept c.args.gone.now.items c.args.choice.now.undecided.now (IsLexBefore c.args.last.now) found c.branch-choice-then-first-job.new.gone.items)
    (λ found. any-behind_less p c.args.choice.now.capacities.now kept (slice_index c.args.choice.now.left) c.args.gone.now.items c.args.choice.now.undecided.now c.args.last.now c.requires.choice.sums c.requires.over
    c.in-Some.first.now c.in-Some-split_first.job.now c.in-Some.rest.now c.in-Some-split_first.others.now c.in-Some.ensures.cases.0 c.in-Some-split_first.ensures.cases.0 c.requires.choice.rises (omega (arith, c.if-first-job.true)) found c.branch-choice-then-first-job.new.gone.items)
    c.branch-choice-then-first-job.ensures.found

pub branch_behind-extend_behind-requires : goal.branch_behind-extend_behind-requires
branch_behind-extend_behind-requires g t c κs lives = (
  omega (arith, c.decreases, among-fewer c.args.choice.now c.where_goes-less.result c.in-Some-split_first.others.now c.where_goes-less.ensures.among c.in-Some-split_first.ensures.cases.1),
  (
    lives,
    (
      c.where_goes-less.ensures.among.choice,
      (among-goes c.args.choice.now c.where_goes-less.result c.in-Some-split_first.others.now c.where_goes-less.ensures.among c.in-Some-split_first.job.now c.args.gone.now.items c.push.new.self.items c.requires.choice c.in-Some-split_first.ensures.cases.0 c.in_ok-push.ensures.items c.requires.gone, rows-among c.args.choice.now c.where_goes-less.result c.in-Some-split_first.job.now c.in-Some-split_first.others.now c.args.rows.now c.where_goes-less.ensures.among c.in-Some-split_first.ensures.cases.0 c.requires.rows),
    ),
  ),
)

pub branch_behind-returns-then-branch-clause-found : goal.branch_behind-returns-then-branch-clause-found
branch_behind-returns-then-branch-clause-found g t c =
    let path : c.args.last.now ≡ c.in-Some.first.now ∷ c.in-Some.rest.now = c.in-Some.ensures.cases.0 in
    extended-goes c.args.choice.now.net.now c.args.choice.now.capacities.now (slice_index c.args.choice.now.kept) (slice_index c.args.choice.now.left) c.args.gone.now.items c.args.choice.now.undecided.now (IsLexBefore c.args.last.now) c.requires.choice.sums
    c.in-Some-split_first.job.now c.in-Some-split_first.others.now c.in-Some-split_first.ensures.cases.0 c.requires.choice.rises c.requires.over c.push.new.self.items c.extend_behind.new.gone.items c.in_ok-extend_behind.field-0 c.in_ok-push.ensures.items c.if-branch.true
    (behind_same c.args.choice.now.net.now c.args.choice.now.capacities.now (slice_index c.args.choice.now.kept) c.push.new.self.items c.in-Some-split_first.others.now c.args.last.now c.in-Some.rest.now c.in-Some.first.now c.in-Some-split_first.job.now path c.if-first-job-2.true c.in_ok-extend_behind.field-0 c.extend_behind.new.gone.items (goes-extended c.args.choice.now c.where_goes-less.result c.in-Some-split_first.others.now c.where_goes-less.ensures c.push.new.self.items (IsLexBefore c.in-Some.rest.now) c.in_ok-extend_behind.field-0 c.extend_behind.new.gone.items c.in_ok-extend_behind.ensures.found))

pub branch_behind-returns-in_default-where_stays-clause-found : goal.branch_behind-returns-in_default-where_stays-clause-found
branch_behind-returns-in_default-where_stays-clause-found g t c =
    let first : c.args.choice.now.undecided.now ≡ c.in-Some-split_first.job.now ∷ c.in-Some-split_first.others.now = c.in-Some-split_first.ensures.cases.0 in
    let path : c.args.last.now ≡ c.in-Some.first.now ∷ c.in-Some.rest.now = c.in-Some.ensures.cases.0 in
    let joined : (c.if-first-job-2.gone.items ≡ c.args.gone.now.items) × HasNoExtension c.args.choice.now.net.now c.args.choice.now.capacities.now (slice_index c.args.choice.now.kept) (c.args.gone.now.items ++ c.in-Some-split_first.job.now ∷ []) c.in-Some-split_first.others.now (λ x. IsLexBefore c.args.last.now (c.in-Some-split_first.job.now ∷ x)) =
    elim c.if-first-job-2.branch [
      | branch_behind-then-first-job-2+in_ok-push+in_ok-extend_behind+else-branch w ↦
          let same = behind_same c.args.choice.now.net.now c.args.choice.now.capacities.now (slice_index c.args.choice.now.kept) w.push.new.self.items c.in-Some-split_first.others.now c.args.last.now c.in-Some.rest.now c.in-Some.first.now c.in-Some-split_first.job.now path w.if-first-job-2.true w.in_ok-extend_behind.field-0 w.extend_behind.new.gone.items (goes-extended c.args.choice.now w.where_goes-less.result c.in-Some-split_first.others.now w.where_goes-less.ensures w.push.new.self.items (IsLexBefore c.in-Some.rest.now) w.in_ok-extend_behind.field-0 w.extend_behind.new.gone.items w.in_ok-extend_behind.ensures.found) in (
            ap (λ v. v.items) w.gone-is ∙ as_before c.args.choice.now.net.now c.args.choice.now.capacities.now (slice_index c.args.choice.now.kept) (slice_index c.args.choice.now.left) c.args.gone.now.items c.args.choice.now.undecided.now (IsLexBefore c.args.last.now) c.requires.choice.sums c.in-Some-split_first.job.now c.in-Some-split_first.others.now first w.push.new.self.items w.extend_behind.new.gone.items w.pop.new.self.items w.in_ok-extend_behind.field-0 (vec_len w.extend_behind.new.gone) w.in_ok-push.ensures.items w.if-branch.false same (omega (arith, w.extend_behind.new.gone.ok.0)) w.pop.ensures.rest,
            none-goes c.args.choice.now.net.now c.args.choice.now.capacities.now (slice_index c.args.choice.now.kept) (slice_index c.args.choice.now.left) c.args.gone.now.items c.args.choice.now.undecided.now (IsLexBefore c.args.last.now) c.requires.choice.sums c.in-Some-split_first.job.now c.in-Some-split_first.others.now first w.push.new.self.items w.extend_behind.new.gone.items w.in_ok-extend_behind.field-0 w.in_ok-push.ensures.items w.if-branch.false same,
          )
      | branch_behind-else-first-job-2 w ↦ (
        ap (λ v. v.items) w.gone-is,
        behind_less_job c.args.choice.now.net.now c.args.choice.now.capacities.now (slice_index c.args.choice.now.kept) (c.args.gone.now.items ++ c.in-Some-split_first.job.now ∷ []) c.in-Some-split_first.others.now c.args.last.now c.in-Some.rest.now c.in-Some.first.now c.in-Some-split_first.job.now path (omega (arith, c.if-first-job.false, w.if-first-job-2.false)),
      )
    ] in (
      joined.0,
      extended-over c.args.choice.now.net.now c.args.choice.now.capacities.now (slice_index c.args.choice.now.kept) (slice_index c.args.choice.now.left) c.args.gone.now.items c.args.choice.now.undecided.now (IsLexBefore c.args.last.now) c.requires.choice.sums c.in-Some-split_first.job.now c.in-Some-split_first.others.now first (λ k. slice_index c.args.choice.now.kept k + request c.args.choice.now.net.now (place c.in-Some-split_first.job.now) k) (λ k l. refl) joined.1 c.in_default-where_stays.ensures,
    )

pub branch_behind-branch_behind-requires : goal.branch_behind-branch_behind-requires
branch_behind-branch_behind-requires g t c κs lives =
    let first : c.args.choice.now.undecided.now ≡ c.in-Some-split_first.job.now ∷ c.in-Some-split_first.others.now = c.in-Some-split_first.ensures.cases.0 in
    let path : c.args.last.now ≡ c.in-Some.first.now ∷ c.in-Some.rest.now = c.in-Some.ensures.cases.0 in
    let joined : (c.if-first-job-2.gone.items ≡ c.args.gone.now.items) × HasNoExtension c.args.choice.now.net.now c.args.choice.now.capacities.now (slice_index c.args.choice.now.kept) (c.args.gone.now.items ++ c.in-Some-split_first.job.now ∷ []) c.in-Some-split_first.others.now (λ x. IsLexBefore c.args.last.now (c.in-Some-split_first.job.now ∷ x)) =
    elim c.if-first-job-2.branch [
      | branch_behind-then-first-job-2+in_ok-push+in_ok-extend_behind+else-branch w ↦
          let same = behind_same c.args.choice.now.net.now c.args.choice.now.capacities.now (slice_index c.args.choice.now.kept) w.push.new.self.items c.in-Some-split_first.others.now c.args.last.now c.in-Some.rest.now c.in-Some.first.now c.in-Some-split_first.job.now path w.if-first-job-2.true w.in_ok-extend_behind.field-0 w.extend_behind.new.gone.items (goes-extended c.args.choice.now w.where_goes-less.result c.in-Some-split_first.others.now w.where_goes-less.ensures w.push.new.self.items (IsLexBefore c.in-Some.rest.now) w.in_ok-extend_behind.field-0 w.extend_behind.new.gone.items w.in_ok-extend_behind.ensures.found) in (
            ap (λ v. v.items) w.gone-is ∙ as_before c.args.choice.now.net.now c.args.choice.now.capacities.now (slice_index c.args.choice.now.kept) (slice_index c.args.choice.now.left) c.args.gone.now.items c.args.choice.now.undecided.now (IsLexBefore c.args.last.now) c.requires.choice.sums c.in-Some-split_first.job.now c.in-Some-split_first.others.now first w.push.new.self.items w.extend_behind.new.gone.items w.pop.new.self.items w.in_ok-extend_behind.field-0 (vec_len w.extend_behind.new.gone) w.in_ok-push.ensures.items w.if-branch.false same (omega (arith, w.extend_behind.new.gone.ok.0)) w.pop.ensures.rest,
            none-goes c.args.choice.now.net.now c.args.choice.now.capacities.now (slice_index c.args.choice.now.kept) (slice_index c.args.choice.now.left) c.args.gone.now.items c.args.choice.now.undecided.now (IsLexBefore c.args.last.now) c.requires.choice.sums c.in-Some-split_first.job.now c.in-Some-split_first.others.now first w.push.new.self.items w.extend_behind.new.gone.items w.in_ok-extend_behind.field-0 w.in_ok-push.ensures.items w.if-branch.false same,
          )
      | branch_behind-else-first-job-2 w ↦ (
        ap (λ v. v.items) w.gone-is,
        behind_less_job c.args.choice.now.net.now c.args.choice.now.capacities.now (slice_index c.args.choice.now.kept) (c.args.gone.now.items ++ c.in-Some-split_first.job.now ∷ []) c.in-Some-split_first.others.now c.args.last.now c.in-Some.rest.now c.in-Some.first.now c.in-Some-split_first.job.now path (omega (arith, c.if-first-job.false, w.if-first-job-2.false)),
      )
    ] in (
      omega (arith, c.decreases, among-fewer c.args.choice.now c.in-Some-where_stays.more c.in-Some-split_first.others.now c.in-Some-where_stays.ensures.among c.in-Some-split_first.ensures.cases.1),
      (
        lives,
        (
          c.in-Some-where_stays.ensures.among.choice,
          (
            among-same c.args.choice.now c.in-Some-where_stays.more c.in-Some-split_first.others.now c.in-Some-where_stays.ensures.among c.args.gone.now.items c.if-first-job-2.gone.items joined.0 c.requires.gone,
            (rows-among c.args.choice.now c.in-Some-where_stays.more c.in-Some-split_first.job.now c.in-Some-split_first.others.now c.args.rows.now c.in-Some-where_stays.ensures.among c.in-Some-split_first.ensures.cases.0 c.requires.rows, stays-over c.args.choice.now c.in-Some-where_stays.more c.in-Some-split_first.job.now c.in-Some-split_first.others.now c.in-Some-where_stays.ensures c.requires.over),
          ),
        ),
      ),
    )

pub branch_behind-returns-clause-found : goal.branch_behind-returns-clause-found
branch_behind-returns-clause-found g t c =
    let first : c.args.choice.now.undecided.now ≡ c.in-Some-split_first.job.now ∷ c.in-Some-split_first.others.now = c.in-Some-split_first.ensures.cases.0 in
    let path : c.args.last.now ≡ c.in-Some.first.now ∷ c.in-Some.rest.now = c.in-Some.ensures.cases.0 in
    let joined : (c.if-first-job-2.gone.items ≡ c.args.gone.now.items) × HasNoExtension c.args.choice.now.net.now c.args.choice.now.capacities.now (slice_index c.args.choice.now.kept) (c.args.gone.now.items ++ c.in-Some-split_first.job.now ∷ []) c.in-Some-split_first.others.now (λ x. IsLexBefore c.args.last.now (c.in-Some-split_first.job.now ∷ x)) =
    elim c.if-first-job-2.branch [
      | branch_behind-then-first-job-2+in_ok-push+in_ok-extend_behind+else-branch w ↦
          let same = behind_same c.args.choice.now.net.now c.args.choice.now.capacities.now (slice_index c.args.choice.now.kept) w.push.new.self.items c.in-Some-split_first.others.now c.args.last.now c.in-Some.rest.now c.in-Some.first.now c.in-Some-split_first.job.now path w.if-first-job-2.true w.in_ok-extend_behind.field-0 w.extend_behind.new.gone.items (goes-extended c.args.choice.now w.where_goes-less.result c.in-Some-split_first.others.now w.where_goes-less.ensures w.push.new.self.items (IsLexBefore c.in-Some.rest.now) w.in_ok-extend_behind.field-0 w.extend_behind.new.gone.items w.in_ok-extend_behind.ensures.found) in (
            ap (λ v. v.items) w.gone-is ∙ as_before c.args.choice.now.net.now c.args.choice.now.capacities.now (slice_index c.args.choice.now.kept) (slice_index c.args.choice.now.left) c.args.gone.now.items c.args.choice.now.undecided.now (IsLexBefore c.args.last.now) c.requires.choice.sums c.in-Some-split_first.job.now c.in-Some-split_first.others.now first w.push.new.self.items w.extend_behind.new.gone.items w.pop.new.self.items w.in_ok-extend_behind.field-0 (vec_len w.extend_behind.new.gone) w.in_ok-push.ensures.items w.if-branch.false same (omega (arith, w.extend_behind.new.gone.ok.0)) w.pop.ensures.rest,
            none-goes c.args.choice.now.net.now c.args.choice.now.capacities.now (slice_index c.args.choice.now.kept) (slice_index c.args.choice.now.left) c.args.gone.now.items c.args.choice.now.undecided.now (IsLexBefore c.args.last.now) c.requires.choice.sums c.in-Some-split_first.job.now c.in-Some-split_first.others.now first w.push.new.self.items w.extend_behind.new.gone.items w.in_ok-extend_behind.field-0 w.in_ok-push.ensures.items w.if-branch.false same,
          )
      | branch_behind-else-first-job-2 w ↦ (
        ap (λ v. v.items) w.gone-is,
        behind_less_job c.args.choice.now.net.now c.args.choice.now.capacities.now (slice_index c.args.choice.now.kept) (c.args.gone.now.items ++ c.in-Some-split_first.job.now ∷ []) c.in-Some-split_first.others.now c.args.last.now c.in-Some.rest.now c.in-Some.first.now c.in-Some-split_first.job.now path (omega (arith, c.if-first-job.false, w.if-first-job-2.false)),
      )
    ] in
    let p = c.args.choice.now.net.now in
    IfOk-weaker c.branch_behind.result
    (λ found. IsExtended c.in-Some-where_stays.more.net.now c.in-Some-where_stays.more.capacities.now (slice_index c.in-Some-where_stays.more.kept) c.if-first-job-2.gone.items c.in-Some-where_stays.more.undecided.now (IsLexBefore c.args.last.now) found c.branch_behind.new.gone.items)
    (λ found. IsExtended p c.args.choice.now.capacities.now (slice_index c.args.choice.now.kept) c.args.gone.now.items c.args.choice.now.undecided.now (IsLexBefore c.args.last.now) found c.branch_behind.new.gone.items)
    (λ found h. extended-stays c.args.choice.now.net.now c.args.choice.now.capacities.now (slice_index c.args.choice.now.kept) (slice_index c.args.choice.now.left) c.args.gone.now.items c.args.choice.now.undecided.now (IsLexBefore c.args.last.now) c.requires.choice.sums c.in-Some-split_first.job.now c.in-Some-split_first.others.now first (slice_index c.in-Some-where_stays.more.kept) c.in-Some-where_stays.ensures.kept joined.1 c.if-first-job-2.gone.items c.branch_behind.new.gone.items found joined.0 (stays-extended c.args.choice.now c.in-Some-where_stays.more c.in-Some-split_first.job.now c.in-Some-split_first.others.now c.in-Some-where_stays.ensures c.if-first-job-2.gone.items (IsLexBefore c.args.last.now) found c.branch_behind.new.gone.items h))
    c.branch_behind.ensures.found

pub extend_behind-returns-then-some_have_room-clause-found : goal.extend_behind-returns-then-some_have_room-clause-found
extend_behind-returns-then-some_have_room-clause-found g t c = (
  refl,
  elim c.then-some_have_room.branch [
    | extend_behind-then-some_have_room-via-then-some_have_room w ↦
        none-reached c.args.choice.now c.args.gone.now.items c.reach-most.result c.reach-most.ensures (IsLexBefore c.args.last.now) (same-loose c.args.choice.now.net.now c.args.choice.now.capacities.now (slice_index c.reach-most.result) c.deref.result.now c.args.gone.now.items c.deref.ensures.value (c.some_have_room.ensures.0 w.if-some_have_room.true))
    | extend_behind-then-some_have_room-via-else-some_have_room+then-are_within w ↦
        extended-past c.args.choice.now.net.now c.args.choice.now.capacities.now (slice_index c.args.choice.now.kept) (slice_index c.args.choice.now.left) c.args.gone.now.items c.args.choice.now.undecided.now (IsLexBefore c.args.last.now) c.requires.choice.sums (w.are_within.ensures.0 w.if-are_within.true) (not_behind c.args.last.now)
  ],
)

pub extend_behind-branch_behind-requires : goal.extend_behind-branch_behind-requires
extend_behind-branch_behind-requires g t c κs lives = (
  omega (arith, c.decreases),
  (lives, (c.requires.choice, (c.requires.gone, (c.requires.rows, λ runs. cc (c.are_within.ensures.1 runs, c.if-are_within.false))))),
)

pub extend_behind-some_have_room-requires-clause-capacities : goal.extend_behind-some_have_room-requires-clause-capacities
extend_behind-some_have_room-requires-clause-capacities g t c = c.requires.choice.units

pub extend_behind-some_have_room-requires-clause-jobs : goal.extend_behind-some_have_room-requires-clause-jobs
extend_behind-some_have_room-requires-clause-jobs g t c =
    all-same (IsNumber (length c.args.choice.now.net.now.jobs)) c.args.gone.now.items c.deref.result.now c.deref.ensures.value c.requires.gone

pub extend_behind-some_have_room-requires-clause-small : goal.extend_behind-some_have_room-requires-clause-small
extend_behind-some_have_room-requires-clause-small g t c k l = omega (arith, (c.reach-most.ensures k l).left, c.requires.choice.small k l)

pub extend_behind-are_within-requires : goal.extend_behind-are_within-requires
extend_behind-are_within-requires g t c = record { capacities = c.requires.choice.units }

pub branch_behind-where_goes-less-requires-clause-choice : goal.branch_behind-where_goes-less-requires-clause-choice
branch_behind-where_goes-less-requires-clause-choice g t c = c.requires.choice

pub branch_behind-where_goes-less-requires-clause-first : goal.branch_behind-where_goes-less-requires-clause-first
branch_behind-where_goes-less-requires-clause-first g t c = c.in-Some-split_first.ensures.cases.0

pub branch_behind-where_stays-requires-clause-choice : goal.branch_behind-where_stays-requires-clause-choice
branch_behind-where_stays-requires-clause-choice g t c = c.requires.choice

pub branch_behind-where_stays-requires-clause-first : goal.branch_behind-where_stays-requires-clause-first
branch_behind-where_stays-requires-clause-first g t c = c.in-Some-split_first.ensures.cases.0
