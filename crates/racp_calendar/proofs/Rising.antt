-- Laws of working days.
use Rattle.std.proofs.Common.{◌≡◌, refl, ap, sym, ◌∙◌, ℕ, zero, suc, ◌+◌, ◌-◌, ◌*◌, ◌<◌, ◌≤◌, Bool, true, false, arith, subst, nat_lt}
use Rattle.std.proofs.lemmas.Bool.{ltb-false, ltb-true, lt-ltb}
use Rattle.racp_calendar.specs.Work.{IsPlace, block_at, count_below, end_day, first_from, has_work, last_before, last_in, start_day}
use Rattle.racp_calendar.specs.Laws.{BlocksAreCounted, DaysRise, EndsOnWorkdays, StartsOnWorkdays, WorkIsCounted}
use Rattle.racp_calendar.proofs.Places.{count_at, count_past, count_zero, fewer_less}
use Rattle.std.proofs.Math.Nat.{mul-le-mul_left}
use Rattle.racp_calendar.proofs.Weeks.{day_worked}
use Rattle.racp_calendar.proofs.Blocks.{count_same, first_here, first_next, first_none, last_here, last_next}

-- what a search found that did not go to its end
pub record Found (test : ℕ → Bool) (more from : ℕ) : Type 0 where
  pub passes : test (first_from test more from) ≡ true
  pub none_sooner : (n : ℕ) → from ≤ n → n < first_from test more from → test n ≡ false
  pub later : from ≤ first_from test more from

pub found : (test : ℕ → Bool) (more from : ℕ) → first_from test more from < from + more → Found test more from
found test zero from within = let none = first_none test from in absurd (omega (arith, within, none))
found test (suc more) from within = by (test from) refl (found test more (from + 1))
  where
    by : (b : Bool) → test from ≡ b → (first_from test more (from + 1) < from + 1 + more → Found test more (from + 1)) → Found test (suc more) from
    by true e rest =
        let here = first_here test more from e in
        record {
          passes = subst (λ (n : ℕ). test n ≡ true) (sym here) e;
          none_sooner = λ n le less. absurd (omega (arith, le, less, here));
          later = omega (arith, here);
        }
    by false e rest =
        let next = first_next test more from e in
        let there = rest (omega (arith, within, next)) in
        record {
          passes = subst (λ (n : ℕ). test n ≡ true) (sym next) there.passes;
          none_sooner = λ n le less. sooner n le (omega (arith, less, next)) there;
          later = omega (arith, next, there.later);
        }
      where
        sooner : (n : ℕ) → from ≤ n → n < first_from test more (from + 1) → Found test more (from + 1) → test n ≡ false
        sooner n le less there = at (nat_lt from n) refl
          where
            at : (b : Bool) → nat_lt from n ≡ b → test n ≡ false
            at true l = there.none_sooner n (omega (arith, ltb-true _ _ l)) less
            at false l = let same : from ≡ n = omega (arith, ltb-false _ _ l, le) in subst (λ (m : ℕ). test m ≡ false) same e

-- a search finds something where the count of what passes rises
pub finds : (test : ℕ → Bool) (more from : ℕ) → count_below test from < count_below test (from + more) → first_from test more from < from + more
finds test zero from rises = let same = ap (λ (n : ℕ). count_below test n) (flat from) in absurd (omega (arith, rises, same))
  where
    flat : (n : ℕ) → n + 0 ≡ n
    flat n = omega arith
finds test (suc more) from rises = by (test from) refl (finds test more (from + 1))
  where
    by : (b : Bool) → test from ≡ b → (count_below test (from + 1) < count_below test (from + 1 + more) → first_from test more (from + 1) < from + 1 + more) → first_from test (suc more) from < from + suc more
    by true e rest = let here = first_here test more from e in omega (arith, here)
    by false e rest =
        let next = first_next test more from e in
        let same = count_past test from e in
        let ends = ap (λ (n : ℕ). count_below test n) (shift from more) in
        let there = rest (omega (arith, rises, same, ends)) in
        omega (arith, next, there)
      where
        shift : (a b : ℕ) → a + suc b ≡ a + 1 + b
        shift a b = omega arith

pub blocks_are_counted : BlocksAreCounted
unfolding block_at
blocks_are_counted works span most time within =
    let there = found (λ n. nat_lt time (count_below (has_work works span) (n + 1))) most 0 (omega (arith, within)) in
    let block = first_from (λ n. nat_lt time (count_below (has_work works span) (n + 1))) most 0 in
    let after = ltb-true time (count_below (has_work works span) (block + 1)) there.passes in
    let before = few (has_work works span) time block (λ n less. ltb-false time (count_below (has_work works span) (n + 1)) (there.none_sooner n (omega arith) less)) in
    placed (has_work works span) time block after before
  where
    few : (test : ℕ → Bool) (time block : ℕ) → ((n : ℕ) → n < block → count_below test (n + 1) ≤ time) → count_below test block ≤ time
    few test time zero h = let none = count_zero test in omega (arith, none)
    few test time (suc block) h = let same : block + 1 ≡ suc block = omega arith in subst (λ (n : ℕ). count_below test n ≤ time) same (h block (omega arith))

    placed : (test : ℕ → Bool) (time block : ℕ) → time < count_below test (block + 1) → count_below test block ≤ time → IsPlace test time block
    placed test time block after before = by (test block) refl
      where
        by : (b : Bool) → test block ≡ b → IsPlace test time block
        by true e = (e, omega (arith, count_at test block e, after, before))
        by false e = absurd (omega (arith, count_past test block e, after, before))

-- what a search from the end found
pub record Last (test : ℕ → Bool) (more end : ℕ) : Type 0 where
  pub passes : test (last_before test more end) ≡ true
  pub low : end ≤ last_before test more end + more
  pub high : last_before test more end < end

pub lasts : (test : ℕ → Bool) (more end : ℕ) → more ≤ end → count_below test (end - more) < count_below test end → Last test more end
lasts test zero end le rises = let same = ap (λ (n : ℕ). count_below test n) (whole end) in absurd (omega (arith, rises, same))
  where
    whole : (n : ℕ) → n - 0 ≡ n
    whole n = omega arith
lasts test (suc more) end le rises = by (test (end - 1)) refl (lasts test more (end - 1))
  where
    back : end - 1 + 1 ≡ end
    back = omega (arith, le)

    begin : end - suc more ≡ end - 1 - more
    begin = omega arith

    by : (b : Bool) → test (end - 1) ≡ b → (more ≤ end - 1 → count_below test (end - 1 - more) < count_below test (end - 1) → Last test more (end - 1)) → Last test (suc more) end
    by true e rest =
        let here = last_here test more end e in
        record {
          passes = subst (λ (n : ℕ). test n ≡ true) (sym here) e;
          low = omega (arith, here, le);
          high = omega (arith, here, le);
        }
    by false e rest =
        let next = last_next test more end e in
        let same = subst (λ (n : ℕ). count_below test n ≡ count_below test (end - 1)) back (count_past test (end - 1) e) in
        let from = ap (λ (n : ℕ). count_below test n) begin in
        let there = rest (omega (arith, le)) (omega (arith, rises, same, from)) in
        record {
          passes = subst (λ (n : ℕ). test n ≡ true) (sym next) there.passes;
          low = omega (arith, next, there.low, le);
          high = omega (arith, next, there.high);
        }

-- the first is no later than another that passes
pub first_le : (test : ℕ → Bool) (more from n : ℕ) → from ≤ n → test n ≡ true → first_from test more from ≤ n
first_le test zero from n le on = let none = first_none test from in omega (arith, none, le)
first_le test (suc more) from n le on = by (test from) refl (first_le test more (from + 1) n)
  where
    by : (b : Bool) → test from ≡ b → (from + 1 ≤ n → test n ≡ true → first_from test more (from + 1) ≤ n) → first_from test (suc more) from ≤ n
    by true e rest = let here = first_here test more from e in omega (arith, here, le)
    by false e rest =
        let next = first_next test more from e in
        let there = rest (past (nat_lt from n) refl) on in
        omega (arith, next, there)
      where
        past : (b : Bool) → nat_lt from n ≡ b → from + 1 ≤ n
        past true l = omega (arith, ltb-true _ _ l)
        past false l = let same : from ≡ n = omega (arith, ltb-false _ _ l, le) in let off = subst (λ (m : ℕ). test m ≡ false) same e in absurd (cc (off, on))

-- a block with work begins and ends with less work before its beginning than before its end
pub rises_in : (works : ℕ → Bool) (span block : ℕ) → has_work works span block ≡ true → count_below works (block * span) < count_below works (block * span + span)
rises_in works span block on =
    let same : (block + 1) * span ≡ block * span + span = omega arith in
    subst (λ (n : ℕ). count_below works (block * span) < count_below works n) same (ltb-true (count_below works (block * span)) (count_below works ((block + 1) * span)) on)

pub first_of_block : (works : ℕ → Bool) (span block : ℕ) → has_work works span block ≡ true → Found works span (block * span)
first_of_block works span block on = found works span (block * span) (finds works span (block * span) (rises_in works span block on))

pub last_of_block : (works : ℕ → Bool) (span block : ℕ) → has_work works span block ≡ true → Last works span ((block + 1) * span)
last_of_block works span block on =
    let same : block * span + span ≡ (block + 1) * span = omega arith in
    let begin : block * span ≡ (block + 1) * span - span = omega arith in
    lasts works span ((block + 1) * span) (omega arith)
    (subst (λ (n : ℕ). count_below works n < count_below works ((block + 1) * span)) begin (subst (λ (n : ℕ). count_below works (block * span) < count_below works n) same (rises_in works span block on)))

pub starts_on_workdays : StartsOnWorkdays
starts_on_workdays works span most time within = (first_of_block works span (block_at works span most time) (blocks_are_counted works span most time within).0).passes

ends_at : (works : ℕ → Bool) (span most time : ℕ) → end_day works span most (time + 1) ≡ last_in works span (block_at works span most time)
ends_at works span most time = let same : suc time ≡ time + 1 = omega arith in subst (λ (n : ℕ). end_day works span most n ≡ last_in works span (block_at works span most time)) same refl

pub ends_on_workdays : EndsOnWorkdays
ends_on_workdays works span most time within =
    subst (λ (n : ℕ). works n ≡ true) (sym (ends_at works span most time)) (last_of_block works span (block_at works span most time) (blocks_are_counted works span most time within).0).passes

-- the block of a sooner time is no later
sooner_block : (works : ℕ → Bool) (span most time later : ℕ) → time ≤ later → block_at works span most later < most → block_at works span most time ≤ block_at works span most later
unfolding block_at
sooner_block works span most time later le within =
    let block = first_from (λ n. nat_lt later (count_below (has_work works span) (n + 1))) most 0 in
    let there = found (λ n. nat_lt later (count_below (has_work works span) (n + 1))) most 0 (omega (arith, within)) in
    let after = ltb-true later (count_below (has_work works span) (block + 1)) there.passes in
    first_le (λ n. nat_lt time (count_below (has_work works span) (n + 1))) most 0 block (omega arith) (lt-ltb time (count_below (has_work works span) (block + 1)) (omega (arith, after, le)))

pub days_rise : DaysRise
days_rise works span most time later less within =
    let block = block_at works span most time in
    let next = block_at works span most later in
    let sooner = sooner_block works span most time later (omega (arith, less)) within in
    let here = blocks_are_counted works span most time (omega (arith, sooner, within)) in
    let there = blocks_are_counted works span most later within in
    let before : block < next = fewer_less (has_work works span) block next (omega (arith, here.1, there.1, less)) in
    let first = first_of_block works span block here.0 in
    let last = last_of_block works span block here.0 in
    let begin = first_of_block works span next there.0 in
    let ends = ends_at works span most time in
    let low : block * span ≤ last_in works span block = omega (arith, last.low) in
    let within_block = first_le works span (block * span) (last_in works span block) low last.passes in
    let room = mul-le-mul_left span before in
    (omega (arith, within_block, ends), omega (arith, ends, last.high, begin.later, room))

-- with days as units, the first day of a time has as many before it as the time says
counted_to : (works : ℕ → Bool) (most time : ℕ) → block_at works 1 most time < most → count_below works (start_day works 1 most time) ≡ time
counted_to works most time within =
    let place = blocks_are_counted works 1 most time within in
    let block = block_at works 1 most time in
    let on = day_worked works block ∙ place.0 in
    let flat : block ≡ block * 1 = omega arith in
    let there = subst (λ (n : ℕ). works n ≡ true) flat on in
    let here = first_here works 0 (block * 1) there in
    let counts = count_same works (has_work works 1) (day_worked works) block in
    let at_flat = ap (λ (n : ℕ). count_below works n) (sym flat) in
    ap (λ (n : ℕ). count_below works n) here ∙ at_flat ∙ counts ∙ place.1

pub work_is_counted : WorkIsCounted
work_is_counted works most time later le within =
    let sooner = sooner_block works 1 most time later le within in
    let now = counted_to works most time (omega (arith, sooner, within)) in
    let after = counted_to works most later within in
    omega (arith, now, after, le)
