-- The greatest time that ends by a day, and the least that starts from one on.
use Rattle.std.proofs.Common.{◌≡◌, refl, ap, sym, ◌∙◌, ℕ, zero, suc, ◌+◌, ◌-◌, ◌*◌, ◌/◌, ◌<◌, ◌≤◌, Bool, true, false, arith, subst, nat_lt}
use Rattle.std.proofs.lemmas.Bool.{ltb-false, ltb-true, lt-ltb}
use Rattle.std.proofs.Math.Nat.{mul-le-mul_left}
use Rattle.racp_calendar.specs.Dates.{work_of}
use Rattle.racp_calendar.specs.Times.{IsBy, IsFrom}
use Rattle.racp_calendar.specs.Units.{unit_days}
use Rattle.racp_calendar.specs.Work.{block_at, count_below, end_day, first_from, first_in, has_work, is_worked, last_before, last_in, start_day}
use Rattle.racp_calendar.specs.declared.workdays.Workdays.{Workdays}
use Rattle.racp_calendar.proofs.Places.{count_at, count_past, count_rises, count_zero}
use Rattle.racp_calendar.proofs.Blocks.{count_same, first_here, first_next, first_none, last_here, last_next, last_none}
use Rattle.racp_calendar.proofs.Rising.{blocks_are_counted, finds, first_le, found, last_of_block, rises_in}

-- where searches end at all
first_low : (test : ℕ → Bool) (more from : ℕ) → from ≤ first_from test more from
first_low test zero from = let none = first_none test from in omega (arith, none)
first_low test (suc more) from = by (test from) refl (first_low test more (from + 1))
  where
    by : (b : Bool) → test from ≡ b → from + 1 ≤ first_from test more (from + 1) → from ≤ first_from test (suc more) from
    by true e rest = let here = first_here test more from e in omega (arith, here)
    by false e rest = let next = first_next test more from e in omega (arith, next, rest)

last_low : (test : ℕ → Bool) (more end : ℕ) → end ≤ last_before test more end + more
last_low test zero end = let none = last_none test end in omega (arith, none)
last_low test (suc more) end = by (test (end - 1)) refl (last_low test more (end - 1))
  where
    by : (b : Bool) → test (end - 1) ≡ b → end - 1 ≤ last_before test more (end - 1) + more → end ≤ last_before test (suc more) end + suc more
    by true e rest = let here = last_here test more end e in omega (arith, here)
    by false e rest = let next = last_next test more end e in omega (arith, next, rest)

-- the block of a time is before one that has more blocks that count before it, and else it is not
pub block_before : (works : ℕ → Bool) (span most time block : ℕ) → time < count_below (has_work works span) block → block_at works span most time < block
unfolding block_at
block_before works span most time zero few = let none = count_zero (has_work works span) in absurd (omega (arith, few, none))
block_before works span most time (suc block) few =
    let same : suc block ≡ block + 1 = omega arith in
    let counts = ap (λ (n : ℕ). count_below (has_work works span) n) same in
    let on = lt-ltb time (count_below (has_work works span) (block + 1)) (omega (arith, few, counts)) in
    let there = first_le (λ n. nat_lt time (count_below (has_work works span) (n + 1))) most 0 block (omega arith) on in
    omega (arith, there)

pub block_after : (works : ℕ → Bool) (span most time block : ℕ) → block ≤ most → count_below (has_work works span) block ≤ time → block ≤ block_at works span most time
unfolding block_at
block_after works span most time block room many = by (nat_lt (first_from (λ n. nat_lt time (count_below (has_work works span) (n + 1))) most 0) block) refl
  where
    by : (b : Bool) → nat_lt (first_from (λ n. nat_lt time (count_below (has_work works span) (n + 1))) most 0) block ≡ b →
        block ≤ first_from (λ n. nat_lt time (count_below (has_work works span) (n + 1))) most 0
    by false e = ltb-false _ _ e
    by true e =
        let less = ltb-true (first_from (λ n. nat_lt time (count_below (has_work works span) (n + 1))) most 0) block e in
        let there = found (λ n. nat_lt time (count_below (has_work works span) (n + 1))) most 0 (omega (arith, less, room)) in
        let after = ltb-true time (count_below (has_work works span) (first_from (λ n. nat_lt time (count_below (has_work works span) (n + 1))) most 0 + 1)) there.passes in
        let few = count_rises (has_work works span) (first_from (λ n. nat_lt time (count_below (has_work works span) (n + 1))) most 0 + 1) block (omega (arith, less)) in
        absurd (omega (arith, after, few, many))

block_is : (works : ℕ → Bool) (span most time block : ℕ) → block < most → has_work works span block ≡ true →
    count_below (has_work works span) block ≡ time → block_at works span most time ≡ block
block_is works span most time block room on same =
    let next = count_at (has_work works span) block on in
    let low = block_after works span most time block (omega (arith, room)) (omega (arith, same)) in
    let high = block_before works span most time (block + 1) (omega (arith, next, same)) in
    omega (arith, low, high)

-- what starts before a block with as many blocks that count before it starts before its days, and all else does not
start_before : (works : ℕ → Bool) (span most day time block : ℕ) → block ≤ most → block * span ≤ day → time < count_below (has_work works span) block →
    start_day works span most time < day
start_before works span most day time block room low few =
    let before = block_before works span most time block few in
    let place = blocks_are_counted works span most time (omega (arith, before, room)) in
    let within = finds works span (block_at works span most time * span) (rises_in works span (block_at works span most time) place.0) in
    let behind = mul-le-mul_left span before in
    omega (arith, within, behind, low)

start_past : (works : ℕ → Bool) (span most day time block : ℕ) → block ≤ most → day < block * span → count_below (has_work works span) block ≤ time →
    day ≤ start_day works span most time
start_past works span most day time block room high many =
    let after = block_after works span most time block room many in
    let begin = first_low works span (block_at works span most time * span) in
    let behind = mul-le-mul_left span after in
    omega (arith, begin, behind, high)

end_before : (works : ℕ → Bool) (span most day time block : ℕ) → block ≤ most → block * span ≤ day → time < count_below (has_work works span) block →
    last_in works span (block_at works span most time) < day
end_before works span most day time block room low few =
    let before = block_before works span most time block few in
    let place = blocks_are_counted works span most time (omega (arith, before, room)) in
    let last = last_of_block works span (block_at works span most time) place.0 in
    let behind = mul-le-mul_left span before in
    omega (arith, last.high, behind, low)

end_past : (works : ℕ → Bool) (span most day time block : ℕ) → block ≤ most → day < block * span → count_below (has_work works span) block ≤ time →
    day < last_in works span (block_at works span most time)
end_past works span most day time block room high many =
    let after = block_after works span most time block room many in
    let end = last_low works span ((block_at works span most time + 1) * span) in
    let behind = mul-le-mul_left span after in
    omega (arith, end, behind, high)

-- a day in a block
pub record IsInBlock (span most day block : ℕ) : Type 0 where
  pub begun : block * span ≤ day
  pub within : day < (block + 1) * span
  pub room : block < most

pub from_idle : (works : ℕ → Bool) (span most day block : ℕ) → IsInBlock span most day block → has_work works span block ≡ false →
    IsFrom works span most day (count_below (has_work works span) block)
from_idle works span most day block h off =
    let same = count_past (has_work works span) block off in
    record {
      keeps = start_past works span most day (count_below (has_work works span) block) (block + 1) (omega (arith, h.room)) h.within (omega (arith, same));
      least = λ sooner few. start_before works span most day sooner block (omega (arith, h.room)) h.begun few;
    }

pub from_here : (works : ℕ → Bool) (span most day block : ℕ) → IsInBlock span most day block → has_work works span block ≡ true → day ≤ first_in works span block →
    IsFrom works span most day (count_below (has_work works span) block)
from_here works span most day block h on le =
    let same = block_is works span most (count_below (has_work works span) block) block h.room on refl in
    record {
      keeps = subst (λ (n : ℕ). day ≤ first_in works span n) (sym same) le;
      least = λ sooner few. start_before works span most day sooner block (omega (arith, h.room)) h.begun few;
    }

pub from_next : (works : ℕ → Bool) (span most day block : ℕ) → IsInBlock span most day block → has_work works span block ≡ true → first_in works span block < day →
    IsFrom works span most day (count_below (has_work works span) block + 1)
from_next works span most day block h on less =
    let next = count_at (has_work works span) block on in
    record {
      keeps = start_past works span most day (count_below (has_work works span) block + 1) (block + 1) (omega (arith, h.room)) h.within (omega (arith, next));
      least = λ sooner few. sooner_starts sooner (omega (arith, few)) (nat_lt sooner (count_below (has_work works span) block)) refl;
    }
  where
    sooner_starts : (sooner : ℕ) → sooner ≤ count_below (has_work works span) block → (b : Bool) → nat_lt sooner (count_below (has_work works span) block) ≡ b →
        start_day works span most sooner < day
    sooner_starts sooner le true e = start_before works span most day sooner block (omega (arith, h.room)) h.begun (ltb-true _ _ e)
    sooner_starts sooner le false e =
        let same : count_below (has_work works span) block ≡ sooner = omega (arith, le, ltb-false _ _ e) in
        subst (λ (n : ℕ). first_in works span n < day) (sym (block_is works span most sooner block h.room on same)) less

-- what ends at a later time than 0
later_ends : (works : ℕ → Bool) (span most day time : ℕ) → ((unit : ℕ) → time ≤ unit → day < last_in works span (block_at works span most unit)) →
    (later : ℕ) → time < later → day < end_day works span most later
later_ends works span most day time h zero less = absurd (omega (arith, less))
later_ends works span most day time h (suc unit) less = h unit (omega (arith, less))

by_before : (works : ℕ → Bool) (span most day block : ℕ) → IsInBlock span most day block → end_day works span most 0 ≤ day → (time : ℕ) →
    time ≤ count_below (has_work works span) block → end_day works span most time ≤ day
by_before works span most day block h none zero le = none
by_before works span most day block h none (suc unit) le =
    let before = end_before works span most day unit block (omega (arith, h.room)) h.begun (omega (arith, le)) in
    omega (arith, before)

pub by_idle : (works : ℕ → Bool) (span most day block : ℕ) → IsInBlock span most day block → end_day works span most 0 ≤ day → has_work works span block ≡ false →
    IsBy works span most day (count_below (has_work works span) block)
by_idle works span most day block h none off =
    let same = count_past (has_work works span) block off in
    record {
      keeps = by_before works span most day block h none (count_below (has_work works span) block) (omega arith);
      greatest = later_ends works span most day (count_below (has_work works span) block)
          (λ unit many. end_past works span most day unit (block + 1) (omega (arith, h.room)) h.within (omega (arith, same, many)));
    }

pub by_here : (works : ℕ → Bool) (span most day block : ℕ) → IsInBlock span most day block → end_day works span most 0 ≤ day → has_work works span block ≡ true →
    day < last_in works span block → IsBy works span most day (count_below (has_work works span) block)
by_here works span most day block h none on less =
    record {
      keeps = by_before works span most day block h none (count_below (has_work works span) block) (omega arith);
      greatest = later_ends works span most day (count_below (has_work works span) block)
          (λ unit many. unit_ends unit many (nat_lt (count_below (has_work works span) block) unit) refl);
    }
  where
    unit_ends : (unit : ℕ) → count_below (has_work works span) block ≤ unit → (b : Bool) → nat_lt (count_below (has_work works span) block) unit ≡ b →
        day < last_in works span (block_at works span most unit)
    unit_ends unit many true e =
        let next = count_at (has_work works span) block on in
        end_past works span most day unit (block + 1) (omega (arith, h.room)) h.within (omega (arith, next, ltb-true (count_below (has_work works span) block) unit e))
    unit_ends unit many false e =
        let same : count_below (has_work works span) block ≡ unit = omega (arith, many, ltb-false (count_below (has_work works span) block) unit e) in
        subst (λ (n : ℕ). day < last_in works span n) (sym (block_is works span most unit block h.room on same)) less

pub by_next : (works : ℕ → Bool) (span most day block : ℕ) → IsInBlock span most day block → has_work works span block ≡ true → last_in works span block ≤ day →
    IsBy works span most day (count_below (has_work works span) block + 1)
by_next works span most day block h on le =
    let next = count_at (has_work works span) block on in
    let same = block_is works span most (count_below (has_work works span) block) block h.room on refl in
    let more : suc (count_below (has_work works span) block) ≡ count_below (has_work works span) block + 1 = omega arith in
    record {
      keeps = subst (λ (n : ℕ). end_day works span most n ≤ day) more (subst (λ (n : ℕ). last_in works span n ≤ day) (sym same) le);
      greatest = later_ends works span most day (count_below (has_work works span) block + 1)
          (λ unit many. end_past works span most day unit (block + 1) (omega (arith, h.room)) h.within (omega (arith, next, many)));
    }

-- the block of a day
pub block_of_day : (span most day each : ℕ) → each ≡ span → 1 ≤ each → day < most → IsInBlock span most day (day / each)
block_of_day span most day each same some room = subst (λ (n : ℕ). IsInBlock n most day (day / each)) same by
  where
    low : day / each ≤ day / each * each
    low = let more = mul-le-mul_left (day / each) some in omega (arith, more)

    by : IsInBlock each most day (day / each)
    by = record { begun = omega (arith, some); within = omega (arith, some); room = omega (arith, some, low, room) }

-- the blocks of a calendar that count
abbrev pub counting : Workdays → ℕ → Bool
counting calendar = has_work (work_of calendar) (unit_days calendar.unit)

pub counted_so : (calendar : Workdays) (block time : ℕ) → time ≡ count_below (is_worked calendar.blocks.week calendar.blocks.free.items) block →
    time ≡ count_below (counting calendar) block
counted_so calendar block time h = h ∙ count_same (is_worked calendar.blocks.week calendar.blocks.free.items) (counting calendar) calendar.blocks_work block

pub works_so : (calendar : Workdays) (block : ℕ) (works told : Bool) → works ≡ is_worked calendar.blocks.week calendar.blocks.free.items block → works ≡ told →
    counting calendar block ≡ told
works_so calendar block works told h on = sym (calendar.blocks_work block) ∙ sym h ∙ on
