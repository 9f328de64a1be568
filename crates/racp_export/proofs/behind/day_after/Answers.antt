use Rattle.std.proofs.Common.{◌≡◌, ◌↔◌, ◌<ℤ◌, ◌+ℤ◌, ℤ, pos, Option, IsOk, IfOk, arith, subst, sym}
use Rattle.jiff_core.specs.declared.civil.date.Date.{Date}
use Rattle.jiff_core.specs.Date.{epoch_day}
use Rattle.jiff_core.proofs.SignedLemmas.{signed_arith}
use Rattle.jiff_core.proofs.DateLemmas.{epoch_day_range}
use Rattle.racp_calendar.specs.Dates.{IsDateAfter}
use Rattle.racp_export.proofs.NextDay.{counted}
use Rattle.racp_export.proofs.behind.day_after.Goals as goal

pub returns : goal.returns
returns c =
    let succeeds = subst (λ (start : Date). IsOk c.tomorrow.result ↔ (epoch_day start <ℤ pos 2_932_896)) c.from_plain.ensures c.tomorrow.ensures.succeeds in
    let value = subst (λ (start : Date). IfOk c.tomorrow.result (λ date. epoch_day date ≡ epoch_day start +ℤ pos 1)) c.from_plain.ensures c.tomorrow.ensures.value in
    subst (λ (found : Option Date). IsDateAfter c.args.day 1 found) (sym c.ok.ensures.value)
    (counted c.args.day 1 c.tomorrow.result (λ ok. (omega (arith, signed_arith, epoch_day_range c.args.day), omega (arith, signed_arith, succeeds.0 ok)), λ day. succeeds.1 (omega (arith, signed_arith, day.1))) value)
