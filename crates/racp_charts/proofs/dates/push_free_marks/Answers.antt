use Rattle.std.proofs.Common.{◌≡◌, ◌∙◌, ◌++◌, ℕ, ap, arith, string_bytes}
use Rattle.racp_charts.specs.Bands.{free_mark, free_marks}
use Rattle.racp_charts.specs.Texts.{texts_before}
use Rattle.racp_charts.proofs.dates.push_free_marks.Goals as goal

pub returns : goal.returns
unfolding free_marks
returns c =
    let places : c.loop-place.place ≡ 150 = omega (arith, c.loop-place-test.false, c.loop-place.auto.place-end) in
    c.loop-place.invariant ∙ ap (λ (place : ℕ). string_bytes c.args.text.now ++ texts_before (free_mark c.args.workdays.now c.args.span c.args.top c.args.bottom) place) places
