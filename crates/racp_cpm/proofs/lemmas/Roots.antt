-- What the root window has.
use Rattle.std.proofs.Common.{arith}
use Rattle.racp_cpm.specs.Laws.{RootIsInTime}

-- of the starts that keep precedence, those in time are those in the root window
pub root_in_time : RootIsInTime
root_in_time p release due root starts h places precedence = (
  λ lies. record {
    released = λ i l. omega (arith, h.early.above i l, lies.above i l);
    ends = λ i l. omega (arith, h.late.ends i l, lies.below i l);
  },
  λ in_time. record {
    places = places;
    above = h.early.least starts in_time.released precedence;
    below = h.late.greatest starts in_time.ends precedence;
  },
)
