-- Needs in the root window are needs of the order.
use Rattle.std.proofs.Common.{◌≡◌, ℕ, List, length}
use Rattle.racp_model.specs.Project.{Project}
use Rattle.racp_model.specs.Schedule.{KeepsPrecedence, IsInTime}
use Rattle.racp_model.specs.Terms.{Terms, release_of, due_of}
use Rattle.racp_model.specs.Window.{Bounds, LiesIn, IsRootWindow}
use Rattle.racp_whatif.specs.Needs.{IsNeed}
use Rattle.racp_whatif.specs.Within.{IsNeedIn}
use Rattle.racp_whatif.specs.declared.need.Need.{Need}

-- what keeps precedence and is in time lies in the root window
timely_lies : (p : Project) (terms : Terms) (window : Bounds) → IsRootWindow p (release_of terms) (due_of terms) window → (starts : List ℕ) → length starts ≡ length p.jobs → KeepsPrecedence p starts →
    IsInTime p (release_of terms) (due_of terms) starts → LiesIn p window starts
timely_lies p terms window root starts places keeps timely = record {
  places = places;
  above = λ i l. root.early.least starts timely.released keeps i l;
  below = λ i l. root.late.greatest starts timely.ends keeps i l;
}

-- so needs in it are needs of the order
pub need-in_time : (p : Project) (terms : Terms) (window : Bounds) (need : Need) → IsRootWindow p (release_of terms) (due_of terms) window → IsNeedIn p window need → IsNeed p terms need
need-in_time p terms window need root h = record {
  resource = h.resource;
  named = h.named;
  rising = h.rising;
  used = λ starts places keeps timely. h.used starts (timely_lies p terms window root starts places keeps timely);
  each = λ starts places keeps timely. h.each starts (timely_lies p terms window root starts places keeps timely);
}
