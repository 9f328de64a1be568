-- What fits in time is what answers in the root window.
use Rattle.std.proofs.Common.{ℕ, List}
use Rattle.racp_model.specs.Project.{Project}
use Rattle.racp_model.specs.Schedule.{FitsInTime}
use Rattle.racp_model.specs.Terms.{IsLexBefore}
use Rattle.racp_model.specs.Plan.{IsLeast}
use Rattle.racp_model.specs.Window.{Bounds, Answers, IsRootWindow}
use Rattle.racp_cpm.proofs.lemmas.Roots.{root_in_time}

-- what fits in time answers in the root window
pub fits-answers : (p : Project) (release due : ℕ → ℕ) (window : Bounds) (capacities starts : List ℕ) → IsRootWindow p release due window → FitsInTime p release due capacities starts → Answers p capacities window starts
fits-answers p release due window capacities starts root h = record {
  lies = (root_in_time p release due window starts root h.places h.fits.precedence).1 h.in_time;
  fits = h.fits;
}

-- and the other way round
pub answers-fit : (p : Project) (release due : ℕ → ℕ) (window : Bounds) (capacities starts : List ℕ) → IsRootWindow p release due window → Answers p capacities window starts → FitsInTime p release due capacities starts
answers-fit p release due window capacities starts root h = record {
  places = h.lies.places;
  in_time = (root_in_time p release due window starts root h.lies.places h.fits.precedence).0 h.lies;
  fits = h.fits;
}

-- so the least that answer are the least that fit in time
pub least-fit : (p : Project) (release due : ℕ → ℕ) (window : Bounds) (capacities starts : List ℕ) → IsRootWindow p release due window → IsLeast IsLexBefore (Answers p capacities window) starts →
    IsLeast IsLexBefore (FitsInTime p release due capacities) starts
least-fit p release due window capacities starts root h = record {
  is = answers-fit p release due window capacities starts root h.is;
  least = λ other fits before. h.least other (fits-answers p release due window capacities other root fits) before;
}
