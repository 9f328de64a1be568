-- Late starts by one due time, and the critical length of a project that is in time.
use Rattle.std.proofs.Common.{◌≡◌, ℕ, ◌<◌, ◌≤◌, List, length, slice_index, arith}
use Rattle.racp_model.specs.Project.{Project}
use Rattle.racp_model.specs.Path.{IsEarly, IsLate}
use Rattle.racp_model.specs.Plan.{FitsTerms}
use Rattle.racp_model.specs.Terms.{Terms, release_of}
use Rattle.racp_cpm.specs.Ends.{IsLastEnd}

-- late starts by a list that has the same due time at each place
pub by_one : (p : Project) (due late : List ℕ) (time : ℕ) → ((i : ℕ) → i < length p.jobs → slice_index due i ≡ time) → IsLate p (slice_index due) late → IsLate p (λ _. time) late
by_one p due late time same h = record {
  places = h.places;
  ends = λ i l. omega (arith, h.ends i l, same i l);
  precedence = h.precedence;
  greatest = λ starts ends keeps. h.greatest starts (λ i l. omega (arith, ends i l, same i l)) keeps;
}

-- the greatest early finish of a project that some starts keep in time is no later than the deadline
pub critical_in_time : (p : Project) (terms : Terms) (capacities starts early : List ℕ) (last : ℕ) → FitsTerms p terms capacities starts → IsEarly p (release_of terms) early → IsLastEnd p early last → last ≤ terms.deadline
critical_in_time p terms capacities starts early last fits e h =
    omega (
      arith,
      h.some.2,
      e.least starts fits.in_time.released fits.fits.precedence h.some.0 h.some.1,
      fits.in_time.ends h.some.0 h.some.1,
    )
