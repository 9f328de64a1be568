use Rattle.std.proofs.Common.{◌≡◌, ◌∙◌, ◌-◌, ℕ, List, ap, ap₂, length, refl, slice_index}
use Rattle.racp_calendar.specs.Dates.{first_word, last_word}
use Rattle.racp_show.proofs.sheet.job_entry.Goals as goal

pub returns : goal.returns
returns c =
    let requests : c.in_ok-requests.requests.items ≡ c.requests.result.now = c.in_ok-requests.ensures.items_if_clones_equal (λ x y e. e) in
    record {
      numbered = refl;
      called = c.job.ensures;
      begins = c.start-start.ensures;
      stops = c.end-end.ensures;
      first_is = c.in_ok-first_day.ensures ∙ ap₂ (λ (s d : ℕ). first_word c.args.calendar s d) c.start-start.ensures c.duration-duration.ensures;
      last_is = c.in_ok-last_day.ensures ∙ ap (λ (e : ℕ). last_word c.args.calendar e) c.end-end.ensures;
      runs = c.duration-duration.ensures;
      slack_is = c.saturating_sub.ensures ∙ ap₂ (λ (x y : ℕ). x - y) c.latest_of.ensures c.start-start.ensures;
      after = c.in_ok-predecessors.ensures;
      request_places = ap length requests ∙ c.requests.ensures.count;
      requests_are = λ k. ap (λ (row : List ℕ). slice_index row k) requests ∙ c.requests.ensures.requests k;
    }
