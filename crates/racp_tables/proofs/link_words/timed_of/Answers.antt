use Rattle.std.proofs.Common.{◌≡◌, ◌∙◌, ap, ℕ, List, Option, Some, rules}
use Rattle.std.specs.Str.{trim}
use Rattle.racp_tables.specs.LinkWords.{kinded, lag_or, lagged, lead_said}
use Rattle.racp_tables.specs.Pieces.{parts_at_last}
use Rattle.racp_tables.specs.Times.{time_said}
use Rattle.racp_tables.specs.declared.link_words.Word.{Word}
use Rattle.racp_tables.proofs.link_words.timed_of.Goals as goal

pub returns-in_ok-lag-in-Some : goal.returns-in_ok-lag-in-Some
returns-in_ok-lag-in-Some c =
    let text : List ℕ = c.args.word.now in
    let parts : ◌≡◌ {A = Option (List ℕ × List ℕ)} (Some (c.in-Some.front.now, c.in-Some.lag.now)) (parts_at_last 43 text) = search rules in
    c.lagged.ensures
    ∙ ap (λ (w : Word). lagged w c.in_ok-lag-in-Some.lag) (c.kinded.ensures ∙ ap (kinded c.args.rows.now) c.trim-in-Some.ensures.trim)
    ∙ ap (λ (t : Option ℕ). lagged (kinded c.args.rows.now (trim c.in-Some.front.now)) t) (c.in_ok-lag-in-Some.ensures ∙ ap (λ (lag : List ℕ). time_said lag c.args.scale 10000) c.trim.ensures.trim)
    ∙ ap (λ (p : Option (List ℕ × List ℕ)). lag_or c.args.rows.now c.args.scale p (lead_said c.args.rows.now c.args.scale (parts_at_last 45 text))) parts
