use Rattle.std.proofs.Common.{◌≡◌, ◌++◌, string_bytes, drop}
use Rattle.racp_charts.specs.Pictures.{resource_panels}
use Rattle.racp_charts.proofs.plan_picture.push_resources.Given as goal

abbrev pub invariant-loop-place : goal.invariant-loop-place
invariant-loop-place l = string_bytes l.text ++ resource_panels l.span l.top l.place (drop l.place l.choices) ≡ string_bytes l.initial.text ++ resource_panels l.span l.top 0 l.choices
