use Rattle.std.proofs.Common.{◌≡◌, ◌∙◌, ap, ap₂, ℕ, List, pos, codes}
use Rattle.std.specs.Prelude.{Option}
use Rattle.toml.specs.Data.{Data, integer, no_members}
use Rattle.toml.specs.View.{table_view}
use Rattle.racp_prices.specs.WantedTables.{put, put_optional}
use Rattle.racp_prices.specs.Wishes.{Wish, numbers_array}
use Rattle.racp_prices.proofs.WantedTables.{made, seen}
use Rattle.racp_prices.proofs.wanted_table.table_of.Goals as goal

pub returns : goal.returns
returns c =
    let wish : Wish = c.args.wanted.now in
    let prices : c.deref.result.now ≡ wish.prices = c.deref.ensures.value ∙ ap (λ (w : Wish). w.prices) c.wanted.view_is in
    let deadline : c.wanted.inside.deadline ≡ wish.deadline = ap (λ (w : Wish). w.deadline) c.wanted.view_is in
    made wish (table_view c.in_ok-table.table) (table_view c.in_ok-table-2.table) (table_view c.in_ok-table-3.table) (table_view c.in_ok-table-4.table) (table_view c.in_ok-table-5.table) c.needs_version.result c.with_version.result
    (c.in_ok-table.ensures ∙ ap₂ (λ (ps : List ℕ) (d : ℕ). put (codes "prices") (numbers_array ps) (put (codes "deadline") (integer (pos d)) no_members)) prices deadline)
    (c.in_ok-table-2.ensures ∙ ap (λ (v : Option Data). put_optional (codes "owned") v (table_view c.in_ok-table.table)) (seen c.wanted.inside.owned c.as_ref.result wish.owned c.as_ref.ensures.value (ap (λ (w : Wish). w.owned) c.wanted.view_is)))
    (c.in_ok-table-3.ensures ∙ ap (λ (v : Option Data). put_optional (codes "ceiling") v (table_view c.in_ok-table-2.table)) (seen c.wanted.inside.ceilings c.as_ref-2.result wish.ceilings c.as_ref-2.ensures.value (ap (λ (w : Wish). w.ceilings) c.wanted.view_is)))
    (c.in_ok-table-4.ensures ∙ ap (λ (v : Option Data). put_optional (codes "release") v (table_view c.in_ok-table-3.table)) (seen c.wanted.inside.release c.as_ref-3.result wish.release c.as_ref-3.ensures.value (ap (λ (w : Wish). w.release) c.wanted.view_is)))
    (c.in_ok-table-5.ensures ∙ ap (λ (v : Option Data). put_optional (codes "due") v (table_view c.in_ok-table-4.table)) (seen c.wanted.inside.due c.as_ref-4.result wish.due c.as_ref-4.ensures.value (ap (λ (w : Wish). w.due) c.wanted.view_is)))
    c.needs_version.ensures c.with_version.ensures
