use Rattle.std.proofs.Common.{◌≡◌, ◌∙◌, ℕ, List, [], ap, map, rules, slice_index_or, sym}
use Rattle.std.proofs.lemmas.Simd.{map-map}
use Rattle.racp_json.specs.Lines.{number_at}
use Rattle.racp_json.proofs.early.early_of.Goals as goal

pub returns : goal.returns
returns c =
    let first : c.deref.result.now ≡ c.in_ok-rows_of.field-0.items = search rules in
    let second : c.deref-2.result.now ≡ c.in_ok-rows_of-2.field-0.items = search rules in
    record {
      critical_is = c.first_number-critical.ensures ∙ ap (λ rows. number_at 0 (slice_index_or (map (λ row. row.items) rows) 0 [])) first
          ∙ ap (λ (rows : List (List ℕ)). number_at 0 (slice_index_or rows 0 [])) c.in_ok-rows_of.ensures;
      starts_are = c.in_ok-starts.ensures ∙ ap (map (λ row. number_at 1 row.items)) second
          ∙ sym (map-map (number_at 1) (λ row. row.items) c.in_ok-rows_of-2.field-0.items) ∙ ap (map (number_at 1)) c.in_ok-rows_of-2.ensures;
    }
