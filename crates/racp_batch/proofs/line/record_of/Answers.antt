use Rattle.std.proofs.Common.{◌≡◌, ◌∙◌, ◌++◌, ◌∷◌, [], ℕ, List, ap, subst}
use Rattle.csv.specs.Records.{fields_of}
use Rattle.racp_batch.specs.Cases.{Matter}
use Rattle.racp_batch.specs.Lines.{cells_of, fault_of, fields_with}
use Rattle.racp_batch.specs.declared.case.Input.{Input}
use Rattle.racp_batch.specs.declared.cells.Cells.{Cells}
use Rattle.racp_batch.proofs.Fields.{fields_grown}
use Rattle.racp_batch.proofs.line.record_of.Goals as goal

pub returns : goal.returns
returns c =
    let calendar = c.args.calendar in
    let matter = c.args.case.now in
    let row = c.args.row.now in
    let cells = c.cells_of-cells.result in
    let fault = c.fault_of.result.now in
    let named = subst (λ (name : List ℕ). fields_of c.push_field.new.self ≡ name ∷ []) (ap (λ (m : Matter). m.name) c.case.view_is)
    (subst (λ (fields : List (List ℕ)). fields_of c.push_field.new.self ≡ fields ++ c.case.inside.file.now.name.now ∷ []) c.new-fields.ensures.fields c.in_ok-push_field.ensures.fields) in
    let worded = subst (λ (word : List ℕ). fields_of c.push_field-2.new.self ≡ fields_of c.push_known-2.new.fields ++ word ∷ []) (ap (λ (m : Matter). m.word) c.case.view_is) c.in_ok-push_field-2.ensures.fields in
    let told = subst (λ (word : List ℕ). fields_of c.push_field-3.new.self ≡ fields_of c.push_day.new.fields ++ word ∷ []) c.word.ensures c.in_ok-push_field-3.ensures.fields in
    let grown : fields_of c.push_field-4.new.self ≡ fields_with calendar matter cells fault = fields_grown calendar matter cells fault _ _ _ _ _ _ _ _ _ _
    named c.in_ok-push_known.ensures c.in_ok-push_known-2.ensures worded c.in_ok-push_known-3.ensures c.in_ok-push_day.ensures told
    c.in_ok-push_numbers.ensures c.in_ok-push_time.ensures c.in_ok-push_field-4.ensures.fields in
    grown ∙ (ap (λ (cs : Cells). fields_with calendar matter cs fault) c.cells_of-cells.ensures ∙ ap (fields_with calendar matter (cells_of row)) (c.fault_of.ensures ∙ ap (λ (i : Input). fault_of i row) (ap (λ (m : Matter). m.input) c.case.view_is)))
