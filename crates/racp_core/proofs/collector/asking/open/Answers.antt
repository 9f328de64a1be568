use Rattle.std.proofs.Common.{◌≡◌, ◌++◌, ◌∷◌, [], ◌∙◌, true, List, ℕ, Option, length, ap, sym, subst, arith}
use Rattle.racp_model.specs.Window.{Bounds}
use Rattle.racp_model.specs.declared.question.Question.{Question}
use Rattle.racp_core.specs.Machine.{QuestionRow, opened}
use Rattle.racp_core.specs.Rows.{IsAdded, IsOpenedIf}
use Rattle.racp_core.proofs.collector.asking.open.Goals as goal

pub returns-in-Some-take-clause-ok : goal.returns-in-Some-take-clause-ok
returns-in-Some-take-clause-ok c =
    let q : c.in-Some-take.question ≡ c.in-Some.question = cc (c.in-Some.is, c.in-Some-take.is, c.take.ensures.value) in
    let window = c.in_ok-copy.field-0 in
    let ready : c.push.new.self.items ≡ c.in-Some.question.window ∷ [] =
    c.in_ok-push.ensures.items ∙ (ap (λ (xs : List Bounds). xs ++ window ∷ []) c.new-ready.ensures.items ∙ ap (λ (w : Bounds). w ∷ []) c.in_ok-copy.ensures) in
    let row : c.new.result ≡ opened c.in-Some.question =
    c.new.ensures ∙ (ap (λ (ws : List Bounds). record { question = c.in-Some-take.question; ready = ws; out = [] }) ready ∙ ap (λ (x : Question). record { question = x; ready = c.in-Some.question.window ∷ []; out = [] }) q) in
    let rows : c.push_reserved.new.self.items ≡ c.args.rows.now.items ++ opened c.in-Some.question ∷ [] =
    c.push_reserved.ensures.items ∙ (ap (λ (rs : List QuestionRow). rs ++ c.new.result ∷ []) c.in_ok-reserve.ensures.items ∙ ap (λ (r : QuestionRow). c.args.rows.now.items ++ r ∷ []) row) in
    let long : c.len.result ≡ length c.args.rows.now.items = omega (arith, c.args.rows.now.ok.0, c.in_ok-reserve.ensures.len) in
    subst (λ (o : Option Question). IsOpenedIf o c.args.rows.now.items c.args.undecided.now true c.take.new.self c.push_reserved.new.self.items c.insert.new.self) (sym c.in-Some.is)
    (c.take.ensures.after, record { asked_next = rows; added = subst (λ (k : ℕ). IsAdded c.args.undecided.now k c.insert.new.self) long c.in_ok-insert.ensures.ok })
