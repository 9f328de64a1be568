-- What `verify` answers if it may be stopped, and the first line of a certificate.
use Rattle.std.proofs.Common.{◌≡◌, ◌↔◌, ℕ, Bool, true, false, List, [], ◌∷◌, length, Option, Some, None, Ok, Err, IfOk, IsTrue, inl, inr, refl, sym, subst, arith}
use Rattle.std.specs.Prelude.{MatchBool}
use Rattle.std.specs.List.{before_first, position_or_len}
use Rattle.std.proofs.lemmas.List.{take_all}
use Rattle.racp_model.specs.Project.{Project}
use Rattle.racp_model.specs.Terms.{Terms}
use Rattle.racp_model.specs.Plan.{IsPlan}
use Rattle.racp_text.specs.Cuts.{is_line_feed}
use Rattle.racp_plan.specs.declared.plan.Plan.{Plan}
use Rattle.racp_model.specs.declared.stop.Unfound.{Unfound}
use Rattle.racp_trees.specs.Certificates.{IsCertificate}
use Rattle.racp_derivations.specs.Texts.{IsDerivationText}
use Rattle.racp_check.specs.Leastness.{HasNoneEnoughBefore, IsLongEnough}
use Rattle.std.specs.Prelude.{Result}
use Rattle.racp_cli.specs.Verifies.{IsClauseVerdict, IsTreeVerdict, IsVerdict, IsVerifyAnswer, IsVerifyAnswerUntil, IsVerifyUntil, is_by_clauses, until_status, until_text}
use Rattle.racp_cli.specs.declared.check_fault.CheckFault.{CheckFault}

-- the status and the text of an outcome
pub told_until : (quiet : Bool) (net order text proof : List ℕ) (outcome : Result (Option Bool) CheckFault) (status : ℕ) (written : List ℕ) → IsVerifyUntil quiet net order text proof outcome →
    status ≡ until_status outcome → written ≡ until_text outcome → IsVerifyAnswerUntil quiet net order text proof status written
told_until quiet net order text proof (Ok (Some proved)) status written right e f = inl (record { answer = Ok proved; right = right; with_status = sym e; with_text = sym f })
told_until quiet net order text proof (Ok None) status written loud e f = inr (loud, e, f)
told_until quiet net order text proof (Err fault) status written right e f = inl (record { answer = Err fault; right = right; with_status = sym e; with_text = sym f })

-- an answer that a quiet stop leaves
pub never_stopped : (net order text proof : List ℕ) (status : ℕ) (written : List ℕ) → IsVerifyAnswerUntil true net order text proof status written → IsVerifyAnswer net order text proof status written
never_stopped net order text proof status written (inl answer) = answer
never_stopped net order text proof status written (inr (loud, e, f)) = absurd (loud refl)

-- without a line feed the whole text is the first line
pub line-whole : (text : List ℕ) → position_or_len is_line_feed text ≡ length text → text ≡ before_first is_line_feed text
line-whole text none = sym (take_all (position_or_len is_line_feed text) text (omega (arith, none)))

-- the verdict on a text that is by clauses
pub by_clauses : (network : Project) (terms : Terms) (plan : Plan) (proof : List ℕ) (result : Result Bool Unfound) → is_by_clauses proof ≡ true →
    IfOk result (λ proved. IsTrue proved ↔ IsDerivationText network terms plan.capacities plan.starts proof) →
    IfOk result (λ proved. IsTrue proved → IsPlan network terms plan.capacities plan.starts) → IfOk result (IsVerdict network terms plan proof)
by_clauses network terms plan proof (Ok proved) form exact is_plan =
    let verdict : IsClauseVerdict network terms plan proof proved = record { exact = exact; is_plan = is_plan } in
    subst (λ (b : Bool). MatchBool b (IsClauseVerdict network terms plan proof proved) (IsTreeVerdict network terms plan proof proved)) (sym form) verdict
by_clauses network terms plan proof (Err fault) form exact is_plan = tt

-- the verdict on another one
pub by_trees : (network : Project) (terms : Terms) (plan : Plan) (proof : List ℕ) (result : Result Bool Unfound) → is_by_clauses proof ≡ false →
    IfOk result (λ proved. IsTrue proved ↔ IsCertificate network terms plan.capacities proof) →
    IfOk result (λ proved. IsTrue proved → HasNoneEnoughBefore network terms plan.capacities) →
    IfOk result (λ proved. IsTrue proved → IsLongEnough network terms) → IfOk result (IsVerdict network terms plan proof)
by_trees network terms plan proof (Ok proved) form exact leastness in_time =
    let verdict : IsTreeVerdict network terms plan proof proved = record { exact = exact; leastness = leastness; in_time = in_time } in
    subst (λ (b : Bool). MatchBool b (IsClauseVerdict network terms plan proof proved) (IsTreeVerdict network terms plan proof proved)) (sym form) verdict
by_trees network terms plan proof (Err fault) form exact leastness in_time = tt
