-- Boxes that are pending, and lists of questions of a project's form.
use Rattle.std.proofs.Common.{◌≡◌, ◌++◌, List, [], ◌∷◌, length, Contains, Option, Some, IfSome, option_to_list, inl, inr, arith, ap, subst, sym}
use Rattle.std.proofs.lemmas.List.Elements.{Contains-append_left, Contains-push_cases}
use Rattle.racp_model.specs.Project.{Project}
use Rattle.racp_model.specs.Formed.{AreFormed, IsFormed}
use Rattle.racp_model.specs.declared.question.Question.{Question}
use Rattle.racp_by_questions.specs.Searched.{AreSpans, IsSpan}
use Rattle.racp_by_questions.specs.declared.span.Span.{Span}
use Rattle.racp_by_questions.specs.declared.subject.Subject.{Subject}

module _ (p : Project) (old new : List Question) where
  -- none
  pub formed-empty : old ≡ [] → AreFormed p old
  formed-empty none question h = (let e : length old ≡ 0 = ap length none in absurd (omega (arith, e, h.1)))

  -- one more
  pub formed-pushed : (told : Option Question) (question : Question) → AreFormed p old → IfSome told (IsFormed p) → told ≡ Some question → new ≡ old ++ question ∷ [] → AreFormed p new
  formed-pushed told question before formed some is other h =
      elim (Contains-push_cases old question other (subst (λ (qs : List Question). Contains qs other) is h)) [
        | inl among ↦ before other among
        | inr last ↦ subst (IsFormed p) last (subst (λ (t : Option Question). IfSome t (IsFormed p)) some formed)
      ]

module _ (s : Subject) (old new : List Span) where
  -- one more box
  pub spans-pushed : (span : Span) → AreSpans s old → IsSpan s span → new ≡ old ++ span ∷ [] → AreSpans s new
  spans-pushed span before last is other h =
      elim (Contains-push_cases old span other (subst (λ (xs : List Span). Contains xs other) is h)) [
        | inl among ↦ before other among
        | inr at ↦ subst (IsSpan s) at last
      ]

  -- one box less
  pub spans-popped : (told : Option Span) → AreSpans s old → old ≡ new ++ option_to_list told → AreSpans s new
  spans-popped told before is other h = before other (subst (λ (xs : List Span). Contains xs other) (sym is) (Contains-append_left new (option_to_list told) other h))
