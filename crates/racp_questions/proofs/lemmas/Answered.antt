-- What an asker answers, of the list of questions that its series is, and of the variant that its answer is.
use Rattle.std.proofs.Common.{◌≡◌, ℕ, List, length, Some, subst}
use Rattle.racp_model.specs.Project.{Project}
use Rattle.racp_model.specs.declared.question.Question.{Question}
use Rattle.racp_questions.specs.FirstYes.{IsFirst, IsFirstYes, AreNoBefore}
use Rattle.racp_questions.specs.declared.asker.First.{First}
use Rattle.racp_questions.specs.declared.asker.First.TheVariants.{Yes, None as NoYes}

-- what an asker answers of a list of questions is so of an equal list, and of an equal answer
pub yes_of : (p : Project) (questions others : List Question) (answer : First) (index : ℕ) (starts : List ℕ) → questions ≡ others → answer ≡ Yes index starts →
    IsFirst p questions answer → IsFirstYes p others (Some index)
yes_of p questions others answer index starts same is h =
    let moved : IsFirst p others answer = subst (λ (qs : List Question). IsFirst p qs answer) same h in
    let told : IsFirst p others (Yes index starts) = subst (λ (a : First). IsFirst p others a) is moved in
    told.0

pub no_of : (p : Project) (questions others : List Question) (answer : First) → questions ≡ others → answer ≡ NoYes → IsFirst p questions answer → AreNoBefore p others (length others)
no_of p questions others answer same is h =
    let moved : IsFirst p others answer = subst (λ (qs : List Question). IsFirst p qs answer) same h in
    subst (λ (a : First). IsFirst p others a) is moved
