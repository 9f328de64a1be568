use Rattle.std.proofs.Common.{◌≡◌, List, ℕ, Bool, true, false, IsTrue, ◌↔◌, nat_eq, ap, subst, sym, refl, ◌∙◌}
use Rattle.std.specs.Cmp.Lexicographic.{pointwise, same_text}
use Rattle.std.proofs.lemmas.Cmp.{nat_list_eq_equiv}
use Rattle.racp_model.specs.JobSets.{members}
use Rattle.racp_model.proofs.Bits.{same_words}
use Rattle.racp_model.proofs.job_set.JobSetPartialEq.eq.Goals as goal

-- a test that is true exactly where two lists are equal
equality : (r : Bool) (a b : List ℕ) → IsTrue r ↔ (a ≡ b) → r ≡ pointwise nat_eq a b
equality r a b h = go r (pointwise nat_eq a b) (λ e. ap (pointwise nat_eq a) (sym (h.0 e)) ∙ nat_list_eq_equiv.refl a) (λ e. h.1 (same_text a b (sym e)))
  where
    go : (r s : Bool) → (r ≡ true → s ≡ true) → (s ≡ true → r ≡ true) → r ≡ s
    go true s f g = sym (f refl)
    go false true f g = g refl
    go false false f g = refl

pub returns-clause-same : goal.returns-clause-same
returns-clause-same c =
    let a : List ℕ = c.self.inside.words in
    let b : List ℕ = c.other.inside.words in
    let e = c.is_same.ensures in
    let by_words : IsTrue c.is_same.result ↔ (members a ≡ members b) = ((λ equal. ap members (e.same.0 equal)), λ same. e.same.1 (same_words a b e.a e.b same)) in
    subst (λ (xs : List ℕ). IsTrue c.is_same.result ↔ (xs ≡ c.args.other.now)) c.self.view_is (subst (λ (xs : List ℕ). IsTrue c.is_same.result ↔ (members a ≡ xs)) c.other.view_is by_words)

pub returns-clause-is : goal.returns-clause-is
returns-clause-is c = equality c.is_same.result c.args.self.now c.args.other.now (returns-clause-same c)
