-- Derivations: what follows in one keeps it one.
use Rattle.std.proofs.Common.{◌≡◌, ◌∙◌, ◌⊎◌, ◌≢◌, ℕ, ◌+◌, ◌<◌, ◌≤◌, ◌++◌, ◌∷◌, [], inl, inr, Bool, true, false, if◌then◌else◌, List, length, slice_index_or, arith, ap, sym, subst, refl}
use Rattle.std.proofs.lemmas.Bool.{both_ways}
use Rattle.std.proofs.lemmas.List.{get_or_default}
use Rattle.std.proofs.lemmas.List.Elements.{Contains-append_left, Contains-push}
use Rattle.racp_model.specs.Project.{Project}
use Rattle.racp_model.specs.Terms.{Terms}
use Rattle.racp_model.specs.Window.{Bounds}
use Rattle.racp_model.proofs.lemmas.Decided.{le_decided, same_decided}
use Rattle.racp_model.proofs.lemmas.Relations.{member_cases, member_first, member_later, no_member}
use Rattle.racp_clauses.specs.Solutions.{Problem, IsSchedule, IsWithin, HasPlaces, values}
use Rattle.racp_clauses.specs.Clauses.{Satisfies, SatisfiesSome, SatisfiesNone, Holds, Derived, IsDerived, IsFalseWithin, AreFalseWithin, IsRefuted}
use Rattle.racp_clauses.specs.Inferences.{Allows, Follows, FollowsIn, IsOfClause, IsFalseAt, may_have, met_bounds, with_inference, with_literal, negation}
use Rattle.racp_clauses.specs.declared.literal.Literal.{Literal}
use Rattle.racp_clauses.specs.declared.literal.Literal.TheVariants.{AtLeast, AtMost}
use Rattle.racp_clauses.specs.declared.inference.Inference.{Inference}
use Rattle.racp_clauses.specs.declared.inference.Inference.TheVariants.{Nothing, Narrow, Close}
use Rattle.racp_clauses.proofs.Literals.{may-have, met-within, met-lower, met-upper, false-of, negation-of}

-- a literal is true of values or not
pub satisfied_cases : (l : Literal) (vs : List ℕ) → Satisfies l vs ⊎ (Satisfies l vs → ⊥)
satisfied_cases (AtLeast x v) vs = le_decided v (slice_index_or vs x 0)
satisfied_cases (AtMost x v) vs = le_decided (slice_index_or vs x 0) v

-- so some literal of a clause is true of them, or none is
pub some_cases : (clause : List Literal) (vs : List ℕ) → SatisfiesSome clause vs ⊎ SatisfiesNone clause vs
some_cases [] vs = inr (λ l c s. no_member l c)
some_cases (m ∷ rest) vs = elim (satisfied_cases m vs) [
  | inl first ↦ inl (m, member_first m rest m refl, first)
  | inr not ↦ elim (some_cases rest vs) [
    | inl some ↦ inl (some.0, member_later m rest some.0 some.1, some.2)
    | inr none ↦ inr (λ l c s. elim (member_cases m rest l c) [
      | inl same ↦ not (subst (λ (k : Literal). Satisfies k vs) (sym same) s)
      | inr later ↦ none l later s
    ])
  ]
]

module _ (q : Problem) where
  -- the derivation of the clause without literals begins with the root bounds
  pub derived-root : (bounds : Bounds) → bounds ≡ q.root → HasPlaces q.network bounds → IsDerived q (record { bounds = bounds; empty = false; clause = [] })
  derived-root bounds e has = record {
    places = has;
    left = λ starts capacities h none. (refl, subst (λ (b : Bounds). IsWithin b (values q.terms starts capacities)) (sym e) h.within);
  }

  module _ (d : Derived) (h : IsDerived q d) where
    -- what follows in it
    pub derived-on : (inference : Inference) → FollowsIn q d inference → IsDerived q (with_inference d inference)
    derived-on Nothing follows = h
    derived-on (Narrow l) follows = record {
      places = record { lower = met-lower d.bounds l ∙ h.places.lower; upper = met-upper d.bounds l ∙ h.places.upper };
      left = λ starts capacities s none.
          let was = h.left starts capacities s none in
          let true' = follows starts capacities s none was.1 in
          let may = may-have d.bounds l (values q.terms starts capacities) was.1 true' in
          (rw may was.0, met-within d.bounds l (values q.terms starts capacities) (h.places.upper ∙ sym h.places.lower) was.1 true');
    }
    derived-on Close follows = record {
      places = h.places;
      left = λ starts capacities s none. absurd (follows starts capacities s none (h.left starts capacities s none).1);
    }

    -- bounds that were met with a literal that follows, where something may be left
    pub derived-met : (l : Literal) (new : Bounds) (o : Bool) → FollowsIn q d (Narrow l) → new ≡ met_bounds d.bounds l → o ≡ may_have d.bounds l → o ≡ true →
        IsDerived q (record { bounds = new; empty = d.empty; clause = d.clause })
    derived-met l new o follows is left open' =
        let may : may_have d.bounds l ≡ true = sym left ∙ open' in
        let on : IsDerived q (record { bounds = met_bounds d.bounds l; empty = d.empty; clause = d.clause }) =
        subst (λ (m : Bool). IsDerived q (record { bounds = met_bounds d.bounds l; empty = if m then d.empty else true; clause = d.clause })) may (derived-on (Narrow l) follows) in
        subst (λ (b : Bounds). IsDerived q (record { bounds = b; empty = d.empty; clause = d.clause })) (sym is) on

    -- a literal more in the clause
    pub derived-more : (l : Literal) → IsDerived q (with_literal d l)
    derived-more l = record {
      places = h.places;
      left = λ starts capacities s none. h.left starts capacities s (λ m c. none m (Contains-append_left d.clause (l ∷ []) m c));
    }

    -- the clause holds once nothing is left
    pub derived-holds : d.empty ≡ true → Holds q d.clause
    derived-holds e starts capacities s = elim (some_cases d.clause (values q.terms starts capacities)) [
      | inl some ↦ some
      | inr none ↦ absurd (both_ways d.empty (h.left starts capacities s none).0 e)
    ]

  -- what follows for schedules
  pub follows-schedules : (d : Derived) (p : Project) (bounds : Bounds) (inference : Inference) → p ≡ q.network → bounds ≡ d.bounds → Follows p q.terms bounds inference → FollowsIn q d inference
  follows-schedules d p bounds inference same is follows starts capacities s none w =
      let here : IsSchedule p starts capacities = subst (λ (r : Project). IsSchedule r starts capacities) (sym same) s.schedule in
      follows starts capacities here (subst (λ (b : Bounds). IsWithin b (values q.terms starts capacities)) (sym is) w)

  -- what follows where the literal that came in last is not true
  pub follows-negation : (d : Derived) (l : Literal) → FollowsIn q (with_literal d l) (negation l)
  follows-negation d l starts capacities s none w = negation-of l (values q.terms starts capacities) (none l (Contains-push d.clause l))

-- what follows from a clause of which a literal is true
pub clause-allows : (bounds : Bounds) (clause : List Literal) (inference : Inference) (vs : List ℕ) → IsWithin bounds vs → IsOfClause bounds clause (length clause) inference → SatisfiesSome clause vs → Allows inference vs
clause-allows bounds clause Close vs w all some =
    let at : slice_index_or clause some.1.0 (AtLeast 0 0) ≡ some.0 = get_or_default clause some.1.0 (AtLeast 0 0) some.0 some.1.1 ∙ some.1.2 in
    false-of bounds some.0 vs w (subst (λ (l : Literal). IsFalseWithin bounds l) at (all some.1.0 some.1.1)) some.2
clause-allows bounds clause (Narrow l) vs w only some =
    let at : slice_index_or clause some.1.0 (AtLeast 0 0) ≡ some.0 = get_or_default clause some.1.0 (AtLeast 0 0) some.0 some.1.1 ∙ some.1.2 in
    elim (same_decided some.1.0 only.0) [
      | inl here ↦
          let is : some.0 ≡ l = sym at ∙ (ap (λ i. slice_index_or clause i (AtLeast 0 0)) here ∙ only.1.is) in
          subst (λ (m : Literal). Satisfies m vs) is some.2
      | inr other ↦
          absurd (false-of bounds some.0 vs w (subst (λ (m : Literal). IsFalseWithin bounds m) at (only.1.others some.1.0 some.1.1 other)) some.2)
    ]
clause-allows bounds clause Nothing vs w two some = tt

-- what follows from a clause that holds
pub follows-clause : (q : Problem) (d : Derived) (bounds : Bounds) (given clause : List Literal) (inference : Inference) → bounds ≡ d.bounds → given ≡ clause → Holds q clause →
    IsOfClause bounds given (length given) inference → FollowsIn q d inference
follows-clause q d bounds given clause inference is same holds of starts capacities s none w =
    let vs : List ℕ = values q.terms starts capacities in
    clause-allows bounds given inference vs (subst (λ (b : Bounds). IsWithin b vs) (sym is) w) of (subst (λ (c : List Literal). SatisfiesSome c vs) (sym same) (holds starts capacities s))

-- no solution lies within bounds in which each literal of a clause that holds is false
pub refuted-by : (q : Problem) (clause : List Literal) (bounds : Bounds) → Holds q clause → AreFalseWithin bounds clause → IsRefuted q bounds
refuted-by q clause bounds holds all starts capacities s w =
    let some = holds starts capacities s in
    false-of bounds some.0 (values q.terms starts capacities) w (all some.0 some.1) some.2
