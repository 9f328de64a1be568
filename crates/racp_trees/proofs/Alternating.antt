-- The alternatives behind one that was read, one after another.
use Rattle.std.proofs.Common.{◌≡◌, ◌≢◌, ◌↔◌, inl, inr, ◌∙◌, ℕ, zero, suc, List, [], ◌∷◌, slice_index_or, Contains, AllPairs, arith, refl, sym, subst, ap}
use Rattle.racp_model.specs.Project.{Project}
use Rattle.racp_model.specs.Terms.{IsLexBefore}
use Rattle.racp_model.proofs.lemmas.Relations.{member_cases, member_first, member_later, no_member, member_after, rising_tail}
use Rattle.racp_model.proofs.lemmas.Costs.{lex_apart, lex_trans, lex_one_way}
use Rattle.racp_delay.specs.Alternatives.{IsMinimalDelayingAlternative, AreAlternatives}
use Rattle.racp_trees.specs.Following.{OpenNode, read_on, AreBehind, IsNextBehind}

abbrev Rises : List (List ℕ) → Type 0
Rises lists = AllPairs IsLexBefore lists

-- a list more in front
rising_more : (x : List ℕ) (xs : List (List ℕ)) → ((y : List ℕ) → Contains xs y → IsLexBefore x y) → Rises xs → Rises (x ∷ xs)
rising_more x xs h rising zero zero d less l = absurd (omega arith)
rising_more x xs h rising zero (suc j) d less l = h (slice_index_or xs j d) (j, omega (arith, l), get_same xs j d)
  where
    get_same : (xs : List (List ℕ)) (j : ℕ) (d : List ℕ) → slice_index_or xs j (slice_index_or xs j d) ≡ slice_index_or xs j d
    get_same [] j d = refl
    get_same (x ∷ xs) zero d = refl
    get_same (x ∷ xs) (suc j) d = get_same xs j d
rising_more x xs h rising (suc i) zero d less l = absurd (omega arith)
rising_more x xs h rising (suc i) (suc j) d less l = rising i j d (omega arith) (omega arith)

module _ (p : Project) (f : OpenNode) (gone : List ℕ) (next : IsNextBehind p f gone) where
  abbrev Minimal : List ℕ → Type 0
  Minimal = IsMinimalDelayingAlternative p f.node.capacities f.active

  -- the lists to come begin with it
  pub record Front (lists : List (List ℕ)) : Type 0 where
    pub rest : List (List ℕ)
    pub same : lists ≡ gone ∷ rest
    pub behind : AreBehind p (read_on f gone) rest

  pub front : (lists : List (List ℕ)) → AreBehind p f lists → Front lists
  front [] h = absurd (no_member gone (h.all gone next.minimal next.behind))
  front (x ∷ xs) h =
      let own = h.only x (member_first x xs x refl) in
      let same : x ≡ gone = elim (next.first x own.0 own.1) [
        | inl e ↦ e
        | inr later ↦ elim (member_cases x xs gone (h.all gone next.minimal next.behind)) [
          | inl e ↦ e
          | inr there ↦ absurd (lex_one_way x gone (member_after IsLexBefore x xs gone h.in_order there) later)
        ]
      ] in
      record {
        rest = xs;
        same = ap (λ (g : List ℕ). g ∷ xs) same;
        behind = record {
          all = λ g minimal after. elim (member_cases x xs g (h.all g minimal (lex_trans f.last gone g next.behind after))) [
            | inl e ↦ absurd (lex_apart g (subst (λ (z : List ℕ). IsLexBefore z g) (sym same ∙ e) after))
            | inr there ↦ there
          ];
          only = λ g c. ((h.only g (member_later x xs g c)).0, subst (λ (z : List ℕ). IsLexBefore z g) same (member_after IsLexBefore x xs g h.in_order c));
          in_order = rising_tail IsLexBefore x xs h.in_order;
        };
      }

  pub front-back : (rest : List (List ℕ)) → AreBehind p (read_on f gone) rest → AreBehind p f (gone ∷ rest)
  front-back rest h = record {
    all = λ g minimal after. elim (next.first g minimal after) [
      | inl e ↦ member_first gone rest g (sym e)
      | inr later ↦ member_later gone rest g (h.all g minimal later)
    ];
    only = λ g c. elim (member_cases gone rest g c) [
      | inl e ↦ subst (λ (z : List ℕ). Minimal z × IsLexBefore f.last z) e (next.minimal, next.behind)
      | inr there ↦ let is = h.only g there in (is.0, lex_trans f.last gone g next.behind is.1)
    ];
    in_order = rising_more gone rest (λ y c. (h.only y c).1) h.in_order;
  }

-- where none stands behind, no list is to come
pub none_behind : (p : Project) (f : OpenNode) → ((other : List ℕ) → IsMinimalDelayingAlternative p f.node.capacities f.active other → IsLexBefore f.last other → ⊥) → (lists : List (List ℕ)) → AreBehind p f lists → lists ≡ []
none_behind p f none [] h = refl
none_behind p f none (x ∷ xs) h = let is = h.only x (member_first x xs x refl) in absurd (none x is.0 is.1)

pub behind_none : (p : Project) (f : OpenNode) → ((other : List ℕ) → IsMinimalDelayingAlternative p f.node.capacities f.active other → IsLexBefore f.last other → ⊥) → AreBehind p f []
behind_none p f none = record {
  all = λ g minimal after. absurd (none g minimal after);
  only = λ g c. absurd (no_member g c);
  in_order = λ i j d less l. absurd (omega (arith, l));
}

-- all alternatives stand behind the empty list, where some job goes in each
pub empty_before : (gone : List ℕ) → gone ≢ [] → IsLexBefore [] gone
empty_before [] h = absurd (h refl)
empty_before (x ∷ xs) h = refl

pub all_behind : (p : Project) (f : OpenNode) (lists : List (List ℕ)) → f.last ≡ [] → ((gone : List ℕ) → IsMinimalDelayingAlternative p f.node.capacities f.active gone → gone ≢ []) →
    AreAlternatives p f.node.capacities f.active lists ↔ AreBehind p f lists
all_behind p f lists none some = (
  λ h. record {
    all = λ g minimal after. h.all g minimal;
    only = λ g c. (h.only g c, subst (λ (z : List ℕ). IsLexBefore z g) (sym none) (empty_before g (some g (h.only g c))));
    in_order = h.in_order;
  },
  λ h. record {
    all = λ g minimal. h.all g minimal (subst (λ (z : List ℕ). IsLexBefore z g) (sym none) (empty_before g (some g minimal)));
    only = λ g c. (h.only g c).0;
    in_order = h.in_order;
  },
)
