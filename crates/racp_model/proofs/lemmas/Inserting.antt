-- For each list of pairs there is one of the same pairs, each once and in rising order; so an acyclic project has a network.
use Rattle.std.proofs.Common.{◌≡◌, ◌⊎◌, ℕ, ◌<◌, List, [], ◌∷◌, length, inl, inr, arith, refl, sym, ◌∙◌, subst, Contains, AllPairs, All}
use Rattle.std.specs.Prelude.{◌↔◌}
use Rattle.std.proofs.lemmas.List.Elements.{All-nil, All-cons, All-contains}
use Rattle.std.proofs.lemmas.List.Kept.{AllPairs-cons}
use Rattle.std.specs.declared.cmp.Ordering.{Ordering}
use Rattle.std.specs.declared.cmp.Ordering.TheVariants.{Less, Equal, Greater}
use Rattle.std.specs.Ordering.{nat_cmp, MatchOrdering}
use Rattle.std.specs.Cmp.{ranks}
use Rattle.racp_model.specs.Project.{number, IsNumber, IsArcBefore}
use Rattle.racp_model.specs.Laws.{AcyclicHasNetwork}
use Rattle.racp_model.proofs.lemmas.Relations.{member_cases, member_later, member_first, member_after, rising_tail, all_members}

-- of two pairs, they are equal or one stands before the other
pub cases_arcs : (a b : ℕ × ℕ) → (a ≡ b) ⊎ (IsArcBefore a b ⊎ IsArcBefore b a)
cases_arcs a b = first (nat_cmp a.0 b.0) (ranks a.0 b.0)
  where
    second : a.0 ≡ b.0 → (o : Ordering) → MatchOrdering o (a.1 < b.1) (a.1 ≡ b.1) (b.1 < a.1) → (a ≡ b) ⊎ (IsArcBefore a b ⊎ IsArcBefore b a)
    second e Less m = inr (inl (inr (e, m)))
    second e Equal m = inl (λ i. (e i, m i))
    second e Greater m = inr (inr (inr (sym e, m)))

    first : (o : Ordering) → MatchOrdering o (a.0 < b.0) (a.0 ≡ b.0) (b.0 < a.0) → (a ≡ b) ⊎ (IsArcBefore a b ⊎ IsArcBefore b a)
    first Less m = inr (inl (inl m))
    first Equal m = second m (nat_cmp a.1 b.1) (ranks a.1 b.1)
    first Greater m = inr (inr (inl m))

-- what stands before what stands before
pub arcs_trans : (a b c : ℕ × ℕ) → IsArcBefore a b → IsArcBefore b c → IsArcBefore a c
arcs_trans a b c h g = elim h [
  | inl less ↦ elim g [ inl more ↦ inl (omega arith) | inr tie ↦ inl (omega (arith, tie.0)) ]
  | inr same ↦ elim g [ inl more ↦ inl (omega (arith, same.0)) | inr tie ↦ inr (same.0 ∙ tie.0, omega (arith, same.1, tie.1)) ]
]

-- a rising list of a pair and the members of another list
pub record IsWith (a : ℕ × ℕ) (old new : List (ℕ × ℕ)) : Type 0 where
  pub rising : AllPairs IsArcBefore new
  pub same : (z : ℕ × ℕ) → Contains new z ↔ ((a ≡ z) ⊎ Contains old z)

pub with_first : (a : ℕ × ℕ) (old : List (ℕ × ℕ)) → All (IsArcBefore a) old → AllPairs IsArcBefore old → IsWith a old (a ∷ old)
with_first a old before rising = record {
  rising = AllPairs-cons IsArcBefore a old before rising;
  same = λ z. (member_cases a old z, λ s. elim s [ inl e ↦ member_first a old z e | inr c ↦ member_later a old z c ]);
}

pub with_itself : (a b : ℕ × ℕ) (bs : List (ℕ × ℕ)) → a ≡ b → AllPairs IsArcBefore (b ∷ bs) → IsWith a (b ∷ bs) (b ∷ bs)
with_itself a b bs e rising = record {
  rising = rising;
  same = λ z. (λ c. inr c, λ s. elim s [ inl i ↦ member_first b bs z (sym e ∙ i) | inr c ↦ c ]);
}

pub with_later : (a b : ℕ × ℕ) (bs cs : List (ℕ × ℕ)) → IsArcBefore b a → AllPairs IsArcBefore (b ∷ bs) → IsWith a bs cs → IsWith a (b ∷ bs) (b ∷ cs)
with_later a b bs cs after rising h = record {
  rising = AllPairs-cons IsArcBefore b cs (all_members (IsArcBefore b) cs (λ z c. below z ((h.same z).0 c))) h.rising;
  same = λ z. (λ c. into z (member_cases b cs z c), λ s. back z s);
}
  where
    below : (z : ℕ × ℕ) → (a ≡ z) ⊎ Contains bs z → IsArcBefore b z
    below z (inl e) = subst (IsArcBefore b) e after
    below z (inr c) = member_after IsArcBefore b bs z rising c

    into : (z : ℕ × ℕ) → (b ≡ z) ⊎ Contains cs z → (a ≡ z) ⊎ Contains (b ∷ bs) z
    into z (inl e) = inr (member_first b bs z e)
    into z (inr c) = elim ((h.same z).0 c) [ inl e ↦ inl e | inr m ↦ inr (member_later b bs z m) ]

    back : (z : ℕ × ℕ) → (a ≡ z) ⊎ Contains (b ∷ bs) z → Contains (b ∷ cs) z
    back z (inl e) = member_later b cs z ((h.same z).1 (inl e))
    back z (inr c) = elim (member_cases b bs z c) [ inl e ↦ member_first b cs z e | inr m ↦ member_later b cs z ((h.same z).1 (inr m)) ]

-- a pair put into a rising list
pub inserted : (a : ℕ × ℕ) (bs : List (ℕ × ℕ)) → AllPairs IsArcBefore bs → (cs : List (ℕ × ℕ)) × IsWith a bs cs
inserted a [] rising = (a ∷ [], with_first a [] (All-nil (IsArcBefore a)) rising)
inserted a (b ∷ bs) rising = elim (cases_arcs a b) [
  | inl e ↦ (b ∷ bs, with_itself a b bs e rising)
  | inr other ↦ elim other [
    | inl before ↦ (a ∷ (b ∷ bs), with_first a (b ∷ bs) (All-cons (IsArcBefore a) b bs before (all_members (IsArcBefore a) bs (λ z c. arcs_trans a b z before (member_after IsArcBefore b bs z rising c)))) rising)
    | inr after ↦ let rest = inserted a bs (rising_tail IsArcBefore b bs rising) in (b ∷ rest.0, with_later a b bs rest.0 after rising rest.1)
  ]
]

-- the same pairs, each once and in rising order
pub record IsRising (given made : List (ℕ × ℕ)) : Type 0 where
  pub rising : AllPairs IsArcBefore made
  pub same : (z : ℕ × ℕ) → Contains made z ↔ Contains given z

pub joined : (a : ℕ × ℕ) (given made more : List (ℕ × ℕ)) → IsRising given made → IsWith a made more → IsRising (a ∷ given) more
joined a given made more h w = record {
  rising = w.rising;
  same = λ z. (λ c. into z ((w.same z).0 c), λ c. back z (member_cases a given z c));
}
  where
    into : (z : ℕ × ℕ) → (a ≡ z) ⊎ Contains made z → Contains (a ∷ given) z
    into z (inl e) = member_first a given z e
    into z (inr c) = member_later a given z ((h.same z).0 c)

    back : (z : ℕ × ℕ) → (a ≡ z) ⊎ Contains given z → Contains more z
    back z (inl e) = (w.same z).1 (inl e)
    back z (inr c) = (w.same z).1 (inr ((h.same z).1 c))

pub some_rising : (given : List (ℕ × ℕ)) → (made : List (ℕ × ℕ)) × IsRising given made
some_rising [] = ([], record { rising = λ i j d less l. absurd (omega (arith, less, l)); same = λ z. (λ c. c, λ c. c) })
some_rising (a ∷ given) =
    let rest = some_rising given in
    let more = inserted a rest.0 rest.1.rising in
    (more.0, joined a given rest.0 more.0 rest.1 more.1)

-- a project without a ring has a network
pub some_network : AcyclicHasNetwork
some_network given limits numbers acyclic =
    let arcs = some_rising given.arcs in
    let named : ℕ × ℕ → Type 0 = λ arc. IsNumber (length given.jobs) arc.0 × IsNumber (length given.jobs) arc.1 in (
      record { resources = given.resources; jobs = given.jobs; arcs = arcs.0 },
      record { resources = refl; jobs = refl; arcs = arcs.1.same },
      record {
        limits = limits;
        named = all_members named arcs.0 (λ z c. All-contains named given.arcs z numbers ((arcs.1.same z).0 c));
        rising = arcs.1.rising;
        acyclic = (acyclic.0, λ i j before. acyclic.1 i j ((arcs.1.same (number i, number j)).0 before));
      },
    )
