-- Boxes of capacity vectors: what one box goes on as.
use Rattle.std.proofs.Common.{◌≡◌, ◌↔◌, ◌⊎◌, inl, inr, ◌∙◌, ℕ, zero, suc, ◌+◌, ◌-◌, ◌*◌, ◌^◌, ◌<◌, ◌≤◌, List, [], ◌∷◌, ◌++◌, length, slice_index, slice_index_or, Contains, Vec, arith, refl, sym, subst, ap, IsTrue, Bool, true, false}
use Rattle.std.specs.Global.{Global}
use Rattle.std.specs.Prelude.{Option, Some, None, is_some, not}
use Rattle.std.proofs.Math.Nat.{mul-le-mul_left, one-le-pow, pow-le-pow_right, pow-suc}
use Rattle.std.proofs.lemmas.Bool.{cases_lt}
use lib.ListN.{drop, take}
use Rattle.std.proofs.lemmas.List.{get_or_default, length-append, take-append-le, take_all}
use Rattle.std.proofs.lemmas.List.Elements.{Contains-append_cases, Contains-append_left, Contains-append_right}
use Rattle.racp_model.specs.Project.{Project}
use Rattle.racp_model.specs.Terms.{Terms, AreTermsOf, cost, IsBefore}
use Rattle.racp_model.proofs.lemmas.Lists.{below_suc}
use Rattle.racp_model.proofs.lemmas.Sums.{sum_below-mono, sum_below-lt}
use Rattle.racp_model.proofs.lemmas.Orders.{HasFirstPlace, first_from_lex, vectors_ordered}
use Rattle.racp_model.proofs.lemmas.Costs.{before_cases, before_trans}
use Rattle.racp_model.proofs.lemmas.Relations.{member_cases, member_first, member_later, no_member}
use Rattle.racp_trees.specs.declared.claim.Claim.{Claim}
use Rattle.racp_trees.specs.declared.parts.Part.{Part}
use Rattle.racp_trees.specs.Enough.{IsGapAnswer, IsAtMost, IsBelowSome, AreEnoughBlocks, IsPartAt, AreParts, ArePartsAdded}
use Rattle.racp_trees.proofs.Looking.{IsPart, IsIn, IsLeft, IsLooking, slack, weights}

-- a vector that is at or above another in each place does not stand before it (from racp_lexfix)
above-no_before : (p : Project) (terms : Terms) (low high : List ℕ) → AreTermsOf p terms → length low ≡ p.resources → length high ≡ p.resources →
    ((k : ℕ) → k < p.resources → slice_index low k ≤ slice_index high k) → IsBefore terms high low → ⊥
above-no_before p terms low high t low_places high_places above before = elim (before_cases terms high low before) [
  | inl less ↦
      let most : cost terms low ≤ cost terms high =
      sum_below-mono (length terms.prices) (λ k. slice_index terms.prices k * (slice_index low k - slice_index terms.owned k)) (λ k. slice_index terms.prices k * (slice_index high k - slice_index terms.owned k))
      (λ k l.
      let fewer : slice_index low k - slice_index terms.owned k ≤ slice_index high k - slice_index terms.owned k = omega (arith, above k (omega (arith, l, t.price_places))) in
      mul-le-mul_left (slice_index terms.prices k) fewer) in
      omega (arith, less, most)
  | inr tie ↦
      let k : HasFirstPlace high low = first_from_lex high low (omega (arith, low_places, high_places)) tie.1 in
      omega (arith, k.3, above k.0 (omega (arith, k.1, high_places)))
]

-- what is at or below a vector that stands before another stands before it too
pub below-before : (p : Project) (terms : Terms) (low v a : List ℕ) → AreTermsOf p terms → length low ≡ p.resources → length v ≡ p.resources → IsAtMost p.resources low v → IsBefore terms v a → IsBefore terms low a
below-before p terms low v a t low_places places most before = elim (vectors_ordered terms low v) [
  | inl less ↦ before_trans terms low v a less before
  | inr other ↦ elim other [
    | inl same ↦ subst (λ (xs : List ℕ). IsBefore terms xs a) (sym same) before
    | inr more ↦ absurd (above-no_before p terms low v t low_places places most more)
  ]
]

-- one part more, and none
pub parts-more : (n : ℕ) (low high block : List ℕ) (m : ℕ) (found : List Part) (part : Part) → AreParts n low high block m found → IsPartAt n low high block m part → AreParts n low high block (m + 1) (found ++ part ∷ [])
parts-more n low high block m found part are is = record {
  all = λ k l room. elim (cases_lt k m) [
    | inl less ↦ (let one = are.all k less room in (one.0, Contains-append_left found (part ∷ []) one.0 one.1, one.2))
    | inr most ↦
        let e : m ≡ k = omega (arith, l, most) in
        (part, Contains-append_right found (part ∷ []) part (member_first part [] part refl), subst (λ (q : ℕ). IsPartAt n low high block q part) e is)
  ];
  only = λ other c. elim (Contains-append_cases found (part ∷ []) other c) [
    | inl one ↦ are.only other one
    | inr last ↦ elim (member_cases part [] other last) [
      | inl same ↦ (m, subst (λ (x : Part). IsPartAt n low high block m x) same is)
      | inr none ↦ absurd (no_member other none)
    ]
  ];
  few = omega (arith, are.few, length-append found (part ∷ []));
}

pub parts-skip : (n : ℕ) (low high block : List ℕ) (m : ℕ) (found : List Part) → AreParts n low high block m found → slice_index high m ≤ slice_index block m → AreParts n low high block (m + 1) found
parts-skip n low high block m found are full = record {
  all = λ k l room. elim (cases_lt k m) [
    | inl less ↦ are.all k less room
    | inr most ↦
        let e : m ≡ k = omega (arith, l, most) in
        let f : slice_index high k ≤ slice_index block k = subst (λ (q : ℕ). slice_index high q ≤ slice_index block q) e full in
        absurd (omega (arith, f, room))
  ];
  only = are.only;
  few = omega (arith, are.few);
}

-- a vector is at most another in each of n places, or there is a first place at which it is above
pub first_above : (n : ℕ) (v w : List ℕ) → IsAtMost n v w ⊎ ((k : ℕ) × (k < n) × (slice_index w k < slice_index v k) × IsAtMost k v w)
first_above zero v w = inl (λ k l. omega (arith, l))
first_above (suc n) v w = elim (first_above n v w) [
  | inl most ↦ elim (cases_lt (slice_index w n) (slice_index v n)) [
    | inl above ↦ inr (n, omega arith, above, most)
    | inr here ↦ inl (below_suc (λ k. slice_index v k ≤ slice_index w k) n most here)
  ]
  | inr found ↦ inr (found.0, omega (arith, found.1), found.2, found.3)
]

-- a vector of a box that is above the block is in a part
pub in_part : (n : ℕ) (low high block : List ℕ) (parts : List Part) (v : List ℕ) → AreParts n low high block n parts → IsAtMost n low v → IsAtMost n v high →
    (k : ℕ) → k < n → slice_index block k < slice_index v k → IsAtMost k v block → (part : Part) × Contains parts part × IsIn n part v
in_part n low high block parts v are above below k l over most =
    let found = are.all k l (omega (arith, over, below k l)) in
    let is : IsPartAt n low high block k found.0 = found.2 in (
      found.0,
      found.1,
      record {
        above = λ q m. elim (cases_lt q k) [
          | inl less ↦ omega (arith, is.same_before q less, above q m)
          | inr more ↦ elim (cases_lt k q) [
            | inl up ↦ omega (arith, is.same_after q up m, above q m)
            | inr down ↦
                let e : k ≡ q = omega (arith, more, down) in
                subst (λ (x : ℕ). slice_index found.0.low.items x ≤ slice_index v x) e (omega (arith, is.raised, over))
          ]
        ];
        below = λ q m. elim (cases_lt q k) [
          | inl less ↦ omega (arith, is.cut q less, below q m, most q less)
          | inr more ↦ omega (arith, is.kept q more, below q m)
        ];
      },
    )

-- a part of a box is a box
pub part-is : (n : ℕ) (roofs low high block : List ℕ) (k : ℕ) (part : Part) → IsPartAt n low high block k part → IsAtMost n low roofs → IsAtMost n high roofs → IsPart n roofs part
part-is n roofs low high block k part is low_within high_within = record {
  low_places = is.low_places;
  high_places = is.high_places;
  low_within = λ q m. elim (cases_lt q k) [
    | inl less ↦ omega (arith, is.same_before q less, low_within q m)
    | inr more ↦ elim (cases_lt k q) [
      | inl up ↦ omega (arith, is.same_after q up m, low_within q m)
      | inr down ↦
          let e : k ≡ q = omega (arith, more, down) in
          subst (λ (x : ℕ). slice_index part.low.items x ≤ slice_index roofs x) e (omega (arith, is.raised, is.room, high_within k is.is_place))
    ]
  ];
  high_within = λ q m. elim (cases_lt q k) [
    | inl less ↦ omega (arith, is.cut q less, high_within q m)
    | inr more ↦ omega (arith, is.kept q more, high_within q m)
  ];
}

-- and its least vector is nearer to the roofs
pub part-slack : (n : ℕ) (roofs low high block : List ℕ) (k : ℕ) (whole part : Part) → whole.low.items ≡ low → IsPartAt n low high block k part → IsAtMost n low block → IsAtMost n high roofs → slack n roofs part < slack n roofs whole
part-slack n roofs low high block k whole part same is below high_within =
    let at : (q : ℕ) → slice_index whole.low.items q ≡ slice_index low q = λ q. ap (λ (xs : List ℕ). slice_index xs q) same in
    sum_below-lt n (λ q. slice_index roofs q - slice_index part.low.items q) (λ q. slice_index roofs q - slice_index whole.low.items q) k
    (λ q m. elim (cases_lt q k) [
      | inl less ↦ omega (arith, is.same_before q less, at q)
      | inr more ↦ elim (cases_lt k q) [
        | inl up ↦ omega (arith, is.same_after q up m, at q)
        | inr down ↦
            let e : k ≡ q = omega (arith, more, down) in
            subst (λ (x : ℕ). slice_index roofs x - slice_index part.low.items x ≤ slice_index roofs x - slice_index whole.low.items x) e (omega (arith, is.raised, below k is.is_place, at k))
      ]
    ])
    is.is_place
    (omega (arith, is.raised, below k is.is_place, at k, is.room, high_within k is.is_place))

-- the weights of two lists
pub weights-append : (n : ℕ) (roofs : List ℕ) (xs ys : List Part) → weights n roofs (xs ++ ys) ≡ weights n roofs xs + weights n roofs ys
unfolding weights
weights-append n roofs [] ys = omega arith
weights-append n roofs (x ∷ xs) ys = omega (arith, weights-append n roofs xs ys)

pub weights-one : (n : ℕ) (roofs : List ℕ) (x : Part) → weights n roofs (x ∷ []) ≡ 17 ^ slack n roofs x
unfolding weights
weights-one n roofs x = omega arith

pub weight-some : (s : ℕ) → 0 < 17 ^ s
weight-some s = omega (arith, one-le-pow s 17 (let l : 0 < 17 = omega arith in l))

pub weights-most : (n : ℕ) (roofs : List ℕ) (xs : List Part) (most : ℕ) → ((x : Part) → Contains xs x → 17 ^ slack n roofs x ≤ most) → weights n roofs xs ≤ length xs * most
unfolding weights
weights-most n roofs [] most h = omega arith
weights-most n roofs (x ∷ xs) most h =
    let rest : weights n roofs xs ≤ length xs * most = weights-most n roofs xs most (λ y c. h y (member_later x xs y c)) in
    let first : 17 ^ slack n roofs x ≤ most = h x (member_first x xs x refl) in
    grind arith

pub weights-none : (n : ℕ) (roofs : List ℕ) → weights n roofs [] ≡ 0
unfolding weights
weights-none n roofs = refl

-- parts nearer to the roofs weigh less
pub parts-lighter : (n : ℕ) (roofs : List ℕ) (parts : List Part) (whole : Part) → length parts ≤ 16 → ((x : Part) → Contains parts x → slack n roofs x < slack n roofs whole) → weights n roofs parts < 17 ^ slack n roofs whole
parts-lighter n roofs [] whole few less =
    omega (arith, weights-none n roofs, weight-some (slack n roofs whole))
parts-lighter n roofs (x ∷ xs) whole few less =
    let first : slack n roofs x < slack n roofs whole = less x (member_first x xs x refl) in
    let m : ℕ = slack n roofs whole - 1 in
    let e : suc m ≡ slack n roofs whole = omega (arith, first) in
    let up : 17 ^ slack n roofs whole ≡ 17 ^ m * 17 = ap (λ k. 17 ^ k) (sym e) ∙ pow-suc 17 m in
    let total : weights n roofs (x ∷ xs) ≤ length (x ∷ xs) * 17 ^ m = weights-most n roofs (x ∷ xs) (17 ^ m) (λ y c. pow-le-pow_right (let l : 0 < 17 = omega arith in l) (let l : slack n roofs y ≤ m = omega (arith, less y c, e) in l)) in
    let some : 0 < 17 ^ m = weight-some m in
    let h : 17 ^ m * length (x ∷ xs) ≤ 17 ^ m * 16 = mul-le-mul_left (17 ^ m) few in
    omega (arith, up, total, some, h)

-- the first box holds all vectors
pub looking-first : (p : Project) (terms : Terms) (roofs capacities : List ℕ) (blocks : List (Vec ℕ Global)) (whole : Part) (parts : List Part) → parts ≡ whole ∷ [] → length roofs ≡ p.resources →
    whole.high.items ≡ roofs → length whole.low.items ≡ length roofs → ((k : ℕ) → k < length roofs → slice_index whole.low.items k ≡ 0) → IsLooking p terms roofs capacities blocks parts
looking-first p terms roofs capacities blocks whole parts e places high low_places zeros =
    let at : (k : ℕ) → slice_index whole.high.items k ≡ slice_index roofs k = λ k. ap (λ (xs : List ℕ). slice_index xs k) high in
    let is : IsPart p.resources roofs whole = record {
      low_places = low_places ∙ places;
      high_places = ap (λ (xs : List ℕ). length xs) high ∙ places;
      low_within = λ k l. omega (arith, zeros k (omega (arith, l, places)));
      high_within = λ k l. omega (arith, at k);
    } in
    subst (λ (xs : List Part). IsLooking p terms roofs capacities blocks xs) (sym e) (record {
      each = λ part c. elim (member_cases whole [] part c) [
        | inl same ↦ subst (λ (x : Part). IsPart p.resources roofs x) same is
        | inr none ↦ absurd (no_member part none)
      ];
      left = λ v v_places most before. inr (
        whole,
        member_first whole [] whole refl,
        record {
          above = λ k l. omega (arith, zeros k (omega (arith, l, places)));
          below = λ k l. omega (arith, at k, most k l);
        },
      );
    })

-- a block at a place is read there whatever the default
block_at : (blocks : List (Vec ℕ Global)) (k : ℕ) (d : Vec ℕ Global) → k < length blocks → slice_index_or blocks k (slice_index_or blocks k d) ≡ slice_index_or blocks k d
block_at blocks k d l = get_or_default blocks k (slice_index_or blocks k d) d l

module _ (p : Project) (terms : Terms) (roofs capacities : List ℕ) (blocks : List (Vec ℕ Global)) (t : AreTermsOf p terms) (old rest : List Part) (part : Part) (taken : old ≡ rest ++ part ∷ []) (h : IsLooking p terms roofs capacities blocks old) where
  -- the box that is taken out
  pub taken-is : IsPart p.resources roofs part
  taken-is = h.each part (subst (λ (xs : List Part). Contains xs part) (sym taken) (Contains-append_right rest (part ∷ []) part (member_first part [] part refl)))

  -- a box of the others
  other-is : (x : Part) → Contains rest x → IsPart p.resources roofs x
  other-is x c = h.each x (subst (λ (xs : List Part). Contains xs x) (sym taken) (Contains-append_left rest (part ∷ []) x c))

  -- a vector that matters is below some block, in a box of the others, or in the one that is taken out
  split-left : (v : List ℕ) → length v ≡ p.resources → IsAtMost p.resources v roofs → IsBefore terms v capacities → IsLeft p.resources blocks rest v ⊎ IsIn p.resources part v
  split-left v places most before = elim (h.left v places most before) [
    | inl done ↦ inl (inl done)
    | inr there ↦
        let c : Contains (rest ++ part ∷ []) there.0 = subst (λ (xs : List Part). Contains xs there.0) taken there.1 in
        elim (Contains-append_cases rest (part ∷ []) there.0 c) [
          | inl one ↦ inl (inr (there.0, one, there.2))
          | inr last ↦ elim (member_cases part [] there.0 last) [
            | inl same ↦ inr (subst (λ (x : Part). IsIn p.resources x v) (sym same) there.2)
            | inr none ↦ absurd (no_member there.0 none)
          ]
        ]
  ]

  -- a box whose least vector does not stand before the capacities is left out
  pub looking-skip : (IsBefore terms part.low.items capacities → ⊥) → IsLooking p terms roofs capacities blocks rest
  looking-skip after = record {
    each = other-is;
    left = λ v places most before. elim (split-left v places most before) [
      | inl other ↦ other
      | inr here ↦ absurd (after (below-before p terms part.low.items v capacities t taken-is.low_places places here.above before))
    ];
  }

  -- a box whose least vector is below a block goes on as its parts
  pub looking-parts : (k : ℕ) (d : Vec ℕ Global) (new : List Part) → k < length blocks → IsAtMost p.resources part.low.items (slice_index_or blocks k d).items →
      ArePartsAdded p.resources part.low.items part.high.items (slice_index_or blocks k d).items rest new → IsLooking p terms roofs capacities blocks new
  looking-parts k d new is_block below added =
      let block : Vec ℕ Global = slice_index_or blocks k d in
      let found : List Part = added.0 in
      let are : AreParts p.resources part.low.items part.high.items block.items p.resources found = added.2 in
      subst (λ (xs : List Part). IsLooking p terms roofs capacities blocks xs) (sym added.1) (record {
        each = λ x c. elim (Contains-append_cases rest found x c) [
          | inl one ↦ other-is x one
          | inr more ↦ (let at = are.only x more in part-is p.resources roofs part.low.items part.high.items block.items at.0 x at.1 taken-is.low_within taken-is.high_within)
        ];
        left = λ v places most before. elim (split-left v places most before) [
          | inl other ↦ elim other [
            | inl done ↦ inl done
            | inr there ↦ inr (there.0, Contains-append_left rest found there.0 there.1, there.2)
          ]
          | inr here ↦ elim (first_above p.resources v block.items) [
            | inl at_most ↦ inl (block, (k, is_block, block_at blocks k d is_block), at_most)
            | inr first ↦
                let one = in_part p.resources part.low.items part.high.items block.items found v are here.above here.below first.0 first.1 first.2 first.3 in
                inr (one.0, Contains-append_right rest found one.0 one.1, one.2)
          ]
        ];
      })

  -- it weighs less
  pub parts-weigh : (k : ℕ) (d : Vec ℕ Global) (new : List Part) → p.resources ≤ 16 → IsAtMost p.resources part.low.items (slice_index_or blocks k d).items →
      ArePartsAdded p.resources part.low.items part.high.items (slice_index_or blocks k d).items rest new → weights p.resources roofs new < weights p.resources roofs old
  parts-weigh k d new few below added =
      let block : Vec ℕ Global = slice_index_or blocks k d in
      let found : List Part = added.0 in
      let are : AreParts p.resources part.low.items part.high.items block.items p.resources found = added.2 in
      let less : weights p.resources roofs found < 17 ^ slack p.resources roofs part =
      parts-lighter p.resources roofs found part (let l : length found ≤ 16 = omega (arith, are.few, few) in l)
      (λ x c. let at = are.only x c in part-slack p.resources roofs part.low.items part.high.items block.items at.0 part x refl at.1 below taken-is.high_within) in
      let is_new : weights p.resources roofs new ≡ weights p.resources roofs (rest ++ found) = ap (λ (xs : List Part). weights p.resources roofs xs) added.1 in
      let is_old : weights p.resources roofs old ≡ weights p.resources roofs (rest ++ part ∷ []) = ap (λ (xs : List Part). weights p.resources roofs xs) taken in
      omega (arith, is_new, is_old, weights-append p.resources roofs rest found, weights-append p.resources roofs rest (part ∷ []), weights-one p.resources roofs part, less)

  pub skip-weighs : weights p.resources roofs rest < weights p.resources roofs old
  skip-weighs =
      let is_old : weights p.resources roofs old ≡ weights p.resources roofs (rest ++ part ∷ []) = ap (λ (xs : List Part). weights p.resources roofs xs) taken in
      omega (arith, is_old, weights-append p.resources roofs rest (part ∷ []), weights-one p.resources roofs part, weight-some (slack p.resources roofs part))

-- where no box is left, the blocks are enough
pub enough-none : (p : Project) (terms : Terms) (roofs capacities : List ℕ) (blocks : List (Vec ℕ Global)) (parts : List Part) → parts ≡ [] → IsLooking p terms roofs capacities blocks parts → AreEnoughBlocks p terms roofs capacities blocks
enough-none p terms roofs capacities blocks parts e h v places most before = elim (h.left v places most before) [
  | inl done ↦ done
  | inr there ↦ absurd (no_member there.0 (subst (λ (xs : List Part). Contains xs there.0) e there.1))
]

-- a test that said false did not say true
pub never : (b : Bool) → b ≡ false → IsTrue b → ⊥
never false e h = absurd (cc h)
never true e h = absurd (cc e)

-- a vector read twice
pub below_of : (n : ℕ) (blocks : List (Vec ℕ Global)) (seen v : List ℕ) → seen ≡ v → length v ≡ n → (IsBelowSome (length seen) blocks seen → ⊥) → IsBelowSome n blocks v → ⊥
below_of n blocks seen v same places none' some = none' (subst (λ (xs : List ℕ). IsBelowSome (length xs) blocks xs) (sym same) (subst (λ (m : ℕ). IsBelowSome m blocks v) (sym places) some))

-- parts of a box that was read, as those of the box
pub added_of : (n : ℕ) (blocks : List (Vec ℕ Global)) (k : ℕ) (d : Vec ℕ Global) (low high block : List ℕ) (part : Part) (rest new : List Part) → low ≡ part.low.items → high ≡ part.high.items → block ≡ d.items → d ≡ slice_index_or blocks k d → length part.low.items ≡ n →
    ArePartsAdded (length low) low high block rest new → ArePartsAdded n part.low.items part.high.items (slice_index_or blocks k d).items rest new
added_of n blocks k d low high block part rest new is_low is_high is_block is_d places h =
    let a : ArePartsAdded (length part.low.items) part.low.items high block rest new = subst (λ (xs : List ℕ). ArePartsAdded (length xs) xs high block rest new) is_low h in
    let b : ArePartsAdded n part.low.items high block rest new = subst (λ (m : ℕ). ArePartsAdded m part.low.items high block rest new) places a in
    let e : ArePartsAdded n part.low.items part.high.items block rest new = subst (λ (xs : List ℕ). ArePartsAdded n part.low.items xs block rest new) is_high b in
    subst (λ (xs : List ℕ). ArePartsAdded n part.low.items part.high.items xs rest new) (is_block ∙ ap (λ (v : Vec ℕ Global). v.items) is_d) e

-- a block that is above a vector that was read
pub at_of : (n : ℕ) (seen v block : List ℕ) → seen ≡ v → length v ≡ n → IsAtMost (length seen) seen block → IsAtMost n v block
at_of n seen v block same places h = subst (λ (m : ℕ). IsAtMost m v block) places (subst (λ (xs : List ℕ). IsAtMost (length xs) xs block) same h)

-- a list of as many as none
pub empty : (parts : List Part) → length parts ≡ 0 → parts ≡ []
empty [] e = refl
empty (x ∷ xs) e = absurd (omega (arith, e))

-- whether the blocks are enough is whether no vector is above each of them
pub gap_told : (c : Claim) (blocks : List (Vec ℕ Global)) (found : Option (Vec ℕ Global)) (b : Bool) → is_some found ≡ not b → IsGapAnswer c blocks found → IsTrue b ↔ AreEnoughBlocks c.net.now c.order.now c.roofs.now c.capacities.now blocks
gap_told c blocks (Some low) true e gap = absurd (cc e)
gap_told c blocks (Some low) false e gap = (λ yes'. absurd (never false refl yes'), λ enough. absurd (gap.above (enough low.items gap.places gap.within gap.before)))
gap_told c blocks None true e enough = (λ yes'. enough, λ h. refl)
gap_told c blocks None false e enough = absurd (cc e)

-- a list that was written over another one of its length
pub written_over : (n : ℕ) (new old : List ℕ) → length old ≡ n → length new ≡ length old → take n (new ++ drop (length new) old) ≡ new
written_over n new old long same = take-append-le n new (drop (length new) old) (omega (arith, long, same)) ∙ take_all n new (omega (arith, long, same))
