-- Extending the jobs that are chosen to go, as the code sees it.
use Rattle.std.proofs.Common.{◌≡◌, ℕ, ◌-◌, ◌<◌, List, [], ◌∷◌, ◌++◌, length, Bool, true, false, arith, refl, ap, sym, ◌∙◌, subst, take, append_assoc}
use Rattle.std.proofs.lemmas.List.{append-nil}
use Rattle.std.specs.List.Sorted.{IsStrictlyIncreasing}
use Rattle.racp_model.specs.Project.{Project}
use Rattle.racp_model.specs.Terms.{lex_cmp, IsLexBefore}
use Rattle.racp_model.proofs.lemmas.Costs.{lex_one_way}
use Rattle.racp_delay.specs.Found.{AreWithin, SomeHaveRoom, Each, with_load, IsExtension, IsFirstExtension, HasNoExtension, IsExtended, IsAny}
use Rattle.racp_delay.proofs.Each.{Ascends, ascends, each-map}
use Rattle.racp_delay.proofs.Adding.{popped}
use Rattle.racp_delay.proofs.Searching.{less_before, IsMore}
use Rattle.racp_delay.proofs.Extending.{lex_tails, none-over, first-here, none_more, none-undecided, first-goes, first-stays, none-both, behind_empty, behind_less}

-- the same of another way to look for the same extensions
pub extended-same : (p : Project) (capacities : List ℕ) (kept : ℕ → ℕ) (chosen rest : List ℕ) (P Q : List ℕ → Type 0) → ((x : List ℕ) → IsExtension p capacities kept chosen rest x → P x → Q x) → ((x : List ℕ) → IsExtension p capacities kept chosen rest x → Q x → P x)
    → (found : Bool) (new : List ℕ) → IsExtended p capacities kept chosen rest P found new → IsExtended p capacities kept chosen rest Q found new
extended-same p capacities kept chosen rest P Q into back true new h = (
  h.0,
  h.1,
  record {
    extends = h.2.extends;
    wanted = into h.0 h.2.extends h.2.wanted;
    first = λ other e w. h.2.first other e (back other e w);
  },
)
extended-same p capacities kept chosen rest P Q into back false new h = (h.0, λ other e w. h.1 other e (back other e w))

module _ (p : Project) (capacities : List ℕ) (kept left : ℕ → ℕ) (chosen rest : List ℕ) (IsWanted : List ℕ → Type 0) (is_left : (k : ℕ) → k < p.resources → left k ≡ with_load p kept rest k) where
  -- all others run
  pub extended-here : (jobs : List ℕ) → jobs ≡ chosen → AreWithin p capacities left → (SomeHaveRoom p capacities left jobs → ⊥) → IsWanted [] → (more : List ℕ) × (chosen ≡ chosen ++ more) × IsFirstExtension p capacities kept chosen rest IsWanted more
  extended-here jobs e runs tight wanted =
      ([], sym (append-nil chosen), first-here p capacities kept chosen rest IsWanted (λ k l. omega (arith, is_left k l, runs k l)) (λ loose. tight (subst (λ (x : List ℕ). SomeHaveRoom p capacities left x) (sym e) (loose.0, loose.1, λ k l. omega (arith, is_left k l, loose.2 k l)))) wanted)

  -- all others run, and no extension is looked for
  pub extended-past : AreWithin p capacities left → (IsWanted [] → ⊥) → HasNoExtension p capacities kept chosen rest IsWanted
  extended-past runs past other e w =
      past (subst IsWanted (none_more p capacities kept chosen rest (λ k l. omega (arith, is_left k l, runs k l)) other e) w)

  -- no job is undecided
  pub extended-end : (AreWithin p capacities left → ⊥) → length rest ≡ 0 → HasNoExtension p capacities kept chosen rest IsWanted
  extended-end over nothing =
      let e : rest ≡ [] = empty rest nothing in
      subst (λ (x : List ℕ). HasNoExtension p capacities kept chosen x IsWanted) (sym e) (none-undecided p capacities kept chosen IsWanted (λ runs. over (λ k l. omega (arith, is_left k l, ap (λ (x : List ℕ). with_load p kept x k) e, runs k l))))
    where
      empty : (xs : List ℕ) → length xs ≡ 0 → xs ≡ []
      empty [] e = refl
      empty (x ∷ xs) e = absurd (omega (arith, e))

  module _ (job : ℕ) (others : List ℕ) (er : rest ≡ job ∷ others) where
    -- the job goes
    pub extended-goes : IsStrictlyIncreasing rest → (AreWithin p capacities left → ⊥) → (with_job new : List ℕ) (found : Bool) → with_job ≡ chosen ++ job ∷ [] → found ≡ true
        → IsExtended p capacities kept with_job others (λ x. IsWanted (job ∷ x)) found new → (next : List ℕ) × (new ≡ chosen ++ next) × IsFirstExtension p capacities kept chosen rest IsWanted next
    extended-goes rises over with_job new found e is_found h =
        let up : Ascends (job ∷ others) = ascends (job ∷ others) (subst (λ (x : List ℕ). IsStrictlyIncreasing x) er rises) in
        let too_much : AreWithin p capacities (with_load p kept (job ∷ others)) → ⊥ = λ runs. over (λ k l. omega (arith, is_left k l, runs k l, ap (λ (x : List ℕ). with_load p kept x k) er)) in
        let g : IsExtended p capacities kept (chosen ++ job ∷ []) others (λ x. IsWanted (job ∷ x)) true new = subst (λ (b : Bool). IsExtended p capacities kept (chosen ++ job ∷ []) others (λ x. IsWanted (job ∷ x)) b new) is_found (subst (λ (x : List ℕ). IsExtended p capacities kept x others (λ y. IsWanted (job ∷ y)) found new) e h) in
        (job ∷ g.0, g.1 ∙ append_assoc chosen (job ∷ []) g.0, subst (λ (x : List ℕ). IsFirstExtension p capacities kept chosen x IsWanted (job ∷ g.0)) (sym er) (first-goes p capacities kept chosen job others IsWanted up.0 too_much g.0 g.2))

    -- it does not go, and is taken away again
    pub as_before : (with_job new last : List ℕ) (found : Bool) (n : ℕ) → with_job ≡ chosen ++ job ∷ [] → found ≡ false → IsExtended p capacities kept with_job others (λ x. IsWanted (job ∷ x)) found new
        → length new ≡ n → last ≡ take (n - 1) new → last ≡ chosen
    as_before with_job new last found n e not_found h len is =
        let g : IsExtended p capacities kept with_job others (λ x. IsWanted (job ∷ x)) false new = subst (λ (b : Bool). IsExtended p capacities kept with_job others (λ x. IsWanted (job ∷ x)) b new) not_found h in
        popped chosen new last job n (g.0 ∙ e) len is

    -- and there is none in which it goes
    pub none-goes : (with_job new : List ℕ) (found : Bool) → with_job ≡ chosen ++ job ∷ [] → found ≡ false
        → IsExtended p capacities kept with_job others (λ x. IsWanted (job ∷ x)) found new → HasNoExtension p capacities kept (chosen ++ job ∷ []) others (λ x. IsWanted (job ∷ x))
    none-goes with_job new found e not_found h =
        let g : IsExtended p capacities kept (chosen ++ job ∷ []) others (λ x. IsWanted (job ∷ x)) false new = subst (λ (b : Bool). IsExtended p capacities kept (chosen ++ job ∷ []) others (λ x. IsWanted (job ∷ x)) b new) not_found (subst (λ (x : List ℕ). IsExtended p capacities kept x others (λ y. IsWanted (job ∷ y)) found new) e h) in
        g.1

    module _ (more : ℕ → ℕ) (is_more : IsMore p kept job more) where
      -- and it cannot stay
      pub extended-over : HasNoExtension p capacities kept (chosen ++ job ∷ []) others (λ x. IsWanted (job ∷ x)) → (AreWithin p capacities more → ⊥) → HasNoExtension p capacities kept chosen rest IsWanted
      extended-over none_goes over =
          subst (λ (x : List ℕ). HasNoExtension p capacities kept chosen x IsWanted) (sym er) (none-both p capacities kept chosen job others IsWanted more is_more none_goes (none-over p capacities more chosen others IsWanted over))

      -- or it stays
      pub extended-stays : HasNoExtension p capacities kept (chosen ++ job ∷ []) others (λ x. IsWanted (job ∷ x)) → (same new : List ℕ) (found : Bool) → same ≡ chosen
          → IsExtended p capacities more same others IsWanted found new → IsExtended p capacities kept chosen rest IsWanted found new
      extended-stays none_goes same new found e h =
          by_cases found (subst (λ (x : List ℕ). IsExtended p capacities more x others IsWanted found new) e h)
        where
          by_cases : (b : Bool) → IsExtended p capacities more chosen others IsWanted b new → IsExtended p capacities kept chosen rest IsWanted b new
          by_cases true g = (g.0, g.1, subst (λ (x : List ℕ). IsFirstExtension p capacities kept chosen x IsWanted g.0) (sym er) (first-stays p capacities kept chosen job others IsWanted more is_more none_goes g.0 g.2))
          by_cases false g = (g.0, subst (λ (x : List ℕ). HasNoExtension p capacities kept chosen x IsWanted) (sym er) (none-both p capacities kept chosen job others IsWanted more is_more none_goes g.1))

-- behind a list
pub not_behind : (last : List ℕ) → IsLexBefore last [] → ⊥
not_behind [] before = cc
not_behind (job ∷ last) before = cc

module _ (p : Project) (capacities : List ℕ) (kept : ℕ → ℕ) (chosen others last rest : List ℕ) (first job : ℕ) (el : last ≡ first ∷ rest) where
  -- its first job goes: behind it is what is behind its other jobs
  pub behind_same : first ≡ job → (found : Bool) (new : List ℕ) → IsExtended p capacities kept chosen others (IsLexBefore rest) found new → IsExtended p capacities kept chosen others (λ x. IsLexBefore last (job ∷ x)) found new
  behind_same ef found new h =
      let same : (x : List ℕ) → lex_cmp last (job ∷ x) ≡ lex_cmp rest x = λ x. ap (λ (l : List ℕ). lex_cmp l (job ∷ x)) (el ∙ ap (λ (i : ℕ). i ∷ rest) ef) ∙ lex_tails job rest x in
      extended-same p capacities kept chosen others (IsLexBefore rest) (λ x. IsLexBefore last (job ∷ x)) (λ x e w. same x ∙ w) (λ x e w. sym (same x) ∙ w) found new h

  -- a job before its first goes: nothing is behind it
  pub behind_less_job : job < first → HasNoExtension p capacities kept chosen others (λ x. IsLexBefore last (job ∷ x))
  behind_less_job less other e w =
      let before : IsLexBefore (first ∷ rest) (job ∷ other) = subst (λ (l : List ℕ). IsLexBefore l (job ∷ other)) el w in
      lex_one_way (first ∷ rest) (job ∷ other) before (less_before [] other rest job first less)

module _ (p : Project) (capacities : List ℕ) (kept left : ℕ → ℕ) (chosen undecided last : List ℕ) (is_left : (k : ℕ) → k < p.resources → left k ≡ with_load p kept undecided k) (over : AreWithin p capacities left → ⊥) where
  -- the kept and the undecided exceed the capacities
  too_much : AreWithin p capacities (with_load p kept undecided) → ⊥
  too_much runs = over (λ k l. omega (arith, is_left k l, runs k l))

  -- all that there is is behind the empty list
  pub any-behind_empty : length last ≡ 0 → (found : Bool) (new : List ℕ) → IsExtended p capacities kept chosen undecided IsAny found new → IsExtended p capacities kept chosen undecided (IsLexBefore last) found new
  any-behind_empty nothing found new h =
      let behind : (x : List ℕ) → IsExtension p capacities kept chosen undecided x → IsLexBefore last x = λ x e. go last nothing x e in
      extended-same p capacities kept chosen undecided IsAny (IsLexBefore last) (λ x e w. behind x e) (λ x e w. tt) found new h
    where
      go : (xs : List ℕ) → length xs ≡ 0 → (x : List ℕ) → IsExtension p capacities kept chosen undecided x → IsLexBefore xs x
      go [] e x is = behind_empty p capacities kept chosen undecided too_much x is
      go (i ∷ xs) e x is = absurd (omega (arith, e))

  -- and behind a list whose first job is less than all
  pub any-behind_less : (first job : ℕ) (rest others : List ℕ) → last ≡ first ∷ rest → undecided ≡ job ∷ others → IsStrictlyIncreasing undecided → first < job
      → (found : Bool) (new : List ℕ) → IsExtended p capacities kept chosen undecided IsAny found new → IsExtended p capacities kept chosen undecided (IsLexBefore last) found new
  any-behind_less first job rest others el er rises less found new h =
      let up : Ascends (job ∷ others) = ascends (job ∷ others) (subst (λ (x : List ℕ). IsStrictlyIncreasing x) er rises) in
      let above : Each (λ i. first < i) undecided = subst (λ (x : List ℕ). Each (λ i. first < i) x) (sym er) (less, each-map (λ i. job < i) (λ i. first < i) others (λ i l. omega (arith, l, less)) up.0) in
      let behind : (x : List ℕ) → IsExtension p capacities kept chosen undecided x → IsLexBefore last x = λ x e. subst (λ (l : List ℕ). IsLexBefore l x) (sym el) (behind_less p capacities kept chosen undecided first rest above too_much x e) in
      extended-same p capacities kept chosen undecided IsAny (IsLexBefore last) (λ x e w. behind x e) (λ x e w. tt) found new h
