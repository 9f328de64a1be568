-- The search for minimal delaying alternatives, as the code sees it.
use Rattle.std.proofs.Common.{◌≡◌, ℕ, suc, ◌+◌, ◌-◌, ◌<◌, List, [], ◌∷◌, ◌++◌, length, slice_index, arith, ap, sym, ◌∙◌, subst, append_assoc, length-append, take, All}
use Rattle.std.proofs.lemmas.List.{append-nil, map-append, take_all, take-append-le}
use Rattle.std.proofs.lemmas.List.Elements.{All-tail, All-head, All-push}
use native.Mathlib.Numerals.{unary_clauses}
use Rattle.std.specs.List.Sorted.{IsStrictlyIncreasing}
use Rattle.smallvec.specs.SmallVec.{SmallVec}
use Rattle.racp_model.specs.Project.{Project, place, request}
use Rattle.racp_delay.specs.Alternatives.{load, job_lists, AreAlternatives}
use Rattle.racp_delay.specs.Found.{AreWithin, SomeHaveRoom, with_load, AreFound, AreAdded}
use Rattle.racp_delay.proofs.Each.{Ascends, ascends}
use Rattle.racp_delay.proofs.Tight.{none_kept}
use Rattle.racp_delay.proofs.Searching.{IsMore, found-over, found-loose, found-here, found-both, found-same, found-alternatives}

-- one more vector at the end
pub lists-push : (old new : List (SmallVec ℕ)) (v : SmallVec ℕ) (list : List ℕ) → new ≡ old ++ v ∷ [] → v.items ≡ list → job_lists new ≡ job_lists old ++ list ∷ []
lists-push old new v list e is = ap (λ (vs : List (SmallVec ℕ)). job_lists vs) e ∙ (map-append (λ (w : SmallVec ℕ). w.items) old (v ∷ []) ∙ ap (λ (xs : List ℕ). job_lists old ++ xs ∷ []) is)

-- what is left after the last one is taken away
pub popped : (xs old new : List ℕ) (x n : ℕ) → old ≡ xs ++ x ∷ [] → length old ≡ n → new ≡ take (n - 1) old → new ≡ xs
popped xs old new x n e len rest =
    let short : n - 1 ≡ length xs = omega (arith, sym len ∙ ap length e ∙ length-append xs (x ∷ [])) in
    rest ∙ (ap (λ (ys : List ℕ). take (n - 1) ys) e ∙ (ap (λ (m : ℕ). take m (xs ++ x ∷ [])) short ∙ (take-append-le (length xs) xs (x ∷ []) (omega arith) ∙ take_all (length xs) xs (omega arith))))

-- the same, where nothing changed between the push and that
pub popped_after : (xs with_x old new : List ℕ) (x n : ℕ) → with_x ≡ xs ++ x ∷ [] → old ≡ with_x → length old ≡ n → new ≡ take (n - 1) old → new ≡ xs
popped_after xs with_x old new x n pushed same len rest = popped xs old new x n (same ∙ pushed) len rest

-- what holds of each of a list holds of its head, of its tail, of a longer one and of an equal one
pub all-tail : (P : ℕ → Type 0) (job : ℕ) (rest others : List ℕ) → rest ≡ job ∷ others → All P rest → All P others
all-tail P job rest others e h = All-tail P job others (subst (λ (x : List ℕ). All P x) e h)

pub all-head : (P : ℕ → Type 0) (job : ℕ) (rest others : List ℕ) → rest ≡ job ∷ others → All P rest → P job
all-head P job rest others e h = All-head P job others (subst (λ (x : List ℕ). All P x) e h)

pub all-push : (P : ℕ → Type 0) (job : ℕ) (xs ys : List ℕ) → ys ≡ xs ++ job ∷ [] → All P xs → P job → All P ys
all-push P job xs ys e h here = subst (λ (x : List ℕ). All P x) (sym e) (All-push P xs job h here)

pub all-same : (P : ℕ → Type 0) (xs ys : List ℕ) → ys ≡ xs → All P xs → All P ys
all-same P xs ys e h = subst (λ (x : List ℕ). All P x) (sym e) h

-- the tail of a rising list rises
pub rising-rest : (job : ℕ) (rest others : List ℕ) → rest ≡ job ∷ others → IsStrictlyIncreasing rest → IsStrictlyIncreasing others
rising-rest job rest others e h = tail (subst (λ (x : List ℕ). IsStrictlyIncreasing x) e h)
  where
    tail : IsStrictlyIncreasing (job ∷ others) → IsStrictlyIncreasing others
    tail up k l =
        let step : slice_index (job ∷ others) (suc k) < slice_index (job ∷ others) (suc k + 1) = up (suc k) (omega arith) in
        let e : slice_index (job ∷ others) (suc k + 1) ≡ slice_index others (k + 1) = simp unary_clauses in
        omega (arith, step, e)

-- the loads of the jobs that are left, by the first of them and the others
pub left-is : (p : Project) (kept left : ℕ → ℕ) (job : ℕ) (rest others : List ℕ) → rest ≡ job ∷ others → ((k : ℕ) → k < p.resources → left k ≡ with_load p kept rest k)
    → (k : ℕ) → k < p.resources → left k ≡ kept k + (request p (place job) k + load p k others)
unfolding load
left-is p kept left job rest others e h k l = omega (arith, h k l, ap (λ (x : List ℕ). load p k x) e)

-- the loads of no job more
pub none-left : (p : Project) (kept left : ℕ → ℕ) (rest : List ℕ) → length rest ≡ 0 → ((k : ℕ) → k < p.resources → left k ≡ with_load p kept rest k)
    → (k : ℕ) → k < p.resources → left k ≡ kept k
unfolding load
none-left p kept left [] e h k l = omega (arith, h k l)
none-left p kept left (job ∷ rest) e h k l = absurd (omega (arith, e))

module _ (p : Project) (capacities : List ℕ) (kept left : ℕ → ℕ) (gone rest : List ℕ) (old new : List (List ℕ)) (is_left : (k : ℕ) → k < p.resources → left k ≡ with_load p kept rest k) where
  -- the four ways in which the search goes on
  pub added-over : (AreWithin p capacities kept → ⊥) → AreAdded p capacities kept gone rest old old
  added-over over = ([], sym (append-nil old), found-over p capacities kept gone rest over)

  pub added-loose : (jobs : List ℕ) → jobs ≡ gone → SomeHaveRoom p capacities left jobs → AreAdded p capacities kept gone rest old old
  added-loose jobs e loose =
      let here : SomeHaveRoom p capacities left gone = subst (λ (x : List ℕ). SomeHaveRoom p capacities left x) e loose in
      ([], sym (append-nil old), found-loose p capacities kept gone rest (here.0, here.1, λ k l. omega (arith, is_left k l, here.2 k l)))

  pub added-here : (jobs : List ℕ) → jobs ≡ gone → new ≡ old ++ gone ∷ [] → AreWithin p capacities left → (SomeHaveRoom p capacities left jobs → ⊥) → AreAdded p capacities kept gone rest old new
  added-here jobs e en runs tight =
      (gone ∷ [], en, found-here p capacities kept gone rest (λ k l. omega (arith, is_left k l, runs k l)) (λ loose. tight (subst (λ (x : List ℕ). SomeHaveRoom p capacities left x) (sym e) (loose.0, loose.1, λ k l. omega (arith, is_left k l, loose.2 k l)))))

  pub added-both : (mid : List (List ℕ)) (job : ℕ) (others gone1 gone2 : List ℕ) (more : ℕ → ℕ) → rest ≡ job ∷ others → IsStrictlyIncreasing rest → gone1 ≡ gone ++ job ∷ [] → gone2 ≡ gone → IsMore p kept job more
      → (AreWithin p capacities left → ⊥) → AreAdded p capacities kept gone1 others old mid → AreAdded p capacities more gone2 others mid new → AreAdded p capacities kept gone rest old new
  added-both mid job others gone1 gone2 more er rises e1 e2 is_more over f g =
      let up : Ascends (job ∷ others) = ascends (job ∷ others) (subst (λ (x : List ℕ). IsStrictlyIncreasing x) er rises) in
      let too_much : AreWithin p capacities (with_load p kept (job ∷ others)) → ⊥ = λ runs. over (λ k l. omega (arith, is_left k l, runs k l, ap (λ (x : List ℕ). with_load p kept x k) er)) in
      let hf : AreFound p capacities kept (gone ++ job ∷ []) others f.0 = subst (λ (x : List ℕ). AreFound p capacities kept x others f.0) e1 f.2 in
      let hg : AreFound p capacities more gone others g.0 = subst (λ (x : List ℕ). AreFound p capacities more x others g.0) e2 g.2 in (
        f.0 ++ g.0,
        g.1 ∙ (ap (λ (x : List (List ℕ)). x ++ g.0) f.1 ∙ append_assoc old f.0 g.0),
        subst (λ (x : List ℕ). AreFound p capacities kept gone x (f.0 ++ g.0)) (sym er) (found-both p capacities kept more gone job others f.0 g.0 is_more up.0 too_much hf hg),
      )

-- at the end of the search
pub finished : (p : Project) (capacities active gone : List ℕ) (kept : ℕ → ℕ) (old new : List (List ℕ)) → gone ≡ [] → old ≡ [] → ((k : ℕ) → k < p.resources → kept k ≡ 0)
    → AreAdded p capacities kept gone active old new → AreAlternatives p capacities active new
finished p capacities active gone kept old new eg eo zero h =
    let e : new ≡ h.0 = h.1 ∙ ap (λ (x : List (List ℕ)). x ++ h.0) eo in
    let found : AreFound p capacities kept [] active h.0 = subst (λ (x : List ℕ). AreFound p capacities kept x active h.0) eg h.2 in
    subst (λ (x : List (List ℕ)). AreAlternatives p capacities active x) (sym e) (found-alternatives p capacities active h.0 (found-same p capacities kept none_kept [] active h.0 zero found))
