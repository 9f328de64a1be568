-- How many series were answered while pairs of resources are asked one after the other.
use Rattle.std.proofs.Common.{◌≡◌, ℕ, zero, suc, ◌+◌, ◌-◌, ◌<◌, ◌≤◌, inl, inr, arith, ap}
use Rattle.std.proofs.lemmas.Bool.{cases_lt}
use Rattle.racp_model.specs.Schedule.{sum_below}
use Rattle.racp_model.proofs.lemmas.Sums.{sum_below-step}
use Rattle.racp_questions.specs.FirstYes.{MayGiveUp}
use Rattle.racp_questions.specs.declared.asker.AskStop.{AskStop}
use Rattle.racp_questions.specs.declared.asker.AskStop.TheVariants.{Stopped, Memory, NoThread}
use Rattle.racp_bounds.specs.Sharp.{pair_count}

-- the pairs of the resources before place k
abbrev pub rows_before : ℕ → ℕ → ℕ
rows_before resources k = sum_below k (λ i. resources - (i + 1))

-- with the pairs of that resource with those before place l
abbrev pub pairs_before : ℕ → ℕ → ℕ → ℕ
pairs_before resources k l = rows_before resources k + (l - (k + 1))

-- a sum of some first terms is at most that of more of them
front : (m n : ℕ) (f : ℕ → ℕ) → m ≤ n → sum_below m f ≤ sum_below n f
unfolding sum_below
front zero n f l = omega arith
front (suc m) zero f l = absurd (omega (arith, l))
front (suc m) (suc n) f l = elim (cases_lt m n) [
  | inl less ↦ let below : sum_below (suc m) f ≤ sum_below n f = front (suc m) n f (omega (arith, less)) in omega (arith, below)
  | inr most ↦ let same : suc m ≡ suc n = omega (arith, l, most) in let e = ap (λ i. sum_below i f) same in omega (arith, e)
]

-- the pairs of one more resource
pub row_counted : (resources k l : ℕ) → k < resources → resources ≤ l → l ≤ resources → pairs_before resources k l ≡ rows_before resources (k + 1)
row_counted resources k l less low high = omega (arith, less, low, high, sum_below-step k (λ i. resources - (i + 1)))

-- before a pair there are fewer pairs than there are
pub fewer_pairs : (resources k l : ℕ) → k < l → l < resources → pairs_before resources k l < pair_count resources
fewer_pairs resources k l less last =
    let step = sum_below-step k (λ i. resources - (i + 1)) in
    let most = front (k + 1) resources (λ i. resources - (i + 1)) (omega (arith, less, last)) in
    omega (arith, less, last, step, most)

-- an asker that gives up may stop while some series is not answered
pub gives_up : (may_stop may_want_thread left : Type 0) (stop : AskStop) → left → MayGiveUp may_stop may_want_thread stop → MayGiveUp (may_stop × left) may_want_thread stop
gives_up may_stop may_want_thread left (Stopped reached) some may = (may, some)
gives_up may_stop may_want_thread left Memory some may = tt
gives_up may_stop may_want_thread left NoThread some may = may

-- what is left where a part is left
pub gives_up_within : (may_stop may_want_thread part left : Type 0) (stop : AskStop) → (part → left) → MayGiveUp (may_stop × part) may_want_thread stop → MayGiveUp (may_stop × left) may_want_thread stop
gives_up_within may_stop may_want_thread part left (Stopped reached) more may = (may.0, more may.1)
gives_up_within may_stop may_want_thread part left Memory more may = tt
gives_up_within may_stop may_want_thread part left NoThread more may = may
