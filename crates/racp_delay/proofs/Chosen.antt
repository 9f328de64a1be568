-- What is to be chosen where the first of the undecided goes and where it stays.
use Rattle.std.proofs.Common.{◌≡◌, ℕ, ◌+◌, ◌<◌, ◌≤◌, List, [], ◌∷◌, ◌++◌, Bool, All, length, slice_index, arith, ap, sym, subst, ◌∙◌}
use Rattle.std.specs.List.Sorted.{IsStrictlyIncreasing}
use Rattle.racp_model.specs.Limits.{most_load}
use Rattle.racp_model.specs.Project.{Project, place, request, IsNumber}
use Rattle.racp_delay.specs.Alternatives.{load}
use Rattle.racp_delay.specs.Found.{AreWithin, AreAdded, IsChoice, IsAmong, IsExtended, IsWhereGoes, IsWhereStays, with_load}
use Rattle.racp_delay.specs.declared.choosing.Choice.{Choice}
use Rattle.racp_delay.proofs.Adding.{all-head, all-push, all-same, all-tail, left-is, rising-rest}

module _ (c : Choice) (h : IsChoice c) (job : ℕ) (others : List ℕ) (first : c.undecided.now ≡ job ∷ others) where
  -- the first is a job
  pub choice-first : IsNumber (length c.net.now.jobs) job
  choice-first = all-head (IsNumber (length c.net.now.jobs)) job c.undecided.now others first h.jobs

  -- its requests are among what is left
  pub choice-within : (k : ℕ) → k < c.net.now.resources → request c.net.now (place job) k ≤ slice_index c.left k
  choice-within k l = omega (arith, left-is c.net.now (slice_index c.kept) (slice_index c.left) job c.undecided.now others first h.sums k l)

  module _ (new : Choice) (net : new.net.now ≡ c.net.now) (capacities : new.capacities.now ≡ c.capacities.now) (undecided : new.undecided.now ≡ others) where
    among : ((k : ℕ) → k < c.net.now.resources → slice_index new.left k ≡ slice_index new.kept k + load c.net.now k others) → ((k : ℕ) → k < c.net.now.resources → slice_index new.left k ≤ most_load) → IsAmong c others new
    among sums small = record {
      choice = record {
        units = ap length capacities ∙ (h.units ∙ ap (λ (p : Project). p.resources) (sym net));
        jobs = subst (λ (p : Project). All (IsNumber (length p.jobs)) new.undecided.now) (sym net) (subst (λ (x : List ℕ). All (IsNumber (length c.net.now.jobs)) x) (sym undecided) (all-tail (IsNumber (length c.net.now.jobs)) job c.undecided.now others first h.jobs));
        rises = subst (λ (x : List ℕ). IsStrictlyIncreasing x) (sym undecided) (rising-rest job c.undecided.now others first h.rises);
        sums = subst (λ (p : Project). (k : ℕ) → k < p.resources → slice_index new.left k ≡ with_load p (slice_index new.kept) new.undecided.now k) (sym net)
            (subst (λ (x : List ℕ). (k : ℕ) → k < c.net.now.resources → slice_index new.left k ≡ with_load c.net.now (slice_index new.kept) x k) (sym undecided) sums);
        small = subst (λ (p : Project). (k : ℕ) → k < p.resources → slice_index new.left k ≤ most_load) (sym net) small;
      };
      net = net;
      capacities = capacities;
      undecided = undecided;
    }

    -- it goes
    pub choice-goes : new.kept ≡ c.kept → ((k : ℕ) → k < c.net.now.resources → slice_index new.left k + request c.net.now (place job) k ≡ slice_index c.left k) → IsWhereGoes c others new
    choice-goes kept less =
        let parts = left-is c.net.now (slice_index c.kept) (slice_index c.left) job c.undecided.now others first h.sums in
        record {
          among = among (λ k l. omega (arith, parts k l, less k l, ap (λ (x : List ℕ). slice_index x k) kept)) (λ k l. omega (arith, h.small k l, less k l));
          kept = kept;
        }

    -- it stays
    pub choice-stays : new.left ≡ c.left → ((k : ℕ) → k < c.net.now.resources → slice_index new.kept k ≡ slice_index c.kept k + request c.net.now (place job) k) → IsWhereStays c job others new
    choice-stays left more =
        let parts = left-is c.net.now (slice_index c.kept) (slice_index c.left) job c.undecided.now others first h.sums in
        let same : (k : ℕ) → slice_index new.left k ≡ slice_index c.left k = λ k. ap (λ (x : List ℕ). slice_index x k) left in
        record {
          among = among (λ k l. omega (arith, parts k l, more k l, same k)) (λ k l. omega (arith, h.small k l, same k));
          kept = more;
          left = left;
        }

module _ (c new : Choice) (others : List ℕ) (same : IsAmong c others new) where
  -- what is true in the same project of the same undecided
  same-parts : (F : Project → List ℕ → List ℕ → Type 0) → F new.net.now new.capacities.now new.undecided.now → F c.net.now c.capacities.now others
  same-parts F h =
      subst (λ (x : List ℕ). F c.net.now c.capacities.now x) same.undecided
      (subst (λ (x : List ℕ). F c.net.now x new.undecided.now) same.capacities
      (subst (λ (x : Project). F x new.capacities.now new.undecided.now) same.net h))

  -- fewer are undecided
  pub among-fewer : length others + 1 ≡ length c.undecided.now → length new.undecided.now + 1 ≡ length c.undecided.now
  among-fewer shorter = ap (λ (x : List ℕ). length x + 1) same.undecided ∙ shorter

  -- jobs are jobs
  pub among-jobs : (gone : List ℕ) → All (IsNumber (length c.net.now.jobs)) gone → All (IsNumber (length new.net.now.jobs)) gone
  among-jobs gone h = subst (λ (p : Project). All (IsNumber (length p.jobs)) gone) (sym same.net) h

  pub among-same : (gone now : List ℕ) → now ≡ gone → All (IsNumber (length c.net.now.jobs)) gone → All (IsNumber (length new.net.now.jobs)) now
  among-same gone now e h = among-jobs now (all-same (IsNumber (length c.net.now.jobs)) gone now e h)

  -- and so with one that goes
  pub among-goes : (job : ℕ) (gone pushed : List ℕ) → IsChoice c → c.undecided.now ≡ job ∷ others → pushed ≡ gone ++ job ∷ [] → All (IsNumber (length c.net.now.jobs)) gone → All (IsNumber (length new.net.now.jobs)) pushed
  among-goes job gone pushed choice first e h = among-jobs pushed (all-push (IsNumber (length c.net.now.jobs)) job gone pushed e h (choice-first c choice job others first))

-- what is found where the job goes is found of the choice before
module _ (c new : Choice) (others : List ℕ) (h : IsWhereGoes c others new) (chosen : List ℕ) where
  pub goes-extended : (IsWanted : List ℕ → Type 0) (found : Bool) (list : List ℕ) → IsExtended new.net.now new.capacities.now (slice_index new.kept) chosen new.undecided.now IsWanted found list
      → IsExtended c.net.now c.capacities.now (slice_index c.kept) chosen others IsWanted found list
  goes-extended IsWanted found list e =
      subst (λ (kept : List ℕ). IsExtended c.net.now c.capacities.now (slice_index kept) chosen others IsWanted found list) h.kept
      (same-parts c new others h.among (λ p capacities undecided. IsExtended p capacities (slice_index new.kept) chosen undecided IsWanted found list) e)

  pub goes-added : (old lists : List (List ℕ)) → AreAdded new.net.now new.capacities.now (slice_index new.kept) chosen new.undecided.now old lists
      → AreAdded c.net.now c.capacities.now (slice_index c.kept) chosen others old lists
  goes-added old lists e =
      subst (λ (kept : List ℕ). AreAdded c.net.now c.capacities.now (slice_index kept) chosen others old lists) h.kept
      (same-parts c new others h.among (λ p capacities undecided. AreAdded p capacities (slice_index new.kept) chosen undecided old lists) e)

-- and where it stays
module _ (c new : Choice) (job : ℕ) (others : List ℕ) (h : IsWhereStays c job others new) where
  pub stays-over : (AreWithin c.net.now c.capacities.now (slice_index c.left) → ⊥) → AreWithin new.net.now new.capacities.now (slice_index new.left) → ⊥
  stays-over over runs =
      over (subst (λ (left : List ℕ). AreWithin c.net.now c.capacities.now (slice_index left)) h.left
      (same-parts c new others h.among (λ p capacities _. AreWithin p capacities (slice_index new.left)) runs))

  pub stays-extended : (chosen : List ℕ) (IsWanted : List ℕ → Type 0) (found : Bool) (list : List ℕ) → IsExtended new.net.now new.capacities.now (slice_index new.kept) chosen new.undecided.now IsWanted found list
      → IsExtended c.net.now c.capacities.now (slice_index new.kept) chosen others IsWanted found list
  stays-extended chosen IsWanted found list e =
      same-parts c new others h.among (λ p capacities undecided. IsExtended p capacities (slice_index new.kept) chosen undecided IsWanted found list) e

  pub stays-added : (chosen : List ℕ) (old lists : List (List ℕ)) → AreAdded new.net.now new.capacities.now (slice_index new.kept) chosen new.undecided.now old lists
      → AreAdded c.net.now c.capacities.now (slice_index new.kept) chosen others old lists
  stays-added chosen old lists e =
      same-parts c new others h.among (λ p capacities undecided. AreAdded p capacities (slice_index new.kept) chosen undecided old lists) e
