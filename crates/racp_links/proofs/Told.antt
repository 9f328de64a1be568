-- Which link is told to be wrong.
use Rattle.std.proofs.Common.{◌≡◌, ◌∙◌, ℕ, inl, inr, List, Ok, Err, ap, sym, refl, subst, arith}
use Rattle.std.proofs.lemmas.Bool.{cases_order}
use Rattle.racp_links.specs.declared.link.Link.{Link}
use Rattle.racp_links.specs.declared.fault.LinkFault.{LinkFault}
use Rattle.racp_links.specs.declared.fault.LinkFault.TheVariants.{NoTask, Overlap, TooLong, Memory}
use Rattle.racp_links.specs.Faults.{IsWell, AreWell, IsWrong, IsFirstWrong, IsRefused, IsAt, jobs_before, link_at}
use Rattle.racp_links.specs.Laws.{FirstWrongIsTold}

-- nothing is wrong with a link that is well
well_is_right : (durations : List ℕ) (jobs : ℕ) (link : Link) (fault : LinkFault) → IsWell durations jobs link → IsWrong durations jobs link fault → ⊥
well_is_right durations jobs link (NoTask k) well wrong = wrong well.names
well_is_right durations jobs link (Overlap k) well wrong = omega (arith, well.apart, wrong.1)
well_is_right durations jobs link (TooLong k) well wrong = elim wrong.2 [
  | inl long ↦ omega (arith, long, well.short)
  | inr many ↦ omega (arith, many.1, well.numbered many.0)
]
well_is_right durations jobs link Memory well wrong = wrong

-- one thing is wrong with a link
one_is_wrong : (durations : List ℕ) (jobs : ℕ) (link : Link) (k : ℕ) (one other : LinkFault) → IsAt k one → IsAt k other →
    IsWrong durations jobs link one → IsWrong durations jobs link other → other ≡ one
one_is_wrong durations jobs link k (NoTask a) (NoTask b) at there w v = ap NoTask (there ∙ sym at)
one_is_wrong durations jobs link k (NoTask a) (Overlap b) at there w v = absurd (w v.0)
one_is_wrong durations jobs link k (NoTask a) (TooLong b) at there w v = absurd (w v.0)
one_is_wrong durations jobs link k (NoTask a) Memory at there w v = absurd v
one_is_wrong durations jobs link k (Overlap a) (NoTask b) at there w v = absurd (v w.0)
one_is_wrong durations jobs link k (Overlap a) (Overlap b) at there w v = ap Overlap (there ∙ sym at)
one_is_wrong durations jobs link k (Overlap a) (TooLong b) at there w v = absurd (omega (arith, w.1, v.1))
one_is_wrong durations jobs link k (Overlap a) Memory at there w v = absurd v
one_is_wrong durations jobs link k (TooLong a) (NoTask b) at there w v = absurd (v w.0)
one_is_wrong durations jobs link k (TooLong a) (Overlap b) at there w v = absurd (omega (arith, w.1, v.1))
one_is_wrong durations jobs link k (TooLong a) (TooLong b) at there w v = ap TooLong (there ∙ sym at)
one_is_wrong durations jobs link k (TooLong a) Memory at there w v = absurd v
one_is_wrong durations jobs link k Memory other at there w v = absurd w

-- if all links are well, none is the first that is wrong
none_is_wrong : (durations : List ℕ) (links : List Link) (k : ℕ) (fault : LinkFault) → AreWell durations links → IsFirstWrong durations links k fault → ⊥
none_is_wrong durations links k fault well first =
    well_is_right durations (jobs_before durations links k) (link_at links k) fault (well k first.place) first.wrong

-- of two links, each the first that is wrong, one is the other, and the same is wrong with it
one_is_first : (durations : List ℕ) (links : List Link) (k q : ℕ) (fault told : LinkFault) → IsAt k fault → IsAt q told →
    IsFirstWrong durations links k fault → IsFirstWrong durations links q told → told ≡ fault
one_is_first durations links k q fault told at there first other = elim (cases_order q k) [
  | inl same ↦
      let P : ℕ → Type 0 = λ n. IsAt n told in
      let Q : ℕ → Type 0 = λ n. IsWrong durations (jobs_before durations links n) (link_at links n) told in
      one_is_wrong durations (jobs_before durations links k) (link_at links k) k fault told at (subst P same there) first.wrong (subst Q same other.wrong)
  | inr apart ↦ elim apart [
    | inl less ↦ absurd (well_is_right durations (jobs_before durations links q) (link_at links q) told (first.before q less) other.wrong)
    | inr more ↦ absurd (well_is_right durations (jobs_before durations links k) (link_at links k) fault (other.before k more) first.wrong)
  ]
]

-- what is told is the first that is wrong
refused_is_first : (durations : List ℕ) (links : List Link) (k : ℕ) (fault told : LinkFault) → IsAt k fault →
    IsFirstWrong durations links k fault → IsRefused durations links told → told ≡ fault
refused_is_first durations links k fault (NoTask q) at first refused = one_is_first durations links k q fault (NoTask q) at refl first refused
refused_is_first durations links k fault (Overlap q) at first refused = one_is_first durations links k q fault (Overlap q) at refl first refused
refused_is_first durations links k fault (TooLong q) at first refused = one_is_first durations links k q fault (TooLong q) at refl first refused
refused_is_first durations links k fault Memory at first refused = absurd (none_is_wrong durations links k fault refused first)

-- if a link is the first that is wrong, it is told, with what is wrong with it
pub first_is_told : FirstWrongIsTold
first_is_told durations links k fault (Ok made) at first mapped = absurd (none_is_wrong durations links k fault mapped.0 first)
first_is_told durations links k fault (Err told) at first mapped = ap Err (refused_is_first durations links k fault told at first mapped)
