-- Which link of phases is told to be wrong.
use Rattle.std.proofs.Common.{◌≡◌, ◌∙◌, ℕ, inl, inr, List, Ok, Err, ap, sym, refl, subst, arith}
use Rattle.std.proofs.lemmas.Bool.{cases_order, both_ways}
use Rattle.racp_links.specs.declared.link.Link.{Link}
use Rattle.racp_links.specs.declared.fault.PhaseFault.{PhaseFault}
use Rattle.racp_links.specs.declared.fault.PhaseFault.TheVariants.{TooMany, Parent, NoTask, Inside, Kind, Memory}
use Rattle.racp_links.specs.Faults.{link_at}
use Rattle.racp_links.specs.Phases.{is_in}
use Rattle.racp_links.specs.PhaseFaults.{is_finish_to_start, IsSpreadable, AreSpreadable, IsUnspread, IsFirstUnspread, IsNotSpread, IsOfLink}
use Rattle.racp_links.specs.Laws.{FirstUnspreadIsTold}

-- nothing is wrong with a link that can be spread
well_is_right : (parents : List ℕ) (link : Link) (fault : PhaseFault) → IsSpreadable parents link → IsUnspread parents link fault → ⊥
well_is_right parents link TooMany well wrong = wrong
well_is_right parents link (Parent k) well wrong = wrong
well_is_right parents link (NoTask k) well wrong = wrong well.names
well_is_right parents link (Inside k) well wrong = elim wrong.1 [
  | inl first ↦ both_ways (is_in parents link.before link.after) well.first first
  | inr second ↦ both_ways (is_in parents link.after link.before) well.second second
]
well_is_right parents link (Kind k) well wrong = both_ways (is_finish_to_start link.kind) wrong.3 (well.kind wrong.2)
well_is_right parents link Memory well wrong = wrong

-- one thing is wrong with a link
one_is_wrong : (parents : List ℕ) (link : Link) (k : ℕ) (one other : PhaseFault) → IsOfLink k one → IsOfLink k other →
    IsUnspread parents link one → IsUnspread parents link other → other ≡ one
one_is_wrong parents link k TooMany other at there w v = absurd w
one_is_wrong parents link k (Parent a) other at there w v = absurd w
one_is_wrong parents link k (NoTask a) TooMany at there w v = absurd v
one_is_wrong parents link k (NoTask a) (Parent b) at there w v = absurd v
one_is_wrong parents link k (NoTask a) (NoTask b) at there w v = ap NoTask (there ∙ sym at)
one_is_wrong parents link k (NoTask a) (Inside b) at there w v = absurd (w v.0)
one_is_wrong parents link k (NoTask a) (Kind b) at there w v = absurd (w v.0)
one_is_wrong parents link k (NoTask a) Memory at there w v = absurd v
one_is_wrong parents link k (Inside a) TooMany at there w v = absurd v
one_is_wrong parents link k (Inside a) (Parent b) at there w v = absurd v
one_is_wrong parents link k (Inside a) (NoTask b) at there w v = absurd (v w.0)
one_is_wrong parents link k (Inside a) (Inside b) at there w v = ap Inside (there ∙ sym at)
one_is_wrong parents link k (Inside a) (Kind b) at there w v = absurd (v.1 w.1)
one_is_wrong parents link k (Inside a) Memory at there w v = absurd v
one_is_wrong parents link k (Kind a) TooMany at there w v = absurd v
one_is_wrong parents link k (Kind a) (Parent b) at there w v = absurd v
one_is_wrong parents link k (Kind a) (NoTask b) at there w v = absurd (v w.0)
one_is_wrong parents link k (Kind a) (Inside b) at there w v = absurd (w.1 v.1)
one_is_wrong parents link k (Kind a) (Kind b) at there w v = ap Kind (there ∙ sym at)
one_is_wrong parents link k (Kind a) Memory at there w v = absurd v
one_is_wrong parents link k Memory other at there w v = absurd w

-- if all links can be spread, none is the first that is wrong
none_is_wrong : (parents : List ℕ) (links : List Link) (k : ℕ) (fault : PhaseFault) → AreSpreadable parents links → IsFirstUnspread parents links k fault → ⊥
none_is_wrong parents links k fault well first = well_is_right parents (link_at links k) fault (well k first.place) first.wrong

-- of two links, each the first that is wrong, one is the other, and the same is wrong with it
one_is_first : (parents : List ℕ) (links : List Link) (k q : ℕ) (fault told : PhaseFault) → IsOfLink k fault → IsOfLink q told →
    IsFirstUnspread parents links k fault → IsFirstUnspread parents links q told → told ≡ fault
one_is_first parents links k q fault told at there first other = elim (cases_order q k) [
  | inl same ↦
      let P : ℕ → Type 0 = λ n. IsOfLink n told in
      let Q : ℕ → Type 0 = λ n. IsUnspread parents (link_at links n) told in
      one_is_wrong parents (link_at links k) k fault told at (subst P same there) first.wrong (subst Q same other.wrong)
  | inr apart ↦ elim apart [
    | inl less ↦ absurd (well_is_right parents (link_at links q) told (first.before q less) other.wrong)
    | inr more ↦ absurd (well_is_right parents (link_at links k) fault (other.before k more) first.wrong)
  ]
]

-- what is told is the first that is wrong
refused_is_first : (parents : List ℕ) (links : List Link) (k : ℕ) (fault told : PhaseFault) → IsOfLink k fault →
    IsFirstUnspread parents links k fault → IsNotSpread parents links told → told ≡ fault
refused_is_first parents links k fault TooMany at first refused = absurd (omega (arith, refused, first.outline.few))
refused_is_first parents links k fault (Parent q) at first refused = absurd (omega (arith, refused.late, first.outline.before q refused.place))
refused_is_first parents links k fault (NoTask q) at first refused = one_is_first parents links k q fault (NoTask q) at refl first refused
refused_is_first parents links k fault (Inside q) at first refused = one_is_first parents links k q fault (Inside q) at refl first refused
refused_is_first parents links k fault (Kind q) at first refused = one_is_first parents links k q fault (Kind q) at refl first refused
refused_is_first parents links k fault Memory at first refused = absurd (none_is_wrong parents links k fault refused.1 first)

-- if a link is the first that is wrong, it is told, with what is wrong with it
pub first_is_told : FirstUnspreadIsTold
first_is_told parents links k fault (Ok made) at first spread = absurd (none_is_wrong parents links k fault spread.1 first)
first_is_told parents links k fault (Err told) at first spread = ap Err (refused_is_first parents links k fault told at first spread)
