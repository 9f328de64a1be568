-- Contracts of private functions: the search of a box of vectors below one that is known to be enough.
use Rattle.std.specs.Prelude.{◌≡◌, ◌≢◌, ◌⊎◌, ℕ, ◌+◌, ◌<◌, ◌≤◌, Bool, IsTrue, IsFalse, List, length, slice_index, set, Contains, Option, Some, None}
use Rattle.racp_model.specs.Project.{Project}
use Rattle.racp_model.specs.Formed.{HasBounds}
use Rattle.racp_model.specs.Terms.{Terms, AreTermsOf, cost, IsBefore}
use Rattle.racp_model.specs.Window.{IsYes, IsNo}
use Rattle.racp_candidates.specs.Box.{IsBetween}
use Rattle.racp_by_questions.specs.Enough.{IsAtMost, IsEnoughWithin, IsLeastCost}
use Rattle.racp_by_questions.specs.declared.span.Span.{Span}
use Rattle.racp_by_questions.specs.declared.known.Known.{Known}
use Rattle.racp_by_questions.specs.declared.known.Told.{Told}
use Rattle.racp_by_questions.specs.declared.known.Told.TheVariants.{Enough, Refuted, Open}
use Rattle.racp_by_questions.specs.declared.subject.Subject.{Subject}

-- the order's terms are those of the network, and the window has bounds for each job
pub record IsSubject (s : Subject) : Type 0 where
  pub terms : AreTermsOf s.net.now s.order.now
  pub root : HasBounds s.net.now s.root.now

-- capacities that are enough: within the roofs, and some starts in the window fit
abbrev pub IsEnough : Subject → List ℕ → Type 0
IsEnough s vector = IsEnoughWithin s.net.now s.root.now s.roofs.now vector

-- all of these cost at least so much
abbrev pub CostAtLeast : Subject → ℕ → Type 0
CostAtLeast s least = IsLeastCost s.net.now s.order.now s.root.now s.roofs.now least

-- what is known: a vector that is enough, with its cost, and vectors with which nothing fits
pub record IsKnown (s : Subject) (known : Known) : Type 0 where
  pub enough : IsEnough s known.best
  pub priced : known.cost ≡ cost s.order.now known.best
  pub places : (other : List ℕ) → Contains known.refuted.items other → length other ≡ s.net.now.resources
  pub refuted : (other : List ℕ) → Contains known.refuted.items other → IsNo s.net.now other s.root.now

-- what stands before a vector stands before another too
abbrev pub IsNoLater : Terms → List ℕ → List ℕ → Type 0
IsNoLater terms old new = (vector : List ℕ) → IsBefore terms vector new → IsBefore terms vector old

-- what is known after some questions: no less than before
pub record IsBetterKnown (s : Subject) (old new : Known) : Type 0 where
  pub known : IsKnown s new
  pub no_later : IsNoLater s.order.now old.best new.best

-- a vector is at most one of some others
abbrev pub IsRefutedBy : List (List ℕ) → List ℕ → Type 0
IsRefutedBy refuted units =
    (other : List ℕ) × Contains refuted other × ((k : ℕ) → k < length units → slice_index units k ≤ slice_index other k)

-- vectors after one more was kept: each is one of the old ones, or this one
abbrev pub AreKeptWith : (old : List (List ℕ)) → List ℕ → (new : List (List ℕ)) → Type 0
AreKeptWith old units new = (other : List ℕ) → Contains new other → Contains old other ⊎ (other ≡ units)

-- a vector is the best one now if it stands before the old one, and nothing else changes
pub record IsLearnt (terms : Terms) (old : Known) (units : List ℕ) (new : Known) : Type 0 where
  pub best : ((new.best ≡ units) × IsBefore terms units old.best) ⊎
      ((new.best ≡ old.best) × (IsBefore terms units old.best → ⊥))
  pub priced : new.cost ≡ cost terms new.best
  pub refuted : new.refuted ≡ old.refuted

-- what is told of a vector: nothing fits, it does not stand before the best one, or neither, if nodes had a bound
abbrev pub IsTold : Subject → List ℕ → (most : Option ℕ) → List ℕ → Told → Type 0
IsTold s units most best Enough = IsBefore s.order.now units best → ⊥
IsTold s units most best Refuted = IsNo s.net.now units s.root.now
IsTold s units most best Open = most ≢ None

-- whether nothing fits
abbrev pub SaysRefuted : Told → Bool → Type 0
SaysRefuted Refuted result = IsTrue result
SaysRefuted Enough result = IsFalse result
SaysRefuted Open result = IsFalse result

-- a box of vectors within the roofs
pub record IsSpan (s : Subject) (span : Span) : Type 0 where
  pub low : length span.low ≡ s.net.now.resources
  pub high : length span.high ≡ s.net.now.resources
  pub bounds : IsAtMost s.net.now span.low span.high
  pub within : IsAtMost s.net.now span.high s.roofs.now

-- boxes of such vectors
abbrev pub AreSpans : Subject → List Span → Type 0
AreSpans s spans = (span : Span) → Contains spans span → IsSpan s span

-- no vector of a box, with which some starts fit, stands before the best one
abbrev pub HasNoneBefore : Subject → Span → List ℕ → Type 0
HasNoneBefore s span best = (vector : List ℕ) → IsBetween span.low span.high vector →
    IsYes s.net.now vector s.root.now → IsBefore s.order.now vector best → ⊥

-- a box has all vectors within the roofs, with which some starts fit, that cost less than a number
abbrev pub HasAllBelow : Subject → Span → ℕ → Type 0
HasAllBelow s span rest =
    (vector : List ℕ) → IsEnough s vector → cost s.order.now vector < rest → IsBetween span.low span.high vector

-- a box was searched
pub record IsSearched (s : Subject) (span : Span) (old new : Known) : Type 0 where
  pub better : IsBetterKnown s old new
  pub none : HasNoneBefore s span new.best

-- a box was halved between two numbers of units of the resource at place k
pub record AreHalved (low high : List ℕ) (k : ℕ) (halves : Span × Span) : Type 0 where
  pub middle : ℕ
  pub from : slice_index low k ≤ middle
  pub to : middle < slice_index high k
  pub below : halves.0 ≡ record { low = low; high = set high k middle }
  pub above : halves.1 ≡ record { low = set low k (middle + 1); high = high }

-- high numbers, cut so that the box still has each vector that stands before the best one
pub record IsCut (p : Project) (terms : Terms) (low high best cut : List ℕ) : Type 0 where
  pub places : length cut ≡ p.resources
  pub above : IsAtMost p low cut
  pub below : IsAtMost p cut high
  pub all : (vector : List ℕ) → IsBetween low high vector → IsBefore terms vector best → IsAtMost p vector cut

-- these, or that no vector of the box stands before the best one
abbrev pub IsCutAnswer : Project → Terms → (low high best : List ℕ) → Option (List ℕ) → Type 0
IsCutAnswer p terms low high best (Some cut) = IsCut p terms low high best cut
IsCutAnswer p terms low high best None =
    (vector : List ℕ) → IsBetween low high vector → IsBefore terms vector best → ⊥

-- cut high numbers of a box, and a resource, by place, of which the box then has several numbers of units
pub record IsPart (s : Subject) (span : Span) (old new : Known) (part : List ℕ × ℕ) : Type 0 where
  pub better : IsBetterKnown s old new
  pub cut : IsCut s.net.now s.order.now span.low span.high old.best part.0
  pub resource : part.1 < length span.low
  pub several : slice_index span.low part.1 < slice_index part.0 part.1

-- what is left of a box once its high vector was asked for: these, or nothing, if the box was searched by that
abbrev pub IsLeftOf : Subject → Span → (old new : Known) → Option (List ℕ × ℕ) → Type 0
IsLeftOf s span old new (Some part) = IsPart s span old new part
IsLeftOf s span old new None = IsSearched s span old new

-- the most units of resource k, up to a roof, of a vector that stands before the best one and is at or above a low one
pub record IsMostBefore (p : Project) (terms : Terms) (low best : List ℕ) (k roof units : ℕ) : Type 0 where
  pub from : slice_index low k ≤ units
  pub to : units ≤ roof
  pub most : (vector : List ℕ) → length vector ≡ p.resources → IsAtMost p low vector → slice_index vector k ≤ roof →
      IsBefore terms vector best → slice_index vector k ≤ units

-- a vector as it was
pub record IsAsBefore (old new : List ℕ) : Type 0 where
  pub places : length new ≡ length old
  pub same : (k : ℕ) → k < length old → slice_index new k ≡ slice_index old k

-- of the first n resources one of which a box has several numbers of units, or none if it has one of each
abbrev pub IsWidest : (n : ℕ) → (low high : List ℕ) → Option ℕ → Type 0
IsWidest n low high (Some k) = (k < n) × (slice_index low k < slice_index high k)
IsWidest n low high None = (k : ℕ) → k < n → slice_index high k ≤ slice_index low k
