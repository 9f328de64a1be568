-- A text is read as at most one thing, a network or a fault, and as something.
use Rattle.std.proofs.Common.{◌≡◌, ℕ, List, inl, inr, refl, sym, ◌∙◌, ap, subst, Ok, Err}
use Rattle.std.specs.Prelude.{Result}
use Rattle.racp_model.specs.Project.{Project, number, IsSound}
use Rattle.racp_model.specs.Path.{HasRing}
use Rattle.racp_model.specs.Made.{IsSameProject}
use Rattle.racp_model.specs.Laws.{RankingOrRing, RelationIsNetwork, AcyclicHasNetwork}
use Rattle.racp_model.proofs.lemmas.Relations.{composed}
use Rattle.racp_sm.specs.Reading.{IsReading, reading}
use Rattle.racp_text.specs.Faults.{fault_at}
use Rattle.racp_sm.specs.Laws.{ReadingIsOne, TextIsRead}
use Rattle.racp_sm.specs.Faults.{SmFault}
use Rattle.racp_sm.specs.declared.fault.SmFaultKind.TheVariants.{Cycle}
use Rattle.racp_model.proofs.lemmas.Results.{IsFault, same_ok}
use Rattle.racp_sm.proofs.Limits.{IsWithin, reading_ok}

-- what has a network has no ring
pub no_ring : RankingOrRing → (given made : Project) → IsWithin given → IsSameProject given made → IsSound made → HasRing given → ⊥
no_ring law given made within same sound ring =
    (law given within.1).1 (sound.acyclic.0, λ i j before. sound.acyclic.1 i j ((same.arcs (number i, number j)).1 before)) ring

pub not_both : RankingOrRing → (text : List ℕ) (network : Project) (fault : SmFault) → IsReading text (Ok network) → IsReading text (Err fault) → ⊥
not_both law text network fault x (inl e) = subst IsFault (sym e ∙ x.1) tt
not_both law text network fault x (inr ring) =
    no_ring law x.0 network (reading_ok text x.0 x.1) x.2 x.3 (subst HasRing (same_ok ring.0 x.0 (sym ring.1 ∙ x.1)) ring.2)

abbrev pub err_or : SmFault → Result Project SmFault → SmFault
err_or other (Ok project) = other
err_or other (Err fault) = fault

pub same_fault : (text : List ℕ) (f g : SmFault) → IsReading text (Err f) → IsReading text (Err g) → f ≡ g
same_fault text f g (inl e) (inl d) = ap (err_or f) (sym e ∙ d)
same_fault text f g (inl e) (inr ring) = absurd (subst IsFault (sym e ∙ ring.1) tt)
same_fault text f g (inr ring) (inl e) = absurd (subst IsFault (sym e ∙ ring.1) tt)
same_fault text f g (inr ring) (inr other) = ring.3 ∙ sym other.3

pub reading_one : RelationIsNetwork → RankingOrRing → ReadingIsOne
reading_one one law text (Ok p) (Ok q) x y =
    let same : y.0 ≡ x.0 = same_ok y.0 x.0 (sym y.1 ∙ x.1) in
    ap Ok (one p q x.3 y.3 (composed x.0 p q x.2 (subst (λ given. IsSameProject given q) same y.2)))
reading_one one law text (Ok p) (Err g) x y = absurd (not_both law text p g x y)
reading_one one law text (Err f) (Ok q) x y = absurd (not_both law text q f y x)
reading_one one law text (Err f) (Err g) x y = ap Err (same_fault text f g x y)

pub text_read : RankingOrRing → AcyclicHasNetwork → TextIsRead
text_read law made text = by_reading (reading text) refl
  where
    by_reading : (r : Result Project SmFault) → reading text ≡ r → (x : Result Project SmFault) × IsReading text x
    by_reading (Err fault) e = (Err fault, inl e)
    by_reading (Ok project) e =
        let within = reading_ok text project e in
        elim (law project within.1).0 [
          | inl acyclic ↦ let network = made project within.0 within.1 acyclic in (Ok network.0, (project, e, network.1, network.2))
          | inr ring ↦ (Err (fault_at Cycle 0), inr (project, e, ring, refl))
        ]
