-- Steps one after another.
use Rattle.std.proofs.Common.{◌≡◌, refl, sym, ◌∙◌, ap, subst, ℕ, List, [], ◌∷◌, ◌++◌, map, Bor}
use Rattle.racp_xml.specs.Nesting.{AreSteps, IsOpenAfter, IsStep, name_of}
use Rattle.racp_xml.specs.declared.mark.Kind.{Kind}
use Rattle.racp_xml.specs.declared.mark.Kind.TheVariants.{Closes}
use Rattle.racp_xml.specs.declared.mark.Mark.{Mark}

-- one step more
pub one_more : (before middle after : List (List ℕ)) (marks : List Mark) (mark : Mark) → AreSteps before marks middle → IsStep mark.kind mark.name.now middle after →
    AreSteps before (marks ++ mark ∷ []) after
one_more before middle after [] mark same step = (after, subst (λ (names : List (List ℕ)). IsStep mark.kind mark.name.now names after) same step, refl)
one_more before middle after (first ∷ marks) mark steps step = (steps.0, steps.1, one_more steps.0 middle after marks mark steps.2 step)

-- the names of elements and one more
names_more : (before : List (Bor (List ℕ))) (last : Bor (List ℕ)) → map name_of (before ++ last ∷ []) ≡ map name_of before ++ last.now ∷ []
names_more [] last = refl
names_more (name ∷ before) last = ap (λ (names : List (List ℕ)). name.now ∷ names) (names_more before last)

-- the last element is closed
pub closes : (mark : Mark) (before after : List (Bor (List ℕ))) (last : Bor (List ℕ)) → mark.kind ≡ Closes → before ≡ after ++ last ∷ [] → last.now ≡ mark.name.now →
    IsOpenAfter mark before after
closes mark before after last kind items same =
    let names : map name_of before ≡ map name_of after ++ mark.name.now ∷ [] =
    ap (λ (names : List (Bor (List ℕ))). map name_of names) items ∙ names_more after last ∙ ap (λ (name : List ℕ). map name_of after ++ name ∷ []) same in
    subst (λ (k : Kind). IsStep k mark.name.now (map name_of before) (map name_of after)) (sym kind) names
