-- Each task of an outline is one of the jobs.
use Rattle.std.proofs.Common.{◌≡◌, ℕ, zero, suc, ◌+◌, ◌-◌, ◌<◌, ◌||◌, Bool, true, false, List, [], ◌∷◌, ◌++◌, All, arith, fold, if◌then◌else◌, length, nat_le, refl, subst, sym}
use Rattle.std.proofs.lemmas.Bool.{leb-false, true≢false}
use Rattle.std.proofs.lemmas.List.Elements.{All-append, All-push, All-take}
use Rattle.racp_model.specs.Project.{Project}
use Rattle.racp_show.specs.Called.{printed_lines}
use Rattle.racp_show.specs.Lines.{hashes, is_end, is_heading, is_wait, title_of}
use Rattle.racp_show.specs.Entries.{IsWithin, is_full}
use Rattle.racp_show.specs.Outlines.{Line, Outlined, IsOutlineOf, ended, headed, named, nothing, outline_of, outside, with_line, with_more}
use Rattle.racp_show.specs.Outlines.Line.{PhaseLine, TaskLine}

-- the rows of an outline, and the phases that have begun, are no tasks or one of so many
record IsInside (jobs : ℕ) (o : Outlined) : Type 0 where
  rows : All (IsWithin jobs) o.rows
  begun : All (IsWithin jobs) o.begun

none_at_all : (P : Line → Type 0) → All P []
none_at_all P = λ k d l. absurd (omega (arith, l))

inside-nothing : (jobs : ℕ) → IsInside jobs nothing
inside-nothing jobs = record { rows = none_at_all (IsWithin jobs); begun = none_at_all (IsWithin jobs) }

inside-if : (jobs : ℕ) (b : Bool) (x y : Outlined) → IsInside jobs x → IsInside jobs y → IsInside jobs (if b then x else y)
inside-if jobs true x y p q = p
inside-if jobs false x y p q = q

inside-outside : (jobs depth : ℕ) (o : Outlined) → IsInside jobs o → All (IsWithin jobs) (outside depth o.begun)
inside-outside jobs depth o h = All-take (IsWithin jobs) _ o.begun h.begun

inside-ended : (jobs depth : ℕ) (o : Outlined) → IsInside jobs o → IsInside jobs (ended depth o)
inside-ended jobs depth o h = record { rows = h.rows; begun = inside-outside jobs depth o h }

inside-headed : (jobs depth : ℕ) (title : List ℕ) (o : Outlined) → IsInside jobs o → IsInside jobs (headed depth title o)
inside-headed jobs depth title o h = record {
  rows = h.rows;
  begun = All-push (IsWithin jobs) (outside depth o.begun) (PhaseLine depth title) (inside-outside jobs depth o h) tt;
}

-- where a job is a task, there are fewer before it
or_no : (a b : Bool) → (a || b) ≡ false → b ≡ false
or_no true b is = absurd (true≢false is)
or_no false b is = is

fewer : (jobs : ℕ) (o : Outlined) → is_full jobs o ≡ false → o.tasks < jobs
fewer jobs o is = leb-false jobs o.tasks (or_no o.waits (nat_le jobs o.tasks) is)

inside-one_more : (jobs : ℕ) (o : Outlined) (b : Bool) → is_full jobs o ≡ b → IsInside jobs o →
    IsInside jobs (if b then o else record o {
      rows = o.rows ++ (o.begun ++ TaskLine o.depth (o.tasks + 1) ∷ []);
      begun = [];
      tasks = o.tasks + 1;
    })
inside-one_more jobs o true is h = h
inside-one_more jobs o false is h = record {
  rows = All-append (IsWithin jobs) o.rows (o.begun ++ TaskLine o.depth (o.tasks + 1) ∷ []) h.rows
      (All-push (IsWithin jobs) o.begun (TaskLine o.depth (o.tasks + 1)) h.begun (omega arith, omega (arith, fewer jobs o is)));
  begun = none_at_all (IsWithin jobs);
}

inside-named : (jobs : ℕ) (o : Outlined) → IsInside jobs o → IsInside jobs (named jobs o)
inside-named jobs o h = inside-one_more jobs o (is_full jobs o) refl h

inside-line : (jobs : ℕ) (o : Outlined) (line : List ℕ) → IsInside jobs o → IsInside jobs (with_line jobs o line)
inside-line jobs o line h =
    inside-if jobs (is_wait line) _ _ (record { rows = h.rows; begun = h.begun })
    (inside-if jobs (is_end line) _ _ (inside-ended jobs (hashes line - 1) o h)
    (inside-if jobs (is_heading line) _ _ (inside-headed jobs (hashes line - 1) (title_of line) o h) (inside-named jobs o h)))

inside-lines : (jobs : ℕ) (o : Outlined) (lines : List (List ℕ)) → IsInside jobs o → IsInside jobs (fold (with_line jobs) o lines)
inside-lines jobs o [] h = h
inside-lines jobs o (line ∷ lines) h = inside-lines jobs (with_line jobs o line) lines (inside-line jobs o line h)

inside-more : (jobs more : ℕ) (o : Outlined) → IsInside jobs o → IsInside jobs (with_more jobs more o)
inside-more jobs zero o h = h
inside-more jobs (suc more) o h = inside-named jobs (with_more jobs more o) (inside-more jobs more o h)

-- each task of an outline is one of the jobs
pub rows_within : (p : Project) (o : Outlined) → IsOutlineOf p o → All (IsWithin (length p.jobs)) o.rows
rows_within p o h =
    let jobs = length p.jobs in
    let inside : IsInside jobs (outline_of jobs h.0) =
    inside-more jobs jobs _ (inside-lines jobs nothing (printed_lines h.0) (inside-nothing jobs)) in
    subst (λ (o : Outlined). All (IsWithin jobs) o.rows) (sym h.1) inside.rows
