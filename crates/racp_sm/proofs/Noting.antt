-- Noting the values of the head, line by line.
use Rattle.std.proofs.Common.{◌≡◌, refl, sym, ◌∙◌, ap, ℕ, Bool, true, false, cond, List, [], ◌∷◌, length, arith, ◌<◌}
use Rattle.std.specs.Prelude.{Option, Some, None, not, ◌&&◌}
use Rattle.std.proofs.lemmas.Bool.{true≢false, and_left, cond-true, cond-false}
use Rattle.std.specs.Option.{is_some}
use Rattle.std.specs.List.{before_first, after_first, position_or_len, list_any}
use Rattle.racp_text.specs.Cuts.{AreParts}
use Rattle.racp_sm.specs.Lines.{Line, Word, words_in}
use Rattle.racp_sm.specs.Head.{Entries, is_colon, begins_with, first_or_empty, entries_of, entry, has_key, value_word, projects_key, jobs_key, renewable_key, nonrenewable_key, doubly_constrained_key}
use Rattle.racp_sm.specs.Reading.{from_first}
use Rattle.racp_sm.specs.Steps.{TakesBefore, has_mark, noted, kept_entry, after_line}
use Rattle.racp_sm.specs.declared.part.Part.TheVariants.{Precedence}
use Rattle.racp_sm.specs.declared.part.Mark.TheVariants.{Title}

-- what is kept, or else the entry of the lines still to come
abbrev pub or_entry : Option Word → List (List ℕ) → List Line → Option Word
or_entry (Some word) names lines = Some word
or_entry None names lines = entry names lines

abbrev pub or_entries : Entries → List Line → Entries
or_entries kept lines = record {
  projects = or_entry kept.projects projects_key lines;
  jobs = or_entry kept.jobs jobs_key lines;
  renewable = or_entry kept.renewable renewable_key lines;
  nonrenewable = or_entry kept.nonrenewable nonrenewable_key lines;
  doubly_constrained = or_entry kept.doubly_constrained doubly_constrained_key lines;
}

-- what is kept and the lines that are left give the entries of all lines of the head
pub record IsNoting (old lines : List Line) (kept : Entries) : Type 0 where
  entries : entries_of (before_first (has_mark (Title Precedence)) old) ≡ or_entries kept (before_first (has_mark (Title Precedence)) lines)
  rest : from_first (has_mark (Title Precedence)) old ≡ from_first (has_mark (Title Precedence)) lines

-- one entry goes over a line
pub note_entry : (names : List (List ℕ)) (line : Line) (lines : List Line) (kept : Option Word) → or_entry kept names (line ∷ lines) ≡ or_entry (noted names line kept) names lines
note_entry names line lines (Some word) = refl
note_entry names line lines None = by_key (has_key names line)
  where
    by_key : (b : Bool) → cond b (Some (value_word line)) (entry names lines) ≡ or_entry (cond b (Some (value_word line)) None) names lines
    by_key true = refl
    by_key false = refl

-- the first value is kept
pub kept_first : (kept : Option Word) (fits : Bool) (value new : Word) → is_some kept ≡ not true → fits ≡ true → new ≡ value → Some new ≡ kept_entry kept fits value
kept_first (Some word) fits value new n f e = absurd (true≢false n)
kept_first None fits value new n f e = ap Some e ∙ sym (cond-true fits (Some value) None f)

-- whether an element passes, by the place of the first that does
pub some_passes : (test : ℕ → Bool) (xs : List ℕ) → position_or_len test xs < length xs → list_any test xs ≡ true
some_passes test [] l = absurd (omega (arith, l))
some_passes test (x ∷ xs) l = grind (arith, l, some_passes test xs)

pub none_passes : (test : ℕ → Bool) (xs : List ℕ) → position_or_len test xs ≡ length xs → list_any test xs ≡ false
none_passes test [] e = refl
none_passes test (x ∷ xs) e = grind (arith, e, none_passes test xs)

-- a line without colon changes no value
pub kept-same : (names : List (List ℕ)) (line : Line) (kept : Option Word) → list_any is_colon line.bytes ≡ false → kept ≡ noted names line kept
kept-same names line (Some word) f = refl
kept-same names line None f = sym (cond-false _ (Some (value_word line)) None (and_left (list_any is_colon line.bytes) _ f))

pub no_colon : (line : Line) (text : List ℕ) (kept : Entries) → text ≡ line.bytes → position_or_len is_colon text ≡ length text → kept ≡ after_line line kept
no_colon line text kept same e =
    let none : list_any is_colon line.bytes ≡ false = ap (list_any is_colon) (sym same) ∙ none_passes is_colon text e in
    λ i. record {
      projects = kept-same projects_key line kept.projects none i;
      jobs = kept-same jobs_key line kept.jobs none i;
      renewable = kept-same renewable_key line kept.renewable none i;
      nonrenewable = kept-same nonrenewable_key line kept.nonrenewable none i;
      doubly_constrained = kept-same doubly_constrained_key line kept.doubly_constrained none i;
    }

-- what a line with a colon says: its key, and the value after it
pub record IsKeyLine (line : Line) (text key after value : List ℕ) (number : ℕ) : Type 0 where
  pub text_is : text ≡ line.bytes
  pub number_is : number ≡ line.number
  pub parts : AreParts is_colon text key after
  pub value_is : value ≡ first_or_empty (words_in after)

-- one value after the line
pub key_entry : (line : Line) (text key after value : List ℕ) (number : ℕ) (names : List (List ℕ)) (inside old new : Option Word) → IsKeyLine line text key after value number → inside ≡ old →
    new ≡ kept_entry inside (begins_with (words_in key) names) (record { line = number; bytes = value }) → new ≡ noted names line old
key_entry line text key after value number names inside old new h same e =
    let fits : begins_with (words_in key) names ≡ has_key names line =
    ap (λ ws. begins_with (words_in ws) names) (h.parts.1 ∙ ap (before_first is_colon) h.text_is)
    ∙ sym (ap (λ b. b && begins_with (words_in (before_first is_colon line.bytes)) names) (ap (list_any is_colon) (sym h.text_is) ∙ some_passes is_colon text h.parts.0)) in
    let word : value ≡ first_or_empty (words_in (after_first is_colon line.bytes)) =
    h.value_is ∙ ap (λ ws. first_or_empty (words_in ws)) (h.parts.2 ∙ ap (after_first is_colon) h.text_is) in
    e ∙ (λ i. kept_entry (same i) (fits i) (record { line = h.number_is i; bytes = word i }))

-- all values after the line
pub key_line : (line : Line) (text key after value : List ℕ) (number : ℕ) (inside old new : Entries) → IsKeyLine line text key after value number → inside ≡ old →
    new.projects ≡ kept_entry inside.projects (begins_with (words_in key) projects_key) (record { line = number; bytes = value }) →
    new.jobs ≡ kept_entry inside.jobs (begins_with (words_in key) jobs_key) (record { line = number; bytes = value }) →
    new.renewable ≡ kept_entry inside.renewable (begins_with (words_in key) renewable_key) (record { line = number; bytes = value }) →
    new.nonrenewable ≡ kept_entry inside.nonrenewable (begins_with (words_in key) nonrenewable_key) (record { line = number; bytes = value }) →
    new.doubly_constrained ≡ kept_entry inside.doubly_constrained (begins_with (words_in key) doubly_constrained_key) (record { line = number; bytes = value }) →
    new ≡ after_line line old
key_line line text key after value number inside old new h same p j r n d = λ i. record {
  projects = key_entry line text key after value number projects_key inside.projects old.projects new.projects h (ap (λ (x : Entries). x.projects) same) p i;
  jobs = key_entry line text key after value number jobs_key inside.jobs old.jobs new.jobs h (ap (λ (x : Entries). x.jobs) same) j i;
  renewable = key_entry line text key after value number renewable_key inside.renewable old.renewable new.renewable h (ap (λ (x : Entries). x.renewable) same) r i;
  nonrenewable = key_entry line text key after value number nonrenewable_key inside.nonrenewable old.nonrenewable new.nonrenewable h (ap (λ (x : Entries). x.nonrenewable) same) n i;
  doubly_constrained = key_entry line text key after value number doubly_constrained_key inside.doubly_constrained old.doubly_constrained new.doubly_constrained h (ap (λ (x : Entries). x.doubly_constrained) same) d i;
}

-- nothing is noted before the first line
pub noting_start : (lines : List Line) (none : Entries) → none ≡ record { projects = None; jobs = None; renewable = None; nonrenewable = None; doubly_constrained = None } → IsNoting lines lines none
noting_start lines none e = record { entries = ap (λ kept. or_entries kept (before_first (has_mark (Title Precedence)) lines)) (sym e); rest = refl }

-- a line of the head is noted
pub noting_step : (old lines left : List Line) (line : Line) (kept new : Entries) → IsNoting old lines kept → TakesBefore (has_mark (Title Precedence)) lines (Some line) left → new ≡ after_line line kept → IsNoting old left new
noting_step old lines left line kept new h t e =
    let more : List Line = before_first (has_mark (Title Precedence)) left in
    let over : or_entries kept (line ∷ more) ≡ or_entries (after_line line kept) more = λ i. record {
      projects = note_entry projects_key line more kept.projects i;
      jobs = note_entry jobs_key line more kept.jobs i;
      renewable = note_entry renewable_key line more kept.renewable i;
      nonrenewable = note_entry nonrenewable_key line more kept.nonrenewable i;
      doubly_constrained = note_entry doubly_constrained_key line more kept.doubly_constrained i;
    } in
    record {
      entries = h.entries ∙ (ap (or_entries kept) t.0 ∙ (over ∙ ap (λ k. or_entries k more) (sym e)));
      rest = h.rest ∙ t.1;
    }

-- what is kept where no line is left
pub kept_alone : (names : List (List ℕ)) (kept : Option Word) → or_entry kept names [] ≡ kept
kept_alone names (Some word) = refl
kept_alone names None = refl

-- all lines of the head were noted
pub noting_end : (old lines left : List Line) (kept : Entries) → IsNoting old lines kept → TakesBefore (has_mark (Title Precedence)) lines None left → (kept ≡ entries_of (before_first (has_mark (Title Precedence)) old)) × (left ≡ from_first (has_mark (Title Precedence)) old)
noting_end old lines left kept h t =
    let alone : or_entries kept [] ≡ kept = λ i. record {
      projects = kept_alone projects_key kept.projects i;
      jobs = kept_alone jobs_key kept.jobs i;
      renewable = kept_alone renewable_key kept.renewable i;
      nonrenewable = kept_alone nonrenewable_key kept.nonrenewable i;
      doubly_constrained = kept_alone doubly_constrained_key kept.doubly_constrained i;
    } in
    (sym (h.entries ∙ (ap (or_entries kept) t.0 ∙ alone)), sym (h.rest ∙ t.1))
