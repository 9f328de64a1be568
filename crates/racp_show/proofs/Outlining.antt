-- What an outline tells after a line.
use Rattle.std.proofs.Common.{◌≡◌, ◌∙◌, ℕ, ◌+◌, ◌-◌, ◌<◌, ◌≤◌, true, false, List, [], ◌∷◌, ◌++◌, arith, ap, append_assoc, drop, get_or, length, map, nat_lt, sym, take}
use Rattle.std.specs.List.{prefix_len}
use Rattle.std.proofs.lemmas.Bool.{cond-true, cond-false, le-ltb, lt-ltb}
use Rattle.std.proofs.lemmas.List.{get_or-map, length-map, map-append, take-map}
use Rattle.std.proofs.lemmas.List.Sums.{prefix_len-drop_all, prefix_len-drop_no, prefix_len-drop_yes}
use Rattle.racp_show.specs.Lines.{hashes, is_end, is_heading, is_wait, title_of}
use Rattle.racp_show.specs.Entries.{is_full, line_of}
use Rattle.racp_show.specs.Outlines.{Line, Outlined, depth_of, ended, headed, named, outside, with_line}
use Rattle.racp_show.specs.Outlines.Line.{TaskLine}
use Rattle.racp_show.specs.declared.entry.Entry.{Entry}

-- outlines are the same that tell the same
pub same : (a b : Outlined) → a.rows ≡ b.rows → a.begun ≡ b.begun → a.depth ≡ b.depth → a.tasks ≡ b.tasks → a.waits ≡ b.waits → a ≡ b
same a b rows begun depth tasks waits = λ i. record { rows = rows i; begun = begun i; depth = depth i; tasks = tasks i; waits = waits i }

module _ (jobs : ℕ) (o : Outlined) (line : List ℕ) where
  pub line_of_wait : is_wait line ≡ true → with_line jobs o line ≡ record o { waits = true }
  line_of_wait wait = cond-true _ _ _ wait

  pub line_of_end : is_wait line ≡ false → is_end line ≡ true → with_line jobs o line ≡ ended (hashes line - 1) o
  line_of_end wait end = cond-false _ _ _ wait ∙ cond-true _ _ _ end

  pub line_of_heading : is_wait line ≡ false → is_end line ≡ false → is_heading line ≡ true → with_line jobs o line ≡ headed (hashes line - 1) (title_of line) o
  line_of_heading wait end heading = cond-false _ _ _ wait ∙ (cond-false _ _ _ end ∙ cond-true _ _ _ heading)

  pub line_of_name : is_wait line ≡ false → is_end line ≡ false → is_heading line ≡ false → with_line jobs o line ≡ named jobs o
  line_of_name wait end heading = cond-false _ _ _ wait ∙ (cond-false _ _ _ end ∙ cond-false _ _ _ heading)

-- a job that is no task changes nothing, and another is the next task
pub named-full : (jobs : ℕ) (o : Outlined) → is_full jobs o ≡ true → named jobs o ≡ o
named-full jobs o full = cond-true _ _ _ full

pub named-task : (jobs : ℕ) (o new : Outlined) → is_full jobs o ≡ false →
    new.rows ≡ o.rows ++ (o.begun ++ TaskLine o.depth (o.tasks + 1) ∷ []) → new.begun ≡ [] → new.depth ≡ o.depth → new.tasks ≡ o.tasks + 1 → new.waits ≡ o.waits →
    new ≡ named jobs o
named-task jobs o new full rows begun depth tasks waits =
    same new (record o { rows = o.rows ++ (o.begun ++ TaskLine o.depth (o.tasks + 1) ∷ []); begun = []; tasks = o.tasks + 1 }) rows begun depth tasks waits
    ∙ sym (cond-false _ _ _ full)

-- entries behind others
pub entries_behind : (rows begun new : List Entry) (entry : Entry) → new ≡ (rows ++ begun) ++ entry ∷ [] →
    map line_of new ≡ map line_of rows ++ (map line_of begun ++ line_of entry ∷ [])
entries_behind rows begun new entry is =
    ap (map line_of) (is ∙ append_assoc rows begun (entry ∷ [])) ∙ (map-append line_of rows (begun ++ entry ∷ [])
    ∙ ap (λ (lines : List Line). map line_of rows ++ lines) (map-append line_of begun (entry ∷ [])))

-- of phases that have begun those in which one stands
module _ (depth : ℕ) (begun : List Entry) where
  entry_at : (i : ℕ) (entry : Entry) → i < length begun → entry ≡ get_or begun i entry → get_or (map line_of begun) i (line_of entry) ≡ line_of entry
  entry_at i entry inside is = get_or-map line_of begun i entry (line_of entry) inside ∙ ap line_of (sym is)

  pub count_goes_on : (i : ℕ) (entry : Entry) → i < length begun → entry ≡ get_or begun i entry → depth_of (line_of entry) < depth →
      prefix_len (λ line. nat_lt (depth_of line) depth) (map line_of begun) ≡ i + prefix_len (λ line. nat_lt (depth_of line) depth) (drop i (map line_of begun)) →
      prefix_len (λ line. nat_lt (depth_of line) depth) (map line_of begun) ≡ (i + 1) + prefix_len (λ line. nat_lt (depth_of line) depth) (drop (i + 1) (map line_of begun))
  count_goes_on i entry inside is less so_far =
      let yes = prefix_len-drop_yes (λ (line : Line). nat_lt (depth_of line) depth) (map line_of begun) i (line_of entry) (omega (arith, length-map begun line_of, inside))
      (ap (λ (line : Line). nat_lt (depth_of line) depth) (entry_at i entry inside is) ∙ lt-ltb (depth_of (line_of entry)) depth less) in
      omega (arith, so_far, yes)

  pub count_stops : (i : ℕ) (entry : Entry) → i < length begun → entry ≡ get_or begun i entry → depth ≤ depth_of (line_of entry) →
      prefix_len (λ line. nat_lt (depth_of line) depth) (map line_of begun) ≡ i + prefix_len (λ line. nat_lt (depth_of line) depth) (drop i (map line_of begun)) →
      i ≡ prefix_len (λ line. nat_lt (depth_of line) depth) (map line_of begun)
  count_stops i entry inside is more so_far =
      let no = prefix_len-drop_no (λ (line : Line). nat_lt (depth_of line) depth) (map line_of begun) i (line_of entry) (omega (arith, length-map begun line_of, inside))
      (ap (λ (line : Line). nat_lt (depth_of line) depth) (entry_at i entry inside is) ∙ le-ltb (depth_of (line_of entry)) depth more) in
      omega (arith, so_far, no)

  pub count_ends : (i : ℕ) → length begun ≤ i →
      prefix_len (λ line. nat_lt (depth_of line) depth) (map line_of begun) ≡ i + prefix_len (λ line. nat_lt (depth_of line) depth) (drop i (map line_of begun)) →
      prefix_len (λ line. nat_lt (depth_of line) depth) (map line_of begun) ≡ i
  count_ends i all so_far =
      let none = prefix_len-drop_all (λ (line : Line). nat_lt (depth_of line) depth) (map line_of begun) i (omega (arith, length-map begun line_of, all)) in
      omega (arith, so_far, none)

  pub cut_begun : (n : ℕ) (new : List Entry) → n ≡ prefix_len (λ line. nat_lt (depth_of line) depth) (map line_of begun) → new ≡ take n begun →
      map line_of new ≡ outside depth (map line_of begun)
  cut_begun n new count is =
      ap (map line_of) is ∙ (sym (take-map line_of n begun) ∙ ap (λ (k : ℕ). take k (map line_of begun)) count)
