-- Reading a part from its title on is reading the stream of its words.
use Rattle.std.proofs.Common.{◌≡◌, refl, sym, ◌∙◌, ap, ℕ, List, [], ◌∷◌, Ok, Err, subst}
use Rattle.std.specs.Prelude.{Result, drop}
use Rattle.racp_model.specs.Project.{Activity}
use Rattle.racp_sm.specs.Lines.{Line, Word}
use Rattle.racp_sm.specs.Parts.{successor_rows, request_rows, nothing_left, arcs_of, jobs_of}
use Rattle.racp_sm.specs.Reading.{precedence_part, requests_part}
use Rattle.racp_sm.specs.Steps.{Words, stream_of, part_stream, map_ok}
use Rattle.racp_model.specs.Steps.{◌>>=◌}
use Rattle.racp_model.proofs.lemmas.Results.{IsFault}
use Rattle.racp_sm.specs.Faults.{out_of_memory, SmFault}
use Rattle.racp_sm.specs.declared.fault.SmFaultKind.TheVariants.{NoPrecedence, NoRequests}
use Rattle.racp_sm.specs.declared.part.Part.TheVariants.{Precedence, Requests}

-- the rows of a stream, and that no word is left after them
abbrev pub all_arcs : ℕ → Words → Result (List (ℕ × ℕ) × List Line) SmFault
all_arcs n words = successor_rows words.title n 1 n words.words >>= (λ rows. nothing_left rows.1 >>= (λ end. Ok (rows.0, words.after)))

abbrev pub all_jobs : ℕ → ℕ → Words → Result (List Activity) SmFault
all_jobs resources n words = request_rows words.title resources 1 n words.words >>= (λ rows. nothing_left rows.1 >>= (λ end. Ok rows.0))

-- the same fault of another reading, and the stream that was made
abbrev pub same_fault : {X Y : Type 0} → Result X SmFault → Result Y SmFault
same_fault (Ok x) = Err out_of_memory
same_fault (Err fault) = Err fault

abbrev pub made : Result Words SmFault → Words → Words
made (Ok words) other = words
made (Err fault) other = other

-- reading rows, and then that nothing is left, in one or two steps
pub one_by_one : {X Y : Type 0} (rows : Result (X × List Word) SmFault) (f : X → Y) → ((rows >>= (λ read. nothing_left read.1 >>= (λ end. Ok read.0))) >>= (λ x. Ok (f x))) ≡ (rows >>= (λ read. nothing_left read.1 >>= (λ end. Ok (f read.0))))
one_by_one (Err fault) f = refl
one_by_one (Ok read) f = by_rest (nothing_left read.1)
  where
    by_rest : (r : Result (List Word) SmFault) → ((r >>= (λ end. Ok read.0)) >>= (λ x. Ok (f x))) ≡ (r >>= (λ end. Ok (f read.0)))
    by_rest (Ok end) = refl
    by_rest (Err fault) = refl

pub precedence-none : (n : ℕ) (lines : List Line) (fault : SmFault) → Err fault ≡ part_stream Precedence NoPrecedence lines → precedence_part n lines ≡ Err fault
unfolding precedence_part
precedence-none n [] fault e = sym (ap same_fault e)
precedence-none n (title ∷ lines) fault e = absurd (subst IsFault e tt)

pub precedence-some : (n : ℕ) (lines : List Line) (words : Words) → Ok words ≡ part_stream Precedence NoPrecedence lines → precedence_part n lines ≡ all_arcs n words
unfolding precedence_part arcs_of
precedence-some n [] words e = absurd (subst IsFault (sym e) tt)
precedence-some n (title ∷ lines) words e =
    let stream : Words = stream_of Precedence title.number [] (drop 1 lines) in
    one_by_one (successor_rows title.number n 1 n stream.words) (λ arcs. (arcs, stream.after)) ∙ ap (all_arcs n) (sym (ap (λ r. made r words) e))

pub requests-none : (resources n : ℕ) (lines : List Line) (fault : SmFault) → Err fault ≡ part_stream Requests NoRequests lines → requests_part resources n lines ≡ Err fault
unfolding requests_part
requests-none resources n [] fault e = sym (ap same_fault e)
requests-none resources n (title ∷ lines) fault e = absurd (subst IsFault e tt)

pub requests-some : (resources n : ℕ) (lines : List Line) (words : Words) → Ok words ≡ part_stream Requests NoRequests lines → requests_part resources n lines ≡ all_jobs resources n words
unfolding requests_part jobs_of
requests-some resources n [] words e = absurd (subst IsFault (sym e) tt)
requests-some resources n (title ∷ lines) words e = ap (all_jobs resources n) (sym (ap (λ r. made r words) e))

-- what is left after the rows
pub rows-fault : {X Y : Type 0} (rows : Result (X × List Word) SmFault) (next : X × List Word → Result Y SmFault) (fault : SmFault) → rows ≡ Err fault → (rows >>= next) ≡ Err fault
rows-fault rows next fault e = ap (λ r. r >>= next) e

pub left-fault : {X Y : Type 0} (rows : Result (X × List Word) SmFault) (f : X → Y) (x : X) (words : List Word) (after : List Line) (fault : SmFault) → rows ≡ Ok (x, words) → Err fault ≡ map_ok after (nothing_left words) →
    (rows >>= (λ read. nothing_left read.1 >>= (λ end. Ok (f read.0)))) ≡ Err fault
left-fault rows f x words after fault e n = ap (λ r. r >>= (λ read. nothing_left read.1 >>= (λ end. Ok (f read.0)))) e ∙ by_rest (nothing_left words) n
  where
    by_rest : (r : Result (List Word) SmFault) → Err fault ≡ map_ok after r → (r >>= (λ end. Ok (f x))) ≡ Err fault
    by_rest (Ok end) e = absurd (subst IsFault e tt)
    by_rest (Err fault) e = sym (ap same_fault e)

-- nothing is left
pub left-none : {X Y : Type 0} (rows : Result (X × List Word) SmFault) (f : X → Y) (x : X) (words : List Word) (after ended : List Line) → rows ≡ Ok (x, words) → Ok ended ≡ map_ok after (nothing_left words) →
    (rows >>= (λ read. nothing_left read.1 >>= (λ end. Ok (f read.0)))) ≡ Ok (f x)
left-none rows f x words after ended e n = ap (λ r. r >>= (λ read. nothing_left read.1 >>= (λ end. Ok (f read.0)))) e ∙ by_rest (nothing_left words) n
  where
    by_rest : (r : Result (List Word) SmFault) → Ok ended ≡ map_ok after r → (r >>= (λ end. Ok (f x))) ≡ Ok (f x)
    by_rest (Ok end) e = refl
    by_rest (Err fault) e = absurd (subst IsFault (sym e) tt)

pub ended-at : (words : List Word) (after ended : List Line) → Ok ended ≡ map_ok after (nothing_left words) → ended ≡ after
ended-at words after ended n = by_rest (nothing_left words) n
  where
    lines_or : Result (List Line) SmFault → List Line
    lines_or (Ok lines) = lines
    lines_or (Err fault) = []

    by_rest : (r : Result (List Word) SmFault) → Ok ended ≡ map_ok after r → ended ≡ after
    by_rest (Ok end) e = ap lines_or e
    by_rest (Err fault) e = absurd (subst IsFault (sym e) tt)
