-- What a text says is within the limits, and its pairs name its jobs.
use Rattle.std.proofs.Common.{◌≡◌, refl, sym, ◌∙◌, ap, ℕ, zero, suc, ◌+◌, ◌≤◌, Bool, true, false, cond, List, [], ◌∷◌, ◌++◌, length, arith, Ok, Err, subst, All}
use Rattle.std.specs.Prelude.{Result, map, Option, Some, None, nat_le, ◌&&◌}
use Rattle.std.specs.List.{before_first}
use Rattle.std.proofs.lemmas.Bool.{and_parts, leb-true}
use Rattle.std.proofs.lemmas.List.Elements.{All-nil, All-cons, All-append, All-map, All-weaker}
use Rattle.racp_model.specs.Project.{Activity, Project, IsJobWithinLimits, IsWithinLimits, IsNumber, AreNumbers}
use Rattle.racp_model.specs.Made.{IsMade}
use Rattle.racp_model.specs.declared.fault.NetFault.{NetFault}
use Rattle.racp_model.specs.declared.fault.NetFault.TheVariants as NetFaults
use Rattle.racp_text.specs.Numbers.{is_number, value}
use Rattle.racp_sm.specs.Lines.{Line, Word, has_words, lines_of}
use Rattle.racp_sm.specs.Head.{Entries, Counts, number_within, required, optional, counts_of, entries_of}
use Rattle.racp_sm.specs.Parts.{next_number, next_numbers, nothing_left, successor_row, successor_rows, request_row, request_rows, arcs_of, jobs_of}
use Rattle.racp_text.specs.Kept.{Keeps}
use Rattle.racp_sm.specs.Steps.{GivesAll}
use Rattle.racp_sm.specs.Reading.{precedence_part, requests_part, reading, from_first, precedence_title, requests_title}
use Rattle.racp_model.proofs.lemmas.Results.{IsFault, bind_ok, same_ok}
use Rattle.racp_sm.specs.Faults.{SmFault}
use Rattle.racp_sm.specs.declared.fault.SmFaultKind.{SmFaultKind}
use Rattle.racp_sm.specs.declared.fault.SmFaultKind.TheVariants.{NoJobs, NoRenewable, ManyProjects, OtherResources, BadRow, NotSingleMode, BadSuccessor, Limit}

-- from low to high
abbrev pub IsFromTo : ℕ → ℕ → ℕ → Type 0
IsFromTo low high n = (low ≤ n) × (n ≤ high)

pub chosen_ok : (digits range : Bool) (v n : ℕ) (f g : SmFault) → cond digits (cond range (Ok v) (Err f)) (Err g) ≡ Ok n → (range ≡ true) × (v ≡ n)
chosen_ok true true v n f g e = (refl, same_ok v n e)
chosen_ok true false v n f g e = absurd (subst IsFault e tt)
chosen_ok false range v n f g e = absurd (subst IsFault e tt)

pub number_ok : (kind : SmFaultKind) (low high n : ℕ) (word : Word) → number_within kind low high word ≡ Ok n → IsFromTo low high n
number_ok kind low high n word e =
    let v : ℕ = value word.bytes in
    let c = chosen_ok (is_number word.bytes) (nat_le low v && nat_le v high) v n _ _ e in
    let parts = and_parts _ _ c.0 in
    subst (IsFromTo low high) c.1 (leb-true low v parts.0, leb-true v high parts.1)

pub required_ok : (missing : SmFaultKind) (low high n : ℕ) (entry : Option Word) → required missing low high entry ≡ Ok n → IsFromTo low high n
required_ok missing low high n None e = absurd (subst IsFault e tt)
required_ok missing low high n (Some word) e = number_ok Limit low high n word e

-- how many jobs and resources there are
pub counts_ok : (entries : Entries) (counts : Counts) → counts_of entries ≡ Ok counts → IsFromTo 1 512 counts.jobs × IsFromTo 1 16 counts.resources
unfolding counts_of
counts_ok entries counts e =
    let projects = bind_ok (optional ManyProjects 1 entries.projects) _ counts e in
    let jobs = bind_ok (required NoJobs 1 512 entries.jobs) _ counts projects.2 in
    let resources = bind_ok (required NoRenewable 1 16 entries.renewable) _ counts jobs.2 in
    let nonrenewable = bind_ok (optional OtherResources 0 entries.nonrenewable) _ counts resources.2 in
    let constrained = bind_ok (optional OtherResources 0 entries.doubly_constrained) _ counts nonrenewable.2 in
    let same = same_ok (record { jobs = jobs.0; resources = resources.0 }) counts constrained.2 in
    subst (λ (c : Counts). IsFromTo 1 512 c.jobs × IsFromTo 1 16 c.resources) same (required_ok NoJobs 1 512 jobs.0 entries.jobs jobs.1, required_ok NoRenewable 1 16 resources.0 entries.renewable resources.1)

-- the numbers of a stream
pub next_ok : (title : ℕ) (kind : SmFaultKind) (low high : ℕ) (words : List Word) (x : ℕ × List Word) → next_number title kind low high words ≡ Ok x → IsFromTo low high x.0
next_ok title kind low high [] x e = absurd (subst IsFault e tt)
next_ok title kind low high (word ∷ words) x e =
    let number = bind_ok (number_within kind low high word) (λ n. Ok (n, words)) x e in
    subst (λ (y : ℕ × List Word). IsFromTo low high y.0) (same_ok (number.0, words) x number.2) (number_ok kind low high number.0 word number.1)

abbrev pub AreFromTo : ℕ → ℕ → ℕ → List ℕ → Type 0
AreFromTo low high count ns = (length ns ≡ count) × All (IsFromTo low high) ns

pub numbers_ok : (title : ℕ) (kind : SmFaultKind) (low high count : ℕ) (words : List Word) (x : List ℕ × List Word) → next_numbers title kind low high count words ≡ Ok x → AreFromTo low high count x.0
unfolding next_numbers
numbers_ok title kind low high zero words x e =
    subst (λ (y : List ℕ × List Word). AreFromTo low high 0 y.0) (same_ok ([], words) x e) (refl, All-nil (IsFromTo low high))
numbers_ok title kind low high (suc count) words x e =
    let first = bind_ok (next_number title kind low high words) _ x e in
    let others = bind_ok (next_numbers title kind low high count first.0.1) _ x first.2 in
    let rest = numbers_ok title kind low high count first.0.1 others.0 others.1 in
    subst (λ (y : List ℕ × List Word). AreFromTo low high (suc count) y.0) (same_ok (first.0.0 ∷ others.0.0, others.0.1) x others.2)
    (ap suc rest.0, All-cons (IsFromTo low high) first.0.0 others.0.0 (next_ok title kind low high words first.0 first.1) rest.1)

-- the pairs of a row, and of rows
pub paired : (n job : ℕ) (successors : List ℕ) → IsNumber n job → All (IsNumber n) successors → AreNumbers n (map (λ successor. (job, successor)) successors)
paired n job successors h named =
    All-map (λ (arc : ℕ × ℕ). IsNumber n arc.0 × IsNumber n arc.1) (λ successor. (job, successor)) successors
    (All-weaker (IsNumber n) (λ successor. IsNumber n job × IsNumber n successor) (λ successor g. (h, g)) successors named)

pub row_ok : (title n job : ℕ) (words : List Word) (x : List (ℕ × ℕ) × List Word) → IsNumber n job → successor_row title n job words ≡ Ok x → AreNumbers n x.0
unfolding successor_row
row_ok title n job words x h e =
    let number = bind_ok (next_number title BadRow job job words) _ x e in
    let modes = bind_ok (next_number title NotSingleMode 1 1 number.0.1) _ x number.2 in
    let count = bind_ok (next_number title Limit 0 512 modes.0.1) _ x modes.2 in
    let successors = bind_ok (next_numbers title BadSuccessor 1 n count.0.0 count.0.1) _ x count.2 in
    let named = (numbers_ok title BadSuccessor 1 n count.0.0 count.0.1 successors.0 successors.1).1 in
    let pairs : List (ℕ × ℕ) × List Word = (map (λ successor. (job, successor)) successors.0.0, successors.0.1) in
    subst (λ (y : List (ℕ × ℕ) × List Word). AreNumbers n y.0) {x = pairs} (same_ok pairs x successors.2) (paired n job successors.0.0 h named)

pub rows_ok : (title n job count : ℕ) (words : List Word) (x : List (ℕ × ℕ) × List Word) → 1 ≤ job → job + count ≤ n + 1 → successor_rows title n job count words ≡ Ok x → AreNumbers n x.0
unfolding successor_rows
rows_ok title n job zero words x l m e =
    subst (λ (y : List (ℕ × ℕ) × List Word). AreNumbers n y.0) (same_ok ([], words) x e) (All-nil (λ (arc : ℕ × ℕ). IsNumber n arc.0 × IsNumber n arc.1))
rows_ok title n job (suc count) words x l m e =
    let row = bind_ok (successor_row title n job words) _ x e in
    let others = bind_ok (successor_rows title n (job + 1) count row.0.1) _ x row.2 in
    let here : AreNumbers n row.0.0 = row_ok title n job words row.0 (l, omega (arith, m)) row.1 in
    let there : AreNumbers n others.0.0 = rows_ok title n (job + 1) count row.0.1 others.0 (omega arith) (omega (arith, m)) others.1 in
    subst (λ (y : List (ℕ × ℕ) × List Word). AreNumbers n y.0) (same_ok (row.0.0 ++ others.0.0, others.0.1) x others.2)
    (All-append (λ (arc : ℕ × ℕ). IsNumber n arc.0 × IsNumber n arc.1) row.0.0 others.0.0 here there)

pub arcs_ok : (title n : ℕ) (words : List Word) (arcs : List (ℕ × ℕ)) → arcs_of title n words ≡ Ok arcs → AreNumbers n arcs
unfolding arcs_of
arcs_ok title n words arcs e =
    let rows = bind_ok (successor_rows title n 1 n words) _ arcs e in
    let end = bind_ok (nothing_left rows.0.1) _ arcs rows.2 in
    subst (AreNumbers n) (same_ok rows.0.0 arcs end.2) (rows_ok title n 1 n words rows.0 (omega arith) (omega arith) rows.1)

-- a job, and jobs
pub job_ok : (title resources job : ℕ) (words : List Word) (x : Activity × List Word) → request_row title resources job words ≡ Ok x → IsJobWithinLimits resources x.0
unfolding request_row
job_ok title resources job words x e =
    let number = bind_ok (next_number title BadRow job job words) _ x e in
    let mode = bind_ok (next_number title NotSingleMode 1 1 number.0.1) _ x number.2 in
    let duration = bind_ok (next_number title Limit 0 10000 mode.0.1) _ x mode.2 in
    let requests = bind_ok (next_numbers title Limit 0 10000 resources duration.0.1) _ x duration.2 in
    let row = numbers_ok title Limit 0 10000 resources duration.0.1 requests.0 requests.1 in
    let made : Activity = record { duration = duration.0.0; requests = requests.0.0 } in
    subst (λ (y : Activity × List Word). IsJobWithinLimits resources y.0) (same_ok (made, requests.0.1) x requests.2) (record {
      duration = (next_ok title Limit 0 10000 mode.0.1 duration.0 duration.1).1;
      row = row.0;
      requests = All-weaker (IsFromTo 0 10000) (λ x. x ≤ 10000) (λ n g. g.1) requests.0.0 row.1;
    })

abbrev pub AreJobs : ℕ → ℕ → List Activity → Type 0
AreJobs resources count jobs = (length jobs ≡ count) × All (IsJobWithinLimits resources) jobs

pub job_rows_ok : (title resources job count : ℕ) (words : List Word) (x : List Activity × List Word) → request_rows title resources job count words ≡ Ok x → AreJobs resources count x.0
unfolding request_rows
job_rows_ok title resources job zero words x e =
    subst (λ (y : List Activity × List Word). AreJobs resources 0 y.0) (same_ok ([], words) x e) (refl, All-nil (IsJobWithinLimits resources))
job_rows_ok title resources job (suc count) words x e =
    let row = bind_ok (request_row title resources job words) _ x e in
    let others = bind_ok (request_rows title resources (job + 1) count row.0.1) _ x row.2 in
    let rest = job_rows_ok title resources (job + 1) count row.0.1 others.0 others.1 in
    subst (λ (y : List Activity × List Word). AreJobs resources (suc count) y.0) (same_ok (row.0.0 ∷ others.0.0, others.0.1) x others.2)
    (ap suc rest.0, All-cons (IsJobWithinLimits resources) row.0.0 others.0.0 (job_ok title resources job words row.0 row.1) rest.1)

pub jobs_ok : (title resources n : ℕ) (words : List Word) (jobs : List Activity) → jobs_of title resources n words ≡ Ok jobs → AreJobs resources n jobs
unfolding jobs_of
jobs_ok title resources n words jobs e =
    let rows = bind_ok (request_rows title resources 1 n words) _ jobs e in
    let end = bind_ok (nothing_left rows.0.1) _ jobs rows.2 in
    subst (AreJobs resources n) (same_ok rows.0.0 jobs end.2) (job_rows_ok title resources 1 n words rows.0 rows.1)

-- the parts
pub precedence_ok : (n : ℕ) (lines : List Line) (x : List (ℕ × ℕ) × List Line) → precedence_part n lines ≡ Ok x → AreNumbers n x.0
unfolding precedence_part
precedence_ok n [] x e = absurd (subst IsFault e tt)
precedence_ok n (title ∷ lines) x e =
    let arcs = bind_ok (arcs_of title.number n _) _ x e in
    subst (λ (y : List (ℕ × ℕ) × List Line). AreNumbers n y.0) (same_ok (arcs.0, _) x arcs.2) (arcs_ok title.number n _ arcs.0 arcs.1)

pub requests_ok : (resources n : ℕ) (lines : List Line) (jobs : List Activity) → requests_part resources n lines ≡ Ok jobs → AreJobs resources n jobs
unfolding requests_part
requests_ok resources n [] jobs e = absurd (subst IsFault e tt)
requests_ok resources n (title ∷ lines) jobs e = jobs_ok title.number resources n _ jobs e

-- the whole text
abbrev pub IsWithin : Project → Type 0
IsWithin project = IsWithinLimits project.resources project.jobs × AreNumbers (length project.jobs) project.arcs

pub reading_ok : (text : List ℕ) (project : Project) → reading text ≡ Ok project → IsWithin project
unfolding reading
reading_ok text project e =
    let head : List Line = before_first (has_words precedence_title) (lines_of text) in
    let counts = bind_ok (counts_of (entries_of head)) _ project e in
    let arcs = bind_ok (precedence_part counts.0.jobs (from_first (has_words precedence_title) (lines_of text))) _ project counts.2 in
    let jobs = bind_ok (requests_part counts.0.resources counts.0.jobs (from_first (has_words requests_title) arcs.0.1)) _ project arcs.2 in
    let made : Project = record { resources = counts.0.resources; jobs = jobs.0; arcs = arcs.0.0 } in
    let most = counts_ok (entries_of head) counts.0 counts.1 in
    let rows = requests_ok counts.0.resources counts.0.jobs _ jobs.0 jobs.1 in
    let named : AreNumbers counts.0.jobs arcs.0.0 = precedence_ok counts.0.jobs _ arcs.0 arcs.1 in
    subst IsWithin (same_ok made project jobs.2) (
      record {
        some_resource = most.1.0;
        most_resources = most.1.1;
        some_job = omega (arith, rows.0, most.0.0);
        most_jobs = omega (arith, rows.0, most.0.1);
        each = rows.1;
      },
      subst (λ n. AreNumbers n arcs.0.0) (sym rows.0) named,
    )

-- what is kept of a project is what the text says
pub kept_read : {X : Type 0} (view : X → Project) (text : List ℕ) (kept : Option X) (parts : X) → kept ≡ Some parts → GivesAll (Keeps view) (Ok kept) (reading text) → reading text ≡ Ok (view parts)
kept_read view text kept parts is (project, read, same) = read ∙ ap Ok (sym (subst (λ o. Keeps view o project) is same))

-- so that making a network of it does not fail for that
pub made_limit : (text : List ℕ) (given : Project) (made : Result Project NetFault) (fault : NetFault) → reading text ≡ Ok given → IsMade given made → made ≡ Err fault → fault ≡ NetFaults.Limit → ⊥
made_limit text given made fault r h e k = subst (IsMade given) (e ∙ ap Err k) h (reading_ok text given r).0

pub made_bad_job : (text : List ℕ) (given : Project) (made : Result Project NetFault) (fault : NetFault) → reading text ≡ Ok given → IsMade given made → made ≡ Err fault → fault ≡ NetFaults.BadJob → ⊥
made_bad_job text given made fault r h e k = (subst (IsMade given) (e ∙ ap Err k) h).1 (reading_ok text given r).1
