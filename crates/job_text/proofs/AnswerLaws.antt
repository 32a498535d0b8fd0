-- What the answer to the bytes of a job says, both ways.
use Rattle.std.proofs.Common.{◌≡◌, ◌⊎◌, inl, inr, refl, ℕ, List, Some, Result, Ok, Err, ap, sym, subst, ◌∙◌}
use Rattle.std.specs.Coded.{le_prop}
use Rattle.std.specs.Prelude.{IfOk, IfErr}
use Rattle.serde_json.specs.Data.{Data}
use Rattle.json_form.specs.declared.fault.JobFault.{JobFault}
use Rattle.target_machine.specs.InRange.{IsJobInRange}
use Rattle.json_form.specs.Faults.{IsDecided, IsValueFault}
use Rattle.probe_core.specs.Ranges.{IsBenchJob}
use Rattle.job_text.specs.declared.job.Job.{Job}
use Rattle.job_text.specs.declared.job.JobRefusal.{JobRefusal}
use Rattle.job_text.specs.declared.job.JobRefusal.TheVariants as refusals
use Rattle.job_text.specs.declared.reading.JobParts.{JobParts}
use Rattle.job_text.specs.JobForm.{AreParts, IsJob, members_of}
use Rattle.job_text.specs.JobReading.{job_in}
use Rattle.job_text.specs.Answers.{IsJsonText, Describes, IsRefused, AnswersJob, IsAnswer}
use Rattle.job_text.proofs.JobLaws.{job_reads}
use Rattle.job_text.specs.Ranges.{AreSettings, AreWatched, AreEntryTexts}
use Rattle.job_text.proofs.RangeLaws.{bench_ranges, target_in_range}
use Rattle.job_text.proofs.SettingLaws.{settings_in_range, watch_in_range, trace_entries}

-- bytes are the text of one value
pub one_value : (bytes : List ℕ) (d e : Data) → IsJsonText bytes d → IsJsonText bytes e → d ≡ e
one_value bytes d e here there = (let same : Some d ≡ Some e = sym here.1 ∙ there.1 in cc)

pub found_in : (bytes : List ℕ) (r : Result Job JobRefusal) → AnswersJob bytes r → IfOk r (Describes bytes)
found_in bytes (Ok job) given = (given.0, given.1, job_reads.sound given.0 (members_of job) given.2)
found_in bytes (Err refusal) given = tt

pub refused_in : (bytes : List ℕ) (r : Result Job JobRefusal) → AnswersJob bytes r → IfErr r (IsRefused bytes)
refused_in bytes (Ok job) given = tt
refused_in bytes (Err refusal) given = given

abbrev job_ok : JobParts → Result JobParts JobFault
job_ok x = Ok x

abbrev job_err : JobFault → Result JobParts JobFault
job_err fault = Err fault

same_parts : (x y : JobParts) → job_ok x ≡ job_ok y → x ≡ y
same_parts x y e = cc

in_range_prop : (x : JobParts) → IsProp (IsJobInRange x.bench.target)
in_range_prop x = hlevel le_prop

job_of_parts : (x : JobParts) → IsJobInRange x.bench.target → Job
job_of_parts x is = record { pack = x.pack; settings = x.settings; bench = x.bench; watch = x.watch; image = x.image; dbgconf = x.dbgconf; trace = x.trace; in_range = is }

same_of_parts : (x y : JobParts) → x ≡ y → (p : IsJobInRange x.bench.target) (q : IsJobInRange y.bench.target) → job_of_parts x p ≡ job_of_parts y q
same_of_parts x y e p = subst (λ (z : JobParts). (q : IsJobInRange z.bench.target) → job_of_parts x p ≡ job_of_parts z q) e (λ q. ap (job_of_parts x) (in_range_prop x p q))

-- jobs with the same members are the same
same_job : (a b : Job) → members_of a ≡ members_of b → a ≡ b
unfolding job_of_parts
same_job a b e = same_of_parts (members_of a) (members_of b) e a.in_range b.in_range

no_fault : (x : JobParts) (fault : JobFault) → job_ok x ≡ job_err fault → ⊥
no_fault x fault e = cc

same_fault : (a b : JobFault) → job_err a ≡ job_err b → a ≡ b
same_fault a b e = cc

-- the numbers of a job that is read fit their registers and words
parts_in_range : (d : Data) (x : JobParts) → AreParts d x → IsJobInRange x.bench.target
parts_in_range d x is = let bench = is.bench.2 in target_in_range bench.target.0 x.bench.target bench.target.2

-- the same of what a value is read as
pub read_in_range : (d : Data) (x : JobParts) → job_in d ≡ Ok x → IsJobInRange x.bench.target
read_in_range d x is = parts_in_range d x (job_reads.sound d x is)

-- the job with these members
job_with : (d : Data) (x : JobParts) → AreParts d x → (job : Job) × IsJob d job
unfolding job_of_parts
job_with d x is = (job_of_parts x (parts_in_range d x is), is)

-- a job that the bytes describe is what their value is read as
reads_as : (bytes : List ℕ) (job : Job) (d : Data) → Describes bytes job → IsJsonText bytes d → job_in d ≡ job_ok (members_of job)
reads_as bytes job d says text = ap job_in (one_value bytes d says.0 text says.1) ∙ job_reads.complete says.0 (members_of job) says.2

-- the bytes describe one job at most
pub one_job : (bytes : List ℕ) (a b : Job) → Describes bytes a → Describes bytes b → a ≡ b
one_job bytes a b says too = same_job a b (same_parts (members_of a) (members_of b) (sym (reads_as bytes a says.0 says says.1) ∙ reads_as bytes b says.0 too says.1))

-- what the bytes describe has no fault
pub job_or_fault : (bytes : List ℕ) (job : Job) (d : Data) (fault : JobFault) → Describes bytes job → IsJsonText bytes d → job_in d ≡ Err fault → ⊥
job_or_fault bytes job d fault says text is = no_fault (members_of job) fault (sym (reads_as bytes job d says text) ∙ is)

-- the value of the bytes has one first fault at most
pub one_fault : (bytes : List ℕ) (d e : Data) (a b : JobFault) → IsJsonText bytes d → IsJsonText bytes e → job_in d ≡ Err a → job_in e ≡ Err b → a ≡ b
one_fault bytes d e a b here there is too = same_fault a b (sym is ∙ ap job_in (one_value bytes d e here there) ∙ too)

-- a value stands for a job, or has a first fault
pub job_or_first_fault : (d : Data) → IsDecided (job_in d) → ((job : Job) × IsJob d job) ⊎ ((fault : JobFault) × (job_in d ≡ Err fault) × IsValueFault fault)
job_or_first_fault d decided = by_reading (job_in d) refl decided
  where
    by_reading : (r : Result JobParts JobFault) → job_in d ≡ r → IsDecided r → ((job : Job) × IsJob d job) ⊎ ((fault : JobFault) × (job_in d ≡ Err fault) × IsValueFault fault)
    by_reading (Ok x) is decides = inl (job_with d x (job_reads.sound d x is))
    by_reading (Err fault) is decides = inr (fault, is, decides)

pub only_in : (bytes : List ℕ) (r : Result Job JobRefusal) → AnswersJob bytes r → (job : Job) → Describes bytes job → IsAnswer job r
only_in bytes (Ok found) given job says = one_job bytes found job (found_in bytes (Ok found) given) says
only_in bytes (Err refusals.BadJson) given job says = given says.0 says.1
only_in bytes (Err (refusals.Fault fault)) given job says = job_or_fault bytes job given.0 fault says given.1 given.2
only_in bytes (Err refusals.OutOfMemory) given job says = tt

pub ranges_in : (bytes : List ℕ) (r : Result Job JobRefusal) → AnswersJob bytes r → IfOk r (λ job. IsBenchJob job.bench)
ranges_in bytes (Ok job) given = (let says = job_reads.sound given.0 (members_of job) given.2 in bench_ranges says.bench.0 job.bench says.bench.2)
ranges_in bytes (Err refusal) given = tt

pub settings_in : (bytes : List ℕ) (r : Result Job JobRefusal) → AnswersJob bytes r → IfOk r (λ job. AreSettings job.settings)
settings_in bytes (Ok job) given = settings_in_range given.0 job (job_reads.sound given.0 (members_of job) given.2)
settings_in bytes (Err refusal) given = tt

pub watch_in : (bytes : List ℕ) (r : Result Job JobRefusal) → AnswersJob bytes r → IfOk r (λ job. AreWatched job.bench.target.memory job.watch)
watch_in bytes (Ok job) given = watch_in_range given.0 job (job_reads.sound given.0 (members_of job) given.2)
watch_in bytes (Err refusal) given = tt

pub trace_in : (bytes : List ℕ) (r : Result Job JobRefusal) → AnswersJob bytes r → IfOk r (λ job. AreEntryTexts job.trace)
trace_in bytes (Ok job) given = trace_entries given.0 job (job_reads.sound given.0 (members_of job) given.2)
trace_in bytes (Err refusal) given = tt
