-- What an answer to the bytes of a job says.
use Rattle.std.specs.Prelude.{◌≡◌, ◌≢◌, ℕ, List, Some, Result, Ok, Err, IsUtf8, ⊤}
use Rattle.serde_json.specs.Data.{Data}
use Rattle.serde_json.specs.Read.{read}
use Rattle.json_form.specs.declared.fault.JobFault.TheVariants as faults
use Rattle.job_text.specs.declared.job.Job.{Job}
use Rattle.job_text.specs.declared.job.JobRefusal.{JobRefusal}
use Rattle.job_text.specs.declared.job.JobRefusal.TheVariants as refusals
use Rattle.job_text.specs.JobReading.{job_in}
use Rattle.job_text.specs.JobForm.{IsJob, members_of}

-- the bytes are the JSON text of the value
abbrev pub IsJsonText : List ℕ → Data → Type 0
IsJsonText bytes d = IsUtf8 bytes × (read bytes ≡ Some d)

-- the bytes are the JSON text of a value that stands for the job
abbrev pub Describes : List ℕ → Job → Type 0
Describes bytes job = (d : Data) × IsJsonText bytes d × IsJob d job

-- `BadJson` where the bytes are the text of no value, and a fault where it is the first one of the value
abbrev pub IsRefused : List ℕ → JobRefusal → Type 0
IsRefused bytes refusals.BadJson = (d : Data) → IsJsonText bytes d → ⊥
IsRefused bytes (refusals.Fault fault) = (d : Data) × IsJsonText bytes d × (job_in d ≡ Err fault) × (fault ≢ faults.OutOfMemory)
IsRefused bytes refusals.OutOfMemory = ⊤

-- it is what reading gives, unless memory ran out
abbrev pub AnswersJob : List ℕ → Result Job JobRefusal → Type 0
AnswersJob bytes (Ok job) = (d : Data) × IsJsonText bytes d × (job_in d ≡ Ok (members_of job))
AnswersJob bytes (Err refusal) = IsRefused bytes refusal

-- the answer, unless memory ran out
abbrev pub IsAnswer : Job → Result Job JobRefusal → Type 0
IsAnswer job (Ok read) = read ≡ job
IsAnswer job (Err refusals.BadJson) = ⊥
IsAnswer job (Err (refusals.Fault fault)) = ⊥
IsAnswer job (Err refusals.OutOfMemory) = ⊤
