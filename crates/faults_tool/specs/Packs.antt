-- Which pack the bytes of a job have.
use Rattle.std.specs.Prelude.{◌≡◌, ◌≢◌, ℕ, codes, List, Result, Ok, Err, ⊤}
use Rattle.serde_json.specs.Data.{Data}
use Rattle.json_form.specs.declared.fault.JobFault.{JobFault}
use Rattle.json_form.specs.declared.fault.JobFault.TheVariants as faults
use Rattle.dap_base.specs.Outcome.{◌>>=◌}
use Rattle.json_form.specs.Form.{HasOnly, Has}
use Rattle.json_form.specs.Reading.{only_keys, required_value}
use Rattle.device_tree.specs.declared.pack.Pack.{Pack}
use Rattle.device_tree.specs.PackForm.{IsPack}
use Rattle.device_tree.specs.PackReading.{pack_in}
use Rattle.job_text.specs.Answers.{IsJsonText}
use Rattle.job_text.specs.Keys.{job_keys}
use Rattle.job_check.specs.declared.answer.Refusal.{Refusal}
use Rattle.job_check.specs.declared.answer.Refusal.TheVariants as refusals
use Rattle.job_check.specs.declared.answer.CheckRefusal.{CheckRefusal}
use Rattle.job_check.specs.declared.answer.CheckRefusal.TheVariants as ends
use Rattle.job_check.specs.Answers.{OnRefusal}

-- The value has no other keys than a job may have, and this pack. What is below the other keys is not read.
pub record HasPack (d : Data) (p : Pack) : Type 0 where
  pub known : HasOnly job_keys d
  pub pack : Has (codes "pack") IsPack d p

-- the bytes are the JSON text of such a value
abbrev pub DescribesPack : List ℕ → Pack → Type 0
DescribesPack bytes pack = (d : Data) × IsJsonText bytes d × HasPack d pack

-- reading the pack, or the first fault: of the keys, and then of the pack
unfoldable pub pack_in_job : Data → Result Pack JobFault
pack_in_job d = do
  known ← only_keys job_keys d
  required_value (codes "pack") pack_in d

-- the bytes are the text of no value, or this is its first fault
abbrev pub NoPack : List ℕ → Refusal → Type 0
NoPack bytes refusals.BadJson = (d : Data) → IsJsonText bytes d → ⊥
NoPack bytes (refusals.Job fault) = (d : Data) × IsJsonText bytes d × (pack_in_job d ≡ Err fault) × (fault ≢ faults.OutOfMemory)
NoPack bytes other = ⊥

-- ---- what is answered to bytes

-- this pack, unless memory ran out
abbrev pub IsPackAnswer : Pack → Result Pack CheckRefusal → Type 0
IsPackAnswer pack (Ok read) = read ≡ pack
IsPackAnswer pack (Err (ends.Refused r)) = ⊥
IsPackAnswer pack (Err ends.OutOfMemory) = ⊤

-- it is what reading gives, unless memory ran out
abbrev pub AnswersPack : List ℕ → Result Pack CheckRefusal → Type 0
AnswersPack bytes (Ok pack) = (d : Data) × IsJsonText bytes d × (pack_in_job d ≡ Ok pack)
AnswersPack bytes (Err end) = OnRefusal (NoPack bytes) end
