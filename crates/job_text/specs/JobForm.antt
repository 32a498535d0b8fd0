-- Which JSON value stands for which job, said apart from any order of reading.
use Rattle.std.specs.Prelude.{ℕ, codes, List, [], ◌∷◌, Some}
use Rattle.serde_json.specs.Data.{Data}
use Rattle.json_form.specs.Reading.{never}
use Rattle.json_form.specs.Form.{IsText, IsNumber, Such, HasOnly, Has, HasOr, MayHave, IsListOf, Alone}
use Rattle.device_tree.specs.PackForm.{IsPack}
use Rattle.target_machine.specs.declared.job.RegionJob.{RegionJob}
use Rattle.trace_audit.specs.Texts.{IsEntry}
use Rattle.job_text.specs.declared.job.ImageJob.{ImageJob}
use Rattle.job_text.specs.declared.job.Job.{Job}
use Rattle.job_text.specs.declared.reading.JobParts.{JobParts}
use Rattle.job_text.specs.declared.job.WatchItem.{WatchItem}
use Rattle.job_text.specs.Tests.{is_aligned, are_words_in}
use Rattle.job_text.specs.RunReading.{default_settings}
use Rattle.job_text.specs.RunForm.{IsRun}
use Rattle.job_text.specs.TargetForm.{IsAddress, IsBench}

-- the value is an item of `watch`: 1 to 65,536 words from an address on, each in a region
pub record IsWatchItem (regions : List RegionJob) (d : Data) (x : WatchItem) : Type 0 where
  pub known : HasOnly (codes "address" ∷ codes "words" ∷ []) d
  pub address : Has (codes "address") (Such is_aligned IsAddress) d x.address
  pub words : Has (codes "words") (Such (are_words_in regions x.address) (IsNumber 1 65536)) d x.words

-- a text that is that of an entry of a trace
abbrev pub IsEntryOf : Data → List ℕ → Type 0
IsEntryOf d text = IsText d text × IsEntry text

-- an image of memory, whose text may be any
pub record IsImageJob (d : Data) (x : ImageJob) : Type 0 where
  pub known : HasOnly (codes "ap" ∷ codes "hex" ∷ []) d
  pub ap : HasOr (codes "ap") (IsNumber 0 255) 0 d x.ap
  pub hex : Has (codes "hex") IsText d x.hex

-- the members of the job
abbrev pub members_of : Job → JobParts
members_of job = record { pack = job.pack; settings = job.settings; bench = job.bench; watch = job.watch; image = job.image; dbgconf = job.dbgconf; trace = job.trace }

-- the value stands for the members of a job: each key of docs/JOB.md has its value, or its default where it is absent
pub record AreParts (d : Data) (x : JobParts) : Type 0 where
  pub known : HasOnly (codes "pack" ∷ codes "run" ∷ codes "bench" ∷ codes "watch" ∷ codes "image" ∷ codes "dbgconf" ∷ codes "trace" ∷ []) d
  pub pack : Has (codes "pack") IsPack d x.pack
  pub settings : HasOr (codes "run") IsRun default_settings d x.settings
  pub bench : Has (codes "bench") IsBench d x.bench
  pub watch : HasOr (codes "watch") (IsListOf (Some 1024) (Alone (IsWatchItem x.bench.target.memory)) never) [] d x.watch
  pub image : MayHave (codes "image") IsImageJob d x.image
  pub dbgconf : MayHave (codes "dbgconf") IsText d x.dbgconf
  pub trace : MayHave (codes "trace") (IsListOf (Some 65536) (Alone IsEntryOf) never) d x.trace

-- the value stands for the job
abbrev pub IsJob : Data → Job → Type 0
IsJob d job = AreParts d (members_of job)
