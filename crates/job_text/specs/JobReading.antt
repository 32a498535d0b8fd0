-- Reading a job.
use Rattle.std.specs.Prelude.{ℕ, codes, List, [], Option, Some, Result, Ok, Err, if◌then◌else◌}
use Rattle.serde_json.specs.Data.{Data}
use Rattle.json_form.specs.declared.fault.JobFault.{JobFault}
use Rattle.json_form.specs.declared.fault.JobFault.TheVariants.{WrongKind}
use Rattle.dap_base.specs.Outcome.{◌>>=◌}
use Rattle.json_form.specs.Reading.{text, number, such, only_keys, required_value, optional, or_else, list_of, alone, never}
use Rattle.device_tree.specs.PackReading.{pack_in}
use Rattle.target_machine.specs.declared.job.RegionJob.{RegionJob}
use Rattle.trace_audit.specs.Texts.{is_entry_text}
use Rattle.job_text.specs.declared.job.ImageJob.{ImageJob}
use Rattle.job_text.specs.declared.reading.JobParts.{JobParts}
use Rattle.job_text.specs.declared.job.WatchItem.{WatchItem}
use Rattle.job_text.specs.declared.reading.Optional.{Optional}
use Rattle.job_text.specs.Keys.{watch_keys, image_keys, job_keys}
use Rattle.job_text.specs.Tests.{is_aligned, are_words_in}
use Rattle.job_text.specs.RunReading.{run_in, default_settings}
use Rattle.job_text.specs.TargetReading.{address_number, bench_in}

-- an item of `watch`: an address, and how many words from it on are printed
unfoldable pub watch_item_in : List RegionJob → Data → Result WatchItem JobFault
watch_item_in regions d = do
  known ← only_keys watch_keys d
  address ← required_value (codes "address") (such is_aligned address_number) d
  words ← required_value (codes "words") (such (are_words_in regions address) (number 1 65536)) d
  Ok (record { address = address; words = words })

-- the value of `watch`: at most 1,024 watched stretches, none where the key is absent
unfoldable pub watch_in : List RegionJob → Data → Result (List WatchItem) JobFault
watch_in regions d = or_else (codes "watch") (list_of (Some 1024) (alone (watch_item_in regions)) never) [] d

-- the value of `image`: the access port through which it is written, 0 where that is absent, and the Intel HEX records
unfoldable pub image_job_in : Data → Result ImageJob JobFault
image_job_in d = do
  known ← only_keys image_keys d
  ap ← or_else (codes "ap") (number 0 255) 0 d
  hex ← required_value (codes "hex") text d
  Ok (record { ap = ap; hex = hex })

-- the image of memory, where the job has the key `image`
unfoldable pub image_in : Data → Result (Option ImageJob) JobFault
image_in d = optional (codes "image") image_job_in d

-- the text with starting values of debug variables, where the job has the key `dbgconf`
unfoldable pub dbgconf_in : Data → Result (Option (List ℕ)) JobFault
dbgconf_in d = optional (codes "dbgconf") text d

-- a text that is that of an entry of a trace
unfoldable pub entry_text_in : Data → Result (List ℕ) JobFault
entry_text_in d = do
  word ← text d
  if is_entry_text word then Ok word else Err (WrongKind [])

-- the at most 65,536 entries of a kept trace, where the job has the key `trace`
unfoldable pub trace_in : Data → Result (Option (List (List ℕ))) JobFault
trace_in d = optional (codes "trace") (list_of (Some 65536) (alone entry_text_in) never) d

-- the members that may be absent, apart from `run`
unfoldable pub optional_in : List RegionJob → Data → Result Optional JobFault
optional_in regions d = do
  watch ← watch_in regions d
  image ← image_in d
  dbgconf ← dbgconf_in d
  trace ← trace_in d
  Ok (record { watch = watch; image = image; dbgconf = dbgconf; trace = trace })

-- the members of a job: its keys, then the values of `pack`, `run`, `bench`, `watch`, `image`, `dbgconf` and `trace`, in this order
unfoldable pub job_in : Data → Result JobParts JobFault
job_in d = do
  known ← only_keys job_keys d
  pack ← required_value (codes "pack") pack_in d
  settings ← or_else (codes "run") run_in default_settings d
  bench ← required_value (codes "bench") bench_in d
  own ← optional_in bench.target.memory d
  Ok (record { pack = pack; settings = settings; bench = bench; watch = own.watch; image = own.image; dbgconf = own.dbgconf; trace = own.trace })
