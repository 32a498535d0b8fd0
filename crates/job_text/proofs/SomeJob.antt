-- Bytes describe a job, or they are refused: they are the text of no value, or of one that has a first fault.
use Rattle.std.proofs.Common.{◌≡◌, ◌≢◌, ◌⊎◌, inl, inr, ℕ, ◌-◌, ◌^◌, Bool, true, false, List, [], ◌∷◌, ◌++◌, codes, Option, Some, None, Result, Ok, Err, refl, subst, IsUtf8}
use Rattle.std.specs.Str.{is_utf8}
use Rattle.std.proofs.lemmas.Bool.{both_ways}
use Rattle.std.proofs.lemmas.Str.{IsUtf8-from_is_utf8, is_utf8-from_IsUtf8}
use Rattle.serde_json.specs.Data.{Data}
use Rattle.serde_json.specs.Read.{read}
use Rattle.json_form.specs.declared.fault.JobFault.{JobFault}
use Rattle.json_form.specs.declared.fault.JobFault.TheVariants.{OutOfMemory}
use Rattle.json_form.specs.Faults.{IsDecided, IsValueFault}
use Rattle.json_form.specs.Reading.{number, such, never, repeats_by}
use Rattle.json_form.proofs.FaultLaws.{bind_decided, cond_decided, text_decided, flag_decided, choice_decided, number_decided, such_decided, only_keys_decided, required_decided, optional_decided, or_else_decided, list_decided}
use Rattle.device_tree.proofs.FaultLaws.{pack_decided}
use Rattle.function_table.specs.Variables.{names_of_predefined}
use Rattle.target_machine.specs.declared.job.RegionJob.{RegionJob}
use Rattle.target_machine.specs.declared.job.WordJob.{WordJob}
use Rattle.target_machine.specs.declared.unit.Variable.{Variable}
use Rattle.trace_audit.specs.Texts.{is_entry_text}
use Rattle.job_text.specs.declared.job.Job.{Job}
use Rattle.job_text.specs.declared.job.JobRefusal.{JobRefusal}
use Rattle.job_text.specs.declared.job.JobRefusal.TheVariants as refusals
use Rattle.job_text.specs.Tests.{has_bit_0, lacks_bits_4_and_6, is_aligned, is_word_in, is_length_after, are_words_in, same_ap, overlap, same_word, repeats_script, is_filled}
use Rattle.job_text.specs.RunReading.{variable_in, values_after, variables_in, run_in}
use Rattle.job_text.specs.TargetReading.{ap_in, region_in, word_in, values_in, script_in, power_reads_in, port_in, aps_in, regions_in, words_in, listed_in, reset_in, scripts_in, target_in, packet_size_in, packet_count_in, limits_in, bench_in}
use Rattle.job_text.specs.JobReading.{watch_item_in, watch_in, image_job_in, image_in, dbgconf_in, entry_text_in, trace_in, optional_in, job_in}
use Rattle.job_text.specs.Answers.{IsJsonText, Describes, IsRefused}
use Rattle.job_text.proofs.AnswerLaws.{job_or_first_fault}

-- ---- how sequences are run

variable_decided : (name : List ℕ) (d : Data) → IsDecided (variable_in name d)
unfolding variable_in
variable_decided name d = bind_decided _ _ (or_else_decided _ _ _ (number_decided 0 (2 ^ 64 - 1)) d) (λ value. tt)

values_decided : (earlier : List Variable) (names : List (List ℕ)) (d : Data) → IsDecided (values_after earlier names d)
unfolding values_after
values_decided earlier [] d = tt
values_decided earlier (name ∷ names) d = bind_decided (variable_in name d) _ (variable_decided name d) (λ variable. values_decided (earlier ++ variable ∷ []) names d)

variables_decided : (d : Data) → IsDecided (variables_in d)
unfolding variables_in
variables_decided d = bind_decided _ _ (only_keys_decided _ d) (λ known. values_decided [] names_of_predefined d)

run_decided : (d : Data) → IsDecided (run_in d)
unfolding run_in
run_decided d =
    bind_decided _ _ (only_keys_decided _ d) (λ known. bind_decided _ _ (or_else_decided _ _ _ (number_decided 1 60000000) d) (λ turn.
    bind_decided _ _ (or_else_decided _ _ _ (number_decided 0 65535) d) (λ retry. bind_decided _ _ (or_else_decided _ _ _ (number_decided 0 255) d) (λ idle.
    bind_decided _ _ (or_else_decided _ _ _ variables_decided d) (λ start. tt)))))

-- ---- the target

word_number_decided : (d : Data) → IsDecided (number 0 (2 ^ 32 - 1) d)
word_number_decided = number_decided 0 (2 ^ 32 - 1)

address_decided : (passes : ℕ → Bool) (d : Data) → IsDecided (such passes (number 0 (2 ^ 64 - 1)) d)
address_decided passes = such_decided passes (number 0 (2 ^ 64 - 1)) (number_decided 0 (2 ^ 64 - 1))

ap_decided : (d : Data) → IsDecided (ap_in d)
unfolding ap_in
ap_decided d =
    bind_decided _ _ (only_keys_decided _ d) (λ known. bind_decided _ _ (required_decided _ _ (number_decided 0 255) d) (λ ap.
    bind_decided _ _ (or_else_decided _ _ _ word_number_decided d) (λ idr. bind_decided _ _ (or_else_decided _ _ _ word_number_decided d) (λ base.
    bind_decided _ _ (or_else_decided _ _ _ word_number_decided d) (λ csw. bind_decided _ _ (or_else_decided _ _ _ flag_decided d) (λ la. tt))))))

region_decided : (earlier : List RegionJob) (d : Data) → IsDecided (region_in earlier d)
unfolding region_in
region_decided earlier d =
    bind_decided _ _ (only_keys_decided _ d) (λ known. bind_decided _ _ (required_decided _ _ (address_decided is_aligned) d) (λ address.
    bind_decided _ _ (required_decided _ _ (such_decided (is_length_after earlier address) _ (number_decided 4 4194304)) d) (λ length.
    bind_decided _ _ (or_else_decided _ _ _ (choice_decided (codes "rw") (codes "ro")) d) (λ read_only. tt))))

word_decided : (regions : List RegionJob) (d : Data) → IsDecided (word_in regions d)
unfolding word_in
word_decided regions d =
    bind_decided _ _ (only_keys_decided _ d) (λ known. bind_decided _ _ (required_decided _ _ (address_decided (is_word_in regions)) d) (λ address.
    bind_decided _ _ (required_decided _ _ word_number_decided d) (λ value. tt)))

script_values_decided : (d : Data) → IsDecided (values_in d)
unfolding values_in
script_values_decided d =
    bind_decided _ _ (list_decided (Some 4096) _ never (λ earlier. word_number_decided) d) (λ values. cond_decided (is_filled values) _ _ tt tt)

script_decided : (regions : List RegionJob) (d : Data) → IsDecided (script_in regions d)
unfolding script_in
script_decided regions d =
    bind_decided _ _ (only_keys_decided _ d) (λ known. bind_decided _ _ (required_decided _ _ (address_decided (is_word_in regions)) d) (λ address.
    bind_decided _ _ (required_decided _ _ script_values_decided d) (λ values. tt)))

power_reads_decided : (d : Data) → IsDecided (power_reads_in d)
unfolding power_reads_in
power_reads_decided d = or_else_decided _ _ _ (number_decided 0 1000000) d

port_decided : (d : Data) → IsDecided (port_in d)
unfolding port_in
port_decided d =
    bind_decided _ _ (or_else_decided _ _ _ (such_decided has_bit_0 _ word_number_decided) d) (λ dpidr. bind_decided _ _ (or_else_decided _ _ _ flag_decided d) (λ powered.
    bind_decided _ _ (power_reads_decided d) (λ power_reads. bind_decided _ _ (or_else_decided _ _ _ (such_decided lacks_bits_4_and_6 _ (number_decided 0 255)) d) (λ pins.
    bind_decided _ _ (or_else_decided _ _ _ (choice_decided (codes "wrap") (codes "carry")) d) (λ carry. tt)))))

aps_decided : (d : Data) → IsDecided (aps_in d)
unfolding aps_in
aps_decided d = required_decided _ _ (list_decided (Some 16) _ (repeats_by same_ap) (λ earlier. ap_decided)) d

regions_decided : (d : Data) → IsDecided (regions_in d)
unfolding regions_in
regions_decided d = required_decided _ _ (list_decided (Some 64) _ (repeats_by overlap) region_decided) d

words_decided : (key : List ℕ) (limit : ℕ) (regions : List RegionJob) (d : Data) → IsDecided (words_in key limit regions d)
unfolding words_in
words_decided key limit regions d = or_else_decided _ _ _ (list_decided (Some limit) _ (repeats_by same_word) (λ earlier. word_decided regions)) d

listed_decided : (regions : List RegionJob) (d : Data) → IsDecided (listed_in regions d)
unfolding listed_in
listed_decided regions d = words_decided (codes "words") 65536 regions d

reset_decided : (regions : List RegionJob) (d : Data) → IsDecided (reset_in regions d)
unfolding reset_in
reset_decided regions d = words_decided (codes "reset") 1024 regions d

scripts_decided : (regions : List RegionJob) (words : List WordJob) (d : Data) → IsDecided (scripts_in regions words d)
unfolding scripts_in
scripts_decided regions words d = or_else_decided _ _ _ (list_decided (Some 1024) _ (repeats_script words) (λ earlier. script_decided regions)) d

target_decided : (d : Data) → IsDecided (target_in d)
unfolding target_in
target_decided d =
    bind_decided _ _ (only_keys_decided _ d) (λ known. bind_decided _ _ (port_decided d) (λ port. bind_decided _ _ (aps_decided d) (λ aps.
    bind_decided _ _ (regions_decided d) (λ memory. bind_decided _ _ (listed_decided memory d) (λ words. bind_decided _ _ (scripts_decided memory words d) (λ scripts.
    bind_decided _ _ (reset_decided memory d) (λ reset. tt)))))))

-- ---- the probe

packet_size_decided : (d : Data) → IsDecided (packet_size_in d)
unfolding packet_size_in
packet_size_decided d = required_decided _ _ (number_decided 64 1024) d

packet_count_decided : (d : Data) → IsDecided (packet_count_in d)
unfolding packet_count_in
packet_count_decided d = required_decided _ _ (number_decided 1 64) d

limits_decided : (d : Data) → IsDecided (limits_in d)
unfolding limits_in
limits_decided d = bind_decided _ _ (packet_size_decided d) (λ packet_size. bind_decided _ _ (packet_count_decided d) (λ packet_count. tt))

bench_decided : (d : Data) → IsDecided (bench_in d)
unfolding bench_in
bench_decided d =
    bind_decided _ _ (only_keys_decided _ d) (λ known. bind_decided _ _ (limits_decided d) (λ limits.
    bind_decided _ _ (or_else_decided _ _ _ (list_decided (Some 65536) _ never (λ earlier. number_decided 0 100000)) d) (λ stalls.
    bind_decided _ _ (required_decided _ _ target_decided d) (λ target. tt))))

-- ---- the job

watch_item_decided : (regions : List RegionJob) (d : Data) → IsDecided (watch_item_in regions d)
unfolding watch_item_in
watch_item_decided regions d =
    bind_decided _ _ (only_keys_decided _ d) (λ known. bind_decided _ _ (required_decided _ _ (address_decided is_aligned) d) (λ address.
    bind_decided _ _ (required_decided _ _ (such_decided (are_words_in regions address) _ (number_decided 1 65536)) d) (λ words. tt)))

watch_decided : (regions : List RegionJob) (d : Data) → IsDecided (watch_in regions d)
unfolding watch_in
watch_decided regions d = or_else_decided _ _ _ (list_decided (Some 1024) _ never (λ earlier. watch_item_decided regions)) d

image_job_decided : (d : Data) → IsDecided (image_job_in d)
unfolding image_job_in
image_job_decided d =
    bind_decided _ _ (only_keys_decided _ d) (λ known. bind_decided _ _ (or_else_decided _ _ _ (number_decided 0 255) d) (λ ap.
    bind_decided _ _ (required_decided _ _ text_decided d) (λ hex. tt)))

image_decided : (d : Data) → IsDecided (image_in d)
unfolding image_in
image_decided d = optional_decided _ _ image_job_decided d

dbgconf_decided : (d : Data) → IsDecided (dbgconf_in d)
unfolding dbgconf_in
dbgconf_decided d = optional_decided _ _ text_decided d

entry_decided : (d : Data) → IsDecided (entry_text_in d)
unfolding entry_text_in
entry_decided d = bind_decided _ _ (text_decided d) (λ word. cond_decided (is_entry_text word) _ _ tt tt)

trace_decided : (d : Data) → IsDecided (trace_in d)
unfolding trace_in
trace_decided d = optional_decided _ _ (list_decided (Some 65536) _ never (λ earlier. entry_decided)) d

optional_decides : (regions : List RegionJob) (d : Data) → IsDecided (optional_in regions d)
unfolding optional_in
optional_decides regions d =
    bind_decided _ _ (watch_decided regions d) (λ watch. bind_decided _ _ (image_decided d) (λ image. bind_decided _ _ (dbgconf_decided d) (λ dbgconf.
    bind_decided _ _ (trace_decided d) (λ trace. tt))))

job_decided : (d : Data) → IsDecided (job_in d)
unfolding job_in
job_decided d =
    bind_decided _ _ (only_keys_decided _ d) (λ known. bind_decided _ _ (required_decided _ _ pack_decided d) (λ pack.
    bind_decided _ _ (or_else_decided _ _ _ run_decided d) (λ settings. bind_decided _ _ (required_decided _ _ bench_decided d) (λ bench.
    bind_decided _ _ (optional_decides bench.target.memory d) (λ own. tt)))))

-- ---- the bytes

of_value : (fault : JobFault) → IsValueFault fault → fault ≢ OutOfMemory
of_value fault is e = subst IsValueFault e is

module _ (bytes : List ℕ) where
  abbrev pub JobOrNone : Type 0
  JobOrNone = ((job : Job) × Describes bytes job) ⊎ ((refusal : JobRefusal) × IsRefused bytes refusal × (refusal ≢ refusals.OutOfMemory))

  by_reading : (d : Data) → IsJsonText bytes d → JobOrNone
  by_reading d text = elim (job_or_first_fault d (job_decided d)) [
    | inl found ↦ inl (found.0, (d, text, found.1))
    | inr none ↦ inr (refusals.Fault none.0, (d, text, none.1, of_value none.0 none.2), λ e. absurd cc)
  ]

  by_value : IsUtf8 bytes → (o : Option Data) → read bytes ≡ o → JobOrNone
  by_value utf8 None none = inr (refusals.BadJson, (λ d text. (let e = text.1 in absurd cc)), λ e. absurd cc)
  by_value utf8 (Some d) is = by_reading d (utf8, is)

  by_bytes : (b : Bool) → is_utf8 bytes ≡ b → JobOrNone
  by_bytes true is = by_value (IsUtf8-from_is_utf8 bytes is) (read bytes) refl
  by_bytes false is = inr (refusals.BadJson, (λ d text. both_ways (is_utf8 bytes) is (is_utf8-from_IsUtf8 bytes text.0)), λ e. absurd cc)

  pub job_or_none : JobOrNone
  job_or_none = by_bytes (is_utf8 bytes) refl
