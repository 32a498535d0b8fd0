-- The settings and the watched words of a job that a value stands for are in their ranges.
use Rattle.std.proofs.Common.{◌≡◌, ℕ, ◌≤◌, codes, List, [], ◌∷◌, map, Option, Some, None, inl, inr, refl, ap, subst, ◌∙◌, arith}
use Rattle.std.specs.List.{All}
use Rattle.serde_json.specs.Data.{Data}
use Rattle.json_form.specs.Reading.{never}
use Rattle.json_form.specs.Form.{IsNumber, MayHave, IsListOf, Alone}
use Rattle.json_form.proofs.ItemLaws.{list_holds, list_length}
use Rattle.trace_audit.specs.Texts.{IsEntry}
use Rattle.trace_audit.proofs.TextLemmas.{is_equal}
use Rattle.target_machine.specs.declared.job.RegionJob.{RegionJob}
use Rattle.target_machine.specs.declared.unit.Settings.{Settings}
use Rattle.target_machine.specs.declared.unit.Variable.{Variable}
use Rattle.job_text.specs.declared.job.Job.{Job}
use Rattle.job_text.specs.declared.job.WatchItem.{WatchItem}
use Rattle.job_text.specs.RunReading.{zeros, default_settings}
use Rattle.function_table.specs.Variables.{names_of_predefined}
use Rattle.job_text.specs.RunForm.{HasValues, AreVariables, IsRun}
use Rattle.job_text.specs.JobForm.{IsWatchItem, IsEntryOf, IsJob}
use Rattle.job_text.specs.Ranges.{AreSettings, IsWatched, AreWatched, AreEntryTexts}
use Rattle.job_text.proofs.RangeLaws.{or_default}

names-values : (names : List (List ℕ)) (d : Data) (variables : List Variable) → HasValues names d variables → map (λ variable. variable.name) variables ≡ names
names-values [] d variables h = ap (map (λ (variable : Variable). variable.name)) h
names-values (name ∷ names) d variables h = ap (map (λ (variable : Variable). variable.name)) h.2 ∙ ap (λ ns. name ∷ ns) (names-values names d h.1 h.4)

abbrev IsTurn : ℕ → Type 0
IsTurn n = (1 ≤ n) × (n ≤ 60000000)

run_settings : (d : Data) (x : Settings) → IsRun d x → AreSettings x
run_settings d x is =
    let turn = or_default (codes "turn_us") (IsNumber 1 60000000) 10 d x.turn_us IsTurn (λ v n h. (h.1, h.2)) (omega arith, omega arith) is.turn_us in
    record {
      some = turn.0;
      few = turn.1;
      names = or_default (codes "variables") AreVariables zeros d x.start (λ vs. map (λ variable. variable.name) vs ≡ names_of_predefined) (λ v vs h. names-values names_of_predefined v vs h.values) refl is.start;
    }

pub settings_in_range : (d : Data) (job : Job) → IsJob d job → AreSettings job.settings
settings_in_range d job is =
    or_default (codes "run") IsRun default_settings d job.settings AreSettings run_settings
    (record { some = omega arith; few = omega arith; names = refl }) is.settings

watched : (regions : List RegionJob) (d : Data) (x : WatchItem) → IsWatchItem regions d x → IsWatched regions x
watched regions d x is = record { aligned = is_equal _ 0 is.address.2.1; some = is.words.2.0.1; few = is.words.2.0.2; inside = is.words.2.1 }

pub watch_in_range : (d : Data) (job : Job) → IsJob d job → AreWatched job.bench.target.memory job.watch
watch_in_range d job is =
    let regions = job.bench.target.memory in
    or_default (codes "watch") (IsListOf (Some 1024) (Alone (IsWatchItem regions)) never) [] d job.watch (AreWatched regions)
    (λ v items h. record {
      few = list_length 1024 _ never v items h;
      each = list_holds (Some 1024) (Alone (IsWatchItem regions)) never (IsWatched regions) v items (λ before e x r fresh. watched regions e x r) h;
    })
    (record { few = omega arith; each = λ k e lt. absurd (omega arith) }) is.watch

entries_of : (o : Option (List (List ℕ))) → (d : Data) → MayHave (codes "trace") (IsListOf (Some 65536) (Alone IsEntryOf) never) d o → AreEntryTexts o
entries_of None d has = tt
entries_of (Some texts) d (inl has) =
    let same : has.0 ≡ texts = cc in
    subst (All IsEntry) same (list_holds (Some 65536) (Alone IsEntryOf) never IsEntry has.2.0 has.0 (λ before e x r fresh. r.1) has.2.2)
entries_of (Some texts) d (inr has) = absurd cc

-- each text of a trace is that of an entry
pub trace_entries : (d : Data) (job : Job) → IsJob d job → AreEntryTexts job.trace
trace_entries d job is = entries_of job.trace d is.trace
