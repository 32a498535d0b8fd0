-- What holds of the settings and the watched words of every job that is read.
use Rattle.std.specs.Prelude.{◌≡◌, ℕ, ◌%◌, ◌≤◌, true, List, Option, IfSome, map, length}
use Rattle.std.specs.List.{All}
use Rattle.target_machine.specs.declared.job.RegionJob.{RegionJob}
use Rattle.target_machine.specs.declared.unit.Settings.{Settings}
use Rattle.job_text.specs.declared.job.WatchItem.{WatchItem}
use Rattle.function_table.specs.Variables.{names_of_predefined}
use Rattle.trace_audit.specs.Texts.{IsEntry}
use Rattle.job_text.specs.Tests.{are_words_in}

-- 1 to 60,000,000 microseconds a turn, and a value for each predefined variable, in their order
pub record AreSettings (settings : Settings) : Type 0 where
  pub some : 1 ≤ settings.turn_us
  pub few : settings.turn_us ≤ 60000000
  pub names : map (λ variable. variable.name) settings.start ≡ names_of_predefined

-- 1 to 65,536 words, each in one of the regions
pub record IsWatched (regions : List RegionJob) (item : WatchItem) : Type 0 where
  pub aligned : item.address % 4 ≡ 0
  pub some : 1 ≤ item.words
  pub few : item.words ≤ 65536
  pub inside : are_words_in regions item.address item.words ≡ true

-- at most 1,024 stretches are watched, each within the regions
pub record AreWatched (regions : List RegionJob) (watch : List WatchItem) : Type 0 where
  pub few : length watch ≤ 1024
  pub each : All (IsWatched regions) watch

-- each text of a trace is that of an entry
abbrev pub AreEntryTexts : Option (List (List ℕ)) → Type 0
AreEntryTexts trace = IfSome trace (All IsEntry)
