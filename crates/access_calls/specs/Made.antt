-- Which units were made by the first entries of a journal, and the memory that they leave.
use Rattle.std.specs.Prelude.{◌≡◌, ℕ, ◌+◌, ◌≤◌, max, ◌||◌, if◌then◌else◌, List, fold, length, take, Some}
use Rattle.target_machine.specs.State.{TargetState}
use Rattle.probe_core.specs.Bench.{BenchState}
use Rattle.probe_core.specs.Probe.{target_of}
use Rattle.target_calls.specs.Journal.{Entry, completes, is_skip}
use Rattle.target_calls.specs.World.{start_world, world_after}
use Rattle.target_calls.specs.declared.calls.Ask.{Ask}
use Rattle.access_calls.specs.declared.stop.Report.{Report}
use Rattle.access_calls.specs.declared.stop.StopCause.{StopCause}
use Rattle.access_calls.specs.declared.stop.StopCause.TheVariants.{Faulted, NoAnswer}

-- the number of the unit that an entry makes, by the access that the unit is for or by its skip; where it makes none, the given number
abbrev pub last_made_by : ℕ → Entry → ℕ
last_made_by units e = if completes e.part || is_skip e.part then e.unit else units

-- the number of the last unit that these entries made; 0 where they made none
abbrev pub last_made : List Entry → ℕ
last_made entries = fold last_made_by 0 entries

-- How many units were made at a stop: at a fault those up to the named one, which leaves the memory as it was. Where a retry ended those
-- that have their lines before it, and the next one where its own access or its skip was performed.
abbrev pub units_made : StopCause → List Entry → Report → ℕ → ℕ
units_made Faulted entries r lines = r.unit
units_made NoAnswer entries r lines = max lines (last_made (take r.accesses entries))

-- Of these calls so many were made, which were asked and are at most one more than those that have their lines. The memory is the one that they
-- leave, each made alone and at once.
pub record HasMemory (t : TargetState) (calls : List Ask) (made lines : ℕ) (m : BenchState) : Type 0 where
  pub asked : made ≤ length calls
  pub few : made ≤ lines + 1
  pub words : (target_of m.probe).words ≡ (world_after (start_world t (Some made)) calls).target.words
