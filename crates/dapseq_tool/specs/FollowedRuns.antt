-- Laws of runs with a load or a scan after the sequence.
use Rattle.std.specs.Prelude.{◌≡◌, ℕ, ◌^◌, ◌<◌, List, ◌++◌, Option, Some, None, length, option_map, take}
use Rattle.target_machine.specs.Start.{start}
use Rattle.target_calls.specs.World.{World, start_world}
use Rattle.probe_core.specs.Bench.{BenchState}
use Rattle.probe_core.specs.Probe.{target_of}
use Rattle.access_calls.specs.declared.ended.Ending.TheVariants as e
use Rattle.image_load.specs.Laid.{CanLoad, laid_memory}
use Rattle.image_load.specs.Pieces.{pieces}
use Rattle.rom_scan.specs.Listing.{component_lines, listed_within}
use Rattle.rom_scan.specs.Showing.{CanScan}
use Rattle.sequels.specs.declared.close.Close.TheVariants as closes
use Rattle.sequence_rules.specs.Runs as runs
use Rattle.sequence_rules.specs.Runs.{Program}
use Rattle.job_check.specs.declared.own.JobImage.{JobImage}
use Rattle.job_runs.specs.Runs.{AccessKind, known_after, program_in}
use Rattle.task_runs.specs.Laws.{alone_in, components_shown, world_then}
use Rattle.task_runs.specs.Tasks.{scan_close}
use Rattle.dapseq_tool.specs.Headline.{After, IsRunTo, RunEnd}
use Rattle.dapseq_tool.specs.declared.asking.Purpose.TheVariants as purposes
use Rattle.dapseq_tool.specs.declared.asking.Run.{Run}

-- the world in which the sequence of a run begins
abbrev pub first_world : Run → World
first_world run = start_world (start run.valid.job.bench.target) None

-- the program of its sequence
abbrev pub program_by : Run → Program
program_by run = program_in run.valid run.sequence

-- the world that the sequence leaves
abbrev pub left_world : Run → Option (List ℕ) → World
left_world run before = world_then (first_world run) (program_by run) before

-- the sequence by itself is done
abbrev pub IsDoneAlone : Run → Option (List ℕ) → Type 0
IsDoneAlone run before = (alone_in (first_world run) (program_by run) before).ending ≡ runs.Done

-- The words of the target are those that the sequence leaves, with the image laid over them. All of the image was loaded.
pub record IsLaid (run : Run) (before : Option (List ℕ)) (i : JobImage) (r : RunEnd) (n : BenchState) : Type 0 where
  pub words : (target_of n.probe).words ≡ laid_memory (left_world run before).target.words i.image
  pub close : r.close ≡ closes.Loaded (length i.image) (length (pieces i.image))

-- A run of the mode `load` that is done, where the image may be loaded after the sequence, is so.
abbrev pub RunsLay : Type 0
RunsLay = (access : AccessKind) (run : Run) (before : Option (List ℕ)) (r : RunEnd) (a : After) (n : BenchState) (i : JobImage)
    → run.purpose ≡ purposes.Load → run.valid.image ≡ Some i → IsRunTo access run before r a n → r.ended.ending ≡ e.Done
    → IsDoneAlone run before → CanLoad (left_world run before) i.ap i.image → IsLaid run before i r n

-- The lines of the components that the words of the target show were written after those of the sequence. Where there are more than 1,024, those
-- of the first 1,024 were written, and the scan is full exactly there. The words are those that the sequence leaves.
pub record IsListed (run : Run) (before : Option (List ℕ)) (ap : ℕ) (r : RunEnd) (n : BenchState) : Type 0 where
  pub written : known_after before r.written
      ≡ option_map (λ bytes. bytes ++ component_lines (take 1024 (components_shown (first_world run) (program_by run) before ap)))
      (alone_in (first_world run) (program_by run) before).written
  pub words : (target_of n.probe).words ≡ (left_world run before).target.words
  pub close : r.close ≡ scan_close (listed_within 1024 (components_shown (first_world run) (program_by run) before ap))

-- A run of the mode `scan` that is done, where words can be read by the access port after the sequence, is so.
abbrev pub RunsList : Type 0
RunsList = (access : AccessKind) (run : Run) (before : Option (List ℕ)) (r : RunEnd) (a : After) (n : BenchState) (ap : ℕ)
    → run.purpose ≡ purposes.Scan ap → ap < 2 ^ 8 → IsRunTo access run before r a n → r.ended.ending ≡ e.Done
    → IsDoneAlone run before → CanScan (left_world run before) ap → IsListed run before ap r n
