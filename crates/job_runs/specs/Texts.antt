-- What is written after a run.
use Rattle.std.specs.Prelude.{ℕ, Bool, true, false, ◌&&◌, List, [], ◌++◌, if◌then◌else◌}
use Rattle.probe_core.specs.Bench.{BenchState}
use Rattle.probe_core.specs.Log.{Log}
use Rattle.probe_core.specs.Probe.{target_of}
use Rattle.job_text.specs.declared.job.Job.{Job}
use Rattle.access_calls.specs.declared.ended.Ended.{Ended}
use Rattle.access_calls.specs.declared.ended.Ending.{Ending}
use Rattle.access_calls.specs.declared.ended.Ending.TheVariants as e
use Rattle.report_lines.specs.Closes.{differs_line, differs_lines, full_line, full_lines, loaded_line}
use Rattle.report_lines.specs.Endings.{ending_lines, shows_target}
use Rattle.report_lines.specs.Report.{report}
use Rattle.report_lines.specs.Trace.{trace}
use Rattle.sequels.specs.declared.close.Close.{Close}
use Rattle.sequels.specs.declared.close.Close.TheVariants as close

-- a run has a report, unless it could not write or had no memory
abbrev pub has_report : Ending → Bool
has_report e.WriteFault = false
has_report e.OutOfMemory = false
has_report other = true

-- the lines of the trace, where it is shown
abbrev pub trace_part : Bool → Log → List ℕ
trace_part shows log = if shows then trace log else []

-- The report of a run of a job, and after it the trace of its packets, where it is requested and the report shows the target.
abbrev pub run_text : Bool → Ended → List ℕ → List ℕ → Job → BenchState → List ℕ
run_text traced ended sent got job n = report ended sent got job (target_of n.probe) ++ trace_part (traced && shows_target ended.ending) n.log

-- ---- with what followed the sequence

-- The text after a run with what followed it. Where an image was loaded its line comes before the report. Where a byte differs, or the ROM table is too large,
-- the line of that and the target come in its place.
abbrev pub whole_text : Bool → Ended → Close → List ℕ → List ℕ → Job → BenchState → List ℕ
whole_text traced ended close.Nothing sent got job n = run_text traced ended sent got job n
whole_text traced ended (close.Loaded bytes writes) sent got job n = loaded_line bytes writes ++ run_text traced ended sent got job n
whole_text traced ended (close.Differs address wanted found) sent got job n = differs_lines address wanted found job (target_of n.probe)
whole_text traced ended close.Scanned sent got job n = run_text traced ended sent got job n
whole_text traced ended close.Full sent got job n = full_lines job (target_of n.probe)

-- The lines that come first of it, which no bench is asked for.
abbrev pub first_lines : Ended → Close → List ℕ → List ℕ → List ℕ
first_lines ended close.Nothing sent got = ending_lines ended.ending ended sent got
first_lines ended (close.Loaded bytes writes) sent got = loaded_line bytes writes ++ ending_lines ended.ending ended sent got
first_lines ended (close.Differs address wanted found) sent got = differs_line address wanted found
first_lines ended close.Scanned sent got = ending_lines ended.ending ended sent got
first_lines ended close.Full sent got = full_line
