-- What is done besides the run of a sequence.
use Rattle.std.specs.Prelude.{Bool, true, false, ℕ, List, Option, Some, None}
use Rattle.image_load.specs.LoadSequel.{load_sequel}
use Rattle.job_check.specs.declared.own.JobImage.{JobImage}
use Rattle.job_runs.specs.Runs.{task_with}
use Rattle.followed_runs.specs.Followed.{Task}
use Rattle.sequels.specs.Sequel.{Sequel}
use Rattle.sequels.specs.declared.close.Close.{Close}
use Rattle.task_runs.specs.Tasks.{scanning}
use Rattle.dapseq_tool.specs.declared.asking.Purpose.{Purpose}
use Rattle.dapseq_tool.specs.declared.asking.Purpose.TheVariants.{Run, Trace, Load, Scan}
use Rattle.dapseq_tool.specs.declared.asking.Run as asked

-- the packets are shown
abbrev pub shows_packets : Purpose → Bool
shows_packets Trace = true
shows_packets other = false

-- what follows the sequence: the load of the image that the job has, or a scan
abbrev pub sequel_by : Purpose → Option JobImage → Option (Sequel Close)
sequel_by Run image = None
sequel_by Trace image = None
sequel_by Load None = None
sequel_by Load (Some i) = Some (load_sequel i.ap i.image)
sequel_by (Scan ap) image = Some (scanning ap)

-- The sequence of a run with what follows it.
abbrev pub task_by : asked.Run → Task
task_by run = task_with run.valid run.sequence (sequel_by run.purpose run.valid.image)
