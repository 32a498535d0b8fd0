-- What a run of a job leaves.
use Rattle.std.specs.Prelude.{◌≡◌, ⊤, ℕ, ◌&&◌, is_none, ◌+◌, ◌-◌, ◌*◌, ◌/◌, ◌^◌, ◌<◌, ◌≤◌, Bool, true, false, List, length}
use Rattle.std.specs.Prelude.{max, drop, take, slice_get, IfSome, Option, Some, None}
use Rattle.target_machine.specs.Start.{start}
use Rattle.target_machine.specs.State.{Agree, TargetState}
use Rattle.target_machine.specs.declared.unit.Settings.{Settings}
use Rattle.probe_core.specs.Bench.{BenchState, Reported, fresh}
use Rattle.probe_core.specs.Probe.{ended_retries_of, target_of, work_of}
use Rattle.probe_core.specs.Ranges.{IsBenchJob}
use Rattle.probe_core.specs.declared.job.BenchJob.{BenchJob}
use Rattle.probe_core.specs.declared.job.Config.{Config}
use Rattle.probe_core.specs.declared.job.Limits.{Limits}
use Rattle.target_calls.specs.Asks.{settled_last}
use Rattle.target_machine.specs.Counts.{one_if}
use Rattle.target_calls.specs.Journal.{Entry, Passes, first_fault, target_after}
use Rattle.target_calls.specs.NeedPoints.{Costs}
use Rattle.target_calls.specs.Weights.{commands_in, registers_in, weight_in}
use Rattle.target_calls.specs.declared.calls.Ask.{Ask}
use Rattle.access_calls.specs.Bounds.{AreNextWrites, block_words, flight_capacity}
use Rattle.access_calls.specs.Growing.{IsAfter}
use Rattle.access_calls.specs.Made.{units_made}
use Rattle.access_calls.specs.Numbers.{HasNumbers}
use Rattle.access_calls.specs.Reported.{Beginning, began, start_of}
use Rattle.access_calls.specs.Standing.{AreTogether, IsAfterPart, flight_accesses, grown_since, idle_cycles_of, pending_of, transfer_number_of, transfer_setting_of}
use Rattle.access_calls.specs.declared.ended.Ended.{Ended}
use Rattle.access_calls.specs.declared.ended.Ending.{Ending}
use Rattle.access_calls.specs.declared.ended.Ending.TheVariants as e
use Rattle.access_calls.specs.declared.stop.Report.{Report}
use Rattle.access_calls.specs.declared.stop.StopCause.{StopCause}
use Rattle.access_calls.specs.declared.stop.StopCause.TheVariants.{Faulted, NoAnswer}
use Rattle.control_flow.specs.Answers.{EndsWhole as IsWholeEnd, StopsAfter}
use Rattle.job_check.specs.declared.running.ValidRun.{ValidRun}
use Rattle.job_text.specs.Ranges.{AreSettings}
use Rattle.access_calls.specs.Opening.{BenchIsIdle, HasTried, opened_bench}
use Rattle.sequence_rules.specs.Late.{Grows}
use Rattle.sequence_rules.specs.Runs as runs
use Rattle.seq_check.specs.Answers.{checked_trees}
use Rattle.sequence_rules.specs.Runs.{Outcome, Program, needs, program_of, units_of, variables_of}
use Rattle.followed_runs.specs.Followed.{Task, task_alone, task_close, task_outcome, task_within}
use Rattle.sequels.specs.declared.close.Close.{Close}
use Rattle.sequels.specs.Sequel.{Sequel}
use Rattle.dap_transfer.specs.WireTransfer.{RetryIsOver}

-- ---- what is run, and what it leaves

-- What is known of an access.
pub record AccessKind : Type 0 where
  -- the journal of the calls that it was asked
  pub journal : TargetState → List Ask → List Entry
  -- how many need points calls make by themselves
  pub cost : Costs
  -- whether it keeps the bounds on starting packets
  pub is_sparing : Bool

-- an access of this kind
abbrev pub access_kind : (TargetState → List Ask → List Entry) → Costs → Bool → AccessKind
access_kind journal cost is_sparing = record { journal = journal; cost = cost; is_sparing = is_sparing }

-- A run of a job.
pub record Run : Type 0 where
  pub access : AccessKind
  -- the packet limits of its job
  pub limits : Limits
  -- its program, with what follows it
  pub task : Task
  -- the state of its bench where the access began
  pub first : BenchState
  -- what was written before, where that is known
  pub before : Option (List ℕ)

-- What a run left: its answer, what is written, where that is known, and the state of the bench.
pub record Left : Type 0 where
  pub ended : Ended
  pub written : Option (List ℕ)
  pub bench : BenchState

-- what the settings of a run say of the probe
abbrev pub config_of : Settings → Config
config_of settings = record { idle = settings.idle; retry = settings.retry }

-- A run of a job over its bench, which was just loaded: the access counts from the state after the load with the settings of the run.
abbrev pub run_after_load : AccessKind → Config → BenchJob → Task → Option (List ℕ) → Run
run_after_load access config job k before =
    record { access = access; limits = job.limits; task = k; first = opened_bench config (fresh job); before = before }

-- the program of a job and a sequence
abbrev pub program_in : ValidRun → List ℕ → Program
program_in r sequence = program_of (checked_trees r.trees) sequence r.job.settings

-- what is run of them: nothing follows the program
abbrev pub task_in : ValidRun → List ℕ → Task
task_in r sequence = task_alone (program_in r sequence)

-- the program with what follows it
abbrev pub task_with : ValidRun → List ℕ → Option (Sequel Close) → Task
task_with r sequence sequel = record { program = program_in r sequence; sequel = sequel }

-- How what follows a run of a job over its bench, which was just loaded, comes to its end.
abbrev pub job_close : Config → BenchJob → Task → Option (List ℕ) → Close
job_close config job k before = task_close k (target_of (opened_bench config (fresh job)).probe) before

-- what is written, where it was known before
abbrev pub known_after : Option (List ℕ) → Option (List ℕ) → Option (List ℕ)
known_after None new = None
known_after (Some old) new = new

-- the target on which a run begins
abbrev pub start_target_in : Run → TargetState
start_target_in run = target_of run.first.probe

-- what the run means: each unit made alone and at once, and all are answered
abbrev pub outcome_in : Run → Outcome
outcome_in run = task_outcome run.task (start_target_in run) run.before

-- the same where only so many units are answered
abbrev pub outcome_with : Run → ℕ → Outcome
outcome_with run m = task_within m run.task (start_target_in run) run.before

-- the journal of calls, from the first target
abbrev pub entries_in : Run → List Ask → List Entry
entries_in run calls = run.access.journal (start_target_in run) calls

-- the calls of the whole outcome, which are settled after the last
abbrev pub calls_in : Run → List Ask
calls_in run = settled_last (outcome_in run).calls

-- no retry ended
abbrev pub NoneEnded : Run → Left → Type 0
NoneEnded run l = ended_retries_of l.bench.probe ≡ ended_retries_of run.first.probe

-- the idle cycles of the probe are those with which the run began
abbrev pub KeepsIdleCycles : Run → Left → Type 0
KeepsIdleCycles run l = idle_cycles_of l.bench ≡ idle_cycles_of run.first

-- ---- how few packets are sent

-- how many need points its program has, one of them at its end
abbrev pub needs_in : Run → ℕ
needs_in run = needs run.access.cost run.task.program (start_target_in run)

-- The starting packets since the load are few: at most three for the opening, one for each need point, and k / c for k register accesses. Here a
-- flight holds c of them. Let all calls be writes at neighbouring addresses of one block of 1,024 bytes below 2^32, one at least, with at most
-- two need points. Then there are at most six more than the blocks of writes that hold them.
pub record HasFewPackets (run : Run) (l : Left) : Type 0 where
  pub few : l.bench.starting ≤ 3 + needs_in run + registers_in (entries_in run (calls_in run)) / flight_capacity run.limits
  pub blocks : (size ap address : ℕ) → 0 < length (calls_in run) → AreNextWrites (address / 1024) size ap address (calls_in run)
      → address < 2 ^ 32 → needs_in run ≤ 2
      → l.bench.starting ≤ 6 + (length (calls_in run) + block_words run.limits - 1) / block_words run.limits

-- the access says that it keeps these bounds, and nothing follows the program
abbrev pub is_bounded : Run → Bool
is_bounded run = run.access.is_sparing && is_none run.task.sequel

-- a run that is bounded sends few starting packets
abbrev pub IsFewIf : Bool → Run → Left → Type 0
IsFewIf false run l = ⊤
IsFewIf true run l = HasFewPackets run l

-- ---- done or halted

-- The run came to the end of what it means: with the same variables, units, skipped units and lines, and the target agrees. No
-- retry ended, the idle cycles of the probe are those of the beginning, and the packets were few.
pub record RunIsWhole (run : Run) (l : Left) : Type 0 where
  pub variables : variables_of l.ended.variables ≡ (outcome_in run).variables
  pub units : l.ended.units ≡ units_of (outcome_in run)
  pub skipped : l.ended.skipped ≡ (outcome_in run).skipped
  pub written : l.written ≡ (outcome_in run).written
  pub target : Agree (target_of l.bench.probe) (outcome_in run).target
  pub retries : NoneEnded run l
  pub idle_cycles : KeepsIdleCycles run l
  pub packets : IsFewIf (is_bounded run) run l

-- ---- stopped by the target or the probe

-- Exactly the entries that the report counts were performed: the target agrees with the one after them. The probe's work has grown by what
-- they weigh, and by no more, except for a part of the entry that the report names, where that one was not performed.
pub record HasMadeEntries (entries : List Entry) (r : Report) (b : Beginning) (m : BenchState) : Type 0 where
  pub low : weight_in (start_of b) (take r.accesses entries) ≤ grown_since b m
  pub high : grown_since b m ≤ weight_in (start_of b) (take (r.confirmed + 1) entries)
  pub part : r.accesses ≡ r.confirmed → grown_since b m < weight_in (start_of b) (take (r.confirmed + 1) entries)
  pub target : Agree (target_of m.probe) (target_after (start_of b) (take r.accesses entries))

-- The numbers of the report are those of a stop in the journal of these calls. Exactly its accesses were performed, and the target agrees with
-- the one after them. `lines` units have their lines before the stop, which are written. The memory is the one that the sequences leave with
-- exactly the units answered that were made. The idle cycles of the probe are those of the beginning.
pub record HasStopped (run : Run) (answered : Option ℕ) (o : Outcome) (calls : List Ask) (lines : ℕ) (r : Report) (l : Left) : Type 0 where
  pub stops : StopsAfter r.cause lines o
  pub written : l.written ≡ o.written
  pub numbers : HasNumbers (entries_in run calls) calls l.ended.skipped lines r
  pub performed : HasMadeEntries (entries_in run calls) r (began run.first answered) l.bench
  pub idle_cycles : KeepsIdleCycles run l
  pub words : (target_of l.bench.probe).words ≡ (outcome_with run (units_made r.cause (entries_in run calls) r lines)).target.words

-- At a fault the outcome ends at a fault of the next unit, which is the one that the report names. In the journal of the outcome's calls, the
-- last performed access is the first that gives a fault which its unit does not forgive. No retry ended.
pub record IsFaultStop (run : Run) (r : Report) (l : Left) : Type 0 where
  pub lines : ℕ
  pub stopped : HasStopped run None (outcome_in run) (calls_in run) lines r l
  pub unit : r.unit ≡ units_of (outcome_in run)
  pub fault : first_fault (start_target_in run) (entries_in run (calls_in run)) ≡ Some r.accesses
  pub confirmed : r.accesses ≡ r.confirmed + 1
  pub retries : NoneEnded run l

-- Where a retry ended, the outcome is the one with so many units answered, which comes first in the whole one. The journal is that of the whole
-- one's calls. The performed accesses are confirmed, except the last where a read was outstanding or a write unchecked. Just one retry ended: at
-- a transfer that met more WAITs than the retry number allows, and that is one of the run's.
pub record IsRetryStop (run : Run) (r : Report) (l : Left) : Type 0 where
  pub lines : ℕ
  pub stopped : HasStopped run (Some lines) (outcome_with run lines) (calls_in run) lines r l
  pub confirmed : r.accesses ≡ r.confirmed + one_if (pending_of l.bench)
  pub retries : ended_retries_of l.bench.probe ≡ ended_retries_of run.first.probe + 1
  pub over : RetryIsOver (transfer_setting_of run.first) (transfer_number_of l.bench)
  pub number : transfer_number_of l.bench + 2 * commands_in (take r.accesses (entries_in run (calls_in run)))
      ≤ transfer_number_of run.first + 2 * grown_since (began run.first (Some lines)) l.bench + 1

-- by the cause
abbrev pub IsStop : StopCause → Run → Report → Left → Type 0
IsStop Faulted run r l = IsFaultStop run r l
IsStop NoAnswer run r l = IsRetryStop run r l

-- ---- left off

-- the journal of the outcome's calls, without what settles the last of them
abbrev pub entries_before_settling : Run → List Entry
entries_before_settling run = entries_in run (outcome_in run).calls

-- the whole of it, with that
abbrev pub all_entries : Run → List Entry
all_entries run = entries_in run (calls_in run)

-- by how much the probe's work has grown
abbrev pub work_in : Run → Left → ℕ
work_in run l = grown_since (began run.first None) l.bench

-- What was written comes first in the lines of the outcome. The entries that were begun are the first of the journal of the outcome's calls.
-- None is of a call after the one at which the outcome ends.
pub record IsFront (run : Run) (begun : ℕ) (l : Left) : Type 0 where
  pub written : Grows l.written (outcome_in run).written
  pub within : begun ≤ length (all_entries run)

-- Where the bench failed, by the journal of the outcome's calls. At least the confirmed entries were performed, and perhaps a part of the next;
-- at most those that were issued were begun. The probe's work has grown by at least what the performed ones weigh, and by at most what those
-- weigh that were begun. Those between the two numbers were handed over together: in one flight, or one by itself. Where the outcome ends at a
-- fault, more may have been issued than the journal has: for calls after the one at which it ends. None of those that were begun gives a fault
-- that its unit does not forgive, except perhaps the last. So many calls have come, all of whose entries are confirmed. What was written comes
-- first in the lines of the outcome with only so many units answered.
pub record IsBroken (run : Run) (issued confirmed : ℕ) (l : Left) : Type 0 where
  pub came : ℕ
  pub count : ℕ
  pub begun : ℕ
  pub front : IsFront run begun l
  pub lines : Grows l.written (outcome_with run came).written
  pub low : confirmed ≤ count
  pub high : begun ≤ issued
  pub near : issued ≤ confirmed + max 1 (flight_accesses run.limits)
  pub together : AreTogether run.limits (drop confirmed (take issued (entries_before_settling run)))
  pub later : IfSome (slice_get (entries_before_settling run) confirmed) (IsAfter came)
  pub good : Passes (start_target_in run) (take (begun - 1) (all_entries run))
  pub least : weight_in (start_target_in run) (take count (all_entries run)) ≤ work_in run l
  pub most : work_in run l ≤ weight_in (start_target_in run) (take begun (all_entries run))
  pub part : count < begun → work_in run l < weight_in (start_target_in run) (take begun (all_entries run))
  pub whole : IsWholeEnd (outcome_in run).ending → issued ≤ length (all_entries run)
  pub idle_cycles : KeepsIdleCycles run l
  pub target : IsAfterPart (all_entries run) count begun (began run.first None) l.bench

-- Where the sink failed or memory was refused: exactly the entries that were sent were performed, and the work is what they weigh. The idle
-- cycles of the probe are those of the beginning.
pub record IsLeftOff (run : Run) (l : Left) : Type 0 where
  pub sent : ℕ
  pub front : IsFront run sent l
  pub work : work_in run l ≡ weight_in (start_target_in run) (take sent (all_entries run))
  pub target : Agree (target_of l.bench.probe) (target_after (start_target_in run) (take sent (all_entries run)))
  pub retries : NoneEnded run l
  pub idle_cycles : KeepsIdleCycles run l

-- ---- together

-- What a run leaves, by how it ended. An observable bench gives no bad reply.
abbrev pub LeavesAs : Ending → Run → Left → Type 0
LeavesAs e.Done run l = ((outcome_in run).ending ≡ runs.Done) × RunIsWhole run l
LeavesAs (e.Halted cause) run l = ((outcome_in run).ending ≡ runs.Halted cause) × RunIsWhole run l
LeavesAs (e.Cut r) run l = IsStop r.cause run r l
LeavesAs (e.BenchFault issued confirmed) run l = IsBroken run issued confirmed l
LeavesAs e.ReplyBad run l = ⊥
LeavesAs e.WriteFault run l = IsLeftOff run l
LeavesAs e.OutOfMemory run l = IsLeftOff run l

-- the access did not begin because the bench failed or memory was refused
abbrev pub IsUnopened : Ending → Type 0
IsUnopened (e.BenchFault issued confirmed) = (issued ≡ 0) × (confirmed ≡ 0)
IsUnopened e.OutOfMemory = ⊤
IsUnopened other = ⊥

-- The access did not begin. Nothing was written, no work was done, and of the probe as it was after the load the settings have changed or
-- nothing. So the target is the one after the load.
pub record IsNotOpened (config : Config) (job : BenchJob) (before : Option (List ℕ)) (l : Left) : Type 0 where
  pub ending : IsUnopened l.ended.ending
  pub written : l.written ≡ before
  pub tried : HasTried config (fresh job) l.bench
  pub work : work_of l.bench.probe ≡ 0
  pub target : Agree (target_of l.bench.probe) (start job.target)

-- What a run of a job with these settings comes to over a bench that was just loaded.
pub data JobComesTo (access : AccessKind) (config : Config) (job : BenchJob) (k : Task) (before : Option (List ℕ)) (l : Left) : Type 0 where
  not_opened : IsNotOpened config job before l → JobComesTo access config job k before l
  opened : LeavesAs l.ended.ending (run_after_load access config job k before) l → JobComesTo access config job k before l

-- A run may begin over a bench that reports this. No packet is held and no reply waits, the limits are those of the job, and the numbers of the job
-- are in their ranges.
pub record MayRun (run : ValidRun) (reported : Reported) : Type 0 where
  pub idle : BenchIsIdle reported
  pub limits : run.job.bench.limits ≡ reported.limits
  pub settings : AreSettings run.job.settings
  pub job : IsBenchJob run.job.bench
