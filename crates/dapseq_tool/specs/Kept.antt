-- What the mode `trace` prints of packets and replies, as the key `trace` of a job.
use Rattle.std.specs.Prelude.{◌≡◌, ℕ, List, ◌++◌, Some, count_by, map, not}
use Rattle.hex.specs.Hex.{encode_lower}
use Rattle.probe_core.specs.Bench.{BenchState}
use Rattle.probe_core.specs.Log.{Entry, Log}
use Rattle.job_text.specs.declared.job.Job.{Job}
use Rattle.dapseq_tool.specs.declared.asking.Run.{Run}
use Rattle.dapseq_tool.specs.declared.auditing.Audit.{Audit}
use Rattle.trace_audit.specs.Texts.{entry_mark}

-- the line of a packet or of a reply, without its line feed
abbrev pub entry_text : Entry → List ℕ
entry_text entry = entry_mark entry.is_reply ++ encode_lower entry.bytes

-- the lines of the packets and replies that a log keeps
abbrev pub kept_texts : Log → List (List ℕ)
kept_texts log = map entry_text log.kept

-- The job has the bench and the watched words of the run, and under the key `trace` what is printed of the packets and replies of the
-- log. Its sequences and its settings may be others.
pub record HasKept (run : Run) (log : Log) (job : Job) : Type 0 where
  pub bench : job.bench ≡ run.valid.job.bench
  pub watch : job.watch ≡ run.valid.job.watch
  pub trace : job.trace ≡ Some (kept_texts log)

-- an accepted trace of a job: it leads to the probe of this bench, and has the packets and replies of its log
abbrev pub kept_audit : Job → BenchState → Audit
kept_audit job n = record {
  job = job;
  audited = record {
    probe = n.probe;
    packets = count_by (λ e. not e.is_reply) n.log.kept;
    replies = count_by (λ e. e.is_reply) n.log.kept;
  };
}
