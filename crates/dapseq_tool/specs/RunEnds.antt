-- What is done of a run that is asked for, from its load on.
use Rattle.std.specs.Prelude.{◌≡◌, ◌⊎◌, ℕ, List, Option, IsSome}
use Rattle.probe_core.specs.Bench.{Seen}
use Rattle.dapseq_tool.specs.Answers.{answer_status, answer_text}
use Rattle.dapseq_tool.specs.Headline.{After, HasRunAndReported, IsPut, RunEnd}
use Rattle.dapseq_tool.specs.declared.asking.What.{What}
use Rattle.dapseq_tool.specs.declared.asking.What.TheVariants as whats
use Rattle.dapseq_tool.specs.declared.asking.Run.{Run}
use Rattle.dapseq_tool.specs.declared.status.Status.TheVariants as status
use Rattle.job_runs.specs.Runs.{AccessKind}

-- The bench was not loaded, and nothing was written; or it ran.
pub data AskedRun (access : AccessKind) (run : Run) (old : Seen) (before : Option (List ℕ)) (a : After) : Type 0 where
  not_loaded : (a.end ≡ status.BenchFault) ⊎ (a.end ≡ status.OutOfMemory) → a.written ≡ before → a.bench.state ≡ old.state → AskedRun access run old before a
  ran : (r : RunEnd) → HasRunAndReported access run (IsSome old.state) old.reported before r a → AskedRun access run old before a

-- What is done of what is asked for, after the first line. It is a run, or an answer is written and the bench is the one that it was.
abbrev pub DoesAfter : AccessKind → What → Seen → Type 0 → Option (List ℕ) → After → Type 0
DoesAfter access (whats.Answer answer) old unchanged before a = IsPut before a.written (answer_text answer) (answer_status answer) a.end × unchanged
DoesAfter access (whats.Run run) old unchanged before a = AskedRun access run old before a
