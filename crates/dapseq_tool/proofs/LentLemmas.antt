-- What a call does is so of a lent bench.
use Rattle.std.proofs.Common.{◌≡◌, ℕ, List, Option}
use Rattle.dapseq_tool.specs.Frame.{IsCall, IsFramed}
use Rattle.dapseq_tool.proofs.FrameLemmas.{framed_so}
use Rattle.dapseq_tool.specs.Headline.{BenchCall, DoesWhat, DoesWithBench, Runs, does, no_memory, not_headed, not_loaded, ran, unread}
use Rattle.dapseq_tool.specs.declared.asking.Run.{Run}
use Rattle.dapseq_tool.specs.declared.asking.What.{What}
use Rattle.dapseq_tool.specs.declared.asking.What.TheVariants as whats
use Rattle.job_runs.specs.Runs.{AccessKind}

module _ (access : AccessKind) (call : BenchCall) (u v : Type 0) (so : u → v) where
  runs_so : (number : Option ℕ) (run : Run) → Runs access call u number run → Runs access call v number run
  runs_so number run h = elim h [
    | not_headed some fails part same ↦ not_headed some fails part (so same)
    | not_loaded end head state ↦ not_loaded end head state
    | ran before r head has ↦ ran before r head has
  ]

  what_so : (number : Option ℕ) (what : What) → DoesWhat access call u number what → DoesWhat access call v number what
  what_so number (whats.Answer answer) h = record { text = h.text; bench = so h.bench }
  what_so number (whats.Run run) h = runs_so number run h

  pub does_so : DoesWithBench access call u → DoesWithBench access call v
  does_so d = elim d [
    | does bytes asked are asks done ↦ does bytes asked are asks (what_so asked.number asked.what done)
    | unread rose text same ↦ unread rose text (so same)
    | no_memory is text same ↦ no_memory is text (so same)
  ]

-- all of a call is so of a lent bench
pub call_so : (access : AccessKind) (call : BenchCall) (untaken u v : Type 0) → (u → v) → DoesWithBench access call u → IsFramed call untaken u → IsCall access call untaken v
call_so access call untaken u v so done frame = record { asked = does_so access call u v so done; frame = framed_so call untaken u v so frame }
