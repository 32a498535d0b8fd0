-- Two runs of one sequence, whatever the packet limits are.
use Rattle.std.specs.Prelude.{◌≡◌, ⊤, ℕ, List, Option}
use Rattle.target_machine.specs.State.{Agree}
use Rattle.probe_core.specs.Bench.{BenchState}
use Rattle.probe_core.specs.Probe.{target_of}
use Rattle.access_calls.specs.declared.ended.Ending.{Ending}
use Rattle.access_calls.specs.declared.ended.Ending.TheVariants as e
use Rattle.sequence_rules.specs.Runs.{variables_of}
use Rattle.seq_check.specs.Answers.{checked_trees}
use Rattle.job_runs.specs.Runs.{known_after}
use Rattle.dapseq_tool.specs.Headline.{RunEnd}
use Rattle.dapseq_tool.specs.Purpose.{sequel_by}
use Rattle.dapseq_tool.specs.declared.asking.Run.{Run}

-- The runs have the same trees, sequence, settings, and target at the start, and the same follows it. The packet limits of their jobs may be others, and the
-- stalls of their transfers.
pub record IsSameTask (x y : Run) : Type 0 where
  pub trees : checked_trees x.valid.trees ≡ checked_trees y.valid.trees
  pub name : x.sequence ≡ y.sequence
  pub follows : sequel_by x.purpose x.valid.image ≡ sequel_by y.purpose y.valid.image
  pub settings : x.valid.job.settings ≡ y.valid.job.settings
  pub target : x.valid.job.bench.target ≡ y.valid.job.bench.target

-- Two runs ended in the same way, with the same variables, units and skipped units. The same lines were written by then, and the
-- targets agree in all but RDBUFF.
pub record LeavesSame (before : Option (List ℕ)) (p q : RunEnd) (m n : BenchState) : Type 0 where
  pub ending : p.ended.ending ≡ q.ended.ending
  pub variables : variables_of p.ended.variables ≡ variables_of q.ended.variables
  pub units : p.ended.units ≡ q.ended.units
  pub skipped : p.ended.skipped ≡ q.ended.skipped
  pub written : known_after before p.written ≡ known_after before q.written
  pub target : Agree (target_of m.probe) (target_of n.probe)
