-- Two runs of one sequence come to the same.
use Rattle.std.proofs.Common.{◌≡◌, ◌∙◌, ℕ, List, Option, refl, sym, ap, ap₂, subst}
use Rattle.target_machine.specs.Start.{start}
use Rattle.target_machine.specs.State.{Agree, TargetState}
use Rattle.target_machine.specs.declared.job.TargetJob.{TargetJob}
use Rattle.target_machine.specs.declared.unit.Settings.{Settings}
use Rattle.probe_core.specs.Bench.{BenchState}
use Rattle.probe_core.specs.Probe.{target_of}
use Rattle.access_calls.specs.declared.ended.Ending.{Ending}
use Rattle.access_calls.specs.declared.ended.Ending.TheVariants as e
use Rattle.sequence_rules.specs.Runs as runs
use Rattle.sequence_rules.specs.Runs.{Outcome, Program, program_of}
use Rattle.seq_check.specs.Answers.{checked_trees}
use Rattle.sequence_trees.specs.Trees.{SetTrees}
use Rattle.sequels.specs.Sequel.{Sequel}
use Rattle.sequels.specs.declared.close.Close.{Close}
use Rattle.followed_runs.specs.Followed.{Task, task_outcome}
use Rattle.job_runs.specs.Meant.{IsSameEnd}
use Rattle.job_runs.specs.Runs.{AccessKind, IsUnopened, RunIsWhole, Left, LeavesAs, not_opened, opened, outcome_in}
use Rattle.job_runs.specs.Runs as job
use Rattle.dapseq_tool.specs.Headline.{After, IsRunTo, RunEnd}
use Rattle.dapseq_tool.specs.Purpose.{sequel_by, task_by}
use Rattle.dapseq_tool.specs.Success.{left_by_run, run_from}
use Rattle.dapseq_tool.specs.TwoRuns.{IsSameTask, LeavesSame}
use Rattle.dapseq_tool.specs.declared.asking.Run.{Run}
use Rattle.control_flow.specs.Closing.{ComesToEnd}

-- ---- what both mean

abbrev task_of_parts : Program → Option (Sequel Close) → Task
task_of_parts p s = record { program = p; sequel = s }

same_task : (x y : Run) → IsSameTask x y → task_by x ≡ task_by y
same_task x y same =
    ap (λ (trees : SetTrees). task_of_parts (program_of trees x.sequence x.valid.job.settings) (sequel_by x.purpose x.valid.image)) same.trees
    ∙ ap₂ (λ (name : List ℕ) (settings : Settings). task_of_parts (program_of (checked_trees y.valid.trees) name settings) (sequel_by x.purpose x.valid.image)) same.name same.settings
    ∙ ap (task_of_parts (program_of (checked_trees y.valid.trees) y.sequence y.valid.job.settings)) same.follows

same_outcome : (access other : AccessKind) (x y : Run) (before : Option (List ℕ)) → IsSameTask x y → outcome_in (run_from access x before) ≡ outcome_in (run_from other y before)
same_outcome access other x y before same =
    ap₂ (λ (k : Task) (t : TargetJob). task_outcome k (start t) before) (same_task x y same) same.target

-- ---- how each ended

whole : (ending : Ending) (run : job.Run) (l : Left) → ComesToEnd ending → LeavesAs ending run l → IsSameEnd (outcome_in run).ending ending × RunIsWhole run l
whole e.Done run l end leaves = (subst (λ (o : runs.Ending). IsSameEnd o e.Done) (sym leaves.0) refl, leaves.1)
whole (e.Halted cause) run l end leaves = (subst (λ (o : runs.Ending). IsSameEnd o (e.Halted cause)) (sym leaves.0) refl, leaves.1)
whole (e.Cut report) run l end leaves = absurd end
whole (e.BenchFault issued confirmed) run l end leaves = absurd end
whole e.ReplyBad run l end leaves = absurd end
whole e.WriteFault run l end leaves = absurd end
whole e.OutOfMemory run l end leaves = absurd end

not_unopened : (ending : Ending) → ComesToEnd ending → IsUnopened ending → ⊥
not_unopened e.Done end un = un
not_unopened (e.Halted cause) end un = un
not_unopened (e.Cut report) end un = end
not_unopened (e.BenchFault issued confirmed) end un = end
not_unopened e.ReplyBad end un = end
not_unopened e.WriteFault end un = end
not_unopened e.OutOfMemory end un = end

pub came_whole : (access : AccessKind) (x : Run) (before : Option (List ℕ)) (r : RunEnd) (a : After) (n : BenchState) → IsRunTo access x before r a n → ComesToEnd r.ended.ending
    → IsSameEnd (outcome_in (run_from access x before)).ending r.ended.ending × RunIsWhole (run_from access x before) (left_by_run before r n)
came_whole access x before r a n to end = elim to.comes [
  | not_opened o ↦ absurd (not_unopened r.ended.ending end o.ending)
  | opened leaves ↦ whole r.ended.ending (run_from access x before) (left_by_run before r n) end leaves
]

one_end : (o : runs.Ending) (p q : Ending) → IsSameEnd o p → IsSameEnd o q → p ≡ q
one_end runs.Done p q here there = here ∙ sym there
one_end (runs.Halted cause) p q here there = here ∙ sym there
one_end (runs.Faulted call) p q here there = absurd here
one_end runs.Unanswered p q here there = absurd here
one_end runs.Lost p q here there = absurd here

-- ---- both

both_agree : (t u v : TargetState) → Agree t v → Agree u v → Agree t u
both_agree t u v here there = record { same = here.same ∙ sym there.same }

pub same_left : (access other : AccessKind) (x y : Run) (before : Option (List ℕ)) (p q : RunEnd) (a b : After) (m n : BenchState) → IsSameTask x y
    → IsRunTo access x before p a m → IsRunTo other y before q b n → ComesToEnd p.ended.ending → ComesToEnd q.ended.ending → LeavesSame before p q m n
same_left access other x y before p q a b m n same here there end end_too =
    let o = same_outcome access other x y before same in
    let first = came_whole access x before p a m here end in
    let second = came_whole other y before q b n there end_too in
    let target = subst (λ (k : Outcome). Agree (target_of m.probe) k.target) o first.1.target in
    record {
      ending = one_end (outcome_in (run_from other y before)).ending p.ended.ending q.ended.ending (subst (λ (k : Outcome). IsSameEnd k.ending p.ended.ending) o first.0) second.0;
      variables = first.1.variables ∙ ap (λ (k : Outcome). k.variables) o ∙ sym second.1.variables;
      units = first.1.units ∙ ap (λ (k : Outcome). runs.units_of k) o ∙ sym second.1.units;
      skipped = first.1.skipped ∙ ap (λ (k : Outcome). k.skipped) o ∙ sym second.1.skipped;
      written = first.1.written ∙ ap (λ (k : Outcome). k.written) o ∙ sym second.1.written;
      target = both_agree (target_of m.probe) (target_of n.probe) (outcome_in (run_from other y before)).target target second.1.target;
    }
