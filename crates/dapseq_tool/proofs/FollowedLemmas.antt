-- Runs with a load or a scan after the sequence.
use Rattle.std.proofs.Common.{◌≡◌, ◌∙◌, ℕ, ◌^◌, ◌<◌, List, Option, Some, None, sym, ap, ap₂, subst}
use Rattle.target_machine.specs.Start.{start}
use Rattle.probe_core.specs.Bench.{BenchState}
use Rattle.probe_core.specs.Probe.{target_of}
use Rattle.access_calls.specs.declared.ended.Ending.{Ending}
use Rattle.access_calls.specs.declared.ended.Ending.TheVariants as e
use Rattle.image_load.specs.Laid.{CanLoad}
use Rattle.image_load.specs.LoadSequel.{load_sequel}
use Rattle.rom_scan.specs.Showing.{CanScan}
use Rattle.sequels.specs.Sequel.{Sequel}
use Rattle.sequels.specs.declared.close.Close.{Close}
use Rattle.sequence_rules.specs.Runs.{Outcome}
use Rattle.followed_runs.specs.Followed.{Task, task_close, task_outcome}
use Rattle.job_check.specs.declared.own.JobImage.{JobImage}
use Rattle.job_runs.specs.Runs.{AccessKind, RunIsWhole, outcome_in, task_with}
use Rattle.task_runs.specs.Laws.{EndsLaid, EndsListed}
use Rattle.task_runs.specs.Tasks.{scanning}
use Rattle.task_runs.proofs.LawLemmas.{loads_laid, scans_listed}
use Rattle.dapseq_tool.specs.FollowedRuns.{IsDoneAlone, IsLaid, IsListed, RunsLay, RunsList, first_world, left_world, program_by}
use Rattle.dapseq_tool.specs.Headline.{After, IsRunTo, RunEnd}
use Rattle.dapseq_tool.specs.Purpose.{sequel_by, task_by}
use Rattle.dapseq_tool.specs.Success.{left_by_run, run_from}
use Rattle.dapseq_tool.specs.declared.asking.Purpose.{Purpose}
use Rattle.dapseq_tool.specs.declared.asking.Purpose.TheVariants as purposes
use Rattle.dapseq_tool.specs.declared.asking.Run.{Run}
use Rattle.dapseq_tool.proofs.TwoLemmas.{came_whole}
use Rattle.flight_laws.proofs.MadeLemmas.{agree_words}
use Rattle.control_flow.specs.Closing.{ComesToEnd}

module _ (access : AccessKind) (run : Run) (before : Option (List ℕ)) (r : RunEnd) (a : After) (n : BenchState)
    (to : IsRunTo access run before r a n) (done : r.ended.ending ≡ e.Done) (k : Task) (is : task_by run ≡ k) where
  so : RunIsWhole (run_from access run before) (left_by_run before r n)
  so = (came_whole access run before r a n to (subst ComesToEnd (sym done) tt)).1

  outcome_is : outcome_in (run_from access run before) ≡ task_outcome k (start run.valid.job.bench.target) before
  outcome_is = ap (λ (x : Task). task_outcome x (start run.valid.job.bench.target) before) is

  words_are : (target_of n.probe).words ≡ (task_outcome k (start run.valid.job.bench.target) before).target.words
  words_are = agree_words (target_of n.probe) (outcome_in (run_from access run before)).target so.target ∙ ap (λ (o : Outcome). o.target.words) outcome_is

  written_is : (left_by_run before r n).written ≡ (task_outcome k (start run.valid.job.bench.target) before).written
  written_is = so.written ∙ ap (λ (o : Outcome). o.written) outcome_is

  close_is : r.close ≡ task_close k (start run.valid.job.bench.target) before
  close_is = to.close done ∙ ap (λ (x : Task). task_close x (start run.valid.job.bench.target) before) is

pub runs_lay : RunsLay
runs_lay access run before r a n i load has to done alone can =
    let s : sequel_by run.purpose run.valid.image ≡ Some (load_sequel i.ap i.image) = ap₂ sequel_by load has in
    let k : Task = task_with run.valid run.sequence (Some (load_sequel i.ap i.image)) in
    let is : task_by run ≡ k = ap (task_with run.valid run.sequence) s in
    let l : EndsLaid (first_world run) (program_by run) before i.ap i.image = loads_laid (first_world run) (program_by run) before i.ap i.image alone can in
    record {
      words = words_are access run before r a n to done k is ∙ l.words;
      close = close_is access run before r a n to done k is ∙ l.close;
    }

pub runs_list : RunsList
runs_list access run before r a n port scan small to done alone can =
    let s : sequel_by run.purpose run.valid.image ≡ Some (scanning port) = ap (λ (p : Purpose). sequel_by p run.valid.image) scan in
    let k : Task = task_with run.valid run.sequence (Some (scanning port)) in
    let is : task_by run ≡ k = ap (task_with run.valid run.sequence) s in
    let l : EndsListed (first_world run) (program_by run) before port = scans_listed (first_world run) (program_by run) before port small alone can in
    record {
      written = written_is access run before r a n to done k is ∙ l.written;
      words = words_are access run before r a n to done k is ∙ l.words;
      close = close_is access run before r a n to done k is ∙ l.close;
    }
