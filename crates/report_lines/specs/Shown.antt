-- The jobs whose target can be shown.
use Rattle.probe_core.specs.Ranges.{IsBenchJob}
use Rattle.job_text.specs.Ranges.{AreWatched}
use Rattle.job_text.specs.declared.job.Job.{Job}

-- The numbers of the bench of the job are in their ranges, and each of its watched words lies in one of its regions.
pub record IsShownJob (job : Job) : Type 0 where
  pub bench : IsBenchJob job.bench
  pub watch : AreWatched job.bench.target.memory job.watch
