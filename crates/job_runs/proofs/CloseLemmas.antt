-- How what follows a run came to its end.
use Rattle.std.proofs.Common.{◌≡◌, ℕ, Bool, List, Option, None, subst}
use Rattle.probe_core.specs.Bench.{BenchState}
use Rattle.probe_core.specs.Probe.{target_of}
use Rattle.access_calls.specs.Endings.{ending_of}
use Rattle.access_calls.specs.Left.{answered_at_end, answered_by}
use Rattle.access_calls.specs.Reported.{AccessView, world_from}
use Rattle.access_calls.specs.declared.ended.Ending.{Ending}
use Rattle.access_calls.specs.declared.ended.Ending.TheVariants as e
use Rattle.access_calls.specs.declared.stop.Stop.{Stop}
use Rattle.access_calls.specs.declared.stop.Stop.TheVariants as stop
use Rattle.control_flow.specs.Answers.{EndBy}
use Rattle.sequence_rules.specs.Known.{Knows, known_part}
use Rattle.sequels.specs.declared.close.Close.{Close}
use Rattle.followed_runs.specs.Followed.{Task, close_in, task_close}
use Rattle.job_runs.proofs.LeaveLemmas.{known_by}

-- an access that stopped is not done
pub never_done : (s : Stop) → ending_of s ≡ e.Done → ⊥
never_done (stop.Cut r) is = cc
never_done (stop.BenchFault issued confirmed) is = cc
never_done stop.ReplyBad is = cc
never_done stop.OutOfMemory is = cc

-- an access that is done has no end
pub end_none : (ending : Ending) (end : Option Stop) → ending ≡ e.Done → EndBy ending end → end ≡ None
end_none ending end is h = subst (λ (x : Ending). EndBy x end) is h

-- what is so in the world that is left is so where all calls are answered
pub closes_so : (k : Task) (first : BenchState) (a : AccessView) (before : Option (List ℕ)) (end : Close) → a.end ≡ None
    → ((known : Bool) → Knows known before → end ≡ close_in (world_from first (answered_by a)) k (known_part known before)) → end ≡ task_close k (target_of first.probe) before
closes_so k first a before end none h =
    let known = known_by before before in
    let at : end ≡ close_in (world_from first (answered_by a)) k before = subst (λ (x : Option (List ℕ)). end ≡ close_in (world_from first (answered_by a)) k x) known.2 (h known.0 known.1) in
    subst (λ (x : Option Stop). end ≡ close_in (world_from first (answered_at_end x a.lines)) k before) none at
