-- How the end of an access shows in how a run ends.
use Rattle.std.proofs.Common.{◌≡◌, ℕ, ◌≤◌, Option, None, Some, arith, subst}
use Rattle.probe_core.specs.Bench.{Reported as BenchReported}
use Rattle.access_calls.specs.Causes.{HasStopCause, code_of_cause}
use Rattle.access_calls.specs.GoesOn.{AccessGoesOn, StaysEnded}
use Rattle.access_calls.specs.Reported.{AccessView}
use Rattle.access_calls.specs.declared.ended.Ending.{Ending}
use Rattle.access_calls.specs.declared.ended.Ending.TheVariants as e
use Rattle.access_calls.specs.declared.stop.Stop.{Stop}
use Rattle.access_calls.specs.declared.stop.Stop.TheVariants as stop
use Rattle.control_flow.specs.Answers.{EndBy}
use Rattle.access_calls.specs.declared.stop.Report.{Report}
use Rattle.job_runs.specs.Ends.{HasBenchCause, HasGotResponse}

-- the cause of an end, where there was none before
ended_by : (old new : AccessView) (end : Option Stop) → old.end ≡ None → StaysEnded old new old.end → new.end ≡ end → HasStopCause old new end
ended_by old new end none stays is = subst (λ s. HasStopCause old new s) is (subst (λ s. StaysEnded old new s) none stays)

pub bench_cause : (ending : Ending) (old new : AccessView) → old.end ≡ None → AccessGoesOn old new → EndBy ending new.end → HasBenchCause ending old.bench.faults new.bench.faults
bench_cause e.Done old new none goes is = ended_by old new None none goes.ended is
bench_cause (e.Halted cause) old new none goes is = ended_by old new None none goes.ended is
bench_cause (e.Cut r) old new none goes is = (ended_by old new (Some (stop.Cut r)) none goes.ended is).0
bench_cause (e.BenchFault issued confirmed) old new none goes is = ended_by old new (Some (stop.BenchFault issued confirmed)) none goes.ended is
bench_cause e.ReplyBad old new none goes is = (ended_by old new (Some stop.ReplyBad) none goes.ended is).0
bench_cause e.WriteFault old new none goes is = ended_by old new None none goes.ended is
bench_cause e.OutOfMemory old new none goes is = ended_by old new None none goes.ended is

-- a cut comes with its response
pub cut_response : (report : Report) (old new : AccessView) → old.end ≡ None → AccessGoesOn old new → EndBy (e.Cut report) new.end → HasGotResponse (code_of_cause report.cause) old.bench new.bench
cut_response report old new none goes is =
    let by = (ended_by old new (Some (stop.Cut report)) none goes.ended is).1 in
    record { begun = by.begun; place = by.place; response = by.so }

-- counted from before the access began
pub earlier_response : (code : ℕ) (old mid new : BenchReported) → old.exchanges ≤ mid.exchanges → HasGotResponse code mid new → HasGotResponse code old new
earlier_response code old mid new le h = record { begun = (let r = h.begun in omega (arith, le, r)); place = h.place; response = h.response }
