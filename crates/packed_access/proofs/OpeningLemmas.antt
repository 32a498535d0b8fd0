-- Where an access begins.
use Rattle.std.proofs.Common.{◌≡◌, ◌∙◌, ℕ, ◌%◌, ◌≤◌, true, false, List, [], ◌∷◌, Option, Some, None, Ok, Err, Result, IfOk, MatchResult, refl, sym, ap, subst, arith}
use Rattle.std.specs.Prelude.{bit_and, ◌==◌}
use Rattle.std.proofs.lemmas.Grind.{common_steps}
use Rattle.target_machine.specs.Fresh.{IsFresh}
use Rattle.target_machine.specs.InRange.{IsJobInRange}
use Rattle.target_machine.specs.Start.{start}
use Rattle.target_machine.proofs.FreshLemmas.{start_is_fresh}
use Rattle.target_machine.proofs.StartRanges.{start_in_range}
use Rattle.target_machine.specs.InRange.{IsInRange}
use Rattle.dap_messages.specs.declared.command_value.CommandValue.{CommandValue}
use Rattle.dap_messages.specs.declared.command_value.CommandValue.TheVariants as command
use Rattle.dap_replies.specs.ReplyViews.{Shown}
use Rattle.dap_replies.specs.ReplyReading.{reply_read}
use Rattle.probe_core.specs.Bench.{BenchState, StepsTo, fresh}
use Rattle.probe_core.specs.Ranges.{IsBenchJob}
use Rattle.probe_core.specs.declared.job.BenchJob.{BenchJob}
use Rattle.probe_core.specs.Bench.{Reported as BenchReported}
use Rattle.probe_core.specs.Probe.{ExecutorState, target_of, work_of}
use Rattle.probe_core.specs.declared.job.Config.{Config}
use Rattle.batch_packer.specs.Commands.{number_by, number_in, number_read}
use Rattle.batch_packer.specs.FlightEnds.{got_replies}
use Rattle.batch_packer.specs.Flying.{CanFly}
use Rattle.batch_packer.specs.Readings.{shown_in}
use Rattle.batch_packer.specs.declared.ends.FlightEnd.{FlightEnd}
use Rattle.target_machine.specs.declared.access.RegAccess.{RegAccess}
use Rattle.access_regs.specs.Kept.{Kept, nothing_kept}
use Rattle.packed_access.specs.Begun.{HasBegun, IsIssuing}
use Rattle.packed_access.specs.Logs.{LogState, nothing_logged}
use Rattle.access_calls.specs.Opening.{HasOpened, MayBegin, opened_bench}
use Rattle.bench_flights.proofs.OpeningLemmas.{opened_flies, opened_target}
use Rattle.access_regs.specs.declared.planner.Planner.{Planner}

issuing_at : (p : Planner) (config : Config) (m o : BenchState) → MayBegin m → HasOpened config m o → IsIssuing p nothing_logged [] [] (opened_bench config m) o
issuing_at p config m o b h =
    let flies : CanFly o = opened_flies config m o b h in
    let work : work_of o.probe ≡ work_of m.probe = ap (λ (e : ExecutorState). e.transfers.work) h.executor in
    let ended : o.probe.executor.transfers.ended_retries ≡ m.probe.executor.transfers.ended_retries = ap (λ (e : ExecutorState). e.transfers.ended_retries) h.executor in
    record {
      flying = [];
      sending = record {
        fresh = b.fresh;
        askable = tt;
        made = [];
        on = record {
          are = refl;
          weighty = tt;
          flight = refl;
          passes = tt;
          target = opened_target config m o h;
          clear = flies.guard.clear;
          work = omega (arith, work);
          room = (let w = b.work in omega (arith, w, work));
          retries = ended;
          few = (let r = b.retries in omega (arith, r, ended));
          setting = ap (λ (e : ExecutorState). e.transfers.setting) h.executor;
          idle_cycles = ap (λ (e : ExecutorState). e.idle) h.executor;
          number = (let n = ap (λ (e : ExecutorState). e.transfers.line.number) h.executor in omega (arith, n));
        };
        confirmed_is = refl;
        length_is = refl;
        results_are = λ n least. refl;
        lines = λ k low cut. omega arith;
      };
      known_is = refl;
      count = refl;
      entries_are = refl;
      strict = tt;
      in_order = omega arith;
      within = omega arith;
      came_made = omega arith;
      whole_issued = omega arith;
      came_are = refl;
      skipped_is = refl;
      given = λ index low less. absurd (omega (arith, low, less));
      given_in = λ index low less. absurd (omega (arith, low, less));
      flies = flies;
      few = (let w = b.work in omega (arith, w, work));
    }

begun_at : (p : Planner) (bench : BenchReported) (config : Config) (m o : BenchState) (sent got : List ℕ) → MayBegin m → HasOpened config m o → HasBegun p bench (Some o) nothing_logged sent got nothing_kept [] (opened_bench config m)
begun_at p bench config m o sent got b h = record {
  so = record {
    issuing = issuing_at p config m o b h;
    whole_is = refl;
    kept_is = refl;
    calm = λ settled. (refl, refl);
  };
}

begun_where : (p : Planner) (x y : Option BenchState) (bench : BenchReported) (config : Config) (sent got : List ℕ) → StepsTo (λ m o. IsInRange (target_of m.probe) → HasOpened config m o) x y → StepsTo (λ m o. MayBegin m → HasBegun p bench y nothing_logged sent got nothing_kept [] (opened_bench config m)) x y
begun_where p None None bench config sent got h = tt
begun_where p None (Some o) bench config sent got h = absurd h
begun_where p (Some m) None bench config sent got h = absurd h
begun_where p (Some m) (Some o) bench config sent got h = λ b. begun_at p bench config m o sent got b (h b.in_range)

pub has_begun : (p : Planner) (x y : Option BenchState) (bench : BenchReported) (config : Config) (log : LogState) (sent got : List ℕ) (kept : Kept) (accesses : List RegAccess) → log ≡ nothing_logged → kept ≡ nothing_kept → accesses ≡ [] →
    StepsTo (λ m o. IsInRange (target_of m.probe) → HasOpened config m o) x y → StepsTo (λ m o. MayBegin m → HasBegun p bench y log sent got kept accesses (opened_bench config m)) x y
has_begun p x y bench config log sent got kept accesses none nothing empty h =
    subst (λ (l : LogState). StepsTo (λ m o. MayBegin m → HasBegun p bench y l sent got kept accesses (opened_bench config m)) x y) (sym none)
    (subst (λ (k : Kept). StepsTo (λ m o. MayBegin m → HasBegun p bench y nothing_logged sent got k accesses (opened_bench config m)) x y) (sym nothing)
    (subst (λ (a : List RegAccess). StepsTo (λ m o. MayBegin m → HasBegun p bench y nothing_logged sent got nothing_kept a (opened_bench config m)) x y) (sym empty) (begun_where p x y bench config sent got h)))
