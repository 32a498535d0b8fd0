-- A poll as the last call.
use Rattle.std.specs.Prelude.{◌≡◌, ℕ, false, List, [], ◌∷◌, ◌++◌, Option}
use Rattle.target_machine.specs.Plain.{Polls}
use Rattle.target_machine.specs.declared.unit.Call.TheVariants.{Access}
use Rattle.target_machine.specs.declared.unit.Unit.TheVariants as unit
use Rattle.probe_core.specs.Bench.{BenchState}
use Rattle.probe_core.specs.Probe.{target_of}
use Rattle.target_calls.specs.declared.calls.Ask.{Ask}
use Rattle.access_regs.specs.Entries.{kept_by}
use Rattle.access_regs.specs.Kept.{Kept}
use Rattle.bench_flights.specs.Flown.{IsSetTo}
use Rattle.packed_access.specs.Actions.{entry_of_call}
use Rattle.packed_access.specs.Begun.{HasIssued}
use Rattle.packed_access.specs.Logs.{LogState}
use Rattle.access_regs.specs.declared.planner.Planner.{Planner}

-- The last call is this poll, asked after these; all entries before its own are confirmed, and this is known of the registers. The
-- access began with these idle cycles and this retry number.
pub record HasPoll (p : Planner) (state : Option BenchState) (log : LogState) (kept : Kept) (calls : List Ask) (ask : Ask) (mask requested turns idle retry : ℕ)
    (m0 : BenchState) : Type 0 where
  pub are : log.calls ≡ calls ++ ask ∷ []
  pub call : ask.call ≡ Access (unit.Poll mask requested turns)
  pub unmarked : ask.settled ≡ false
  pub kept_is : kept_by p (target_of m0.probe) calls ≡ kept
  pub issued : HasIssued p state log [] (entry_of_call calls (Polls mask requested turns) ∷ []) m0
  pub set : IsSetTo idle retry m0
