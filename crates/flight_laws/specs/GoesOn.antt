-- How what an access keeps goes on: over a flight that came whole, and over a call whose accesses are pushed.
use Rattle.std.specs.Prelude.{◌≡◌, ℕ, ◌+◌, ◌-◌, ◌^◌, ◌<◌, false, List, [], ◌∷◌, ◌++◌, length, None}
use Rattle.target_machine.specs.declared.access.RegAccess.{RegAccess}
use Rattle.dap_messages.specs.declared.request.Response.TheVariants.{Good}
use Rattle.flight_forms.specs.Flights.{Part}
use Rattle.probe_core.specs.Bench.{BenchState}
use Rattle.probe_core.specs.Probe.{target_of, work_of}
use Rattle.target_calls.specs.Asks.{IsAskable, is_forgiving}
use Rattle.target_calls.specs.World.{results, start_world}
use Rattle.target_calls.specs.declared.calls.Ask.{Ask}
use Rattle.access_regs.specs.Entries.{target_by}
use Rattle.access_regs.specs.Journal.{actions_of, issue_of, making}
use Rattle.access_regs.specs.Kept.{Kept}
use Rattle.access_regs.specs.declared.planner.Planner.{Planner}
use Rattle.access_calls.specs.Reported.{AccessView}
use Rattle.batch_packer.specs.Flying.{Flies}
use Rattle.flight_laws.specs.Flying.{IsFlying}

-- The flight came whole: all calls came, and all entries that were issued are confirmed.
pub record IsFlushed (a b : AccessView) (came : List ℕ) (m0 : BenchState) : Type 0 where
  pub calls : b.asks.calls ≡ a.asks.calls
  pub confirmed : b.confirmed ≡ a.issued
  pub issued : b.issued ≡ a.issued
  pub came_all : b.came ≡ length a.asks.calls
  pub skipped : b.skipped ≡ a.skipped
  pub came_are : came ≡ results (start_world (target_of m0.probe) None) a.asks.calls

-- After that nothing lies in the flight.
abbrev pub FlushGoes : Type 0
FlushGoes = (p : Planner) (a b : AccessView) (kept : Kept) (accesses : List RegAccess) (came flushed : List ℕ) (m0 m o : BenchState) (part : Part) →
    IsFlying p a kept accesses came m0 m → Flies accesses part m o → part.response ≡ Good → IsFlushed a b flushed m0 → IsFlying p b kept [] flushed m0 o

-- A call that forgives nothing was asked, and the accesses that it issues were pushed; nothing was sent.
pub record IsPushed (p : Planner) (a b : AccessView) (ask : Ask) (kept learned : Kept) (more : List RegAccess) (m0 m : BenchState) : Type 0 where
  pub calls : b.asks.calls ≡ a.asks.calls ++ ask ∷ []
  pub unmarked : ask.settled ≡ false
  pub mild : is_forgiving ask ≡ false
  pub askable : IsAskable ask
  pub accesses : actions_of (issue_of p (target_by p (target_of m0.probe) a.asks.calls) kept ask).steps ≡ making more
  pub kept_is : learned ≡ (issue_of p (target_by p (target_of m0.probe) a.asks.calls) kept ask).kept
  pub confirmed : b.confirmed ≡ a.confirmed
  pub issued : b.issued ≡ a.issued + length more
  pub came : b.came ≡ a.came
  pub skipped : b.skipped ≡ a.skipped
  pub room : work_of m.probe + (a.issued - a.confirmed) + length more < 2 ^ 64

-- After that they lie in the flight too.
abbrev pub PushGoes : Type 0
PushGoes = (p : Planner) (a b : AccessView) (ask : Ask) (kept learned : Kept) (accesses more : List RegAccess) (came : List ℕ) (m0 m : BenchState) →
    IsFlying p a kept accesses came m0 m → IsPushed p a b ask kept learned more m0 m → IsFlying p b learned (accesses ++ more) came m0 m
