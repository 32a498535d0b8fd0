-- What an access keeps whose calls lie in a flight: the calls whose entries were made, and those that are still to be sent.
use Rattle.std.specs.Prelude.{◌≡◌, ℕ, ◌+◌, true, List, [], ◌++◌, length, take, Option, None}
use Rattle.target_machine.specs.Fresh.{IsFresh}
use Rattle.target_machine.specs.declared.access.RegAccess.{RegAccess}
use Rattle.probe_core.specs.Bench.{BenchState}
use Rattle.probe_core.specs.Probe.{target_of}
use Rattle.target_calls.specs.Asks.{AreAskable, ForgiveNothing, is_settled}
use Rattle.target_calls.specs.Journal.{Entry}
use Rattle.target_calls.specs.World.{AtLeast, results, skips, start_world}
use Rattle.target_calls.specs.declared.calls.Ask.{Ask}
use Rattle.access_regs.specs.Entries.{kept_by}
use Rattle.access_regs.specs.Journal.{issued_entries}
use Rattle.access_regs.specs.Kept.{Kept}
use Rattle.access_regs.specs.declared.planner.Planner.{Planner}
use Rattle.access_calls.specs.Reported.{AccessView, began, world_from}
use Rattle.access_calls.specs.Standing.{StandsOpen}
use Rattle.flight_laws.specs.Flights.{AreStrict}
use Rattle.flight_laws.specs.UnderWay.{IsUnderWay}

-- The access has no end. Of the entries of all calls the first were made, and the next lie in the flight as these accesses, which are of units
-- that forgive nothing. What is kept of the registers is what is known after all of them. The first calls, all of whose entries were made, came
-- to these results and so many skips. Once a `finish` was made after the last call, nothing lies in the flight.
pub record IsFlying (p : Planner) (a : AccessView) (kept : Kept) (accesses : List RegAccess) (came : List ℕ) (m0 m : BenchState) : Type 0 where
  pub fresh : IsFresh (target_of m0.probe)
  pub askable : AreAskable a.asks.calls
  pub made : List Entry
  pub flying : List Entry
  pub on : IsUnderWay (issued_entries p (target_of m0.probe) a.asks.calls) made flying [] accesses m0 m
  pub kept_is : kept_by p (target_of m0.probe) a.asks.calls ≡ kept
  pub confirmed : length made ≡ a.confirmed
  pub issued_is : length made + length flying ≡ a.issued
  pub strict : AreStrict flying
  -- the calls that came, and the others
  pub front : List Ask
  pub back : List Ask
  pub calls : a.asks.calls ≡ front ++ back
  -- entries of the others that were made, where a flight was sent in the middle of a call
  pub part : List Entry
  pub made_is : made ≡ issued_entries p (target_of m0.probe) front ++ part
  pub came_is : a.came ≡ length front
  pub came_are : came ≡ results (start_world (target_of m0.probe) None) front
  pub skipped_is : a.skipped ≡ skips (start_world (target_of m0.probe) None) front
  pub mild : ForgiveNothing back
  pub calm : is_settled a.asks.calls ≡ true → (back ≡ []) × (flying ≡ [])

-- So an access has come without an end.
abbrev pub OpenStands : Type 0
OpenStands = (p : Planner) (a : AccessView) (kept : Kept) (accesses : List RegAccess) (came : List ℕ) (n : Option ℕ) (m0 m : BenchState) →
    IsFlying p a kept accesses came m0 m → AtLeast a.came n →
    StandsOpen (issued_entries p (target_of m0.probe) a.asks.calls) a (began m0 n) m

-- The results that came are those of the first calls in each world that is left, whatever comes after them.
abbrev pub CameStands : Type 0
CameStands = (p : Planner) (a : AccessView) (kept : Kept) (accesses : List RegAccess) (came : List ℕ) (n : Option ℕ) (m0 m : BenchState) →
    IsFlying p a kept accesses came m0 m → AtLeast a.came n →
    (length came ≡ a.came) × (take a.came (results (world_from m0 n) a.asks.calls) ≡ came)
