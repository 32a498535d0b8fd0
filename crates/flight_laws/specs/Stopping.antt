-- Where the calls of an access stop whose flight was cut.
use Rattle.std.specs.Prelude.{◌≡◌, ◌⊎◌, ℕ, ◌+◌, ◌-◌, ◌≤◌, true, false, List, ◌++◌, length, take, slice_get, Option, Some, None, IfSome}
use Rattle.target_machine.specs.Fresh.{IsFresh}
use Rattle.target_machine.specs.State.{TargetState}
use Rattle.target_calls.specs.Asks.{AreAskable, is_settled}
use Rattle.target_calls.specs.Journal.{Passes, lines_before}
use Rattle.target_calls.specs.World.{AtLeast, results, start_world, stop}
use Rattle.target_calls.specs.declared.calls.Ask.{Ask}
use Rattle.access_regs.specs.Journal.{issued_entries}
use Rattle.access_regs.specs.declared.planner.Planner.{Planner}
use Rattle.access_calls.specs.Growing.{IsAfter}
use Rattle.access_calls.specs.Numbers.{HasNumbers}
use Rattle.access_calls.specs.Standing.{StayWithin}
use Rattle.access_calls.specs.declared.stop.Report.{Report}
use Rattle.flight_laws.specs.Flights.{IsCutAt, IsStrictFaultAt}

-- At a fault the calls stop right after those that have their lines before it.
abbrev pub StopsAtFault : Type 0
StopsAtFault = (p : Planner) (t : TargetState) (asks : List Ask) (r : Report) (skipped lines : ℕ) (n : Option ℕ) → IsFresh t → AreAskable asks →
    IsStrictFaultAt (issued_entries p t asks) r.confirmed t → HasNumbers (issued_entries p t asks) asks skipped lines r → AtLeast lines n →
    stop (start_world t n) asks ≡ Some (lines + 1)

-- Let a retry end, and just so many calls be answered as have their lines before it. Then the calls stop right after these. Or all of them have
-- their lines, and the retry ended in the settling after the last.
abbrev pub StopsAtWait : Type 0
StopsAtWait = (p : Planner) (t : TargetState) (asks : List Ask) (r : Report) (skipped lines : ℕ) → IsFresh t → AreAskable asks →
    IsCutAt (issued_entries p t asks) r.confirmed t → HasNumbers (issued_entries p t asks) asks skipped lines r →
    (stop (start_world t (Some lines)) asks ≡ Some (lines + 1)) ⊎ ((stop (start_world t (Some lines)) asks ≡ None) × ((lines ≡ length asks) × (is_settled asks ≡ true)))

-- Calls all of whose entries come before the cut have their lines before it.
abbrev pub CameBefore : Type 0
CameBefore = (p : Planner) (t : TargetState) (front back : List Ask) (c : ℕ) → length (issued_entries p t front) ≤ c →
    (cut : IsCutAt (issued_entries p t (front ++ back)) c t) →
    length front ≤ lines_before cut.entry

-- Where no settling follows the first calls, and the first entry that is not confirmed was issued once these were asked, all their
-- entries are confirmed.
abbrev pub CameConfirmed : Type 0
CameConfirmed = (p : Planner) (t : TargetState) (front back : List Ask) (confirmed : ℕ) → is_settled front ≡ false →
    IfSome (slice_get (issued_entries p t (front ++ back)) confirmed) (IsAfter (length front)) → length (issued_entries p t front) ≤ confirmed

-- Entries of which none but the last gives a fault that its unit does not forgive are of the calls up to the first that stops.
abbrev pub BegunStay : Type 0
BegunStay = (p : Planner) (t : TargetState) (asks : List Ask) (begun : ℕ) → IsFresh t → AreAskable asks → Passes t (take (begun - 1) (issued_entries p t asks)) →
    StayWithin t asks (take begun (issued_entries p t asks))

-- The results of the calls that have their lines before the cut stay.
abbrev pub ResultsStay : Type 0
ResultsStay = (p : Planner) (t : TargetState) (asks : List Ask) (r : Report) (skipped lines : ℕ) (n : Option ℕ) → IsFresh t → AreAskable asks →
    IsCutAt (issued_entries p t asks) r.confirmed t → HasNumbers (issued_entries p t asks) asks skipped lines r → AtLeast lines n →
    (lines ≤ length asks) × (take lines (results (start_world t n) asks) ≡ results (start_world t None) (take lines asks))
