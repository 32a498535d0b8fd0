-- How the entries of one call more come into a flight, and what the flight's values say of them.
use Rattle.std.specs.Prelude.{◌≡◌, ℕ, ◌+◌, ◌^◌, ◌<◌, true, List, [], ◌∷◌, ◌++◌, length, slice_get, Option, Some, None}
use Rattle.target_machine.specs.Lists.{after}
use Rattle.target_machine.specs.Plain.{Makes, action_attempt, given_number}
use Rattle.target_machine.specs.State.{TargetState}
use Rattle.target_machine.specs.declared.access.RegAccess.{RegAccess}
use Rattle.dap_messages.specs.declared.request.Response.TheVariants.{Good}
use Rattle.flight_forms.specs.Flights.{Part}
use Rattle.probe_core.specs.Bench.{BenchState}
use Rattle.probe_core.specs.Probe.{target_of, work_of}
use Rattle.target_calls.specs.Journal.{Entry, target_after}
use Rattle.target_calls.specs.Weights.{AreWeighty}
use Rattle.access_regs.specs.Entries.{NoneFault}
use Rattle.access_regs.specs.Journal.{gives, making}
use Rattle.batch_packer.specs.Flying.{Flies}
use Rattle.batch_packer.specs.SlotList.{value_in, slot_at}
use Rattle.flight_laws.specs.UnderWay.{IsUnderWay}

-- Where the journal grew, what it gained is still to be pushed.
abbrev pub JournalGrew : Type 0
JournalGrew = (entries grown made flying more : List Entry) (accesses : List RegAccess) (m0 m : BenchState) →
    IsUnderWay entries made flying [] accesses m0 m → grown ≡ entries ++ more → AreWeighty more →
    IsUnderWay grown made flying more accesses m0 m

-- The next entry, which is a register access, is pushed.
abbrev pub EntryPushed : Type 0
EntryPushed = (entries made flying : List Entry) (e : Entry) (rest : List Entry) (accesses : List RegAccess) (a : RegAccess) (m0 m : BenchState) →
    IsUnderWay entries made flying (e ∷ rest) accesses m0 m → e.action ≡ Makes a → work_of m.probe + length flying + 1 < 2 ^ 64 →
    IsUnderWay entries made (flying ++ e ∷ []) rest (accesses ++ a ∷ []) m0 m

-- In a flight that came whole, the value of a read is what its entry gives.
abbrev pub ValueGiven : Type 0
ValueGiven = (entries made flying rest : List Entry) (accesses : List RegAccess) (m0 m o : BenchState) (part : Part) (front : List Entry) (e : Entry)
    (more : List Entry) (a : RegAccess) (place : ℕ) →
    IsUnderWay entries made flying rest accesses m0 m → Flies accesses part m o → part.response ≡ Good →
    entries ≡ front ++ e ∷ more → length front ≡ length made + place → place < length flying → e.action ≡ Makes a → a.read ≡ true →
    slot_at part.values place ≡ Some (given_number (action_attempt (target_after (target_of m0.probe) front) e.action).outcome)

-- Where the accesses before the last of a plan do not fault, what the plan gives is what the last one gives.
abbrev pub PlanGives : Type 0
PlanGives = (u : TargetState) (lead : List RegAccess) (a : RegAccess) → NoneFault u lead →
    gives u (lead ++ a ∷ []) ≡ given_number (action_attempt (after u (making lead)) (Makes a)).outcome
