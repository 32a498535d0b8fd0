-- What a flight leaves of the entries that lie in it.
use Rattle.std.specs.Prelude.{◌≡◌, ◌⊎◌, ℕ, ◌+◌, ◌≤◌, true, false, List, [], ◌∷◌, ◌++◌, length, Option}
use Rattle.std.specs.List.{AllByRecursion}
use Rattle.target_machine.specs.Plain.{action_attempt, is_fault}
use Rattle.target_machine.specs.State.{TargetState}
use Rattle.target_machine.specs.declared.access.RegAccess.{RegAccess}
use Rattle.dap_messages.specs.declared.request.Response.TheVariants.{Good, Wait, Fault, Mismatch}
use Rattle.flight_forms.specs.Flights.{DoesPart, Part, slot_values}
use Rattle.probe_core.specs.Bench.{BenchState}
use Rattle.probe_core.specs.Probe.{target_of}
use Rattle.probe_core.specs.declared.job.Limits.{Limits}
use Rattle.target_calls.specs.Journal.{Entry, Passes, target_after}
use Rattle.access_calls.specs.Numbers.{HasNumbers}
use Rattle.access_calls.specs.Reported.{AccessView, began}
use Rattle.access_calls.specs.Standing.{HasBroken, IsFaulted, IsUnanswered, flight_accesses, idle_cycles_of}
use Rattle.access_calls.specs.declared.stop.Report.{Report}
use Rattle.batch_packer.specs.Flying.{Flies, transfers_of}
use Rattle.flight_laws.specs.UnderWay.{IsUnderWay}

-- the entries are of units that forgive nothing, or settle
abbrev pub AreStrict : List Entry → Type 0
AreStrict entries = AllByRecursion (λ e. e.forgiving ≡ false) entries

-- A flight that came whole leaves all its entries made.
abbrev pub WholeFlies : Type 0
WholeFlies = (entries made flying rest : List Entry) (accesses : List RegAccess) (m0 m o : BenchState) (part : Part) →
    IsUnderWay entries made flying rest accesses m0 m → Flies accesses part m o → part.response ≡ Good →
    IsUnderWay entries (made ++ flying) [] rest [] m0 o

-- The values that came are those of its accesses.
abbrev pub ValuesCame : Type 0
ValuesCame = (entries made flying rest : List Entry) (accesses : List RegAccess) (m0 m o : BenchState) (part : Part) →
    IsUnderWay entries made flying rest accesses m0 m → Flies accesses part m o → part.response ≡ Good →
    part.values ≡ slot_values (target_after (target_of m0.probe) made) accesses

-- After the first k of these entries comes one, and none before it gives a fault that its unit does not forgive.
pub record IsCutAt (entries : List Entry) (k : ℕ) (t : TargetState) : Type 0 where
  pub front : List Entry
  pub entry : Entry
  pub more : List Entry
  pub is : entries ≡ front ++ entry ∷ more
  pub at : length front ≡ k
  pub passes : Passes t front

-- It gives a fault that its unit does not forgive.
pub record IsStrictFaultAt (entries : List Entry) (k : ℕ) (t : TargetState) : Type 0 where
  pub cut : IsCutAt entries k t
  pub bad : is_fault (action_attempt (target_after t cut.front) cut.entry.action).outcome ≡ true
  pub strict : cut.entry.forgiving ≡ false

-- A flight that met a fault is at the first entry that is not confirmed, as a report of its numbers says.
abbrev pub FaultFlies : Type 0
FaultFlies = (entries made flying rest : List Entry) (accesses : List RegAccess) (n : Option ℕ) (m0 m o : BenchState) (part : Part) (r : Report) (b : AccessView) →
    IsUnderWay entries made flying rest accesses m0 m → Flies accesses part m o → part.response ≡ Fault → AreStrict flying →
    r.accesses ≡ length made + part.performed → r.confirmed ≡ length made + part.confirmed → HasNumbers entries b.asks.calls b.skipped b.lines r →
    IsFaulted entries r b (began m0 n) o × IsStrictFaultAt entries r.confirmed (target_of m0.probe)

-- So does one in which a retry ended.
abbrev pub WaitFlies : Type 0
WaitFlies = (entries made flying rest : List Entry) (accesses : List RegAccess) (n : Option ℕ) (m0 m o : BenchState) (part : Part) (r : Report) (b : AccessView) →
    IsUnderWay entries made flying rest accesses m0 m → Flies accesses part m o → part.response ≡ Wait →
    r.accesses ≡ length made + part.performed → r.confirmed ≡ length made + part.confirmed → HasNumbers entries b.asks.calls b.skipped b.lines r →
    IsUnanswered entries r b (began m0 n) o × IsCutAt entries r.confirmed (target_of m0.probe)

-- Where the bench failed, before the flight or after it, all its entries count as issued, where these limits hold its accesses.
abbrev pub BenchFlies : Type 0
BenchFlies = (limits : Limits) (entries made flying rest : List Entry) (accesses : List RegAccess) (n : Option ℕ) (m0 m o : BenchState) (part : Part) →
    IsUnderWay entries made flying rest accesses m0 m →
    (transfers_of o ≡ transfers_of m) ⊎ DoesPart (transfers_of m) (transfers_of o) accesses part → idle_cycles_of o ≡ idle_cycles_of m →
    (part.response ≡ Mismatch → ⊥) → length accesses ≤ flight_accesses limits → HasBroken limits entries (length made + length flying) (length made) (began m0 n) o
