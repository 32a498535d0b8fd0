-- A flight that is about to be sent, at the end of a call or in the middle of one.
use Rattle.std.specs.Prelude.{◌≡◌, ℕ, ◌+◌, ◌^◌, ◌<◌, ◌≤◌, true, false, List, [], ◌∷◌, ◌++◌, length, take, Option}
use Rattle.target_machine.specs.Fresh.{IsFresh}
use Rattle.target_machine.specs.Plain.{Commands, Makes, forgives}
use Rattle.target_machine.specs.declared.access.RegAccess.{RegAccess}
use Rattle.dap_messages.specs.declared.request.Response.TheVariants.{Fault, Good}
use Rattle.flight_forms.specs.Flights.{Part}
use Rattle.probe_core.specs.Bench.{BenchState}
use Rattle.probe_core.specs.Probe.{target_of, work_of}
use Rattle.target_calls.specs.Asks.{AreAskable, IsAskable, is_forgiving, settled_last}
use Rattle.target_calls.specs.Journal.{Entry, is_unforgiven, lines_before}
use Rattle.target_calls.specs.World.{AtLeast, results}
use Rattle.target_calls.specs.declared.calls.Ask.{Ask}
use Rattle.target_calls.specs.declared.journal.Part.TheVariants.{Settles}
use Rattle.access_regs.specs.Entries.{NoneFault, target_by}
use Rattle.access_regs.specs.Journal.{issue_of, issued_entries, numbered_entries, steps_of}
use Rattle.access_regs.specs.Kept.{Kept}
use Rattle.access_regs.specs.Plan.{settle}
use Rattle.access_regs.specs.declared.planner.Planner.{Planner}
use Rattle.access_calls.specs.Reported.{AccessView, world_from}
use Rattle.batch_packer.specs.Actions.{DoesAction}
use Rattle.flight_laws.specs.Actions.{AreForgiving}
use Rattle.batch_packer.specs.Flying.{Flies}
use Rattle.flight_laws.specs.Flights.{IsCutAt}
use Rattle.flight_laws.specs.Flying.{IsFlying}
use Rattle.flight_laws.specs.UnderWay.{IsUnderWay}

-- Of the entries of these calls so many are confirmed, the next lie in the flight as these accesses, and the rest is still to be
-- pushed. So many calls are known to have come, to these results in each world that is left; each later entry has their lines
-- before it.
pub record IsSending (p : Planner) (calls : List Ask) (confirmed count : ℕ) (flying rest : List Entry) (accesses : List RegAccess) (came : List ℕ)
    (m0 m : BenchState) : Type 0 where
  pub fresh : IsFresh (target_of m0.probe)
  pub askable : AreAskable calls
  pub made : List Entry
  pub on : IsUnderWay (issued_entries p (target_of m0.probe) calls) made flying rest accesses m0 m
  pub confirmed_is : length made ≡ confirmed
  pub length_is : length came ≡ count
  pub results_are : (n : Option ℕ) → AtLeast count n → take count (results (world_from m0 n) calls) ≡ came
  pub lines : (k : ℕ) → confirmed ≤ k → (cut : IsCutAt (issued_entries p (target_of m0.probe) calls) k (target_of m0.probe)) → count ≤ lines_before cut.entry

-- what a call issues after those of an access
abbrev pub entries_of_call : Planner → BenchState → AccessView → Kept → Ask → List Entry
entries_of_call p m0 a kept ask =
    numbered_entries (length a.asks.calls) (is_forgiving ask) (issue_of p (target_by p (target_of m0.probe) a.asks.calls) kept ask).steps

-- what a `finish` issues after the calls of an access
abbrev pub entries_of_finish : AccessView → Kept → List Entry
entries_of_finish a kept = numbered_entries (length a.asks.calls) false (steps_of Settles (settle kept))

-- Between two calls nothing is left to be pushed.
abbrev pub FlyingSends : Type 0
FlyingSends = (p : Planner) (a : AccessView) (kept : Kept) (accesses : List RegAccess) (came : List ℕ) (m0 m : BenchState) → (f : IsFlying p a kept accesses came m0 m) →
    IsSending p a.asks.calls a.confirmed a.came f.flying [] accesses came m0 m

-- A call is asked: what it issues is to be pushed.
abbrev pub CallSends : Type 0
CallSends = (p : Planner) (a : AccessView) (kept : Kept) (accesses : List RegAccess) (came : List ℕ) (ask : Ask) (m0 m : BenchState) →
    (f : IsFlying p a kept accesses came m0 m) →
    IsAskable ask → ask.settled ≡ false →
    IsSending p (a.asks.calls ++ ask ∷ []) a.confirmed a.came f.flying (entries_of_call p m0 a kept ask) accesses came m0 m

-- A `finish` is made: the settling is to be pushed.
abbrev pub FinishSends : Type 0
FinishSends = (p : Planner) (a : AccessView) (kept : Kept) (accesses : List RegAccess) (came : List ℕ) (m0 m : BenchState) → (f : IsFlying p a kept accesses came m0 m) →
    IsSending p (settled_last a.asks.calls) a.confirmed a.came f.flying (entries_of_finish a kept) accesses came m0 m

-- The next entry, which is a register access, is pushed.
abbrev pub PushSends : Type 0
PushSends = (p : Planner) (calls : List Ask) (confirmed count : ℕ) (flying : List Entry) (e : Entry) (rest : List Entry) (accesses : List RegAccess)
    (a : RegAccess) (came : List ℕ) (m0 m : BenchState) →
    IsSending p calls confirmed count flying (e ∷ rest) accesses came m0 m → e.action ≡ Makes a → work_of m.probe + length flying + 1 < 2 ^ 64 →
    IsSending p calls confirmed count (flying ++ e ∷ []) rest (accesses ++ a ∷ []) came m0 m

-- The flight came whole.
abbrev pub WholeSends : Type 0
WholeSends = (p : Planner) (calls : List Ask) (confirmed count : ℕ) (flying rest : List Entry) (accesses : List RegAccess) (came : List ℕ) (m0 m o : BenchState)
    (part : Part) →
    IsSending p calls confirmed count flying rest accesses came m0 m → Flies accesses part m o → part.response ≡ Good →
    IsSending p calls (confirmed + length flying) count [] rest [] came m0 o

-- A poll or a command of the probe was done whole.
abbrev pub ActionSends : Type 0
ActionSends = (p : Planner) (calls : List Ask) (confirmed count : ℕ) (e : Entry) (rest : List Entry) (came : List ℕ) (m0 m o : BenchState) →
    IsSending p calls confirmed count [] (e ∷ rest) [] came m0 m → DoesAction e.action m o → is_unforgiven (target_of m.probe) e ≡ false → work_of o.probe < 2 ^ 64 →
    IsSending p calls (confirmed + 1) count [] rest [] came m0 o

-- A fault of the flight's last access was forgiven, and ABORT written.
abbrev pub ForgivenSends : Type 0
ForgivenSends = (p : Planner) (calls : List Ask) (confirmed count : ℕ) (flying : List Entry) (abort : Entry) (rest : List Entry) (lead : List RegAccess)
    (a : RegAccess) (came : List ℕ) (m0 m o q : BenchState) (part : Part) →
    IsSending p calls confirmed count flying (abort ∷ rest) (lead ++ a ∷ []) came m0 m → Flies (lead ++ a ∷ []) part m o → part.response ≡ Fault →
    NoneFault (target_of m.probe) lead → AreForgiving flying → abort.action ≡ Commands forgives → abort.forgiving ≡ true →
    DoesAction (Commands forgives) o q → work_of q.probe < 2 ^ 64 →
    IsSending p calls (confirmed + length flying + 1) count [] rest [] came m0 q
