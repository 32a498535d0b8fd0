-- How far an access has come with the calls that were asked of it, and where it began.
use Rattle.std.specs.Prelude.{◌≡◌, ℕ, zero, suc, ◌+◌, ◌-◌, ◌*◌, ◌^◌, ◌<◌, ◌≤◌, Bool, true, false, List, [], ◌∷◌, ◌++◌, length, map, take, slice_index, Option, Some, ⊤}
use Rattle.std.specs.Prelude.{None, refl}
use Rattle.std.specs.List.{AllByRecursion}
use Rattle.target_machine.specs.Plain.{Makes}
use Rattle.target_machine.specs.State.{TargetState}
use Rattle.target_machine.specs.declared.access.RegAccess.{RegAccess}
use Rattle.target_machine.specs.declared.unit.Unit.{Unit as AccessUnit}
use Rattle.target_machine.specs.declared.unit.Unit.TheVariants as unit
use Rattle.probe_core.specs.Bench.{BenchState}
use Rattle.probe_core.specs.Bench.{Reported as BenchReported}
use Rattle.probe_core.specs.Probe.{target_of, work_of}
use Rattle.target_calls.specs.Asks.{ForgiveNothing, is_forgiving, is_settled}
use Rattle.target_calls.specs.Journal.{Entry, target_after}
use Rattle.target_calls.specs.World.{results, skips, small_now, start_world}
use Rattle.target_calls.specs.declared.calls.Ask.{Ask}
use Rattle.target_calls.specs.declared.journal.Part.{Part}
use Rattle.access_regs.specs.Entries.{kept_by, target_by}
use Rattle.access_regs.specs.Journal.{Step, issue_of, issued_entries, numbered_entries}
use Rattle.access_regs.specs.Kept.{Kept}
use Rattle.access_calls.specs.Answers.{AtCut}
use Rattle.access_calls.specs.Issued.{AreKeptOf}
use Rattle.access_calls.specs.Left.{IsLeft}
use Rattle.access_calls.specs.Reported.{AccessView, began, world_from}
use Rattle.access_calls.specs.Standing.{AccessStands, WhereObservable}
use Rattle.access_calls.specs.declared.stop.Stop.{Stop}
use Rattle.batch_packer.specs.Flying.{CanFly}
use Rattle.flight_laws.specs.Ending.{IsEnded, StopsBy}
use Rattle.flight_laws.specs.Flights.{AreStrict}
use Rattle.flight_laws.specs.Sending.{IsSending}
use Rattle.packed_access.specs.Logs.{LogState, reported_by}
use Rattle.packed_access.specs.Marks.{unmarked_last}
use Rattle.access_regs.specs.declared.planner.Planner.{Planner}

-- the work of a probe that one entry is at most: a poll of the most turns
abbrev pub most_weight : ℕ
most_weight = 60000000

-- The call of this number forgives nothing, does not end because its AP has no large addresses, and gets its result from the entry of this
-- place in the journal.
pub record IsGivenAt (p : Planner) (t : TargetState) (calls : List Ask) (index place : ℕ) : Type 0 where
  pub asks : List Ask
  pub ask : Ask
  pub more : List Ask
  pub are : calls ≡ asks ++ ask ∷ more
  pub at : length asks ≡ index
  pub mild : is_forgiving ask ≡ false
  pub large : small_now (start_world t None) asks ask ≡ false
  pub place_is : place + 1 ≡ length (issued_entries p t asks) + length (issue_of p (target_by p t asks) (kept_by p t asks) ask).steps

-- Of the entries of the calls the first are confirmed, the next lie in the flight as these accesses, and the rest is still to be issued. The
-- calls that came have all their entries among those that are confirmed, and these results. Those that were issued whole have all their entries
-- among those that were issued. A settling after the last call is none of these. The bench can make the flight, and its work can be counted.
pub record IsIssuing (p : Planner) (log : LogState) (accesses : List RegAccess) (rest : List Entry) (m0 m : BenchState) : Type 0 where
  pub flying : List Entry
  pub sending : IsSending p log.calls log.confirmed log.came flying rest accesses (take log.known log.results) m0 m
  pub known_is : log.known ≡ log.came
  pub count : log.confirmed + length flying ≡ length log.entries
  pub entries_are : AreKeptOf (take (length log.entries) (issued_entries p (target_of m0.probe) log.calls)) log.entries
  pub strict : AreStrict flying
  pub in_order : log.came ≤ log.whole
  pub within : log.whole ≤ length log.calls
  pub came_made : length (issued_entries p (target_of m0.probe) (take log.came (unmarked_last log.calls))) ≤ log.confirmed
  pub whole_issued : length (issued_entries p (target_of m0.probe) (take log.whole (unmarked_last log.calls))) ≤ length log.entries
  pub came_are : take log.known log.results ≡ results (start_world (target_of m0.probe) None) (take log.came log.calls)
  pub skipped_is : log.skipped ≡ skips (start_world (target_of m0.probe) None) (take log.came log.calls)
  pub given : (index : ℕ) → log.came ≤ index → index < log.whole → IsGivenAt p (target_of m0.probe) log.calls index (slice_index log.places index)
  pub given_in : (index : ℕ) → log.came ≤ index → index < log.whole → (log.confirmed ≤ slice_index log.places index) × (slice_index log.places index < length log.entries)
  pub flies : CanFly m
  pub few : work_of m.probe + length accesses ≤ 2 ^ 63 + most_weight * length log.entries

-- So it is where the bench is observable.
pub record HasIssued (p : Planner) (state : Option BenchState) (log : LogState) (accesses : List RegAccess) (rest : List Entry) (m0 : BenchState) : Type 0 where
  pub so : WhereObservable state (λ m. IsIssuing p log accesses rest m0 m)

-- the entries of accesses that are all the same to their unit, which forgives nothing
abbrev pub strict_entries : ℕ → Part → List RegAccess → List Entry
strict_entries unit part accesses = map (λ a. record { unit = unit; part = part; forgiving = false; action = Makes a }) accesses

-- the unit is no poll
abbrev pub IsNoPoll : AccessUnit → Type 0
IsNoPoll (unit.Poll mask value turns) = ⊥
IsNoPoll other = ⊤

-- steps of the last of so many calls, which forgives nothing
abbrev pub steps_left : LogState → List Step → List Entry
steps_left log steps = numbered_entries (length log.calls - 1) false steps

-- the target after the entries that were issued
abbrev pub target_issued : Planner → LogState → BenchState → TargetState
target_issued p log m0 = target_after (target_of m0.probe) (take (length log.entries) (issued_entries p (target_of m0.probe) log.calls))

-- Between two calls: all that was asked is issued, and this is known of the registers. Once a `finish` was made after the last call nothing
-- lies in the flight.
pub record IsOpenAt (p : Planner) (log : LogState) (kept : Kept) (accesses : List RegAccess) (m0 m : BenchState) : Type 0 where
  pub issuing : IsIssuing p log accesses [] m0 m
  pub whole_is : log.whole ≡ length log.calls
  pub kept_is : kept_by p (target_of m0.probe) log.calls ≡ kept
  pub calm : is_settled log.calls ≡ true → (log.came ≡ length log.calls) × (accesses ≡ [])

-- by its end
abbrev pub IsSince : Planner → Option Stop → AccessView → LogState → Kept → List RegAccess → BenchState → BenchState → Type 0
IsSince p None a log kept accesses m0 m = IsOpenAt p log kept accesses m0 m
IsSince p (Some s) a log kept accesses m0 m = IsEnded p s a (take log.known log.results) m0 m

-- The access began when its bench had this state.
pub record HasBegun (p : Planner) (bench : BenchReported) (state : Option BenchState) (log : LogState) (sent got : List ℕ) (kept : Kept)
    (accesses : List RegAccess) (m0 : BenchState) : Type 0 where
  pub so : WhereObservable state (λ m. IsSince p log.end (reported_by bench state log sent got) log kept accesses m0 m)

-- The access has ended so, as the laws of calls in flight say it.
pub record LogHasEnded (p : Planner) (s : Stop) (a : AccessView) (log : LogState) (m0 : BenchState) : Type 0 where
  pub so : WhereObservable a.state (λ m. IsEnded p s a (take log.known log.results) m0 m)

-- At a cut the calls stop right after those that have their lines before it, or in the settling of a `finish`.
pub record StopsAfterLines (m0 : BenchState) (answered : Option ℕ) (calls : List Ask) (lines : ℕ) (s : Stop) : Type 0 where
  pub so : AtCut s (λ r. StopsBy r.cause (world_from m0 answered) calls lines)

-- the entries that a call issues after others
abbrev pub entries_for_call : Planner → TargetState → List Ask → Kept → Ask → List Entry
entries_for_call p t calls kept ask = numbered_entries (length calls) (is_forgiving ask) (issue_of p (target_by p t calls) kept ask).steps

-- The last call was asked after these, and nothing of it is issued; this is known of the registers after those before it.
pub record LogHasAsked (p : Planner) (state : Option BenchState) (log : LogState) (accesses : List RegAccess) (kept : Kept) (calls : List Ask) (ask : Ask)
    (m0 : BenchState) : Type 0 where
  pub are : log.calls ≡ calls ++ ask ∷ []
  pub unmarked : ask.settled ≡ false
  pub kept_is : kept_by p (target_of m0.probe) calls ≡ kept
  pub issued : HasIssued p state log accesses (entries_for_call p (target_of m0.probe) calls kept ask) m0
