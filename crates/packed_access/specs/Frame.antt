-- The frame of a step of a sender: what may be asked of it, what it keeps, and how it ends.
use Rattle.std.specs.Prelude.{◌≡◌, ℕ, ◌+◌, ◌*◌, ◌<◌, ◌≤◌, Bool, true, [], length, Some, None, Result, IfErr, OnOk}
use Rattle.target_machine.specs.Plain.{may_forgive}
use Rattle.target_machine.specs.Sound.{IsSound, IsSoundProbe}
use Rattle.target_machine.specs.declared.unit.Call.TheVariants.{Access}
use Rattle.target_machine.specs.declared.unit.ProbeCall.{ProbeCall}
use Rattle.target_machine.specs.declared.unit.Unit.{Unit as AccessUnit}
use Rattle.access_regs.specs.Journal.{is_alone}
use Rattle.access_regs.specs.Kept.{Kept}
use Rattle.access_regs.specs.declared.planner.Planner.{Planner}
use Rattle.access_calls.specs.Answers.{NoMemory}
use Rattle.access_calls.specs.GoesOn.{AccessGoesOn}
use Rattle.access_calls.specs.declared.stop.Stop.{Stop}
use Rattle.packed_access.specs.Begun.{IsNoPoll}
use Rattle.packed_access.specs.Logs.{IsFurther, asks_of, most_entries}
use Rattle.packed_access.specs.Settling.{CanSettle}
use Rattle.packed_access.specs.Views.{HasSpace, SenderView, access_view}

-- ---- what may be issued

-- There is no end, and so many entries more may be issued.
pub record CanAdd (count : ℕ) (s : SenderView) : Type 0 where
  pub no_end : s.log.end ≡ None
  pub room : length s.log.entries + count ≤ s.log.room
  pub bounded : length s.log.entries + count ≤ most_entries * length s.log.calls

-- So many entries more may be issued, for the last call: all before it were issued whole.
pub record CanIssue (count : ℕ) (s : SenderView) : Type 0 where
  pub no_end : s.log.end ≡ None
  pub whole : s.log.whole + 1 ≡ length s.log.calls
  pub room : length s.log.entries + count ≤ s.log.room
  pub bounded : length s.log.entries + count ≤ most_entries * length s.log.calls

-- So many entries more may be made for the last call, in flights of its own: all before it came, and the flight is empty.
pub record CanTry (count : ℕ) (s : SenderView) : Type 0 where
  pub no_end : s.log.end ≡ None
  pub whole : s.log.whole + 1 ≡ length s.log.calls
  pub room : length s.log.entries + count ≤ s.log.room
  pub bounded : length s.log.entries + count ≤ most_entries * length s.log.calls
  pub came : s.log.came ≡ s.log.whole
  pub empty : s.accesses ≡ []
  pub space : HasSpace s

-- The unit may be issued by a plan: it is sound, and no poll.
pub record IsSoundAccess (unit : AccessUnit) : Type 0 where
  pub sound : IsSound unit
  pub no_poll : IsNoPoll unit

-- The unit is made alone: it is sound, a fault of it may be forgiven, and the access makes such units alone.
pub record IsMadeAlone (planner : Planner) (forgive : Bool) (unit : AccessUnit) : Type 0 where
  pub sound : IsSound unit
  pub may : may_forgive (Access unit) ≡ true
  pub alone : is_alone planner forgive ≡ true

-- The unit may be made in flights of its own: it is sound, and no access port is unsettled.
pub record CanTryUnit (kept : Kept) (unit : AccessUnit) : Type 0 where
  pub calm : kept.unsettled ≡ None
  pub sound : IsSound unit

-- The last call may be made, which is a command of the probe: it is sound, all calls before it came, and the flight is empty.
pub record CanCommandLast (call : ProbeCall) (s : SenderView) : Type 0 where
  pub ready : CanAdd 1 s
  pub sound : IsSoundProbe call
  pub rest : s.accesses ≡ []
  pub last : s.log.came + 1 ≡ length s.log.calls

-- ---- what is kept

-- What each step of a sender keeps: which loan its bench is, the limits of its packets, the calls that were asked, and what each call
-- of an access keeps.
pub record KeepsSender (old new : SenderView) : Type 0 where
  pub same_bench : new.identity ≡ old.identity
  pub same_limits : new.limits ≡ old.limits
  pub calls : new.log.calls ≡ old.log.calls
  pub goes : AccessGoesOn (access_view old) (access_view new)

-- How a step ends: where it answers, the access goes on; a stop is the end of the access; memory is never refused.
pub record StepEndsBy {T : Type 0} (result : Result T Stop) (new : SenderView) : Type 0 where
  pub no_end : OnOk result (new.log.end ≡ None)
  pub ended : IfErr result (λ s. new.log.end ≡ Some s)
  pub memory : IfErr result NoMemory

-- What a step of a sender keeps, and how it ends.
pub record SenderSteps {T : Type 0} (result : Result T Stop) (old new : SenderView) : Type 0 where
  pub keeps : KeepsSender old new
  pub ends : StepEndsBy result new

-- ---- kinds of steps

-- A step that sends the flight, or makes a command or a poll: no need point comes, and the same is known of the registers. Where it answers,
-- the flight is empty.
pub record Exchanges {T : Type 0} (result : Result T Stop) (old new : SenderView) : Type 0 where
  pub step : SenderSteps result old new
  pub asks : asks_of new.log ≡ asks_of old.log
  pub managed : new.managed ≡ old.managed
  pub empty : OnOk result (new.accesses ≡ [])

-- A step that issues accesses: no need point comes, and this is known of the registers. Where it answers, entries were issued and results
-- came, and nothing else changed in what is kept of the calls.
pub record Further {T : Type 0} (result : Result T Stop) (known : Kept) (old new : SenderView) : Type 0 where
  pub step : SenderSteps result old new
  pub asks : asks_of new.log ≡ asks_of old.log
  pub so : OnOk result (IsFurther old.log new.log)
  pub managed : new.managed ≡ known

-- A step that issues parts of a unit: where it answers, at most so many entries were issued, and no call more is issued whole. The last need
-- point is past the known results only where it was.
pub record IssuesFew {T : Type 0} (result : Result T Stop) (count : ℕ) (old new : SenderView) : Type 0 where
  pub step : SenderSteps result old new
  pub entries : OnOk result (length new.log.entries ≤ length old.log.entries + count)
  pub whole : OnOk result (new.log.whole ≡ old.log.whole)
  pub room : OnOk result (new.log.room ≡ old.log.room)
  pub fenced : OnOk result (new.log.known < new.log.fence → old.log.known < old.log.fence)

-- A step that makes parts of a unit alone: no need point comes. Where it answers, at most so many entries were issued, all of them came, and
-- the flight is empty.
pub record Tries {T : Type 0} (result : Result T Stop) (count : ℕ) (old new : SenderView) : Type 0 where
  pub step : SenderSteps result old new
  pub asks : asks_of new.log ≡ asks_of old.log
  pub further : OnOk result (IsFurther old.log new.log)
  pub entries : OnOk result (length new.log.entries ≤ length old.log.entries + count)
  pub later : OnOk result (old.log.confirmed ≤ new.log.confirmed)
  pub came : OnOk result (new.log.came ≡ new.log.whole)
  pub empty : OnOk result (new.accesses ≡ [])

-- Where the step answers, the last call is issued whole, and there is room for a settling after it. The last need point is past the known
-- results only where it was.
pub record AsksWhole {T : Type 0} (result : Result T Stop) (old new : SenderView) : Type 0 where
  pub whole : OnOk result (new.log.whole ≡ length new.log.calls)
  pub settles : OnOk result (CanSettle new.log new.managed)
  pub fenced : OnOk result (new.log.known < new.log.fence → old.log.known < old.log.fence)
