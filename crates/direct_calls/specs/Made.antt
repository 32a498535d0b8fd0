-- How the code of a call at once is the call.
use Rattle.std.specs.Prelude.{◌≡◌, ℕ, Bool, true, false, List, Result, Ok, Err, if◌then◌else◌, ⊤}
use Rattle.dap_base.specs.declared.text.OutOfMemory.{OutOfMemory}
use Rattle.target_machine.specs.Plain.{CallDone, CallEnd, Answered, Skipped, Faulted, Small, from_lanes, given_number, is_fault, needs_cfg}
use Rattle.target_machine.specs.declared.unit.Call.{Call}
use Rattle.target_machine.specs.declared.unit.Call.TheVariants.{Access}
use Rattle.target_machine.specs.declared.unit.Unit.TheVariants as unit
use Rattle.target_machine.specs.declared.access.Outcome.{Outcome}
use Rattle.target_machine.specs.State.{TargetState}
use Rattle.direct_calls.specs.declared.made.Made.{Made}
use Rattle.direct_calls.specs.declared.made.Made.TheVariants as made

-- the end of a call
abbrev pub call_end_of : Made → CallEnd
call_end_of (made.Answered n) = Answered n
call_end_of made.Skipped = Skipped
call_end_of made.Faulted = Faulted
call_end_of made.Small = Small

-- the call ends so, and leaves this target and these access ports with large addresses
pub record IsDone (d : CallDone) (end : CallEnd) (next : TargetState) (large : List ℕ) : Type 0 where
  pub end_is : d.end ≡ end
  pub next_is : d.next ≡ next
  pub large_is : d.large ≡ large

-- the call is a memory access over 0xFFFFFFFF, through an access port that is not in the list: its CFG has to be read
abbrev pub takes_memory : List ℕ → Call → Bool
takes_memory large (Access (unit.Memory size read ap address value)) = needs_cfg large ap address
takes_memory large _ = false

-- the call was made; nothing is said where memory was refused
abbrev pub MadeAs : CallDone → Result Made OutOfMemory → TargetState → List ℕ → Type 0
MadeAs d (Ok m) next large = IsDone d (call_end_of m) next large
MadeAs d (Err e) next large = ⊤

-- Memory was refused where it has to be taken, and nothing was made.
pub record IsRefused (takes : Bool) (old new : TargetState) (listed large : List ℕ) : Type 0 where
  pub taking : takes ≡ true
  pub same_target : new ≡ old
  pub same_large : large ≡ listed

-- how an access that is no memory access ends by what its last register access answered
abbrev pub end_by : Outcome → CallEnd
end_by o = if is_fault o then Faulted else Answered (given_number o)

-- how a memory access ends by what DRW answered: a read with the value in its lanes
abbrev pub memory_end_by : ℕ → Bool → ℕ → Outcome → CallEnd
memory_end_by size read address o =
    if is_fault o then Faulted else Answered (if read then from_lanes size address (given_number o) else given_number o)
