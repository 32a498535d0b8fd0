-- Copying a word: it is read, written elsewhere, and then a line says so.
use Rattle.std.specs.Prelude.{◌≡◌, ◌⊎◌, ⊤, ℕ, ◌+◌, true, false, if◌then◌else◌, List, [], ◌∷◌, Option, Some, None}
use Rattle.std.specs.Io.KnownBytes.{Appends}
use Rattle.dap_base.specs.Causes.{Rose}
use Rattle.target_machine.specs.State.{Agree}
use Rattle.target_machine.specs.declared.unit.Unit.{Unit as AccessUnit}
use Rattle.target_machine.specs.declared.unit.Unit.TheVariants as unit
use Rattle.probe_core.specs.Probe.{target_of}
use Rattle.target_calls.specs.Asks.{unit_ask}
use Rattle.target_calls.specs.World.{World, done_now, end_result, next_world, stops_here}
use Rattle.target_calls.specs.declared.calls.Ask.{Ask}
use Rattle.access_calls.specs.Answers.{IsEnd}
use Rattle.access_calls.specs.Reported.{AccessView}
use Rattle.access_calls.specs.Standing.{WhereObservable}
use Rattle.access_calls.specs.declared.stop.Stop.{Stop}
use Rattle.access_calls.specs.declared.stop.Stop.TheVariants.{Cut}
use Rattle.access_calls.specs.declared.users.copy.CopyEnd.{CopyEnd}
use Rattle.access_calls.specs.declared.users.copy.CopyEnd.TheVariants.{Done, Stopped, WriteFault}

-- a read of the word at an address
abbrev pub read_word : ℕ → AccessUnit
read_word address = unit.Memory 4 true 0 address 0

-- a write of a word to an address
abbrev pub write_word : ℕ → ℕ → AccessUnit
write_word address value = unit.Memory 4 false 0 address value

-- the line "copied"
abbrev pub line : List ℕ
line = 0x63 ∷ 0x6F ∷ 0x70 ∷ 0x69 ∷ 0x65 ∷ 0x64 ∷ 0x0A ∷ []

-- The number of the call at which the copy stops, what it writes, and the world that it leaves.
pub record Copied : Type 0 where
  pub stopped : Option ℕ
  pub written : List ℕ
  pub world : World

-- the write, and then the line
abbrev pub copied_by : World → Ask → Copied
copied_by w ask =
    if stops_here w ask then record { stopped = Some 2; written = []; world = w }
    else record { stopped = None; written = line; world = next_world w ask }

-- The copy in a world: the read, and then the write of what it gave.
abbrev pub copy_result : World → ℕ → ℕ → Copied
copy_result w from to =
    let read = unit_ask (read_word from) false in
    if stops_here w read then record { stopped = Some 1; written = []; world = w }
    else copied_by (next_world w read) (unit_ask (write_word to (end_result (done_now w read).end)) false)

-- it came to its end, and left the target as it is meant
pub record CopyIsDone (a : AccessView) (c : Copied) (old new : Option (List ℕ)) : Type 0 where
  pub whole : c.stopped ≡ None
  pub written : Appends old new c.written
  pub target : WhereObservable a.state (λ m. Agree (target_of m.probe) c.world.target)

-- It stopped at the call after those that have their lines, or, with both calls made, where a retry ended in the settling. It wrote what comes
-- before that.
pub record CopyIsStopped (a : AccessView) (c : Copied) (old new : Option (List ℕ)) : Type 0 where
  pub place : (c.stopped ≡ Some (a.lines + 1)) ⊎ ((c.stopped ≡ None) × (a.lines ≡ 2))
  pub written : Appends old new c.written

-- the end of a copy
abbrev pub IsCopyEnd : CopyEnd → AccessView → Copied → Option (List ℕ) → Option (List ℕ) → Type 0
IsCopyEnd Done a c old new = CopyIsDone a c old new
IsCopyEnd (Stopped (Cut r)) a c old new = CopyIsStopped a c old new
IsCopyEnd WriteFault a c old new = c.stopped ≡ None
IsCopyEnd other a c old new = ⊤

-- the end of the access, by the end of the copy: the one that is answered, or none
abbrev pub AccessEndsAs : CopyEnd → Option Stop → Type 0
AccessEndsAs Done end = end ≡ None
AccessEndsAs (Stopped s) end = IsEnd end s
AccessEndsAs WriteFault end = end ≡ None

-- the sink failed at `WriteFault`, and at no other end
abbrev pub HasSinkCause : CopyEnd → ℕ → ℕ → Type 0
HasSinkCause Done before now = now ≡ before
HasSinkCause (Stopped s) before now = now ≡ before
HasSinkCause WriteFault before now = Rose before now
