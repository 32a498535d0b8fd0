-- What follows a sequence, as a sequel.
use Rattle.std.specs.Prelude.{◌≡◌, ◌<◌, ℕ, map, Bool, true, false, Option, Some, None, length, ⊤}
use Rattle.target_machine.specs.declared.unit.Settings.{Settings}
use Rattle.function_table.specs.Variables.{names_of_predefined}
use Rattle.access_calls.specs.declared.ended.Ending.{Ending}
use Rattle.access_calls.specs.declared.ended.Ending.TheVariants as e
use Rattle.hex_image.specs.Image.{Bytes}
use Rattle.image_load.specs.LoadSequel.{load_sequel}
use Rattle.image_load.specs.Pieces.{pieces}
use Rattle.rom_scan.specs.Walk as walk
use Rattle.rom_scan.specs.Walk.{Walked, scanned_port}
use Rattle.sequels.specs.Sequel.{Sequel, Ends, followed_by}
use Rattle.sequels.specs.declared.close.Close.{Close}
use Rattle.sequels.specs.declared.close.Close.TheVariants as close
use Rattle.sequence_rules.specs.Runs.{Program}
use Rattle.followed_runs.specs.Followed.{Task}
use Rattle.task_runs.specs.declared.followed.Followed.{Followed}
use Rattle.task_runs.specs.declared.followed.Followed.TheVariants.{Nothing, Load, Scan}

-- the run is done
abbrev pub is_done : Ending → Bool
is_done e.Done = true
is_done other = false

-- how a scan closes
abbrev pub scan_close : Walked → Close
scan_close (walk.Listed listed) = close.Scanned
scan_close walk.Full = close.Full

-- A scan by an access port that lists at most 1,024 components, and then how it closes.
abbrev pub scanning : ℕ → Sequel Close
scanning ap = followed_by (scanned_port 1024 ap) (λ walked. Ends (scan_close walked))

-- What follows, as a sequel.
abbrev pub sequel_of : Followed → Option (Sequel Close)
sequel_of Nothing = None
sequel_of (Load ap image) = Some (load_sequel ap image.now)
sequel_of (Scan ap) = Some (scanning ap)

-- something follows a run that ended so
abbrev pub goes_on : Followed → Ending → Bool
goes_on Nothing ending = false
goes_on (Load ap image) ending = is_done ending
goes_on (Scan ap) ending = is_done ending

-- A program with what follows it.
abbrev pub task_of : Program → Followed → Task
task_of p followed = record { program = p; sequel = sequel_of followed }

-- ---- how each closes

-- an image was loaded, with these numbers of bytes and writes, or it differs
abbrev pub ClosesLoad : Bytes → Close → Type 0
ClosesLoad image (close.Loaded bytes writes) = (bytes ≡ length image) × (writes ≡ length (pieces image))
ClosesLoad image (close.Differs address wanted found) = ⊤
ClosesLoad image other = ⊥

-- a ROM table was scanned, or it is too large
abbrev pub ClosesScan : Close → Type 0
ClosesScan close.Scanned = ⊤
ClosesScan close.Full = ⊤
ClosesScan other = ⊥

-- What follows a run that is done closes as it may: nothing by nothing, a load as loaded or differing, a scan as scanned or full.
abbrev pub ClosesAs : Followed → Close → Type 0
ClosesAs Nothing end = end ≡ close.Nothing
ClosesAs (Load ap image) end = ClosesLoad image.now end
ClosesAs (Scan ap) end = ClosesScan end

-- A task may run with these settings: a turn takes at least a microsecond, and there is a starting value for each predefined variable, in their order.
pub record AreTaskSettings (settings : Settings) : Type 0 where
  pub turns : 0 < settings.turn_us
  pub names : map (λ variable. variable.name) settings.start ≡ names_of_predefined
