-- What a load asked and answered, against what its sequel comes to.
use Rattle.std.specs.Prelude.{◌≡◌, ◌⊎◌, ℕ, ◌+◌, ◌≤◌, List, [], ◌++◌, length, take, Option, Result, Ok, Err, IfOk}
use Rattle.hex_image.specs.Image.{Bytes}
use Rattle.target_calls.specs.World.{World, world_after}
use Rattle.target_calls.specs.declared.calls.Ask.{Ask}
use Rattle.access_calls.specs.declared.stop.Stop.TheVariants.{Cut}
use Rattle.access_calls.specs.declared.stop.StopCause.{StopCause}
use Rattle.access_calls.specs.declared.stop.StopCause.TheVariants.{Faulted, NoAnswer}
use Rattle.sequels.specs.Meeting.{CutOff, Gave}
use Rattle.sequels.specs.Sequel.{comes}
use Rattle.sequels.specs.declared.close.Close.{Close}
use Rattle.sequels.specs.declared.close.Close.TheVariants as close
use Rattle.image_load.specs.Loading.{AsksLoad, ReadsBack, StopsLoad}
use Rattle.image_load.specs.LoadSequel.{load_sequel}
use Rattle.image_load.specs.Pieces.{load_calls, pieces}
use Rattle.image_load.specs.declared.ends.LoadEnd.{LoadEnd}
use Rattle.image_load.specs.declared.ends.LoadEnd.TheVariants as e
use Rattle.image_load.specs.declared.ends.Loaded.{Loaded}

-- A load answered this, by its clauses: what was asked, what was read back, where it stopped, and how many bytes and writes there were.
pub record IsLoad (w : World) (ap : ℕ) (image : Bytes) (result : Result Loaded LoadEnd) (old new : List Ask) (lines : ℕ) : Type 0 where
  pub asks : AsksLoad result (load_calls ap (pieces image)) old new
  pub loads : ReadsBack w old ap (pieces image) result
  pub stops : StopsLoad w result (load_calls ap (pieces image)) old new lines
  pub counts : IfOk result (λ l. (l.bytes ≡ length image) × (l.writes ≡ length (pieces image)))

-- The sequel comes to this end, with all calls of the load after the old ones and no line.
abbrev pub GivesAll : World → ℕ → Bytes → List Ask → Close → Type 0
GivesAll w ap image old end = (written : Option (List ℕ)) → Gave w (load_sequel ap image) old (old ++ load_calls ap (pieces image)) written written end

-- The calls of the sequel stop at the one after so many calls, the old ones among them.
pub record LoadStopsAt (w : World) (ap : ℕ) (image : Bytes) (old : List Ask) (lines : ℕ) : Type 0 where
  pub cut : (written : Option (List ℕ)) → CutOff w (load_sequel ap image) old (take (lines + 1) (old ++ load_calls ap (pieces image))) written written
  pub within : lines + 1 ≤ length (old ++ load_calls ap (pieces image))

-- The sequel comes to its end with so many calls, the old ones among them.
pub record EndsAfter (w : World) (ap : ℕ) (image : Bytes) (old : List Ask) (lines : ℕ) : Type 0 where
  pub end : Close
  pub gives : GivesAll w ap image old end
  pub count : lines ≡ length (old ++ load_calls ap (pieces image))

-- Where a load was cut, the sequel stops at the call after those whose lines come before the cut. Only a retry can end after all of them.
abbrev pub MeetsCut : StopCause → World → ℕ → Bytes → List Ask → ℕ → Type 0
MeetsCut Faulted w ap image old lines = LoadStopsAt w ap image old lines
MeetsCut NoAnswer w ap image old lines = LoadStopsAt w ap image old lines ⊎ EndsAfter w ap image old lines

-- The calls of the sequel come first among those of the load, and it writes nothing.
pub record IsFrontOf (w : World) (ap : ℕ) (image : Bytes) (old : List Ask) : Type 0 where
  pub rest : List Ask
  pub calls : load_calls ap (pieces image) ≡ (comes (world_after w old) (load_sequel ap image)).calls ++ rest
  pub written : (comes (world_after w old) (load_sequel ap image)).written ≡ []

-- What a load answered is what its sequel comes to, after the old calls.
abbrev pub MeetsSequel : World → ℕ → Bytes → Result Loaded LoadEnd → List Ask → ℕ → Type 0
MeetsSequel w ap image (Ok l) old lines = GivesAll w ap image old (close.Loaded l.bytes l.writes)
MeetsSequel w ap image (Err (e.Differs address wanted found)) old lines = GivesAll w ap image old (close.Differs address wanted found)
MeetsSequel w ap image (Err (e.Stop (Cut r))) old lines = MeetsCut r.cause w ap image old lines
MeetsSequel w ap image other old lines = IsFrontOf w ap image old
