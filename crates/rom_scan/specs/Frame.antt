-- The frame of a part of a scan: what it gives in the worlds that are left, how many units it asks, and how it ends.
use Rattle.std.specs.Prelude.{◌≡◌, ℕ, ◌+◌, ◌≤◌, List, length, Option, None, Result, IfOk}
use Rattle.probe_core.specs.Bench.{BenchState}
use Rattle.target_calls.specs.World.{World, stop}
use Rattle.target_calls.specs.declared.calls.Ask.{Ask}
use Rattle.access_calls.specs.Asking.{MayAsk}
use Rattle.access_calls.specs.Keeps.{KeepsAccess}
use Rattle.access_calls.specs.Left.{IsLeft}
use Rattle.access_calls.specs.Reported.{AccessView, world_from}
use Rattle.rom_scan.specs.Arrivals.{ScanEndIs, ScanHasSinkCause}
use Rattle.rom_scan.specs.Written.{WritesComponents}
use Rattle.rom_scan.specs.declared.scan_end.ScanEnd.{ScanEnd}

-- What a part without a sink gives: in each world that is left, if the calls before do not stop in it, this is so of the lines before the
-- end, of the calls that were asked before and after, and of what was written, which stays.
abbrev pub GivesAsking : {S : Type 0} → (S → BenchState → Type 0) → (S → AccessView) → S → S →
    (World → ℕ → List Ask → List Ask → Option (List ℕ) → Option (List ℕ) → Type 0) → Type 0
GivesAsking begun reported old new Meets =
    (m : BenchState) (answered : Option ℕ) (written : Option (List ℕ)) → begun old m → IsLeft (reported new) answered
    → stop (world_from m answered) (reported old).asks.calls ≡ None
    → Meets (world_from m answered) (reported new).lines (reported old).asks.calls (reported new).asks.calls written written

-- What a part with a sink gives: the same, of what was written before and after.
abbrev pub GivesWriting : {S K : Type 0} → (S → BenchState → Type 0) → (S → AccessView) → (K → Option (List ℕ)) → S → S → K → K →
    (World → ℕ → List Ask → List Ask → Option (List ℕ) → Option (List ℕ) → Type 0) → Type 0
GivesWriting begun reported written old new sink_old sink_new Meets =
    (m : BenchState) (answered : Option ℕ) → begun old m → IsLeft (reported new) answered
    → stop (world_from m answered) (reported old).asks.calls ≡ None
    → Meets (world_from m answered) (reported new).lines (reported old).asks.calls (reported new).asks.calls (written sink_old) (written sink_new)

-- `Ok` has the number of units that were asked, at most so many.
pub record CountsUnits (most : ℕ) (result : Result ℕ ScanEnd) (old new : List Ask) : Type 0 where
  pub asked : IfOk result (λ n. length new ≡ length old + n)
  pub few : IfOk result (λ n. n ≤ most)

-- How a part with a sink ends: the access has the end that is answered, and else none; what is written is lines of components, each whole,
-- except perhaps where the sink failed; its count of faults rose where the answer says that it failed, and else it is the same; and what
-- each call of an access keeps is kept.
pub record EndsScan {S K : Type 0} (begun : S → BenchState → Type 0) (reported : S → AccessView) (identity : S → ℕ)
    (written : K → Option (List ℕ)) (faults : K → ℕ) (result : Result ℕ ScanEnd) (old new : S) (sink_old sink_new : K) : Type 0 where
  pub end : ScanEndIs result (reported new).end
  pub lines : WritesComponents result (written sink_old) (written sink_new)
  pub cause : ScanHasSinkCause result (faults sink_old) (faults sink_new)
  pub keeps : KeepsAccess begun reported identity old new

-- How a part with a sink ends that counts its units: at most so many were asked, and `Ok` has their number.
pub record EndsCounting {S K : Type 0} (most : ℕ) (begun : S → BenchState → Type 0) (reported : S → AccessView) (identity : S → ℕ)
    (written : K → Option (List ℕ)) (faults : K → ℕ) (result : Result ℕ ScanEnd) (old new : S) (sink_old sink_new : K) : Type 0 where
  pub counts : CountsUnits most result (reported old).asks.calls (reported new).asks.calls
  pub ends : EndsScan begun reported identity written faults result old new sink_old sink_new

-- A scan may begin: so many units were counted before, at most 100, and its first call may be asked.
pub record MayScan (units : ℕ) (a : AccessView) : Type 0 where
  pub room : units ≤ 100
  pub may : MayAsk 1000000 a
