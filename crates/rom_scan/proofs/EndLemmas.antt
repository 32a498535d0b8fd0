-- How parts of a scan end in a row.
use Rattle.std.proofs.Common.{◌≡◌, ℕ, List, Option, None, Result, Ok, Err, refl, subst}
use Rattle.probe_core.specs.Bench.{BenchState}
use Rattle.access_calls.specs.Asking.{EndsAsking}
use Rattle.access_calls.specs.Reported.{AccessView}
use Rattle.access_calls.specs.declared.stop.Stop.{Stop}
use Rattle.access_calls.proofs.KeepLemmas.{keeps_on, keeps_same}
use Rattle.rom_scan.specs.Frame.{EndsScan}
use Rattle.rom_scan.specs.declared.scan_end.ScanEnd.{ScanEnd}
use Rattle.rom_scan.specs.declared.scan_end.ScanEnd.TheVariants as e
use Rattle.rom_scan.proofs.ScanLemmas.{caused_on}
use Rattle.rom_scan.proofs.WrittenLemmas.{none_written, written_on}

module _ {S K : Type 0} (begun : S → BenchState → Type 0) (reported : S → AccessView) (identity : S → ℕ) (written : K → Option (List ℕ)) (faults : K → ℕ) where
  -- nothing was asked or written, and there are too many components
  pub ends_full : (a : S) (sink : K) → (reported a).end ≡ None → EndsScan begun reported identity written faults (Err e.Full) a a sink sink
  ends_full a sink none = record { end = none; lines = none_written (written sink); cause = refl; keeps = keeps_same begun reported identity a }

  -- the access stopped, and nothing was written
  pub ends_stop : {T : Type 0} (s : Stop) (a b : S) (sink : K) → EndsAsking {T = T} begun reported identity (Err s) a b
      → EndsScan begun reported identity written faults (Err (e.Stop s)) a b sink sink
  ends_stop s a b sink ends = record { end = ends.end; lines = none_written (written sink); cause = refl; keeps = ends.keeps }

  -- units were asked, and nothing was written
  pub ends_asked : {T : Type 0} (x : T) (n : ℕ) (a b : S) (sink : K) → EndsAsking begun reported identity (Ok x) a b
      → EndsScan begun reported identity written faults (Ok n) a b sink sink
  ends_asked x n a b sink ends = record { end = ends.end; lines = none_written (written sink); cause = refl; keeps = ends.keeps }

  -- the number that is answered is another one
  pub ends_as : (n k : ℕ) (a b : S) (sink now : K) → EndsScan begun reported identity written faults (Ok n) a b sink now
      → EndsScan begun reported identity written faults (Ok k) a b sink now
  ends_as n k a b sink now ends = record { end = ends.end; lines = ends.lines; cause = ends.cause; keeps = ends.keeps }

  -- one part, and then another
  pub ends_on : (n : ℕ) (r : Result ℕ ScanEnd) (a b c : S) (sink mid now : K) → EndsScan begun reported identity written faults (Ok n) a b sink mid
      → EndsScan begun reported identity written faults r b c mid now → EndsScan begun reported identity written faults r a c sink now
  ends_on n r a b c sink mid now first second = record {
    end = second.end;
    lines = written_on r _ _ _ first.lines second.lines;
    cause = caused_on r _ _ _ first.cause second.cause;
    keeps = keeps_on begun reported identity a b c first.keeps second.keeps;
  }

  -- the same end under another name
  pub ends_at : (x y : ScanEnd) (a b : S) (sink now : K) → x ≡ y → EndsScan begun reported identity written faults (Err x) a b sink now
      → EndsScan begun reported identity written faults (Err y) a b sink now
  ends_at x y a b sink now same ends = subst (λ (t : ScanEnd). EndsScan begun reported identity written faults (Err t) a b sink now) same ends
