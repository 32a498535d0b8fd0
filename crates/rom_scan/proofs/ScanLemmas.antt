-- A whole scan.
use Rattle.std.proofs.Common.{◌≡◌, ◌∙◌, inl, inr, ℕ, ◌+◌, Bool, true, false, cond, List, [], length, Option, None, Some, Result, Ok, Err, refl, sym, ap, subst}
use Rattle.std.specs.List.{All}
use Rattle.std.specs.Prelude.{is_some}
use Rattle.std.proofs.lemmas.List.Elements.{All-nil}
use Rattle.target_calls.specs.Asks.{settled_last}
use Rattle.target_calls.specs.World.{World, stop}
use Rattle.target_calls.specs.declared.calls.Ask.{Ask}
use Rattle.target_calls.proofs.MarkLemmas.{length_marked}
use Rattle.access_calls.specs.Answers.{AtCut, StopsOrSettles, StopsSettling, calls_finished}
use Rattle.access_calls.specs.Reported.{AccessView}
use Rattle.access_calls.specs.declared.stop.Stop.{Stop}
use Rattle.access_calls.specs.declared.stop.Stop.TheVariants.{Cut, BenchFault, ReplyBad, OutOfMemory}
use Rattle.access_calls.specs.declared.stop.StopCause.{StopCause}
use Rattle.access_calls.specs.declared.stop.StopCause.TheVariants.{Faulted, NoAnswer}
use Rattle.sequels.specs.Meeting.{Gave, Reaches}
use Rattle.sequels.specs.Sequel.{Sequel, Ends, asks}
use Rattle.sequels.proofs.MeetingLemmas.{gave_by, left_on, reaches_by, reaches_on, reaches_to, whole_after}
use Rattle.rom_scan.specs.Arrivals.{IsOpenTable, ScanEndIs, ScanHasSinkCause, Walks, reads_left}
use Rattle.rom_scan.specs.Components.{base_ask, is_no_base, page}
use Rattle.rom_scan.specs.Meets.{Finished, StopsIn, StopsInFinish}
use Rattle.rom_scan.specs.Scans.{ScanComesTo}
use Rattle.rom_scan.specs.Tables.{unwound, walk_from_component}
use Rattle.rom_scan.specs.Walk.{Walked, Listed, Full, components_below, component, scanned_port}
use Rattle.rom_scan.specs.declared.component.Component.{Component}
use Rattle.rom_scan.specs.declared.scan_end.ScanEnd.{ScanEnd}
use Rattle.rom_scan.specs.declared.scan_end.ScanEnd.TheVariants as e
use Rattle.rom_scan.specs.declared.tables.Table.{Table}
use Rattle.rom_scan.proofs.StepLemmas.{reaches_end}
use Rattle.rom_scan.proofs.StopLemmas.{stops_by, stops_on}
use Rattle.rom_scan.proofs.WalkLemmas.{root}

-- a walk that has no good end
pub lists_end : (w : World) (lines n : ℕ) (s : Sequel Walked) (end : ScanEnd) (opening : List Table) (more : List Component) (old new : List Ask) (before now : Option (List ℕ)) → Walks w lines n s (Err end) opening more old new before now
    → ScanComesTo w lines s (Err end) old new before now
lists_end w lines n s e.Full opening more old new before now h = h
lists_end w lines n s e.WriteFault opening more old new before now h = h
lists_end w lines n s (e.Stop st) opening more old new before now h = h

-- a walk after which no table is open
pub lists_done : (w : World) (lines n k : ℕ) (s : Sequel Walked) (opening : List Table) (more : List Component) (old new : List Ask) (before now : Option (List ℕ)) → Reaches w s old new before now (unwound 1024 n opening more) → opening ≡ []
    → ScanComesTo w lines s (Ok k) old new before now
lists_done w lines n k s opening more old new before now r none =
    (more, gave_by w s (Listed more) old new before now (reaches_to w s (unwound 1024 n opening more) (Ends (Listed more)) old new before now (ap (λ (o : List Table). unwound 1024 n o more) none) r))

-- the same sequel under another name
pub lists_as : (w : World) (lines : ℕ) (s q : Sequel Walked) (r : Result ℕ ScanEnd) (old new : List Ask) (before now : Option (List ℕ)) → s ≡ q → ScanComesTo w lines q r old new before now → ScanComesTo w lines s r old new before now
lists_as w lines s q r old new before now same h = subst (λ (x : Sequel Walked). ScanComesTo w lines x r old new before now) (sym same) h

-- the same end under another name
pub lists_at : (w : World) (lines : ℕ) (s : Sequel Walked) (x y : ScanEnd) (old new : List Ask) (before now : Option (List ℕ)) → x ≡ y → ScanComesTo w lines s (Err x) old new before now → ScanComesTo w lines s (Err y) old new before now
lists_at w lines s x y old new before now same h = subst (λ (r : ScanEnd). ScanComesTo w lines s (Err r) old new before now) same h

pub end_at : (x y : ScanEnd) (end : Option Stop) → x ≡ y → ScanEndIs {A = ℕ} (Err x) end → ScanEndIs {A = ℕ} (Err y) end
end_at x y end same h = subst (λ (r : ScanEnd). ScanEndIs {A = ℕ} (Err r) end) same h

-- the root is reached with no table open
pub root_at : (n address : ℕ) (tables : List Table) (listed : List Component) → tables ≡ [] → listed ≡ [] → component 1024 n 7 address [] ≡ walk_from_component 1024 n tables address listed
root_at n address tables listed none empty =
    root 1024 n address ∙ ap (λ (t : List Table). walk_from_component 1024 n t address []) (sym none) ∙ ap (λ (l : List Component). walk_from_component 1024 n tables address l) (sym empty)

pub left_start : (tables : List Table) (listed : List Component) → tables ≡ [] → listed ≡ [] → reads_left tables listed ≡ 993280
left_start tables listed none empty = ap (λ (t : List Table). reads_left t listed) none ∙ ap (λ (l : List Component). reads_left [] l) empty

pub none_open : (tables : List Table) → tables ≡ [] → All IsOpenTable tables
none_open tables none = subst (λ (t : List Table). All IsOpenTable t) (sym none) (All-nil IsOpenTable)

-- the end of the sink's faults
pub caused_on : (r : Result ℕ ScanEnd) (before mid now : ℕ) → mid ≡ before → ScanHasSinkCause r mid now → ScanHasSinkCause r before now
caused_on r before mid now same h = subst (λ (k : ℕ). ScanHasSinkCause r k now) same h

-- what comes of the rest
pub lists_on : (w : World) (lines : ℕ) (s rest : Sequel Walked) (r : Result ℕ ScanEnd) (old mid new : List Ask) (b m now : Option (List ℕ)) → stop w old ≡ None → Reaches w s old mid b m rest → ScanComesTo w lines rest r mid new m now
    → ScanComesTo w lines s r old new b now
lists_on w lines s rest (Ok n) old mid new b m now whole q h =
    (h.0, gave_by w s (Listed h.0) old new b now (reaches_on w s rest (Ends (Listed h.0)) old mid new b m now whole q (reaches_end w rest (Listed h.0) mid new m now h.1)))
lists_on w lines s rest (Err e.Full) old mid new b m now whole q h = gave_by w s Full old new b now (reaches_on w s rest (Ends Full) old mid new b m now whole q (reaches_end w rest Full mid new m now h))
lists_on w lines s rest (Err e.WriteFault) old mid new b m now whole q h = left_on w s rest old mid new b m now whole q h
lists_on w lines s rest (Err (e.Stop st)) old mid new b m now whole q h = stops_on w lines s rest old mid new b m now st whole q h

-- ---- the base

module _ (w : World) (n : ℕ) (old : List Ask) (before : Option (List ℕ)) (u : Ask) (is : u ≡ base_ask n) where
  abbrev all : Sequel Walked
  all = scanned_port 1024 n

  pub base_stops : (lines : ℕ) (new : List Ask) (st : Stop) → StopsIn w lines (asks u) old new before before st → StopsIn w lines all old new before before st
  base_stops lines new st h =
      stops_by w lines (asks (base_ask n)) (λ k. components_below 1024 n k) old new before before st (subst (λ (a : Ask). StopsIn w lines (asks a) old new before before st) is h)

  module _ (new : List Ask) (base : ℕ) (g : Gave w (asks u) old new before before base) where
    reads : Reaches w all old new before before (components_below 1024 n base)
    reads = reaches_by w (asks (base_ask n)) (λ k. components_below 1024 n k) base old new before before (subst (λ (a : Ask). Gave w (asks a) old new before before base) is g)

    by_test : (b : Bool) → is_no_base base ≡ b → components_below 1024 n base ≡ cond b (Ends (Listed [])) (component 1024 n 7 (page base) [])
    by_test b e = ap (λ (x : Bool). cond x (Ends (Listed [])) (component 1024 n 7 (page base) [])) e

    pub base_none : (lines k : ℕ) → is_no_base base ≡ true → ScanComesTo w lines all (Ok k) old new before before
    base_none lines k e = ([], gave_by w all (Listed []) old new before before (reaches_to w all (components_below 1024 n base) (Ends (Listed [])) old new before before (by_test true e) reads))

    pub base_some : (address : ℕ) → is_no_base base ≡ false → address ≡ page base → Reaches w all old new before before (component 1024 n 7 address [])
    base_some address e at = reaches_to w all (components_below 1024 n base) (component 1024 n 7 address []) old new before before (by_test false e ∙ ap (λ (a : ℕ). component 1024 n 7 a []) (sym at)) reads

-- ---- the `finish`

-- it marks the last call
pub finish_marks : (a b : AccessView) → a.end ≡ None → b.asks.calls ≡ calls_finished a → b.asks.calls ≡ settled_last a.asks.calls
finish_marks a b none calls = calls ∙ ap (λ (end : Option Stop). cond (is_some end) a.asks.calls (settled_last a.asks.calls)) none

pub finish_count : (a b : AccessView) → a.end ≡ None → b.asks.calls ≡ calls_finished a → length b.asks.calls ≡ length a.asks.calls
finish_count a b none calls = ap (λ (l : List Ask). length l) (finish_marks a b none calls) ∙ length_marked a.asks.calls

module _ {X : Type 0} (w : World) (s : Sequel X) (old : List Ask) (before now : Option (List ℕ)) (x : X) (a b : AccessView) (none : a.end ≡ None) (calls : b.asks.calls ≡ calls_finished a) (g : Gave w s old a.asks.calls before now x) where
  pub finished : Finished w s old b.asks.calls before now x
  finished = record { asked = a.asks.calls; gave = g; marked = finish_marks a b none calls }

  -- at a cut a retry ended after all calls
  pub stops_finishing : (st : Stop) → stop w old ≡ None → StopsSettling w a.asks.calls b.lines st → StopsInFinish w b.lines s old b.asks.calls before now st
  stops_finishing st whole stops = record { x = x; finished = finished; cut = by_stop st stops.so }
    where
      no_stop : stop w a.asks.calls ≡ None
      no_stop = whole_after w s (Ends x) old a.asks.calls before now whole (reaches_end w s x old a.asks.calls before now g)

      never : {A : Type 0} → stop w a.asks.calls ≡ Some (b.lines + 1) → A
      never here = absurd (let bad : None ≡ Some (b.lines + 1) = sym no_stop ∙ here in cc)

      by_cause : (cause : StopCause) → StopsOrSettles cause w a.asks.calls b.lines → (cause ≡ NoAnswer) × (b.lines ≡ length b.asks.calls)
      by_cause Faulted h = never h
      by_cause NoAnswer (inl h) = never h
      by_cause NoAnswer (inr h) = (refl, h.1 ∙ sym (finish_count a b none calls))

      by_stop : (st : Stop) → AtCut st (λ r. StopsOrSettles r.cause w a.asks.calls b.lines) → AtCut st (λ r. (r.cause ≡ NoAnswer) × (b.lines ≡ length b.asks.calls))
      by_stop (Cut r) h = by_cause r.cause h
      by_stop (BenchFault issued confirmed) h = tt
      by_stop ReplyBad h = tt
      by_stop OutOfMemory h = tt
