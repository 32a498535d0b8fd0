-- An entry of the innermost table.
use Rattle.std.proofs.Common.{◌≡◌, ◌∙◌, ℕ, ◌+◌, ◌-◌, ◌*◌, ◌%◌, ◌==◌, ◌≤◌, Bool, true, false, cond, List, [], ◌∷◌, ◌++◌, append-nil, Option, None, Some, Result, Ok, Err, refl, sym, ap, subst, eq-eqb, ne_eqb, arith}
use Rattle.std.proofs.lemmas.List.Sums.{sum_by-cons}
use Rattle.target_calls.specs.World.{World, stop}
use Rattle.target_calls.specs.declared.calls.Ask.{Ask}
use Rattle.access_calls.specs.declared.stop.Stop.{Stop}
use Rattle.sequels.specs.Meeting.{Gave, Reaches}
use Rattle.sequels.specs.Sequel.{Sequel, Asks, Ends, Comes, asks}
use Rattle.sequels.proofs.MeetingLemmas.{gave_by, left_on, reaches_by, reaches_on, reaches_to}
use Rattle.rom_scan.specs.Arrivals.{Walks, reads_left}
use Rattle.rom_scan.specs.Components.{named_by, word_ask}
use Rattle.rom_scan.specs.Meets.{StopsIn}
use Rattle.rom_scan.specs.Tables.{next_entry, unwound, walk_from_component}
use Rattle.rom_scan.specs.Walk.{Walked, Full, is_listed}
use Rattle.rom_scan.specs.declared.component.Component.{Component}
use Rattle.rom_scan.specs.declared.tables.Table.{Table}
use Rattle.rom_scan.specs.declared.scan_end.ScanEnd.{ScanEnd}
use Rattle.rom_scan.specs.declared.scan_end.ScanEnd.TheVariants as e
use Rattle.rom_scan.proofs.StopLemmas.{stops_by, stops_on}
use Rattle.rom_scan.proofs.WalkLemmas.{by_entry}

-- what came to its end has nothing left
pub reaches_end : {X : Type 0} (w : World) (s : Sequel X) (x : X) (old new : List Ask) (b n : Option (List ℕ)) → Gave w s old new b n x → Reaches w s old new b n (Ends x)
reaches_end {X = X} w s x old new b n g = record {
  more = g.more;
  lines = g.lines;
  calls = g.calls;
  written = g.written;
  goes = record { whole_is = g.ends.is ∙ as_joined; goes = g.ends.goes };
}
  where
    came : List Ask → List ℕ → Comes X
    came calls lines = record { calls = calls; written = lines; end = Some x }

    as_joined : came g.more g.lines ≡ came (g.more ++ []) (g.lines ++ [])
    as_joined = rw (append-nil g.more, append-nil g.lines) refl

pub walks_on : (w : World) (lines n : ℕ) (s rest : Sequel Walked) (r : Result ℕ ScanEnd) (opening : List Table) (more : List Component) (old mid new : List Ask) (b m now : Option (List ℕ)) → stop w old ≡ None → Reaches w s old mid b m rest
    → Walks w lines n rest r opening more mid new m now → Walks w lines n s r opening more old new b now
walks_on w lines n s rest (Ok k) opening more old mid new b m now whole q h = reaches_on w s rest (unwound 1024 n opening more) old mid new b m now whole q h
walks_on w lines n s rest (Err e.Full) opening more old mid new b m now whole q h = gave_by w s Full old new b now (reaches_on w s rest (Ends Full) old mid new b m now whole q (reaches_end w rest Full mid new m now h))
walks_on w lines n s rest (Err e.WriteFault) opening more old mid new b m now whole q h = left_on w s rest old mid new b m now whole q h
walks_on w lines n s rest (Err (e.Stop st)) opening more old mid new b m now whole q h = stops_on w lines s rest old mid new b m now st whole q h

module _ (w : World) (n : ℕ) (t : Table) (tables : List Table) (listed : List Component) (old : List Ask) (before : Option (List ℕ)) (u : Ask) (some : 1 ≤ t.left) (is : u ≡ word_ask n (t.address + 4 * (960 - t.left))) where
  abbrev all : Sequel Walked
  all = unwound 1024 n (t ∷ tables) listed

  abbrev kept : List Table
  kept = record { address = t.address; left = t.left - 1 } ∷ tables

  abbrev on_entry : ℕ → Sequel Walked
  on_entry x = next_entry 1024 n tables t.address (t.left - 1) x listed

  asks_is : all ≡ Asks u on_entry
  asks_is =
      (let left : t.left ≡ t.left - 1 + 1 = omega (arith, some) in ap (λ (k : ℕ). unwound 1024 n (record { address = t.address; left = k } ∷ tables) listed) left)
      ∙ (by_entry 1024 n tables t.address (t.left - 1) listed).next
      ∙ (let place : 959 - (t.left - 1) ≡ 960 - t.left = omega (arith, some) in ap (λ (k : ℕ). Asks (word_ask n (t.address + 4 * k)) on_entry) place)
      ∙ ap (λ (a : Ask). Asks a on_entry) (sym is)

  pub step_stops : (lines : ℕ) (new : List Ask) (st : Stop) → StopsIn w lines (asks u) old new before before st → StopsIn w lines all old new before before st
  step_stops lines new st h = subst (λ (s : Sequel Walked). StopsIn w lines s old new before before st) (sym asks_is) (stops_by w lines (asks u) on_entry old new before before st h)

  module _ (new : List Ask) (x : ℕ) (g : Gave w (asks u) old new before before x) where
    reads : Reaches w all old new before before (on_entry x)
    reads = subst (λ (s : Sequel Walked). Reaches w s old new before before (on_entry x)) (sym asks_is) (reaches_by w (asks u) on_entry x old new before before g)

    by_tests : (a b d : Bool) → (x == 0) ≡ a → (x % 2 == 0) ≡ b → is_listed (named_by t.address x) listed ≡ d
        → on_entry x ≡ cond a (unwound 1024 n tables listed) (cond b (unwound 1024 n kept listed) (cond d (unwound 1024 n kept listed) (walk_from_component 1024 n kept (named_by t.address x) listed)))
    by_tests a b d p q r = rw (p, q, r) refl

    pub step_ends : (opening : List Table) → opening ≡ tables → x ≡ 0 → Reaches w all old new before before (unwound 1024 n opening listed)
    step_ends opening same none = reaches_to w all (on_entry x) (unwound 1024 n opening listed) old new before before
        (by_tests true (x % 2 == 0) (is_listed (named_by t.address x) listed) (eq-eqb x 0 none) refl refl ∙ ap (λ (o : List Table). unwound 1024 n o listed) (sym same)) reads

    pub step_passes : (opening : List Table) → opening ≡ kept → (x ≡ 0 → ⊥) → x % 2 ≡ 0 → Reaches w all old new before before (unwound 1024 n opening listed)
    step_passes opening same not_none even = reaches_to w all (on_entry x) (unwound 1024 n opening listed) old new before before
        (by_tests false true (is_listed (named_by t.address x) listed) (ne_eqb x 0 not_none) (eq-eqb (x % 2) 0 even) refl ∙ ap (λ (o : List Table). unwound 1024 n o listed) (sym same)) reads

    pub step_knows : (opening : List Table) → opening ≡ kept → (x ≡ 0 → ⊥) → (x % 2 ≡ 0 → ⊥) → is_listed (named_by t.address x) listed ≡ true → Reaches w all old new before before (unwound 1024 n opening listed)
    step_knows opening same not_none odd here = reaches_to w all (on_entry x) (unwound 1024 n opening listed) old new before before
        (by_tests false false true (ne_eqb x 0 not_none) (ne_eqb (x % 2) 0 odd) here ∙ ap (λ (o : List Table). unwound 1024 n o listed) (sym same)) reads

    pub step_visits : (opening : List Table) (address : ℕ) → opening ≡ kept → address ≡ named_by t.address x → (x ≡ 0 → ⊥) → (x % 2 ≡ 0 → ⊥) → is_listed (named_by t.address x) listed ≡ false → Reaches w all old new before before (walk_from_component 1024 n opening address listed)
    step_visits opening address same named not_none odd here = reaches_to w all (on_entry x) (walk_from_component 1024 n opening address listed) old new before before
        (by_tests false false false (ne_eqb x 0 not_none) (ne_eqb (x % 2) 0 odd) here ∙ ap (λ (o : List Table). walk_from_component 1024 n o (named_by t.address x) listed) (sym same) ∙ ap (λ (a : ℕ). walk_from_component 1024 n opening a listed) (sym named)) reads

-- ---- all tables

-- a table of which no entry is left
pub closed_table : (n : ℕ) (t : Table) (tables : List Table) (listed : List Component) → t.left ≡ 0 → unwound 1024 n (t ∷ tables) listed ≡ unwound 1024 n tables listed
closed_table n t tables listed none = ap (λ (k : ℕ). unwound 1024 n (record { address = t.address; left = k } ∷ tables) listed) none

pub left_tail : (t : Table) (tables : List Table) (listed : List Component) → reads_left tables listed ≤ reads_left (t ∷ tables) listed
left_tail t tables listed = (let all = sum_by-cons (λ (x : Table). x.left + 1) t tables in omega (arith, all))
