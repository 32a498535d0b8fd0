-- A component that is reached.
use Rattle.std.specs.List.{All}
use Rattle.std.specs.Prelude.{sum_by}
use Rattle.std.proofs.lemmas.List.{length-append}
use Rattle.std.proofs.lemmas.List.Elements.{All-cons}
use Rattle.std.proofs.lemmas.List.Sums.{sum_by-cons}
use Rattle.std.proofs.Common.{◌≡◌, ◌∙◌, ℕ, ◌+◌, ◌-◌, ◌*◌, ◌%◌, ◌<◌, ◌≤◌, ◌&&◌, nat_lt, Bool, true, false, cond, arith, List, [], ◌∷◌, ◌++◌, append-nil, length, take, drop, Option, None, refl, sym, ap, subst}
use Rattle.std.proofs.lemmas.List.{take-append-drop}
use Rattle.std.specs.Io.KnownBytes.{Appends}
use Rattle.dap_base.specs.Streams.{AppendsPrefix}
use Rattle.target_calls.specs.World.{World, stop}
use Rattle.target_calls.specs.declared.calls.Ask.{Ask}
use Rattle.access_calls.specs.declared.stop.Stop.{Stop}
use Rattle.access_calls.specs.declared.stop.Stop.TheVariants.{OutOfMemory}
use Rattle.sequels.specs.Meeting.{Gave, LeftOff, Reaches}
use Rattle.sequels.specs.Sequel.{Sequel, Ends, Writes, followed_by}
use Rattle.sequels.proofs.MeetingLemmas.{gave_by, left_line, left_on, reaches_by, reaches_line, reaches_on, reaches_same, reaches_to}
use Rattle.rom_scan.specs.Components.{component_at, component_line, is_table}
use Rattle.rom_scan.specs.Arrivals.{IsOpenTable, reads_left}
use Rattle.rom_scan.specs.Meets.{StopsIn}
use Rattle.rom_scan.specs.Tables.{tables_after, unwound, walk_from_component}
use Rattle.rom_scan.specs.Walk.{Walked, Full}
use Rattle.rom_scan.specs.declared.component.Component.{Component}
use Rattle.rom_scan.specs.declared.tables.Table.{Table}
use Rattle.rom_scan.proofs.StopLemmas.{stops_by}
use Rattle.rom_scan.proofs.WalkLemmas.{opens}

module _ (w : World) (n : ℕ) (tables : List Table) (address : ℕ) (listed : List Component) (old : List Ask) (before : Option (List ℕ)) where
  abbrev all : Sequel Walked
  all = walk_from_component 1024 n tables address listed

  abbrev lined : Component → Sequel Walked
  lined c = Writes (component_line c) (unwound 1024 n (tables_after tables c) (listed ++ c ∷ []))

  pub full_here : 1024 ≤ length listed → Gave w all old old before before Full
  full_here le = gave_by w all Full old old before before (reaches_to w all all (Ends Full) old old before before ((opens 1024 n tables address listed).full le) (reaches_same w all old before))

  module _ (deep : length tables ≤ 7) (room : length listed < 1024) where
    opened_is : all ≡ followed_by (component_at n address (1 + length tables)) lined
    opened_is = (opens 1024 n tables address listed).room deep room

    pub arrive_stops : (lines : ℕ) (new : List Ask) (e : Stop) → StopsIn w lines (component_at n address (1 + length tables)) old new before before e → StopsIn w lines all old new before before e
    arrive_stops lines new e h = subst (λ (s : Sequel Walked). StopsIn w lines s old new before before e) (sym opened_is) (stops_by w lines (component_at n address (1 + length tables)) lined old new before before e h)

    arrive_read : (new : List Ask) (c : Component) → Gave w (component_at n address (1 + length tables)) old new before before c → Reaches w all old new before before (lined c)
    arrive_read new c g = subst (λ (s : Sequel Walked). Reaches w s old new before before (lined c)) (sym opened_is) (reaches_by w (component_at n address (1 + length tables)) lined c old new before before g)

    pub arrive_done : (new : List Ask) (c : Component) (now : Option (List ℕ)) (opening : List Table) (more : List Component) → stop w old ≡ None → Gave w (component_at n address (1 + length tables)) old new before before c → Appends before now (component_line c)
        → opening ≡ tables_after tables c → more ≡ listed ++ c ∷ [] → Reaches w all old new before now (unwound 1024 n opening more)
    arrive_done new c now opening more whole g put opening_is more_is =
        reaches_to w all (unwound 1024 n (tables_after tables c) (listed ++ c ∷ [])) (unwound 1024 n opening more) old new before now
        (ap (λ (t : List Table). unwound 1024 n t (listed ++ c ∷ [])) (sym opening_is) ∙ ap (unwound 1024 n opening) (sym more_is))
        (reaches_on w all (lined c) (unwound 1024 n (tables_after tables c) (listed ++ c ∷ [])) old new new before before now whole (arrive_read new c g)
        (reaches_line w (component_line c) (unwound 1024 n (tables_after tables c) (listed ++ c ∷ [])) new before now put))

    pub arrive_left : (new : List Ask) (c : Component) (now : Option (List ℕ)) → stop w old ≡ None → Gave w (component_at n address (1 + length tables)) old new before before c → AppendsPrefix before now (component_line c) → LeftOff w all old new before now
    arrive_left new c now whole g part =
        left_on w all (lined c) old new new before before now whole (arrive_read new c g)
        (left_line w (component_line c) (take part.0 (component_line c)) (drop part.0 (component_line c)) (unwound 1024 n (tables_after tables c) (listed ++ c ∷ [])) new before now (sym (take-append-drop part.0 (component_line c))) part.1)

    pub arrive_unlined : (lines : ℕ) (new : List Ask) (c : Component) (now : Option (List ℕ)) → stop w old ≡ None → Gave w (component_at n address (1 + length tables)) old new before before c → AppendsPrefix before now (component_line c)
        → StopsIn w lines all old new before now OutOfMemory
    arrive_unlined lines new c now whole g part = record { left = arrive_left new c now whole g part; cut = tt }

    -- the line was written, and no more
    pub left_whole : (new : List Ask) (c : Component) (now : Option (List ℕ)) → stop w old ≡ None → Gave w (component_at n address (1 + length tables)) old new before before c → Appends before now (component_line c) → LeftOff w all old new before now
    left_whole new c now whole g put =
        left_on w all (lined c) old new new before before now whole (arrive_read new c g)
        (left_line w (component_line c) (component_line c) [] (unwound 1024 n (tables_after tables c) (listed ++ c ∷ [])) new before now (sym (append-nil (component_line c))) put)

-- ---- what is left

by_table : (b : Bool) (t : Table) (tables : List Table) (k : ℕ) → t.left ≡ 960 → 1 ≤ k → 970 * (k - 1) + sum_by (λ (x : Table). x.left + 1) (cond b (t ∷ tables) tables) < 970 * k + sum_by (λ (x : Table). x.left + 1) tables
by_table true t tables k full some =
    let more : sum_by (λ (x : Table). x.left + 1) (cond true (t ∷ tables) tables) ≡ t.left + 1 + sum_by (λ (x : Table). x.left + 1) tables = sum_by-cons (λ (x : Table). x.left + 1) t tables in
    omega (arith, full, some, more)
by_table false t tables k full some =
    let same : sum_by (λ (x : Table). x.left + 1) (cond false (t ∷ tables) tables) ≡ sum_by (λ (x : Table). x.left + 1) tables = refl in
    omega (arith, some, same)

pub opened_less : (tables opening : List Table) (listed more : List Component) (c : Component) → opening ≡ tables_after tables c → more ≡ listed ++ c ∷ [] → length listed < 1024 → reads_left opening more < reads_left tables listed
opened_less tables opening listed more c opening_is more_is room =
    let count : length more ≡ length listed + 1 = ap length more_is ∙ length-append listed (c ∷ []) in
    let fewer : 1024 - length more ≡ 1024 - length listed - 1 = omega (arith, count) in
    rw (opening_is, fewer) (by_table (is_table c.known && nat_lt (length tables) 7) (record { address = c.address; left = 960 }) tables (1024 - length listed) refl (omega (arith, room)))

-- a table that is opened stands at a page
pub opened_sound : (tables opening : List Table) (c : Component) → opening ≡ tables_after tables c → c.address % 4096 ≡ 0 → All IsOpenTable tables → All IsOpenTable opening
opened_sound tables opening c is page sound = rw is (one (is_table c.known && nat_lt (length tables) 7))
  where
    one : (b : Bool) → All IsOpenTable (cond b (record { address = c.address; left = 960 } ∷ tables) tables)
    one true = All-cons IsOpenTable (record { address = c.address; left = 960 }) tables (record { page = page; few = omega arith }) sound
    one false = sound
