-- What is kept of calls stays within its room.
use Rattle.std.proofs.Common.{◌≡◌, ◌∙◌, ℕ, zero, suc, ◌+◌, ◌-◌, ◌*◌, ◌<◌, ◌≤◌, Bool, true, false, cond, List, [], ◌∷◌, ◌++◌, length, take, drop, map, Option, Some, None, refl, sym, ap, subst, arith, length-append}
use Rattle.std.proofs.lemmas.List.{length-map, length-take-le}
use Rattle.std.specs.List.{AllByRecursion}
use Rattle.std.specs.Prelude.{slice_get, slice_set, IfSome}
use Rattle.target_machine.specs.Sound.{IsSoundCall}
use Rattle.target_machine.specs.Plain.{Commands, forgives}
use Rattle.target_calls.specs.Asks.{settled_last}
use Rattle.target_calls.specs.Journal.{Entry, settles}
use Rattle.target_calls.specs.declared.calls.Ask.{Ask}
use Rattle.target_calls.proofs.MarkLemmas.{length_marked}
use Rattle.access_calls.specs.Issued.{AreKeptOf, kept_of, lines_before_kept}
use Rattle.access_calls.specs.Numbers.{HasNumbers, StopNumbers, lines_at}
use Rattle.access_calls.specs.declared.issued.Issued.{Issued}
use Rattle.access_calls.specs.declared.stop.Report.{Report}
use Rattle.access_calls.specs.declared.stop.Stop.{Stop}
use Rattle.packed_access.specs.Counted.{CountsConfirmed}
use Rattle.packed_access.specs.declared.confirmed.Confirmed.{Confirmed}
use Rattle.packed_access.specs.Logs.{IsOfCall, IsSoundSenderLog, IsSoundState, most_entries}

-- a mark changes no call
pub marked_sound : (calls : List Ask) → AllByRecursion (λ ask. IsSoundCall ask.call) calls → AllByRecursion (λ ask. IsSoundCall ask.call) (settled_last calls)
marked_sound [] h = h
marked_sound (ask ∷ []) h = h
marked_sound (ask ∷ next ∷ calls) h = (h.0, marked_sound (next ∷ calls) h.1)

-- an entry of one of so many calls is one of more calls
pub units_more : (calls more : ℕ) (entries : List Issued) → calls ≤ more → AllByRecursion (IsOfCall calls) entries → AllByRecursion (IsOfCall more) entries
units_more calls more [] le h = h
units_more calls more (e ∷ entries) le h = ((h.0.0, (let b = h.0.1 in omega (arith, b, le))), units_more calls more entries le h.1)

-- the entry at a place is one of the calls'
pub named_here : (calls : ℕ) (entries : List Issued) (k : ℕ) → AllByRecursion (IsOfCall calls) entries → IfSome (slice_get entries k) (IsOfCall calls)
named_here calls [] k h = tt
named_here calls (e ∷ entries) zero h = h.0
named_here calls (e ∷ entries) (suc k) h = named_here calls entries k h.1

-- ---- the lines before a cut

-- an entry of which this is kept
abbrev entry_of : Issued → Entry
entry_of i = record { unit = i.unit; part = i.part; forgiving = false; action = Commands forgives }

kept_again : (kept : List Issued) → kept ≡ map kept_of (map entry_of kept)
kept_again [] = refl
kept_again (i ∷ kept) = ap (λ (l : List Issued). i ∷ l) (kept_again kept)

-- how many units have their lines before the entry at a place, and that entry
record IsLinesAt (kept : List Issued) (place lines : ℕ) : Type 0 where
  pub entry : Issued
  pub is : slice_get kept place ≡ Some entry
  pub lines_is : lines ≡ lines_before_kept entry

lines_there : (kept : List Issued) (place : ℕ) → place < length kept → IsLinesAt kept place (lines_at (slice_get (map entry_of kept) place))
lines_there [] place less = absurd (omega (arith, less))
lines_there (i ∷ kept) zero less = record { entry = i; is = refl; lines_is = refl }
lines_there (i ∷ kept) (suc place) less =
    let r = lines_there kept place (omega (arith, less)) in
    record { entry = r.entry; is = r.is; lines_is = r.lines_is }

lines_of : (kept : List Issued) (calls : List Ask) (skipped lines : ℕ) (r : Report) → ((all : List Entry) → AreKeptOf all kept → HasNumbers all calls skipped lines r) → IsLinesAt kept r.confirmed lines
lines_of kept calls skipped lines r numbers =
    let h = numbers (map entry_of kept) (kept_again kept) in
    let at = lines_there kept r.confirmed (let n = h.named in let l = length-map kept entry_of in omega (arith, n, l)) in
    record { entry = at.entry; is = at.is; lines_is = ap (λ (x : StopNumbers). x.lines) h.numbers ∙ at.lines_is }

unit_at_place : (calls : ℕ) (kept : List Issued) (place : ℕ) (entry : Issued) → AllByRecursion (IsOfCall calls) kept → slice_get kept place ≡ Some entry → IsOfCall calls entry
unit_at_place calls kept place entry h is = subst (λ (x : Option Issued). IfSome x (IsOfCall calls)) is (named_here calls kept place h)

lines_few : (entry : Issued) (calls : ℕ) → IsOfCall calls entry → lines_before_kept entry ≤ calls
lines_few entry calls h = by_part (settles entry.part) h.1
  where
    by_part : (b : Bool) → entry.unit ≤ calls → cond b entry.unit (entry.unit - 1) ≤ calls
    by_part true le = le
    by_part false le = omega (arith, le)

-- they are at most as many as the calls
pub cut_lines : (kept : List Issued) (calls : List Ask) (skipped lines : ℕ) (r : Report) → ((all : List Entry) → AreKeptOf all kept → HasNumbers all calls skipped lines r) → AllByRecursion (IsOfCall (length calls)) kept → lines ≤ length calls
cut_lines kept calls skipped lines r numbers units =
    let at = lines_of kept calls skipped lines r numbers in
    let few = lines_few at.entry (length calls) (unit_at_place (length calls) kept r.confirmed at.entry units at.is) in
    let is = at.lines_is in
    omega (arith, few, is)

later_there : (came from : ℕ) (kept : List Issued) (place : ℕ) (entry : Issued) → AllByRecursion (λ e. came ≤ lines_before_kept e) (drop from kept) → from ≤ place → slice_get kept place ≡ Some entry → came ≤ lines_before_kept entry
later_there came zero [] place entry h le is = absurd (cc)
later_there came (suc from) [] place entry h le is = absurd (cc)
later_there came zero (i ∷ kept) zero entry h le is = (let same : i ≡ entry = cc in subst (λ (e : Issued). came ≤ lines_before_kept e) same h.0)
later_there came zero (i ∷ kept) (suc place) entry h le is = later_there came zero kept place entry h.1 (omega arith) is
later_there came (suc from) (i ∷ kept) zero entry h le is = absurd (omega (arith, le))
later_there came (suc from) (i ∷ kept) (suc place) entry h le is = later_there came from kept place entry h (omega (arith, le)) is

-- and at least those that come before each entry that is not confirmed
pub cut_later : (came from : ℕ) (kept : List Issued) (calls : List Ask) (skipped lines : ℕ) (r : Report) → ((all : List Entry) → AreKeptOf all kept → HasNumbers all calls skipped lines r) → AllByRecursion (λ e. came ≤ lines_before_kept e) (drop from kept) → from ≤ r.confirmed → came ≤ lines
cut_later came from kept calls skipped lines r numbers later le =
    let at = lines_of kept calls skipped lines r numbers in
    let few = later_there came from kept r.confirmed at.entry later le at.is in
    let is = at.lines_is in
    omega (arith, few, is)

-- ---- what is kept stays sound

sound_both : (calls : List Ask) (ask : Ask) → AllByRecursion (λ ask. IsSoundCall ask.call) calls → IsSoundCall ask.call → AllByRecursion (λ ask. IsSoundCall ask.call) (calls ++ ask ∷ [])
sound_both [] ask h s = (s, tt)
sound_both (c ∷ calls) ask h s = (h.0, sound_both calls ask h.1 s)

-- one more call was asked
pub sound_asked : (calls : List Ask) (results places : List ℕ) (room : ℕ) (entries : List Issued) (confirmed whole came known fence : ℕ) (end : Option Stop) (calls_gone places_gone memory : ℕ) (counted : Confirmed) (calls' : List Ask) (results' places' : List ℕ) (memory' : ℕ) (ask : Ask) →
    IsSoundSenderLog calls results places room entries confirmed whole came known fence end calls_gone places_gone memory counted → calls' ≡ calls ++ ask ∷ [] → results' ≡ results ++ 0 ∷ [] → places' ≡ places ++ 0 ∷ [] → memory ≤ memory' →
    IsSoundCall ask.call → length calls < 10000000 → IsSoundSenderLog calls' results' places' room entries confirmed whole came known fence end calls_gone places_gone memory' counted
sound_asked calls results places room entries confirmed whole came known fence end calls_gone places_gone memory counted calls' results' places' memory' ask h calls_are results_are places_are longer sound few =
    let n : length calls' ≡ length calls + 1 = ap length calls_are ∙ length-append calls (ask ∷ []) in
    let r : length results' ≡ length results + 1 = ap length results_are ∙ length-append results (0 ∷ []) in
    let p : length places' ≡ length places + 1 = ap length places_are ∙ length-append places (0 ∷ []) in
    record {
      few = omega (arith, n, few);
      sound = subst (AllByRecursion (λ ask. IsSoundCall ask.call)) (sym calls_are) (sound_both calls ask h.sound sound);
      results_long = (let l = h.results_long in omega (arith, n, r, l));
      places_long = (let l = h.places_long in omega (arith, n, p, l));
      within = h.within;
      taken = (let t = h.taken in omega (arith, t, longer));
      bounded = (let b = h.bounded in omega (arith, b, n));
      units = units_more (length calls) (length calls') entries (omega (arith, n)) h.units;
      confirmed_within = h.confirmed_within;
      whole_within = (let w = h.whole_within in omega (arith, w, n));
      came_within = (let w = h.came_within in omega (arith, w, n));
      known_within = (let w = h.known_within in omega (arith, w, n));
      fence_within = (let w = h.fence_within in omega (arith, w, n));
      calls_late = h.calls_late;
      places_late = h.places_late;
      counts = h.counts;
      open_order = h.open_order;
      open_known = h.open_known;
      later = h.later;
    }

-- more room was taken
pub sound_roomy : (calls : List Ask) (results places : List ℕ) (room : ℕ) (entries : List Issued) (confirmed whole came known fence : ℕ) (end : Option Stop) (calls_gone places_gone memory : ℕ) (counted : Confirmed) (room' memory' : ℕ) → IsSoundSenderLog calls results places room entries confirmed whole came known fence end calls_gone places_gone memory counted → room ≤ room' → room' ≤ memory' →
    IsSoundSenderLog calls results places room' entries confirmed whole came known fence end calls_gone places_gone memory' counted
sound_roomy calls results places room entries confirmed whole came known fence end calls_gone places_gone memory counted room' memory' h longer taken =
    record {
      few = h.few;
      sound = h.sound;
      results_long = h.results_long;
      places_long = h.places_long;
      within = (let w = h.within in omega (arith, w, longer));
      taken = taken;
      bounded = h.bounded;
      units = h.units;
      confirmed_within = h.confirmed_within;
      whole_within = h.whole_within;
      came_within = h.came_within;
      known_within = h.known_within;
      fence_within = h.fence_within;
      calls_late = h.calls_late;
      places_late = h.places_late;
      counts = h.counts;
      open_order = h.open_order;
      open_known = h.open_known;
      later = h.later;
    }

-- both, of lists that are as long gone as before
pub sound_taken : (calls : List Ask) (results places : List ℕ) (room : ℕ) (entries : List Issued) (confirmed whole came known fence : ℕ) (end : Option Stop) (calls_gone places_gone memory : ℕ) (counted : Confirmed) (calls' : List Ask) (results' places' : List ℕ) (room' : ℕ) (entries' : List Issued) (confirmed' calls_gone' places_gone' memory' : ℕ) (ask : Ask) → IsSoundSenderLog calls results places room entries confirmed whole came known fence end calls_gone places_gone memory counted →
    calls' ≡ calls ++ ask ∷ [] → results' ≡ results ++ 0 ∷ [] → places' ≡ places ++ 0 ∷ [] → room ≤ room' → room' ≤ memory' → entries' ≡ entries → confirmed' ≡ confirmed → calls_gone' ≡ calls_gone → places_gone' ≡ places_gone →
    IsSoundCall ask.call → length calls < 10000000 → IsSoundSenderLog calls' results' places' room' entries' confirmed' whole came known fence end calls_gone' places_gone' memory' counted
sound_taken calls results places room entries confirmed whole came known fence end calls_gone places_gone memory counted calls' results' places' room' entries' confirmed' calls_gone' places_gone' memory' ask h calls_are results_are places_are longer taken same settled gone left sound few =
    subst (λ (l : List Issued). IsSoundSenderLog calls' results' places' room' l confirmed' whole came known fence end calls_gone' places_gone' memory' counted) (sym same)
    (subst (λ (k : ℕ). IsSoundSenderLog calls' results' places' room' entries k whole came known fence end calls_gone' places_gone' memory' counted) (sym settled)
    (subst (λ (k : ℕ). IsSoundSenderLog calls' results' places' room' entries confirmed whole came known fence end k places_gone' memory' counted) (sym gone)
    (subst (λ (k : ℕ). IsSoundSenderLog calls' results' places' room' entries confirmed whole came known fence end calls_gone k memory' counted) (sym left)
    (sound_asked calls results places room' entries confirmed whole came known fence end calls_gone places_gone memory' counted calls' results' places' memory' ask
    (sound_roomy calls results places room entries confirmed whole came known fence end calls_gone places_gone memory counted room' memory' h longer taken) calls_are results_are places_are (omega arith) sound few))))

issued_later : (came from : ℕ) (entries : List Issued) (i : Issued) → from ≤ length entries → AllByRecursion (λ e. came ≤ lines_before_kept e) (drop from entries) → came ≤ lines_before_kept i
    → AllByRecursion (λ e. came ≤ lines_before_kept e) (drop from (entries ++ i ∷ []))
issued_later came zero [] i le h late = (late, tt)
issued_later came zero (e ∷ entries) i le h late = (h.0, issued_later came zero entries i (omega arith) h.1 late)
issued_later came (suc from) [] i le h late = absurd (omega (arith, le))
issued_later came (suc from) (e ∷ entries) i le h late = issued_later came from entries i (omega (arith, le)) h late

issued_units : (calls : ℕ) (entries : List Issued) (i : Issued) → AllByRecursion (IsOfCall calls) entries → IsOfCall calls i → AllByRecursion (IsOfCall calls) (entries ++ i ∷ [])
issued_units calls [] i h own = (own, tt)
issued_units calls (e ∷ entries) i h own = (h.0, issued_units calls entries i h.1 own)

take_within : (n : ℕ) (entries : List Issued) (i : Issued) → n ≤ length entries → take n (entries ++ i ∷ []) ≡ take n entries
take_within zero entries i le = refl
take_within (suc n) [] i le = absurd (omega (arith, le))
take_within (suc n) (e ∷ entries) i le = ap (λ (l : List Issued). e ∷ l) (take_within n entries i (omega (arith, le)))

-- one more entry was issued
pub sound_issued : (calls : List Ask) (results places : List ℕ) (room : ℕ) (entries : List Issued) (confirmed whole came known fence : ℕ) (end : Option Stop) (calls_gone places_gone memory : ℕ) (counted : Confirmed) (entries' : List Issued) (memory' : ℕ) (i : Issued) → IsSoundSenderLog calls results places room entries confirmed whole came known fence end calls_gone places_gone memory counted →
    entries' ≡ entries ++ i ∷ [] → memory ≤ memory' → length entries < room → length entries < most_entries * length calls → IsOfCall (length calls) i → came ≤ lines_before_kept i →
    IsSoundSenderLog calls results places room entries' confirmed whole came known fence end calls_gone places_gone memory' counted
sound_issued calls results places room entries confirmed whole came known fence end calls_gone places_gone memory counted entries' memory' i h are longer room_left bound own late =
    let n : length entries' ≡ length entries + 1 = ap length are ∙ length-append entries (i ∷ []) in
    record {
      few = h.few;
      sound = h.sound;
      results_long = h.results_long;
      places_long = h.places_long;
      within = omega (arith, n, room_left);
      taken = (let t = h.taken in omega (arith, t, longer));
      bounded = omega (arith, n, bound);
      units = subst (AllByRecursion (IsOfCall (length calls))) (sym are) (issued_units (length calls) entries i h.units own);
      confirmed_within = (let w = h.confirmed_within in omega (arith, w, n));
      whole_within = h.whole_within;
      came_within = h.came_within;
      known_within = h.known_within;
      fence_within = h.fence_within;
      calls_late = h.calls_late;
      places_late = h.places_late;
      counts = subst (CountsConfirmed counted) (sym (ap (take confirmed) are ∙ take_within confirmed entries i h.confirmed_within)) h.counts;
      open_order = h.open_order;
      open_known = h.open_known;
      later = λ none. subst (λ (l : List Issued). AllByRecursion (λ e. came ≤ lines_before_kept e) (drop confirmed l)) (sym are) (issued_later came confirmed entries i h.confirmed_within (h.later none) late);
    }

all_taken : (entries : List Issued) → take (length entries) entries ≡ entries
all_taken [] = refl
all_taken (e ∷ entries) = ap (λ (l : List Issued). e ∷ l) (all_taken entries)

none_left : (P : Issued → Type 0) (entries : List Issued) → AllByRecursion P (drop (length entries) entries)
none_left P [] = tt
none_left P (e ∷ entries) = none_left P entries

joined : (n : ℕ) (entries : List Issued) → take n entries ++ drop n entries ≡ entries
joined zero entries = refl
joined (suc n) [] = refl
joined (suc n) (e ∷ entries) = ap (λ (l : List Issued). e ∷ l) (joined n entries)

settled_same : (calls : List Ask) (results places : List ℕ) (room : ℕ) (entries : List Issued) (confirmed whole came known fence : ℕ) (end : Option Stop) (calls_gone places_gone memory : ℕ) (counted : Confirmed) (memory' : ℕ) (counted' : Confirmed) → IsSoundSenderLog calls results places room entries confirmed whole came known fence end calls_gone places_gone memory counted →
    memory ≤ memory' → CountsConfirmed counted' (take confirmed entries ++ drop confirmed entries) →
    IsSoundSenderLog calls results places room entries (length entries) whole came known fence end calls_gone places_gone memory' counted'
settled_same calls results places room entries confirmed whole came known fence end calls_gone places_gone memory counted memory' counted' h longer count =
    record {
      few = h.few;
      sound = h.sound;
      results_long = h.results_long;
      places_long = h.places_long;
      within = h.within;
      taken = (let t = h.taken in omega (arith, t, longer));
      bounded = h.bounded;
      units = h.units;
      confirmed_within = omega arith;
      whole_within = h.whole_within;
      came_within = h.came_within;
      known_within = h.known_within;
      fence_within = h.fence_within;
      calls_late = h.calls_late;
      places_late = h.places_late;
      counts = subst (CountsConfirmed counted') (joined confirmed entries ∙ sym (all_taken entries)) count;
      open_order = h.open_order;
      open_known = h.open_known;
      later = λ none. none_left (λ e. came ≤ lines_before_kept e) entries;
    }

-- all entries were confirmed
pub sound_settled : (calls : List Ask) (results places : List ℕ) (room : ℕ) (entries : List Issued) (confirmed whole came known fence : ℕ) (end : Option Stop) (calls_gone places_gone memory : ℕ) (counted : Confirmed) (entries' : List Issued) (confirmed' memory' : ℕ) (counted' : Confirmed) → IsSoundSenderLog calls results places room entries confirmed whole came known fence end calls_gone places_gone memory counted →
    entries' ≡ entries → confirmed' ≡ length entries → memory ≤ memory' → CountsConfirmed counted' (take confirmed entries ++ drop confirmed entries) →
    IsSoundSenderLog calls results places room entries' confirmed' whole came known fence end calls_gone places_gone memory' counted'
sound_settled calls results places room entries confirmed whole came known fence end calls_gone places_gone memory counted entries' confirmed' memory' counted' h same all longer count =
    subst (λ (l : List Issued). IsSoundSenderLog calls results places room l confirmed' whole came known fence end calls_gone places_gone memory' counted') (sym same)
    (subst (λ (k : ℕ). IsSoundSenderLog calls results places room entries k whole came known fence end calls_gone places_gone memory' counted') (sym all)
    (settled_same calls results places room entries confirmed whole came known fence end calls_gone places_gone memory counted memory' counted' h longer count))

-- and the calls that were issued whole came
pub sound_come : (calls : List Ask) (results places : List ℕ) (room : ℕ) (entries : List Issued) (confirmed whole came known fence : ℕ) (end : Option Stop) (calls_gone places_gone memory : ℕ) (counted : Confirmed) → IsSoundSenderLog calls results places room entries confirmed whole came known fence end calls_gone places_gone memory counted → confirmed ≡ length entries →
    IsSoundSenderLog calls results places room entries confirmed whole whole whole fence end (whole - 1) (whole - 1) memory counted
sound_come calls results places room entries confirmed whole came known fence end calls_gone places_gone memory counted h settled =
    record {
      few = h.few;
      sound = h.sound;
      results_long = h.results_long;
      places_long = h.places_long;
      within = h.within;
      taken = h.taken;
      bounded = h.bounded;
      units = h.units;
      confirmed_within = h.confirmed_within;
      whole_within = h.whole_within;
      came_within = h.whole_within;
      known_within = h.whole_within;
      fence_within = h.fence_within;
      calls_late = omega arith;
      places_late = omega arith;
      counts = h.counts;
      open_order = λ none. omega arith;
      open_known = λ none. refl;
      later = λ none. subst (λ (k : ℕ). AllByRecursion (λ e. whole ≤ lines_before_kept e) (drop k entries)) (sym settled) (none_left (λ e. whole ≤ lines_before_kept e) entries);
    }

-- a result came, or a call was issued whole
pub sound_given : (calls : List Ask) (results places : List ℕ) (room : ℕ) (entries : List Issued) (confirmed whole came known fence : ℕ) (end : Option Stop) (calls_gone places_gone memory : ℕ) (counted : Confirmed) (results' places' : List ℕ) (whole' : ℕ) → IsSoundSenderLog calls results places room entries confirmed whole came known fence end calls_gone places_gone memory counted → length results' ≡ length results → length places' ≡ length places → whole ≤ whole' → whole' ≤ length calls →
    IsSoundSenderLog calls results' places' room entries confirmed whole' came known fence end calls_gone places_gone memory counted
sound_given calls results places room entries confirmed whole came known fence end calls_gone places_gone memory counted results' places' whole' h results_same places_same more within =
    record {
      few = h.few;
      sound = h.sound;
      results_long = results_same ∙ h.results_long;
      places_long = places_same ∙ h.places_long;
      within = h.within;
      taken = h.taken;
      bounded = h.bounded;
      units = h.units;
      confirmed_within = h.confirmed_within;
      whole_within = within;
      came_within = h.came_within;
      known_within = h.known_within;
      fence_within = h.fence_within;
      calls_late = h.calls_late;
      places_late = h.places_late;
      counts = h.counts;
      open_order = λ none. (let o = h.open_order none in omega (arith, o, more));
      open_known = h.open_known;
      later = h.later;
    }

clash_end : (s : Stop) → ◌≡◌ {A = Option Stop} (Some s) None → ⊥
clash_end s e = cc

-- the access ended at a cut
pub sound_cut : (calls : List Ask) (results places : List ℕ) (room : ℕ) (entries : List Issued) (confirmed whole came known fence : ℕ) (end : Option Stop) (calls_gone places_gone memory : ℕ) (counted : Confirmed) (lines : ℕ) (s : Stop) → IsSoundSenderLog calls results places room entries confirmed whole came known fence end calls_gone places_gone memory counted → lines ≤ length calls → came ≤ lines → IsSoundSenderLog calls results places room entries confirmed whole lines known fence (Some s) calls_gone places_gone memory counted
sound_cut calls results places room entries confirmed whole came known fence end calls_gone places_gone memory counted lines s h le later = record {
  few = h.few;
  sound = h.sound;
  results_long = h.results_long;
  places_long = h.places_long;
  within = h.within;
  taken = h.taken;
  bounded = h.bounded;
  units = h.units;
  confirmed_within = h.confirmed_within;
  whole_within = h.whole_within;
  came_within = le;
  known_within = h.known_within;
  fence_within = h.fence_within;
  calls_late = (let l = h.calls_late in omega (arith, l, later));
  places_late = (let l = h.places_late in omega (arith, l, later));
  counts = h.counts;
  open_order = λ none. absurd (clash_end s none);
  open_known = λ none. absurd (clash_end s none);
  later = λ none. absurd (clash_end s none);
}

-- a `finish` was made after the last call
pub sound_marked : (calls : List Ask) (results places : List ℕ) (room : ℕ) (entries : List Issued) (confirmed whole came known fence : ℕ) (end : Option Stop) (calls_gone places_gone memory : ℕ) (counted : Confirmed) (calls' : List Ask) → calls' ≡ settled_last calls → IsSoundSenderLog calls results places room entries confirmed whole came known fence end calls_gone places_gone memory counted →
    IsSoundSenderLog calls' results places room entries confirmed whole came known fence end calls_gone places_gone memory counted
sound_marked calls results places room entries confirmed whole came known fence end calls_gone places_gone memory counted calls' is h =
    let n : length calls ≡ length calls' = sym (ap length is ∙ length_marked calls) in
    record {
      few = (let f = h.few in omega (arith, f, n));
      sound = subst (AllByRecursion (λ ask. IsSoundCall ask.call)) (sym is) (marked_sound calls h.sound);
      results_long = (let f = h.results_long in omega (arith, f, n));
      places_long = (let f = h.places_long in omega (arith, f, n));
      within = h.within;
      taken = h.taken;
      bounded = (let f = h.bounded in omega (arith, f, n));
      units = subst (λ (k : ℕ). AllByRecursion (IsOfCall k) entries) n h.units;
      confirmed_within = h.confirmed_within;
      whole_within = (let f = h.whole_within in omega (arith, f, n));
      came_within = (let f = h.came_within in omega (arith, f, n));
      known_within = (let f = h.known_within in omega (arith, f, n));
      fence_within = (let f = h.fence_within in omega (arith, f, n));
      calls_late = h.calls_late;
      places_late = h.places_late;
      counts = h.counts;
      open_order = h.open_order;
      open_known = h.open_known;
      later = h.later;
    }

-- the last call with a mark
pub marked_at : (calls : List Ask) (place : ℕ) (last : Ask) → place + 1 ≡ length calls → slice_get calls place ≡ Some last → slice_set calls place (record last { settled = true }) ≡ settled_last calls
marked_at [] place last one is = absurd (omega (arith, one))
marked_at (ask ∷ []) zero last one is = (let same : ask ≡ last = cc in ap (λ (a : Ask). record a { settled = true } ∷ []) (sym same))
marked_at (ask ∷ []) (suc place) last one is = absurd (omega (arith, one))
marked_at (ask ∷ next ∷ calls) zero last one is = absurd (omega (arith, one))
marked_at (ask ∷ next ∷ calls) (suc place) last one is = ap (λ (l : List Ask). ask ∷ l) (marked_at (next ∷ calls) place last (omega (arith, one)) is)

-- the same of what contracts see
pub sound_state : (calls : List Ask) (results places : List ℕ) (room : ℕ) (entries : List Issued) (confirmed whole came known fence : ℕ) (end : Option Stop) (calls_gone places_gone memory : ℕ) (counted : Confirmed) (needs lines skipped : ℕ) → IsSoundSenderLog calls results places room entries confirmed whole came known fence end calls_gone places_gone memory counted →
    IsSoundState (record { calls = calls; results = results; places = places; entries = entries; room = room; confirmed = confirmed; whole = whole; came = came; known = known; needs = needs; fence = fence; end = end; lines = lines; skipped = skipped })
sound_state calls results places room entries confirmed whole came known fence end calls_gone places_gone memory counted needs lines skipped h =
    record {
      few = h.few;
      results_long = h.results_long;
      places_long = h.places_long;
      within = h.within;
      bounded = h.bounded;
      confirmed_within = h.confirmed_within;
      whole_within = h.whole_within;
      came_within = h.came_within;
      known_within = h.known_within;
      fence_within = h.fence_within;
      open_order = h.open_order;
      open_known = h.open_known;
    }

-- the entry at a place has a unit
pub unit_there : (calls : ℕ) (entries kept : List Issued) (from k : ℕ) → kept ≡ drop from entries → AllByRecursion (IsOfCall calls) entries → IfSome (slice_get kept k) (λ e. 0 < e.unit)
unit_there calls entries kept from k is h = subst (λ (l : List Issued). IfSome (slice_get l k) (λ e. 0 < e.unit)) (sym is) (in_rest calls entries from k h)
  where
    in_list : (calls : ℕ) (entries : List Issued) (k : ℕ) → AllByRecursion (IsOfCall calls) entries → IfSome (slice_get entries k) (λ e. 0 < e.unit)
    in_list calls [] k h = tt
    in_list calls (e ∷ entries) zero h = h.0.0
    in_list calls (e ∷ entries) (suc k) h = in_list calls entries k h.1

    in_rest : (calls : ℕ) (entries : List Issued) (from k : ℕ) → AllByRecursion (IsOfCall calls) entries → IfSome (slice_get (drop from entries) k) (λ e. 0 < e.unit)
    in_rest calls entries zero k h = in_list calls entries k h
    in_rest calls [] (suc from) k h = tt
    in_rest calls (e ∷ entries) (suc from) k h = in_rest calls entries from k h.1

-- ---- entries after the confirmed ones

rest_length : (from : ℕ) (entries : List Issued) → length (drop from entries) ≡ length entries - from
rest_length zero entries = omega arith
rest_length (suc from) [] = omega arith
rest_length (suc from) (e ∷ entries) = (let r = rest_length from entries in omega (arith, r))

-- the entry at a place after those
pub there_within : (entries kept : List Issued) (from k : ℕ) → kept ≡ drop from entries → k < length entries - from → k < length kept
there_within entries kept from k is less = (let n : length kept ≡ length entries - from = ap length is ∙ rest_length from entries in omega (arith, n, less))

-- as many were counted as are confirmed
pub counted_confirmed : (confirmed : ℕ) (entries : List Issued) (c : Confirmed) → confirmed ≤ length entries → CountsConfirmed c (take confirmed entries) → c.entries ≡ confirmed
counted_confirmed confirmed entries c le h = h.entries ∙ length-take-le confirmed entries le

-- these and the others are all
pub all_kept : (all : List Entry) (entries kept : List Issued) (from : ℕ) → kept ≡ drop from entries → AreKeptOf all entries → AreKeptOf all (take from entries ++ kept)
all_kept all entries kept from is are = ap (λ (l : List Issued). take from entries ++ l) is ∙ joined from entries ∙ are
