-- What an access keeps of its calls, and what it reports by that.
use Rattle.std.specs.Prelude.{◌≡◌, ℕ, zero, suc, ◌+◌, ◌-◌, ◌*◌, ◌<◌, ◌≤◌, nat_lt, if◌then◌else◌, List, [], ◌∷◌, ◌++◌, length, drop, take, slice_get, slice_set}
use Rattle.std.specs.Prelude.{slice_index, Option, Some, None, refl}
use Rattle.std.specs.List.{AllByRecursion}
use Rattle.std.specs.Option.{unwrap_or}
use Rattle.target_machine.specs.Plain.{result_of}
use Rattle.target_machine.specs.Sound.{IsSoundCall}
use Rattle.probe_core.specs.Bench.{BenchState}
use Rattle.probe_core.specs.Bench.{Reported as BenchReported}
use Rattle.target_calls.specs.Journal.{Entry}
use Rattle.target_calls.specs.NeedPoints.{Asks}
use Rattle.target_calls.specs.declared.calls.Ask.{Ask}
use Rattle.access_calls.specs.Causes.{KeepsReplyAt}
use Rattle.access_calls.specs.Issued.{AreKeptOf, lines_before_kept}
use Rattle.access_calls.specs.Numbers.{HasNumbers}
use Rattle.access_calls.specs.Reported.{AccessView}
use Rattle.access_calls.specs.declared.issued.Issued.{Issued}
use Rattle.access_calls.specs.declared.stop.Report.{Report}
use Rattle.access_calls.specs.declared.stop.Stop.{Stop}
use Rattle.access_calls.specs.declared.stop.Stop.TheVariants.{Cut, BenchFault, ReplyBad}
use Rattle.access_calls.specs.declared.stop.StopCause.{StopCause}
use Rattle.access_calls.specs.declared.stop.StopCause.TheVariants.{Faulted, NoAnswer}
use Rattle.batch_packer.specs.SlotList.{slot_at}
use Rattle.batch_packer.specs.declared.ends.FlightEnd.{FlightEnd}
use Rattle.batch_packer.specs.declared.ends.FlightEnd.TheVariants as ends
use Rattle.packed_access.specs.Counted.{CountsConfirmed}
use Rattle.packed_access.specs.declared.confirmed.Confirmed.{Confirmed}
use Rattle.target_machine.specs.Lines.{grown_counter}

-- What is kept of the calls.
pub record LogState : Type 0 where
  -- the calls that were asked, with a result for each, and the number of the entry that gives it
  pub calls : List Ask
  pub results : List ℕ
  pub places : List ℕ
  -- the entries that were issued, for how many there is room, and how many of them are confirmed
  pub entries : List Issued
  pub room : ℕ
  pub confirmed : ℕ
  -- how many calls were issued whole
  pub whole : ℕ
  -- how many calls are known to have been answered
  pub came : ℕ
  -- how many of the first results have come
  pub known : ℕ
  -- the need points, and how many calls had been asked at the last of them
  pub needs : ℕ
  pub fence : ℕ
  -- the end, and how many units have their lines before it
  pub end : Option Stop
  pub lines : ℕ
  -- how many calls were skipped
  pub skipped : ℕ

-- how many entries of the journal a call has at most, with a settling after it
abbrev pub most_entries : ℕ
most_entries = 13

-- the entry is of one of so many calls
abbrev pub IsOfCall : ℕ → Issued → Type 0
IsOfCall calls entry = (0 < entry.unit) × (entry.unit ≤ calls)

-- What is kept is within its room. There is a result and a place for each call, the entries have room, each is of one of the calls, and the
-- calls may be asked. Of calls that came, all but the last were let go; of the entries that are confirmed, their numbers are kept.
pub record IsSoundSenderLog (calls : List Ask) (results places : List ℕ) (room : ℕ) (entries : List Issued) (confirmed whole came known fence : ℕ)
    (end : Option Stop) (calls_gone places_gone memory : ℕ) (counted : Confirmed) : Type 0 where
  pub few : length calls ≤ 10000000
  pub sound : AllByRecursion (λ ask. IsSoundCall ask.call) calls
  pub results_long : length results ≡ length calls
  pub places_long : length places ≡ length calls
  pub within : length entries ≤ room
  pub taken : room ≤ memory
  pub bounded : length entries ≤ most_entries * length calls
  pub units : AllByRecursion (IsOfCall (length calls)) entries
  pub confirmed_within : confirmed ≤ length entries
  pub whole_within : whole ≤ length calls
  pub came_within : came ≤ length calls
  pub known_within : known ≤ length calls
  pub fence_within : fence ≤ length calls
  pub calls_late : calls_gone ≤ came - 1
  pub places_late : places_gone ≤ came - 1
  pub counts : CountsConfirmed counted (take confirmed entries)
  pub open_order : end ≡ None → came ≤ whole
  pub open_known : end ≡ None → known ≡ came
  pub later : end ≡ None → AllByRecursion (λ e. came ≤ lines_before_kept e) (drop confirmed entries)

-- its numbers, as others see them
pub record IsSoundState (log : LogState) : Type 0 where
  pub few : length log.calls ≤ 10000000
  pub results_long : length log.results ≡ length log.calls
  pub places_long : length log.places ≡ length log.calls
  pub within : length log.entries ≤ log.room
  pub bounded : length log.entries ≤ most_entries * length log.calls
  pub confirmed_within : log.confirmed ≤ length log.entries
  pub whole_within : log.whole ≤ length log.calls
  pub came_within : log.came ≤ length log.calls
  pub known_within : log.known ≤ length log.calls
  pub fence_within : log.fence ≤ length log.calls
  pub open_order : log.end ≡ None → log.came ≤ log.whole
  pub open_known : log.end ≡ None → log.known ≡ log.came

-- What is kept became this, and its numbers are sound.
pub record Becomes (new this : LogState) : Type 0 where
  pub so : new ≡ this
  pub sound : IsSoundState new

-- nothing was asked
abbrev pub nothing_logged : LogState
nothing_logged = record {
  calls = [];
  results = [];
  places = [];
  entries = [];
  room = 0;
  confirmed = 0;
  whole = 0;
  came = 0;
  known = 0;
  needs = 0;
  fence = 0;
  end = None;
  lines = 0;
  skipped = 0;
}

-- ---- what is reported

-- the packet or the reply of the exchange that ended an access: only a cut and a bad reply have one
abbrev pub bytes_kept_at : Option Stop → List ℕ → List ℕ
bytes_kept_at (Some (Cut r)) bytes = bytes
bytes_kept_at (Some ReplyBad) bytes = bytes
bytes_kept_at other bytes = []

-- the calls with their need points
abbrev pub asks_of : LogState → Asks
asks_of log = record { calls = log.calls; needs = log.needs; fence = log.fence }

-- What an access reports by what its bench reports, the state of its bench, what it keeps, and the packet and the reply of the exchange
-- that ended its flights.
abbrev pub reported_by : BenchReported → Option BenchState → LogState → List ℕ → List ℕ → AccessView
reported_by bench state log sent got = record {
  bench = bench;
  state = state;
  asks = asks_of log;
  came = log.came;
  known = log.known;
  end = log.end;
  lines = log.lines;
  skipped = log.skipped;
  issued = length log.entries;
  confirmed = log.confirmed;
  sent = bytes_kept_at log.end sent;
  got = bytes_kept_at log.end got;
}

-- ---- what changes

-- these calls have these need points
abbrev pub with_asks : LogState → Asks → LogState
with_asks log asks = record log { calls = asks.calls; needs = asks.needs; fence = asks.fence }

-- so many need points came, where so many calls had been asked
abbrev pub with_needs : LogState → ℕ → ℕ → LogState
with_needs log zero calls = log
with_needs log (suc points) calls = record log { needs = grown_counter log.needs (suc points); fence = calls }

-- one more entry was issued
abbrev pub log_with_entry : LogState → Issued → LogState
log_with_entry log entry = record log { entries = log.entries ++ entry ∷ [] }

-- one more call was asked, with room for so many entries
abbrev pub log_with_call : LogState → Ask → ℕ → LogState
log_with_call log ask room = record log { calls = log.calls ++ ask ∷ []; results = log.results ++ 0 ∷ []; places = log.places ++ 0 ∷ []; room = room }

-- all entries of the calls were issued; the last of them gives the result of the last call
abbrev pub all_issued : LogState → LogState
all_issued log = record log { whole = length log.calls; places = slice_set log.places (length log.calls - 1) (length log.entries - 1) }

-- the result of a call from the word that its last entry gave
abbrev pub with_result : LogState → ℕ → ℕ → LogState
with_result log index result = record log { results = slice_set log.results index result }

-- the result of a call, where there is one, from the word that its last entry gave
abbrev pub result_for : Option Ask → ℕ → ℕ
result_for None word = 0
result_for (Some ask) word = result_of ask.call word

-- the place of the entry that gives the result of a call, among those that are not confirmed
abbrev pub pending_place : LogState → ℕ → ℕ
pending_place log index = slice_index log.places index - log.confirmed

-- what the flight's values give as the result of a call
abbrev pub result_by : List (Option ℕ) → LogState → ℕ → ℕ
result_by values log index = result_for (slice_get log.calls index) (unwrap_or (slot_at values (pending_place log index)) 0)

-- The results of so many calls from this one on are taken from the values of the flight.
abbrev pub flight_results : List (Option ℕ) → LogState → ℕ → ℕ → List ℕ → List ℕ
flight_results values log from zero results = results
flight_results values log from (suc more) results = slice_set (flight_results values log from more results) (from + more) (result_by values log (from + more))

-- the flight came whole: the results of the calls that were issued whole are taken
abbrev pub all_taken : List (Option ℕ) → LogState → LogState
all_taken values log = record log { results = flight_results values log log.came (log.whole - log.came) log.results }

-- all entries are confirmed, and the calls that were issued whole have come
abbrev pub all_confirmed : LogState → LogState
all_confirmed log = record log { confirmed = length log.entries; came = log.whole; known = log.whole }

-- all entries are confirmed, while the last call has not come
abbrev pub entries_confirmed : LogState → LogState
entries_confirmed log = record log { confirmed = length log.entries }

-- the result at this place, where it has come
abbrev pub result_at : LogState → ℕ → ℕ
result_at log index = if nat_lt index log.known then slice_index log.results index else 0

-- Entries were issued and results came; nothing else changed, and there is no end.
pub record IsFurther (old new : LogState) : Type 0 where
  pub calls : new.calls ≡ old.calls
  pub places : new.places ≡ old.places
  pub whole : new.whole ≡ old.whole
  pub room : new.room ≡ old.room
  pub needs : new.needs ≡ old.needs
  pub fence : new.fence ≡ old.fence
  pub skipped : new.skipped ≡ old.skipped
  pub end : new.end ≡ None

-- the access ended so: nothing else changed but how many units have their lines before the end, and how many were skipped
abbrev pub ended_by : Stop → LogState → LogState → LogState
ended_by s old new = record old { end = Some s; came = new.came; lines = new.lines; skipped = new.skipped }

-- how many entries lie in the flight
abbrev pub entries_pending : LogState → ℕ
entries_pending log = length log.entries - log.confirmed

-- the cause of a cut by its response: 02, and 04
abbrev pub IsCause : ℕ → StopCause → Type 0
IsCause response Faulted = response ≡ 0x02 → ⊥
IsCause response NoAnswer = response ≡ 0x02

-- At a cut of so many entries after the confirmed ones: the report has its numbers, and what is kept has those beside it.
pub record IsLogCut (performed confirmed response : ℕ) (old new : LogState) (r : Report) : Type 0 where
  pub cause : IsCause response r.cause
  pub accesses : r.accesses ≡ old.confirmed + performed
  pub confirmed_is : r.confirmed ≡ old.confirmed + confirmed
  pub numbers : (all : List Entry) → AreKeptOf all old.entries → HasNumbers all old.calls new.skipped new.lines r
  pub later : old.came ≤ new.lines
  pub next : new ≡ record old { end = Some (Cut r); came = new.lines; lines = new.lines; skipped = new.skipped }

-- The access ended so, and keeps that.
abbrev pub LogIsStopped : FlightEnd → LogState → LogState → Stop → Type 0
LogIsStopped (ends.Cut cut) old new (Cut r) = IsLogCut cut.performed cut.confirmed cut.response old new r
LogIsStopped (ends.Cut cut) old new other = ⊥
LogIsStopped ends.BenchFault old new s = (s ≡ BenchFault (length old.entries) old.confirmed) × (new ≡ record old { end = Some s })
LogIsStopped ends.ReplyBad old new s = (s ≡ ReplyBad) × (new ≡ record old { end = Some s })

-- ---- a packet and a reply are kept only where one was the end

-- a lemma: so it is at each end
keeps_at : (end : Option Stop) (a : AccessView) (sent got : List ℕ) → a.sent ≡ bytes_kept_at end sent → a.got ≡ bytes_kept_at end got → KeepsReplyAt end a
keeps_at (Some (Cut r)) a sent got s g = tt
keeps_at (Some ReplyBad) a sent got s g = tt
keeps_at other a sent got s g = record { sent = s; got = g }

-- the law of the contract
pub keeps_by : (bench : BenchReported) (state : Option BenchState) (log : LogState) (sent got : List ℕ) →
    KeepsReplyAt log.end (reported_by bench state log sent got)
keeps_by bench state log sent got = keeps_at log.end (reported_by bench state log sent got) sent got refl refl
