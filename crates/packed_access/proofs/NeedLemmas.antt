-- Need points change nothing else.
use Rattle.std.proofs.Common.{◌≡◌, ◌∙◌, ℕ, zero, suc, Bool, true, false, cond, List, [], length, take, Option, Some, None, refl, sym, ap, subst}
use Rattle.std.specs.Prelude.{nat_lt}
use Rattle.target_machine.specs.declared.access.RegAccess.{RegAccess}
use Rattle.probe_core.specs.Bench.{BenchState}
use Rattle.probe_core.specs.Bench.{Reported as BenchReported}
use Rattle.probe_core.specs.Probe.{target_of}
use Rattle.target_calls.specs.Journal.{Entry}
use Rattle.target_calls.specs.NeedPoints.{asks_at_need, needed_more, asks_at_use}
use Rattle.target_calls.specs.declared.calls.Slot.{Slot}
use Rattle.access_regs.specs.Journal.{issued_entries}
use Rattle.access_regs.specs.Kept.{Kept}
use Rattle.access_calls.specs.Left.{IsLeft}
use Rattle.access_calls.specs.Reported.{AccessView, Beginning, began}
use Rattle.access_calls.specs.Standing.{IsBenchFault, IsCutBy, IsFaulted, IsUnanswered, StandsAt, WhereObservable}
use Rattle.access_calls.specs.declared.stop.Report.{Report}
use Rattle.access_calls.specs.declared.stop.Stop.{Stop}
use Rattle.access_calls.specs.declared.stop.Stop.TheVariants as stops
use Rattle.access_calls.specs.declared.stop.StopCause.{StopCause}
use Rattle.access_calls.specs.declared.stop.StopCause.TheVariants.{Faulted, NoAnswer}
use Rattle.flight_laws.specs.Ending.{IsEnded}
use Rattle.packed_access.specs.Begun.{HasBegun, IsIssuing, IsOpenAt, IsSince}
use Rattle.packed_access.specs.Logs.{LogState, asks_of, reported_by, with_asks, with_needs}
use Rattle.access_regs.specs.declared.planner.Planner.{Planner}

pub issuing_needs : (p : Planner) (log : LogState) (accesses : List RegAccess) (rest : List Entry) (m0 m : BenchState) (needs fence room : ℕ) → IsIssuing p log accesses rest m0 m → IsIssuing p (record log { needs = needs; fence = fence; room = room }) accesses rest m0 m
issuing_needs p log accesses rest m0 m needs fence room h = record {
  flying = h.flying;
  sending = h.sending;
  known_is = h.known_is;
  count = h.count;
  entries_are = h.entries_are;
  strict = h.strict;
  in_order = h.in_order;
  within = h.within;
  came_made = h.came_made;
  whole_issued = h.whole_issued;
  came_are = h.came_are;
  skipped_is = h.skipped_is;
  given = h.given;
  given_in = h.given_in;
  flies = h.flies;
  few = h.few;
}

cut_needs : (cause : StopCause) (entries : List Entry) (r : Report) (a : AccessView) (needs fence : ℕ) (b : Beginning) (m : BenchState) → IsCutBy cause entries r a b m → IsCutBy cause entries r (record a { asks = record a.asks { needs = needs; fence = fence } }) b m
cut_needs Faulted entries r a needs fence b m h = record { performed = h.performed; first = h.first; confirmed = h.confirmed; up_to = h.up_to; numbers = h.numbers; retries = h.retries; idle_cycles = h.idle_cycles }
cut_needs NoAnswer entries r a needs fence b m h = record { performed = h.performed; confirmed = h.confirmed; up_to = h.up_to; numbers = h.numbers; retries = h.retries; idle_cycles = h.idle_cycles; over = h.over; number = h.number }

stands_needs : (s : Stop) (entries : List Entry) (a : AccessView) (needs fence : ℕ) (b : Beginning) (m : BenchState) → StandsAt (Some s) entries a b m → StandsAt (Some s) entries (record a { asks = record a.asks { needs = needs; fence = fence } }) b m
stands_needs (stops.Cut r) entries a needs fence b m h = record { stands = cut_needs r.cause entries r a needs fence b m h.stands; own = h.own; memory = h.memory }
stands_needs (stops.BenchFault issued confirmed) entries a needs fence b m h = h
stands_needs stops.ReplyBad entries a needs fence b m h = h
stands_needs stops.OutOfMemory entries a needs fence b m h = h

ended_needs : (p : Planner) (s : Stop) (a : AccessView) (came : List ℕ) (needs fence : ℕ) (m0 m : BenchState) → IsEnded p s a came m0 m → IsEnded p s (record a { asks = record a.asks { needs = needs; fence = fence } }) came m0 m
ended_needs p s a came needs fence m0 m h = record {
  stands = λ n left. stands_needs s (issued_entries p (target_of m0.probe) a.asks.calls) a needs fence (began m0 n) m (h.stands n (record { so = left.so }));
  results_are = λ n left. h.results_are n (record { so = left.so });
}

since_needs : (p : Planner) (e : Option Stop) (a : AccessView) (log : LogState) (kept : Kept) (accesses : List RegAccess) (needs fence room : ℕ) (m0 m : BenchState) → IsSince p e a log kept accesses m0 m →
    IsSince p e (record a { asks = record a.asks { needs = needs; fence = fence } }) (record log { needs = needs; fence = fence; room = room }) kept accesses m0 m
since_needs p None a log kept accesses needs fence room m0 m h = record { issuing = issuing_needs p log accesses [] m0 m needs fence room h.issuing; whole_is = h.whole_is; kept_is = h.kept_is; calm = h.calm }
since_needs p (Some s) a log kept accesses needs fence room m0 m h = ended_needs p s a (take log.known log.results) needs fence m0 m h

needs_where : (p : Planner) (x : Option BenchState) (e : Option Stop) (a : AccessView) (log : LogState) (kept : Kept) (accesses : List RegAccess) (needs fence room : ℕ) (m0 : BenchState) → WhereObservable x (λ m. IsSince p e a log kept accesses m0 m) →
    WhereObservable x (λ m. IsSince p e (record a { asks = record a.asks { needs = needs; fence = fence } }) (record log { needs = needs; fence = fence; room = room }) kept accesses m0 m)
needs_where p None e a log kept accesses needs fence room m0 h = h
needs_where p (Some m) e a log kept accesses needs fence room m0 h = since_needs p e a log kept accesses needs fence room m0 m h

-- where the access began stays
pub begun_needs : (p : Planner) (bench : BenchReported) (state : Option BenchState) (log new : LogState) (sent got sent' got' : List ℕ) (kept : Kept) (accesses : List RegAccess) (m0 : BenchState) → HasBegun p bench state log sent got kept accesses m0 →
    sent' ≡ sent → got' ≡ got → new ≡ record log { needs = new.needs; fence = new.fence; room = new.room } → HasBegun p bench state new sent' got' kept accesses m0
begun_needs p bench state log new sent got sent' got' kept accesses m0 h s g is =
    subst (λ (l : LogState). HasBegun p bench state l sent' got' kept accesses m0) (sym is)
    (subst (λ (x : List ℕ). HasBegun p bench state (record log { needs = new.needs; fence = new.fence; room = new.room }) x got' kept accesses m0) (sym s)
    (subst (λ (x : List ℕ). HasBegun p bench state (record log { needs = new.needs; fence = new.fence; room = new.room }) sent x kept accesses m0) (sym g)
    (record { so = needs_where p state log.end (reported_by bench state log sent got) log kept accesses new.needs new.fence new.room m0 h.so })))

-- and so do the worlds that are left
pub left_needs : (bench : BenchReported) (state : Option BenchState) (log new : LogState) (sent got sent' got' : List ℕ) (n : Option ℕ) → new ≡ record log { needs = new.needs; fence = new.fence; room = new.room } → IsLeft (reported_by bench state new sent' got') n → IsLeft (reported_by bench state log sent got) n
left_needs bench state log new sent got sent' got' n is left =
    let here : IsLeft (reported_by bench state (record log { needs = new.needs; fence = new.fence; room = new.room }) sent' got') n = subst (λ (l : LogState). IsLeft (reported_by bench state l sent' got') n) is left in
    record { so = here.so }

-- so many need points
pub with_needs_is : (log : LogState) (points calls : ℕ) → with_needs log points calls ≡ record log { needs = (with_needs log points calls).needs; fence = (with_needs log points calls).fence; room = (with_needs log points calls).room }
with_needs_is log zero calls = refl
with_needs_is log (suc points) calls = refl

pub needs_new : (log new : LogState) (points calls : ℕ) → new ≡ with_needs log points calls → new ≡ record log { needs = new.needs; fence = new.fence; room = new.room }
needs_new log new points calls is = is ∙ with_needs_is log points calls ∙ (λ j. record log { needs = (sym is j).needs; fence = (sym is j).fence; room = (sym is j).room })

-- a slot that is used
used_is : (b : Bool) (log : LogState) → with_asks log (cond b (asks_of log) (asks_at_need (asks_of log))) ≡ record log { needs = (with_asks log (cond b (asks_of log) (asks_at_need (asks_of log)))).needs; fence = (with_asks log (cond b (asks_of log) (asks_at_need (asks_of log)))).fence; room = (with_asks log (cond b (asks_of log) (asks_at_need (asks_of log)))).room }
used_is true log = refl
used_is false log = refl

pub used_new : (log new : LogState) (slot : Slot) → new ≡ with_asks log (asks_at_use slot (asks_of log)) → new ≡ record log { needs = new.needs; fence = new.fence; room = new.room }
used_new log new slot is = is ∙ used_is (nat_lt slot.index log.fence) log ∙ (λ j. record log { needs = (sym is j).needs; fence = (sym is j).fence; room = (sym is j).room })

-- where memory is refused the room alone changed
pub refused_new : (log new : LogState) → new ≡ record log { room = new.room } → new ≡ record log { needs = new.needs; fence = new.fence; room = new.room }
refused_new log new is = is ∙ (λ j. record log { needs = (sym is j).needs; fence = (sym is j).fence; room = new.room })

-- the need points as the calls have them
pub needs_more : (log : LogState) (points : ℕ) → asks_of (with_needs log points (length log.calls)) ≡ needed_more points (asks_of log)
needs_more log zero = refl
needs_more log (suc points) = refl
