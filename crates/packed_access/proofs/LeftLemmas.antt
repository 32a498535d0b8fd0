-- A poll or a command of the probe that did not come to its end.
use Rattle.std.proofs.Common.{◌≡◌, ◌⊎◌, inl, inr, ◌∙◌, ℕ, ◌+◌, ◌*◌, ◌^◌, ◌<◌, ◌≤◌, Bool, true, false, not, ◌&&◌, List, [], ◌∷◌, ◌++◌, length, map, slice_get, take, drop, IfSome, Option, Some, None, refl, sym, ap, subst, arith, append_assoc, length-append}
use Rattle.std.proofs.lemmas.List.{map-append}
use Rattle.target_machine.specs.Plain.{Action, action_attempt, given_number, is_fault}
use Rattle.probe_core.specs.Bench.{BenchState, StepsTo}
use Rattle.probe_core.specs.Bench.{Reported as BenchReported}
use Rattle.probe_core.specs.Probe.{target_of, work_of}
use Rattle.probe_core.specs.declared.job.Limits.{Limits}
use Rattle.target_calls.specs.Journal.{Entry, is_unforgiven}
use Rattle.target_calls.specs.Weights.{weight}
use Rattle.target_calls.specs.declared.calls.Ask.{Ask}
use Rattle.access_regs.specs.Journal.{issued_entries}
use Rattle.access_calls.specs.Growing.{IsAfter}
use Rattle.access_calls.specs.Issued.{AreKeptOf, kept_of}
use Rattle.access_calls.specs.Left.{IsLeft}
use Rattle.access_calls.specs.Numbers.{HasNumbers}
use Rattle.access_calls.specs.Reported.{AccessView, Beginning, began}
use Rattle.access_calls.specs.Standing.{AreTogether, HasBroken, IsBenchFault, WhereObservable}
use Rattle.flight_laws.proofs.ActionLemmas.{between}
use Rattle.access_calls.specs.declared.issued.Issued.{Issued}
use Rattle.access_calls.specs.declared.stop.Report.{Report}
use Rattle.access_calls.specs.declared.stop.Stop.{Stop}
use Rattle.access_calls.specs.declared.stop.Stop.TheVariants as stop
use Rattle.access_calls.specs.declared.stop.StopCause.{StopCause}
use Rattle.access_calls.specs.declared.stop.StopCause.TheVariants.{Faulted, NoAnswer}
use Rattle.batch_packer.specs.Flying.{CanFly}
use Rattle.batch_packer.specs.declared.ends.Cut.{Cut}
use Rattle.batch_packer.specs.declared.ends.FlightEnd.{FlightEnd}
use Rattle.batch_packer.specs.declared.ends.FlightEnd.TheVariants as ends
use Rattle.flight_laws.specs.Ending.{EndsCut, IsCutOff, IsEnded}
use Rattle.flight_laws.specs.Sending.{IsSending}
use Rattle.flight_laws.proofs.EndLemmas.{action_fails, flight_fails, later_there, poll_ends}
use Rattle.flight_laws.proofs.SendLemmas.{action_sends}
use Rattle.flight_forms.specs.Flights.{Part}
use Rattle.dap_messages.specs.declared.request.Response.TheVariants.{Good, Mismatch}
use Rattle.packed_access.specs.Begun.{HasIssued, IsIssuing, LogHasEnded, StopsAfterLines, most_weight}
use Rattle.bench_flights.specs.Flown.{CanCount, DidLess, HasDoneWhole, LeftActionOff, NamesNoAccess, WasUnanswered}
use Rattle.packed_access.specs.Logs.{IsCause, IsLogCut, LogIsStopped, LogState, log_with_entry, reported_by}
use Rattle.packed_access.proofs.ActionLemmas.{at_rest, at_rest_count}
use Rattle.packed_access.proofs.EndLemmas.{IsBrokenOff, ended_in, numbers_longer, stops_in}
use Rattle.packed_access.proofs.PushLemmas.{take_more}
use Rattle.access_regs.specs.declared.planner.Planner.{Planner}

-- fewer may be confirmed at a fault of the bench
fewer_broken : (limits : Limits) (entries : List Entry) (many confirmed fewer : ℕ) (b : Beginning) (m : BenchState) → fewer ≤ confirmed → AreTogether limits (drop fewer (take many entries)) → HasBroken limits entries many confirmed b m → HasBroken limits entries many fewer b m
fewer_broken limits entries many confirmed fewer b m le both h = record {
  count = h.count;
  begun = h.begun;
  count_is = h.count_is;
  no_more = h.no_more;
  up_to = h.up_to;
  low = (let l = h.low in omega (arith, l, le));
  high = h.high;
  within = h.within;
  together = both;
  good = h.good;
  idle_cycles = h.idle_cycles;
  target = h.target;
}

fewer_stand : (limits : Limits) (asks : List Ask) (came : ℕ) (entries : List Entry) (many confirmed fewer : ℕ) (b : Beginning) (m : BenchState) → fewer ≤ confirmed → AreTogether limits (drop fewer (take many entries)) → IfSome (slice_get entries fewer) (IsAfter came)
    → IsBenchFault limits asks came entries many confirmed b m → IsBenchFault limits asks came entries many fewer b m
unfolding fewer_broken
fewer_stand limits asks came entries many confirmed fewer b m le both later h = record { broken = fewer_broken limits entries many confirmed fewer b m le both h.broken; asked = h.asked; later = later; own = h.own }

fewer_confirmed : (p : Planner) (bench : BenchReported) (state : Option BenchState) (sent got : List ℕ) (log : LogState) (many confirmed fewer : ℕ) (came : List ℕ) (m0 o : BenchState) → fewer ≤ confirmed → AreTogether bench.limits (drop fewer (take many (issued_entries p (target_of m0.probe) log.calls))) →
    IfSome (slice_get (issued_entries p (target_of m0.probe) log.calls) fewer) (IsAfter log.came) →
    IsEnded p (stop.BenchFault many confirmed) (reported_by bench state (record log { end = Some (stop.BenchFault many confirmed) }) sent got) came m0 o →
    IsEnded p (stop.BenchFault many fewer) (reported_by bench state (record log { end = Some (stop.BenchFault many fewer) }) sent got) came m0 o
fewer_confirmed p bench state sent got log many confirmed fewer came m0 o le both later h = record {
  stands = λ n left. fewer_stand bench.limits log.calls log.came (issued_entries p (target_of m0.probe) log.calls) many confirmed fewer (began m0 n) o le both later (h.stands n (record { so = left.so }));
  results_are = λ n left. h.results_are n (record { so = left.so });
}

module _ (p : Planner) (bench : BenchReported) (state : Option BenchState) (sent got : List ℕ) (log : LogState) (e : Entry) (rest : List Entry) (m0 m o : BenchState) (h : IsIssuing p log [] (e ∷ rest) m0 m) (counts : CanCount e.action m) where
  rest_is : IsSending p log.calls log.confirmed log.came [] (e ∷ rest) [] (take log.known log.results) m0 m
  rest_is = at_rest p log (e ∷ rest) m0 m h

  here : log.confirmed ≡ length log.entries
  here = at_rest_count p log (e ∷ rest) m0 m h

  seam : issued_entries p (target_of m0.probe) log.calls ≡ rest_is.made ++ e ∷ rest
  seam = rest_is.on.are

  made_before : length rest_is.made ≡ length log.entries
  made_before = rest_is.confirmed_is ∙ here

  entries_now : log.entries ++ kept_of e ∷ [] ≡ map kept_of (take (length log.entries + 1) (issued_entries p (target_of m0.probe) log.calls))
  entries_now =
      let t = take_more rest_is.made e rest (issued_entries p (target_of m0.probe) log.calls) (length log.entries) seam made_before in
      (λ j. (h.entries_are ∙ ap (map kept_of) t.0) j ++ kept_of e ∷ [])
      ∙ sym (map-append kept_of rest_is.made (e ∷ []))
      ∙ ap (map kept_of) (sym t.1)

  -- a retry ended
  module _ (cut : Cut) (r : Report) (lines skipped : ℕ) (w : WasUnanswered e.action m o) (cause : r.cause ≡ NoAnswer) (accesses_are : r.accesses ≡ log.confirmed + cut.performed) (confirmed_are : r.confirmed ≡ log.confirmed + cut.confirmed)
      (none : (cut.performed ≡ 0) × (cut.confirmed ≡ 0)) (numbers : (all : List Entry) → AreKeptOf all (log.entries ++ kept_of e ∷ []) → HasNumbers all log.calls skipped lines r) where
    abbrev b : AccessView
    b = reported_by bench state (record (log_with_entry log (kept_of e)) { end = Some (stop.Cut r); came = lines; lines = lines; skipped = skipped }) sent got

    cut_off : IsCutOff p r b m0
    cut_off = record {
      end = refl;
      numbers = numbers_longer (issued_entries p (target_of m0.probe) log.calls) (length log.entries + 1) log.calls skipped lines r (numbers (take (length log.entries + 1) (issued_entries p (target_of m0.probe) log.calls)) entries_now)
          (let n = none.0 in let k = here in omega (arith, accesses_are, n, k));
      came = refl;
    }

    pub poll_cut : EndsCut p r b log.came (take log.known log.results) m0 o
    poll_cut = poll_ends p log.confirmed log.came e rest (take log.known log.results) m0 m o w.work r b rest_is (w.work_is counts) w.less w.target w.idle_cycles (w.retries (let f = rest_is.on.few in let r = rest_is.on.retries in omega (arith, f, r))) w.over w.number w.pending cause
        (let n = none.0 in omega (arith, accesses_are, n)) (let n = none.1 in omega (arith, confirmed_are, n)) cut_off

  -- the bench failed
  abbrev failed : Stop
  failed = stop.BenchFault (log.confirmed + 1) log.confirmed

  pub less_done : DidLess e.action m o → IsEnded p (stop.BenchFault (log.confirmed + 1) log.confirmed) (reported_by bench state (record (log_with_entry log (kept_of e)) { end = Some (stop.BenchFault (log.confirmed + 1) log.confirmed) }) sent got) (take log.known log.results) m0 o
  less_done d = action_fails p log.confirmed log.came e rest (take log.known log.results) m0 m o d.work
      (reported_by bench state (record (log_with_entry log (kept_of e)) { end = Some (stop.BenchFault (log.confirmed + 1) log.confirmed) }) sent got)
      rest_is (d.work_is counts) d.less d.target d.idle_cycles (record { end = refl; came = refl })

  unforgiven : is_fault (action_attempt (target_of m.probe) e.action).outcome ≡ false → is_unforgiven (target_of m.probe) e ≡ false
  unforgiven good = and_first (is_fault (action_attempt (target_of m.probe) e.action).outcome) (not e.forgiving) good
    where
      and_first : (x y : Bool) → x ≡ false → (x && y) ≡ false
      and_first true y k = cc
      and_first false y k = refl

  abbrev nothing : Part
  nothing = record { performed = 0; confirmed = 0; response = Good; values = [] }

  never_good : Good ≡ Mismatch → ⊥
  never_good k = cc

  alone : AreTogether bench.limits (drop log.confirmed (take (log.confirmed + 1) (issued_entries p (target_of m0.probe) log.calls)))
  alone = inr (ap (λ (n : ℕ). length (drop n (take (n + 1) (issued_entries p (target_of m0.probe) log.calls)))) (sym rest_is.confirmed_is) ∙ ap length (between (issued_entries p (target_of m0.probe) log.calls) rest_is.made (e ∷ []) rest seam))

  pub all_done : (word : ℕ) → HasDoneWhole e.action word m o → weight (target_of m.probe) e.action ≤ most_weight → length log.entries < 2 ^ 32 →
      IsEnded p (stop.BenchFault (log.confirmed + 1) log.confirmed) (reported_by bench state (record (log_with_entry log (kept_of e)) { end = Some (stop.BenchFault (log.confirmed + 1) log.confirmed) }) sent got) (take log.known log.results) m0 o
  all_done word d light bounded =
      let room : work_of o.probe < 2 ^ 64 = (let f = h.few in let w = (d.does counts).work in omega (arith, f, w, light, bounded)) in
      let sent_is : IsSending p log.calls (log.confirmed + 1) log.came [] rest [] (take log.known log.results) m0 o = action_sends p log.calls log.confirmed log.came e rest (take log.known log.results) m0 m o rest_is (d.does counts) (unforgiven d.good) room in
      let more : (log.confirmed + 1) + 0 ≡ log.confirmed + 1 = omega arith in
      fewer_confirmed p bench state sent got (log_with_entry log (kept_of e)) (log.confirmed + 1) (log.confirmed + 1) log.confirmed (take log.known log.results) m0 o (omega arith) alone
      (later_there p log.calls log.confirmed log.came [] (e ∷ rest) [] (take log.known log.results) m0 m rest_is)
      (subst (λ (n : ℕ). IsEnded p (stop.BenchFault n (log.confirmed + 1)) (reported_by bench state (record (log_with_entry log (kept_of e)) { end = Some (stop.BenchFault n (log.confirmed + 1)) }) sent got) (take log.known log.results) m0 o) more
      (flight_fails p (log.confirmed + 1) log.came [] rest [] (take log.known log.results) m0 o o nothing
      (reported_by bench state (record (log_with_entry log (kept_of e)) { end = Some (stop.BenchFault ((log.confirmed + 1) + 0) (log.confirmed + 1)) }) sent got)
      sent_is (inl refl) refl never_good (omega arith) (record { end = refl; came = refl })))

-- ---- any end

no_fault : (response : ℕ) (cause : StopCause) → IsCause response cause → response ≡ 0x02 → cause ≡ NoAnswer
no_fault response Faulted not two = absurd (not two)
no_fault response NoAnswer is two = refl

module _ (p : Planner) (bench : BenchReported) (state : Option BenchState) (sent got : List ℕ) (log : LogState) (e : Entry) (rest : List Entry) (m0 m o : BenchState) (h : IsIssuing p log [] (e ∷ rest) m0 m)
    (light : weight (target_of m.probe) e.action ≤ most_weight) (bounded : length log.entries < 2 ^ 32) where
  counts : CanCount e.action m
  counts = (let f = h.few in omega (arith, f, light, bounded))

  bench_failed : HasDoneWhole e.action (given_number (action_attempt (target_of m.probe) e.action).outcome) m o ⊎ DidLess e.action m o →
      IsEnded p (stop.BenchFault (log.confirmed + 1) log.confirmed) (reported_by bench state (record (log_with_entry log (kept_of e)) { end = Some (stop.BenchFault (log.confirmed + 1) log.confirmed) }) sent got) (take log.known log.results) m0 o
  bench_failed (inl d) = all_done p bench state sent got log e rest m0 m o h counts (given_number (action_attempt (target_of m.probe) e.action).outcome) d light bounded
  bench_failed (inr d) = less_done p bench state sent got log e rest m0 m o h counts d

  pub left_off : (end : FlightEnd) (s : Stop) (new : LogState) → LeftActionOff e.action end m o → NamesNoAccess end → LogIsStopped end (log_with_entry log (kept_of e)) new s → IsBrokenOff p s (reported_by bench state new sent got) new log.calls m0 o
  left_off (ends.Cut cut) (stop.Cut r) new left none is =
      let c = poll_cut p bench state sent got log e rest m0 m o h counts cut r new.lines new.skipped left.1 (no_fault cut.response r.cause is.cause left.0) is.accesses is.confirmed_is none is.numbers in
      subst (λ (x : LogState). IsBrokenOff p (stop.Cut r) (reported_by bench state x sent got) x log.calls m0 o) (sym is.next)
      (record { ended = c.ended; stops = λ n left. record { so = c.stops n left } })
  left_off (ends.Cut cut) (stop.BenchFault issued confirmed) new left none is = absurd is
  left_off (ends.Cut cut) stop.ReplyBad new left none is = absurd is
  left_off (ends.Cut cut) stop.OutOfMemory new left none is = absurd is
  left_off ends.BenchFault s new left none is =
      let count : length (log.entries ++ kept_of e ∷ []) ≡ log.confirmed + 1 = (let n = length-append log.entries (kept_of e ∷ []) in let k = at_rest_count p log (e ∷ rest) m0 m h in omega (arith, n, k)) in
      let at : s ≡ stop.BenchFault (log.confirmed + 1) log.confirmed = is.0 ∙ ap (λ (n : ℕ). stop.BenchFault n log.confirmed) count in
      let ended_at : IsBrokenOff p (stop.BenchFault (log.confirmed + 1) log.confirmed) (reported_by bench state (record (log_with_entry log (kept_of e)) { end = Some (stop.BenchFault (log.confirmed + 1) log.confirmed) }) sent got)
      (record (log_with_entry log (kept_of e)) { end = Some (stop.BenchFault (log.confirmed + 1) log.confirmed) }) log.calls m0 o =
      record { ended = bench_failed left; stops = λ n left. record { so = tt } } in
      subst (λ (x : LogState). IsBrokenOff p s (reported_by bench state x sent got) x log.calls m0 o) (sym is.1)
      (subst (λ (z : Stop). IsBrokenOff p z (reported_by bench state (record (log_with_entry log (kept_of e)) { end = Some z }) sent got) (record (log_with_entry log (kept_of e)) { end = Some z }) log.calls m0 o) (sym at) ended_at)
  left_off ends.ReplyBad s new left none is = absurd left

left_where : (p : Planner) (x y : Option BenchState) (bench : BenchReported) (sent got : List ℕ) (log : LogState) (e : Entry) (rest : List Entry) (m0 : BenchState) (end : FlightEnd) (s : Stop) (new : LogState) →
    WhereObservable x (λ m. IsIssuing p log [] (e ∷ rest) m0 m) → StepsTo (λ m o. CanFly m → LeftActionOff e.action end m o) x y → ((m : BenchState) → weight (target_of m.probe) e.action ≤ most_weight) → length log.entries < 2 ^ 32 → NamesNoAccess end → LogIsStopped end (log_with_entry log (kept_of e)) new s →
    WhereObservable y (λ o. IsBrokenOff p s (reported_by bench y new sent got) new log.calls m0 o)
left_where p None y bench sent got log e rest m0 end s new h broke light bounded none is = absurd h
left_where p (Some m) None bench sent got log e rest m0 end s new h broke light bounded none is = absurd broke
left_where p (Some m) (Some o) bench sent got log e rest m0 end s new h broke light bounded none is = left_off p bench (Some o) sent got log e rest m0 m o h (light m) bounded end s new (broke h.flies) none is

-- where the bench is observable, the access has ended so
pub has_left : (p : Planner) (x y : Option BenchState) (bench : BenchReported) (sent got : List ℕ) (log : LogState) (e : Entry) (rest : List Entry) (m0 : BenchState) (end : FlightEnd) (s : Stop) (new : LogState) →
    HasIssued p x log [] (e ∷ rest) m0 → StepsTo (λ m o. CanFly m → LeftActionOff e.action end m o) x y → ((m : BenchState) → weight (target_of m.probe) e.action ≤ most_weight) → length log.entries < 2 ^ 32 → NamesNoAccess end → LogIsStopped end (log_with_entry log (kept_of e)) new s →
    LogHasEnded p s (reported_by bench y new sent got) new m0
has_left p x y bench sent got log e rest m0 end s new h broke light bounded none is =
    record { so = ended_in p y s (reported_by bench y new sent got) new log.calls m0 (left_where p x y bench sent got log e rest m0 end s new h.so broke light bounded none is) }

-- and there the calls stop
pub stops_left : (p : Planner) (x y : Option BenchState) (bench : BenchReported) (sent got : List ℕ) (log : LogState) (e : Entry) (rest : List Entry) (m0 : BenchState) (end : FlightEnd) (s : Stop) (new : LogState) (n : Option ℕ) →
    HasIssued p x log [] (e ∷ rest) m0 → StepsTo (λ m o. CanFly m → LeftActionOff e.action end m o) x y → ((m : BenchState) → weight (target_of m.probe) e.action ≤ most_weight) → length log.entries < 2 ^ 32 → NamesNoAccess end → LogIsStopped end (log_with_entry log (kept_of e)) new s →
    IsLeft (reported_by bench y new sent got) n → StopsAfterLines m0 n log.calls new.lines s
stops_left p x y bench sent got log e rest m0 end s new n h broke light bounded none is left =
    stops_in p y s (reported_by bench y new sent got) new log.calls m0 n (left_where p x y bench sent got log e rest m0 end s new h.so broke light bounded none is) left
