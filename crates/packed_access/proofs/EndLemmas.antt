-- A flight that did not come to its end.
use Rattle.std.proofs.Common.{◌≡◌, ◌∙◌, ℕ, zero, suc, ◌+◌, ◌-◌, ◌<◌, ◌≤◌, List, [], ◌∷◌, length, take, Option, Some, None, refl, sym, subst, arith}
use Rattle.std.proofs.lemmas.List.{length-take}
use Rattle.std.specs.Prelude.{slice_get}
use Rattle.target_machine.specs.declared.access.RegAccess.{RegAccess}
use Rattle.probe_core.specs.Bench.{BenchState, StepsTo}
use Rattle.probe_core.specs.Bench.{Reported as BenchReported}
use Rattle.probe_core.specs.Probe.{target_of}
use Rattle.target_calls.specs.Journal.{Entry, attempted_in, skipped_in}
use Rattle.target_calls.specs.declared.calls.Ask.{Ask}
use Rattle.access_regs.specs.Journal.{issued_entries}
use Rattle.access_calls.specs.Issued.{AreKeptOf}
use Rattle.access_calls.specs.Left.{IsLeft}
use Rattle.access_calls.specs.Numbers.{HasNumbers, attempted_by, lines_at, unit_at}
use Rattle.access_calls.specs.Reported.{AccessView}
use Rattle.access_calls.specs.Standing.{WhereObservable, flight_accesses}
use Rattle.access_calls.specs.declared.stop.Report.{Report}
use Rattle.access_calls.specs.declared.stop.Stop.{Stop}
use Rattle.access_calls.specs.declared.stop.Stop.TheVariants as stop
use Rattle.access_calls.specs.declared.stop.StopCause.{StopCause}
use Rattle.access_calls.specs.declared.stop.StopCause.TheVariants.{Faulted, NoAnswer}
use Rattle.batch_packer.specs.Flying.{CanFly}
use Rattle.batch_packer.specs.declared.ends.Cut.{Cut}
use Rattle.batch_packer.specs.declared.ends.FlightEnd.{FlightEnd}
use Rattle.batch_packer.specs.declared.ends.FlightEnd.TheVariants as ends
use Rattle.flight_laws.specs.Ending.{EndsCut, IsCutOff, IsEnded, IsStrictAt, response_of_cause}
use Rattle.flight_laws.proofs.EndLemmas.{flight_ends, flight_fails}
use Rattle.flight_laws.proofs.FlightLemmas.{flight_length}
use Rattle.packed_access.specs.Begun.{HasIssued, IsIssuing, LogHasEnded, StopsAfterLines}
use Rattle.bench_flights.specs.Flown.{BrokeOff, MayHaveDonePart, WasCut}
use Rattle.packed_access.specs.Logs.{IsCause, LogIsStopped, LogState, reported_by}
use Rattle.packed_access.proofs.WholeLemmas.{take_first}
use Rattle.access_regs.specs.declared.planner.Planner.{Planner}

-- ---- the numbers of a stop among more entries

get_first : {A : Type 0} → (n : ℕ) (xs : List A) (k : ℕ) → k < n → slice_get (take n xs) k ≡ slice_get xs k
get_first zero xs k less = absurd (omega (arith, less))
get_first (suc n) [] k less = refl
get_first (suc n) (x ∷ xs) zero less = refl
get_first (suc n) (x ∷ xs) (suc k) less = get_first n xs k (omega (arith, less))

pub numbers_longer : (entries : List Entry) (n : ℕ) (calls : List Ask) (skipped lines : ℕ) (r : Report) → HasNumbers (take n entries) calls skipped lines r → r.accesses ≤ n → HasNumbers entries calls skipped lines r
numbers_longer entries n calls skipped lines r h le = record {
  named = (let a = h.named in let l = length-take n entries in grind (arith, a, l));
  numbers = h.numbers ∙ (λ j. record {
    unit = unit_at (at j);
    attempted = attempted_by r.cause (unit_at (at j)) (attempted_in (front j));
    skipped = skipped_in (front j);
    lines = lines_at (at j);
  });
  what = h.what;
}
  where
    at : slice_get (take n entries) r.confirmed ≡ slice_get entries r.confirmed
    at = get_first n entries r.confirmed (let a = h.named in let l = length-take n entries in grind (arith, a, l))

    front : take r.accesses (take n entries) ≡ take r.accesses entries
    front = take_first r.accesses n entries le

-- ---- a cut

module _ (p : Planner) (bench : BenchReported) (state : Option BenchState) (sent got : List ℕ) (log : LogState) (accesses : List RegAccess) (rest : List Entry) (m0 m o : BenchState) (h : IsIssuing p log accesses rest m0 m) where
  module _ (cut : Cut) (r : Report) (lines skipped : ℕ) (broke : WasCut cut accesses m o) (cause : IsCause cut.response r.cause) (accesses_are : r.accesses ≡ log.confirmed + cut.performed) (confirmed_are : r.confirmed ≡ log.confirmed + cut.confirmed)
      (numbers : (all : List Entry) → AreKeptOf all log.entries → HasNumbers all log.calls skipped lines r) where
    abbrev b : AccessView
    b = reported_by bench state (record log { end = Some (stop.Cut r); came = lines; lines = lines; skipped = skipped }) sent got

    few : r.accesses ≤ length log.entries
    few =
        let part_is = broke.performed in
        let most = broke.flies.does.made.most in
        let l = flight_length h.flying accesses h.sending.on.flight in
        let n = h.count in
        omega (arith, accesses_are, part_is, most, l, n)

    cut_off : IsCutOff p r b m0
    cut_off = record {
      end = refl;
      numbers = numbers_longer (issued_entries p (target_of m0.probe) log.calls) (length log.entries) log.calls skipped lines r (numbers (take (length log.entries) (issued_entries p (target_of m0.probe) log.calls)) h.entries_are) few;
      came = refl;
    }

    response_is : (x : StopCause) → IsCause cut.response x → broke.part.response ≡ response_of_cause x
    response_is Faulted c = broke.fault c
    response_is NoAnswer c = broke.wait c

    strict_at : (x : StopCause) → IsStrictAt x h.flying
    strict_at Faulted = h.strict
    strict_at NoAnswer = tt

    pub cut_ends : EndsCut p r b log.came (take log.known log.results) m0 o
    cut_ends = flight_ends p log.confirmed log.came h.flying rest accesses (take log.known log.results) m0 m o broke.part r b h.sending broke.flies (response_is r.cause cause) (strict_at r.cause)
        (let part_is = broke.performed in omega (arith, accesses_are, part_is)) (let part_is = broke.confirmed in omega (arith, confirmed_are, part_is)) cut_off

  -- ---- the bench failed

  abbrev failed : LogState
  failed = record log { end = Some (stop.BenchFault (length log.entries) log.confirmed) }

  pub bench_ends : length accesses ≤ flight_accesses bench.limits → MayHaveDonePart accesses m o → IsEnded p (stop.BenchFault (length log.entries) log.confirmed) (reported_by bench state (record log { end = Some (stop.BenchFault (length log.entries) log.confirmed) }) sent got) (take log.known log.results) m0 o
  bench_ends held broke =
      subst (λ (n : ℕ). IsEnded p (stop.BenchFault n log.confirmed) (reported_by bench state (record log { end = Some (stop.BenchFault n log.confirmed) }) sent got) (take log.known log.results) m0 o) h.count
      (flight_fails p log.confirmed log.came h.flying rest accesses (take log.known log.results) m0 m o broke.part
      (reported_by bench state (record log { end = Some (stop.BenchFault (log.confirmed + length h.flying) log.confirmed) }) sent got)
      h.sending broke.either broke.idle_cycles broke.never held (record { end = refl; came = refl }))

-- ---- any end

-- what is so after an end
pub record IsBrokenOff (p : Planner) (s : Stop) (a : AccessView) (log : LogState) (calls : List Ask) (m0 o : BenchState) : Type 0 where
  pub ended : IsEnded p s a (take log.known log.results) m0 o
  pub stops : (n : Option ℕ) → IsLeft a n → StopsAfterLines m0 n calls log.lines s

module _ (p : Planner) (bench : BenchReported) (state : Option BenchState) (sent got : List ℕ) (log : LogState) (accesses : List RegAccess) (rest : List Entry) (m0 m o : BenchState) (h : IsIssuing p log accesses rest m0 m) where
  pub broken_off : length accesses ≤ flight_accesses bench.limits → (end : FlightEnd) (s : Stop) (new : LogState) → BrokeOff end accesses m o → LogIsStopped end log new s → IsBrokenOff p s (reported_by bench state new sent got) new log.calls m0 o
  broken_off held (ends.Cut cut) (stop.Cut r) new broke is =
      let e = cut_ends p bench state sent got log accesses rest m0 m o h cut r new.lines new.skipped broke is.cause is.accesses is.confirmed_is is.numbers in
      subst (λ (x : LogState). IsBrokenOff p (stop.Cut r) (reported_by bench state x sent got) x log.calls m0 o) (sym is.next)
      (record { ended = e.ended; stops = λ n left. record { so = e.stops n left } })
  broken_off held (ends.Cut cut) (stop.BenchFault issued confirmed) new broke is = absurd is
  broken_off held (ends.Cut cut) stop.ReplyBad new broke is = absurd is
  broken_off held (ends.Cut cut) stop.OutOfMemory new broke is = absurd is
  broken_off held ends.BenchFault s new broke is =
      let here : IsBrokenOff p (stop.BenchFault (length log.entries) log.confirmed) (reported_by bench state (record log { end = Some (stop.BenchFault (length log.entries) log.confirmed) }) sent got) (record log { end = Some (stop.BenchFault (length log.entries) log.confirmed) }) log.calls m0 o =
      record { ended = bench_ends p bench state sent got log accesses rest m0 m o h held broke; stops = λ n left. record { so = tt } } in
      let at_s : IsBrokenOff p s (reported_by bench state (record log { end = Some s }) sent got) (record log { end = Some s }) log.calls m0 o =
      subst (λ (x : Stop). IsBrokenOff p x (reported_by bench state (record log { end = Some x }) sent got) (record log { end = Some x }) log.calls m0 o) (sym is.0) here in
      subst (λ (x : LogState). IsBrokenOff p s (reported_by bench state x sent got) x log.calls m0 o) (sym is.1) at_s
  broken_off held ends.ReplyBad s new broke is = absurd broke

broken_where : (p : Planner) (x y : Option BenchState) (bench : BenchReported) (sent got : List ℕ) (log : LogState) (accesses : List RegAccess) (rest : List Entry) (m0 : BenchState) (end : FlightEnd) (s : Stop) (new : LogState) →
    length accesses ≤ flight_accesses bench.limits → WhereObservable x (λ m. IsIssuing p log accesses rest m0 m) → StepsTo (λ m o. CanFly m → BrokeOff end accesses m o) x y → LogIsStopped end log new s →
    WhereObservable y (λ o. IsBrokenOff p s (reported_by bench y new sent got) new log.calls m0 o)
broken_where p None y bench sent got log accesses rest m0 end s new held h broke is = absurd h
broken_where p (Some m) None bench sent got log accesses rest m0 end s new held h broke is = absurd broke
broken_where p (Some m) (Some o) bench sent got log accesses rest m0 end s new held h broke is = broken_off p bench (Some o) sent got log accesses rest m0 m o h held end s new (broke h.flies) is

pub ended_in : (p : Planner) (y : Option BenchState) (s : Stop) (a : AccessView) (log : LogState) (calls : List Ask) (m0 : BenchState) → WhereObservable y (λ o. IsBrokenOff p s a log calls m0 o) → WhereObservable y (λ o. IsEnded p s a (take log.known log.results) m0 o)
ended_in p None s a log calls m0 h = h
ended_in p (Some o) s a log calls m0 h = h.ended

pub stops_in : (p : Planner) (y : Option BenchState) (s : Stop) (a : AccessView) (log : LogState) (calls : List Ask) (m0 : BenchState) (n : Option ℕ) → WhereObservable y (λ o. IsBrokenOff p s a log calls m0 o) → IsLeft a n → StopsAfterLines m0 n calls log.lines s
stops_in p None s a log calls m0 n h left = absurd h
stops_in p (Some o) s a log calls m0 n h left = h.stops n left

-- where the bench is observable, the access has ended so
pub has_ended : (p : Planner) (x y : Option BenchState) (bench : BenchReported) (sent got : List ℕ) (log : LogState) (accesses : List RegAccess) (rest : List Entry) (m0 : BenchState) (end : FlightEnd) (s : Stop) (new : LogState) →
    length accesses ≤ flight_accesses bench.limits → HasIssued p x log accesses rest m0 → StepsTo (λ m o. CanFly m → BrokeOff end accesses m o) x y → LogIsStopped end log new s →
    LogHasEnded p s (reported_by bench y new sent got) new m0
has_ended p x y bench sent got log accesses rest m0 end s new held h broke is = record { so = ended_in p y s (reported_by bench y new sent got) new log.calls m0 (broken_where p x y bench sent got log accesses rest m0 end s new held h.so broke is) }

-- and there the calls stop
pub stops_there : (p : Planner) (x y : Option BenchState) (bench : BenchReported) (sent got : List ℕ) (log : LogState) (accesses : List RegAccess) (rest : List Entry) (m0 : BenchState) (end : FlightEnd) (s : Stop) (new : LogState) (n : Option ℕ) →
    length accesses ≤ flight_accesses bench.limits → HasIssued p x log accesses rest m0 → StepsTo (λ m o. CanFly m → BrokeOff end accesses m o) x y → LogIsStopped end log new s →
    IsLeft (reported_by bench y new sent got) n → StopsAfterLines m0 n log.calls new.lines s
stops_there p x y bench sent got log accesses rest m0 end s new n held h broke is left =
    stops_in p y s (reported_by bench y new sent got) new log.calls m0 n (broken_where p x y bench sent got log accesses rest m0 end s new held h.so broke is) left
