-- How an access ends whose calls lie in a flight.
use Rattle.std.proofs.Common.{◌≡◌, ◌∙◌, ℕ, suc, ◌+◌, ◌≤◌, Bool, true, false, cond, List, [], ◌∷◌, ◌++◌, length, slice_get, take, IfSome, Option, Some, None, refl, sym, ap, subst, arith}
use Rattle.std.proofs.lemmas.List.{length-take}
use Rattle.target_machine.specs.State.{TargetState}
use Rattle.target_machine.specs.declared.access.RegAccess.{RegAccess}
use Rattle.probe_core.specs.Bench.{BenchState}
use Rattle.probe_core.specs.Probe.{target_of}
use Rattle.probe_core.specs.declared.job.Limits.{Limits}
use Rattle.target_calls.specs.Asks.{AreAskable}
use Rattle.target_calls.specs.Journal.{Entry, Passes, lines_before}
use Rattle.target_calls.specs.declared.calls.Ask.{Ask}
use Rattle.target_machine.specs.Fresh.{IsFresh}
use Rattle.target_calls.specs.World.{AtLeast, World, done_now, end_result, next_world, results, stops_here}
use Rattle.access_regs.specs.Journal.{issued_entries}
use Rattle.access_regs.specs.Kept.{Kept}
use Rattle.access_calls.specs.Growing.{IsAfter}
use Rattle.access_calls.specs.Left.{IsLeft, IsLeftAt, IsLeftCut}
use Rattle.access_calls.specs.Reported.{AccessView, began, world_from}
use Rattle.access_calls.specs.Made.{HasMemory, units_made}
use Rattle.access_calls.specs.Standing.{HasBroken, IsBenchFault, IsCutBy, StandsAt, WhereObservable, pending_of}
use Rattle.access_calls.specs.declared.stop.Report.{Report}
use Rattle.access_calls.specs.declared.stop.Stop.{Stop}
use Rattle.access_calls.specs.declared.stop.Stop.TheVariants.{BenchFault}
use Rattle.access_calls.specs.declared.stop.StopCause.{StopCause}
use Rattle.access_calls.specs.declared.stop.StopCause.TheVariants.{Faulted, NoAnswer}
use Rattle.flight_laws.specs.Ending.{ActionFails, BegunAt, BegunCame, BegunStands, EndsCut, FlightEnds, FlightFails, IsCutOff, IsStrictAt, PollEnds, StopsBy, response_of_cause}
use Rattle.flight_laws.specs.Flights.{IsCutAt}
use Rattle.flight_laws.specs.Sending.{IsSending}
use Rattle.flight_laws.proofs.ActionLemmas.{action_bench_law, action_wait_law}
use Rattle.flight_laws.proofs.CutLemmas.{bench_flies, fault_flies, wait_flies}
use Rattle.flight_laws.proofs.MadeLemmas.{fault_memory, own_unit, wait_memory}
use Rattle.flight_laws.proofs.OpenLemmas.{came_stands, open_stands}
use Rattle.flight_laws.proofs.OwnLemmas.{begun_stay}
use Rattle.flight_laws.proofs.StopLemmas.{entry_at, lines_cut, stops_at_fault, stops_at_wait}
use Rattle.access_regs.specs.declared.planner.Planner.{Planner}

-- ---- from the beginning on

enough : (a : AccessView) (n : Option ℕ) → a.end ≡ None → IsLeft a n → AtLeast a.came n
enough a n none left = subst (λ (e : Option Stop). IsLeftAt e a.lines a.came n) none left.so

stands_at : (p : Planner) (e : Option Stop) (a : AccessView) (kept : Kept) (accesses : List RegAccess) (came : List ℕ) (n : Option ℕ) (m0 m : BenchState) → a.end ≡ e → BegunAt p e a kept accesses came m0 m → IsLeft a n
    → StandsAt e (issued_entries p (target_of m0.probe) a.asks.calls) a (began m0 n) m
stands_at p None a kept accesses came n m0 m is begun left = open_stands p a kept accesses came n m0 m begun (enough a n is left)
stands_at p (Some s) a kept accesses came n m0 m is begun left = begun.stands n left

stands_where : (p : Planner) (x : Option BenchState) (a : AccessView) (kept : Kept) (accesses : List RegAccess) (came : List ℕ) (n : Option ℕ) (m0 : BenchState) → WhereObservable x (λ m. BegunAt p a.end a kept accesses came m0 m) → IsLeft a n
    → WhereObservable x (λ m. StandsAt a.end (issued_entries p (target_of m0.probe) a.asks.calls) a (began m0 n) m)
stands_where p None a kept accesses came n m0 begun left = begun
stands_where p (Some m) a kept accesses came n m0 begun left = stands_at p a.end a kept accesses came n m0 m refl begun left

pub begun_stands : BegunStands
begun_stands p a kept accesses came m0 n begun left = stands_where p a.state a kept accesses came n m0 begun.so left

came_at : (p : Planner) (e : Option Stop) (a : AccessView) (kept : Kept) (accesses : List RegAccess) (came : List ℕ) (n : Option ℕ) (m0 m : BenchState) → a.end ≡ e → BegunAt p e a kept accesses came m0 m → IsLeft a n
    → take (length came) (results (world_from m0 n) a.asks.calls) ≡ came
came_at p None a kept accesses came n m0 m is begun left =
    let c = came_stands p a kept accesses came n m0 m begun (enough a n is left) in
    ap (λ (k : ℕ). take k (results (world_from m0 n) a.asks.calls)) c.0 ∙ c.1
came_at p (Some s) a kept accesses came n m0 m is begun left = begun.results_are n left

came_where : (p : Planner) (x : Option BenchState) (a : AccessView) (kept : Kept) (accesses : List RegAccess) (came : List ℕ) (n : Option ℕ) (m0 : BenchState) → WhereObservable x (λ m. BegunAt p a.end a kept accesses came m0 m) → IsLeft a n
    → take (length came) (results (world_from m0 n) a.asks.calls) ≡ came
came_where p None a kept accesses came n m0 begun left = absurd begun
came_where p (Some m) a kept accesses came n m0 begun left = came_at p a.end a kept accesses came n m0 m refl begun left

pub begun_came : BegunCame
begun_came p a kept accesses came m0 n begun left = came_where p a.state a kept accesses came n m0 begun.so left

-- ---- a cut

-- what a cut makes of an access, by its cause
record Cutting (p : Planner) (why : StopCause) (r : Report) (b : AccessView) (m0 o : BenchState) : Type 0 where
  stands : (n : Option ℕ) → IsCutBy why (issued_entries p (target_of m0.probe) b.asks.calls) r b (began m0 n) o
  own : why ≡ Faulted → r.unit ≡ b.lines + 1
  memory : HasMemory (target_of m0.probe) b.asks.calls (units_made why (issued_entries p (target_of m0.probe) b.asks.calls) r b.lines) b.lines o
  cut : IsCutAt (issued_entries p (target_of m0.probe) b.asks.calls) r.confirmed (target_of m0.probe)
  stops : (n : Option ℕ) → IsLeftCut why b.lines b.lines n → StopsBy why (world_from m0 n) b.asks.calls b.lines

-- the world that is left after a cut
left_cut : (p : Planner) (r : Report) (b : AccessView) (m0 : BenchState) (n : Option ℕ) → IsCutOff p r b m0 → IsLeft b n → IsLeftCut r.cause b.lines b.lines n
left_cut p r b m0 n off left = subst (λ (k : ℕ). IsLeftCut r.cause b.lines k n) off.came (subst (λ (e : Option Stop). IsLeftAt e b.lines b.came n) off.end left.so)

-- the calls that have their lines before it are answered
lines_answered : (why : StopCause) (lines : ℕ) (n : Option ℕ) → IsLeftCut why lines lines n → AtLeast lines n
lines_answered Faulted lines n left = left
lines_answered NoAnswer lines n left = subst (AtLeast lines) (sym left) (omega arith)

fewer_answered : (few many : ℕ) (n : Option ℕ) → few ≤ many → AtLeast many n → AtLeast few n
fewer_answered few many None le h = tt
fewer_answered few many (Some n) le h = omega (arith, le, h)

ends_cut : (p : Planner) (confirmed count : ℕ) (flying rest : List Entry) (accesses : List RegAccess) (came : List ℕ) (m0 m o : BenchState) (r : Report) (b : AccessView)
    → IsSending p b.asks.calls confirmed count flying rest accesses came m0 m → confirmed ≤ r.confirmed → IsCutOff p r b m0 → Cutting p r.cause r b m0 o → EndsCut p r b count came m0 o
ends_cut p confirmed count flying rest accesses came m0 m o r b s low off c =
    let kept : count ≤ b.lines = (let l = lines_cut (issued_entries p (target_of m0.probe) b.asks.calls) (target_of m0.probe) b.asks.calls b.skipped b.lines r c.cut off.numbers in
    let k = s.lines r.confirmed low c.cut in omega (arith, l, k)) in
    record {
      ended = record {
        stands = λ n left. record { stands = c.stands n; own = c.own; memory = c.memory };
        results_are = λ n left.
            ap (λ (k : ℕ). take k (results (world_from m0 n) b.asks.calls)) s.length_is
            ∙ s.results_are n (fewer_answered count b.lines n kept (lines_answered r.cause b.lines n (left_cut p r b m0 n off left)));
      };
      kept = kept;
      stops = λ n left. c.stops n (left_cut p r b m0 n off left);
    }

-- where a retry ended the calls stop in the world of so many calls
wait_stops_by : (p : Planner) (b : AccessView) (m0 : BenchState) (r : Report) (confirmed count : ℕ) (flying rest : List Entry) (accesses : List RegAccess) (came : List ℕ) (m : BenchState)
    → IsSending p b.asks.calls confirmed count flying rest accesses came m0 m → IsCutOff p r b m0 → IsCutAt (issued_entries p (target_of m0.probe) b.asks.calls) r.confirmed (target_of m0.probe)
    → (n : Option ℕ) → n ≡ Some b.lines → StopsBy NoAnswer (world_from m0 n) b.asks.calls b.lines
wait_stops_by p b m0 r confirmed count flying rest accesses came m s off cut n is =
    subst (λ (k : Option ℕ). StopsBy NoAnswer (world_from m0 k) b.asks.calls b.lines) (sym is)
    (flat (stops_at_wait p (target_of m0.probe) b.asks.calls r b.skipped b.lines s.fresh s.askable cut off.numbers))
  where
    flat : StopsBy NoAnswer (world_from m0 (Some b.lines)) b.asks.calls b.lines → StopsBy NoAnswer (world_from m0 (Some b.lines)) b.asks.calls b.lines
    flat h = h

pub flight_ends : FlightEnds
flight_ends p confirmed count flying rest accesses came m0 m o part r b s flies response strict accesses_is confirmed_is off =
    ends_cut p confirmed count flying rest accesses came m0 m o r b s (omega (arith, confirmed_is)) off (by_cause r.cause response strict)
  where
    t0 : TargetState
    t0 = target_of m0.probe

    performed : r.accesses ≡ length s.made + part.performed
    performed = (let c = s.confirmed_is in omega (arith, c, accesses_is))

    known : r.confirmed ≡ length s.made + part.confirmed
    known = (let c = s.confirmed_is in omega (arith, c, confirmed_is))

    by_cause : (why : StopCause) → part.response ≡ response_of_cause why → IsStrictAt why flying → Cutting p why r b m0 o
    by_cause Faulted bad strict =
        let f = λ (n : Option ℕ). fault_flies (issued_entries p (target_of m0.probe) b.asks.calls) s.made flying rest accesses n m0 m o part r b s.on flies bad strict performed known off.numbers in
        record {
          stands = λ n. (f n).0;
          own = λ same. own_unit p m0 o b.asks.calls r b.skipped b.lines s.fresh s.askable (f None).1.cut off.numbers (f None).0.performed.target (f None).1.bad (f None).1.strict;
          memory = fault_memory p m0 o b.asks.calls r b.skipped b.lines s.fresh s.askable (f None).1.cut off.numbers (f None).0.performed.target (f None).1.bad (f None).1.strict (f None).0.confirmed;
          cut = (f None).1.cut;
          stops = λ n left. stops_at_fault p (target_of m0.probe) b.asks.calls r b.skipped b.lines n s.fresh s.askable (f None).1 off.numbers left;
        }
    by_cause NoAnswer wait strict =
        let f = λ (n : Option ℕ). wait_flies (issued_entries p (target_of m0.probe) b.asks.calls) s.made flying rest accesses n m0 m o part r b s.on flies wait performed known off.numbers in
        record {
          stands = λ n. (f n).0;
          own = λ same. absurd (let x : ◌≡◌ {A = StopCause} NoAnswer Faulted = same in cc);
          memory = wait_memory p m0 o b.asks.calls r b.skipped b.lines s.fresh s.askable (f None).1 off.numbers (f None).0.performed.target (pending_of o) (f None).0.confirmed;
          cut = (f None).1;
          stops = λ n left. wait_stops_by p b m0 r confirmed count flying rest accesses came m s off (f None).1 n left;
        }

pub poll_ends : PollEnds
poll_ends p confirmed count e rest came m0 m o work r b s grown less same idle retries over number pending why accesses_is confirmed_is off =
    ends_cut p confirmed count [] (e ∷ rest) [] came m0 m o r b s (omega (arith, confirmed_is)) off (subst (λ (c : StopCause). Cutting p c r b m0 o) (sym why) cutting)
  where
    cut : IsCutAt (issued_entries p (target_of m0.probe) b.asks.calls) r.confirmed (target_of m0.probe)
    cut = record { front = s.made; entry = e; more = rest; is = s.on.are; at = s.confirmed_is ∙ sym confirmed_is; passes = s.on.passes }

    stands : (n : Option ℕ) → IsCutBy NoAnswer (issued_entries p (target_of m0.probe) b.asks.calls) r b (began m0 n) o
    stands n = action_wait_law (issued_entries p (target_of m0.probe) b.asks.calls) s.made e rest n m0 m o work r b s.on grown less same idle retries over number pending (accesses_is ∙ sym s.confirmed_is) (confirmed_is ∙ sym s.confirmed_is) off.numbers

    cutting : Cutting p NoAnswer r b m0 o
    cutting = record {
      stands = stands;
      own = λ why. absurd (let x : ◌≡◌ {A = StopCause} NoAnswer Faulted = why in cc);
      memory = wait_memory p m0 o b.asks.calls r b.skipped b.lines s.fresh s.askable cut off.numbers (stands None).performed.target (pending_of o) (stands None).confirmed;
      cut = cut;
      stops = λ n left. wait_stops_by p b m0 r confirmed count [] (e ∷ rest) [] came m s off cut n left;
    }

-- ---- a bench that failed

-- no entry comes after the last
none_after : (made : List Entry) → slice_get (made ++ []) (length made) ≡ None
none_after [] = refl
none_after (x ∷ made) = none_after made

-- the first entry that is not confirmed has the lines of all calls before it that came
pub later_at : (entries made more : List Entry) (t : TargetState) (confirmed count : ℕ) → entries ≡ made ++ more → length made ≡ confirmed → Passes t made
    → ((k : ℕ) → confirmed ≤ k → (cut : IsCutAt entries k t) → count ≤ lines_before cut.entry) → IfSome (slice_get entries confirmed) (IsAfter count)
later_at entries made [] t confirmed count are at passes lines =
    subst (λ (x : Option Entry). IfSome x (IsAfter count)) (sym ((λ j. slice_get (are j) (sym at j)) ∙ none_after made)) tt
later_at entries made (e ∷ more) t confirmed count are at passes lines =
    let cut : IsCutAt entries confirmed t = record { front = made; entry = e; more = more; is = are; at = at; passes = passes } in
    subst (λ (x : Option Entry). IfSome x (IsAfter count)) (sym ((λ j. slice_get (are j) (sym at j)) ∙ entry_at made e more)) (lines confirmed (omega arith) cut)

pub later_there : (p : Planner) (calls : List Ask) (confirmed count : ℕ) (flying rest : List Entry) (accesses : List RegAccess) (came : List ℕ) (m0 m : BenchState)
    → IsSending p calls confirmed count flying rest accesses came m0 m → IfSome (slice_get (issued_entries p (target_of m0.probe) calls) confirmed) (IsAfter count)
later_there p calls confirmed count flying rest accesses came m0 m s =
    later_at (issued_entries p (target_of m0.probe) calls) s.made (flying ++ rest) (target_of m0.probe) confirmed count s.on.are s.confirmed_is s.on.passes s.lines

-- what was begun is of the calls up to the first that ends at a fault
pub bench_fault : (p : Planner) (limits : Limits) (asks : List Ask) (came issued_count confirmed : ℕ) (n : Option ℕ) (m0 o : BenchState) → IsFresh (target_of m0.probe) → AreAskable asks
    → came ≤ length asks → IfSome (slice_get (issued_entries p (target_of m0.probe) asks) confirmed) (IsAfter came)
    → HasBroken limits (issued_entries p (target_of m0.probe) asks) issued_count confirmed (began m0 n) o → IsBenchFault limits asks came (issued_entries p (target_of m0.probe) asks) issued_count confirmed (began m0 n) o
bench_fault p limits asks came issued_count confirmed n m0 o fresh ok asked later h = record { broken = h; asked = asked; later = later; own = begun_stay p (target_of m0.probe) asks h.begun fresh ok h.good }

-- the calls that came stay answered
came_left : (issued confirmed : ℕ) (b : AccessView) (n : Option ℕ) → b.end ≡ Some (BenchFault issued confirmed) → IsLeft b n → AtLeast b.came n
came_left issued confirmed b n end left = subst (λ (e : Option Stop). IsLeftAt e b.lines b.came n) end left.so

-- the calls that it counts as come are those that came
later_here : (p : Planner) (confirmed count : ℕ) (flying rest : List Entry) (accesses : List RegAccess) (came : List ℕ) (m0 m : BenchState) (b : AccessView) → b.came ≡ count
    → IsSending p b.asks.calls confirmed count flying rest accesses came m0 m → IfSome (slice_get (issued_entries p (target_of m0.probe) b.asks.calls) confirmed) (IsAfter b.came)
later_here p confirmed count flying rest accesses came m0 m b same s =
    subst (λ (k : ℕ). IfSome (slice_get (issued_entries p (target_of m0.probe) b.asks.calls) confirmed) (IsAfter k)) (sym same) (later_there p b.asks.calls confirmed count flying rest accesses came m0 m s)

-- no more calls have results than there are
pub results_few : (w : World) (calls : List Ask) → length (results w calls) ≤ length calls
results_few w [] = omega arith
results_few w (ask ∷ calls) = by_here (stops_here w ask) (results_few (next_world w ask) calls)
  where
    by_here : (b : Bool) → length (results (next_world w ask) calls) ≤ length calls → length (cond b [] (end_result (done_now w ask).end ∷ results (next_world w ask) calls)) ≤ suc (length calls)
    by_here true le = omega arith
    by_here false le = omega (arith, le)

-- no more calls have come than there are
pub calls_have_come : (p : Planner) (calls : List Ask) (confirmed count : ℕ) (flying rest : List Entry) (accesses : List RegAccess) (came : List ℕ) (m0 m : BenchState)
    → IsSending p calls confirmed count flying rest accesses came m0 m → count ≤ length calls
calls_have_come p calls confirmed count flying rest accesses came m0 m s =
    let all : List ℕ = results (world_from m0 None) calls in
    let taken : length (take count all) ≡ count = ap length (s.results_are None tt) ∙ s.length_is in
    let few = length-take count all in
    let most = results_few (world_from m0 None) calls in
    grind (arith, taken, few, most)

asked_here : (p : Planner) (confirmed count : ℕ) (flying rest : List Entry) (accesses : List RegAccess) (came : List ℕ) (m0 m : BenchState) (b : AccessView) → b.came ≡ count
    → IsSending p b.asks.calls confirmed count flying rest accesses came m0 m → b.came ≤ length b.asks.calls
asked_here p confirmed count flying rest accesses came m0 m b same s =
    subst (λ (k : ℕ). k ≤ length b.asks.calls) (sym same) (calls_have_come p b.asks.calls confirmed count flying rest accesses came m0 m s)

pub flight_fails : FlightFails
flight_fails p confirmed count flying rest accesses came m0 m o part b s either idle never held ended = record {
  stands = λ n left. bench_fault p b.bench.limits b.asks.calls b.came (confirmed + length flying) confirmed n m0 o s.fresh s.askable (asked_here p confirmed count flying rest accesses came m0 m b ended.came s)
      (later_here p confirmed count flying rest accesses came m0 m b ended.came s)
      (subst (λ (k : ℕ). HasBroken b.bench.limits (issued_entries p (target_of m0.probe) b.asks.calls) (k + length flying) k (began m0 n) o) s.confirmed_is
      (bench_flies b.bench.limits (issued_entries p (target_of m0.probe) b.asks.calls) s.made flying rest accesses n m0 m o part s.on either idle never held));
  results_are = λ n left.
      ap (λ (k : ℕ). take k (results (world_from m0 n) b.asks.calls)) s.length_is
      ∙ s.results_are n (subst (λ (k : ℕ). AtLeast k n) ended.came (came_left (confirmed + length flying) confirmed b n ended.end left));
}

pub action_fails : ActionFails
action_fails p confirmed count e rest came m0 m o work b s grown less either idle ended = record {
  stands = λ n left. bench_fault p b.bench.limits b.asks.calls b.came (confirmed + 1) confirmed n m0 o s.fresh s.askable (asked_here p confirmed count [] (e ∷ rest) [] came m0 m b ended.came s)
      (later_here p confirmed count [] (e ∷ rest) [] came m0 m b ended.came s)
      (subst (λ (k : ℕ). HasBroken b.bench.limits (issued_entries p (target_of m0.probe) b.asks.calls) (k + 1) k (began m0 n) o) s.confirmed_is
      (action_bench_law b.bench.limits (issued_entries p (target_of m0.probe) b.asks.calls) s.made e rest n m0 m o work s.on grown less either idle));
  results_are = λ n left.
      ap (λ (k : ℕ). take k (results (world_from m0 n) b.asks.calls)) s.length_is
      ∙ s.results_are n (subst (λ (k : ℕ). AtLeast k n) ended.came (came_left (confirmed + 1) confirmed b n ended.end left));
}
