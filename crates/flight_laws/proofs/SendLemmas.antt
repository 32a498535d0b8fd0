-- A flight that is about to be sent.
use Rattle.std.proofs.Common.{◌≡◌, ◌⊎◌, inl, inr, ◌∙◌, ℕ, ◌+◌, ◌-◌, ◌≤◌, Bool, true, false, cond, List, [], ◌∷◌, ◌++◌, length, take, Option, None, refl, sym, ap, subst, arith, append-nil, append_assoc, length-append}
use Rattle.std.proofs.Math.Seq.{take-append_seam}
use Rattle.target_machine.specs.Fresh.{IsFresh}
use Rattle.target_machine.specs.State.{TargetState}
use Rattle.target_machine.specs.declared.access.RegAccess.{RegAccess}
use Rattle.probe_core.specs.Bench.{BenchState}
use Rattle.probe_core.specs.Probe.{target_of}
use Rattle.target_calls.specs.Asks.{AreAskable, settled_last}
use Rattle.target_calls.specs.Journal.{Entry, Passes, lines_before, settles}
use Rattle.target_calls.specs.Weights.{AreWeighty}
use Rattle.target_calls.specs.World.{AtLeast, World, results, start_world, stop, world_after}
use Rattle.target_calls.specs.declared.calls.Ask.{Ask}
use Rattle.target_calls.specs.declared.journal.Part.TheVariants.{Settles}
use Rattle.target_calls.proofs.CallLists.{append_results, count_of}
use Rattle.target_calls.proofs.EntryLemmas.{pass_front}
use Rattle.target_calls.proofs.MarkLemmas.{results_marked}
use Rattle.access_regs.specs.Journal.{issued_entries, numbered_entries, steps_of}
use Rattle.access_regs.specs.Kept.{Kept}
use Rattle.access_regs.specs.Plan.{settle}
use Rattle.access_regs.specs.Stops.{NoneStops}
use Rattle.access_regs.proofs.EntryLemmas.{journal_grows, journal_marks, askable_first}
use Rattle.access_regs.proofs.Seams.{InFirst, InSecond, seam_in}
use Rattle.access_regs.proofs.StopLists.{finish_settles, numbered_unit, passing_stops}
use Rattle.access_regs.proofs.WeightyLemmas.{journal_weighs}
use Rattle.access_calls.specs.Reported.{AccessView, world_from}
use Rattle.flight_laws.specs.Flights.{IsCutAt}
use Rattle.flight_laws.specs.Flying.{IsFlying}
use Rattle.flight_laws.specs.Sending.{ActionSends, CallSends, FinishSends, FlyingSends, ForgivenSends, PushSends, WholeSends, entries_of_call, entries_of_finish}
use Rattle.flight_laws.proofs.ActionLemmas.{action_done, fault_forgiven}
use Rattle.flight_laws.proofs.FlightLemmas.{whole_flies}
use Rattle.flight_laws.proofs.OpenLemmas.{whole_results}
use Rattle.flight_laws.proofs.PushLemmas.{entry_pushed, journal_grew}
use Rattle.flight_laws.proofs.StopLemmas.{came_before}
use Rattle.flight_laws.proofs.GoLemmas.{askable_both}
use Rattle.flight_laws.proofs.UnderWayLemmas.{weighty_tail}
use Rattle.access_regs.specs.declared.planner.Planner.{Planner}

-- what is known of the calls that came
pub record HaveCome (p : Planner) (calls : List Ask) (confirmed count : ℕ) (came : List ℕ) (m0 : BenchState) : Type 0 where
  pub length_is : length came ≡ count
  pub results_are : (n : Option ℕ) → AtLeast count n → take count (results (world_from m0 n) calls) ≡ came
  pub lines : (k : ℕ) → confirmed ≤ k → (cut : IsCutAt (issued_entries p (target_of m0.probe) calls) k (target_of m0.probe)) → count ≤ lines_before cut.entry

-- they are the first ones, all of whose entries were made
module _ (p : Planner) (calls front back : List Ask) (part made : List Entry) (confirmed count : ℕ) (came : List ℕ) (m0 : BenchState) (fresh : IsFresh (target_of m0.probe)) (askable : AreAskable calls) (calls_are : calls ≡ front ++ back)
    (made_is : made ≡ issued_entries p (target_of m0.probe) front ++ part) (passes : Passes (target_of m0.probe) made) (confirmed_is : length made ≡ confirmed) (came_is : count ≡ length front) (came_are : came ≡ results (start_world (target_of m0.probe) None) front) where
  abbrev t0 : TargetState
  t0 = target_of m0.probe

  none_stops : NoneStops t0 [] front
  none_stops = passing_stops p t0 front fresh (askable_first front back (subst AreAskable calls_are askable)) (pass_front t0 (issued_entries p t0 front) part (subst (Passes t0) made_is passes))

  front_length : length came ≡ count
  front_length = ap length came_are ∙ count_of (start_world t0 None) front (none_stops.stops None tt) ∙ sym came_is

  first_results : (n : Option ℕ) → AtLeast count n → take count (results (world_from m0 n) calls) ≡ came
  first_results n enough =
      let w : World = world_from m0 n in
      let whole : stop w front ≡ None = none_stops.stops n (subst (λ (k : ℕ). AtLeast k n) came_is enough) in
      let first : results w front ≡ came = whole_results w front whole ∙ sym came_are in
      let split : results w calls ≡ came ++ results (world_after w front) back = ap (results w) calls_are ∙ append_results w front back whole ∙ ap (λ (l : List ℕ). l ++ results (world_after w front) back) first in
      (λ j. take (sym front_length j) (split j)) ∙ take-append_seam came (results (world_after w front) back)

  first_lines : (k : ℕ) → confirmed ≤ k → (cut : IsCutAt (issued_entries p t0 calls) k t0) → count ≤ lines_before cut.entry
  first_lines k low cut =
      let there : IsCutAt (issued_entries p t0 (front ++ back)) k t0 = record { front = cut.front; entry = cut.entry; more = cut.more; is = ap (issued_entries p t0) (sym calls_are) ∙ cut.is; at = cut.at; passes = cut.passes } in
      let long = ap length made_is ∙ length-append (issued_entries p t0 front) part in
      let few : length front ≤ lines_before cut.entry = came_before p t0 front back k (omega (arith, low, confirmed_is, long)) there in
      omega (arith, few, came_is)

  pub first_come : HaveCome p calls confirmed count came m0
  first_come = record { length_is = front_length; results_are = first_results; lines = first_lines }

flying_come : (p : Planner) (a : AccessView) (kept : Kept) (accesses : List RegAccess) (came : List ℕ) (m0 m : BenchState) (f : IsFlying p a kept accesses came m0 m) (calls more : List Ask) → AreAskable calls → calls ≡ a.asks.calls ++ more → HaveCome p calls a.confirmed a.came came m0
flying_come p a kept accesses came m0 m f calls more askable is =
    first_come p calls f.front (f.back ++ more) f.part f.made a.confirmed a.came came m0 f.fresh askable (is ∙ ap (λ (l : List Ask). l ++ more) f.calls ∙ append_assoc f.front f.back more) f.made_is f.on.passes f.confirmed f.came_is f.came_are

pub flying_sends : FlyingSends
flying_sends p a kept accesses came m0 m f =
    let h = flying_come p a kept accesses came m0 m f a.asks.calls [] f.askable (sym (append-nil a.asks.calls)) in
    record { fresh = f.fresh; askable = f.askable; made = f.made; on = f.on; confirmed_is = f.confirmed; length_is = h.length_is; results_are = h.results_are; lines = h.lines }

pub call_sends : CallSends
call_sends p a kept accesses came ask m0 m f ok unmarked =
    let t0 : TargetState = target_of m0.probe in
    let calls : List Ask = a.asks.calls in
    let askable : AreAskable (calls ++ ask ∷ []) = askable_both calls ask f.askable ok in
    let grown : issued_entries p t0 (calls ++ ask ∷ []) ≡ issued_entries p t0 calls ++ entries_of_call p m0 a kept ask =
    (journal_grows p t0 calls ask unmarked).0 ∙ ap (λ (k : Kept). issued_entries p t0 calls ++ entries_of_call p m0 a k ask) f.kept_is in
    let weighty : AreWeighty (entries_of_call p m0 a kept ask) = weighty_tail (issued_entries p t0 calls) (entries_of_call p m0 a kept ask) (subst AreWeighty grown (journal_weighs p t0 (calls ++ ask ∷ []) askable)) in
    let h = flying_come p a kept accesses came m0 m f (calls ++ ask ∷ []) (ask ∷ []) askable refl in
    record {
      fresh = f.fresh;
      askable = askable;
      made = f.made;
      on = journal_grew (issued_entries p t0 calls) (issued_entries p t0 (calls ++ ask ∷ [])) f.made f.flying (entries_of_call p m0 a kept ask) accesses m0 m f.on grown weighty;
      confirmed_is = f.confirmed;
      length_is = h.length_is;
      results_are = h.results_are;
      lines = h.lines;
    }

-- ---- a `finish`

askable_marked : (calls : List Ask) → AreAskable calls → AreAskable (settled_last calls)
askable_marked [] h = tt
askable_marked (x ∷ []) h = (record { sound = h.0.sound; range = h.0.range }, tt)
askable_marked (x ∷ y ∷ calls) h = (h.0, askable_marked (y ∷ calls) h.1)

-- an entry that settles after so many units has all their lines before it
pub settling_lines : (n : ℕ) (k : Kept) (front : List Entry) (e : Entry) (more : List Entry) → numbered_entries n false (steps_of Settles (settle k)) ≡ front ++ e ∷ more → lines_before e ≡ n
settling_lines n k front e more is =
    let so : settles e.part ≡ true = finish_settles n true k front e more is in
    let unit : e.unit ≡ n = numbered_unit n false (steps_of Settles (settle k)) front e more is ∙ ap (λ (b : Bool). cond b n (n + 1)) so in
    ap (λ (b : Bool). cond b e.unit (e.unit - 1)) so ∙ unit

pub finish_sends : FinishSends
finish_sends p a kept accesses came m0 m f =
    record {
      fresh = f.fresh;
      askable = askable_marked calls f.askable;
      made = f.made;
      on = journal_grew (issued_entries p t0 calls) (issued_entries p t0 (settled_last calls)) f.made f.flying (entries_of_finish a kept) accesses m0 m f.on grown weighty;
      confirmed_is = f.confirmed;
      length_is = h.length_is;
      results_are = λ n enough. ap (take a.came) (results_marked (world_from m0 n) calls) ∙ h.results_are n enough;
      lines = lines_at;
    }
  where
    calls : List Ask
    calls = a.asks.calls

    t0 : TargetState
    t0 = target_of m0.probe

    h : HaveCome p a.asks.calls a.confirmed a.came came m0
    h = flying_come p a kept accesses came m0 m f a.asks.calls [] f.askable (sym (append-nil a.asks.calls))

    grown : issued_entries p (target_of m0.probe) (settled_last a.asks.calls) ≡ issued_entries p (target_of m0.probe) a.asks.calls ++ entries_of_finish a kept
    grown = (journal_marks p (target_of m0.probe) a.asks.calls).0 ∙ ap (λ (k : Kept). issued_entries p (target_of m0.probe) a.asks.calls ++ entries_of_finish a k) f.kept_is

    weighty : AreWeighty (entries_of_finish a kept)
    weighty = weighty_tail (issued_entries p (target_of m0.probe) a.asks.calls) (entries_of_finish a kept) (subst AreWeighty grown (journal_weighs p (target_of m0.probe) (settled_last a.asks.calls) (askable_marked a.asks.calls f.askable)))

    few : a.came ≤ length a.asks.calls
    few = (let c = f.came_is in let l = ap length f.calls ∙ length-append f.front f.back in omega (arith, c, l))

    lines_at : (k : ℕ) → a.confirmed ≤ k → (cut : IsCutAt (issued_entries p (target_of m0.probe) (settled_last a.asks.calls)) k (target_of m0.probe)) → a.came ≤ lines_before cut.entry
    lines_at k low cut = by_seam (seam_in (issued_entries p (target_of m0.probe) a.asks.calls) (entries_of_finish a kept) cut.front cut.entry cut.more (sym grown ∙ cut.is))
      where
        by_seam : InFirst (issued_entries p (target_of m0.probe) a.asks.calls) cut.front cut.entry ⊎ InSecond (issued_entries p (target_of m0.probe) a.asks.calls) (entries_of_finish a kept) cut.front cut.entry cut.more → a.came ≤ lines_before cut.entry
        by_seam (inl i) = h.lines k low (record { front = cut.front; entry = cut.entry; more = i.more; is = i.is; at = cut.at; passes = cut.passes })
        by_seam (inr i) = (let e = settling_lines (length a.asks.calls) kept i.back cut.entry cut.more i.is in let l = few in omega (arith, e, l))

-- ---- what is done of the entries

pub push_sends : PushSends
push_sends p calls confirmed count flying e rest accesses a came m0 m s is room = record {
  fresh = s.fresh;
  askable = s.askable;
  made = s.made;
  on = entry_pushed (issued_entries p (target_of m0.probe) calls) s.made flying e rest accesses a m0 m s.on is room;
  confirmed_is = s.confirmed_is;
  length_is = s.length_is;
  results_are = s.results_are;
  lines = s.lines;
}

pub whole_sends : WholeSends
whole_sends p calls confirmed count flying rest accesses came m0 m o part s flies good = record {
  fresh = s.fresh;
  askable = s.askable;
  made = s.made ++ flying;
  on = whole_flies (issued_entries p (target_of m0.probe) calls) s.made flying rest accesses m0 m o part s.on flies good;
  confirmed_is = (let l = length-append s.made flying in let c = s.confirmed_is in omega (arith, l, c));
  length_is = s.length_is;
  results_are = s.results_are;
  lines = λ k low cut. s.lines k (omega (arith, low)) cut;
}

pub action_sends : ActionSends
action_sends p calls confirmed count e rest came m0 m o s does passes room = record {
  fresh = s.fresh;
  askable = s.askable;
  made = s.made ++ e ∷ [];
  on = action_done (issued_entries p (target_of m0.probe) calls) s.made e rest m0 m o s.on does passes room;
  confirmed_is = (let l = length-append s.made (e ∷ []) in let c = s.confirmed_is in omega (arith, l, c));
  length_is = s.length_is;
  results_are = s.results_are;
  lines = λ k low cut. s.lines k (omega (arith, low)) cut;
}

pub forgiven_sends : ForgivenSends
forgiven_sends p calls confirmed count flying abort rest lead a came m0 m o q part s flies bad none forgiving action mild does room = record {
  fresh = s.fresh;
  askable = s.askable;
  made = s.made ++ (flying ++ abort ∷ []);
  on = fault_forgiven (issued_entries p (target_of m0.probe) calls) s.made flying abort rest lead a m0 m o q part s.on flies bad none forgiving action mild does room;
  confirmed_is = (let l = length-append s.made (flying ++ abort ∷ []) in let k = length-append flying (abort ∷ []) in let c = s.confirmed_is in omega (arith, l, k, c));
  length_is = s.length_is;
  results_are = s.results_are;
  lines = λ k low cut. s.lines k (omega (arith, low)) cut;
}
