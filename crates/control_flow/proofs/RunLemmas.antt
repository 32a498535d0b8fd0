-- What a run leaves is what its program means.
use Rattle.std.proofs.Common.{inl, inr, ◌≡◌, ℕ, ◌+◌, ◌-◌, ◌^◌, ◌<◌, ◌≤◌, min, Bool, true, false, cond, List, [], ◌∷◌, ◌++◌, length, Option, None, Some, option_map, Ok, Err, refl, sym, ap, subst, ◌∙◌, arith}
use Rattle.std.specs.Prelude.{is_some}
use Rattle.std.proofs.lemmas.List.{append-nil, length-append}
use Rattle.target_machine.specs.declared.unit.HaltCause.{HaltCause}
use Rattle.target_calls.specs.Asks.{settled_last}
use Rattle.target_calls.specs.Journal.{Entry}
use Rattle.target_calls.specs.NeedPoints.{Asks, Costs, asks_at_need, asks_at_finish, nothing_asked}
use Rattle.target_calls.specs.Values.{number_of}
use Rattle.target_calls.specs.World.{World, is_over, fewer, stop, skips, world_after}
use Rattle.target_calls.specs.declared.calls.Ask.{Ask}
use Rattle.target_calls.specs.declared.calls.Value.{Value}
use Rattle.target_calls.proofs.CallLists.{stop_stays, count_within}
use Rattle.target_calls.proofs.MarkLemmas.{stop_marked, skips_marked, value_marked, length_marked}
use Rattle.target_calls.proofs.WorldLemmas.{whole_after}
use Rattle.access_calls.specs.Answers.{AtCut, StopsCalls, StopsOrSettles, StopsSettling, calls_finished}
use Rattle.access_calls.specs.GoesOn.{IsSameButAsks}
use Rattle.access_calls.specs.Left.{answered_at_end, answered_cut}
use Rattle.access_calls.specs.Reported.{AccessView, Beginning, start_of, world_of}
use Rattle.access_calls.specs.Standing.{AccessStands, StandsAt, WhereObservable}
use Rattle.access_calls.specs.declared.stop.Report.{Report}
use Rattle.access_calls.specs.declared.stop.Stop.{Stop}
use Rattle.access_calls.specs.declared.stop.Stop.TheVariants.{Cut, BenchFault, ReplyBad, OutOfMemory}
use Rattle.access_calls.specs.declared.stop.StopCause.{StopCause}
use Rattle.access_calls.specs.declared.stop.StopCause.TheVariants as cause
use Rattle.target_machine.specs.State.{TargetState}
use Rattle.probe_core.specs.Bench.{BenchState}
use Rattle.sequence_rules.specs.declared.bindings.Binding.{Binding}
use Rattle.sequence_rules.specs.Alike.{Binds, Alike}
use Rattle.sequence_rules.specs.Direct.{Now, line_after}
use Rattle.sequence_rules.specs.Late.{Late, late, late_of, ComesTo, SameRest, StoppedAt, Later}
use Rattle.sequence_rules.specs.Laws.{Pair}
use Rattle.sequence_rules.specs.Machine as machine
use Rattle.sequence_rules.specs.Machine.{Over, State, Out, end_state}
use Rattle.sequence_rules.specs.Runs as runs
use Rattle.sequence_rules.specs.Runs.{Outcome, Program, late_meaning, meaning, outcome_of, units_of}
use Rattle.sequence_rules.specs.Steps.{run_of, start_state}
use Rattle.sequence_rules.proofs.Goes as g
use Rattle.sequence_rules.proofs.LateLemmas.{append_none, stop_here, steady_late}
use Rattle.sequence_rules.proofs.Made.{no_cost, late_pair}
use Rattle.sequels.proofs.LimitLemmas.{from_on, from_same}
use Rattle.function_calls.specs.Ends.{AtEnd, LeftMeaning}
use Rattle.function_calls.specs.Held.{late_state_of}
use Rattle.function_calls.specs.declared.held.Held.{Held}
use Rattle.access_calls.specs.declared.ended.Ending.{Ending}
use Rattle.access_calls.specs.declared.ended.Ending.TheVariants as ending
use Rattle.control_flow.specs.Answers.{Ran, IsAll, SharesCalls, IsPartOfOutcome, EndsWhole, StopsAfter, EndsAtCut, RunEndsAs, HasNeeds}
use Rattle.access_calls.specs.Endings.{ending_of}
use Rattle.control_flow.specs.Closing.{numbers_in, AreAsked, OutIs}

abbrev L : Type 0
L = Out Value Late (Unit {0})

abbrev Q : Type 0
Q = Out ℕ Now (Unit {0})

numbers_marked : (w : World) (calls : List Ask) (bs : List (Binding Value)) → numbers_in w (settled_last calls) bs ≡ numbers_in w calls bs
numbers_marked w calls [] = refl
numbers_marked w calls (b ∷ bs) = let one = value_marked w calls b.value in let rest = numbers_marked w calls bs in cc (one, rest)

-- nothing is added
no_longer : (calls more all : List Ask) → all ≡ calls ++ more → more ≡ [] → length all ≤ length calls
no_longer calls more all is none = (let long = ap length (is ∙ ap (λ (l : List Ask). calls ++ l) none ∙ append-nil calls) in omega (arith, long))

some_none : (A : Type 0) (k : ℕ) (o : Option ℕ) → o ≡ Some k → o ≡ None → A
some_none A k o e f = absurd (let z : Some k ≡ None = sym e ∙ f in cc)

some_same : (i k : ℕ) (o : Option ℕ) → o ≡ Some i → o ≡ Some k → i ≡ k
some_same i k o e f = let z : Some i ≡ Some k = sym e ∙ f in cc

-- ---- how many calls are answered

-- the calls before the one at which they stop do not stop
earlier_whole : (w : World) (earlier : List Ask) (last : Ask) (k : ℕ) → stop w (earlier ++ last ∷ []) ≡ Some k → k ≡ length (earlier ++ last ∷ []) → stop w earlier ≡ None
earlier_whole w earlier last k first count = by_stop (stop w earlier) refl
  where
    by_stop : (o : Option ℕ) → stop w earlier ≡ o → o ≡ None
    by_stop None e = refl
    by_stop (Some n) e = absurd (
        let below : n ≤ length earlier = count_within w earlier n e in
        let same : n ≡ k = some_same n k _ (stop_stays w earlier (last ∷ []) n e) first in
        let long : length (earlier ++ last ∷ []) ≡ length earlier + 1 = length-append earlier (last ∷ []) in
        omega (arith, below, same, long, count))

after_answered : (w : World) (calls : List Ask) → stop w calls ≡ None → (world_after w calls).answered ≡ fewer w.answered (length calls)
after_answered w calls whole = ap (λ (v : World). v.answered) (whole_after w calls whole)

-- where all calls are answered, none is unanswered
never_over : (w : World) (calls : List Ask) → stop w calls ≡ None → w.answered ≡ None → is_over (world_after w calls).answered ≡ false
never_over w calls whole all = ap is_over (after_answered w calls whole ∙ ap (λ o. fewer o (length calls)) all)

-- after the last one that is answered, no more are
over_after : (w : World) (calls : List Ask) (n : ℕ) → stop w calls ≡ None → w.answered ≡ Some n → n ≡ length calls → is_over (world_after w calls).answered ≡ true
over_after w calls n whole some count = ap is_over (after_answered w calls whole ∙ ap (λ o. fewer o (length calls)) some ∙ ap Some nothing)
  where
    nothing : n - length calls ≡ 0
    nothing = omega (arith, count)

-- the code left the meaning in its middle, where the access stopped so
record LeftBy (w : World) (lines : ℕ) (st : Stop) (now : State Value Late) (out : Out Value Late (Unit {0})) : Type 0 where
  later : Later w now.rest (end_state out).rest
  first : AtCut st (λ r. stop w now.rest.asks.calls ≡ Some (lines + 1))

module _ (w : World) where
  -- ---- the last states of both

  values_are : (t : Late) (bs : List (Binding Value)) (cs : List (Binding ℕ)) → Binds (ComesTo w t) bs cs → numbers_in w t.asks.calls bs ≡ cs
  values_are t [] [] h = refl
  values_are t [] (x ∷ cs) h = absurd h
  values_are t (b ∷ bs) [] h = absurd h
  values_are t (b ∷ bs) (x ∷ cs) h =
      let one : number_of w t.asks.calls b.value ≡ x.value = sym h.1.0 in
      let named : b.name ≡ x.name = h.0 in
      let rest = values_are t bs cs h.2 in
      let first : record { name = b.name; value = number_of w t.asks.calls b.value } ≡ x = rw (one, named) refl in
      rw (first, rest) refl

  pub same_lines : (out : L) (q : Q) → Pair w out q → (outcome_of q).written ≡ (end_state out).rest.written
  same_lines (Ok x) (Ok y) p = p.0.rest.written
  same_lines (Err e) (Ok y) p = absurd p
  same_lines (Ok x) (Err (machine.Halted c, r)) p = absurd p
  same_lines (Ok x) (Err (machine.Faulted c, r)) p = p.stopped.written
  same_lines (Ok x) (Err (machine.Unanswered, r)) p = p.written
  same_lines (Ok x) (Err (machine.Lost, r)) p = absurd p
  same_lines (Err e) (Err (machine.Halted c, r)) p = p.1.rest.written
  same_lines (Err e) (Err (machine.Faulted c, r)) p = p.stopped.written
  same_lines (Err e) (Err (machine.Unanswered, r)) p = p.written
  same_lines (Err e) (Err (machine.Lost, r)) p = absurd p

  -- the outcome's calls come first in these, and are all of them where it is Done or Halted
  record Front (calls : List Ask) (o : Outcome) : Type 0 where
    more : List Ask
    same : calls ≡ o.calls ++ more
    only : EndsWhole o.ending → more ≡ []

  front_same : (s : List Ask) (o : Outcome) → o.calls ≡ s → Front s o
  front_same s o e = record { more = []; same = sym e ∙ sym (append-nil o.calls); only = λ whole. refl }

  front_of : (b : Bool) (t : Late) (k : ℕ) (u : Now) (o : Outcome) → StoppedAt w b t k u → o.calls ≡ u.calls → (EndsWhole o.ending → ⊥) → Front t.asks.calls o
  front_of b t k u o h e stops = record { more = h.more; same = h.calls ∙ ap (λ (c : List Ask). c ++ h.more) (sym e); only = λ whole. absurd (stops whole) }

  their_calls : (out : L) (q : Q) → Pair w out q → Front (end_state out).rest.asks.calls (outcome_of q)
  their_calls (Ok x) (Ok y) p = front_same _ _ p.0.rest.calls
  their_calls (Err e) (Ok y) p = absurd p
  their_calls (Ok x) (Err (machine.Halted c, r)) p = absurd p
  their_calls (Ok x) (Err (machine.Faulted c, r)) p = front_of _ _ _ _ _ p.stopped refl (λ none. none)
  their_calls (Ok x) (Err (machine.Unanswered, r)) p = front_of _ _ _ _ _ p refl (λ none. none)
  their_calls (Ok x) (Err (machine.Lost, r)) p = absurd p
  their_calls (Err e) (Err (machine.Halted c, r)) p = front_same _ _ p.1.rest.calls
  their_calls (Err e) (Err (machine.Faulted c, r)) p = front_of _ _ _ _ _ p.stopped refl (λ none. none)
  their_calls (Err e) (Err (machine.Unanswered, r)) p = front_of _ _ _ _ _ p refl (λ none. none)
  their_calls (Err e) (Err (machine.Lost, r)) p = absurd p

  -- ---- the calls stop: so does the meaning, there, and by the same cause

  unit_is : (b : Bool) (t : Late) (k n : ℕ) (u : Now) → StoppedAt w b t k u → stop w t.asks.calls ≡ Some n → length u.calls ≡ n
  unit_is b t k n u h e = sym h.count ∙ some_same k n _ (stop_here no_cost w b t k u h) e

  whole_before : (b : Bool) (t : Late) (k : ℕ) (u : Now) (h : StoppedAt w b t k u) → stop w h.earlier ≡ None
  whole_before b t k u h = earlier_whole w h.earlier h.last k (ap (stop w) (sym h.parts) ∙ h.first) (h.count ∙ ap length h.parts)

  long_before : (b : Bool) (t : Late) (k : ℕ) (u : Now) (h : StoppedAt w b t k u) → length u.calls ≡ length h.earlier + 1
  long_before b t k u h = ap length h.parts ∙ length-append h.earlier (h.last ∷ [])

  -- a call is unanswered, though all are answered
  no_end : (A : Type 0) (t : Late) (k : ℕ) (u : Now) → StoppedAt w true t k u → w.answered ≡ None → A
  no_end A t k u h all = absurd (let z : true ≡ false = sym h.cause ∙ never_over w h.earlier (whole_before true t k u h) all in cc)

  -- a call faults, though it is not answered
  no_fault : (A : Type 0) (lines : ℕ) (t : Late) (k : ℕ) (u : Now) → StoppedAt w false t k u → w.answered ≡ Some lines → stop w t.asks.calls ≡ Some (lines + 1) → A
  no_fault A lines t k u h some e = absurd (
      let unit = unit_is false t k (lines + 1) u h e in
      let long = long_before false t k u h in
      let count : lines ≡ length h.earlier = omega (arith, unit, long) in
      let z : false ≡ true = sym h.cause ∙ over_after w h.earlier lines (whole_before false t k u h) some count in cc)

  stops_faulted : (lines : ℕ) (out : L) (q : Q) → Pair w out q → w.answered ≡ None → stop w (end_state out).rest.asks.calls ≡ Some (lines + 1) → StopsAfter cause.Faulted lines (outcome_of q)
  stops_faulted lines (Ok x) (Ok y) p all e = some_none _ _ _ e p.0.rest.whole
  stops_faulted lines (Err e) (Ok y) p all f = absurd p
  stops_faulted lines (Ok x) (Err (machine.Halted c, r)) p all e = absurd p
  stops_faulted lines (Ok x) (Err (machine.Faulted c, r)) p all e = (tt, unit_is _ _ _ _ _ p.stopped e)
  stops_faulted lines (Ok x) (Err (machine.Unanswered, r)) p all e = no_end _ _ _ _ p all
  stops_faulted lines (Ok x) (Err (machine.Lost, r)) p all e = absurd p
  stops_faulted lines (Err e) (Err (machine.Halted c, r)) p all f = some_none _ _ _ f p.1.rest.whole
  stops_faulted lines (Err e) (Err (machine.Faulted c, r)) p all f = (tt, unit_is _ _ _ _ _ p.stopped f)
  stops_faulted lines (Err e) (Err (machine.Unanswered, r)) p all f = no_end _ _ _ _ p all
  stops_faulted lines (Err e) (Err (machine.Lost, r)) p all f = absurd p

  stops_unanswered : (lines : ℕ) (out : L) (q : Q) → Pair w out q → w.answered ≡ Some lines → stop w (end_state out).rest.asks.calls ≡ Some (lines + 1) → StopsAfter cause.NoAnswer lines (outcome_of q)
  stops_unanswered lines (Ok x) (Ok y) p some e = some_none _ _ _ e p.0.rest.whole
  stops_unanswered lines (Err e) (Ok y) p some f = absurd p
  stops_unanswered lines (Ok x) (Err (machine.Halted c, r)) p some e = absurd p
  stops_unanswered lines (Ok x) (Err (machine.Faulted c, r)) p some e = no_fault _ lines _ _ _ p.stopped some e
  stops_unanswered lines (Ok x) (Err (machine.Unanswered, r)) p some e = inl (refl, unit_is _ _ _ _ _ p e)
  stops_unanswered lines (Ok x) (Err (machine.Lost, r)) p some e = absurd p
  stops_unanswered lines (Err e) (Err (machine.Halted c, r)) p some f = some_none _ _ _ f p.1.rest.whole
  stops_unanswered lines (Err e) (Err (machine.Faulted c, r)) p some f = no_fault _ lines _ _ _ p.stopped some f
  stops_unanswered lines (Err e) (Err (machine.Unanswered, r)) p some f = inl (refl, unit_is _ _ _ _ _ p f)
  stops_unanswered lines (Err e) (Err (machine.Lost, r)) p some f = absurd p

  stops_after : (why : StopCause) (lines : ℕ) (out : L) (q : Q) → Pair w out q → w.answered ≡ answered_cut why lines → stop w (end_state out).rest.asks.calls ≡ Some (lines + 1) → StopsAfter why lines (outcome_of q)
  stops_after cause.Faulted lines out q p answered e = stops_faulted lines out q p answered e
  stops_after cause.NoAnswer lines out q p answered e = stops_unanswered lines out q p answered e

  -- they do not stop: the meaning comes to its end
  comes_to : (lines : ℕ) (out : L) (q : Q) → Pair w out q → stop w (end_state out).rest.asks.calls ≡ None → lines ≡ length (end_state out).rest.asks.calls → EndsWhole (outcome_of q).ending × (units_of (outcome_of q) ≡ lines)
  comes_to lines (Ok x) (Ok y) p e l = (tt, ap length p.0.rest.calls ∙ sym l)
  comes_to lines (Err e) (Ok y) p f l = absurd p
  comes_to lines (Ok x) (Err (machine.Halted c, r)) p e l = absurd p
  comes_to lines (Ok x) (Err (machine.Faulted c, r)) p e l = some_none _ _ _ (stop_here no_cost w _ _ _ _ p.stopped) e
  comes_to lines (Ok x) (Err (machine.Unanswered, r)) p e l = some_none _ _ _ (stop_here no_cost w _ _ _ _ p) e
  comes_to lines (Ok x) (Err (machine.Lost, r)) p e l = absurd p
  comes_to lines (Err e) (Err (machine.Halted c, r)) p f l = (tt, ap length p.1.rest.calls ∙ sym l)
  comes_to lines (Err e) (Err (machine.Faulted c, r)) p f l = some_none _ _ _ (stop_here no_cost w _ _ _ _ p.stopped) f
  comes_to lines (Err e) (Err (machine.Unanswered, r)) p f l = some_none _ _ _ (stop_here no_cost w _ _ _ _ p) f
  comes_to lines (Err e) (Err (machine.Lost, r)) p f l = absurd p

  -- ---- each ending

  -- what a run that comes to its end reports, by the last state of the meaning with results that come later
  pub record Closed (r : Ran) (s : State Value Late) : Type 0 where
    pub variables : r.variables ≡ numbers_in w s.rest.asks.calls s.globals
    pub units : r.units ≡ s.units
    pub skipped : r.skipped ≡ skips w s.rest.asks.calls
    pub few : r.skipped < 2 ^ 32
    pub asks : r.asks ≡ asks_at_need (asks_at_finish s.rest.asks)
    pub written : r.written ≡ s.rest.written

  is_all : (o : Outcome) (r : Ran) (s : State Value Late) (y : State ℕ Now) → Alike (ComesTo w) (SameRest w) s y → Closed r s → o.variables ≡ y.globals → o.calls ≡ y.rest.calls → o.skipped ≡ y.rest.skipped → o.written ≡ y.rest.written → IsAll o r
  is_all o r s y al c variables calls skipped written = record {
    variables = c.variables ∙ values_are s.rest _ _ al.globals ∙ sym variables;
    units = c.units ∙ al.rest.count ∙ ap length (sym al.rest.calls ∙ sym calls);
    skipped = less ∙ sym al.rest.skipped ∙ sym skipped;
    calls = ap (λ (a : Asks). a.calls) c.asks ∙ ap settled_last (sym al.rest.calls ∙ sym calls);
    written = c.written ∙ sym al.rest.written ∙ sym written;
  }
    where
      less : r.skipped ≡ min (skips w s.rest.asks.calls) 4294967295
      less = let same = c.skipped in let few = c.few in omega (arith, same, few)

  pub is_done : (lines : ℕ) (r : Ran) (s : State Value Late) (out : L) (q : Q) → Pair w out q → out ≡ Ok (tt, s) → stop w s.rest.asks.calls ≡ None → Closed r s → RunEndsAs ending.Done lines (outcome_of q) r
  is_done lines r s (Ok x) (Ok y) p is whole c =
      let e : x.1 ≡ s = cc in
      let al : Alike (ComesTo w) (SameRest w) s y.1 = subst (λ z. Alike (ComesTo w) (SameRest w) z y.1) e p.0 in
      (refl, is_all _ r s y.1 al c refl refl refl refl)
  is_done lines r s (Err e) q p is whole c = absurd cc
  is_done lines r s (Ok x) (Err (machine.Halted k, y)) p is whole c = absurd p
  is_done lines r s (Ok x) (Err (machine.Faulted k, y)) p is whole c = let e : x.1 ≡ s = cc in some_none _ _ _ (stop_here no_cost w _ _ _ _ p.stopped) (ap (λ (z : State Value Late). stop w z.rest.asks.calls) e ∙ whole)
  is_done lines r s (Ok x) (Err (machine.Unanswered, y)) p is whole c = let e : x.1 ≡ s = cc in some_none _ _ _ (stop_here no_cost w _ _ _ _ p) (ap (λ (z : State Value Late). stop w z.rest.asks.calls) e ∙ whole)
  is_done lines r s (Ok x) (Err (machine.Lost, y)) p is whole c = absurd p

  pub is_halted : (lines : ℕ) (why : HaltCause) (r : Ran) (s : State Value Late) (out : L) (q : Q) → Pair w out q → out ≡ Err (machine.Halted why, s) → stop w s.rest.asks.calls ≡ None → Closed r s → RunEndsAs (ending.Halted why) lines (outcome_of q) r
  is_halted lines why r s (Ok x) q p is whole c = absurd cc
  is_halted lines why r s (Err e) (Ok y) p is whole c = absurd p
  is_halted lines why r s (Err e) (Err (machine.Halted k, y)) p is whole c =
      let same : e.1 ≡ s = cc in
      let why_is : e.0 ≡ machine.Halted why = cc in
      let also : machine.Halted k ≡ machine.Halted why = sym p.0 ∙ why_is in
      let cause_is : k ≡ why = cc in
      let al : Alike (ComesTo w) (SameRest w) s y = subst (λ z. Alike (ComesTo w) (SameRest w) z y) same p.1 in
      (ap runs.Halted cause_is, is_all _ r s y al c refl refl refl refl)
  is_halted lines why r s (Err e) (Err (machine.Faulted k, y)) p is whole c = let same : e.1 ≡ s = cc in some_none _ _ _ (stop_here no_cost w _ _ _ _ p.stopped) (ap (λ (z : State Value Late). stop w z.rest.asks.calls) same ∙ whole)
  is_halted lines why r s (Err e) (Err (machine.Unanswered, y)) p is whole c = let same : e.1 ≡ s = cc in some_none _ _ _ (stop_here no_cost w _ _ _ _ p) (ap (λ (z : State Value Late). stop w z.rest.asks.calls) same ∙ whole)
  is_halted lines why r s (Err e) (Err (machine.Lost, y)) p is whole c = absurd p

  -- what was asked then, and the calls of the meaning
  shares : (out : L) (q : Q) (calls more : List Ask) → Pair w out q → (end_state out).rest.asks.calls ≡ calls ++ more → SharesCalls calls (outcome_of q)
  shares out q calls more p is =
      let t = their_calls out q p in
      record {
        all = (end_state out).rest.asks.calls;
        ours = record { more = more; so = inl is };
        theirs = record { more = t.more; so = inl t.same };
        only = λ whole. no_longer (outcome_of q).calls t.more (end_state out).rest.asks.calls t.same (t.only whole);
      }

  shares_settled : (out : L) (q : Q) (calls : List Ask) → Pair w out q → calls ≡ settled_last (end_state out).rest.asks.calls → SharesCalls calls (outcome_of q)
  shares_settled out q calls p is =
      let t = their_calls out q p in
      let all = (end_state out).rest.asks.calls in
      record {
        all = calls;
        ours = from_same calls;
        theirs = from_on (outcome_of q).calls all calls (record { more = t.more; so = inl t.same }) (record { more = []; so = inr (is ∙ sym (append-nil (settled_last all))) });
        only = λ whole. (let few = no_longer (outcome_of q).calls t.more all t.same (t.only whole) in let long = ap length is ∙ length_marked all in omega (arith, few, long));
      }

  -- the code left the meaning in its middle
  is_cut_off : (lines : ℕ) (report : Report) (r : Ran) (now : State Value Late) (out : L) (q : Q) → Pair w out q → w.answered ≡ answered_cut report.cause lines → LeftBy w lines (Cut report) now out → r.asks.calls ≡ now.rest.asks.calls → r.written ≡ now.rest.written
      → EndsAtCut report.cause lines (outcome_of q) r
  is_cut_off lines report r now out q p answered left calls written = record {
    stops = stops_after report.cause lines out q p answered (ap (stop w) left.later.calls ∙ stop_stays w now.rest.asks.calls left.later.more (lines + 1) left.first);
    written = written ∙ sym (left.later.kept (lines + 1) left.first) ∙ sym (same_lines out q p);
    calls = shares out q r.asks.calls left.later.more p (left.later.calls ∙ ap (λ c. c ++ left.later.more) (sym calls));
  }

  pub is_broken : (r : Ran) (now : State Value Late) (out : L) (q : Q) → Pair w out q → Later w now.rest (end_state out).rest → r.asks.calls ≡ now.rest.asks.calls → r.written ≡ now.rest.written → IsPartOfOutcome (outcome_of q) r
  is_broken r now out q p later calls written = record {
    written = record { part = later.grows.part; same = same_lines out q p ∙ later.grows.same ∙ ap (λ o. option_map (line_after later.grows.part) o) (sym written) };
    calls = shares out q r.asks.calls later.more p (later.calls ∙ ap (λ c. c ++ later.more) (sym calls));
  }

  -- a stop while the end of the meaning is settled
  settling_cut : (lines : ℕ) (report : Report) (r : Ran) (out : L) (q : Q) → Pair w out q → w.answered ≡ answered_cut report.cause lines → StopsSettling w (end_state out).rest.asks.calls lines (Cut report)
      → r.asks.calls ≡ settled_last (end_state out).rest.asks.calls → r.written ≡ (end_state out).rest.written → EndsAtCut report.cause lines (outcome_of q) r
  settling_cut lines report r out q p answered stops calls written = record {
    stops = by_cause report.cause answered stops.so;
    written = written ∙ sym (same_lines out q p);
    calls = shares_settled out q r.asks.calls p calls;
  }
    where
      by_cause : (why : StopCause) → w.answered ≡ answered_cut why lines → StopsOrSettles why w (end_state out).rest.asks.calls lines → StopsAfter why lines (outcome_of q)
      by_cause cause.Faulted all e = stops_faulted lines out q p all e
      by_cause cause.NoAnswer some (inl e) = stops_unanswered lines out q p some e
      by_cause cause.NoAnswer some (inr e) = inr (comes_to lines out q p e.0 e.1)

  settling_broken : (r : Ran) (out : L) (q : Q) → Pair w out q → r.asks.calls ≡ settled_last (end_state out).rest.asks.calls → r.written ≡ (end_state out).rest.written → IsPartOfOutcome (outcome_of q) r
  settling_broken r out q p calls written = record {
    written = record { part = []; same = same_lines out q p ∙ sym written ∙ append_none r.written };
    calls = shares_settled out q r.asks.calls p calls;
  }

  -- ---- a run that comes to its end is closed

  ends_so : (end : Ending) (s : State Value Late) (out : L) → OutIs end s out → end_state out ≡ s
  ends_so ending.Done s out is = rw is refl
  ends_so (ending.Halted cause) s out is = rw is refl
  ends_so (ending.Cut r) s out is = absurd is
  ends_so (ending.BenchFault issued confirmed) s out is = absurd is
  ends_so ending.ReplyBad s out is = absurd is
  ends_so ending.WriteFault s out is = absurd is
  ends_so ending.OutOfMemory s out is = absurd is

  -- a stop in `finish`, or after it
  pub stops_closing : (end : Ending) (st : Stop) (s : State Value Late) (out : L) (q : Q) (lines : ℕ) (r : Ran) → OutIs end s out → Pair w out q → w.answered ≡ answered_at_end (Some st) lines → StopsSettling w s.rest.asks.calls lines st
      → r.asks.calls ≡ settled_last s.rest.asks.calls → r.written ≡ s.rest.written → RunEndsAs (ending_of st) lines (outcome_of q) r
  stops_closing end (Cut report) s out q lines r is p answered stops calls written =
      let e = ends_so end s out is in
      settling_cut lines report r out q p answered (rw e stops) (rw e calls) (rw e written)
  stops_closing end (BenchFault issued confirmed) s out q lines r is p answered stops calls written = let e = ends_so end s out is in settling_broken r out q p (rw e calls) (rw e written)
  stops_closing end ReplyBad s out q lines r is p answered stops calls written = let e = ends_so end s out is in settling_broken r out q p (rw e calls) (rw e written)
  stops_closing end OutOfMemory s out q lines r is p answered stops calls written = let e = ends_so end s out is in settling_broken r out q p (rw e calls) (rw e written)

  -- so it is in each world that is left
  pub left_closing : (end : Ending) (s : State Value Late) (out : L) (q : Q) (r : Ran) → OutIs end s out → Pair w out q → r.asks.calls ≡ settled_last s.rest.asks.calls → r.written ≡ s.rest.written → IsPartOfOutcome (outcome_of q) r
  left_closing end s out q r is p calls written = let e = ends_so end s out is in settling_broken r out q p (rw e calls) (rw e written)

  pub settles : (calls : List Ask) (lines : ℕ) (st : Stop) → StopsCalls w (settled_last calls) lines st → StopsSettling w calls lines st
  settles calls lines (Cut r) h = record { so = by_cause r.cause (sym (stop_marked w calls) ∙ h.so) }
    where
      by_cause : (why : StopCause) → stop w calls ≡ Some (lines + 1) → StopsOrSettles why w calls lines
      by_cause cause.Faulted e = e
      by_cause cause.NoAnswer e = inl e
  settles calls lines (BenchFault issued confirmed) h = record { so = tt }
  settles calls lines ReplyBad h = record { so = tt }
  settles calls lines OutOfMemory h = record { so = tt }

  are_asked : (t : Late) (bs : List (Binding Value)) (cs : List (Binding ℕ)) → Binds (ComesTo w t) bs cs → AreAsked (length t.asks.calls) bs
  are_asked t [] [] h = tt
  are_asked t [] (x ∷ cs) h = absurd h
  are_asked t (b ∷ bs) [] h = absurd h
  are_asked t (b ∷ bs) (x ∷ cs) h = (h.1.1, are_asked t bs cs h.2)

  -- where nothing stops, the values that are left were all asked
  left_asked : (end : Ending) (s : State Value Late) (out : L) (q : Q) → OutIs end s out → Pair w out q → stop w s.rest.asks.calls ≡ None → AreAsked (length s.rest.asks.calls) s.globals
  left_asked end s out q is p whole = one out q p (ends_so end s out is)
    where
      whole_at : (t : State Value Late) → t ≡ s → stop w t.rest.asks.calls ≡ None
      whole_at t e = ap (λ (z : State Value Late). stop w z.rest.asks.calls) e ∙ whole

      one : (out : L) (q : Q) → Pair w out q → end_state out ≡ s → AreAsked (length s.rest.asks.calls) s.globals
      one (Ok x) (Ok y) p e = subst (λ (z : State Value Late). AreAsked (length z.rest.asks.calls) z.globals) e (are_asked x.1.rest _ _ p.0.globals)
      one (Err e) (Ok y) p k = absurd p
      one (Ok x) (Err (machine.Halted c, r)) p e = absurd p
      one (Ok x) (Err (machine.Faulted c, r)) p e = some_none _ _ _ (stop_here no_cost w _ _ _ _ p.stopped) (whole_at _ e)
      one (Ok x) (Err (machine.Unanswered, r)) p e = some_none _ _ _ (stop_here no_cost w _ _ _ _ p) (whole_at _ e)
      one (Ok x) (Err (machine.Lost, r)) p e = absurd p
      one (Err e) (Err (machine.Halted c, r)) p k = subst (λ (z : State Value Late). AreAsked (length z.rest.asks.calls) z.globals) k (are_asked e.1.rest _ _ p.1.globals)
      one (Err e) (Err (machine.Faulted c, r)) p k = some_none _ _ _ (stop_here no_cost w _ _ _ _ p.stopped) (whole_at _ k)
      one (Err e) (Err (machine.Unanswered, r)) p k = some_none _ _ _ (stop_here no_cost w _ _ _ _ p) (whole_at _ k)
      one (Err e) (Err (machine.Lost, r)) p k = absurd p

  below_fence : (s : State Value Late) (b : Asks) → b ≡ asks_at_need (asks_at_finish s.rest.asks) → AreAsked (length s.rest.asks.calls) s.globals → AreAsked b.fence s.globals
  below_fence s b is h = subst (λ n. AreAsked n s.globals) (sym (length_marked s.rest.asks.calls) ∙ ap (λ (a : Asks). a.fence) (sym is)) h

  -- what all was made, settled and looked up for
  pub record Looked (r : Ran) (s : State Value Late) (b : Asks) : Type 0 where
    pub variables : r.variables ≡ numbers_in w b.calls s.globals
    pub units : r.units ≡ s.units
    pub skipped : r.skipped ≡ skips w r.asks.calls
    pub few : r.skipped < 2 ^ 32
    pub finish : b ≡ asks_at_need (asks_at_finish s.rest.asks)
    pub asks : AreAsked b.fence s.globals → r.asks ≡ b
    pub written : r.written ≡ s.rest.written

  closed : (r : Ran) (s : State Value Late) (b : Asks) → Looked r s b → AreAsked (length s.rest.asks.calls) s.globals → Closed r s
  closed r s b k below =
      let asks = k.asks (below_fence s b k.finish below) ∙ k.finish in
      record {
        variables = k.variables ∙ ap (λ (a : Asks). numbers_in w a.calls s.globals) k.finish ∙ numbers_marked w s.rest.asks.calls s.globals;
        units = k.units;
        skipped = k.skipped ∙ ap (λ (a : Asks). skips w a.calls) asks ∙ skips_marked w s.rest.asks.calls;
        few = k.few;
        asks = asks;
        written = k.written;
      }

  pub closes : (end : Ending) (s : State Value Late) (out : L) (q : Q) (lines : ℕ) (r : Ran) (b : Asks) → OutIs end s out → Pair w out q → stop w s.rest.asks.calls ≡ None → Looked r s b → RunEndsAs end lines (outcome_of q) r × HasNeeds end r.asks out
  closes ending.Done s out q lines r b is p whole k =
      let c = closed r s b k (left_asked ending.Done s out q is p whole) in
      (is_done lines r s out q p is whole c, c.asks ∙ ap (λ (z : State Value Late). asks_at_need (asks_at_finish z.rest.asks)) (sym (ends_so ending.Done s out is)))
  closes (ending.Halted why) s out q lines r b is p whole k =
      let c = closed r s b k (left_asked (ending.Halted why) s out q is p whole) in
      (is_halted lines why r s out q p is whole c, c.asks ∙ ap (λ (z : State Value Late). asks_at_need (asks_at_finish z.rest.asks)) (sym (ends_so (ending.Halted why) s out is)))
  closes (ending.Cut report) s out q lines r b is p whole k = absurd is
  closes (ending.BenchFault issued confirmed) s out q lines r b is p whole k = absurd is
  closes ending.ReplyBad s out q lines r b is p whole k = absurd is
  closes ending.WriteFault s out q lines r b is p whole k = absurd is
  closes ending.OutOfMemory s out q lines r b is p whole k = absurd is

stopped_by : (w : World) (st : Stop) (lines : ℕ) (r : Ran) (now : State Value Late) (out : L) (q : Q) → Pair w out q → w.answered ≡ answered_at_end (Some st) lines → LeftBy w lines st now out → r.asks.calls ≡ now.rest.asks.calls → r.written ≡ now.rest.written
    → RunEndsAs (ending_of st) lines (outcome_of q) r
stopped_by w (Cut report) lines r now out q p answered left calls written = is_cut_off w lines report r now out q p answered left calls written
stopped_by w (BenchFault issued confirmed) lines r now out q p answered left calls written = is_broken w r now out q p left.later calls written
stopped_by w ReplyBad lines r now out q p answered left calls written = is_broken w r now out q p left.later calls written
stopped_by w OutOfMemory lines r now out q p answered left calls written = is_broken w r now out q p left.later calls written

-- the evaluator stopped, and the access was asked for its stop
pub stopped_ends : (w : World) (st : Stop) (a last : AccessView) (r : Ran) (now : State Value Late) (out : L) (q : Q) → Pair w out q → w.answered ≡ answered_at_end (Some st) last.lines → LeftMeaning w a now out → a.end ≡ Some st → IsSameButAsks a last
    → r.asks.calls ≡ now.rest.asks.calls → r.written ≡ now.rest.written → RunEndsAs (ending_of st) last.lines (outcome_of q) r
stopped_ends w st a last r now out q p answered left end same calls written =
    let lines : last.lines ≡ a.lines = ap (λ (t : AccessView). t.lines) same.same in
    let first : AtCut st (λ r. stop w now.rest.asks.calls ≡ Some (a.lines + 1)) = subst (λ (e : Option Stop). AtEnd e (λ r. stop w now.rest.asks.calls ≡ Some (a.lines + 1))) end left.first.so in
    stopped_by w st last.lines r now out q p answered (subst (λ n. LeftBy w n st now out) (sym lines) (record { later = left.later; first = first })) calls written

-- no need points are reported of a stop
pub no_needs : (st : Stop) (asks : Asks) (out : L) → HasNeeds (ending_of st) asks out
no_needs (Cut report) asks out = tt
no_needs (BenchFault issued confirmed) asks out = tt
no_needs ReplyBad asks out = tt
no_needs OutOfMemory asks out = tt

pub finished_calls : (a : AccessView) (c : List Ask) → a.end ≡ None → c ≡ calls_finished a → c ≡ settled_last a.asks.calls
finished_calls a c none is = is ∙ ap (λ (e : Option Stop). cond (is_some e) a.asks.calls (settled_last a.asks.calls)) none

-- an access without an end knows how many calls were skipped
skips_at : (entries : List Entry) (a : AccessView) (b : Beginning) (m : BenchState) → a.end ≡ None → StandsAt a.end entries a b m → a.skipped ≡ skips (world_of b) a.asks.calls
skips_at entries a b m none h = (subst (λ e. StandsAt e entries a b m) none h).skipped

pub skipped_is : (journal : TargetState → List Ask → List Entry) (a : AccessView) (b : Beginning) → a.end ≡ None → AccessStands journal a b → a.skipped ≡ skips (world_of b) a.asks.calls
skipped_is journal a b none stands = by_state a.state stands
  where
    by_state : (o : Option BenchState) → WhereObservable o (λ m. StandsAt a.end (journal (start_of b) a.asks.calls) a b m) → a.skipped ≡ skips (world_of b) a.asks.calls
    by_state None h = absurd h
    by_state (Some m) h = skips_at (journal (start_of b) a.asks.calls) a b m none h

-- a run that did not begin
pub not_begun : (w : World) (p : Program) (before : Option (List ℕ)) (r : Ran) → r.asks ≡ nothing_asked → r.written ≡ before → IsPartOfOutcome (outcome_of (meaning w p before)) r
not_begun w p before r asks written =
    let s = start_state (late no_cost w) p.turn_us p.set (runs.as_values (late no_cost w) p.predefined) (late_of nothing_asked before) in
    is_broken w r s (late_meaning no_cost w p before) (meaning w p before) (late_pair no_cost w p before)
    (g.goes_run_of (late no_cost w) (Later w) (steady_late no_cost w) p.turn_us p.set p.start s).so (ap (λ (a : Asks). a.calls) asks) written

-- the code of a run is its meaning with results that come later
pub at_start : (cost : Costs) (w : World) (p : Program) (held : Held) (asks : Asks) (before : Option (List ℕ)) → asks ≡ nothing_asked
    → late_state_of held nothing_asked before ≡ start_state (late cost w) p.turn_us p.set (runs.as_values (late cost w) p.predefined) (late_of nothing_asked before)
    → run_of (late cost w) p.turn_us p.set p.start (late_state_of held asks before) ≡ late_meaning cost w p before
at_start cost w p held asks before fresh is = ap (λ a. run_of (late cost w) p.turn_us p.set p.start (late_state_of held a before)) fresh ∙ ap (λ s. run_of (late cost w) p.turn_us p.set p.start s) is

pub at_end : (end : Ending) (s : State Value Late) (one two : L) → one ≡ two → OutIs end s one → OutIs end s two
at_end end s one two same h = subst (λ o. OutIs end s o) same h

pub left_end : (w : World) (a : AccessView) (now : State Value Late) (one two : L) → one ≡ two → LeftMeaning w a now one → LeftMeaning w a now two
left_end w a now one two same h = subst (λ o. LeftMeaning w a now o) same h

pub later_end : (w : World) (now : State Value Late) (one two : L) → one ≡ two → Later w now.rest (end_state one).rest → Later w now.rest (end_state two).rest
later_end w now one two same h = subst (λ (o : L). Later w now.rest (end_state o).rest) same h
