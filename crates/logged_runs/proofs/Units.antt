-- What is noted of calls of functions and of polls, besides the log.
use Rattle.std.proofs.Common.{◌≡◌, ◌∙◌, ℕ, suc, ◌^◌, ◌<◌, OnOk, OnErr, nat_eq, nat_lt, slice_index, drop, length, codes, Bool, true, false, cond, ◌||◌, ◌&&◌, List, [], ◌∷◌, ◌++◌, fold, Option, None, Some, Result, Ok, Err, refl, sym, ap, subst}
use Rattle.std.proofs.lemmas.List.{append_assoc, append-nil}
use Rattle.std.proofs.lemmas.Bool.{and_right}
use Rattle.sequence_trees.specs.declared.spot.Spot.{Spot}
use Rattle.sequence_rules.specs.Direct.{Now, direct}
use Rattle.dap_base.specs.Outcome.{◌>>=◌}
use Rattle.function_table.specs.declared.function.Function.{Function}
use Rattle.sequence_rules.specs.Calls.{ask, function_result, global}
use Rattle.sequence_rules.specs.Machine as machine
use Rattle.sequence_rules.specs.Machine.{State, Out, end_state, halt, step_more}
use Rattle.sequence_rules.specs.Steps.{counted_step, dropped_value, poll_result, poll_result_at}
use Rattle.target_machine.specs.declared.unit.HaltCause.TheVariants.{StepLimit, Unsupported}
use Rattle.target_machine.specs.declared.unit.Unit.TheVariants as unit
use Rattle.run_events.specs.Events.{Event, MadeUnit, Makes, Writes, all_made, places_after, units_between, units_from}
use Rattle.run_events.specs.OfSteps.{poll_end, poll_events, polled_events}
use Rattle.run_events.specs.OfValues.{function_events, function_line, new_line, written_line}
use Rattle.target_machine.specs.Plain.{Answered}
use Rattle.logged_calls.specs.Held.{CodeEndsAs, Means, SeenAsPoll, Unless, poll_value}
use Rattle.log_lines.specs.LogLines.{lines_after_events}
use Rattle.logged_calls.proofs.EndLemmas.{ends_on}
use Rattle.logged_calls.proofs.NotedLemmas.{no_units}
use Rattle.logged_calls.specs.declared.held.LoggedEnd.{LoggedEnd}
use Rattle.logged_calls.specs.declared.held.LoggedEnd.TheVariants as end
use Rattle.logged_calls.specs.declared.held.Stopped.{Stopped}
use Rattle.run_coverage.specs.declared.coverage.Coverage.{Coverage}
use Rattle.run_coverage.specs.Covered.{IsOf}
use Rattle.run_coverage.proofs.CoverLemmas.{not_noted}
use Rattle.logged_runs.specs.Seen.{NotesAll, NotesByTurns, SeenSoFar, has_error, has_timeout, is_error_call}
use Rattle.logged_runs.proofs.NoteLemmas.{all_then, notes_as, notes_none, refused, refused_ends}
use Rattle.logged_runs.proofs.Messages.{came, error_is}

abbrev S : Type 0
S = State ℕ Now

-- ---- units

made_covered : (coverage : Coverage) (units : List MadeUnit) (earlier : List Event) → IsOf coverage earlier → IsOf coverage (earlier ++ all_made units)
made_covered coverage [] earlier of = subst (IsOf coverage) (sym (append-nil earlier)) of
made_covered coverage (u ∷ units) earlier of =
    subst (IsOf coverage) (append_assoc earlier (Makes u ∷ []) (all_made units)) (made_covered coverage units (earlier ++ Makes u ∷ []) (not_noted coverage earlier (Makes u) refl of))

made_places : (places : List Spot) (units : List MadeUnit) → places ≡ fold places_after places (all_made units)
made_places places [] = refl
made_places places (u ∷ units) = made_places places units

made_no_timeout : (units : List MadeUnit) → has_timeout (all_made units) ≡ false
made_no_timeout [] = refl
made_no_timeout (u ∷ units) = made_no_timeout units

made_no_error : (units : List MadeUnit) → has_error (all_made units) ≡ false
made_no_error [] = refl
made_no_error (u ∷ units) = made_no_error units

pub or_none : (a b : Bool) → b ≡ false → a ≡ (a || b)
or_none true b h = refl
or_none false b h = sym h

-- units are noted in the log alone
pub units_all : (a b : SeenSoFar) (units : List MadeUnit) → b.places ≡ a.places → b.coverage ≡ a.coverage → b.timed_out ≡ a.timed_out → b.error_shown ≡ a.error_shown → NotesAll a b (all_made units)
units_all a b units p c t e = record {
  places = p ∙ made_places a.places units;
  covered = λ earlier of. subst (λ x. IsOf x (earlier ++ all_made units)) (sym c) (made_covered a.coverage units earlier of);
  timed_out = t ∙ or_none a.timed_out _ (made_no_timeout units);
  error_shown = e ∙ or_none a.error_shown _ (made_no_error units);
}

-- ---- polls

module _ (a m : SeenSoFar) (s r : S) (spot : Spot) (turns : ℕ) (p : m.places ≡ a.places) (c : m.coverage ≡ a.coverage) (t : m.timed_out ≡ a.timed_out) (e : m.error_shown ≡ a.error_shown) where
  pub poll_all : (b : SeenSoFar) (n : ℕ) → SeenAsPoll s r (Ok n) → NotesAll m b (poll_end spot turns (Some (Answered n))) → NotesAll a b (polled_events spot turns (units_between s r))
  poll_all b n k h = subst (NotesAll a b) (sym (k.seen spot turns)) (all_then a m b (all_made (units_between s r)) (poll_end spot turns (Some (Answered n))) (units_all a m (units_between s r) p c t e) h)

  pub poll_stopped_all : (stopped : Stopped) → SeenAsPoll s r (Err stopped) → NotesAll a m (polled_events spot turns (units_between s r))
  poll_stopped_all stopped k = subst (NotesAll a m) (sym (k.seen spot turns ∙ append-nil (all_made (units_between s r)))) (units_all a m (units_between s r) p c t e)

poll_by : (form : ℕ × ℕ) (n : ℕ) (x : ℕ × S) (b : Bool)
    → cond b (dropped_value (direct false) (ask (direct false) (unit.Poll form.0 form.1 n) false x.1)) (halt Unsupported x.1) ≡ dropped_value (direct false) (cond b (ask (direct false) (unit.Poll form.0 form.1 n) false x.1) (halt Unsupported x.1))
unfolding dropped_value
poll_by form n x true = refl
poll_by form n x false = refl

poll_at : (form : ℕ × ℕ) (n : ℕ) (o : Out ℕ Now ℕ)
    → (o >>= λ d. poll_result_at (direct false) form n d.0 d.1) ≡ dropped_value (direct false) (o >>= λ d. cond (nat_eq d.0 0) (ask (direct false) (unit.Poll form.0 form.1 n) false d.1) (halt Unsupported d.1))
unfolding dropped_value poll_result_at
poll_at form n (Ok x) = poll_by form n x (nat_eq x.0 0)
poll_at form n (Err e) = refl

pub poll_is : (form : ℕ × ℕ) (n : ℕ) (s k : S) → counted_step (direct false) s ≡ Ok (tt, k) → poll_result (direct false) form n s ≡ dropped_value (direct false) (poll_value form n k)
unfolding poll_result
poll_is form n s k is = rw is (poll_at form n (global (direct false) (codes "__dp") k))

-- a step is counted, where this is so
abbrev count_by : S → Bool → Out ℕ Now (Unit {0})
count_by s b = cond b (Ok (tt, step_more s)) (halt StepLimit s)

rest_by : (s k : S) (b : Bool) → count_by s b ≡ Ok (tt, k) → s.rest ≡ k.rest
rest_by s k true h = ap (λ (o : Out ℕ Now (Unit {0})). (end_state o).rest) h
rest_by s k false h = absurd cc

counted_rest : (s k : S) → counted_step (direct false) s ≡ Ok (tt, k) → s.rest ≡ k.rest
unfolding counted_step
counted_rest s k is = rest_by s k (nat_lt s.steps 100000000) is

same_by : (s r : S) (x : machine.Over) (b : Bool) → count_by s b ≡ Err (x, r) → r ≡ s
same_by s r x true h = absurd cc
same_by s r x false h = sym (ap (λ (o : Out ℕ Now (Unit {0})). end_state o) h)

not_counted : (s r : S) (x : machine.Over) → counted_step (direct false) s ≡ Err (x, r) → r ≡ s
unfolding counted_step
not_counted s r x is = same_by s r x (nat_lt s.steps 100000000) is

pub between_counted : (s k r : S) → counted_step (direct false) s ≡ Ok (tt, k) → units_between k r ≡ units_between s r
between_counted s k r is = ap (λ (x : Now). units_from x.world (suc (length x.calls)) (drop (length x.calls) r.rest.calls)) (sym (counted_rest s k is))

-- what is seen of a poll that was counted
pub poll_seen_as : (P : List Event → Type 0) (e : LoggedEnd) (result : Result (Unit {0}) Stopped) (form : ℕ × ℕ) (spot : Spot) (n : ℕ) (s k r : S) → counted_step (direct false) s ≡ Ok (tt, k)
    → Means e result r (dropped_value (direct false) (poll_value form n k)) → Unless e result (P (polled_events spot n (units_between k r))) → Unless e result (P (poll_events spot form n s))
unfolding poll_events
poll_seen_as P e result form spot n s k r is h q = by e result h q
  where
    events_are : end_state (poll_result (direct false) form n s) ≡ r → polled_events spot n (units_between k r) ≡ polled_events spot n (units_between s (end_state (poll_result (direct false) form n s)))
    events_are ends = ap (λ u. polled_events spot n u) (between_counted s k r is) ∙ ap (λ x. polled_events spot n (units_between s x)) (sym ends)

    ends_at : (o : Out ℕ Now (Unit {0})) → dropped_value (direct false) (poll_value form n k) ≡ o → end_state (poll_result (direct false) form n s) ≡ end_state o
    ends_at o h = ap (λ x. end_state x) (poll_is form n s k is ∙ h)

    by : (e : LoggedEnd) (result : Result (Unit {0}) Stopped) → Means e result r (dropped_value (direct false) (poll_value form n k)) → Unless e result (P (polled_events spot n (units_between k r)))
        → Unless e result (P (polled_events spot n (units_between s (end_state (poll_result (direct false) form n s)))))
    by e (Ok x) h q = subst P (events_are (ends_at _ h)) q
    by (end.Halted cause) (Err stopped) h q = subst P (events_are (ends_at _ h)) q
    by (end.Faulted u) (Err stopped) h q = subst P (events_are (ends_at _ h)) q
    by end.OutOfMemory (Err stopped) h q = tt

-- a poll that was not counted
nothing_polled : (form : ℕ × ℕ) (spot : Spot) (n : ℕ) (s r : S) (x : machine.Over) → counted_step (direct false) s ≡ Err (x, r) → [] ≡ poll_events spot form n s
unfolding poll_events poll_result
nothing_polled form spot n s r x is =
    let out : poll_result (direct false) form n s ≡ Err (x, r) = rw is refl in
    sym (ap (λ (q : S). polled_events spot n (units_between s q)) (ap (λ (o : Out ℕ Now (Unit {0})). end_state o) out ∙ not_counted s r x is) ∙ ap (λ u. polled_events spot n u) (no_units s s refl))

pub poll_not_counted : (e : LoggedEnd) (stopped : Stopped) (turns : ℕ) (a : SeenSoFar) (form : ℕ × ℕ) (spot : Spot) (n : ℕ) (s r : S) → CodeEndsAs e r (counted_step (direct false) s) → Unless {A = Unit {0}} e (Err stopped) (NotesByTurns turns a a (λ shows. poll_events spot form n s))
poll_not_counted (end.Halted cause) stopped turns a form spot n s r k = notes_as turns a a (λ shows. []) (λ shows. poll_events spot form n s) (λ shows. nothing_polled form spot n s r _ k) (notes_none turns a)
poll_not_counted (end.Faulted u) stopped turns a form spot n s r k = notes_as turns a a (λ shows. []) (λ shows. poll_events spot form n s) (λ shows. nothing_polled form spot n s r _ k) (notes_none turns a)
poll_not_counted end.OutOfMemory stopped turns a form spot n s r k = tt

-- ---- lines

line_covered : (coverage : Coverage) (o : Option (List ℕ)) (earlier : List Event) → IsOf coverage earlier → IsOf coverage (earlier ++ written_line o)
line_covered coverage None earlier of = subst (IsOf coverage) (sym (append-nil earlier)) of
line_covered coverage (Some line) earlier of = not_noted coverage earlier (Writes line) refl of

no_line : (b : Bool) → cond b (written_line None) [] ≡ []
no_line true = refl
no_line false = refl

line_all : (a b : SeenSoFar) (test : Bool) (o : Option (List ℕ)) → b.places ≡ a.places → b.coverage ≡ a.coverage → b.timed_out ≡ a.timed_out → b.error_shown ≡ (a.error_shown || has_error (cond test (written_line o) []))
    → NotesAll a b (cond test (written_line o) [])
line_all a b test None p c t e = record {
  places = p ∙ ap (λ xs. fold places_after a.places xs) (sym (no_line test));
  covered = λ earlier of. subst (λ x. IsOf x (earlier ++ cond test (written_line None) [])) (sym c) (subst (λ xs. IsOf a.coverage (earlier ++ xs)) (sym (no_line test)) (subst (IsOf a.coverage) (sym (append-nil earlier)) of));
  timed_out = t ∙ or_none a.timed_out _ (ap has_timeout (no_line test));
  error_shown = e;
}
line_all a b true (Some line) p c t e = record {
  places = p;
  covered = λ earlier of. subst (λ x. IsOf x (earlier ++ Writes line ∷ [])) (sym c) (line_covered a.coverage (Some line) earlier of);
  timed_out = t ∙ or_none a.timed_out _ refl;
  error_shown = e;
}
line_all a b false (Some line) p c t e = record {
  places = p;
  covered = λ earlier of. subst (λ x. IsOf x (earlier ++ [])) (sym c) (subst (IsOf a.coverage) (sym (append-nil earlier)) of);
  timed_out = t ∙ or_none a.timed_out _ refl;
  error_shown = e;
}

no_error_more : (a : Bool) (units : List MadeUnit) → a ≡ (a || has_error (all_made units))
no_error_more a units = or_none a _ (made_no_error units)

-- a call of a function
pub function_all : (a b : SeenSoFar) (function : Function) (text n : List ℕ) (s : S) → b.places ≡ a.places → b.coverage ≡ a.coverage → b.timed_out ≡ a.timed_out
    → b.error_shown ≡ (a.error_shown || has_error (new_line function text n s (end_state (function_result (direct false) function text n s)))) → NotesAll a b (function_events function text n s)
unfolding function_events
function_all a b function text n s p c t e =
    all_then a a b (all_made units) (new_line function text n s r) (units_all a a units refl refl refl refl) (line_all a b (nat_lt s.lines r.lines) (function_line function text n) p c t e)
  where
    r : S
    r = end_state (function_result (direct false) function text n s)

    units : List MadeUnit
    units = units_between s r

pub or_true : (b c : Bool) → c ≡ true → true ≡ (b || c)
or_true true c h = refl
or_true false c h = sym h

and_true : (b c : Bool) → c ≡ true → b ≡ (b && c)
and_true true c h = sym h
and_true false c h = refl

module _ (turns : ℕ) (a b : SeenSoFar) (function : Function) (text n : List ℕ) (s r : S) (p : b.places ≡ a.places) (c : b.coverage ≡ a.coverage) (t : b.timed_out ≡ a.timed_out) (fits : slice_index n 0 < 2 ^ 64) where
  abbrev out : Out ℕ Now ℕ
  out = function_result (direct false) function text n s

  -- a call that came to a value
  pub function_done : (x : ℕ) → out ≡ Ok (x, r) → b.error_shown ≡ (a.error_shown || is_error_call function n) → b.log ≡ lines_after_events a.log (function_events function text n s) → NotesByTurns turns a b (λ shows. function_events function text n s)
  function_done x is e log = record {
    log = log;
    all = function_all a b function text n s p c t (e ∙ ap (λ y. a.error_shown || y) (and_true (is_error_call function n) (came out) (ap came is) ∙ sym (error_is function text n s fits)));
  }

  stopped_so : (x : machine.Over × S) → out ≡ Err x → b.error_shown ≡ a.error_shown → b.log ≡ lines_after_events a.log (function_events function text n s) → NotesByTurns turns a b (λ shows. function_events function text n s)
  stopped_so x is e log = record {
    log = log;
    all = function_all a b function text n s p c t (e ∙ or_none a.error_shown _ (error_is function text n s fits ∙ and_right (is_error_call function n) (came out) (ap came is)));
  }

  -- a call that did not
  pub function_stops : (e : LoggedEnd) (stopped : Stopped) → CodeEndsAs e r out → b.error_shown ≡ a.error_shown → Unless {A = ℕ} e (Err stopped) (b.log ≡ lines_after_events a.log (function_events function text n s))
      → Unless {A = ℕ} e (Err stopped) (NotesByTurns turns a b (λ shows. function_events function text n s))
  function_stops (end.Halted cause) stopped is same log = stopped_so _ is same log
  function_stops (end.Faulted u) stopped is same log = stopped_so _ is same log
  function_stops end.OutOfMemory stopped is same log = tt

-- ---- what a poll comes to

pub ends_dropped : (e : LoggedEnd) (now : S) (out : Out ℕ Now ℕ) → CodeEndsAs e now out → CodeEndsAs e now (dropped_value (direct false) out)
unfolding dropped_value
ends_dropped e now out h = ends_on e now out _ h

pub poll_gives : (e : LoggedEnd) (result : Result (Unit {0}) Stopped) (r q : S) (out : Out ℕ Now ℕ) (v : ℕ) → out ≡ Ok (v, r) → OnOk result (q ≡ r) → OnErr result (e ≡ end.OutOfMemory) → Means e result q (dropped_value (direct false) out)
unfolding dropped_value
poll_gives e (Ok x) r q out v is same none = rw is (ap (λ k. Ok (tt, k)) (sym same))
poll_gives e (Err stopped) r q out v is same none = refused_ends e q (dropped_value (direct false) out) none

module _ (turns : ℕ) (a m : SeenSoFar) (s r : S) (spot : Spot) (count : ℕ) (p : m.places ≡ a.places) (c : m.coverage ≡ a.coverage) (t : m.timed_out ≡ a.timed_out) (e : m.error_shown ≡ a.error_shown) where
  pub poll_stops : (end : LoggedEnd) (stopped : Stopped) → Unless {A = ℕ} end (Err stopped) (m.log ≡ lines_after_events a.log (polled_events spot count (units_between s r))) → Unless {A = ℕ} end (Err stopped) (SeenAsPoll s r (Err stopped))
      → Unless {A = Unit {0}} end (Err stopped) (NotesByTurns turns a m (λ shows. polled_events spot count (units_between s r)))
  poll_stops (end.Halted cause) stopped log seen = record { log = log; all = poll_stopped_all a m s r spot count p c t e stopped seen }
  poll_stops (end.Faulted u) stopped log seen = record { log = log; all = poll_stopped_all a m s r spot count p c t e stopped seen }
  poll_stops end.OutOfMemory stopped log seen = tt

  pub poll_noted : (b : SeenSoFar) (q : S) (last : LoggedEnd) (result : Result (Unit {0}) Stopped) (v : ℕ) → m.log ≡ lines_after_events a.log (polled_events spot count (units_between s r)) → SeenAsPoll s r (Ok v)
      → OnOk result (q ≡ r) → OnOk result (b.log ≡ m.log) → OnErr result (last ≡ end.OutOfMemory) → OnOk result (NotesAll m b (poll_end spot count (Some (Answered v))))
      → Unless last result (NotesByTurns turns a b (λ shows. polled_events spot count (units_between s q)))
  poll_noted b q last (Ok x) v log seen same kept none h =
      subst (λ (k : S). NotesByTurns turns a b (λ shows. polled_events spot count (units_between s k))) (sym same) (record { log = kept ∙ log; all = poll_all a m s r spot count p c t e b v seen h })
  poll_noted b q last (Err stopped) v log seen same kept none h = refused (Unit {0}) (NotesByTurns turns a b (λ shows. polled_events spot count (units_between s q))) last stopped none
