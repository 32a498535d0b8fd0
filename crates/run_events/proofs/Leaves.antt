-- What is seen of a function, of a poll, and of what asks nothing.
use Rattle.std.proofs.Common.{◌≡◌, ℕ, suc, ◌+◌, Bool, true, false, cond, List, [], ◌∷◌, ◌++◌, length, drop, nat_lt, nat_eq, slice_index, Option, None, Some, option_map, unwrap_or, Result, Ok, refl, sym, ap, ◌∙◌, arith}
use Rattle.std.proofs.lemmas.List.{append_assoc, append-nil}
use Rattle.std.proofs.Math.Seq.{drop-append_seam}
use Rattle.std.proofs.lemmas.Bool.{lt-ltb}
use Rattle.function_table.specs.declared.function.Function.{Function}
use Rattle.function_table.specs.declared.function.Function.TheVariants as f
use Rattle.sequence_trees.specs.declared.spot.Spot.{Spot}
use Rattle.target_calls.specs.declared.calls.Ask.{Ask}
use Rattle.target_machine.specs.declared.unit.HaltCause.TheVariants.{MessageLimit, StepLimit}
use Rattle.target_calls.specs.Asks.{unit_ask, probe_ask}
use Rattle.target_calls.specs.World.{World, is_over, done_now, next_world}
use Rattle.target_machine.specs.Plain.{CallEnd, Answered, Skipped, Faulted, Small}
use Rattle.sequence_rules.specs.Calls.{port_with, port_from, port, or_halt, use_now, missing, value_or_missing, global, counted_answer, ask, counted_number, command, zero_of, if_read, low_and_high, second_half, two_units, one_unit, memory_at, memory, ap_at, ap_register, dp_at, dp_register, abort_at, abort, delay, clock, pins, line_bits, line_result, function_result}
use Rattle.sequence_rules.specs.Direct.{Now, with_call, answers, made_call, line_after, with_line, direct}
use Rattle.sequence_rules.specs.Machine.{Over, Machine, State, Out, halt, line_more, step_more, end_state, rest_of}
use Rattle.sequence_rules.specs.Steady.{Steady}
use Rattle.sequence_rules.specs.Steps.{counted_step, dropped_value, poll_result_at, poll_result}
use Rattle.sequence_rules.specs.Variables.{set_visible}
use Rattle.sequence_rules.proofs.Goes as g
use Rattle.sequence_rules.proofs.LateLemmas.{append_none}
use Rattle.run_events.specs.Events.{Event, Writes, TimesOut, Matches, MadeUnit, left_by, units_from, units_between, all_made, units_in, lines_in}
use Rattle.run_events.specs.OfSteps.{poll_end, polled_events, poll_events}
use Rattle.run_events.specs.OfValues.{function_line, written_line, new_line, function_events}
use Rattle.run_events.proofs.Said.{left_on, Said, Tells, said_none, units_append, lines_append}
use Rattle.dap_base.proofs.Basics.{lt_itself}

-- ---- calls move the world

record Moves (t u : Now) : Type 0 where
  more : List Ask
  calls : u.calls ≡ t.calls ++ more
  world : u.world ≡ left_by t.world more

moves_same : (t : Now) → Moves t t
moves_same t = record { more = []; calls = sym (append-nil t.calls); world = refl }

moves_on : (a b c : Now) → Moves a b → Moves b c → Moves a c
moves_on a b c h k = record {
  more = h.more ++ k.more;
  calls = k.calls ∙ ap (λ c. c ++ k.more) h.calls ∙ append_assoc a.calls h.more k.more;
  world = k.world ∙ ap (λ w. left_by w k.more) h.world ∙ sym (left_on a.world h.more k.more);
}

moves_line : (line : List ℕ) (t : Now) → Moves t (with_line line t)
moves_line line t = record { more = []; calls = sym (append-nil t.calls); world = refl }

moves_answer : (ask : Ask) (e : CallEnd) (t : Now) → is_over t.world.answered ≡ false → Moves t (rest_of (answers ask e (with_call ask (next_world t.world ask) t)))
moves_answer ask (Answered n) t o = record { more = ask ∷ []; calls = refl; world = rw o refl }
moves_answer ask Skipped t o = record { more = ask ∷ []; calls = refl; world = rw o refl }
moves_answer ask Faulted t o = record { more = ask ∷ []; calls = refl; world = rw o refl }
moves_answer ask Small t o = record { more = ask ∷ []; calls = refl; world = rw o refl }

moves_made : (ask : Ask) (t : Now) → Moves t (rest_of (made_call ask t))
unfolding made_call
moves_made ask t = either (is_over t.world.answered) refl
  where
    either : (b : Bool) → is_over t.world.answered ≡ b → Moves t (rest_of (made_call ask t))
    either true o = rw o (record { more = ask ∷ []; calls = refl; world = rw o refl })
    either false o = rw o (moves_answer ask (done_now t.world ask).end t o)

steady_moves : Steady (direct false) Moves
unfolding direct
steady_moves = record {
  same = moves_same;
  on = moves_on;
  used = λ v t. moves_same t;
  asked = λ u forgive t. moves_made (unit_ask u forgive) t;
  commanded = λ c t. moves_made (probe_ask c) t;
  confirmed = λ t. moves_same t;
  written = moves_line;
}

-- ---- what writes no line: on this machine nothing is written

silent : Machine ℕ Now
silent = record {
  number = λ n. n;
  used = λ n t. (n, t);
  asked = λ u forgive t. made_call (unit_ask u forgive) t;
  commanded = λ c t. made_call (probe_ask c) t;
  confirmed = λ t. t;
  written = λ line t. t;
  is_watchful = false;
}

abbrev SameLines : Now → Now → Type 0
SameLines t u = u.written ≡ t.written

lines_answer : (ask : Ask) (e : CallEnd) (w : World) (t : Now) → SameLines t (rest_of (answers ask e (with_call ask w t)))
lines_answer ask (Answered n) w t = refl
lines_answer ask Skipped w t = refl
lines_answer ask Faulted w t = refl
lines_answer ask Small w t = refl

lines_made : (ask : Ask) (t : Now) → SameLines t (rest_of (made_call ask t))
unfolding made_call
lines_made ask t = either (is_over t.world.answered) _ _ refl (lines_answer ask (done_now t.world ask).end (next_world t.world ask) t)
  where
    either : (c : Bool) (x y : Result (ℕ × Now) (Over × Now)) → SameLines t (rest_of x) → SameLines t (rest_of y) → SameLines t (rest_of (cond c x y))
    either true x y h k = h
    either false x y h k = k

steady_silent : Steady silent SameLines
unfolding silent
steady_silent = record {
  same = λ t. refl;
  on = λ a b c h k. k ∙ h;
  used = λ v t. refl;
  asked = λ u forgive t. lines_made (unit_ask u forgive) t;
  commanded = λ c t. lines_made (probe_ask c) t;
  confirmed = λ t. refl;
  written = λ line t. refl;
}

-- ---- units as events

all_units : (units : List MadeUnit) → units_in (all_made units) ≡ units
all_units [] = refl
all_units (u ∷ units) = ap (λ more. u ∷ more) (all_units units)

all_lines : (units : List MadeUnit) → lines_in (all_made units) ≡ []
all_lines [] = refl
all_lines (u ∷ units) = all_lines units

between : (s r : State ℕ Now) (h : Moves s.rest r.rest) → units_between s r ≡ units_from s.rest.world (suc (length s.rest.calls)) h.more
between s r h = ap (λ c. units_from s.rest.world (suc (length s.rest.calls)) (drop (length s.rest.calls) c)) h.calls
    ∙ ap (units_from s.rest.world (suc (length s.rest.calls))) (drop-append_seam s.rest.calls h.more)

-- events with exactly the units between, and these lines
said_between : (s r : State ℕ Now) (events : List Event) → Moves s.rest r.rest → units_in events ≡ units_between s r → r.rest.written ≡ option_map (line_after (lines_in events)) s.rest.written → Said s.rest r.rest events
said_between s r events h a b = record { more = h.more; calls = h.calls; world = h.world; units = a ∙ between s r h; lines = b }

-- ---- functions

lt_more : (n : ℕ) → nat_lt n (n + 1) ≡ true
lt_more n = lt-ltb n (n + 1) (omega arith)

same_lines : (function : Function) (text n : List ℕ) (s : State ℕ Now) → function_line function text n ≡ None → SameLines s.rest (end_state (function_result (direct false) function text n s)).rest
unfolding silent direct function_result memory memory_at one_unit two_units second_half low_and_high if_read zero_of command counted_number ask counted_answer port port_from port_with global value_or_missing missing use_now or_halt ap_register ap_at dp_register dp_at abort abort_at delay clock pins line_bits
same_lines f.Read8 text n s e = (g.goes_memory silent SameLines steady_silent 1 true (slice_index n 0) 0 s).so
same_lines f.Read16 text n s e = (g.goes_memory silent SameLines steady_silent 2 true (slice_index n 0) 0 s).so
same_lines f.Read32 text n s e = (g.goes_memory silent SameLines steady_silent 4 true (slice_index n 0) 0 s).so
same_lines f.Read64 text n s e = (g.goes_memory silent SameLines steady_silent 8 true (slice_index n 0) 0 s).so
same_lines f.Write8 text n s e = (g.goes_memory silent SameLines steady_silent 1 false (slice_index n 0) (slice_index n 1) s).so
same_lines f.Write16 text n s e = (g.goes_memory silent SameLines steady_silent 2 false (slice_index n 0) (slice_index n 1) s).so
same_lines f.Write32 text n s e = (g.goes_memory silent SameLines steady_silent 4 false (slice_index n 0) (slice_index n 1) s).so
same_lines f.Write64 text n s e = (g.goes_memory silent SameLines steady_silent 8 false (slice_index n 0) (slice_index n 1) s).so
same_lines f.ReadAp text n s e = (g.goes_ap_register silent SameLines steady_silent true (slice_index n 0) 0 s).so
same_lines f.WriteAp text n s e = (g.goes_ap_register silent SameLines steady_silent false (slice_index n 0) (slice_index n 1) s).so
same_lines f.ReadDp text n s e = (g.goes_dp_register silent SameLines steady_silent true (slice_index n 0) 0 s).so
same_lines f.WriteDp text n s e = (g.goes_dp_register silent SameLines steady_silent false (slice_index n 0) (slice_index n 1) s).so
same_lines f.DapDelay text n s e = (g.goes_zero silent SameLines steady_silent (delay silent (slice_index n 0) s) s (g.goes_delay silent SameLines steady_silent (slice_index n 0) s)).so
same_lines f.DapSwjClock text n s e = (g.goes_zero silent SameLines steady_silent (clock silent (slice_index n 0) s) s (g.goes_clock silent SameLines steady_silent (slice_index n 0) s)).so
same_lines f.DapWriteAbort text n s e = (g.goes_zero silent SameLines steady_silent (abort silent (slice_index n 0) s) s (g.goes_abort silent SameLines steady_silent (slice_index n 0) s)).so
same_lines f.DapSwjPins text n s e = (g.goes_pins silent SameLines steady_silent (slice_index n 0) (slice_index n 1) (slice_index n 2) s).so
same_lines f.DapSwjSequence text n s e = (g.goes_zero silent SameLines steady_silent (line_bits silent (slice_index n 0) (slice_index n 1) s) s (g.goes_line_bits silent SameLines steady_silent (slice_index n 0) (slice_index n 1) s)).so
same_lines f.DapJtagSequence text n s e = refl
same_lines f.Sequence text n s e = refl
same_lines f.Message text n s e = absurd cc
same_lines f.Query text n s e = absurd cc
same_lines f.QueryValue text n s e = absurd cc
same_lines f.LoadDebugInfo text n s e = absurd cc

-- what a line adds is the line that is seen
abbrev IsLined : State ℕ Now → State ℕ Now → List Event → Type 0
IsLined s r events = r.rest.written ≡ option_map (line_after (lines_in events)) s.rest.written

lined : (line : List ℕ) (n : ℕ) (s : State ℕ Now) → IsLined s (end_state (line_result (direct false) line n s)) (cond (nat_lt s.lines (end_state (line_result (direct false) line n s)).lines) (Writes line ∷ []) [])
unfolding line_result direct
lined line n s = either (nat_lt s.lines 100000)
  where
    either : (b : Bool) → IsLined s (end_state (cond b (Ok (n, line_more s (with_line line s.rest))) (halt MessageLimit s))) (cond (nat_lt s.lines (end_state (cond b (Ok (n, line_more s (with_line line s.rest))) (halt MessageLimit s))).lines) (Writes line ∷ []) [])
    either true = rw (lt_more s.lines) (ap (λ l. option_map (line_after l) s.rest.written) (sym (append-nil line)))
    either false = rw (lt_itself s.lines) (append_none s.rest.written)

abbrev none_seen : List Event
none_seen = []

no_line : (b : Bool) (o : Option (List ℕ)) → o ≡ None → cond b (written_line o) [] ≡ []
no_line b None e = either b
  where
    either : (c : Bool) → cond c none_seen none_seen ≡ none_seen
    either true = refl
    either false = refl
no_line b (Some line) e = absurd cc

quiet_line : (function : Function) (text n : List ℕ) (s r : State ℕ Now) → function_line function text n ≡ None → SameLines s.rest r.rest → IsLined s r (new_line function text n s r)
quiet_line function text n s r e k = rw (no_line (nat_lt s.lines r.lines) (function_line function text n) e) (k ∙ append_none s.rest.written)

line_seen : (function : Function) (text n : List ℕ) (s : State ℕ Now) → IsLined s (end_state (function_result (direct false) function text n s)) (new_line function text n s (end_state (function_result (direct false) function text n s)))
unfolding function_result
line_seen f.Message text n s = lined _ _ s
line_seen f.Query text n s = lined _ _ s
line_seen f.QueryValue text n s = lined _ _ s
line_seen f.LoadDebugInfo text n s = lined _ _ s
line_seen function text n s = quiet_line function text n s (end_state (function_result (direct false) function text n s)) refl (same_lines function text n s refl)

line_units : (b : Bool) (o : Option (List ℕ)) → units_in (cond b (written_line o) []) ≡ []
line_units true None = refl
line_units true (Some line) = refl
line_units false o = refl

pub tells_function : (function : Function) (text n : List ℕ) (s : State ℕ Now) → Tells s (function_result (direct false) function text n s) (function_events function text n s)
unfolding function_events
tells_function function text n s =
    let r : State ℕ Now = end_state (function_result (direct false) function text n s) in
    said_between s r _ (g.goes_performed (direct false) Moves steady_moves function text n s).so
    (units_append (all_made (units_between s r)) (new_line function text n s r) ∙ ap (λ xs. units_in (all_made (units_between s r)) ++ xs) (line_units (nat_lt s.lines r.lines) (function_line function text n)) ∙ append-nil (units_in (all_made (units_between s r))) ∙ all_units (units_between s r))
    (line_seen function text n s ∙ ap (λ l. option_map (line_after l) s.rest.written) (sym (lines_append (all_made (units_between s r)) (new_line function text n s r) ∙ ap (λ l. l ++ lines_in (new_line function text n s r)) (all_lines (units_between s r)))))

-- ---- polls

poll_units : (spot : Spot) (turns : ℕ) (end : Option CallEnd) (xs : List Event) → units_in (poll_end spot turns end ++ xs) ≡ units_in xs
poll_units spot turns (Some (Answered n)) xs = either (nat_eq n 0)
  where
    either : (b : Bool) → units_in (cond b (TimesOut spot turns) (Matches spot) ∷ xs) ≡ units_in xs
    either true = refl
    either false = refl
poll_units spot turns (Some Skipped) xs = refl
poll_units spot turns (Some Faulted) xs = refl
poll_units spot turns (Some Small) xs = refl
poll_units spot turns None xs = refl

poll_lines : (spot : Spot) (turns : ℕ) (end : Option CallEnd) (xs : List Event) → lines_in (poll_end spot turns end ++ xs) ≡ lines_in xs
poll_lines spot turns (Some (Answered n)) xs = either (nat_eq n 0)
  where
    either : (b : Bool) → lines_in (cond b (TimesOut spot turns) (Matches spot) ∷ xs) ≡ lines_in xs
    either true = refl
    either false = refl
poll_lines spot turns (Some Skipped) xs = refl
poll_lines spot turns (Some Faulted) xs = refl
poll_lines spot turns (Some Small) xs = refl
poll_lines spot turns None xs = refl

polled_units : (spot : Spot) (turns : ℕ) (units : List MadeUnit) → units_in (polled_events spot turns units) ≡ units
polled_units spot turns [] = refl
polled_units spot turns (u ∷ units) = ap (λ more. u ∷ more) (poll_units spot turns u.end (polled_events spot turns units) ∙ polled_units spot turns units)

polled_lines : (spot : Spot) (turns : ℕ) (units : List MadeUnit) → lines_in (polled_events spot turns units) ≡ []
polled_lines spot turns [] = refl
polled_lines spot turns (u ∷ units) = poll_lines spot turns u.end (polled_events spot turns units) ∙ polled_lines spot turns units

poll_same : (form : ℕ × ℕ) (turns : ℕ) (s : State ℕ Now) → SameLines s.rest (end_state (poll_result (direct false) form turns s)).rest
unfolding silent direct poll_result poll_result_at counted_step dropped_value ask counted_answer global value_or_missing missing use_now
poll_same form turns s = (g.goes_polled silent SameLines steady_silent form turns s).so

pub tells_poll : (spot : Spot) (form : ℕ × ℕ) (turns : ℕ) (s : State ℕ Now) → Tells s (poll_result (direct false) form turns s) (poll_events spot form turns s)
unfolding poll_events
tells_poll spot form turns s =
    let r : State ℕ Now = end_state (poll_result (direct false) form turns s) in
    said_between s r _ (g.goes_polled (direct false) Moves steady_moves form turns s).so
    (polled_units spot turns (units_between s r))
    (poll_same form turns s ∙ append_none s.rest.written ∙ ap (λ l. option_map (line_after l) s.rest.written) (sym (polled_lines spot turns (units_between s r))))

-- ---- what asks nothing

-- a step that is counted, or not
abbrev counted_by : Bool → State ℕ Now → Out ℕ Now (Unit {0})
counted_by b s = cond b (Ok (tt, step_more s)) (halt StepLimit s)

pub tells_counted : (s : State ℕ Now) → Tells s (counted_step (direct false) s) []
unfolding counted_step
tells_counted s = either (nat_lt s.steps 100000000)
  where
    either : (b : Bool) → Tells s (counted_by b s) []
    either true = said_none s.rest
    either false = said_none s.rest

-- what a valid set has is given, and 0 or nothing in its place
pub given_is : {A : Type 0} (x : A) (o : Option A) (s : State ℕ Now) → value_or_missing (direct false) x o s ≡ Ok (unwrap_or o x, s)
unfolding value_or_missing missing direct
given_is x None s = refl
given_is x (Some y) s = refl

-- a variable gets a value, and the rest is the same
pub stored_same : (name : List ℕ) (n : ℕ) (s : State ℕ Now) → (set_visible name n s).rest ≡ s.rest
stored_same name n s = g.stored_rest (direct false) Moves steady_moves name n s
