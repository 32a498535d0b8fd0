-- What is noted of calls, one after the other.
use Rattle.std.proofs.Common.{◌≡◌, ◌∙◌, ℕ, suc, ◌+◌, Bool, true, false, cond, List, [], ◌∷◌, ◌++◌, length, drop, nat_lt, Option, None, Some, Result, Ok, Err, refl, sym, ap, arith}
use Rattle.std.proofs.lemmas.List.{append_assoc, append-nil}
use Rattle.std.proofs.lemmas.Bool.{lt-ltb, le-ltb}
use Rattle.std.proofs.Math.Seq.{drop-append_seam}
use Rattle.function_table.specs.declared.function.Function.{Function}
use Rattle.function_table.specs.declared.function.Function.TheVariants as f
use Rattle.direct_calls.specs.Made.{IsDone}
use Rattle.target_calls.specs.World.{World, done_now}
use Rattle.target_calls.specs.declared.calls.Ask.{Ask}
use Rattle.target_machine.specs.Plain.{CallEnd, call_done}
use Rattle.target_machine.specs.State.{TargetState}
use Rattle.sequence_rules.specs.Calls.{function_result}
use Rattle.sequence_rules.specs.Direct.{Now, direct}
use Rattle.sequence_rules.specs.Machine as machine
use Rattle.sequence_rules.specs.Machine.{State, Out, end_state}
use Rattle.run_events.specs.Events.{Event, MadeUnit, Makes, Writes, all_made, left_by, units_from, units_between}
use Rattle.run_events.specs.OfValues.{function_line, written_line, new_line, function_events}
use Rattle.run_events.proofs.Said.{left_on, length_on, units_on}
use Rattle.log_lines.specs.LogLines.{LogLines, lines_after_event, lines_after_events}
use Rattle.logged_calls.specs.declared.held.LoggedEnd.{LoggedEnd}
use Rattle.logged_calls.specs.declared.held.LoggedEnd.TheVariants as end
use Rattle.logged_calls.specs.declared.held.Stopped.{Stopped}
use Rattle.logged_calls.specs.Held.{Means, Unless, Noted, LineNoted}

pub noted_none : (s r : State ℕ Now) (old new : LogLines) → r.rest.calls ≡ s.rest.calls → r.rest.world ≡ s.rest.world → r.lines ≡ s.lines → new ≡ old → Noted s r old new
noted_none s r old new a b c d = record { more = []; calls = a ∙ sym (append-nil s.rest.calls); world = b; lines = c; log = d }

made_on : (xs ys : List MadeUnit) → all_made (xs ++ ys) ≡ all_made xs ++ all_made ys
made_on [] ys = refl
made_on (x ∷ xs) ys = ap (λ more. Makes x ∷ more) (made_on xs ys)

pub all_on : (log : LogLines) (xs ys : List Event) → lines_after_events log (xs ++ ys) ≡ lines_after_events (lines_after_events log xs) ys
all_on log [] ys = refl
all_on log (x ∷ xs) ys = all_on (lines_after_event log x) xs ys

pub noted_on : (s q r : State ℕ Now) (old mid new : LogLines) → Noted s q old mid → Noted q r mid new → Noted s r old new
noted_on s q r old mid new h k =
    let w : World = s.rest.world in
    let n : ℕ = suc (length s.rest.calls) in
    let first : List Event = all_made (units_from w n h.more) in
    let same : units_from q.rest.world (suc (length q.rest.calls)) k.more ≡ units_from (left_by w h.more) (n + length h.more) k.more
    = ap (λ x. units_from x (suc (length q.rest.calls)) k.more) h.world ∙ ap (λ c. units_from (left_by w h.more) (suc (length c)) k.more) h.calls ∙ ap (λ m. units_from (left_by w h.more) m k.more) (length_on s.rest.calls h.more) in
    record {
      more = h.more ++ k.more;
      calls = k.calls ∙ ap (λ c. c ++ k.more) h.calls ∙ append_assoc s.rest.calls h.more k.more;
      world = k.world ∙ ap (λ x. left_by x k.more) h.world ∙ sym (left_on w h.more k.more);
      lines = k.lines ∙ h.lines;
      log = k.log ∙ ap (λ l. lines_after_events l (all_made (units_from q.rest.world (suc (length q.rest.calls)) k.more))) h.log
          ∙ ap (λ u. lines_after_events (lines_after_events old first) (all_made u)) same
          ∙ sym (all_on old first (all_made (units_from (left_by w h.more) (n + length h.more) k.more)))
          ∙ ap (lines_after_events old) (sym (made_on (units_from w n h.more) (units_from (left_by w h.more) (n + length h.more) k.more)) ∙ ap all_made (sym (units_on w n h.more k.more)));
    }

pub notes_on : {A : Type 0} (e : LoggedEnd) (result : Result A Stopped) (s q r : State ℕ Now) (old mid new : LogLines) → Noted s q old mid → Unless e result (Noted q r mid new) → Unless e result (Noted s r old new)
notes_on e (Ok x) s q r old mid new h k = noted_on s q r old mid new h k
notes_on (end.Halted cause) (Err stopped) s q r old mid new h k = noted_on s q r old mid new h k
notes_on (end.Faulted u) (Err stopped) s q r old mid new h k = noted_on s q r old mid new h k
notes_on end.OutOfMemory (Err stopped) s q r old mid new h k = tt

-- ---- one unit

last_length : (calls : List Ask) (ask : Ask) → length (calls ++ ask ∷ []) ≡ suc (length calls)
last_length [] ask = refl
last_length (x ∷ calls) ask = ap suc (last_length calls ask)

pub noted_one : (s r : State ℕ Now) (old new : LogLines) (ask : Ask) (e : CallEnd) (u : TargetState) (large : List ℕ) (number : ℕ) → s.rest.world.answered ≡ None
    → r.rest.calls ≡ s.rest.calls ++ ask ∷ [] → r.rest.world ≡ record { target = u; large = large; answered = None } → r.lines ≡ s.lines
    → IsDone (call_done s.rest.world.target s.rest.world.large ask.forgive ask.call) e u large → number ≡ length r.rest.calls
    → new ≡ lines_after_event old (Makes (record { number = number; ask = ask; end = Some e })) → Noted s r old new
noted_one s r old new ask e u large number all calls world lines d is log = record {
  more = ask ∷ [];
  calls = calls;
  world = world ∙ sym (rw all (ap (λ x. record { target = x; large = (done_now s.rest.world ask).large; answered = None }) d.next_is ∙ ap (λ l. record { target = u; large = l; answered = None }) d.large_is));
  lines = lines;
  log = log ∙ sym (rw all (ap (λ x. lines_after_event old (Makes (record { number = suc (length s.rest.calls); ask = ask; end = Some x }))) d.end_is
      ∙ ap (λ k. lines_after_event old (Makes (record { number = k; ask = ask; end = Some e }))) (sym (is ∙ ap length calls ∙ last_length s.rest.calls ask))));
}

-- ---- functions

pub between_is : (s r : State ℕ Now) (old new : LogLines) (h : Noted s r old new) → units_between s r ≡ units_from s.rest.world (suc (length s.rest.calls)) h.more
between_is s r old new h = ap (λ c. units_from s.rest.world (suc (length s.rest.calls)) (drop (length s.rest.calls) c)) h.calls
    ∙ ap (units_from s.rest.world (suc (length s.rest.calls))) (drop-append_seam s.rest.calls h.more)

none_new : (b : Bool) (o : Option (List ℕ)) → o ≡ None → (xs : List Event) → xs ++ cond b (written_line o) [] ≡ xs
none_new true None e xs = append-nil xs
none_new false None e xs = append-nil xs
none_new b (Some line) e xs = absurd cc

seen_at : (function : Function) (text n : List ℕ) (s r : State ℕ Now) (old new : LogLines) → function_line function text n ≡ None → Noted s r old new
    → new ≡ lines_after_events old (all_made (units_between s r) ++ new_line function text n s r)
seen_at function text n s r old new e h =
    h.log ∙ ap (lines_after_events old) (ap all_made (sym (between_is s r old new h)) ∙ sym (none_new (nat_lt s.lines r.lines) (function_line function text n) e (all_made (units_between s r))))

end_is : {A : Type 0} (now : State ℕ Now) (out : Out ℕ Now A) (x : A) → out ≡ Ok (x, now) → end_state out ≡ now
end_is now out x h = ap end_state h

over_is : {A : Type 0} (now : State ℕ Now) (out : Out ℕ Now A) (e : machine.Over) → out ≡ Err (e, now) → end_state out ≡ now
over_is now out e h = ap end_state h

pub units_seen : (e : LoggedEnd) (result : Result ℕ Stopped) (function : Function) (text n : List ℕ) (s r : State ℕ Now) (old new : LogLines) → function_line function text n ≡ None
    → Means e result r (function_result (direct false) function text n s) → Unless e result (Noted s r old new) → Unless e result (new ≡ lines_after_events old (function_events function text n s))
unfolding function_events
units_seen e (Ok x) function text n s r old new none h k = seen_at function text n s r old new none k ∙ ap (λ q. lines_after_events old (all_made (units_between s q) ++ new_line function text n s q)) (sym (end_is r (function_result (direct false) function text n s) x h))
units_seen (end.Halted cause) (Err stopped) function text n s r old new none h k = seen_at function text n s r old new none k ∙ ap (λ q. lines_after_events old (all_made (units_between s q) ++ new_line function text n s q)) (sym (over_is r (function_result (direct false) function text n s) _ h))
units_seen (end.Faulted u) (Err stopped) function text n s r old new none h k = seen_at function text n s r old new none k ∙ ap (λ q. lines_after_events old (all_made (units_between s q) ++ new_line function text n s q)) (sym (over_is r (function_result (direct false) function text n s) _ h))
units_seen end.OutOfMemory (Err stopped) function text n s r old new none h k = tt

pub no_units : (s r : State ℕ Now) → r.rest.calls ≡ s.rest.calls → units_between s r ≡ []
no_units s r h = ap (λ c. units_from s.rest.world (suc (length s.rest.calls)) (drop (length s.rest.calls) c)) (h ∙ sym (append-nil s.rest.calls)) ∙ ap (units_from s.rest.world (suc (length s.rest.calls))) (drop-append_seam s.rest.calls [])

new_at : (function : Function) (text n line : List ℕ) (s r : State ℕ Now) (old new : LogLines) → function_line function text n ≡ Some line → r.lines ≡ s.lines + 1 → r.rest.calls ≡ s.rest.calls → new ≡ lines_after_event old (Writes line)
    → new ≡ lines_after_events old (all_made (units_between s r) ++ new_line function text n s r)
new_at function text n line s r old new e more same h =
    let test : nat_lt s.lines r.lines ≡ true = ap (nat_lt s.lines) more ∙ lt-ltb s.lines (s.lines + 1) (omega arith) in
    h ∙ sym (ap (λ u. lines_after_events old (all_made u ++ new_line function text n s r)) (no_units s r same) ∙ ap (λ b. lines_after_events old (cond b (written_line (function_line function text n)) [])) test ∙ ap (λ o. lines_after_events old (written_line o)) e)

none_at : (function : Function) (text n : List ℕ) (s r : State ℕ Now) (old new : LogLines) → r.lines ≡ s.lines → r.rest.calls ≡ s.rest.calls → new ≡ old
    → new ≡ lines_after_events old (all_made (units_between s r) ++ new_line function text n s r)
none_at function text n s r old new more same h =
    let test : nat_lt s.lines r.lines ≡ false = ap (nat_lt s.lines) more ∙ le-ltb s.lines s.lines (omega arith) in
    h ∙ sym (ap (λ u. lines_after_events old (all_made u ++ new_line function text n s r)) (no_units s r same) ∙ ap (λ b. lines_after_events old (cond b (written_line (function_line function text n)) [])) test)

pub line_seen : (e : LoggedEnd) (result : Result ℕ Stopped) (function : Function) (text n line : List ℕ) (s r : State ℕ Now) (old new : LogLines) → function_line function text n ≡ Some line
    → Means e result r (function_result (direct false) function text n s) → LineNoted e result s r old new line → Unless e result (new ≡ lines_after_events old (function_events function text n s))
unfolding function_events
line_seen e (Ok x) function text n line s r old new some h k = new_at function text n line s r old new some k.0 k.2 k.1 ∙ ap (λ q. lines_after_events old (all_made (units_between s q) ++ new_line function text n s q)) (sym (end_is r (function_result (direct false) function text n s) x h))
line_seen (end.Halted cause) (Err stopped) function text n line s r old new some h k = none_at function text n s r old new k.0 k.2 k.1 ∙ ap (λ q. lines_after_events old (all_made (units_between s q) ++ new_line function text n s q)) (sym (over_is r (function_result (direct false) function text n s) _ h))
line_seen (end.Faulted u) (Err stopped) function text n line s r old new some h k = absurd k
line_seen end.OutOfMemory (Err stopped) function text n line s r old new some h k = tt

pub no_line : {A : Type 0} {line : List ℕ} → Some line ≡ None → A
no_line e = absurd cc

pub line_seen_as : (e : LoggedEnd) (result : Result ℕ Stopped) (function known : Function) (text n line : List ℕ) (s r : State ℕ Now) (old new : LogLines) → function ≡ known → function_line known text n ≡ Some line
    → Means e result r (function_result (direct false) known text n s) → LineNoted e result s r old new line → Unless e result (new ≡ lines_after_events old (function_events function text n s))
line_seen_as e result function known text n line s r old new is some h k = rw is (line_seen e result known text n line s r old new some h k)

pub quiet : (function : Function) (text n : List ℕ) → (function ≡ f.Message → ⊥) → (function ≡ f.Query → ⊥) → (function ≡ f.QueryValue → ⊥) → (function ≡ f.LoadDebugInfo → ⊥) → function_line function text n ≡ None
quiet f.Message text n a b c d = absurd (a refl)
quiet f.Query text n a b c d = absurd (b refl)
quiet f.QueryValue text n a b c d = absurd (c refl)
quiet f.LoadDebugInfo text n a b c d = absurd (d refl)
quiet function text n a b c d = refl
