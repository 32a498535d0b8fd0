-- What was written before a run changes nothing of it but what is written.
use Rattle.std.proofs.Common.{◌≡◌, ℕ, ◌+◌, Bool, true, false, cond, List, Option, None, Some, option_map, Ok, Err, refl, ap}
use Rattle.target_calls.specs.Asks.{unit_ask, probe_ask}
use Rattle.target_calls.specs.NeedPoints.{Asks, Costs, nothing_asked}
use Rattle.target_calls.specs.World.{World, is_over, done_now, next_world, small_now}
use Rattle.target_calls.specs.declared.calls.Ask.{Ask}
use Rattle.target_calls.specs.declared.calls.Value.{Value}
use Rattle.target_calls.specs.declared.calls.Value.TheVariants.{Number, Pending}
use Rattle.target_machine.specs.Plain.{CallEnd, Answered, Skipped, Faulted, Small}
use Rattle.target_machine.specs.declared.unit.HaltCause.TheVariants.{AddressTooLarge}
use Rattle.target_machine.specs.declared.unit.Unit.{Unit as AccessUnit}
use Rattle.sequence_rules.specs.Alike.{EndRelation, CallMatches, Matches, Equal, Tracks}
use Rattle.sequence_rules.specs.Direct.{Now, now_at, with_call, with_line, line_after, answers, made_call, direct}
use Rattle.sequence_rules.specs.Late.{Late, late_of, asks_with, used_late, asked_late, late, Later}
use Rattle.sequence_rules.specs.Laws.{Adds, without_lines, LinesAreOnlyWritten}
use Rattle.sequence_rules.specs.Machine as machine
use Rattle.sequence_rules.specs.Machine.{Over, State, Out, end_state}
use Rattle.sequence_rules.specs.Runs.{outcome_over, outcome_of, meaning, late_meaning}
use Rattle.sequence_rules.proofs.Adding.{adds_direct}
use Rattle.sequence_rules.proofs.LateLemmas.{steady_late}
use Rattle.sequence_rules.proofs.Starting.{runs_alike}
use Rattle.sequence_rules.proofs.Same.{same_binds, none_is, here_is}

-- ---- the meaning

-- the same, with other lines
abbrev with_written : Option (List ℕ) → Now → Now
with_written x t = record { world = t.world; calls = t.calls; skipped = t.skipped; written = x }

abbrev Written : ℕ → Now → Now → Type 0
Written k t u = (x : Option (List ℕ)) × (u ≡ with_written x t)

abbrev WrittenEnds : EndRelation Now Now
WrittenEnds here t k (machine.Halted cause) u = ⊥
WrittenEnds here t k (machine.Faulted call) u = (here ≡ Some (machine.Faulted call)) × Written k t u
WrittenEnds here t k machine.Unanswered u = (here ≡ Some machine.Unanswered) × Written k t u
WrittenEnds here t k machine.Lost u = ⊥

written_ended : (here : Option Over) (t t2 : Now) (k : ℕ) (over : Over) (u : Now) → Adds t t2 → WrittenEnds None t k over u → WrittenEnds here t2 k over u
written_ended here t t2 k (machine.Halted cause) u p h = h
written_ended here t t2 k (machine.Faulted call) u p h = none_is h.0
written_ended here t t2 k machine.Unanswered u p h = none_is h.0
written_ended here t t2 k machine.Lost u p h = h

call_by : (ask : Ask) (k : ℕ) (n : World) (t : Now) (x : Option (List ℕ)) (o : Bool) (e : CallEnd)
    → CallMatches Written WrittenEnds Equal k (cond o (Err (machine.Unanswered, with_call ask t.world t)) (answers ask e (with_call ask n t)))
    (cond o (Err (machine.Unanswered, with_call ask t.world (with_written x t))) (answers ask e (with_call ask n (with_written x t))))
call_by ask k n t x true e = (refl, (x, refl))
call_by ask k n t x false (Answered i) = ((x, refl), refl)
call_by ask k n t x false Skipped = ((x, refl), refl)
call_by ask k n t x false Faulted = (refl, (x, refl))
call_by ask k n t x false Small = (refl, (x, refl))

call_written : (ask : Ask) (k : ℕ) (t u : Now) → Written k t u → CallMatches Written WrittenEnds Equal (k + 1) (made_call ask t) (made_call ask u)
unfolding made_call
call_written ask k t u h = rw h.1 (call_by ask (k + 1) (next_world t.world ask) t h.0 (is_over t.world.answered) (done_now t.world ask).end)

written_tracks : Tracks (direct false) (direct false) Equal Written Adds WrittenEnds
unfolding direct
written_tracks = record {
  steady = adds_direct false;
  keeps = λ k t t2 u v w p r e. e;
  ended = written_ended;
  careless = refl;
  lost = λ k t u e r. absurd cc;
  number = λ t n. refl;
  used = λ k t u v w r e. (e, r);
  asked = λ k t u unit forgive r. call_written (unit_ask unit forgive) k t u r;
  commanded = λ k t u c r. call_written (probe_ask c) k t u r;
  confirmed = λ k t u r. r;
  written = λ k t u line r. (option_map (line_after line) r.0, ap (with_line line) r.1);
}

abbrev Lines : Out ℕ Now (Unit {0}) → Out ℕ Now (Unit {0}) → Type 0
Lines out q = Matches Equal Written WrittenEnds Equal out q

ends_written : (e : Over) (s : State ℕ Now) (over : Over) (r : State ℕ Now) → Lines (Err (e, s)) (Err (over, r)) → without_lines (outcome_over over r) ≡ without_lines (outcome_over e s)
ends_written e s (machine.Halted cause) r h = rw h.0 (rw (same_binds s.rest s.globals r.globals h.1.globals, h.1.rest.1) refl)
ends_written e s (machine.Faulted call) r h = rw (here_is h.0) (rw h.1.1 refl)
ends_written e s machine.Unanswered r h = rw (here_is h.0) (rw h.1.1 refl)
ends_written e s machine.Lost r h = absurd h

alone_written : (x : Unit {0} × State ℕ Now) (over : Over) (r : State ℕ Now) → Lines (Ok x) (Err (over, r)) → without_lines (outcome_over over r) ≡ without_lines (outcome_of (Ok x))
alone_written x (machine.Halted cause) r h = absurd h
alone_written x (machine.Faulted call) r h = none_is h.0
alone_written x machine.Unanswered r h = none_is h.0
alone_written x machine.Lost r h = absurd h

outcome_written : (out q : Out ℕ Now (Unit {0})) → Lines out q → without_lines (outcome_of q) ≡ without_lines (outcome_of out)
outcome_written (Ok x) (Ok y) h = rw (same_binds x.1.rest x.1.globals y.1.globals h.0.globals, h.0.rest.1) refl
outcome_written (Err e) (Ok y) h = absurd h
outcome_written (Ok x) (Err y) h = alone_written x y.0 y.1 h
outcome_written (Err e) (Err y) h = ends_written e.0 e.1 y.0 y.1 h

-- ---- results that come later

abbrev LateWritten : ℕ → Late → Late → Type 0
LateWritten k t u = u.asks ≡ t.asks

abbrev NoEnd : EndRelation Late Late
NoEnd here t k over u = ⊥

module _ (cost : Costs) (w : World) where
  late_by : (ask : Ask) (k : ℕ) (asks : Asks) (a b : Option (List ℕ)) (v : Value) (small : Bool)
      → CallMatches LateWritten NoEnd Equal k (cond small (Err (machine.Halted AddressTooLarge, late_of (asks_with cost w ask asks) a)) (Ok (v, late_of (asks_with cost w ask asks) a)))
      (cond small (Err (machine.Halted AddressTooLarge, late_of (asks_with cost w ask asks) b)) (Ok (v, late_of (asks_with cost w ask asks) b)))
  late_by ask k asks a b v true = (refl, refl)
  late_by ask k asks a b v false = (refl, refl)

  unit_late : (u : AccessUnit) (forgive : Bool) (k : ℕ) (s r : Late) → LateWritten k s r → CallMatches LateWritten NoEnd Equal (k + 1) (asked_late cost w u forgive s) (asked_late cost w u forgive r)
  unit_late u forgive k s r e = rw e (late_by (unit_ask u forgive) (k + 1) s.asks s.written r.written _ (small_now w s.asks.calls (unit_ask u forgive)))

  used_written : (k : ℕ) (t u : Late) (v n : Value) → LateWritten k t u → n ≡ v → ((used_late cost w n u).0 ≡ (used_late cost w v t).0) × LateWritten k (used_late cost w v t).1 (used_late cost w n u).1
  used_written k t u (Number i) n e same = rw same (refl, e)
  used_written k t u (Pending slot) n e same = rw same (rw e (refl, refl))

  late_written_tracks : Tracks (late cost w) (late cost w) Equal LateWritten (Later w) NoEnd
  unfolding late
  late_written_tracks = record {
    steady = steady_late cost w;
    keeps = λ k t t2 u v n p r e. e;
    ended = λ here t t2 k over u p h. absurd h;
    careless = refl;
    lost = λ k t u e r. absurd cc;
    number = λ t n. refl;
    used = used_written;
    asked = λ k t u unit forgive r. unit_late unit forgive k t u r;
    commanded = λ k t u c r. rw r (refl, refl);
    confirmed = λ k t u r. rw r refl;
    written = λ k t u line r. rw r refl;
  }

  abbrev LateLines : Out Value Late (Unit {0}) → Out Value Late (Unit {0}) → Type 0
  LateLines out q = Matches Equal LateWritten NoEnd Equal out q

  ends_asks : (e : Over) (s : State Value Late) (over : Over) (r : State Value Late) → LateLines (Err (e, s)) (Err (over, r)) → r.rest.asks ≡ s.rest.asks
  ends_asks e s (machine.Halted cause) r h = h.1.rest
  ends_asks e s (machine.Faulted call) r h = absurd h
  ends_asks e s machine.Unanswered r h = absurd h
  ends_asks e s machine.Lost r h = absurd h

  alone_asks : (x : Unit {0} × State Value Late) (over : Over) (r : State Value Late) → LateLines (Ok x) (Err (over, r)) → r.rest.asks ≡ x.1.rest.asks
  alone_asks x (machine.Halted cause) r h = absurd h
  alone_asks x (machine.Faulted call) r h = absurd h
  alone_asks x machine.Unanswered r h = absurd h
  alone_asks x machine.Lost r h = absurd h

  asks_written : (out q : Out Value Late (Unit {0})) → LateLines out q → (end_state q).rest.asks ≡ (end_state out).rest.asks
  asks_written (Ok x) (Ok y) h = h.0.rest
  asks_written (Err e) (Ok y) h = absurd h
  asks_written (Ok x) (Err y) h = alone_asks x y.0 y.1 h
  asks_written (Err e) (Err y) h = ends_asks e.0 e.1 y.0 y.1 h

pub only_written : LinesAreOnlyWritten
only_written cost w p a b = record {
  outcome = outcome_written (meaning w p a) (meaning w p b) (runs_alike (direct false) (direct false) Equal Written Adds WrittenEnds written_tracks p (now_at w a) (now_at w b) (b, refl));
  asks = asks_written cost w (late_meaning cost w p a) (late_meaning cost w p b) (runs_alike (late cost w) (late cost w) Equal LateWritten (Later w) NoEnd (late_written_tracks cost w) p (late_of nothing_asked a) (late_of nothing_asked b) refl);
}
