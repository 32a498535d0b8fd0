-- A run of which only so many units are answered.
use Rattle.std.proofs.Common.{◌≡◌, ℕ, zero, suc, ◌+◌, ◌-◌, ◌≤◌, ◌⊎◌, inl, inr, false, cond, List, [], ◌∷◌, ◌++◌, length, Option, None, Some, Ok, Err, refl, sym, ap, ◌∙◌, arith}
use Rattle.std.proofs.lemmas.List.{length-append, append_assoc, append-nil}
use Rattle.target_calls.specs.Asks.{unit_ask, probe_ask}
use Rattle.target_calls.specs.World.{World, start_world, done_now, next_world, one_fewer, is_over}
use Rattle.target_calls.specs.declared.calls.Ask.{Ask}
use Rattle.target_machine.specs.Plain.{CallEnd, Answered, Skipped, Faulted, Small}
use Rattle.target_machine.specs.State.{TargetState}
use Rattle.sequence_rules.specs.Alike.{EndRelation, CallMatches, Matches, Equal, Tracks}
use Rattle.sequence_rules.specs.Direct.{Now, now_at, with_call, with_line, answers, made_call, direct}
use Rattle.sequence_rules.specs.Late.{Grows}
use Rattle.sequence_rules.specs.Laws.{Adds, IsCutShort, IsWhole}
use Rattle.sequence_rules.specs.Machine as machine
use Rattle.sequence_rules.specs.Machine.{Over, State, Out}
use Rattle.sequence_rules.specs.Runs.{Program, Outcome, outcome_over, outcome_of, outcome, outcome_within}
use Rattle.sequence_rules.proofs.Adding.{adds_direct}
use Rattle.sequence_rules.proofs.LateLemmas.{grows_same, grows_on}
use Rattle.sequence_rules.proofs.OutcomeLemmas.{over_calls, over_written}
use Rattle.sequence_rules.proofs.Starting.{runs_alike}
use Rattle.sequence_rules.proofs.Same.{same_binds, none_is, here_is}

-- the same, with so many further calls answered
abbrev pub limited : ℕ → Now → Now
limited n t = record { world = record { target = t.world.target; large = t.world.large; answered = Some n }; calls = t.calls; skipped = t.skipped; written = t.written }

-- k of m calls were made
record WithinLimit (m k : ℕ) (t u : Now) : Type 0 where
  within : k ≤ m
  count : k ≡ length t.calls
  free : t.world.answered ≡ None
  same : u ≡ limited (m - k) t

-- call m + 1 is the last of u, and t went on
record CutHere (m k : ℕ) (t u : Now) : Type 0 where
  units : length u.calls ≡ m + 1
  more : List Ask
  calls : t.calls ≡ u.calls ++ more
  lines : Grows u.written t.written

abbrev LimitEnds : ℕ → EndRelation Now Now
LimitEnds m here t k (machine.Halted cause) u = ⊥
LimitEnds m here t k (machine.Faulted call) u = (here ≡ Some (machine.Faulted call)) × WithinLimit m k t u
LimitEnds m here t k machine.Unanswered u = CutHere m k t u
LimitEnds m here t k machine.Lost u = ⊥

module _ (m : ℕ) where
  limit_ended : (here : Option Over) (t t2 : Now) (k : ℕ) (over : Over) (u : Now) → Adds t t2 → LimitEnds m None t k over u → LimitEnds m here t2 k over u
  limit_ended here t t2 k (machine.Halted cause) u p h = h
  limit_ended here t t2 k (machine.Faulted call) u p h = none_is h.0
  limit_ended here t t2 k machine.Unanswered u p h =
      record { units = h.units; more = h.more ++ p.more; calls = rw (p.calls, h.calls) (append_assoc u.calls h.more p.more); lines = grows_on _ _ _ h.lines p.lines }
  limit_ended here t t2 k machine.Lost u p h = h

  module _ (ask : Ask) (k : ℕ) (t : Now) where
    abbrev after : Now
    after = with_call ask (next_world t.world ask) t

    -- the limit is met at this call
    cut_now : k ≤ m → m - k ≡ 0 → k ≡ length t.calls → (x : Now) → x.calls ≡ t.calls ++ ask ∷ [] → x.written ≡ t.written → CutHere m (k + 1) x (with_call ask (limited 0 t).world (limited 0 t))
    cut_now within none count x calls written = record {
      units = let long : length (t.calls ++ ask ∷ []) ≡ length t.calls + 1 = length-append t.calls (ask ∷ []) in omega (arith, within, none, count, long);
      more = [];
      calls = calls ∙ sym (append-nil (t.calls ++ ask ∷ []));
      lines = rw written (grows_same t.written);
    }

    cut_by : k ≤ m → m - k ≡ 0 → k ≡ length t.calls → (e : CallEnd)
        → CallMatches (WithinLimit m) (LimitEnds m) Equal (k + 1) (answers ask e after) (Err (machine.Unanswered, with_call ask (limited 0 t).world (limited 0 t)))
    cut_by within none count (Answered n) = cut_now within none count after refl refl
    cut_by within none count Skipped = cut_now within none count _ refl refl
    cut_by within none count Faulted = cut_now within none count after refl refl
    cut_by within none count Small = cut_now within none count after refl refl

    -- the call is answered on both
    on_both : (n : ℕ) → m - k ≡ suc n → k ≡ length t.calls → t.world.answered ≡ None → (x : Now) → x.calls ≡ after.calls → x.world ≡ after.world → WithinLimit m (k + 1) x (limited n x)
    on_both n is count free x calls world = record {
      within = omega (arith, is);
      count = let long : length (t.calls ++ ask ∷ []) ≡ length t.calls + 1 = length-append t.calls (ask ∷ []) in rw calls (omega (arith, count, long));
      free = ap (λ (y : World). y.answered) world ∙ ap one_fewer free;
      same = let less : n ≡ m - (k + 1) = omega (arith, is) in ap (λ i. limited i x) less;
    }

    both_by : (n : ℕ) → m - k ≡ suc n → k ≡ length t.calls → t.world.answered ≡ None → (e : CallEnd)
        → CallMatches (WithinLimit m) (LimitEnds m) Equal (k + 1) (answers ask e after) (answers ask e (with_call ask (next_world (limited (suc n) t).world ask) (limited (suc n) t)))
    both_by n is count free (Answered i) = (on_both n is count free after refl refl, refl)
    both_by n is count free Skipped = (on_both n is count free _ refl refl, refl)
    both_by n is count free Faulted = (refl, on_both n is count free after refl refl)
    both_by n is count free Small = (refl, on_both n is count free after refl refl)

    made_free : t.world.answered ≡ None → made_call ask t ≡ answers ask (done_now t.world ask).end after
    unfolding made_call
    made_free free = one t.world.answered free
      where
        one : (a : Option ℕ) → a ≡ None → cond (is_over a) (Err (machine.Unanswered, with_call ask t.world t)) (answers ask (done_now t.world ask).end after) ≡ answers ask (done_now t.world ask).end after
        one None e = refl
        one (Some n) e = absurd cc

    by_limit : (n : ℕ) → m - k ≡ n → k ≤ m → k ≡ length t.calls → t.world.answered ≡ None
        → CallMatches (WithinLimit m) (LimitEnds m) Equal (k + 1) (answers ask (done_now t.world ask).end after) (made_call ask (limited n t))
    unfolding made_call
    by_limit zero is within count free = cut_by within is count (done_now t.world ask).end
    by_limit (suc n) is within count free = both_by n is count free (done_now t.world ask).end

  call_limited : (ask : Ask) (k : ℕ) (t u : Now) → WithinLimit m k t u → CallMatches (WithinLimit m) (LimitEnds m) Equal (k + 1) (made_call ask t) (made_call ask u)
  call_limited ask k t u h = rw h.same (rw (made_free ask k t h.free) (by_limit ask k t (m - k) refl h.within h.count h.free))

  line_limited : (k : ℕ) (t u : Now) (line : List ℕ) → WithinLimit m k t u → WithinLimit m k (with_line line t) (with_line line u)
  line_limited k t u line h = record { within = h.within; count = h.count; free = h.free; same = ap (with_line line) h.same }

  limit_tracks : Tracks (direct false) (direct false) Equal (WithinLimit m) Adds (LimitEnds m)
  unfolding direct
  limit_tracks = record {
    steady = adds_direct false;
    keeps = λ k t t2 u v w p r e. e;
    ended = limit_ended;
    careless = refl;
    lost = λ k t u e r. absurd cc;
    number = λ t n. refl;
    used = λ k t u v w r e. (e, r);
    asked = λ k t u unit forgive r. call_limited (unit_ask unit forgive) k t u r;
    commanded = λ k t u c r. call_limited (probe_ask c) k t u r;
    confirmed = λ k t u r. r;
    written = line_limited;
  }

  -- ---- outcomes

  abbrev WholeOrShort : Out ℕ Now (Unit {0}) → Out ℕ Now (Unit {0}) → Type 0
  WholeOrShort out q = IsWhole m (outcome_of out) (outcome_of q) ⊎ IsCutShort m (outcome_of out) (outcome_of q)

  abbrev Limit : Out ℕ Now (Unit {0}) → Out ℕ Now (Unit {0}) → Type 0
  Limit out q = Matches Equal (WithinLimit m) (LimitEnds m) Equal out q

  few : (k : ℕ) (t u : Now) → WithinLimit m k t u → length t.calls ≤ m
  few k t u h = let a = h.within in let b = h.count in omega (arith, a, b)

  short_by : (o : Outcome) (k : ℕ) (t : Now) (r : State ℕ Now) → o.calls ≡ t.calls → o.written ≡ t.written → CutHere m k t r.rest → IsCutShort m o (outcome_over machine.Unanswered r)
  short_by o k t r e f h = record { ending = refl; units = h.units; more = h.more; calls = e ∙ h.calls; lines = rw f h.lines }

  ends_whole : (e : Over) (s : State ℕ Now) (over : Over) (r : State ℕ Now) → Limit (Err (e, s)) (Err (over, r)) → WholeOrShort (Err (e, s)) (Err (over, r))
  ends_whole e s (machine.Halted cause) r h = inl (rw h.0 (record { units = few _ _ _ h.1.rest; same = rw (same_binds s.rest s.globals r.globals h.1.globals, h.1.rest.same) refl }))
  ends_whole e s (machine.Faulted call) r h = inl (rw (here_is h.0) (record { units = few _ _ _ h.1; same = rw h.1.same refl }))
  ends_whole e s machine.Unanswered r h = inr (short_by _ r.units s.rest r (over_calls e s) (over_written e s) h)
  ends_whole e s machine.Lost r h = absurd h

  alone_whole : (x : Unit {0} × State ℕ Now) (over : Over) (r : State ℕ Now) → Limit (Ok x) (Err (over, r)) → WholeOrShort (Ok x) (Err (over, r))
  alone_whole x (machine.Halted cause) r h = absurd h
  alone_whole x (machine.Faulted call) r h = none_is h.0
  alone_whole x machine.Unanswered r h = inr (short_by _ r.units x.1.rest r refl refl h)
  alone_whole x machine.Lost r h = absurd h

  limit_whole : (out q : Out ℕ Now (Unit {0})) → Limit out q → WholeOrShort out q
  limit_whole (Ok x) (Ok y) h = inl (record { units = few _ _ _ h.0.rest; same = rw (same_binds x.1.rest x.1.globals y.1.globals h.0.globals, h.0.rest.same) refl })
  limit_whole (Err e) (Ok y) h = absurd h
  limit_whole (Ok x) (Err y) h = alone_whole x y.0 y.1 h
  limit_whole (Err e) (Err y) h = ends_whole e.0 e.1 y.0 y.1 h

  pub limit_cuts : (p : Program) (t : TargetState) (written : Option (List ℕ)) → IsWhole m (outcome p t written) (outcome_within m p t written) ⊎ IsCutShort m (outcome p t written) (outcome_within m p t written)
  limit_cuts p t written = limit_whole _ _ (runs_alike (direct false) (direct false) Equal (WithinLimit m) Adds (LimitEnds m) limit_tracks p
      (now_at (start_world t None) written) (now_at (start_world t (Some m)) written) (record { within = omega arith; count = refl; free = refl; same = let e : m ≡ m - 0 = omega arith in ap (λ i. limited i (now_at (start_world t None) written)) e }))
