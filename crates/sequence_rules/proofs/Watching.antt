-- A watched run.
use Rattle.std.proofs.Common.{◌≡◌, ℕ, ◌+◌, ◌⊎◌, inl, inr, true, false, List, Option, None, Some, Result, Ok, Err, refl, ap}
use Rattle.std.specs.Bool.{⊤}
use Rattle.target_calls.specs.World.{World}
use Rattle.sequence_rules.specs.Alike.{EndRelation, CallMatches, Matches, Equal, Tracks}
use Rattle.sequence_rules.specs.Direct.{Now, now_at, with_line, direct}
use Rattle.sequence_rules.specs.Laws.{Adds}
use Rattle.sequence_rules.specs.Machine as machine
use Rattle.sequence_rules.specs.Machine.{Over, State, Out}
use Rattle.sequence_rules.specs.Runs as ending
use Rattle.sequence_rules.specs.Runs.{Program, Outcome, outcome_at, outcome_over, outcome_of, meaning, watched_run}
use Rattle.sequence_rules.proofs.Adding.{adds_direct}
use Rattle.sequence_rules.proofs.Starting.{runs_alike}
use Rattle.sequence_rules.proofs.Same.{same_binds, none_is, here_is}

abbrev Same : ℕ → Now → Now → Type 0
Same k t u = u ≡ t

abbrev WatchEnds : EndRelation Now Now
WatchEnds here t k (machine.Halted cause) u = ⊥
WatchEnds here t k (machine.Faulted call) u = (here ≡ Some (machine.Faulted call)) × (u ≡ t)
WatchEnds here t k machine.Unanswered u = (here ≡ Some machine.Unanswered) × (u ≡ t)
WatchEnds here t k machine.Lost u = ⊤

watch_ended : (here : Option Over) (t t2 : Now) (k : ℕ) (over : Over) (u : Now) → Adds t t2 → WatchEnds None t k over u → WatchEnds here t2 k over u
watch_ended here t t2 k (machine.Halted cause) u p h = h
watch_ended here t t2 k (machine.Faulted call) u p h = none_is h.0
watch_ended here t t2 k machine.Unanswered u p h = none_is h.0
watch_ended here t t2 k machine.Lost u p h = tt

same_end : (k : ℕ) (over : Over) (t : Now) → CallMatches {X = ℕ} {Y = ℕ} Same WatchEnds Equal k (Err (over, t)) (Err (over, t))
same_end k (machine.Halted cause) t = (refl, refl)
same_end k (machine.Faulted call) t = (refl, refl)
same_end k machine.Unanswered t = (refl, refl)
same_end k machine.Lost t = tt

same_call : (k : ℕ) (x : Result (ℕ × Now) (Over × Now)) → CallMatches Same WatchEnds Equal k x x
same_call k (Ok x) = (refl, refl)
same_call k (Err e) = same_end k e.0 e.1

watch_tracks : Tracks (direct false) (direct true) Equal Same Adds WatchEnds
unfolding direct
watch_tracks = record {
  steady = adds_direct false;
  keeps = λ k t t2 u v w p r e. e;
  ended = watch_ended;
  careless = refl;
  lost = λ k t u e r. tt;
  number = λ t n. refl;
  used = λ k t u v w r e. (e, r);
  asked = λ k t u unit forgive r. rw r (same_call (k + 1) _);
  commanded = λ k t u c r. rw r (same_call (k + 1) _);
  confirmed = λ k t u r. r;
  written = λ k t u line r. ap (with_line line) r;
}

-- ---- outcomes

abbrev SameOrLost : Out ℕ Now (Unit {0}) → Out ℕ Now (Unit {0}) → Type 0
SameOrLost out q = (outcome_of q ≡ outcome_of out) ⊎ ((outcome_of q).ending ≡ ending.Lost)

abbrev Watch : Out ℕ Now (Unit {0}) → Out ℕ Now (Unit {0}) → Type 0
Watch out q = Matches Equal Same WatchEnds Equal out q

ends_same : (e : Over) (s : State ℕ Now) (over : Over) (r : State ℕ Now) → Watch (Err (e, s)) (Err (over, r)) → SameOrLost (Err (e, s)) (Err (over, r))
ends_same e s (machine.Halted cause) r h = inl (rw h.0 (rw (same_binds s.rest s.globals r.globals h.1.globals, h.1.rest) refl))
ends_same e s (machine.Faulted call) r h = inl (rw (here_is h.0) (rw h.1 refl))
ends_same e s machine.Unanswered r h = inl (rw (here_is h.0) (rw h.1 refl))
ends_same e s machine.Lost r h = inr refl

alone_same : (x : Unit {0} × State ℕ Now) (over : Over) (r : State ℕ Now) → Watch (Ok x) (Err (over, r)) → SameOrLost (Ok x) (Err (over, r))
alone_same x (machine.Halted cause) r h = absurd h
alone_same x (machine.Faulted call) r h = none_is h.0
alone_same x machine.Unanswered r h = none_is h.0
alone_same x machine.Lost r h = inr refl

watch_same : (out q : Out ℕ Now (Unit {0})) → Watch out q → SameOrLost out q
watch_same (Ok x) (Ok y) h = inl (rw (same_binds x.1.rest x.1.globals y.1.globals h.0.globals, h.0.rest) refl)
watch_same (Err e) (Ok y) h = absurd h
watch_same (Ok x) (Err y) h = alone_same x y.0 y.1 h
watch_same (Err e) (Err y) h = ends_same e.0 e.1 y.0 y.1 h

pub watched_same : (w : World) (p : Program) (written : Option (List ℕ)) → SameOrLost (meaning w p written) (watched_run w p written)
watched_same w p written = watch_same _ _ (runs_alike (direct false) (direct true) Equal Same Adds WatchEnds watch_tracks p (now_at w written) (now_at w written) refl)
