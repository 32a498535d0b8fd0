-- The calls of a run, made one after the other.
use Rattle.std.proofs.Common.{◌≡◌, ℕ, min, Bool, true, false, List, length, Option, None, Some, Ok, Err, refl, sym, ap, ◌∙◌}
use Rattle.target_calls.specs.declared.calls.Ask.{Ask}
use Rattle.target_calls.specs.declared.calls.Value.{Value}
use Rattle.target_calls.specs.NeedPoints.{Costs, nothing_asked}
use Rattle.target_calls.specs.World.{World, stop, world_after, skips}
use Rattle.target_machine.specs.declared.unit.HaltCause.{HaltCause}
use Rattle.sequence_rules.specs.Alike.{Alike}
use Rattle.sequence_rules.specs.Direct.{Now, now_at, direct}
use Rattle.sequence_rules.specs.Late.{Late, late_of, late, ComesTo, SameRest, StoppedAt, StoppedBy, Later}
use Rattle.sequence_rules.specs.Laws.{Pair, StopAtLast, IsMadeIn, AreMade}
use Rattle.sequence_rules.specs.Machine as machine
use Rattle.sequence_rules.specs.Machine.{Over, State, Out, end_state}
use Rattle.sequence_rules.specs.Runs as ending
use Rattle.sequence_rules.specs.Runs.{Program, Outcome, outcome_at, outcome_over, outcome_of, units_of, meaning, late_meaning}
use Rattle.sequence_rules.proofs.LateLemmas.{late_tracks}
use Rattle.sequence_rules.proofs.Starting.{runs_alike}

-- results that come later change nothing
pub late_pair : (cost : Costs) (w : World) (p : Program) (written : Option (List ℕ)) → Pair w (late_meaning cost w p written) (meaning w p written)
late_pair cost w p written =
    runs_alike (late cost w) (direct false) (ComesTo w) (SameRest w) (Later w) (StoppedBy w) (late_tracks cost w) p (late_of nothing_asked written) (now_at w written)
    (record { count = refl; whole = refl; world = refl; calls = refl; skipped = refl; written = refl })

-- no need points
pub no_cost : Costs
no_cost t calls ask = record { before = 0; after = 0 }

-- what is to be shown of an outcome and the last state
record Holds (w : World) (o : Outcome) (s : State ℕ Now) : Type 0 where
  made : IsMadeIn w o
  units : s.units ≡ units_of o

module _ (w : World) where
  whole_of : (s : State Value Late) (r : State ℕ Now) → Alike (ComesTo w) (SameRest w) s r → stop w r.rest.calls ≡ None
  whole_of s r al = ap (stop w) al.rest.calls ∙ al.rest.whole

  done_of : (s : State Value Late) (r : State ℕ Now) → Alike (ComesTo w) (SameRest w) s r → Holds w (outcome_at ending.Done r.globals r.rest) r
  done_of s r al = record {
    made = record { target = ap (λ (x : World). x.target) (al.rest.world ∙ ap (world_after w) (sym al.rest.calls)); skipped = al.rest.skipped ∙ ap (λ c. min (skips w c) 4294967295) (sym al.rest.calls); ending = whole_of s r al };
    units = al.units ∙ al.rest.count ∙ ap (λ (c : List Ask). length c) (sym al.rest.calls);
  }

  stopped_of : (b : Bool) (t : Late) (r : State ℕ Now) → StoppedAt w b t r.units r.rest → StopAtLast w b r.rest.calls
  stopped_of b t r h = record { earlier = h.earlier; last = h.last; parts = h.parts; cause = h.cause; first = h.first ∙ ap Some h.count }

  over_of : (here : Option Over) (t : Late) (over : Over) (r : State ℕ Now) → StoppedBy w here t r.units over r.rest → Holds w (outcome_over over r) r
  unfolding stopped_of
  over_of here t (machine.Halted cause) r h = absurd h
  over_of here t (machine.Faulted call) r h = record {
    made = record { target = ap (λ (x : World). x.target) h.stopped.world; skipped = h.stopped.skipped; ending = record { stopped = stopped_of false t r h.stopped; call_is = h.call_is } };
    units = h.stopped.count;
  }
  over_of here t machine.Unanswered r h = record {
    made = record { target = ap (λ (x : World). x.target) h.world; skipped = h.skipped; ending = stopped_of true t r h };
    units = h.count;
  }
  over_of here t machine.Lost r h = absurd h

  halted_of : (s : State Value Late) (r : State ℕ Now) (cause : HaltCause) → Alike (ComesTo w) (SameRest w) s r → Holds w (outcome_over (machine.Halted cause) r) r
  halted_of s r cause al =
      let h = done_of s r al in
      record { made = record { target = h.made.target; skipped = h.made.skipped; ending = whole_of s r al }; units = h.units }

  end_of : (e : Over × State Value Late) (over : Over) (r : State ℕ Now) → Pair w (Err e) (Err (over, r)) → Holds w (outcome_over over r) r
  end_of e (machine.Halted cause) r h = halted_of e.1 r cause h.1
  end_of e (machine.Faulted call) r h = over_of (Some e.0) e.1.rest (machine.Faulted call) r h
  end_of e machine.Unanswered r h = over_of (Some e.0) e.1.rest machine.Unanswered r h
  end_of e machine.Lost r h = absurd h

  end_alone : (x : Unit {0} × State Value Late) (over : Over) (r : State ℕ Now) → Pair w (Ok x) (Err (over, r)) → Holds w (outcome_over over r) r
  end_alone x (machine.Halted cause) r h = absurd h
  end_alone x (machine.Faulted call) r h = over_of None x.1.rest (machine.Faulted call) r h
  end_alone x machine.Unanswered r h = over_of None x.1.rest machine.Unanswered r h
  end_alone x machine.Lost r h = absurd h

  holds : (out : Out Value Late (Unit {0})) (q : Out ℕ Now (Unit {0})) → Pair w out q → Holds w (outcome_of q) (end_state q)
  holds (Ok x) (Ok y) h = done_of x.1 y.1 h.0
  holds (Err e) (Ok y) h = absurd h
  holds (Ok x) (Err y) h = end_alone x y.0 y.1 h
  holds (Err e) (Err y) h = end_of e y.0 y.1 h

  pub are_made : (p : Program) (written : Option (List ℕ)) → AreMade w p written
  are_made p written = let h = holds (late_meaning no_cost w p written) (meaning w p written) (late_pair no_cost w p written) in record { made = h.made; units = h.units }
