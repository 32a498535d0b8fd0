-- What is seen of statements, controls and steps, with each turn, says what they add.
use Rattle.std.proofs.Common.{ℕ, zero, suc, Bool, true, false, cond, List, [], ◌∷◌, ◌++◌, nat_eq, Option, None, Some, Ok, refl}
use Rattle.dap_base.specs.Outcome.{◌>>=◌}
use Rattle.expr_grammar.specs.declared.code.Name.{Name}
use Rattle.expr_grammar.specs.Tree as t
use Rattle.expr_grammar.specs.Tree.{Tree, StmtTree}
use Rattle.sequence_trees.specs.Order.{SetStep, spot_at}
use Rattle.sequence_trees.specs.Trees as c
use Rattle.sequence_trees.specs.Trees.{CodeStep, CodeSteps}
use Rattle.sequence_trees.specs.declared.spot.Part.TheVariants as part
use Rattle.sequence_trees.specs.declared.spot.Spot.{Spot}
use Rattle.sequence_rules.specs.Direct.{Now, direct}
use Rattle.sequence_rules.specs.Machine.{State, Out}
use Rattle.sequence_rules.specs.Polls.{poll_of}
use Rattle.sequence_rules.specs.Steps.{timeout_of, counted_step, declared_variable, dropped_value, after_counted, in_order, inside, turn, turns, statement, block, condition, loop_result, repeat_result, control_result, step, steps_result}
use Rattle.sequence_rules.specs.Values.{used_now, value}
use Rattle.run_events.specs.Events.{Event, Begins, Tests, Chooses, Loops, Turns, Finds, Leaves, TimesOut, Assigns, events_after}
use Rattle.run_events.specs.OfRuns.{each_turn}
use Rattle.run_events.specs.OfSteps.{text_start, inner_step, tested_events, turn_events, turns_events, done_events, statement_events, block_events, condition_events, loop_events, repeat_events, controlled_events, step_events, steps_events}
use Rattle.run_events.specs.OfValues.{value_events}
use Rattle.run_events.proofs.Leaves.{tells_counted, tells_poll, given_is}
use Rattle.run_events.proofs.Said.{Tells, said_none, said_one, also, tells_bind, tells_next, tells_map, tells_end, tells_if}
use Rattle.run_events.proofs.SaidValues.{used_is, tells_value}

tells_declared : (name : Name) (s : State ℕ Now) (out : Out ℕ Now ℕ) (xs : List Event) → Tells s out xs → Tells s (declared_variable (direct false) name out) (xs ++ events_after out (λ n r. Assigns name.text n ∷ []))
unfolding declared_variable
tells_declared name s out xs h = tells_map s out _ _ (tells_end s out xs _ h (λ x. said_one x.1.rest (Assigns name.text x.0) refl refl)) (λ x. refl)

tells_dropped : (s : State ℕ Now) (out : Out ℕ Now ℕ) (xs : List Event) → Tells s out xs → Tells s (dropped_value (direct false) out) xs
unfolding dropped_value
tells_dropped s out xs h = tells_map s out _ xs h (λ x. refl)

tells_after_counted : (s : State ℕ Now) (rest : State ℕ Now → Out ℕ Now (Unit {0})) (rest_seen : State ℕ Now → List Event)
    → ((r : State ℕ Now) → Tells r (rest r) (rest_seen r)) → Tells s (after_counted (direct false) rest s) (events_after (counted_step (direct false) s) (λ done r. rest_seen r))
unfolding after_counted
tells_after_counted s rest rest_seen h = tells_next s (counted_step (direct false) s) _ (λ done r. rest_seen r) (tells_counted s) (λ x. h x.1)

tells_in_order : (s : State ℕ Now) (first : Out ℕ Now (Unit {0})) (rest : State ℕ Now → Out ℕ Now (Unit {0})) (xs : List Event) (rest_seen : State ℕ Now → List Event)
    → Tells s first xs → ((r : State ℕ Now) → Tells r (rest r) (rest_seen r)) → Tells s (in_order (direct false) first rest) (xs ++ events_after first (λ done r. rest_seen r))
unfolding in_order
tells_in_order s first rest xs rest_seen h k = tells_bind s first _ xs (λ done r. rest_seen r) h (λ x. k x.1)

pub tells_inside : (s : State ℕ Now) (body : State ℕ Now → Out ℕ Now (Unit {0})) (xs : List Event) → Tells s (body s) xs → Tells s (inside (direct false) body s) xs
unfolding inside
tells_inside s body xs h = tells_map s (body s) _ xs h (λ x. refl)

-- ---- turns
module _ (spot : Spot) (test : State ℕ Now → Out ℕ Now ℕ) (test_seen : State ℕ Now → List Event) (body : State ℕ Now → Out ℕ Now (Unit {0})) (body_seen : State ℕ Now → List Event) (ht : (r : State ℕ Now) → Tells r (test r) (test_seen r)) (hb : (r : State ℕ Now) → Tells r (body r) (body_seen r)) where
  -- what a turn does where its condition has this value
  abbrev by_value : ℕ × State ℕ Now → Out ℕ Now Bool
  by_value x = cond (nat_eq x.0 0) (Ok (false, x.1)) (body x.1 >>= λ y. Ok (true, y.1))

  tells_by : (c : Bool) (r : State ℕ Now) → Tells r (cond c (Ok (false, r)) (body r >>= λ y. Ok (true, y.1))) (cond c [] (body_seen r))
  tells_by true r = said_none r.rest
  tells_by false r = tells_map r (body r) _ (body_seen r) (hb r) (λ y. refl)

  tells_tested : (s : State ℕ Now) → Tells s (used_now (direct false) (test s) >>= by_value) (tested_events each_turn spot test test_seen body body_seen s)
  unfolding tested_events
  tells_tested s = rw (used_is (test s)) (tells_bind s (test s) by_value (test_seen s) _ (ht s) (λ x. also x.1.rest _ (Finds spot x.0) _ refl refl (tells_by (nat_eq x.0 0) x.1)))

  tells_turn : (number : ℕ) (s : State ℕ Now) → Tells s (turn (direct false) test body s) (turn_events each_turn spot test test_seen body body_seen number s)
  unfolding turn turn_events
  tells_turn number s = also s.rest _ (Turns spot number) _ refl refl (tells_next s (counted_step (direct false) s) _ (λ done r. tested_events each_turn spot test test_seen body body_seen r) (tells_counted s) (λ k. tells_tested k.1))

  tells_turns : (made left : ℕ) (s : State ℕ Now) → Tells s (turns (direct false) test body left s) (turns_events each_turn spot test test_seen body body_seen made left s)
  unfolding turns turns_events
  tells_turns made zero s = said_one s.rest (TimesOut spot made) refl refl
  tells_turns made (suc left) s = tells_bind s (turn (direct false) test body s) _ _ _ (tells_turn (suc made) s)
      (λ x. tells_if x.1 x.0 _ _ _ _ (tells_turns (suc made) left x.1) (said_one x.1.rest (Leaves spot (suc made)) refl refl))

-- ---- steps, where what is seen of called sequences says what they add
module _ (turn_us : ℕ) (seq : List ℕ → State ℕ Now → Out ℕ Now (Unit {0})) (seen : List ℕ → State ℕ Now → List Event) (h : (name : List ℕ) (s : State ℕ Now) → Tells s (seq name s) (seen name s)) where
  tells_statement : (at : SetStep) (st : StmtTree) (s : State ℕ Now) → Tells s (statement (direct false) turn_us seq st s) (statement_events each_turn turn_us seq seen at st s)
  unfolding statement statement_events done_events
  tells_statement at (t.Empty place) s = also s.rest _ (Begins (spot_at at part.Block place) (t.Empty place)) _ refl refl (tells_end s (counted_step (direct false) s) [] _ (tells_counted s) (λ x. said_none x.1.rest))
  tells_statement at (t.Declare name e) s = also s.rest _ (Begins (spot_at at part.Block name.at) (t.Declare name e)) _ refl refl
      (tells_after_counted s _ (λ r. value_events seq seen e r ++ events_after (value (direct false) seq e r) (λ n q. Assigns name.text n ∷ [])) (λ r. tells_declared name r _ _ (tells_value seq seen h e r)))
  tells_statement at (t.Plain place e) s = also s.rest _ (Begins (spot_at at part.Block place) (t.Plain place e)) _ refl refl
      (tells_after_counted s _ (λ r. value_events seq seen e r) (λ r. tells_dropped r _ _ (tells_value seq seen h e r)))

  tells_block : (at : SetStep) (code : List StmtTree) (s : State ℕ Now) → Tells s (block (direct false) turn_us seq code s) (block_events each_turn turn_us seq seen at code s)
  unfolding block block_events
  tells_block at [] s = said_none s.rest
  tells_block at (st ∷ code) s = tells_in_order s _ _ _ (λ r. block_events each_turn turn_us seq seen at code r) (tells_statement at st s) (λ r. tells_block at code r)

  tells_condition : (at : SetStep) (o : Option Tree) (s : State ℕ Now) → Tells s (condition (direct false) turn_us seq o s) (condition_events each_turn turn_us seq seen at o s)
  unfolding condition condition_events
  tells_condition at None s = said_none s.rest
  tells_condition at (Some e) s = also s.rest _ (Tests (spot_at at part.If text_start) e) _ refl refl
      (rw (used_is (value (direct false) seq e s)) (tells_map s (value (direct false) seq e s) _ _
      (tells_end s (value (direct false) seq e s) _ _ (tells_value seq seen h e s) (λ x. said_one x.1.rest (Chooses (spot_at at part.If text_start) x.0) refl refl)) (λ x. refl)))

  module _ (at : SetStep) (body : State ℕ Now → Out ℕ Now (Unit {0})) (body_seen : State ℕ Now → List Event) (hb : (r : State ℕ Now) → Tells r (body r) (body_seen r)) where
    -- the body, after which its declarations are not visible
    abbrev within : State ℕ Now → Out ℕ Now (Unit {0})
    within r = inside (direct false) body r

    tells_loop : (spot : Spot) (o : Option (ℕ × ℕ)) (e : Tree) (n : ℕ) (s : State ℕ Now) → Tells s (loop_result (direct false) turn_us seq o e n body s) (loop_events each_turn turn_us seq seen spot o e n within body_seen s)
    unfolding loop_result loop_events
    tells_loop spot (Some form) e n s = tells_poll spot form n s
    tells_loop spot None e n s = tells_turns spot _ _ within body_seen (λ r. tells_value seq seen h e r) (λ r. tells_inside r body (body_seen r) (hb r)) 0 n s

    tells_repeated : (o : Option Tree) (timeout : Option ℕ) (steps : CodeSteps) (s : State ℕ Now) → Tells s (repeat_result (direct false) turn_us seq o timeout steps body s) (repeat_events each_turn turn_us seq seen at o timeout steps within body_seen s)
    unfolding repeat_result repeat_events
    tells_repeated None timeout steps s = tells_inside s body (body_seen s) (hb s)
    tells_repeated (Some e) timeout steps s = also s.rest _ (Loops (spot_at at part.While text_start) e _) _ refl refl
        (rw (given_is 0 (timeout_of timeout) s) (tells_loop (spot_at at part.While text_start) (poll_of e steps) e _ s))

    tells_controlled : (cond_tree o : Option Tree) (timeout : Option ℕ) (steps : CodeSteps) (s : State ℕ Now)
        → Tells s (control_result (direct false) turn_us seq cond_tree o timeout steps body s) (controlled_events each_turn turn_us seq seen at cond_tree o timeout steps within body_seen s)
    unfolding control_result controlled_events
    tells_controlled cond_tree o timeout steps s = tells_bind s (condition (direct false) turn_us seq cond_tree s) _ _ _ (tells_condition at cond_tree s)
        (λ x. tells_if x.1 x.0 _ _ _ _ (tells_repeated o timeout steps x.1) (said_none x.1.rest))

  mutual
    unfolding step step_events

    tells_step : (at : SetStep) (st : CodeStep) (s : State ℕ Now) → Tells s (step (direct false) turn_us seq st s) (step_events each_turn turn_us seq seen at st s)
    tells_step at (c.Block code) s = tells_block at code s
    tells_step at (c.Control cond_tree repeat timeout steps) s =
        tells_controlled at (λ q. steps_result (direct false) turn_us seq steps q) (λ r. steps_events each_turn turn_us seq seen at 0 steps r) (λ r. tells_steps at 0 steps r) cond_tree repeat timeout steps s

    pub tells_steps : (at : SetStep) (number : ℕ) (steps : CodeSteps) (s : State ℕ Now) → Tells s (steps_result (direct false) turn_us seq steps s) (steps_events each_turn turn_us seq seen at number steps s)
    tells_steps at number c.NoSteps s = said_none s.rest
    tells_steps at number (c.MoreSteps first more) s =
        tells_in_order s _ _ _ (λ r. steps_events each_turn turn_us seq seen at (suc number) more r) (tells_step (inner_step at number) first s) (λ r. tells_steps at (suc number) more r)
