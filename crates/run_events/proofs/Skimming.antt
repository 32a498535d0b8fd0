-- What is shown of a run is what is seen of it, with some events left out.
use Rattle.std.proofs.Common.{inl, inr, ℕ, zero, suc, Bool, true, false, cond, ◌||◌, List, [], ◌∷◌, ◌++◌, nat_eq, Option, None, Some, Ok, Err, refl}
use Rattle.expr_grammar.specs.Tree as t
use Rattle.expr_grammar.specs.Tree.{Tree, ArgTree, ArgTrees, StmtTree}
use Rattle.function_table.specs.declared.function.Function.{Function}
use Rattle.function_table.specs.declared.function.Function.TheVariants as f
use Rattle.function_table.specs.Lookup.{function_named}
use Rattle.sequence_trees.specs.Order.{SetStep, spot_at}
use Rattle.sequence_trees.specs.Trees as c
use Rattle.sequence_trees.specs.Trees.{CodeStep, CodeSteps, SetTrees, steps_in}
use Rattle.sequence_trees.specs.declared.spot.Part.TheVariants as part
use Rattle.sequence_trees.specs.declared.spot.Spot.{Spot}
use Rattle.sequence_rules.specs.Direct.{Now, direct, now_at}
use Rattle.sequence_rules.specs.Machine.{State, Out, with_locals}
use Rattle.sequence_rules.specs.Polls.{poll_of}
use Rattle.sequence_rules.specs.Runs.{as_values}
use Rattle.sequence_rules.specs.Steps.{counted_step, turn, statement, condition, step, sequence_at, debug_result, start_state}
use Rattle.sequence_rules.specs.Values.{text_of, argument, arguments, value, stored_value}
use Rattle.run_events.specs.Events.{Event, Calls, Returns, events_after}
use Rattle.run_events.specs.Laws.{IsPartOfEvents, ShownAreSeen}
use Rattle.run_events.specs.OfRuns.{at_sequence, sequence_events, debugged_events, run_events, each_turn}
use Rattle.run_events.specs.OfSteps.{text_start, inner_step, is_last_turn, tested_events, turn_events, turns_events, done_events, statement_events, block_events, condition_events, loop_events, repeat_events, controlled_events, step_events, steps_events}
use Rattle.run_events.specs.OfValues.{needs_right, called_events, call_events, value_events, argument_events, arguments_events}

-- ---- lists

record Skims (xs ys : List Event) : Type 0 where
  so : IsPartOfEvents xs ys

skims : (xs ys : List Event) → IsPartOfEvents xs ys → Skims xs ys
skims xs ys h = record { so = h }

none_of : (ys : List Event) → Skims [] ys
none_of [] = skims [] [] tt
none_of (y ∷ ys) = skims [] (y ∷ ys) tt

one_more : (y : Event) (xs ys : List Event) → Skims xs ys → Skims xs (y ∷ ys)
one_more y [] ys h = none_of (y ∷ ys)
one_more y (x ∷ xs) ys h = skims (x ∷ xs) (y ∷ ys) (inr h.so)

part_first : (x : Event) (xs ys : List Event) → Skims xs ys → Skims (x ∷ xs) (x ∷ ys)
part_first x xs ys h = skims (x ∷ xs) (x ∷ ys) (inl (refl, h.so))

part_same : (xs : List Event) → Skims xs xs
part_same [] = none_of []
part_same (x ∷ xs) = part_first x xs xs (part_same xs)

on_parts : (a b c d : List Event) → IsPartOfEvents a b → Skims c d → Skims (a ++ c) (b ++ d)
on_parts [] [] c d h k = k
on_parts (x ∷ a) [] c d h k = absurd h
on_parts [] (y ∷ b) c d h k = one_more y c (b ++ d) (on_parts [] b c d (none_of b).so k)
on_parts (x ∷ a) (y ∷ b) c d (inl h) k = (let rest = on_parts a b c d h.1 k in skims (x ∷ a ++ c) (y ∷ b ++ d) (inl (h.0, rest.so)))
on_parts (x ∷ a) (y ∷ b) c d (inr h) k = (let rest = on_parts (x ∷ a) b c d h k in skims (x ∷ a ++ c) (y ∷ b ++ d) (inr rest.so))

part_on : (a b c d : List Event) → Skims a b → Skims c d → Skims (a ++ c) (b ++ d)
part_on a b c d h k = on_parts a b c d h.so k

part_after : {A : Type 0} (out : Out ℕ Now A) (f k : A → State ℕ Now → List Event) → ((x : A) (r : State ℕ Now) → Skims (f x r) (k x r)) → Skims (events_after out f) (events_after out k)
part_after (Ok x) f k h = h x.0 x.1
part_after (Err e) f k h = none_of []

part_if : (b : Bool) (xs ys us vs : List Event) → Skims xs us → Skims ys vs → Skims (cond b xs ys) (cond b us vs)
part_if true xs ys us vs h k = h
part_if false xs ys us vs h k = k

part_kept : (b : Bool) (xs us : List Event) → Skims xs us → Skims (cond b xs []) us
part_kept true xs us h = h
part_kept false xs us h = none_of us

-- what comes first, and what comes after it
part_then : {A : Type 0} (xs us : List Event) (out : Out ℕ Now A) (f k : A → State ℕ Now → List Event) → Skims xs us → ((x : A) (r : State ℕ Now) → Skims (f x r) (k x r)) → Skims (xs ++ events_after out f) (us ++ events_after out k)
part_then xs us out f k h l = part_on xs us (events_after out f) (events_after out k) h (part_after out f k l)

-- ---- expressions

module _ (seq : List ℕ → State ℕ Now → Out ℕ Now (Unit {0})) (shown seen : List ℕ → State ℕ Now → List Event) (h : (name : List ℕ) (s : State ℕ Now) → Skims (shown name s) (seen name s)) where
  part_called : (name : List ℕ) (s : State ℕ Now) → Skims (called_events seq shown name s) (called_events seq seen name s)
  unfolding called_events
  part_called name s = part_first (Calls name) _ _ (part_then (shown name s) (seen name s) (seq name s) (λ x r. Returns ∷ []) (λ x r. Returns ∷ []) (h name s) (λ x r. part_same (Returns ∷ [])))

  part_call : (function : Option Function) (text n : List ℕ) (s : State ℕ Now) → Skims (call_events seq shown function text n s) (call_events seq seen function text n s)
  unfolding call_events
  part_call None text n s = none_of []
  part_call (Some f.Sequence) text n s = part_called text s
  part_call (Some function) text n s = part_same _

  mutual
    unfolding value_events

    part_value : (e : Tree) (s : State ℕ Now) → Skims (value_events seq shown e s) (value_events seq seen e s)
    part_value (t.Number n) s = none_of []
    part_value (t.Named name) s = none_of []
    part_value (t.Group a) s = part_value a s
    part_value (t.Unary op a) s = part_value a s
    part_value (t.Binary op a d) s = part_then _ _ (value (direct false) seq a s) _ _ (part_value a s) (λ n r. part_if (needs_right op n) _ _ _ _ (part_value d r) (none_of []))
    part_value (t.Cond c a d) s = part_then _ _ (value (direct false) seq c s) _ _ (part_value c s) (λ n r. part_if (nat_eq n 0) _ _ _ _ (part_value d r) (part_value a r))
    part_value (t.Assign name a) s = part_then _ _ (value (direct false) seq a s) _ _ (part_value a s) (λ n r. part_same _)
    part_value (t.Call name args) s = part_then _ _ (arguments (direct false) seq args [] s) _ _ (part_arguments args [] s) (λ n r. part_call (function_named name.text) (text_of args) n r)

    part_argument : (a : ArgTree) (s : State ℕ Now) → Skims (argument_events seq shown a s) (argument_events seq seen a s)
    part_argument (t.ExprArg at e) s = part_value e s
    part_argument (t.TextArg a) s = none_of []

    part_arguments : (args : ArgTrees) (got : List ℕ) (s : State ℕ Now) → Skims (arguments_events seq shown args got s) (arguments_events seq seen args got s)
    part_arguments t.NoArgs got s = none_of []
    part_arguments (t.MoreArgs a more) got s = part_then _ _ (argument (direct false) seq a got s) _ _ (part_argument a s) (λ n r. part_arguments more n r)

-- ---- turns

module _ (shows : ℕ → Bool) (spot : Spot) (test : State ℕ Now → Out ℕ Now ℕ) (test_shown test_seen : State ℕ Now → List Event) (body : State ℕ Now → Out ℕ Now (Unit {0})) (body_shown body_seen : State ℕ Now → List Event) (ht : (r : State ℕ Now) → Skims (test_shown r) (test_seen r)) (hb : (r : State ℕ Now) → Skims (body_shown r) (body_seen r)) where
  part_turn : (number : ℕ) (s : State ℕ Now) → Skims (turn_events shows spot test test_shown body body_shown number s) (turn_events each_turn spot test test_seen body body_seen number s)
  unfolding turn_events tested_events
  part_turn number s = part_first _ _ _ (part_after (counted_step (direct false) s) _ _
      (λ done r. part_then _ _ (test r) _ _ (ht r) (λ n q. part_first _ _ _ (part_if (nat_eq n 0) _ _ _ _ (none_of []) (hb q)))))

  part_turns : (made left : ℕ) (s : State ℕ Now) → Skims (turns_events shows spot test test_shown body body_shown made left s) (turns_events each_turn spot test test_seen body body_seen made left s)
  unfolding turns_events
  part_turns made zero s = part_same _
  part_turns made (suc left) s = part_then _ _ (turn (direct false) test body s) _ _
      (part_kept (shows (suc made) || is_last_turn left (turn (direct false) test body s)) _ _ (part_turn (suc made) s))
      (λ more r. part_if more _ _ _ _ (part_turns (suc made) left r) (part_same _))

-- ---- steps

module _ (shows : ℕ → Bool) (turn_us : ℕ) (seq : List ℕ → State ℕ Now → Out ℕ Now (Unit {0})) (shown seen : List ℕ → State ℕ Now → List Event) (h : (name : List ℕ) (s : State ℕ Now) → Skims (shown name s) (seen name s)) where
  part_done : (st : StmtTree) (s : State ℕ Now) → Skims (done_events shows turn_us seq shown st s) (done_events each_turn turn_us seq seen st s)
  unfolding done_events
  part_done (t.Empty at) s = none_of []
  part_done (t.Declare name e) s = part_then _ _ (value (direct false) seq e s) _ _ (part_value seq shown seen h e s) (λ n r. part_same _)
  part_done (t.Plain at e) s = part_value seq shown seen h e s

  part_statement : (at : SetStep) (st : StmtTree) (s : State ℕ Now) → Skims (statement_events shows turn_us seq shown at st s) (statement_events each_turn turn_us seq seen at st s)
  unfolding statement_events
  part_statement at st s = part_first _ _ _ (part_after (counted_step (direct false) s) _ _ (λ done r. part_done st r))

  part_block : (at : SetStep) (code : List StmtTree) (s : State ℕ Now) → Skims (block_events shows turn_us seq shown at code s) (block_events each_turn turn_us seq seen at code s)
  unfolding block_events
  part_block at [] s = none_of []
  part_block at (st ∷ code) s = part_then _ _ (statement (direct false) turn_us seq st s) _ _ (part_statement at st s) (λ done r. part_block at code r)

  part_condition : (at : SetStep) (o : Option Tree) (s : State ℕ Now) → Skims (condition_events shows turn_us seq shown at o s) (condition_events each_turn turn_us seq seen at o s)
  unfolding condition_events
  part_condition at None s = none_of []
  part_condition at (Some e) s = part_first _ _ _ (part_then _ _ (value (direct false) seq e s) _ _ (part_value seq shown seen h e s) (λ n r. part_same _))

  module _ (at : SetStep) (body : State ℕ Now → Out ℕ Now (Unit {0})) (body_shown body_seen : State ℕ Now → List Event) (hb : (r : State ℕ Now) → Skims (body_shown r) (body_seen r)) where
    part_loop : (spot : Spot) (o : Option (ℕ × ℕ)) (e : Tree) (n : ℕ) (s : State ℕ Now) → Skims (loop_events shows turn_us seq shown spot o e n body body_shown s) (loop_events each_turn turn_us seq seen spot o e n body body_seen s)
    unfolding loop_events
    part_loop spot (Some form) e n s = part_same _
    part_loop spot None e n s = part_turns shows spot _ _ _ body body_shown body_seen (λ r. part_value seq shown seen h e r) hb 0 n s

    part_repeat : (o : Option Tree) (timeout : Option ℕ) (steps : CodeSteps) (s : State ℕ Now) → Skims (repeat_events shows turn_us seq shown at o timeout steps body body_shown s) (repeat_events each_turn turn_us seq seen at o timeout steps body body_seen s)
    unfolding repeat_events
    part_repeat None timeout steps s = hb s
    part_repeat (Some e) timeout steps s = part_first _ _ _ (part_loop (spot_at at part.While text_start) (poll_of e steps) e _ s)

    part_controlled : (cond_tree o : Option Tree) (timeout : Option ℕ) (steps : CodeSteps) (s : State ℕ Now) → Skims (controlled_events shows turn_us seq shown at cond_tree o timeout steps body body_shown s) (controlled_events each_turn turn_us seq seen at cond_tree o timeout steps body body_seen s)
    unfolding controlled_events
    part_controlled cond_tree o timeout steps s = part_then _ _ (condition (direct false) turn_us seq cond_tree s) _ _ (part_condition at cond_tree s) (λ chosen r. part_if chosen _ _ _ _ (part_repeat o timeout steps r) (none_of []))

  mutual
    unfolding step_events

    part_step : (at : SetStep) (st : CodeStep) (s : State ℕ Now) → Skims (step_events shows turn_us seq shown at st s) (step_events each_turn turn_us seq seen at st s)
    part_step at (c.Block code) s = part_block at code s
    part_step at (c.Control cond_tree repeat timeout steps) s = part_controlled at _ _ _ (λ r. part_steps at 0 steps r) cond_tree repeat timeout steps s

    part_steps : (at : SetStep) (number : ℕ) (steps : CodeSteps) (s : State ℕ Now) → Skims (steps_events shows turn_us seq shown at number steps s) (steps_events each_turn turn_us seq seen at number steps s)
    part_steps at number c.NoSteps s = none_of []
    part_steps at number (c.MoreSteps first more) s = part_then _ _ (step (direct false) turn_us seq first s) _ _ (part_step (inner_step at number) first s) (λ done r. part_steps at (suc number) more r)

-- ---- sequences

module _ (shows : ℕ → Bool) (turn_us : ℕ) (set : SetTrees) where
  part_sequence : (d : ℕ) (name : List ℕ) (s : State ℕ Now) → Skims (sequence_events shows turn_us set d name s) (sequence_events each_turn turn_us set d name s)
  unfolding sequence_events
  part_sequence zero name s = none_of []
  part_sequence (suc d) name s = part_steps shows turn_us _ _ _ (λ n q. part_sequence d n q) (at_sequence name) 0 (steps_in set name) (with_locals s [])

  part_debugged : (code : List StmtTree) (s : State ℕ Now) → Skims (debugged_events shows turn_us set code s) (debugged_events each_turn turn_us set code s)
  unfolding debugged_events
  part_debugged [] s = none_of []
  part_debugged (t.Empty at ∷ code) s = part_debugged code s
  part_debugged (t.Declare name e ∷ code) s = part_first _ _ _ (part_then _ _ (value (direct false) (λ n q. sequence_at (direct false) turn_us set 0 n q) e s) _ _ (part_value _ _ _ (λ n q. part_sequence 0 n q) e s)
      (λ n r. part_first _ _ _ (part_after (stored_value (direct false) name n r) _ _ (λ done q. part_debugged code q))))
  part_debugged (t.Plain at e ∷ code) s = part_debugged code s

  part_run : (start : List ℕ) (s : State ℕ Now) → Skims (run_events shows turn_us set start s) (run_events each_turn turn_us set start s)
  unfolding run_events
  part_run start s = part_then _ _ (debug_result (direct false) turn_us set set.debugvars s) _ _ (part_debugged set.debugvars s)
      (λ done r. part_steps shows turn_us _ _ _ (λ n q. part_sequence 31 n q) (at_sequence start) 0 (steps_in set start) r)

pub shown_are_seen : ShownAreSeen
shown_are_seen shows w p written = (part_run shows p.turn_us p.set p.start (start_state (direct false) p.turn_us p.set (as_values (direct false) p.predefined) (now_at w written))).so
