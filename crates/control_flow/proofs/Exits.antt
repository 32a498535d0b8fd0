-- What comes later, for the exits of the evaluator.
use Rattle.std.proofs.Common.{◌≡◌, ℕ, true, false, cond, List, nat_eq, Option, Ok, refl, sym, subst}
use Rattle.dap_base.specs.Outcome.{◌>>=◌}
use Rattle.function_table.specs.declared.function.Function.{Function}
use Rattle.function_table.specs.Lookup.{function_named}
use Rattle.expr_grammar.specs.declared.code.Name.{Name}
use Rattle.expr_grammar.specs.Tree.{Tree, ArgTrees, StmtTree}
use Rattle.sequence_trees.specs.Trees.{CodeSteps, SetTrees}
use Rattle.target_calls.specs.declared.calls.Value.{Value}
use Rattle.target_calls.specs.declared.calls.Value.TheVariants.{Number}
use Rattle.target_calls.specs.NeedPoints.{Costs}
use Rattle.target_calls.specs.World.{World}
use Rattle.access_calls.proofs.KeepLemmas.{goes_same, goes_trans}
use Rattle.sequence_rules.specs.declared.bindings.Binding.{Binding}
use Rattle.sequence_rules.specs.Calls.{guarded_rest}
use Rattle.sequence_rules.specs.Late.{Late, late, Later}
use Rattle.sequence_rules.specs.Machine.{State, Out, with_locals, with_variables}
use Rattle.sequence_rules.specs.Steps.{turns, inside, poll_result_at, repeat_result, block, steps_result, debug_result, steps_at, sequence_at}
use Rattle.sequence_rules.specs.Values.{value, stored_value, used_now, result_of, truth_of, arguments, call_result, is_call, text_of}
use Rattle.sequence_rules.proofs.Goes as g
use Rattle.sequence_rules.proofs.LateLemmas.{steady_late, later_same}
use Rattle.sequence_rules.proofs.Made.{no_cost}
use Rattle.sequence_rules.specs.Steady.{Goes}
use Rattle.seq_check.specs.Answers.{checked_trees}
use Rattle.control_flow.specs.declared.runner.Runner.{Runner}
use Rattle.control_flow.specs.Calls.{late_calls_of}
use Rattle.control_flow.specs.Parts.{late_inside_of, late_repeat_of, late_steps_of, late_truth_of, late_value_of}
use Rattle.function_calls.proofs.Leaves.{After, ends_on, later_bind, later_cond, later_ok, later_halt, later_use, later_both, later_global, later_ask, left_on}

abbrev S : Type 0
S = State Value Late

abbrev O : Type 0 → Type 0
O A = Out Value Late A

-- what a call of a sequence does comes later than its start; a name of its own, for the search
pub record CallsLater (w : World) (seq : List ℕ → S → O (Unit {0})) : Type 0 where
  pub so : (name : List ℕ) (r : S) → After w r (seq name r)

-- the two ways to say it
go : {A : Type 0} (w : World) (s : S) (out : O A) → After w s out → Goes (Later w) s out
go w s out h = record { so = h.so }

back : {A : Type 0} (w : World) (s : S) (out : O A) → Goes (Later w) s out → After w s out
back w s out h = record { so = h.so }

pub later_rest : {A : Type 0} (w : World) (s r : S) (x : A) → r.rest ≡ s.rest → After w s (Ok (x, r))
later_rest w s r x e = record { so = subst (λ t. Later w s.rest t) (sym e) (later_same no_cost w s.rest) }

pub later_stored : (cost : Costs) (w : World) (name : Name) (v : Value) (s : S) → After w s (stored_value (late cost w) name v s)
later_stored cost w name v s = back w s _ (g.goes_stored (late cost w) (Later w) (steady_late cost w) name v s)

pub later_locals : (w : World) (s : S) (locals : List (Binding Value)) → After {B = Unit {0}} w s (Ok (tt, with_locals s locals))
later_locals w s locals = later_rest {A = Unit {0}} w s (with_locals s locals) tt refl

pub later_variables : (w : World) (s : S) (globals locals : List (Binding Value)) → After {B = Unit {0}} w s (Ok (tt, with_variables s globals locals))
later_variables w s globals locals = later_rest {A = Unit {0}} w s (with_variables s globals locals) tt refl

-- ---- one line for each definition

pub later_sequence : (cost : Costs) (w : World) (turn_us : ℕ) (set : SetTrees) (depth : ℕ) → CallsLater w (λ n q. sequence_at (late cost w) turn_us set depth n q)
later_sequence cost w turn_us set depth = record { so = λ name r. back w r _ (g.goes_sequence (late cost w) (Later w) (steady_late cost w) turn_us set depth name r) }

pub later_value : (cost : Costs) (w : World) (seq : List ℕ → S → O (Unit {0})) (e : Tree) (s : S) → CallsLater w seq → After w s (value (late cost w) seq e s)
later_value cost w seq e s q = back w s _ (g.goes_value (late cost w) (Later w) (steady_late cost w) seq (λ name r. go w r _ (q.so name r)) e s)

pub later_used_now : (cost : Costs) (w : World) (out : O Value) (s : S) → After w s out → After w s (used_now (late cost w) out)
later_used_now cost w out s h = back w s _ (g.goes_used_now (late cost w) (Later w) (steady_late cost w) out s (go w s _ h))

pub later_truth_of : (cost : Costs) (w : World) (out : O Value) (s : S) → After w s out → After w s (truth_of (late cost w) out)
later_truth_of cost w out s h = back w s _ (g.goes_truth_of (late cost w) (Later w) (steady_late cost w) out s (go w s _ h))

pub later_result : (cost : Costs) (w : World) (o : Option ℕ) (s : S) → After w s (result_of (late cost w) o s)
later_result cost w o s = back w s _ (g.goes_result (late cost w) (Later w) (steady_late cost w) o s)

pub later_called : (cost : Costs) (w : World) (seq : List ℕ → S → O (Unit {0})) (function : Option Function) (text n : List ℕ) (s : S) → CallsLater w seq → After w s (call_result (late cost w) seq function text n s)
later_called cost w seq function text n s q = back w s _ (g.goes_called (late cost w) (Later w) (steady_late cost w) seq (λ name r. go w r _ (q.so name r)) function text n s)

pub later_arguments : (cost : Costs) (w : World) (seq : List ℕ → S → O (Unit {0})) (args : ArgTrees) (got : List Value) (s : S) → CallsLater w seq → After w s (arguments (late cost w) seq args got s)
later_arguments cost w seq args got s q = back w s _ (g.goes_arguments (late cost w) (Later w) (steady_late cost w) seq (λ name r. go w r _ (q.so name r)) args got s)

pub later_block : (cost : Costs) (w : World) (turn_us : ℕ) (seq : List ℕ → S → O (Unit {0})) (code : List StmtTree) (s : S) → CallsLater w seq → After w s (block (late cost w) turn_us seq code s)
later_block cost w turn_us seq code s q = back w s _ (g.goes_block (late cost w) (Later w) (steady_late cost w) seq (λ name r. go w r _ (q.so name r)) turn_us code s)

pub later_done : (cost : Costs) (w : World) (turn_us : ℕ) (seq : List ℕ → S → O (Unit {0})) (steps : CodeSteps) (s : S) → CallsLater w seq → After w s (steps_result (late cost w) turn_us seq steps s)
later_done cost w turn_us seq steps s q = back w s _ (g.goes_done (late cost w) (Later w) (steady_late cost w) seq (λ name r. go w r _ (q.so name r)) turn_us steps s)

pub later_inside : (cost : Costs) (w : World) (body : S → O (Unit {0})) (s : S) → ((r : S) → After w r (body r)) → After w s (inside (late cost w) body s)
later_inside cost w body s k = back w s _ (g.goes_inside (late cost w) (Later w) (steady_late cost w) body s (λ r. go w r _ (k r)))

pub later_turns : (cost : Costs) (w : World) (test : S → O Value) (body : S → O (Unit {0})) (n : ℕ) (s : S) → ((r : S) → After w r (test r)) → ((r : S) → After w r (body r)) → After w s (turns (late cost w) test body n s)
later_turns cost w test body n s k l = back w s _ (g.goes_turns (late cost w) (Later w) (steady_late cost w) test body n s (λ r. go w r _ (k r)) (λ r. go w r _ (l r)))

pub later_repeated : (cost : Costs) (w : World) (turn_us : ℕ) (seq : List ℕ → S → O (Unit {0})) (o : Option Tree) (timeout : Option ℕ) (steps : CodeSteps) (body : S → O (Unit {0})) (s : S) → CallsLater w seq → ((r : S) → After w r (body r))
    → After w s (repeat_result (late cost w) turn_us seq o timeout steps body s)
later_repeated cost w turn_us seq o timeout steps body s q k = back w s _ (g.goes_repeated (late cost w) (Later w) (steady_late cost w) seq (λ name r. go w r _ (q.so name r)) turn_us o timeout steps body s (λ r. go w r _ (k r)))

pub later_polled_at : (cost : Costs) (w : World) (form : ℕ × ℕ) (n dp : ℕ) (s : S) → After w s (poll_result_at (late cost w) form n dp s)
later_polled_at cost w form n dp s = back w s _ (g.goes_polled_at (late cost w) (Later w) (steady_late cost w) form n dp s)

pub later_debugged : (cost : Costs) (w : World) (turn_us : ℕ) (set : SetTrees) (code : List StmtTree) (s : S) → After w s (debug_result (late cost w) turn_us set code s)
later_debugged cost w turn_us set code s = back w s _ (g.goes_debugged (late cost w) (Later w) (steady_late cost w) turn_us set code s)

pub later_steps_at : (cost : Costs) (w : World) (turn_us : ℕ) (set : SetTrees) (name : List ℕ) (s : S) → After w s (steps_at (late cost w) turn_us set name s)
later_steps_at cost w turn_us set name s = back w s _ (g.goes_steps_at (late cost w) (Later w) (steady_late cost w) turn_us set name s)

later_turn_rest : (w : World) (n : ℕ) (body : S → O (Unit {0})) (s : S) → ((r : S) → After w r (body r)) → After w s (cond (nat_eq n 0) (Ok (false, s)) (body s >>= λ y. Ok (true, y.1)))
later_turn_rest w n body s k = later_cond w s (nat_eq n 0) _ _ (later_ok w s false) (later_bind w s (body s) _ (k s) (λ y. later_ok w y.1 true))

-- a number is itself, and nothing is lost
pub late_number : (cost : Costs) (w : World) (n : ℕ) → (late cost w).number n ≡ Number n
unfolding late
late_number cost w n = refl

-- ---- what comes of the parts of a program

module _ (runner : Runner) (depth : ℕ) (cost : Costs) (w : World) where
  pub calls_later : CallsLater w (late_calls_of (late cost w) runner depth)
  calls_later = later_sequence cost w runner.turn_us (checked_trees runner.set.now) depth

  pub value_later : (e : Tree) (s : S) → After w s (late_value_of runner depth e (late cost w) s)
  value_later e s = later_value cost w (late_calls_of (late cost w) runner depth) e s calls_later

  pub truth_later : (e : Tree) (s : S) → After w s (late_truth_of runner depth e (late cost w) s)
  truth_later e s = later_truth_of cost w _ s (value_later e s)

  pub steps_later : (steps : CodeSteps) (s : S) → After w s (late_steps_of runner depth steps (late cost w) s)
  steps_later steps s = later_done cost w runner.turn_us (late_calls_of (late cost w) runner depth) steps s calls_later

  pub inside_later : (steps : CodeSteps) (s : S) → After w s (late_inside_of runner depth steps (late cost w) s)
  inside_later steps s = later_inside cost w (late_steps_of runner depth steps (late cost w)) s (λ r. steps_later steps r)

  pub repeat_later : (repeat : Option Tree) (timeout : Option ℕ) (steps : CodeSteps) (s : S) → After w s (late_repeat_of runner depth repeat timeout steps (late cost w) s)
  repeat_later repeat timeout steps s = later_repeated cost w runner.turn_us (late_calls_of (late cost w) runner depth) repeat timeout steps (late_steps_of runner depth steps (late cost w)) s calls_later (λ r. steps_later steps r)

  pub turn_later : (steps : CodeSteps) (n : ℕ) (s : S) → After w s (cond (nat_eq n 0) (Ok (false, s)) (late_inside_of runner depth steps (late cost w) s >>= λ y. Ok (true, y.1)))
  turn_later steps n s = later_turn_rest w n (late_inside_of runner depth steps (late cost w)) s (λ r. inside_later steps r)

  pub called_later : (name : Name) (args : ArgTrees) (ns : List ℕ) (s : S) → After w s (guarded_rest (late cost w) (is_call (function_named name.text) args) (λ r. call_result (late cost w) (late_calls_of (late cost w) runner depth) (function_named name.text) (text_of args) ns r) s)
  called_later name args ns s = back w s _ (g.goes_guarded (late cost w) (Later w) (steady_late cost w) _ _ s (go w s _ (later_called cost w (late_calls_of (late cost w) runner depth) (function_named name.text) (text_of args) ns s calls_later)))

pub ruleset goes_on = (
  ends_on,
  later_bind,
  later_cond,
  later_ok,
  later_halt,
  later_use,
  later_both,
  later_global,
  later_ask,
  later_sequence,
  later_value,
  later_used_now,
  later_truth_of,
  later_result,
  later_called,
  later_done,
  later_inside,
  later_repeated,
  later_polled_at,
  late_number,
  later_stored,
  later_locals,
  later_variables,
  goes_trans,
  goes_same,
  left_on,
)
