-- What steps, sequences and whole runs mean.
use Rattle.std.specs.Prelude.{ℕ, zero, suc, ◌/◌, max, Bool, true, false, not, ◌&&◌}
use Rattle.std.specs.Prelude.{List, [], ◌∷◌, ◌++◌, length, take, codes, Option, Some, None, unwrap_or, Ok, if◌then◌else◌, nat_lt, nat_le, nat_eq}
use Rattle.dap_base.specs.Outcome.{◌>>=◌}
use Rattle.expr_grammar.specs.declared.code.Name.{Name}
use Rattle.expr_grammar.specs.Tree as t
use Rattle.expr_grammar.specs.Tree.{Tree, StmtTree}
use Rattle.sequence_trees.specs.Trees as c
use Rattle.sequence_trees.specs.Trees.{CodeStep, CodeSteps, SetTrees, steps_named}
use Rattle.target_machine.specs.declared.unit.HaltCause.TheVariants.{StepLimit, Unsupported}
use Rattle.target_machine.specs.declared.unit.Unit.TheVariants as unit
use Rattle.sequence_rules.specs.declared.bindings.Binding.{Binding}
use Rattle.sequence_rules.specs.Calls.{missing, value_or_missing, global, ask}
use Rattle.sequence_rules.specs.Machine.{Machine, State, Out, halt, step_more, with_locals, with_variables}
use Rattle.sequence_rules.specs.Polls.{poll_of}
use Rattle.sequence_rules.specs.Values.{value, used_now, stored_value}
use Rattle.sequence_rules.specs.Variables.{bound_variable, value_named, set_in, with_all_new}

-- ---- loops

-- a timeout that a valid set has: 1 to 60,000,000 microseconds
abbrev pub is_timeout : ℕ → Bool
is_timeout micros = nat_lt 0 micros && nat_le micros 60000000

-- the timeout, where it is one
abbrev pub when_timeout : ℕ → Option ℕ
when_timeout micros = if is_timeout micros then Some micros else None

-- the timeout of a loop, where it has one
abbrev pub timeout_of : Option ℕ → Option ℕ
timeout_of None = None
timeout_of (Some micros) = when_timeout micros

-- how many turns a loop may make until its timeout, at least one
unfoldable pub turn_count : ℕ → ℕ → ℕ
turn_count turn_us timeout = max 1 (timeout / turn_us)

module _ {V T : Type 0} (m : Machine V T) where
  -- a step is counted before it is run, unless it would be number 100,000,001
  unfoldable pub counted_step : State V T → Out V T (Unit {0})
  counted_step s = if nat_lt s.steps 100000000 then Ok (tt, step_more s) else halt StepLimit s

  -- a step is counted, and then run
  unfoldable pub after_counted : (State V T → Out V T (Unit {0})) → State V T → Out V T (Unit {0})
  after_counted rest s = counted_step s >>= λ k. rest k.1

  -- one more variable of the running sequence, with a value that is not used
  unfoldable pub declared_variable : Name → Out V T V → Out V T (Unit {0})
  declared_variable name out = out >>= λ x. Ok (tt, with_locals x.1 (x.1.locals ++ bound_variable name.text x.0 ∷ []))

  -- a value that is dropped without a use
  unfoldable pub dropped_value : Out V T V → Out V T (Unit {0})
  dropped_value out = out >>= λ x. Ok (tt, x.1)

  -- one thing, and then the rest
  unfoldable pub in_order : Out V T (Unit {0}) → (State V T → Out V T (Unit {0})) → Out V T (Unit {0})
  in_order first rest = first >>= λ x. rest x.1

  -- what is declared inside is not visible after it
  unfoldable pub inside : (State V T → Out V T (Unit {0})) → State V T → Out V T (Unit {0})
  inside body s = body s >>= λ x. Ok (tt, with_locals x.1 (take (length s.locals) x.1.locals))

  -- one turn, counted before its condition; whether another may follow
  unfoldable pub turn : (State V T → Out V T V) → (State V T → Out V T (Unit {0})) → State V T → Out V T Bool
  turn test body s = counted_step s >>= λ k. used_now m (test k.1) >>= λ x. if nat_eq x.0 0 then Ok (false, x.1) else (body x.1 >>= λ y. Ok (true, y.1))

  -- at most so many turns; after the last one the run goes on
  unfoldable pub turns : (State V T → Out V T V) → (State V T → Out V T (Unit {0})) → ℕ → State V T → Out V T (Unit {0})
  turns test body zero s = Ok (tt, s)
  turns test body (suc n) s = turn test body s >>= λ x. if x.0 then turns test body n x.1 else Ok (tt, x.1)

  -- a poll is one unit, whose result is dropped
  unfoldable pub poll_result_at : ℕ × ℕ → ℕ → ℕ → State V T → Out V T (Unit {0})
  poll_result_at form turns dp s = if nat_eq dp 0 then dropped_value (ask m (unit.Poll form.0 form.1 turns) false s) else halt Unsupported s

  -- a poll is counted as one step, and uses `__dp`
  unfoldable pub poll_result : ℕ × ℕ → ℕ → State V T → Out V T (Unit {0})
  poll_result form turns s = counted_step s >>= λ k. global m (codes "__dp") k.1 >>= λ d. poll_result_at form turns d.0 d.1

-- ---- steps

module _ {V T : Type 0} (m : Machine V T) (turn_us : ℕ) (sequence : List ℕ → State V T → Out V T (Unit {0})) where
  -- a statement is a step
  unfoldable pub statement : StmtTree → State V T → Out V T (Unit {0})
  statement (t.Empty at) s = counted_step m s
  statement (t.Declare name e) s = after_counted m (λ r. declared_variable m name (value m sequence e r)) s
  statement (t.Plain at e) s = after_counted m (λ r. dropped_value m (value m sequence e r)) s

  -- statements in order
  unfoldable pub block : List StmtTree → State V T → Out V T (Unit {0})
  block [] s = Ok (tt, s)
  block (st ∷ code) s = in_order m (statement st s) (λ r. block code r)

  -- whether the `if` of a control is not 0; one that is not there is so
  unfoldable pub condition : Option Tree → State V T → Out V T Bool
  condition None s = Ok (true, s)
  condition (Some e) s = used_now m (value m sequence e s) >>= λ x. Ok (not (nat_eq x.0 0), x.1)

  -- a poll, or turns
  unfoldable pub loop_result : Option (ℕ × ℕ) → Tree → ℕ → (State V T → Out V T (Unit {0})) → State V T → Out V T (Unit {0})
  loop_result (Some form) e n body s = poll_result m form n s
  loop_result None e n body s = turns m (λ r. value m sequence e r) (λ r. inside m body r) n s

  -- the steps of a control once, or as its `while` and its timeout say
  unfoldable pub repeat_result : Option Tree → Option ℕ → CodeSteps → (State V T → Out V T (Unit {0})) → State V T → Out V T (Unit {0})
  repeat_result None timeout steps body s = inside m body s
  repeat_result (Some e) timeout steps body s = value_or_missing m 0 (timeout_of timeout) s >>= λ w. loop_result (poll_of e steps) e (turn_count turn_us w.0) body w.1

  -- a control is skipped where its `if` is 0
  unfoldable pub control_result : Option Tree → Option Tree → Option ℕ → CodeSteps → (State V T → Out V T (Unit {0})) → State V T → Out V T (Unit {0})
  control_result cond repeat timeout steps body s = condition cond s >>= λ x. if x.0 then repeat_result repeat timeout steps body x.1 else Ok (tt, x.1)

  unfoldable mutual
    -- a step is run
    pub step : CodeStep → State V T → Out V T (Unit {0})
    step (c.Block code) r = block code r
    step (c.Control cond repeat timeout steps) r = control_result cond repeat timeout steps (λ q. steps_result steps q) r

    -- steps are run in order
    pub steps_result : CodeSteps → State V T → Out V T (Unit {0})
    steps_result c.NoSteps r = Ok (tt, r)
    steps_result (c.MoreSteps first more) r = in_order m (step first r) (λ q. steps_result more q)

-- ---- sequences

module _ {V T : Type 0} (m : Machine V T) where
  -- the value of a predefined variable, which is copied
  abbrev pub of_global : List (Binding V) → List ℕ → V
  of_global globals name = unwrap_or (value_named globals name) (m.number 0)

  -- `__dp`, `__ap` and `__errorcontrol` as they were
  abbrev pub given_back : List (Binding V) → List (Binding V) → List (Binding V)
  given_back before now =
      set_in (set_in (set_in now (codes "__dp") (of_global before (codes "__dp"))) (codes "__ap") (of_global before (codes "__ap")))
      (codes "__errorcontrol") (of_global before (codes "__errorcontrol"))

  -- A called sequence sees no variables that its caller declared. After it the caller has them again, and its `__dp`, `__ap` and
  -- `__errorcontrol`.
  unfoldable pub sequence_result : (State V T → Out V T (Unit {0})) → State V T → Out V T (Unit {0})
  sequence_result body s = body (with_locals s []) >>= λ x. Ok (tt, with_variables x.1 (given_back s.globals x.1.globals) s.locals)

-- the names of the debug variables
abbrev pub declared_names : List StmtTree → List (List ℕ)
declared_names [] = []
declared_names (t.Empty at ∷ code) = declared_names code
declared_names (t.Declare name e ∷ code) = name.text ∷ declared_names code
declared_names (t.Plain at e ∷ code) = declared_names code

module _ {V T : Type 0} (m : Machine V T) (turn_us : ℕ) (set : SetTrees) where
  -- the steps of a sequence, none where the set does not have it
  unfoldable pub steps_at : List ℕ → State V T → Out V T CodeSteps
  steps_at name s = value_or_missing m c.NoSteps (steps_named name set.sequences) s

  -- the sequence of the name, from which calls lead at most so deep
  unfoldable pub sequence_at : ℕ → List ℕ → State V T → Out V T (Unit {0})
  sequence_at zero name s = missing m tt s
  sequence_at (suc d) name s = sequence_result m (λ r. steps_at name r >>= λ x. steps_result m turn_us (λ n q. sequence_at d n q) x.0 x.1) s

  -- the debug variables get their values, in order; no call is among these, and they are no steps
  unfoldable pub debug_result : List StmtTree → State V T → Out V T (Unit {0})
  debug_result [] s = Ok (tt, s)
  debug_result (t.Empty at ∷ code) s = debug_result code s
  debug_result (t.Declare name e ∷ code) s = value m (λ n q. sequence_at 0 n q) e s >>= λ x. stored_value m name x.0 x.1 >>= λ y. debug_result code y.1
  debug_result (t.Plain at e ∷ code) s = debug_result code s

  -- a run: the debug variables, and then the sequence of the name, in a chain of at most 32 sequences
  unfoldable pub run_of : List ℕ → State V T → Out V T (Unit {0})
  run_of start s = debug_result set.debugvars s >>= λ x. steps_at start x.1 >>= λ y. steps_result m turn_us (λ n q. sequence_at 31 n q) y.0 y.1

  -- the state in which a run begins: the predefined variables, and the debug variables at 0
  abbrev pub start_state : List (Binding V) → T → State V T
  start_state predefined rest = record {
    globals = with_all_new predefined (declared_names set.debugvars) (m.number 0);
    locals = [];
    units = 0;
    lines = 0;
    steps = 0;
    rest = rest;
  }
