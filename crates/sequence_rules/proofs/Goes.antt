-- What each operation of a machine keeps of the rest is kept by all that is steps_result on it.
use Rattle.std.proofs.Common.{◌≡◌, ℕ, zero, suc, Bool, true, false, cond, not, ◌&&◌, ◌||◌, List, [], ◌∷◌, codes, nat_lt, nat_eq, Option, None, Some, Result, Ok, Err, refl}
use Rattle.expr_grammar.specs.declared.code.Name.{Name}
use Rattle.expr_grammar.specs.declared.code.UnaryOp.{UnaryOp}
use Rattle.expr_grammar.specs.declared.code.BinaryOp.{BinaryOp}
use Rattle.expr_grammar.specs.declared.code.BinaryOp.TheVariants as b
use Rattle.expr_grammar.specs.Tree as t
use Rattle.expr_grammar.specs.Tree.{Tree, ArgTree, ArgTrees, StmtTree}
use Rattle.function_table.specs.declared.function.Function.{Function}
use Rattle.function_table.specs.declared.function.Function.TheVariants as f
use Rattle.function_table.specs.Lookup.{function_named}
use Rattle.sequence_trees.specs.Trees as c
use Rattle.sequence_trees.specs.Trees.{CodeStep, CodeSteps, SequenceTrees, SetTrees, steps_named}
use Rattle.target_machine.specs.declared.unit.HaltCause.{HaltCause}
use Rattle.target_machine.specs.declared.unit.HaltCause.TheVariants.{AccessLimit}
use Rattle.target_machine.specs.declared.unit.ProbeCall.{ProbeCall}
use Rattle.target_machine.specs.declared.unit.Unit.{Unit as AccessUnit}
use Rattle.dap_base.specs.Outcome.{◌>>=◌}
use Rattle.sequence_rules.specs.Variables.{has_in, value_named, is_visible, set_visible}
use Rattle.sequence_rules.specs.Polls.{poll_of}
use Rattle.sequence_rules.specs.Machine as machine
use Rattle.sequence_rules.specs.Machine.{Over, Machine, State, Out, halt, with_rest, unit_more, line_more, step_more, with_locals, with_variables, end_state, rest_of}
use Rattle.sequence_rules.specs.Steady.{Steady, Goes}
use Rattle.sequence_rules.specs.Calls.{Port, or_halt, use_now, missing, value_or_missing, guarded_rest, global, port_with, port_from, port, counted_answer, ask, counted_number, command, zero_of, if_read, low_and_high, second_half, two_units, one_unit, memory_port, memory_at, memory, ap_unit, ap_at, ap_register, dp_unit, dp_at, dp_register, pins_command, abort_at, abort, delay, clock, pins, line_bits, line_result, function_result}
use Rattle.sequence_rules.specs.Values.{named_value, stored_value, assigned_value, used_now, of_unary, both, operands, result_of, strict_binary, truth_of, conjunction, disjunction, of_binary, choice, appended_values, chained_values, all_used, numbers_of, call_result, call_of, value, argument, arguments}
use Rattle.sequence_rules.specs.Steps.{timeout_of, counted_step, declared_variable, dropped_value, after_counted, in_order, inside, turn, turns, poll_result_at, poll_result, statement, block, condition, loop_result, repeat_result, control_result, step, steps_result, given_back, sequence_result, steps_at, sequence_at, debug_result, run_of}

module _ {V T : Type 0} (m : Machine V T) (P : T → T → Type 0) (h : Steady m P) where
  pub goes_ok : {A : Type 0} (s : State V T) (x : A) → Goes P s (Ok (x, s))
  goes_ok s x = record { so = h.same s.rest }

  pub goes_err : {A : Type 0} (s : State V T) (e : Over) → Goes {V = V} {T = T} {A = A} P s (Err (e, s))
  goes_err s e = record { so = h.same s.rest }

  pub goes_bind : {A B : Type 0} (s : State V T) (out : Out V T A) (f : A × State V T → Out V T B) → Goes P s out → ((x : A × State V T) → Goes P x.1 (f x)) → Goes P s (out >>= f)
  goes_bind s (Ok x) f g k = record { so = h.on _ _ _ g.so (k x).so }
  goes_bind s (Err e) f g k = record { so = g.so }

  pub goes_cond : {A : Type 0} (s : State V T) (c : Bool) (x y : Out V T A) → Goes P s x → Goes P s y → Goes P s (cond c x y)
  goes_cond s true x y g k = g
  goes_cond s false x y g k = k

  -- ---- calls

  pub goes_use : (v : V) (s : State V T) → Goes P s (use_now m v s)
  unfolding use_now
  goes_use v s = record { so = h.used v s.rest }

  pub goes_missing : {A : Type 0} (x : A) (s : State V T) → Goes P s (missing m x s)
  unfolding missing
  goes_missing x s = goes_cond s m.is_watchful _ _ (goes_err s machine.Lost) (goes_ok s x)

  pub goes_given : {A : Type 0} (x : A) (o : Option A) (s : State V T) → Goes P s (value_or_missing m x o s)
  unfolding value_or_missing
  goes_given x None s = goes_missing x s
  goes_given x (Some y) s = goes_ok s y

  pub goes_guarded : {A : Type 0} (ok : Bool) (rest : State V T → Out V T A) (s : State V T) → Goes P s (rest s) → Goes P s (guarded_rest m ok rest s)
  unfolding guarded_rest
  goes_guarded ok rest s g = goes_cond s (m.is_watchful && not ok) _ _ (goes_err s _) g

  pub goes_global : (name : List ℕ) (s : State V T) → Goes P s (global m name s)
  unfolding global
  goes_global name s = goes_bind s _ _ (goes_given (m.number 0) (value_named s.globals name) s) (λ v. goes_use v.0 v.1)

  pub goes_port : (s : State V T) → Goes P s (port m s)
  unfolding port port_from port_with
  goes_port s = goes_bind s _ _ (goes_global (codes "__ap") s) (λ a. goes_bind a.1 _ _ (goes_global (codes "__errorcontrol") a.1) (λ e. goes_bind e.1 _ _ (goes_global (codes "__dp") e.1) (λ d. goes_ok d.1 _)))

  goes_answered : (r : Result (V × T) (Over × T)) (s : State V T) → P s.rest (rest_of r) → Goes P s (counted_answer m r s)
  unfolding counted_answer
  goes_answered (Ok x) s g = record { so = g }
  goes_answered (Err e) s g = record { so = g }

  pub goes_ask : (u : AccessUnit) (forgive : Bool) (s : State V T) → Goes P s (ask m u forgive s)
  unfolding ask
  goes_ask u forgive s = goes_cond s (nat_lt s.units 1000000) _ _ (goes_answered _ s (h.asked u forgive s.rest)) (goes_err s (machine.Halted AccessLimit))

  goes_numbered : (r : Result (ℕ × T) (Over × T)) (s : State V T) → P s.rest (rest_of r) → Goes P s (counted_number m r s)
  unfolding counted_number
  goes_numbered (Ok x) s g = record { so = g }
  goes_numbered (Err e) s g = record { so = g }

  pub goes_command : (c : ProbeCall) (s : State V T) → Goes P s (command m c s)
  unfolding command
  goes_command c s = goes_cond s (nat_lt s.units 1000000) _ _ (goes_numbered _ s (h.commanded c s.rest)) (goes_err s (machine.Halted AccessLimit))

  pub goes_zero : (out : Out V T V) (s : State V T) → Goes P s out → Goes P s (zero_of m out)
  unfolding zero_of
  goes_zero out s g = goes_bind s out _ g (λ x. goes_ok x.1 _)

  pub goes_if_read : (read : Bool) (out : Out V T V) (s : State V T) → Goes P s out → Goes P s (if_read m read out)
  unfolding if_read
  goes_if_read true out s g = g
  goes_if_read false out s g = goes_zero out s g

  goes_or_halt : {A B : Type 0} (o : Result A HaltCause) (f : A → State V T → Out V T B) (s : State V T) → ((x : A) → Goes P s (f x s)) → Goes P s (or_halt o f s)
  unfolding or_halt
  goes_or_halt (Ok x) f s g = g x
  goes_or_halt (Err cause) f s g = goes_err s _

  pub goes_low_and_high : (low high : V) (s : State V T) → Goes P s (low_and_high m low high s)
  unfolding low_and_high
  goes_low_and_high low high s =
      let r : State V T = with_rest s (m.confirmed s.rest) in
      record { so = h.on _ _ _ (h.confirmed s.rest) (goes_bind r _ _ (goes_use low r) (λ x. goes_bind x.1 _ _ (goes_use high x.1) (λ y. goes_ok y.1 _))).so }

  pub goes_second_half : (read : Bool) (p : Port) (address n : ℕ) (low : V) (s : State V T) → Goes P s (second_half m read p address n low s)
  unfolding second_half
  goes_second_half read p address n low s = goes_bind s _ _ (goes_ask _ p.forgive s) (λ x. goes_cond x.1 read _ _ (goes_low_and_high low x.0 x.1) (goes_ok x.1 _))

  pub goes_two_units : (read : Bool) (p : Port) (address n : ℕ) (s : State V T) → Goes P s (two_units m read p address n s)
  unfolding two_units
  goes_two_units read p address n s = goes_bind s _ _ (goes_ask _ p.forgive s) (λ x. goes_second_half read p address n x.0 x.1)

  pub goes_memory_at : (size : ℕ) (read : Bool) (address n : ℕ) (p : Port) (s : State V T) → Goes P s (memory_at m size read address n p s)
  unfolding memory_at one_unit
  goes_memory_at size read address n p s = goes_or_halt (memory_port size address p.ap p.dp) _ s
      (λ x. goes_cond s (nat_eq size 8) _ _ (goes_two_units read p address n s) (goes_if_read read _ s (goes_ask _ p.forgive s)))

  pub goes_memory : (size : ℕ) (read : Bool) (address n : ℕ) (s : State V T) → Goes P s (memory m size read address n s)
  unfolding memory
  goes_memory size read address n s = goes_bind s _ _ (goes_port s) (λ p. goes_memory_at size read address n p.0 p.1)

  pub goes_ap_at : (read : Bool) (addr n : ℕ) (p : Port) (s : State V T) → Goes P s (ap_at m read addr n p s)
  unfolding ap_at
  goes_ap_at read addr n p s = goes_or_halt (ap_unit read addr n p.ap p.dp) _ s (λ u. goes_if_read read _ s (goes_ask u p.forgive s))

  pub goes_ap_register : (read : Bool) (addr n : ℕ) (s : State V T) → Goes P s (ap_register m read addr n s)
  unfolding ap_register
  goes_ap_register read addr n s = goes_bind s _ _ (goes_port s) (λ p. goes_ap_at read addr n p.0 p.1)

  pub goes_dp_at : (read : Bool) (addr n dp : ℕ) (s : State V T) → Goes P s (dp_at m read addr n dp s)
  unfolding dp_at
  goes_dp_at read addr n dp s = goes_or_halt (dp_unit read addr n dp) _ s (λ u. goes_if_read read _ s (goes_ask u false s))

  pub goes_dp_register : (read : Bool) (addr n : ℕ) (s : State V T) → Goes P s (dp_register m read addr n s)
  unfolding dp_register
  goes_dp_register read addr n s = goes_bind s _ _ (goes_global (codes "__dp") s) (λ d. goes_dp_at read addr n d.0 d.1)

  pub goes_abort_at : (n dp : ℕ) (s : State V T) → Goes P s (abort_at m n dp s)
  unfolding abort_at
  goes_abort_at n dp s = goes_cond s (nat_eq dp 0) _ _ (goes_command _ s) (goes_err s _)

  pub goes_abort : (n : ℕ) (s : State V T) → Goes P s (abort m n s)
  unfolding abort
  goes_abort n s = goes_bind s _ _ (goes_global (codes "__dp") s) (λ d. goes_abort_at n d.0 d.1)

  pub goes_delay : (n : ℕ) (s : State V T) → Goes P s (delay m n s)
  unfolding delay
  goes_delay n s = goes_cond s (nat_lt 60000000 n) _ _ (goes_err s _) (goes_command _ s)

  pub goes_clock : (n : ℕ) (s : State V T) → Goes P s (clock m n s)
  unfolding clock
  goes_clock n s = goes_cond s (nat_eq n 0 || nat_lt 0xFFFFFFFF n) _ _ (goes_err s _) (goes_command _ s)

  pub goes_pins : (output select wait : ℕ) (s : State V T) → Goes P s (pins m output select wait s)
  unfolding pins
  goes_pins output select wait s = goes_or_halt (pins_command output select wait) _ s (λ c. goes_command c s)

  pub goes_line_bits : (count bits : ℕ) (s : State V T) → Goes P s (line_bits m count bits s)
  unfolding line_bits
  goes_line_bits count bits s = goes_cond s (nat_eq count 0 || nat_lt 64 count) _ _ (goes_err s _) (goes_command _ s)

  pub goes_lined : (line : List ℕ) (n : ℕ) (s : State V T) → Goes P s (line_result m line n s)
  unfolding line_result
  goes_lined line n s = goes_cond s (nat_lt s.lines 100000) _ _ (record { so = h.written line s.rest }) (goes_err s _)

  pub goes_performed : (function : Function) (text n : List ℕ) (s : State V T) → Goes P s (function_result m function text n s)
  unfolding function_result
  goes_performed f.Read8 text n s = goes_memory _ _ _ _ s
  goes_performed f.Read16 text n s = goes_memory _ _ _ _ s
  goes_performed f.Read32 text n s = goes_memory _ _ _ _ s
  goes_performed f.Read64 text n s = goes_memory _ _ _ _ s
  goes_performed f.Write8 text n s = goes_memory _ _ _ _ s
  goes_performed f.Write16 text n s = goes_memory _ _ _ _ s
  goes_performed f.Write32 text n s = goes_memory _ _ _ _ s
  goes_performed f.Write64 text n s = goes_memory _ _ _ _ s
  goes_performed f.ReadAp text n s = goes_ap_register _ _ _ s
  goes_performed f.WriteAp text n s = goes_ap_register _ _ _ s
  goes_performed f.ReadDp text n s = goes_dp_register _ _ _ s
  goes_performed f.WriteDp text n s = goes_dp_register _ _ _ s
  goes_performed f.DapDelay text n s = goes_zero _ s (goes_delay _ s)
  goes_performed f.DapSwjClock text n s = goes_zero _ s (goes_clock _ s)
  goes_performed f.DapWriteAbort text n s = goes_zero _ s (goes_abort _ s)
  goes_performed f.DapSwjPins text n s = goes_pins _ _ _ s
  goes_performed f.DapSwjSequence text n s = goes_zero _ s (goes_line_bits _ _ s)
  goes_performed f.DapJtagSequence text n s = goes_err s _
  goes_performed f.Sequence text n s = goes_ok s _
  goes_performed f.Message text n s = goes_lined _ _ s
  goes_performed f.Query text n s = goes_lined _ _ s
  goes_performed f.QueryValue text n s = goes_lined _ _ s
  goes_performed f.LoadDebugInfo text n s = goes_lined _ _ s

  -- ---- expressions

  pub stored_rest : (name : List ℕ) (v : V) (s : State V T) → (set_visible name v s).rest ≡ s.rest
  stored_rest name v s = either (has_in s.locals name) _ _ refl refl
    where
      either : (c : Bool) (x y : State V T) → x.rest ≡ s.rest → y.rest ≡ s.rest → (cond c x y).rest ≡ s.rest
      either true x y e f = e
      either false x y e f = f

  pub goes_stored : (name : Name) (v : V) (s : State V T) → Goes P s (stored_value m name v s)
  unfolding stored_value
  goes_stored name v s = goes_guarded (is_visible name.text s) (λ r. Ok (v, set_visible name.text v r)) s (record { so = rw (stored_rest name.text v s) (h.same s.rest) })

  pub goes_assigned : (name : Name) (out : Out V T V) (s : State V T) → Goes P s out → Goes P s (assigned_value m name out)
  unfolding assigned_value
  goes_assigned name out s g = goes_bind s out _ g (λ x. goes_stored name x.0 x.1)

  pub goes_used_now : (out : Out V T V) (s : State V T) → Goes P s out → Goes P s (used_now m out)
  unfolding used_now
  goes_used_now out s g = goes_bind s out _ g (λ x. goes_use x.0 x.1)

  pub goes_of_unary : (op : UnaryOp) (out : Out V T V) (s : State V T) → Goes P s out → Goes P s (of_unary m op out)
  unfolding of_unary
  goes_of_unary op out s g = goes_bind s _ _ (goes_used_now out s g) (λ x. goes_ok x.1 _)

  pub goes_both : (v w : V) (s : State V T) → Goes P s (both m v w s)
  unfolding both
  goes_both v w s = goes_bind s _ _ (goes_use v s) (λ p. goes_bind p.1 _ _ (goes_use w p.1) (λ q. goes_ok q.1 _))

  pub goes_operands : (left : Out V T V) (right : State V T → Out V T V) (s : State V T) → Goes P s left → ((r : State V T) → Goes P r (right r)) → Goes P s (operands m left right)
  unfolding operands
  goes_operands left right s g k = goes_bind s left _ g (λ x. goes_bind x.1 _ _ (k x.1) (λ y. goes_both x.0 y.0 y.1))

  pub goes_result : (o : Option ℕ) (s : State V T) → Goes P s (result_of m o s)
  unfolding result_of
  goes_result None s = goes_err s _
  goes_result (Some n) s = goes_ok s _

  pub goes_strict : (op : BinaryOp) (left : Out V T V) (right : State V T → Out V T V) (s : State V T) → Goes P s left → ((r : State V T) → Goes P r (right r)) → Goes P s (strict_binary m op left right)
  unfolding strict_binary
  goes_strict op left right s g k = goes_bind s _ _ (goes_operands left right s g k) (λ x. goes_result _ x.1)

  pub goes_truth_of : (out : Out V T V) (s : State V T) → Goes P s out → Goes P s (truth_of m out)
  unfolding truth_of
  goes_truth_of out s g = goes_bind s _ _ (goes_used_now out s g) (λ x. goes_ok x.1 _)

  pub goes_conjunction : (left : Out V T V) (right : State V T → Out V T V) (s : State V T) → Goes P s left → ((r : State V T) → Goes P r (right r)) → Goes P s (conjunction m left right)
  unfolding conjunction
  goes_conjunction left right s g k = goes_bind s _ _ (goes_used_now left s g) (λ x. goes_cond x.1 (nat_eq x.0 0) _ _ (goes_ok x.1 _) (goes_truth_of (right x.1) x.1 (k x.1)))

  pub goes_disjunction : (left : Out V T V) (right : State V T → Out V T V) (s : State V T) → Goes P s left → ((r : State V T) → Goes P r (right r)) → Goes P s (disjunction m left right)
  unfolding disjunction
  goes_disjunction left right s g k = goes_bind s _ _ (goes_used_now left s g) (λ x. goes_cond x.1 (nat_eq x.0 0) _ _ (goes_truth_of (right x.1) x.1 (k x.1)) (goes_ok x.1 _))

  pub goes_of_binary : (op : BinaryOp) (left : Out V T V) (right : State V T → Out V T V) (s : State V T) → Goes P s left → ((r : State V T) → Goes P r (right r)) → Goes P s (of_binary m op left right)
  unfolding of_binary
  goes_of_binary b.And left right s g k = goes_conjunction left right s g k
  goes_of_binary b.Or left right s g k = goes_disjunction left right s g k
  goes_of_binary op left right s g k = goes_strict op left right s g k

  pub goes_choice : (test : Out V T V) (first second : State V T → Out V T V) (s : State V T) → Goes P s test → ((r : State V T) → Goes P r (first r)) → ((r : State V T) → Goes P r (second r)) → Goes P s (choice m test first second)
  unfolding choice
  goes_choice test first second s g k l = goes_bind s _ _ (goes_used_now test s g) (λ x. goes_cond x.1 (nat_eq x.0 0) _ _ (l x.1) (k x.1))

  pub goes_appended : (got : List V) (out : Out V T V) (s : State V T) → Goes P s out → Goes P s (appended_values m got out)
  unfolding appended_values
  goes_appended got out s g = goes_bind s out _ g (λ x. goes_ok x.1 _)

  pub goes_chained : (first : Out V T (List V)) (more : List V → State V T → Out V T (List V)) (s : State V T) → Goes P s first → ((g : List V) (r : State V T) → Goes P r (more g r)) → Goes P s (chained_values m first more)
  unfolding chained_values
  goes_chained first more s g k = goes_bind s first _ g (λ x. k x.0 x.1)

  pub goes_all_used : (vs : List V) (s : State V T) → Goes P s (all_used m vs s)
  unfolding all_used
  goes_all_used [] s = goes_ok s _
  goes_all_used (v ∷ vs) s = goes_bind s _ _ (goes_use v s) (λ x. goes_bind x.1 _ _ (goes_all_used vs x.1) (λ y. goes_ok y.1 _))

  pub goes_numbers_of : (out : Out V T (List V)) (s : State V T) → Goes P s out → Goes P s (numbers_of m out)
  unfolding numbers_of
  goes_numbers_of out s g = goes_bind s out _ g (λ x. goes_all_used x.0 x.1)

  -- ---- steps

  pub goes_counted : (s : State V T) → Goes P s (counted_step m s)
  unfolding counted_step
  goes_counted s = goes_cond s (nat_lt s.steps 100000000) _ _ (record { so = h.same s.rest }) (goes_err s _)

  pub goes_declared : (name : Name) (out : Out V T V) (s : State V T) → Goes P s out → Goes P s (declared_variable m name out)
  unfolding declared_variable
  goes_declared name out s g = goes_bind s out _ g (λ x. record { so = h.same x.1.rest })

  pub goes_dropped : (out : Out V T V) (s : State V T) → Goes P s out → Goes P s (dropped_value m out)
  unfolding dropped_value
  goes_dropped out s g = goes_bind s out _ g (λ x. goes_ok x.1 _)

  pub goes_after_counted : (rest : State V T → Out V T (Unit {0})) (s : State V T) → ((r : State V T) → Goes P r (rest r)) → Goes P s (after_counted m rest s)
  unfolding after_counted
  goes_after_counted rest s k = goes_bind s _ _ (goes_counted s) (λ x. k x.1)

  pub goes_in_order : (first : Out V T (Unit {0})) (rest : State V T → Out V T (Unit {0})) (s : State V T) → Goes P s first → ((r : State V T) → Goes P r (rest r)) → Goes P s (in_order m first rest)
  unfolding in_order
  goes_in_order first rest s g k = goes_bind s first _ g (λ x. k x.1)

  pub goes_inside : (body : State V T → Out V T (Unit {0})) (s : State V T) → ((r : State V T) → Goes P r (body r)) → Goes P s (inside m body s)
  unfolding inside
  goes_inside body s k = goes_bind s _ _ (k s) (λ x. record { so = h.same x.1.rest })

  pub goes_turn : (test : State V T → Out V T V) (body : State V T → Out V T (Unit {0})) (s : State V T) → ((r : State V T) → Goes P r (test r)) → ((r : State V T) → Goes P r (body r)) → Goes P s (turn m test body s)
  unfolding turn
  goes_turn test body s k l = goes_bind s _ _ (goes_counted s) (λ c. goes_bind c.1 _ _ (goes_used_now (test c.1) c.1 (k c.1))
      (λ x. goes_cond x.1 (nat_eq x.0 0) _ _ (goes_ok x.1 _) (goes_bind x.1 _ _ (l x.1) (λ y. goes_ok y.1 _))))

  pub goes_turns : (test : State V T → Out V T V) (body : State V T → Out V T (Unit {0})) (n : ℕ) (s : State V T) → ((r : State V T) → Goes P r (test r)) → ((r : State V T) → Goes P r (body r)) → Goes P s (turns m test body n s)
  unfolding turns
  goes_turns test body zero s k l = goes_ok s _
  goes_turns test body (suc n) s k l = goes_bind s _ _ (goes_turn test body s k l) (λ x. goes_cond x.1 x.0 _ _ (goes_turns test body n x.1 k l) (goes_ok x.1 _))

  pub goes_polled_at : (form : ℕ × ℕ) (n dp : ℕ) (s : State V T) → Goes P s (poll_result_at m form n dp s)
  unfolding poll_result_at
  goes_polled_at form n dp s = goes_cond s (nat_eq dp 0) _ _ (goes_dropped _ s (goes_ask _ false s)) (goes_err s _)

  pub goes_polled : (form : ℕ × ℕ) (n : ℕ) (s : State V T) → Goes P s (poll_result m form n s)
  unfolding poll_result
  goes_polled form n s = goes_bind s _ _ (goes_counted s) (λ k. goes_bind k.1 _ _ (goes_global (codes "__dp") k.1) (λ d. goes_polled_at form n d.0 d.1))

  -- ---- where what a call of a sequence does goes on
  module _ (seq : List ℕ → State V T → Out V T (Unit {0})) (q : (name : List ℕ) (r : State V T) → Goes P r (seq name r)) where
    pub goes_called : (function : Option Function) (text n : List ℕ) (s : State V T) → Goes P s (call_result m seq function text n s)
    unfolding call_result
    goes_called None text n s = goes_missing _ s
    goes_called (Some f.Sequence) text n s = goes_bind s _ _ (q text s) (λ x. goes_ok x.1 _)
    goes_called (Some function) text n s = goes_performed function text n s

    pub goes_call_of : (name : Name) (args : ArgTrees) (out : Out V T (List V)) (s : State V T) → Goes P s out → Goes P s (call_of m seq name args out)
    unfolding call_of
    goes_call_of name args out s g = goes_bind s _ _ (goes_numbers_of out s g) (λ x. goes_guarded _ _ x.1 (goes_called (function_named name.text) _ x.0 x.1))

    mutual
      unfolding value named_value

      pub goes_value : (e : Tree) (s : State V T) → Goes P s (value m seq e s)
      goes_value (t.Number n) s = goes_ok s _
      goes_value (t.Named name) s = goes_given _ _ s
      goes_value (t.Group a) s = goes_value a s
      goes_value (t.Unary op a) s = goes_of_unary op _ s (goes_value a s)
      goes_value (t.Binary op a d) s = goes_of_binary op _ _ s (goes_value a s) (λ r. goes_value d r)
      goes_value (t.Cond e a d) s = goes_choice _ _ _ s (goes_value e s) (λ r. goes_value a r) (λ r. goes_value d r)
      goes_value (t.Assign name a) s = goes_assigned name _ s (goes_value a s)
      goes_value (t.Call name args) s = goes_call_of name args _ s (goes_arguments args [] s)

      pub goes_argument : (a : ArgTree) (got : List V) (s : State V T) → Goes P s (argument m seq a got s)
      goes_argument (t.ExprArg at e) got s = goes_appended got _ s (goes_value e s)
      goes_argument (t.TextArg a) got s = goes_ok s _

      pub goes_arguments : (args : ArgTrees) (got : List V) (s : State V T) → Goes P s (arguments m seq args got s)
      goes_arguments t.NoArgs got s = goes_ok s _
      goes_arguments (t.MoreArgs a more) got s = goes_chained _ _ s (goes_argument a got s) (λ g r. goes_arguments more g r)

    module _ (turn_us : ℕ) where
      pub goes_statement : (st : StmtTree) (s : State V T) → Goes P s (statement m turn_us seq st s)
      unfolding statement
      goes_statement (t.Empty at) s = goes_counted s
      goes_statement (t.Declare name e) s = goes_after_counted _ s (λ r. goes_declared name _ r (goes_value e r))
      goes_statement (t.Plain at e) s = goes_after_counted _ s (λ r. goes_dropped _ r (goes_value e r))

      pub goes_block : (code : List StmtTree) (s : State V T) → Goes P s (block m turn_us seq code s)
      unfolding block
      goes_block [] s = goes_ok s _
      goes_block (st ∷ code) s = goes_in_order _ _ s (goes_statement st s) (λ r. goes_block code r)

      pub goes_condition : (o : Option Tree) (s : State V T) → Goes P s (condition m turn_us seq o s)
      unfolding condition
      goes_condition None s = goes_ok s _
      goes_condition (Some e) s = goes_bind s _ _ (goes_used_now _ s (goes_value e s)) (λ x. goes_ok x.1 _)

      pub goes_looped : (o : Option (ℕ × ℕ)) (e : Tree) (n : ℕ) (body : State V T → Out V T (Unit {0})) (s : State V T) → ((r : State V T) → Goes P r (body r)) → Goes P s (loop_result m turn_us seq o e n body s)
      unfolding loop_result
      goes_looped (Some form) e n body s k = goes_polled form n s
      goes_looped None e n body s k = goes_turns _ _ n s (λ r. goes_value e r) (λ r. goes_inside body r k)

      pub goes_repeated : (o : Option Tree) (timeout : Option ℕ) (steps : CodeSteps) (body : State V T → Out V T (Unit {0})) (s : State V T) → ((r : State V T) → Goes P r (body r)) → Goes P s (repeat_result m turn_us seq o timeout steps body s)
      unfolding repeat_result
      goes_repeated None timeout steps body s k = goes_inside body s k
      goes_repeated (Some e) timeout steps body s k = goes_bind s _ _ (goes_given 0 (timeout_of timeout) s) (λ w. goes_looped (poll_of e steps) e _ body w.1 k)

      pub goes_controlled : (o p : Option Tree) (timeout : Option ℕ) (steps : CodeSteps) (body : State V T → Out V T (Unit {0})) (s : State V T) → ((r : State V T) → Goes P r (body r)) → Goes P s (control_result m turn_us seq o p timeout steps body s)
      unfolding control_result
      goes_controlled o p timeout steps body s k = goes_bind s _ _ (goes_condition o s) (λ x. goes_cond x.1 x.0 _ _ (goes_repeated p timeout steps body x.1 k) (goes_ok x.1 _))

      mutual
        unfolding step

        pub goes_step : (st : CodeStep) (s : State V T) → Goes P s (step m turn_us seq st s)
        goes_step (c.Block code) s = goes_block code s
        goes_step (c.Control cond repeat timeout steps) s = goes_controlled cond repeat timeout steps _ s (λ r. goes_done steps r)

        pub goes_done : (steps : CodeSteps) (s : State V T) → Goes P s (steps_result m turn_us seq steps s)
        goes_done c.NoSteps s = goes_ok s _
        goes_done (c.MoreSteps first more) s = goes_in_order _ _ s (goes_step first s) (λ r. goes_done more r)

  pub goes_entered : (body : State V T → Out V T (Unit {0})) (s : State V T) → ((r : State V T) → Goes P r (body r)) → Goes P s (sequence_result m body s)
  unfolding sequence_result
  goes_entered body s k = record { so = (goes_bind (with_locals s []) _ (λ x. Ok (tt, with_variables x.1 (given_back m s.globals x.1.globals) s.locals)) (k (with_locals s [])) (λ x. record { so = h.same x.1.rest })).so }

  module _ (turn_us : ℕ) (set : SetTrees) where
    pub goes_steps_at : (name : List ℕ) (s : State V T) → Goes P s (steps_at m turn_us set name s)
    unfolding steps_at
    goes_steps_at name s = goes_given c.NoSteps (steps_named name set.sequences) s

    pub goes_sequence : (d : ℕ) (name : List ℕ) (s : State V T) → Goes P s (sequence_at m turn_us set d name s)
    unfolding sequence_at
    goes_sequence zero name s = goes_missing _ s
    goes_sequence (suc d) name s = goes_entered _ s (λ r. goes_bind r _ _ (goes_steps_at name r) (λ x. goes_done (λ n q. sequence_at m turn_us set d n q) (λ n q. goes_sequence d n q) turn_us x.0 x.1))

    pub goes_debugged : (code : List StmtTree) (s : State V T) → Goes P s (debug_result m turn_us set code s)
    unfolding debug_result
    goes_debugged [] s = goes_ok s _
    goes_debugged (t.Empty at ∷ code) s = goes_debugged code s
    goes_debugged (t.Declare name e ∷ code) s = goes_bind s _ _ (goes_value (λ n q. sequence_at m turn_us set 0 n q) (λ n q. goes_sequence 0 n q) e s)
        (λ x. goes_bind x.1 _ _ (goes_stored name x.0 x.1) (λ y. goes_debugged code y.1))
    goes_debugged (t.Plain at e ∷ code) s = goes_debugged code s

    pub goes_run_of : (start : List ℕ) (s : State V T) → Goes P s (run_of m turn_us set start s)
    unfolding run_of
    goes_run_of start s = goes_bind s _ _ (goes_debugged set.debugvars s) (λ x. goes_bind x.1 _ _ (goes_steps_at start x.1) (λ y. goes_done (λ n q. sequence_at m turn_us set 31 n q) (λ n q. goes_sequence 31 n q) turn_us y.0 y.1))

pub ruleset going = (goes_bind, goes_cond, goes_ok, goes_err, goes_use, goes_missing, goes_given, goes_global, goes_ask, goes_command, goes_zero, goes_if_read, goes_counted, goes_dropped, goes_polled_at)
