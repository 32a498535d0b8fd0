-- A watched run of a program that lacks nothing is never lost.
use Rattle.std.proofs.Common.{◌≡◌, ℕ, Bool, true, false, cond, ◌||◌, List, [], ◌∷◌, ◌++◌, length, take, codes, nat_lt, nat_eq, bytes_eq, Option, None, Some, Result, Ok, Err, refl, ap, ◌∙◌}
use Rattle.std.specs.Bool.{⊤}
use Rattle.std.specs.Option.{option_or}
use Rattle.dap_base.specs.Outcome.{◌>>=◌}
use Rattle.expr_grammar.specs.declared.code.Name.{Name}
use Rattle.expr_grammar.specs.declared.code.UnaryOp.{UnaryOp}
use Rattle.expr_grammar.specs.declared.code.BinaryOp.{BinaryOp}
use Rattle.expr_grammar.specs.declared.code.BinaryOp.TheVariants as b
use Rattle.expr_grammar.specs.Names.{has_name}
use Rattle.expr_grammar.specs.Tree as t
use Rattle.expr_grammar.specs.Tree.{Tree, ArgTree, ArgTrees, StmtTree}
use Rattle.function_table.specs.declared.function.Function.{Function}
use Rattle.function_table.specs.declared.function.Function.TheVariants as f
use Rattle.function_table.specs.Lookup.{function_named}
use Rattle.target_calls.specs.Asks.{unit_ask, probe_ask}
use Rattle.target_calls.specs.World.{World, is_over, done_now, next_world}
use Rattle.target_calls.specs.declared.calls.Ask.{Ask}
use Rattle.target_machine.specs.Plain.{CallEnd, Answered, Skipped, Faulted, Small}
use Rattle.target_machine.specs.declared.unit.HaltCause.{HaltCause}
use Rattle.target_machine.specs.declared.unit.ProbeCall.{ProbeCall}
use Rattle.target_machine.specs.declared.unit.Unit.{Unit as AccessUnit}
use Rattle.sequence_rules.specs.declared.bindings.Binding.{Binding}
use Rattle.sequence_rules.specs.Calls.{Port, or_halt, use_now, value_or_missing, guarded_rest, global, port_with, port_from, port, counted_answer, ask, counted_number, command, zero_of, if_read, low_and_high, second_half, two_units, one_unit, memory_port, memory_at, memory, ap_unit, ap_at, ap_register, dp_unit, dp_at, dp_register, pins_command, abort_at, abort, delay, clock, pins, line_bits, line_result, function_result}
use Rattle.sequence_rules.specs.Complete.{names_in, Sees, MayCall, ExprComplete, ArgComplete, ArgsComplete}
use Rattle.sequence_rules.specs.Direct.{Now, with_call, answers, made_call, direct}
use Rattle.sequence_rules.specs.Machine as machine
use Rattle.sequence_rules.specs.Machine.{Over, State, Out, with_rest, unit_more, line_more, step_more, with_locals, with_variables}
use Rattle.sequence_rules.specs.Values.{is_call, text_of, named_value, stored_value, assigned_value, used_now, of_unary, both, operands, result_of, strict_binary, truth_of, conjunction, disjunction, of_binary, choice, appended_values, chained_values, all_used, numbers_of, call_result, call_of, value, argument, arguments}
use Rattle.sequence_rules.specs.Variables.{bound_variable, has_in, value_named, set_in, newest_in, set_newest, with_new, with_all_new, is_visible, visible, set_visible}
use Rattle.sequence_rules.proofs.NameLemmas.{has_names, set_names, newest_names}

-- a value is there
abbrev pub IsThere : {V : Type 0} → Option V → Type 0
IsThere None = ⊥
IsThere (Some v) = ⊤

value_there : {V : Type 0} (bs : List (Binding V)) (name : List ℕ) → has_in bs name ≡ true → IsThere (value_named bs name)
value_there [] name h = absurd cc
value_there (x ∷ bs) name h = either (bytes_eq name x.name) (value_there bs name) h
  where
    either : (p : Bool) → (has_in bs name ≡ true → IsThere (value_named bs name)) → cond p true (has_in bs name) ≡ true → IsThere (cond p (Some x.value) (value_named bs name))
    either true k e = tt
    either false k e = k e

or_there : {V : Type 0} (o q : Option V) → IsThere o → IsThere (option_or o q)
or_there None q h = absurd h
or_there (Some v) q h = tt

or_else : {V : Type 0} (o q : Option V) → IsThere q → IsThere (option_or o q)
or_else None q h = h
or_else (Some v) q h = tt

newest_there : {V : Type 0} (bs : List (Binding V)) (name : List ℕ) → has_in bs name ≡ true → IsThere (newest_in bs name)
newest_there [] name h = absurd cc
newest_there (x ∷ bs) name h = either (bytes_eq name x.name) (newest_there bs name) h
  where
    either : (p : Bool) → (has_in bs name ≡ true → IsThere (newest_in bs name)) → cond p true (has_in bs name) ≡ true → IsThere (option_or (newest_in bs name) (cond p (Some x.value) None))
    either true k e = or_else (newest_in bs name) (Some x.value) tt
    either false k e = or_there (newest_in bs name) None (k e)

-- ---- outcomes

abbrev pub S : Type 0
S = State ℕ Now

abbrev pub O : Type 0 → Type 0
O A = Out ℕ Now A

abbrev pub NotLost : Over → Type 0
NotLost (machine.Halted cause) = ⊤
NotLost (machine.Faulted call) = ⊤
NotLost machine.Unanswered = ⊤
NotLost machine.Lost = ⊥

abbrev pub Fine : {A : Type 0} → (S → Type 0) → O A → Type 0
Fine P (Ok x) = P x.1
Fine P (Err e) = NotLost e.0

pub fine_bind : {A B : Type 0} (P Q : S → Type 0) (out : O A) (g : A × S → O B) → Fine P out → ((x : A × S) → P x.1 → Fine Q (g x)) → Fine Q (out >>= g)
fine_bind P Q (Ok x) g h k = k x h
fine_bind P Q (Err e) g h k = h

pub fine_cond : {A : Type 0} (P : S → Type 0) (p : Bool) (x y : O A) → Fine P x → Fine P y → Fine P (cond p x y)
fine_cond P true x y h k = h
fine_cond P false x y h k = k

-- the state has these names
pub record Has (shared own : List (List ℕ)) (s : S) : Type 0 where
  pub shared_are : names_in s.globals ≡ shared
  pub own_are : names_in s.locals ≡ own

module _ (shared own : List (List ℕ)) where
  abbrev F : {A : Type 0} → O A → Type 0
  F out = Fine (Has shared own) out

  abbrev H : S → Type 0
  H s = Has shared own s

  -- ---- calls

  pub use_fine : (v : ℕ) (s : S) → H s → F (use_now (direct true) v s)
  unfolding use_now direct
  use_fine v s h = record { shared_are = h.shared_are; own_are = h.own_are }

  pub given_fine : {A : Type 0} (x : A) (o : Option A) (s : S) → H s → IsThere o → F (value_or_missing (direct true) x o s)
  unfolding value_or_missing
  given_fine x None s h k = absurd k
  given_fine x (Some y) s h k = h

  pub global_fine : (name : List ℕ) (s : S) → H s → has_name shared name ≡ true → F (global (direct true) name s)
  unfolding global
  global_fine name s h k = fine_bind (Has shared own) (Has shared own) (value_or_missing (direct true) _ (value_named s.globals name) s) _
      (given_fine _ (value_named s.globals name) s h (value_there s.globals name (has_names s.globals name ∙ ap (λ ns. has_name ns name) h.shared_are ∙ k)))
      (λ x j. use_fine x.0 x.1 j)

  not_lost : (ask : Ask) (t : Now) (o : Bool) (e : CallEnd) (n : World) (s : S) → H s
      → F (counted_answer (direct true) (cond o (Err (machine.Unanswered, with_call ask t.world t)) (answers ask e (with_call ask n t))) s)
  unfolding counted_answer
  not_lost ask t true e n s h = tt
  not_lost ask t false (Answered i) n s h = record { shared_are = h.shared_are; own_are = h.own_are }
  not_lost ask t false Skipped n s h = record { shared_are = h.shared_are; own_are = h.own_are }
  not_lost ask t false Faulted n s h = tt
  not_lost ask t false Small n s h = tt

  number_fine : (ask : Ask) (t : Now) (o : Bool) (e : CallEnd) (n : World) (s : S) → H s
      → F (counted_number (direct true) (cond o (Err (machine.Unanswered, with_call ask t.world t)) (answers ask e (with_call ask n t))) s)
  unfolding counted_number
  number_fine ask t true e n s h = tt
  number_fine ask t false (Answered i) n s h = record { shared_are = h.shared_are; own_are = h.own_are }
  number_fine ask t false Skipped n s h = record { shared_are = h.shared_are; own_are = h.own_are }
  number_fine ask t false Faulted n s h = tt
  number_fine ask t false Small n s h = tt

  pub ask_fine : (u : AccessUnit) (forgive : Bool) (s : S) → H s → F (ask (direct true) u forgive s)
  unfolding ask direct made_call
  ask_fine u forgive s h = fine_cond (Has shared own) (nat_lt s.units 1000000) _ _
      (not_lost (unit_ask u forgive) s.rest (is_over s.rest.world.answered) (done_now s.rest.world (unit_ask u forgive)).end (next_world s.rest.world (unit_ask u forgive)) s h) tt

  command_fine : (x : ProbeCall) (s : S) → H s → F (command (direct true) x s)
  unfolding command direct made_call
  command_fine x s h = fine_cond (Has shared own) (nat_lt s.units 1000000) _ _
      (number_fine (probe_ask x) s.rest (is_over s.rest.world.answered) (done_now s.rest.world (probe_ask x)).end (next_world s.rest.world (probe_ask x)) s h) tt

  zero_fine : (out : O ℕ) → F out → F (zero_of (direct true) out)
  unfolding zero_of
  zero_fine out h = fine_bind (Has shared own) (Has shared own) out _ h (λ x j. j)

  read_fine : (read : Bool) (out : O ℕ) → F out → F (if_read (direct true) read out)
  unfolding if_read
  read_fine true out h = h
  read_fine false out h = zero_fine out h

  halves_fine : (low high : ℕ) (s : S) → H s → F (low_and_high (direct true) low high s)
  unfolding low_and_high
  halves_fine low high s h = fine_bind (Has shared own) (Has shared own) (use_now (direct true) low _) _ (use_fine low _ (record { shared_are = h.shared_are; own_are = h.own_are }))
      (λ x j. fine_bind (Has shared own) (Has shared own) (use_now (direct true) high x.1) _ (use_fine high x.1 j) (λ y k. k))

  second_fine : (read : Bool) (p : Port) (address n : ℕ) (low : ℕ) (s : S) → H s → F (second_half (direct true) read p address n low s)
  unfolding second_half
  second_fine read p address n low s h = fine_bind (Has shared own) (Has shared own) (ask (direct true) _ p.forgive s) _ (ask_fine _ p.forgive s h)
      (λ x j. fine_cond (Has shared own) read _ _ (halves_fine low x.0 x.1 j) j)

  two_fine : (read : Bool) (p : Port) (address n : ℕ) (s : S) → H s → F (two_units (direct true) read p address n s)
  unfolding two_units
  two_fine read p address n s h = fine_bind (Has shared own) (Has shared own) (ask (direct true) _ p.forgive s) _ (ask_fine _ p.forgive s h) (λ x j. second_fine read p address n x.0 x.1 j)

  or_halt_fine : {A : Type 0} (o : Result A HaltCause) (f : A → S → O ℕ) (s : S) → ((x : A) → F (f x s)) → F (or_halt o f s)
  unfolding or_halt
  or_halt_fine (Ok x) f s k = k x
  or_halt_fine (Err cause) f s k = tt

  memory_at_fine : (size : ℕ) (read : Bool) (address n : ℕ) (p : Port) (s : S) → H s → F (memory_at (direct true) size read address n p s)
  unfolding memory_at one_unit
  memory_at_fine size read address n p s h = or_halt_fine (memory_port size address p.ap p.dp) _ s
      (λ x. fine_cond (Has shared own) (nat_eq size 8) _ _ (two_fine read p address n s h) (read_fine read _ (ask_fine _ p.forgive s h)))

  ap_at_fine : (read : Bool) (addr n : ℕ) (p : Port) (s : S) → H s → F (ap_at (direct true) read addr n p s)
  unfolding ap_at
  ap_at_fine read addr n p s h = or_halt_fine (ap_unit read addr n p.ap p.dp) _ s (λ u. read_fine read _ (ask_fine u p.forgive s h))

  dp_at_fine : (read : Bool) (addr n dp : ℕ) (s : S) → H s → F (dp_at (direct true) read addr n dp s)
  unfolding dp_at
  dp_at_fine read addr n dp s h = or_halt_fine (dp_unit read addr n dp) _ s (λ u. read_fine read _ (ask_fine u false s h))

  lined_fine : (line : List ℕ) (n : ℕ) (s : S) → H s → F (line_result (direct true) line n s)
  unfolding line_result
  lined_fine line n s h = fine_cond (Has shared own) (nat_lt s.lines 100000) _ _ (record { shared_are = h.shared_are; own_are = h.own_are }) tt

  delay_fine : (n : ℕ) (s : S) → H s → F (delay (direct true) n s)
  unfolding delay
  delay_fine n s h = fine_cond (Has shared own) (nat_lt 60000000 n) _ _ tt (command_fine _ s h)

  clock_fine : (n : ℕ) (s : S) → H s → F (clock (direct true) n s)
  unfolding clock
  clock_fine n s h = fine_cond (Has shared own) (nat_eq n 0 || nat_lt 0xFFFFFFFF n) _ _ tt (command_fine _ s h)

  pins_fine : (output select wait : ℕ) (s : S) → H s → F (pins (direct true) output select wait s)
  unfolding pins
  pins_fine output select wait s h = or_halt_fine (pins_command output select wait) _ s (λ c. command_fine c s h)

  bits_fine : (count bits : ℕ) (s : S) → H s → F (line_bits (direct true) count bits s)
  unfolding line_bits
  bits_fine count bits s h = fine_cond (Has shared own) (nat_eq count 0 || nat_lt 64 count) _ _ tt (command_fine _ s h)

  module _ (dp : has_name shared (codes "__dp") ≡ true) (aps : has_name shared (codes "__ap") ≡ true) (control : has_name shared (codes "__errorcontrol") ≡ true) where
    port_fine : (s : S) → H s → F (port (direct true) s)
    unfolding port port_from port_with
    port_fine s h = fine_bind (Has shared own) (Has shared own) (global (direct true) (codes "__ap") s) _ (global_fine (codes "__ap") s h aps)
        (λ x j. fine_bind (Has shared own) (Has shared own) (global (direct true) (codes "__errorcontrol") x.1) _ (global_fine (codes "__errorcontrol") x.1 j control)
        (λ y k. fine_bind (Has shared own) (Has shared own) (global (direct true) (codes "__dp") y.1) _ (global_fine (codes "__dp") y.1 k dp) (λ z l. l)))

    memory_fine : (size : ℕ) (read : Bool) (address n : ℕ) (s : S) → H s → F (memory (direct true) size read address n s)
    unfolding memory
    memory_fine size read address n s h = fine_bind (Has shared own) (Has shared own) (port (direct true) s) _ (port_fine s h) (λ p j. memory_at_fine size read address n p.0 p.1 j)

    ap_fine : (read : Bool) (addr n : ℕ) (s : S) → H s → F (ap_register (direct true) read addr n s)
    unfolding ap_register
    ap_fine read addr n s h = fine_bind (Has shared own) (Has shared own) (port (direct true) s) _ (port_fine s h) (λ p j. ap_at_fine read addr n p.0 p.1 j)

    dp_fine : (read : Bool) (addr n : ℕ) (s : S) → H s → F (dp_register (direct true) read addr n s)
    unfolding dp_register
    dp_fine read addr n s h = fine_bind (Has shared own) (Has shared own) (global (direct true) (codes "__dp") s) _ (global_fine (codes "__dp") s h dp) (λ p j. dp_at_fine read addr n p.0 p.1 j)

    abort_fine : (n : ℕ) (s : S) → H s → F (abort (direct true) n s)
    unfolding abort abort_at
    abort_fine n s h = fine_bind (Has shared own) (Has shared own) (global (direct true) (codes "__dp") s) _ (global_fine (codes "__dp") s h dp)
        (λ p j. fine_cond (Has shared own) (nat_eq p.0 0) _ _ (command_fine _ p.1 j) tt)

    performed_fine : (function : Function) (text n : List ℕ) (s : S) → H s → F (function_result (direct true) function text n s)
    unfolding function_result
    performed_fine f.Read8 text n s h = memory_fine _ _ _ _ s h
    performed_fine f.Read16 text n s h = memory_fine _ _ _ _ s h
    performed_fine f.Read32 text n s h = memory_fine _ _ _ _ s h
    performed_fine f.Read64 text n s h = memory_fine _ _ _ _ s h
    performed_fine f.Write8 text n s h = memory_fine _ _ _ _ s h
    performed_fine f.Write16 text n s h = memory_fine _ _ _ _ s h
    performed_fine f.Write32 text n s h = memory_fine _ _ _ _ s h
    performed_fine f.Write64 text n s h = memory_fine _ _ _ _ s h
    performed_fine f.ReadAp text n s h = ap_fine _ _ _ s h
    performed_fine f.WriteAp text n s h = ap_fine _ _ _ s h
    performed_fine f.ReadDp text n s h = dp_fine _ _ _ s h
    performed_fine f.WriteDp text n s h = dp_fine _ _ _ s h
    performed_fine f.DapDelay text n s h = zero_fine _ (delay_fine _ s h)
    performed_fine f.DapSwjClock text n s h = zero_fine _ (clock_fine _ s h)
    performed_fine f.DapWriteAbort text n s h = zero_fine _ (abort_fine _ s h)
    performed_fine f.DapSwjPins text n s h = pins_fine _ _ _ s h
    performed_fine f.DapSwjSequence text n s h = zero_fine _ (bits_fine _ _ s h)
    performed_fine f.DapJtagSequence text n s h = tt
    performed_fine f.Sequence text n s h = h
    performed_fine f.Message text n s h = lined_fine _ _ s h
    performed_fine f.Query text n s h = lined_fine _ _ s h
    performed_fine f.QueryValue text n s h = lined_fine _ _ s h
    performed_fine f.LoadDebugInfo text n s h = lined_fine _ _ s h

  -- ---- expressions

  pub used_fine : (out : O ℕ) → F out → F (used_now (direct true) out)
  unfolding used_now
  used_fine out h = fine_bind (Has shared own) (Has shared own) out _ h (λ x j. use_fine x.0 x.1 j)

  both_fine : (v w : ℕ) (s : S) → H s → F (both (direct true) v w s)
  unfolding both
  both_fine v w s h = fine_bind (Has shared own) (Has shared own) (use_now (direct true) v s) _ (use_fine v s h)
      (λ p j. fine_bind (Has shared own) (Has shared own) (use_now (direct true) w p.1) _ (use_fine w p.1 j) (λ q k. k))

  result_fine : (o : Option ℕ) (s : S) → H s → F (result_of (direct true) o s)
  unfolding result_of
  result_fine None s h = tt
  result_fine (Some n) s h = h

  truth_fine : (out : O ℕ) → F out → F (truth_of (direct true) out)
  unfolding truth_of
  truth_fine out h = fine_bind (Has shared own) (Has shared own) (used_now (direct true) out) _ (used_fine out h) (λ x j. j)

  strict_fine : (op : BinaryOp) (left : O ℕ) (right : S → O ℕ) → F left → ((r : S) → H r → F (right r)) → F (strict_binary (direct true) op left right)
  unfolding strict_binary operands
  strict_fine op left right h k = fine_bind (Has shared own) (Has shared own) (operands (direct true) left right) _
      (fine_bind (Has shared own) (Has shared own) left _ h (λ x j. fine_bind (Has shared own) (Has shared own) (right x.1) _ (k x.1 j) (λ y l. both_fine x.0 y.0 y.1 l)))
      (λ x j. result_fine _ x.1 j)

  binary_fine : (op : BinaryOp) (left : O ℕ) (right : S → O ℕ) → F left → ((r : S) → H r → F (right r)) → F (of_binary (direct true) op left right)
  unfolding of_binary conjunction disjunction
  binary_fine b.And left right h k = fine_bind (Has shared own) (Has shared own) (used_now (direct true) left) _ (used_fine left h) (λ x j. fine_cond (Has shared own) (nat_eq x.0 0) _ _ j (truth_fine (right x.1) (k x.1 j)))
  binary_fine b.Or left right h k = fine_bind (Has shared own) (Has shared own) (used_now (direct true) left) _ (used_fine left h) (λ x j. fine_cond (Has shared own) (nat_eq x.0 0) _ _ (truth_fine (right x.1) (k x.1 j)) j)
  binary_fine op left right h k = strict_fine op left right h k

  choice_fine : (test : O ℕ) (first second : S → O ℕ) → F test → ((r : S) → H r → F (first r)) → ((r : S) → H r → F (second r)) → F (choice (direct true) test first second)
  unfolding choice
  choice_fine test first second h k l = fine_bind (Has shared own) (Has shared own) (used_now (direct true) test) _ (used_fine test h) (λ x j. fine_cond (Has shared own) (nat_eq x.0 0) _ _ (l x.1 j) (k x.1 j))

  all_used_fine : (vs : List ℕ) (s : S) → H s → F (all_used (direct true) vs s)
  unfolding all_used
  all_used_fine [] s h = h
  all_used_fine (v ∷ vs) s h = fine_bind (Has shared own) (Has shared own) (use_now (direct true) v s) _ (use_fine v s h)
      (λ x j. fine_bind (Has shared own) (Has shared own) (all_used (direct true) vs x.1) _ (all_used_fine vs x.1 j) (λ y k. k))

  sees : (name : List ℕ) (s : S) → H s → Sees shared (λ n. ⊤) own name → is_visible name s ≡ true
  sees name s h k = rw (has_names s.locals name, has_names s.globals name, h.shared_are, h.own_are) k

  there_by : (l r : Bool) (o q : Option ℕ) → (l ≡ true → IsThere o) → (r ≡ true → IsThere q) → (l || r) ≡ true → IsThere (option_or o q)
  there_by true r o q h k e = or_there o q (h refl)
  there_by false true o q h k e = or_else o q (k refl)
  there_by false false o q h k e = absurd cc

  named_fine : (name : Name) (s : S) → H s → Sees shared (λ n. ⊤) own name.text → F (named_value (direct true) name s)
  unfolding named_value
  named_fine name s h k = given_fine _ (visible name.text s) s h
      (there_by (has_in s.locals name.text) (has_in s.globals name.text) _ _ (newest_there s.locals name.text) (value_there s.globals name.text) (sees name.text s h k))

  set_has : (name : List ℕ) (v : ℕ) (s : S) → H s → H (set_visible name v s)
  set_has name v s h = either (has_in s.locals name)
    where
      either : (p : Bool) → H (cond p (with_locals s (set_newest s.locals name v)) (with_variables s (set_in s.globals name v) s.locals))
      either true = record { shared_are = h.shared_are; own_are = newest_names s.locals name v ∙ h.own_are }
      either false = record { shared_are = set_names s.globals name v ∙ h.shared_are; own_are = h.own_are }

  guarded_fine : {A : Type 0} (ok : Bool) (rest : S → O A) (s : S) → ok ≡ true → F (rest s) → F (guarded_rest (direct true) ok rest s)
  unfolding guarded_rest direct
  guarded_fine true rest s e h = h
  guarded_fine false rest s e h = absurd cc

  pub stored_fine : (name : Name) (v : ℕ) (s : S) → H s → Sees shared (λ n. ⊤) own name.text → F (stored_value (direct true) name v s)
  unfolding stored_value
  stored_fine name v s h k = guarded_fine (is_visible name.text s) _ s (sees name.text s h k) (set_has name.text v s h)

  unary_fine : (op : UnaryOp) (out : O ℕ) → F out → F (of_unary (direct true) op out)
  unfolding of_unary
  unary_fine op out h = fine_bind (Has shared own) (Has shared own) (used_now (direct true) out) _ (used_fine out h) (λ x j. j)

  module _ (dp : has_name shared (codes "__dp") ≡ true) (aps : has_name shared (codes "__ap") ≡ true) (control : has_name shared (codes "__errorcontrol") ≡ true)
      (Calls : List ℕ → Type 0) (seq : List ℕ → S → O (Unit {0})) (seqs : (name : List ℕ) (s : S) → Calls name → H s → F (seq name s)) where
    called_fine : (function : Option Function) (args : ArgTrees) (text n : List ℕ) (s : S) → is_call function args ≡ true → MayCall shared Calls function text → H s → F (call_result (direct true) seq function text n s)
    unfolding call_result
    called_fine None args text n s e k h = absurd cc
    called_fine (Some f.Sequence) args text n s e k h = fine_bind (Has shared own) (Has shared own) (seq text s) _ (seqs text s k h) (λ x j. j)
    called_fine (Some function) args text n s e k h = performed_fine dp aps control function text n s h

    call_fine : (name : Name) (args : ArgTrees) (out : O (List ℕ)) → is_call (function_named name.text) args ≡ true → MayCall shared Calls (function_named name.text) (text_of args) → F out → F (call_of (direct true) seq name args out)
    unfolding call_of numbers_of
    call_fine name args out e k h = fine_bind (Has shared own) (Has shared own) (numbers_of (direct true) out) _
        (fine_bind (Has shared own) (Has shared own) out _ h (λ x j. all_used_fine x.0 x.1 j))
        (λ x j. guarded_fine (is_call (function_named name.text) args) _ x.1 e (called_fine (function_named name.text) args (text_of args) x.0 x.1 e k j))

    mutual
      unfolding value ExprComplete appended_values chained_values assigned_value

      pub value_fine : (e : Tree) (s : S) → ExprComplete shared Calls own e → H s → F (value (direct true) seq e s)
      value_fine (t.Number n) s k h = h
      value_fine (t.Named name) s k h = named_fine name s h k
      value_fine (t.Group a) s k h = value_fine a s k h
      value_fine (t.Unary op a) s k h = unary_fine op _ (value_fine a s k h)
      value_fine (t.Binary op a d) s k h = binary_fine op _ _ (value_fine a s k.0 h) (λ r j. value_fine d r k.1 j)
      value_fine (t.Cond e a d) s k h = choice_fine _ _ _ (value_fine e s k.0 h) (λ r j. value_fine a r k.1 j) (λ r j. value_fine d r k.2 j)
      value_fine (t.Assign name a) s k h = fine_bind (Has shared own) (Has shared own) (value (direct true) seq a s) _ (value_fine a s k.1 h) (λ x j. stored_fine name x.0 x.1 j k.0)
      value_fine (t.Call name args) s k h = call_fine name args _ k.0 k.1 (args_fine args [] s k.2 h)

      arg_fine : (a : ArgTree) (got : List ℕ) (s : S) → ArgComplete shared Calls own a → H s → F (argument (direct true) seq a got s)
      arg_fine (t.ExprArg at e) got s k h = fine_bind (Has shared own) (Has shared own) (value (direct true) seq e s) _ (value_fine e s k h) (λ x j. j)
      arg_fine (t.TextArg a) got s k h = h

      args_fine : (args : ArgTrees) (got : List ℕ) (s : S) → ArgsComplete shared Calls own args → H s → F (arguments (direct true) seq args got s)
      args_fine t.NoArgs got s k h = h
      args_fine (t.MoreArgs a more) got s k h = fine_bind (Has shared own) (Has shared own) (argument (direct true) seq a got s) _ (arg_fine a got s k.0 h) (λ x j. args_fine more x.0 x.1 k.1 j)
