-- Where the code ends in the middle of what the meaning does: an end goes on outwards.
use Rattle.std.proofs.Common.{◌≡◌, ℕ, ◌+◌, ◌^◌, ◌/◌, Bool, true, false, cond, nat_eq, List, [], ◌∷◌, ◌++◌, Option, None, Some, Ok, Err, codes, refl, sym, ap, ◌∙◌, ◌<◌, nat_lt, arith, take, drop, option_map}
use Rattle.std.proofs.lemmas.List.{append_assoc, append-nil, take-append-drop}
use Rattle.target_calls.specs.World.{World, next_world}
use Rattle.target_calls.specs.declared.calls.Ask.{Ask}
use Rattle.direct_calls.specs.Made.{IsDone}
use Rattle.dap_base.specs.Streams.{AppendsPrefix}
use Rattle.target_machine.specs.Plain.{CallEnd, call_done}
use Rattle.target_machine.specs.State.{TargetState}
use Rattle.target_machine.specs.declared.unit.Unit.TheVariants as unit
use Rattle.sequence_rules.specs.Late.{Grows}
use Rattle.sequence_meaning.specs.declared.held.DirectHeld.{DirectHeld}
use Rattle.dap_base.specs.Outcome.{◌>>=◌}
use Rattle.expr_grammar.specs.declared.code.BinaryOp.{BinaryOp}
use Rattle.expr_grammar.specs.declared.code.Name.{Name}
use Rattle.expr_grammar.specs.declared.code.UnaryOp.{UnaryOp}
use Rattle.expr_grammar.specs.Tree.{Tree, ArgTrees}
use Rattle.function_table.specs.declared.function.Function.TheVariants.{Sequence}
use Rattle.function_table.specs.Lookup.{function_named}
use Rattle.seq_check.specs.Answers.{checked_trees}
use Rattle.sequence_trees.specs.Trees.{CodeSteps}
use Rattle.sequence_rules.specs.Calls.{Port, line_result, global, use_now, ask, zero_of, if_read, second_half, two_units, memory_unit}
use Rattle.sequence_rules.specs.Direct.{Now, direct, line_after}
use Rattle.sequence_rules.specs.Laws.{Adds}
use Rattle.sequence_rules.specs.Machine.{State, Out, end_state, with_locals}
use Rattle.sequence_rules.specs.Steady.{Goes}
use Rattle.sequence_rules.specs.Steps.{counted_step, after_counted, declared_variable, dropped_value, inside, turn, poll_result_at, poll_result, condition, repeat_result, control_result, steps_result}
use Rattle.sequence_rules.specs.Values.{used_now, of_unary, operands, strict_binary, truth_of, conjunction, disjunction, choice, assigned_value, appended_values, numbers_of, call_result, call_of, value}
use Rattle.sequence_rules.specs.Variables.{bound_variable}
use Rattle.sequence_rules.proofs.Adding.{adds_direct, adds_same}
use Rattle.sequence_rules.proofs.Goes as g
use Rattle.sequence_meaning.specs.declared.end.DirectEnd.{DirectEnd}
use Rattle.sequence_meaning.specs.declared.end.DirectEnd.TheVariants as end
use Rattle.sequence_meaning.specs.declared.runner.DirectRunner.{DirectRunner}
use Rattle.sequence_rules.specs.Known.{Knows, known_part}
use Rattle.sequence_rules.proofs.NowLemmas.{numbers_as}
use Rattle.sequence_meaning.proofs.FrameLemmas.{frames}
use Rattle.sequence_meaning.specs.Held.{EndsDirect, answered_world, calls_of, made_all, state_seen}

abbrev S : Type 0
S = State ℕ Now

abbrev O : Type 0 → Type 0
O A = Out ℕ Now A

-- ---- what only adds

pub adds_ok : {A : Type 0} (s : S) (x : A) → Goes Adds s (Ok (x, s))
adds_ok s x = g.goes_ok (direct false) Adds (adds_direct false) s x

pub adds_use : (v : ℕ) (s : S) → Goes Adds s (use_now (direct false) v s)
adds_use v s = g.goes_use (direct false) Adds (adds_direct false) v s

pub adds_bind : {A B : Type 0} (s : S) (out : O A) (f : A × S → O B) → Goes Adds s out → ((x : A × S) → Goes Adds x.1 (f x)) → Goes Adds s (out >>= f)
adds_bind s out f h k = g.goes_bind (direct false) Adds (adds_direct false) s out f h k

pub adds_cond : {A : Type 0} (s : S) (c : Bool) (x y : O A) → Goes Adds s x → Goes Adds s y → Goes Adds s (cond c x y)
adds_cond s c x y h k = g.goes_cond (direct false) Adds (adds_direct false) s c x y h k

module _ (runner : DirectRunner) (depth : ℕ) where
  pub adds_sequence : (name : List ℕ) (s : S) → Goes Adds s (calls_of runner depth name s)
  adds_sequence name s = g.goes_sequence (direct false) Adds (adds_direct false) runner.turn_us (checked_trees runner.set.now) depth name s

  pub adds_value : (e : Tree) (s : S) → Goes Adds s (value (direct false) (calls_of runner depth) e s)
  adds_value e s = g.goes_value (direct false) Adds (adds_direct false) (calls_of runner depth) adds_sequence e s

  pub adds_done : (steps : CodeSteps) (s : S) → Goes Adds s (steps_result (direct false) runner.turn_us (calls_of runner depth) steps s)
  adds_done steps s = g.goes_done (direct false) Adds (adds_direct false) (calls_of runner depth) adds_sequence runner.turn_us steps s

  pub adds_inside : (steps : CodeSteps) (s : S) → Goes Adds s (inside (direct false) (steps_result (direct false) runner.turn_us (calls_of runner depth) steps) s)
  adds_inside steps s = g.goes_inside (direct false) Adds (adds_direct false) (steps_result (direct false) runner.turn_us (calls_of runner depth) steps) s (λ r. adds_done steps r)

  pub adds_repeated : (o : Option Tree) (timeout : Option ℕ) (steps : CodeSteps) (s : S)
      → Goes Adds s (repeat_result (direct false) runner.turn_us (calls_of runner depth) o timeout steps (steps_result (direct false) runner.turn_us (calls_of runner depth) steps) s)
  adds_repeated o timeout steps s =
      g.goes_repeated (direct false) Adds (adds_direct false) (calls_of runner depth) adds_sequence runner.turn_us o timeout steps (steps_result (direct false) runner.turn_us (calls_of runner depth) steps) s (λ r. adds_done steps r)

-- ---- an end goes on outwards, through what only adds

past : {A B : Type 0} (now : S) (out : O A) (f : A × S → O B) → ((x : A × S) → Goes Adds x.1 (f x)) → Adds now.rest (end_state out).rest → Adds now.rest (end_state (out >>= f)).rest
past now (Ok x) f k h = (adds_direct false).on _ _ _ h (k x).so
past now (Err e) f k h = h

pub ends_on : {A B : Type 0} (e : DirectEnd) (now : S) (out : O A) (f : A × S → O B) → ((x : A × S) → Goes Adds x.1 (f x)) → EndsDirect e now out → EndsDirect e now (out >>= f)
ends_on (end.Halted cause) now out f k h = ap (λ o. o >>= f) h
ends_on (end.Faulted u) now out f k h = ap (λ o. o >>= f) h
ends_on end.WriteFault now out f k h = past now out f k h
ends_on end.OutOfMemory now out f k h = past now out f k h

-- ---- calls

pub ends_zero : (e : DirectEnd) (now : S) (out : O ℕ) → EndsDirect e now out → EndsDirect e now (zero_of (direct false) out)
unfolding zero_of
ends_zero e now out h = ends_on e now out _ (λ x. adds_ok x.1 _) h

pub ends_if_read : (e : DirectEnd) (now : S) (read : Bool) (out : O ℕ) → EndsDirect e now out → EndsDirect e now (if_read (direct false) read out)
unfolding if_read
ends_if_read e now true out h = h
ends_if_read e now false out h = ends_zero e now out h

pub ends_second_half : (e : DirectEnd) (now s : S) (read : Bool) (p : Port) (address n low : ℕ) → EndsDirect e now (ask (direct false) (memory_unit 4 read p.ap (address + 4) (n / 2 ^ 32)) p.forgive s) → EndsDirect e now (second_half (direct false) read p address n low s)
unfolding second_half
ends_second_half e now s read p address n low h =
    ends_on e now _ _ (λ x. adds_cond x.1 read _ _ (g.goes_low_and_high (direct false) Adds (adds_direct false) low x.0 x.1) (adds_ok x.1 _)) h

pub ends_two_units : (e : DirectEnd) (now s : S) (read : Bool) (p : Port) (address n : ℕ) → EndsDirect e now (ask (direct false) (memory_unit 4 read p.ap address n) p.forgive s) → EndsDirect e now (two_units (direct false) read p address n s)
unfolding two_units
ends_two_units e now s read p address n h =
    ends_on e now _ _ (λ x. g.goes_second_half (direct false) Adds (adds_direct false) read p address n x.0 x.1) h

-- ---- expressions

ends_used : (e : DirectEnd) (now : S) (out : O ℕ) → EndsDirect e now out → EndsDirect e now (used_now (direct false) out)
unfolding used_now
ends_used e now out h = ends_on e now out _ (λ x. adds_use x.0 x.1) h

ends_truth : (e : DirectEnd) (now : S) (out : O ℕ) → EndsDirect e now out → EndsDirect e now (truth_of (direct false) out)
unfolding truth_of
ends_truth e now out h = ends_on e now _ _ (λ x. adds_ok x.1 _) (ends_used e now out h)

pub ends_unary : (e : DirectEnd) (now : S) (op : UnaryOp) (out : O ℕ) → EndsDirect e now out → EndsDirect e now (of_unary (direct false) op out)
unfolding of_unary
ends_unary e now op out h = ends_on e now _ _ (λ x. adds_ok x.1 _) (ends_used e now out h)

module _ (runner : DirectRunner) (depth : ℕ) where
  abbrev val : Tree → S → O ℕ
  val e s = value (direct false) (calls_of runner depth) e s

  pub ends_left : (e : DirectEnd) (now s : S) (op : BinaryOp) (left right : Tree) → EndsDirect e now (value (direct false) (calls_of runner depth) left s)
      → EndsDirect e now (strict_binary (direct false) op (value (direct false) (calls_of runner depth) left s) (value (direct false) (calls_of runner depth) right))
  unfolding strict_binary operands
  ends_left e now s op left right h =
      ends_on e now _ _ (λ x. g.goes_result (direct false) Adds (adds_direct false) _ x.1)
      (ends_on e now _ _ (λ x. adds_bind x.1 _ _ (adds_value runner depth right x.1) (λ y. g.goes_both (direct false) Adds (adds_direct false) x.0 y.0 y.1)) h)

  pub ends_right : (e : DirectEnd) (now s r : S) (op : BinaryOp) (left right : Tree) (n : ℕ) → value (direct false) (calls_of runner depth) left s ≡ Ok (n, r) → EndsDirect e now (value (direct false) (calls_of runner depth) right r)
      → EndsDirect e now (strict_binary (direct false) op (value (direct false) (calls_of runner depth) left s) (value (direct false) (calls_of runner depth) right))
  unfolding strict_binary operands
  ends_right e now s r op left right n is h =
      rw is (ends_on e now _ _ (λ x. g.goes_result (direct false) Adds (adds_direct false) _ x.1)
      (ends_on e now (value (direct false) (calls_of runner depth) right r) _ (λ y. g.goes_both (direct false) Adds (adds_direct false) n y.0 y.1) h))

  pub ends_and : (e : DirectEnd) (now s : S) (left right : Tree) → EndsDirect e now (value (direct false) (calls_of runner depth) left s)
      → EndsDirect e now (conjunction (direct false) (value (direct false) (calls_of runner depth) left s) (value (direct false) (calls_of runner depth) right))
  unfolding conjunction
  ends_and e now s left right h =
      ends_on e now _ _ (λ x. adds_cond x.1 (nat_eq x.0 0) _ _ (adds_ok x.1 _) (g.goes_truth_of (direct false) Adds (adds_direct false) _ x.1 (adds_value runner depth right x.1))) (ends_used e now _ h)

  pub ends_and_right : (e : DirectEnd) (now s r : S) (left right : Tree) (n : ℕ) → value (direct false) (calls_of runner depth) left s ≡ Ok (n, r) → nat_eq n 0 ≡ false → EndsDirect e now (value (direct false) (calls_of runner depth) right r)
      → EndsDirect e now (conjunction (direct false) (value (direct false) (calls_of runner depth) left s) (value (direct false) (calls_of runner depth) right))
  unfolding conjunction used_now use_now direct
  ends_and_right e now s r left right n is some h = rw (is, some) (ends_truth e now _ h)

  pub ends_or : (e : DirectEnd) (now s : S) (left right : Tree) → EndsDirect e now (value (direct false) (calls_of runner depth) left s)
      → EndsDirect e now (disjunction (direct false) (value (direct false) (calls_of runner depth) left s) (value (direct false) (calls_of runner depth) right))
  unfolding disjunction
  ends_or e now s left right h =
      ends_on e now _ _ (λ x. adds_cond x.1 (nat_eq x.0 0) _ _ (g.goes_truth_of (direct false) Adds (adds_direct false) _ x.1 (adds_value runner depth right x.1)) (adds_ok x.1 _)) (ends_used e now _ h)

  pub ends_or_right : (e : DirectEnd) (now s r : S) (left right : Tree) (n : ℕ) → value (direct false) (calls_of runner depth) left s ≡ Ok (n, r) → nat_eq n 0 ≡ true → EndsDirect e now (value (direct false) (calls_of runner depth) right r)
      → EndsDirect e now (disjunction (direct false) (value (direct false) (calls_of runner depth) left s) (value (direct false) (calls_of runner depth) right))
  unfolding disjunction used_now use_now direct
  ends_or_right e now s r left right n is none h = rw (is, none) (ends_truth e now _ h)

  pub ends_choice : (e : DirectEnd) (now s : S) (test first second : Tree) → EndsDirect e now (value (direct false) (calls_of runner depth) test s)
      → EndsDirect e now (choice (direct false) (value (direct false) (calls_of runner depth) test s) (value (direct false) (calls_of runner depth) first) (value (direct false) (calls_of runner depth) second))
  unfolding choice
  ends_choice e now s test first second h =
      ends_on e now _ _ (λ x. adds_cond x.1 (nat_eq x.0 0) _ _ (adds_value runner depth second x.1) (adds_value runner depth first x.1)) (ends_used e now _ h)

  pub ends_call : (e : DirectEnd) (now : S) (name : Name) (args : ArgTrees) (out : O (List ℕ)) → EndsDirect e now out → EndsDirect e now (call_of (direct false) (calls_of runner depth) name args out)
  unfolding call_of numbers_of
  ends_call e now name args out h =
      ends_on e now _ _ (λ x. g.goes_guarded (direct false) Adds (adds_direct false) _ _ x.1 (g.goes_called (direct false) Adds (adds_direct false) (calls_of runner depth) (adds_sequence runner depth) (function_named name.text) _ x.0 x.1))
      (ends_on e now out _ (λ x. g.goes_all_used (direct false) Adds (adds_direct false) x.0 x.1) h)

  pub ends_sequence : (e : DirectEnd) (now s : S) (name : List ℕ) → EndsDirect e now (calls_of runner depth name s) → EndsDirect e now (call_result (direct false) (calls_of runner depth) (Some Sequence) name [] s)
  unfolding call_result
  ends_sequence e now s name h = ends_on e now _ _ (λ x. adds_ok x.1 _) h

  -- ---- steps

  pub ends_condition : (e : DirectEnd) (now s : S) (test : Tree) → EndsDirect e now (value (direct false) (calls_of runner depth) test s) → EndsDirect e now (condition (direct false) runner.turn_us (calls_of runner depth) (Some test) s)
  unfolding condition
  ends_condition e now s test h = ends_on e now _ _ (λ x. adds_ok x.1 _) (ends_used e now _ h)

  pub ends_control : (e : DirectEnd) (now s : S) (o p : Option Tree) (timeout : Option ℕ) (steps : CodeSteps) → EndsDirect e now (condition (direct false) runner.turn_us (calls_of runner depth) o s)
      → EndsDirect e now (control_result (direct false) runner.turn_us (calls_of runner depth) o p timeout steps (steps_result (direct false) runner.turn_us (calls_of runner depth) steps) s)
  unfolding control_result
  ends_control e now s o p timeout steps h =
      ends_on e now _ _ (λ x. adds_cond x.1 x.0 _ _ (adds_repeated runner depth p timeout steps x.1) (adds_ok x.1 _)) h

  pub ends_test : (e : DirectEnd) (now s r : S) (test : Tree) (steps : CodeSteps) → counted_step (direct false) s ≡ Ok (tt, r) → EndsDirect e now (value (direct false) (calls_of runner depth) test r)
      → EndsDirect e now (turn (direct false) (value (direct false) (calls_of runner depth) test) (λ q. inside (direct false) (steps_result (direct false) runner.turn_us (calls_of runner depth) steps) q) s)
  unfolding turn
  ends_test e now s r test steps is h =
      rw is (ends_on e now _ _ (λ x. adds_cond x.1 (nat_eq x.0 0) _ _ (adds_ok x.1 _) (adds_bind x.1 _ _ (adds_inside runner depth steps x.1) (λ y. adds_ok y.1 _))) (ends_used e now _ h))

  pub ends_body : (e : DirectEnd) (now s r q : S) (test : Tree) (steps : CodeSteps) (n : ℕ) → counted_step (direct false) s ≡ Ok (tt, r) → value (direct false) (calls_of runner depth) test r ≡ Ok (n, q) → nat_eq n 0 ≡ false
      → EndsDirect e now (inside (direct false) (steps_result (direct false) runner.turn_us (calls_of runner depth) steps) q)
      → EndsDirect e now (turn (direct false) (value (direct false) (calls_of runner depth) test) (λ p. inside (direct false) (steps_result (direct false) runner.turn_us (calls_of runner depth) steps) p) s)
  unfolding turn used_now use_now direct
  ends_body e now s r q test steps n is it some h =
      rw (is, it, some) (ends_on e now _ _ (λ y. adds_ok y.1 _) h)

pub ends_assigned : (e : DirectEnd) (now : S) (name : Name) (out : O ℕ) → EndsDirect e now out → EndsDirect e now (assigned_value (direct false) name out)
unfolding assigned_value
ends_assigned e now name out h = ends_on e now out _ (λ x. g.goes_stored (direct false) Adds (adds_direct false) name x.0 x.1) h

pub ends_appended : (e : DirectEnd) (now : S) (got : List ℕ) (out : O ℕ) → EndsDirect e now out → EndsDirect e now (appended_values (direct false) got out)
unfolding appended_values
ends_appended e now got out h = ends_on e now out _ (λ x. adds_ok x.1 _) h

-- memory is refused for a value
pub append_refused : (now : S) (got : List ℕ) (out : O ℕ) (n : ℕ) → out ≡ Ok (n, now) → Adds now.rest (end_state (appended_values (direct false) got out)).rest
unfolding appended_values
append_refused now got out n is = rw is (adds_same now.rest)

pub ends_counted : (e : DirectEnd) (now s : S) (rest : S → O (Unit {0})) → ((r : S) → Goes Adds r (rest r)) → EndsDirect e now (counted_step (direct false) s) → EndsDirect e now (after_counted (direct false) rest s)
unfolding after_counted
ends_counted e now s rest k h = ends_on e now _ _ (λ x. k x.1) h

ends_after : (e : DirectEnd) (now s r : S) (rest : S → O (Unit {0})) → counted_step (direct false) s ≡ Ok (tt, r) → EndsDirect e now (rest r) → EndsDirect e now (after_counted (direct false) rest s)
unfolding after_counted
ends_after e now s r rest is h = rw is h

adds_with : (a b : S) → b.rest ≡ a.rest → Goes {V = ℕ} {T = Now} {A = Unit {0}} Adds a (Ok (tt, b))
adds_with a b same = record { so = rw same (adds_same a.rest) }

module _ (runner : DirectRunner) (depth : ℕ) (test : Tree) where
  adds_declared : (name : Name) (r : S) → Goes Adds r (declared_variable (direct false) name (value (direct false) (calls_of runner depth) test r))
  adds_declared name r = g.goes_declared (direct false) Adds (adds_direct false) name _ r (adds_value runner depth test r)

  adds_dropped : (r : S) → Goes Adds r (dropped_value (direct false) (value (direct false) (calls_of runner depth) test r))
  adds_dropped r = g.goes_dropped (direct false) Adds (adds_direct false) _ r (adds_value runner depth test r)

  pub declare_first : (e : DirectEnd) (now s : S) (name : Name) → EndsDirect e now (counted_step (direct false) s)
      → EndsDirect e now (after_counted (direct false) (λ r. declared_variable (direct false) name (value (direct false) (calls_of runner depth) test r)) s)
  declare_first e now s name h = ends_counted e now s _ (λ r. adds_declared name r) h

  pub declare_value : (e : DirectEnd) (now s r : S) (name : Name) → counted_step (direct false) s ≡ Ok (tt, r) → EndsDirect e now (value (direct false) (calls_of runner depth) test r)
      → EndsDirect e now (after_counted (direct false) (λ q. declared_variable (direct false) name (value (direct false) (calls_of runner depth) test q)) s)
  unfolding declared_variable
  declare_value e now s r name is h =
      ends_after e now s r (λ q. declared_variable (direct false) name (value (direct false) (calls_of runner depth) test q)) is
      (ends_on e now (value (direct false) (calls_of runner depth) test r) (λ x. Ok (tt, with_locals x.1 (x.1.locals ++ bound_variable name.text x.0 ∷ []))) (λ x. adds_with x.1 (with_locals x.1 (x.1.locals ++ bound_variable name.text x.0 ∷ [])) refl) h)

  -- memory is refused for a variable
  pub declare_refused : (now s r q : S) (name : Name) (n : ℕ) → counted_step (direct false) s ≡ Ok (tt, r) → value (direct false) (calls_of runner depth) test r ≡ Ok (n, q) → now ≡ q
      → Adds now.rest (end_state (after_counted (direct false) (λ p. declared_variable (direct false) name (value (direct false) (calls_of runner depth) test p)) s)).rest
  unfolding after_counted declared_variable
  declare_refused now s r q name n is it same = rw (is, it, same) (adds_same q.rest)

  pub plain_first : (e : DirectEnd) (now s : S) → EndsDirect e now (counted_step (direct false) s) → EndsDirect e now (after_counted (direct false) (λ r. dropped_value (direct false) (value (direct false) (calls_of runner depth) test r)) s)
  plain_first e now s h = ends_counted e now s _ (λ r. adds_dropped r) h

  pub plain_value : (e : DirectEnd) (now s r : S) → counted_step (direct false) s ≡ Ok (tt, r) → EndsDirect e now (value (direct false) (calls_of runner depth) test r)
      → EndsDirect e now (after_counted (direct false) (λ q. dropped_value (direct false) (value (direct false) (calls_of runner depth) test q)) s)
  unfolding dropped_value
  plain_value e now s r is h =
      ends_after e now s r (λ q. dropped_value (direct false) (value (direct false) (calls_of runner depth) test q)) is
      (ends_on e now (value (direct false) (calls_of runner depth) test r) (λ x. Ok (tt, x.1)) (λ x. adds_ok x.1 _) h)

  pub ends_turn : (e : DirectEnd) (now s : S) (steps : CodeSteps) → EndsDirect e now (counted_step (direct false) s)
      → EndsDirect e now (turn (direct false) (value (direct false) (calls_of runner depth) test) (λ q. inside (direct false) (steps_result (direct false) runner.turn_us (calls_of runner depth) steps) q) s)
  unfolding turn
  ends_turn e now s steps h =
      ends_on e now _ _ (λ k. adds_bind k.1 _ _ (g.goes_used_now (direct false) Adds (adds_direct false) _ k.1 (adds_value runner depth test k.1))
      (λ x. adds_cond x.1 (nat_eq x.0 0) _ _ (adds_ok x.1 _) (adds_bind x.1 _ _ (adds_inside runner depth steps x.1) (λ y. adds_ok y.1 _)))) h

pub ends_inside : (e : DirectEnd) (now s : S) (body : S → O (Unit {0})) → EndsDirect e now (body s) → EndsDirect e now (inside (direct false) body s)
unfolding inside
ends_inside e now s body h = ends_on e now _ _ (λ x. record { so = adds_same x.1.rest }) h

-- ---- polls

pub poll_first : (e : DirectEnd) (now s : S) (form : ℕ × ℕ) (n : ℕ) → EndsDirect e now (counted_step (direct false) s) → EndsDirect e now (poll_result (direct false) form n s)
unfolding poll_result
poll_first e now s form n h =
    ends_on e now _ _ (λ k. adds_bind k.1 _ _ (g.goes_global (direct false) Adds (adds_direct false) (codes "__dp") k.1) (λ d. g.goes_polled_at (direct false) Adds (adds_direct false) form n d.0 d.1)) h

pub poll_ask : (e : DirectEnd) (now s r : S) (form : ℕ × ℕ) (n d : ℕ) → counted_step (direct false) s ≡ Ok (tt, r) → global (direct false) (codes "__dp") r ≡ Ok (d, r) → nat_eq d 0 ≡ true
    → EndsDirect e now (ask (direct false) (unit.Poll form.0 form.1 n) false r) → EndsDirect e now (poll_result (direct false) form n s)
unfolding poll_result poll_result_at dropped_value
poll_ask e now s r form n d is dp zero h = rw (is, dp, zero) (ends_on e now _ _ (λ x. adds_ok x.1 _) h)

-- ---- lines

broken : (known : Bool) (old new : Option (List ℕ)) (text : List ℕ) → AppendsPrefix old new text → Knows known old → Grows (known_part known new) (option_map (line_after text) (known_part known old))
broken false old new text h k = record { part = []; same = refl }
broken true None new text h k = absurd cc
broken true (Some xs) None text h k = absurd h.1
broken true (Some xs) (Some ys) text h k = record { part = drop h.0 text; same = ap Some (joined h.1) }
  where
    joined : ys ≡ xs ++ take h.0 text → xs ++ text ≡ ys ++ drop h.0 text
    joined is = rw is (ap (λ l. xs ++ l) (sym (take-append-drop h.0 text)) ∙ sym (append_assoc xs (take h.0 text) (drop h.0 text)))

-- the sink fails within a line
pub line_broken : (known : Bool) (held : DirectHeld) (t : TargetState) (old new : Option (List ℕ)) (text : List ℕ) (n : ℕ) → held.lines < 100000 → AppendsPrefix old new text → Knows known old
    → Adds (state_seen known held t new).rest (end_state (line_result (direct false) text n (state_seen known held t old))).rest
unfolding line_result direct
line_broken known held t old new text n few h knows =
    let test : nat_lt held.lines 100000 ≡ true = grind arith in
    rw test (record { more = []; calls = sym (append-nil held.calls); lines = broken known old new text h knows })

-- ---- calls that were made

made_more : (w : World) (calls more : List Ask) → made_all w (calls ++ more) ≡ made_all (made_all w calls) more
made_more w [] more = refl
made_more w (a ∷ calls) more = made_more (next_world w a) calls more

-- one call more
pub one_made : (w : World) (calls calls2 : List Ask) (t u : TargetState) (large large2 : List ℕ) (ask : Ask) (e : CallEnd) → made_all w calls ≡ answered_world t large → calls2 ≡ calls ++ ask ∷ [] → IsDone (call_done t large ask.forgive ask.call) e u large2
    → made_all w calls2 ≡ answered_world u large2
one_made w calls calls2 t u large large2 ask e was more d =
    ap (made_all w) more ∙ made_more w calls (ask ∷ []) ∙ ap (λ x. next_world x ask) was ∙ ap (λ x. answered_world x (call_done t large ask.forgive ask.call).large) d.next_is ∙ ap (answered_world u) d.large_is

-- ---- where a function ends in the middle, and what it keeps until then

pub ruleset unary_ends = (ends_unary, frames)

pub ruleset strict_ends = (ends_left, ends_right, frames)

pub ruleset and_ends = (ends_and, ends_and_right, frames)

pub ruleset or_ends = (ends_or, ends_or_right, frames)

pub ruleset choice_ends = (ends_choice, frames)

pub ruleset assignment_ends = (ends_assigned, frames)

pub ruleset value_ends = (ends_appended, append_refused, frames)

pub ruleset call_ends = (ends_call, numbers_as, frames)

pub ruleset sequence_ends = (ends_sequence, frames)

pub ruleset condition_ends = (ends_condition, frames)

pub ruleset control_ends = (ends_control, frames)

pub ruleset inside_ends = (ends_inside, frames)
