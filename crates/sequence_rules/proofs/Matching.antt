-- Where each operation of two machines is related, so is all that is steps_result on them.
use Rattle.std.proofs.Common.{◌≡◌, sym, ap, subst, bytes_eq, ℕ, zero, suc, ◌+◌, ◌/◌, ◌^◌, Bool, true, false, cond, not, ◌&&◌, ◌||◌, List, [], ◌∷◌, ◌++◌, length, take, codes, nat_lt, nat_eq, Option, None, Some, unwrap_or, Result, Ok, Err, refl}
use Rattle.expr_grammar.specs.declared.code.Name.{Name}
use Rattle.expr_grammar.specs.declared.code.UnaryOp.{UnaryOp}
use Rattle.expr_grammar.specs.declared.code.BinaryOp.{BinaryOp}
use Rattle.expr_grammar.specs.declared.code.BinaryOp.TheVariants as b
use Rattle.expr_grammar.specs.Tree as t
use Rattle.expr_grammar.specs.Tree.{Tree, ArgTree, ArgTrees, StmtTree}
use Rattle.function_table.specs.declared.function.Function.{Function}
use Rattle.function_table.specs.declared.function.Function.TheVariants as f
use Rattle.function_table.specs.Lookup.{function_named}
use Rattle.sequence_trees.specs.Trees as c
use Rattle.sequence_trees.specs.Trees.{CodeStep, CodeSteps, SequenceTrees, SetTrees, steps_named}
use Rattle.target_machine.specs.declared.unit.HaltCause.TheVariants.{Unsupported, ArgumentOutOfRange, AccessLimit, MessageLimit, DivideByZero, StepLimit}
use Rattle.target_machine.specs.declared.unit.ProbeCall.{ProbeCall}
use Rattle.target_machine.specs.declared.unit.Unit.{Unit as AccessUnit}
use Rattle.sequence_rules.specs.declared.bindings.Binding.{Binding}
use Rattle.dap_base.specs.Outcome.{◌>>=◌}
use Rattle.sequence_rules.specs.Variables.{bound_variable, has_in, value_named, set_in, newest_in, set_newest, with_new, with_all_new, is_visible, visible, set_visible}
use Rattle.sequence_rules.specs.Polls.{poll_of}
use Rattle.sequence_rules.specs.Machine as machine
use Rattle.sequence_rules.specs.Machine.{Over, Machine, State, Out, halt, with_rest, unit_more, line_more, step_more, with_locals, with_variables, end_state, rest_of}
use Rattle.sequence_rules.specs.Steady.{Goes}
use Rattle.sequence_rules.specs.Calls.{Port, or_halt, memory_unit, use_now, missing, value_or_missing, guarded_rest, global, port_with, port_from, port, counted_answer, ask, counted_number, command, zero_of, if_read, low_and_high, second_half, two_units, one_unit, memory_port, memory_at, memory, ap_unit, ap_at, ap_register, dp_unit, dp_at, dp_register, pins_command, abort_at, abort, delay, clock, pins, line_bits, line_result, function_result}
use Rattle.sequence_rules.specs.Values.{named_value, stored_value, assigned_value, used_now, of_unary, both, operands, result_of, strict_binary, truth_of, conjunction, disjunction, of_binary, choice, appended_values, chained_values, all_used, numbers_of, is_call, call_result, call_of, value, argument, arguments}
use Rattle.sequence_rules.specs.Steps.{timeout_of, counted_step, declared_variable, dropped_value, after_counted, in_order, inside, turn, turns, poll_result_at, poll_result, statement, block, condition, loop_result, repeat_result, control_result, step, steps_result, given_back, sequence_result, steps_at, sequence_at, debug_result, run_of}
use Rattle.std.specs.Bool.{⊤}
use Rattle.std.specs.Option.{option_or}
use Rattle.target_machine.specs.declared.unit.HaltCause.{HaltCause}
use Rattle.sequence_rules.specs.Alike.{Binds, Alike, EndRelation, EndsAlone, Matches, CallEnds, CallMatches, Equal, Tracks}
use Rattle.sequence_rules.proofs.Goes as g

-- lists of related values
abbrev pub AreAll : {V W : Type 0} → (V → W → Type 0) → List V → List W → Type 0
AreAll Val [] [] = ⊤
AreAll Val [] (w ∷ ws) = ⊥
AreAll Val (v ∷ vs) [] = ⊥
AreAll Val (v ∷ vs) (w ∷ ws) = Val v w × AreAll Val vs ws

abbrev pub Both : {V W : Type 0} → (V → W → Type 0) → Option V → Option W → Type 0
Both Val None None = ⊤
Both Val None (Some w) = ⊥
Both Val (Some v) None = ⊥
Both Val (Some v) (Some w) = Val v w

both_or : {V W : Type 0} (Val : V → W → Type 0) (o o2 : Option V) (p p2 : Option W) → Both Val o p → Both Val o2 p2 → Both Val (option_or o o2) (option_or p p2)
both_or Val None o2 None p2 k l = l
both_or Val None o2 (Some w) p2 k l = absurd k
both_or Val (Some v) o2 None p2 k l = absurd k
both_or Val (Some v) o2 (Some w) p2 k l = k

module _ {V W : Type 0} (Val : V → W → Type 0) where
  value_in_of : (bs : List (Binding V)) (cs : List (Binding W)) (name : List ℕ) → Binds Val bs cs → Both Val (value_named bs name) (value_named cs name)
  value_in_of [] [] name h = tt
  value_in_of [] (x ∷ cs) name h = absurd h
  value_in_of (b ∷ bs) [] name h = absurd h
  value_in_of (b ∷ bs) (x ∷ cs) name h = rw h.0 (one (bytes_eq name x.name) b.value x.value _ _ h.1 (value_in_of bs cs name h.2))
    where
      one : (p : Bool) (v : V) (w : W) (o : Option V) (q : Option W) → Val v w → Both Val o q → Both Val (cond p (Some v) o) (cond p (Some w) q)
      one true v w o q a k = a
      one false v w o q a k = k

  has_in_of : (bs : List (Binding V)) (cs : List (Binding W)) (name : List ℕ) → Binds Val bs cs → has_in bs name ≡ has_in cs name
  has_in_of [] [] name h = refl
  has_in_of [] (x ∷ cs) name h = absurd h
  has_in_of (b ∷ bs) [] name h = absurd h
  has_in_of (b ∷ bs) (x ∷ cs) name h = rw h.0 (ap (λ k. cond (bytes_eq name x.name) true k) (has_in_of bs cs name h.2))

  set_in_of : (bs : List (Binding V)) (cs : List (Binding W)) (name : List ℕ) (v : V) (w : W) → Binds Val bs cs → Val v w → Binds Val (set_in bs name v) (set_in cs name w)
  set_in_of [] [] name v w h a = tt
  set_in_of [] (x ∷ cs) name v w h a = absurd h
  set_in_of (b ∷ bs) [] name v w h a = absurd h
  set_in_of (b ∷ bs) (x ∷ cs) name v w h a = rw h.0 (one (bytes_eq name x.name) (set_in_of bs cs name v w h.2 a))
    where
      one : (p : Bool) → Binds Val (set_in bs name v) (set_in cs name w) → Binds Val (cond p (record { name = x.name; value = v } ∷ bs) (record { name = x.name; value = b.value } ∷ set_in bs name v)) (cond p (record { name = x.name; value = w } ∷ cs) (x ∷ set_in cs name w))
      one true k = (refl, a, h.2)
      one false k = (refl, h.1, k)

  newest_in_of : (bs : List (Binding V)) (cs : List (Binding W)) (name : List ℕ) → Binds Val bs cs → Both Val (newest_in bs name) (newest_in cs name)
  newest_in_of [] [] name h = tt
  newest_in_of [] (x ∷ cs) name h = absurd h
  newest_in_of (b ∷ bs) [] name h = absurd h
  newest_in_of (b ∷ bs) (x ∷ cs) name h = rw h.0 (both_or Val _ _ _ _ (newest_in_of bs cs name h.2) (one (bytes_eq name x.name)))
    where
      one : (p : Bool) → Both Val (cond p (Some b.value) None) (cond p (Some x.value) None)
      one true = h.1
      one false = tt

  set_newest_of : (bs : List (Binding V)) (cs : List (Binding W)) (name : List ℕ) (v : V) (w : W) → Binds Val bs cs → Val v w → Binds Val (set_newest bs name v) (set_newest cs name w)
  set_newest_of [] [] name v w h a = tt
  set_newest_of [] (x ∷ cs) name v w h a = absurd h
  set_newest_of (b ∷ bs) [] name v w h a = absurd h
  set_newest_of (b ∷ bs) (x ∷ cs) name v w h a = rw h.0 (rw (has_in_of bs cs name h.2) (one (has_in cs name) (bytes_eq name x.name) (set_newest_of bs cs name v w h.2 a)))
    where
      one : (q p : Bool) → Binds Val (set_newest bs name v) (set_newest cs name w)
          → Binds Val (cond q (record { name = x.name; value = b.value } ∷ set_newest bs name v) (cond p (record { name = x.name; value = v } ∷ bs) (record { name = x.name; value = b.value } ∷ bs)))
          (cond q (x ∷ set_newest cs name w) (cond p (record { name = x.name; value = w } ∷ cs) (x ∷ cs)))
      one true p k = (refl, h.1, k)
      one false true k = (refl, a, h.2)
      one false false k = (refl, h.1, h.2)

  binds_append : (bs : List (Binding V)) (cs : List (Binding W)) (name : List ℕ) (v : V) (w : W) → Binds Val bs cs → Val v w → Binds Val (bs ++ record { name = name; value = v } ∷ []) (cs ++ record { name = name; value = w } ∷ [])
  binds_append [] [] name v w h a = (refl, a, tt)
  binds_append [] (x ∷ cs) name v w h a = absurd h
  binds_append (b ∷ bs) [] name v w h a = absurd h
  binds_append (b ∷ bs) (x ∷ cs) name v w h a = (h.0, h.1, binds_append bs cs name v w h.2 a)

  binds_take : (k : ℕ) (bs : List (Binding V)) (cs : List (Binding W)) → Binds Val bs cs → Binds Val (take k bs) (take k cs)
  binds_take zero bs cs h = tt
  binds_take (suc k) [] [] h = tt
  binds_take (suc k) [] (x ∷ cs) h = absurd h
  binds_take (suc k) (b ∷ bs) [] h = absurd h
  binds_take (suc k) (b ∷ bs) (x ∷ cs) h = (h.0, h.1, binds_take k bs cs h.2)

  binds_length : (bs : List (Binding V)) (cs : List (Binding W)) → Binds Val bs cs → length bs ≡ length cs
  binds_length [] [] h = refl
  binds_length [] (x ∷ cs) h = absurd h
  binds_length (b ∷ bs) [] h = absurd h
  binds_length (b ∷ bs) (x ∷ cs) h = ap suc (binds_length bs cs h.2)

  binds_new : (bs : List (Binding V)) (cs : List (Binding W)) (name : List ℕ) (v : V) (w : W) → Binds Val bs cs → Val v w → Binds Val (with_new bs name v) (with_new cs name w)
  binds_new bs cs name v w h a = rw (has_in_of bs cs name h) (one (has_in cs name))
    where
      one : (p : Bool) → Binds Val (cond p bs (bs ++ bound_variable name v ∷ [])) (cond p cs (cs ++ bound_variable name w ∷ []))
      one true = h
      one false = binds_append bs cs name v w h a

  pub binds_all_new : (bs : List (Binding V)) (cs : List (Binding W)) (names : List (List ℕ)) (v : V) (w : W) → Binds Val bs cs → Val v w → Binds Val (with_all_new bs names v) (with_all_new cs names w)
  binds_all_new bs cs [] v w h a = h
  binds_all_new bs cs (name ∷ names) v w h a = binds_all_new (with_new bs name v) (with_new cs name w) names v w (binds_new bs cs name v w h a) a

  vals_snoc : (vs : List V) (ws : List W) (v : V) (w : W) → AreAll Val vs ws → Val v w → AreAll Val (vs ++ v ∷ []) (ws ++ w ∷ [])
  vals_snoc [] [] v w h a = (a, tt)
  vals_snoc [] (y ∷ ws) v w h a = absurd h
  vals_snoc (x ∷ vs) [] v w h a = absurd h
  vals_snoc (x ∷ vs) (y ∷ ws) v w h a = (h.0, vals_snoc vs ws v w h.1 a)

module _ {V W T U : Type 0} (m : Machine V T) (d : Machine W U) (Val : T → V → W → Type 0) (R : ℕ → T → U → Type 0) (P : T → T → Type 0) (D : EndRelation T U) (h : Tracks m d Val R P D) where
  abbrev Sim : State V T → State W U → Type 0
  Sim s r = Alike Val R s r

  abbrev Comes : {A B : Type 0} → (T → A → B → Type 0) → Out V T A → Out W U B → Type 0
  Comes S out q = Matches Val R D S out q

  abbrev Vals : T → List V → List W → Type 0
  Vals t vs ws = AreAll (Val t) vs ws

  binds_keep : (k : ℕ) (t t2 : T) (u : U) (bs : List (Binding V)) (cs : List (Binding W)) → P t t2 → R k t2 u → Binds (Val t) bs cs → Binds (Val t2) bs cs
  binds_keep k t t2 u [] [] p r b = tt
  binds_keep k t t2 u [] (x ∷ cs) p r b = absurd b
  binds_keep k t t2 u (y ∷ bs) [] p r b = absurd b
  binds_keep k t t2 u (y ∷ bs) (x ∷ cs) p r b = (b.0, h.keeps k t t2 u y.value x.value p r b.1, binds_keep k t t2 u bs cs p r b.2)

  vals_keep : (k : ℕ) (t t2 : T) (u : U) (vs : List V) (ws : List W) → P t t2 → R k t2 u → AreAll (Val t) vs ws → AreAll (Val t2) vs ws
  vals_keep k t t2 u [] [] p r b = tt
  vals_keep k t t2 u [] (x ∷ ws) p r b = absurd b
  vals_keep k t t2 u (y ∷ vs) [] p r b = absurd b
  vals_keep k t t2 u (y ∷ vs) (x ∷ ws) p r b = (h.keeps k t t2 u y x p r b.0, vals_keep k t t2 u vs ws p r b.1)

  moved : (s : State V T) (r : State W U) (t2 : T) (u2 : U) → Sim s r → P s.rest t2 → R s.units t2 u2 → Sim (with_rest s t2) (with_rest r u2)
  moved s r t2 u2 al p k = record { globals = binds_keep s.units s.rest t2 u2 _ _ p k al.globals; locals = binds_keep s.units s.rest t2 u2 _ _ p k al.locals; units = al.units; lines = al.lines; steps = al.steps; rest = k }

  -- ---- outcomes

  -- an end of the second machine alone stays one
  dead_on : {A B : Type 0} (S : T → A → B → Type 0) (s : State V T) (out : Out V T A) (over : Over) (r : State W U) → Goes P s out → EndsAlone D s.rest r.units over r.rest → Comes S out (Err (over, r))
  dead_on S s (Ok x) (machine.Halted cause) r go k = absurd k
  dead_on S s (Ok x) (machine.Faulted call) r go k = h.ended _ _ _ _ _ _ go.so k
  dead_on S s (Ok x) machine.Unanswered r go k = h.ended _ _ _ _ _ _ go.so k
  dead_on S s (Ok x) machine.Lost r go k = h.ended _ _ _ _ _ _ go.so k
  dead_on S s (Err e) (machine.Halted cause) r go k = absurd k
  dead_on S s (Err e) (machine.Faulted call) r go k = h.ended _ _ _ _ _ _ go.so k
  dead_on S s (Err e) machine.Unanswered r go k = h.ended _ _ _ _ _ _ go.so k
  dead_on S s (Err e) machine.Lost r go k = h.ended _ _ _ _ _ _ go.so k

  match_bind : {A B C E : Type 0} (S : T → A → B → Type 0) (S2 : T → C → E → Type 0) (s : State V T) (out : Out V T A) (q : Out W U B) (f : A × State V T → Out V T C) (k : B × State W U → Out W U E)
      → Comes S out q → Goes P s out → ((x : A × State V T) → Goes P x.1 (f x))
      → ((x : A × State V T) (y : B × State W U) → Sim x.1 y.1 → P s.rest x.1.rest → S x.1.rest x.0 y.0 → Comes S2 (f x) (k y))
      → Comes S2 (out >>= f) (q >>= k)
  match_bind S S2 s (Ok x) (Ok y) f k c go later more = more x y c.0 go.so c.1
  match_bind S S2 s (Err e) (Ok y) f k c go later more = absurd c
  match_bind S S2 s (Ok x) (Err y) f k c go later more = dead_on S2 x.1 (f x) y.0 y.1 (later x) c
  match_bind S S2 s (Err e) (Err y) f k c go later more = c

  match_then : {A B C E : Type 0} (S : T → A → B → Type 0) (S2 : T → C → E → Type 0) (out : Out V T A) (q : Out W U B) (f : A × State V T → Out V T C) (k : B × State W U → Out W U E)
      → Comes S out q → ((x : A × State V T) → Goes P x.1 (f x))
      → ((x : A × State V T) (y : B × State W U) → Sim x.1 y.1 → S x.1.rest x.0 y.0 → Comes S2 (f x) (k y))
      → Comes S2 (out >>= f) (q >>= k)
  match_then S S2 (Ok x) (Ok y) f k c later more = more x y c.0 c.1
  match_then S S2 (Err e) (Ok y) f k c later more = absurd c
  match_then S S2 (Ok x) (Err y) f k c later more = dead_on S2 x.1 (f x) y.0 y.1 (later x) c
  match_then S S2 (Err e) (Err y) f k c later more = c

  match_if : {A B : Type 0} (S : T → A → B → Type 0) (b : Bool) (x y : Out V T A) (p q : Out W U B) → Comes S x p → Comes S y q → Comes S (cond b x y) (cond b p q)
  match_if S true x y p q k l = k
  match_if S false x y p q k l = l

  halt_of : {A B : Type 0} (S : T → A → B → Type 0) (c : HaltCause) (s : State V T) (r : State W U) → Sim s r → Matches {A = A} {B = B} Val R D S (Err (machine.Halted c, s)) (Err (machine.Halted c, r))
  halt_of S c s r al = (refl, al)

  number_of : (n k : ℕ) (s : State V T) (r : State W U) → k ≡ n → Sim s r → Comes Val (Ok (m.number n, s)) (Ok (d.number k, r))
  number_of n k s r e al = (al, subst (λ i. Val s.rest (m.number n) (d.number i)) (sym e) (h.number s.rest n))

  -- ---- calls

  use_of : (v : V) (w : W) (s : State V T) (r : State W U) → Sim s r → Val s.rest v w → Comes Equal (use_now m v s) (use_now d w r)
  unfolding use_now
  use_of v w s r al a =
      let q = h.used s.units s.rest r.rest v w al.rest a in
      (moved s r _ _ al (h.steady.used v s.rest) q.1, q.0)

  lost_at : (s : State V T) (r : State W U) → Sim s r → d.is_watchful ≡ true → D None s.rest r.units machine.Lost r.rest
  lost_at s r al w = subst (λ k. D None s.rest k machine.Lost r.rest) (sym al.units) (h.lost s.units s.rest r.rest w al.rest)

  missing_at : {A B : Type 0} (S : T → A → B → Type 0) (x : A) (y : B) (s : State V T) (r : State W U) (b c : Bool) → b ≡ false → (c ≡ true → D None s.rest r.units machine.Lost r.rest) → Sim s r → S s.rest x y
      → Comes S (cond b (Err (machine.Lost, s)) (Ok (x, s))) (cond c (Err (machine.Lost, r)) (Ok (y, r)))
  missing_at S x y s r true c e k al a = absurd cc
  missing_at S x y s r false true e k al a = k refl
  missing_at S x y s r false false e k al a = (al, a)

  missing_of : {A B : Type 0} (S : T → A → B → Type 0) (x : A) (y : B) (s : State V T) (r : State W U) → Sim s r → S s.rest x y → Comes S (missing m x s) (missing d y r)
  unfolding missing
  missing_of S x y s r al a = missing_at S x y s r m.is_watchful d.is_watchful h.careless (lost_at s r al) al a

  given_of : {A B : Type 0} (S : T → A → B → Type 0) (x : A) (y : B) (o : Option A) (p : Option B) (s : State V T) (r : State W U) → Sim s r → S s.rest x y → Both (S s.rest) o p → Comes S (value_or_missing m x o s) (value_or_missing d y p r)
  unfolding value_or_missing
  given_of S x y None None s r al a k = missing_of S x y s r al a
  given_of S x y None (Some q) s r al a k = absurd k
  given_of S x y (Some o) None s r al a k = absurd k
  given_of S x y (Some o) (Some q) s r al a k = (al, k)

  global_of : (name : List ℕ) (s : State V T) (r : State W U) → Sim s r → Comes Equal (global m name s) (global d name r)
  unfolding global
  global_of name s r al = match_then Val Equal (value_or_missing m (m.number 0) (value_named s.globals name) s) (value_or_missing d (d.number 0) (value_named r.globals name) r) _ _
      (given_of Val _ _ (value_named s.globals name) (value_named r.globals name) s r al (h.number s.rest 0) (value_in_of (Val s.rest) _ _ name al.globals))
      (λ x. g.goes_use m P h.steady x.0 x.1) (λ x y al2 a. use_of x.0 y.0 x.1 y.1 al2 a)

  port_of : (s : State V T) (r : State W U) → Sim s r → Comes Equal (port m s) (port d r)
  unfolding port port_from port_with
  port_of s r al = match_then Equal Equal (global m (codes "__ap") s) (global d (codes "__ap") r) _ _ (global_of (codes "__ap") s r al)
      (λ x. g.goes_bind m P h.steady x.1 (global m (codes "__errorcontrol") x.1) _ (g.goes_global m P h.steady _ x.1) (λ y. g.goes_bind m P h.steady y.1 (global m (codes "__dp") y.1) _ (g.goes_global m P h.steady _ y.1) (λ z. g.goes_ok m P h.steady z.1 _)))
      (λ x y al2 a. match_then Equal Equal (global m (codes "__errorcontrol") x.1) (global d (codes "__errorcontrol") y.1) _ _ (global_of (codes "__errorcontrol") x.1 y.1 al2)
      (λ z. g.goes_bind m P h.steady z.1 (global m (codes "__dp") z.1) _ (g.goes_global m P h.steady _ z.1) (λ u. g.goes_ok m P h.steady u.1 _))
      (λ z u al3 b. match_then Equal Equal (global m (codes "__dp") z.1) (global d (codes "__dp") u.1) _ _ (global_of (codes "__dp") z.1 u.1 al3) (λ v. g.goes_ok m P h.steady v.1 _)
      (λ v w al4 e. (al4, rw (a, b, e) refl))))

  -- how a unit or a command ends
  call_ended : (S : T → V → W → Type 0) (s : State V T) (r : State W U) (e : Over) (t2 : T) (over : Over) (u2 : U) → Sim s r → P s.rest t2 → CallEnds R D (s.units + 1) e t2 over u2
      → Comes S (Err (e, unit_more s t2)) (Err (over, unit_more r u2))
  call_ended S s r e t2 (machine.Halted cause) u2 al p k = (k.0, record { globals = binds_keep _ s.rest t2 u2 _ _ p k.1 al.globals; locals = binds_keep _ s.rest t2 u2 _ _ p k.1 al.locals; units = ap (λ n. n + 1) al.units; lines = al.lines; steps = al.steps; rest = k.1 })
  call_ended S s r e t2 (machine.Faulted call) u2 al p k = subst (λ n. D (Some e) t2 (n + 1) (machine.Faulted call) u2) (sym al.units) k
  call_ended S s r e t2 machine.Unanswered u2 al p k = subst (λ n. D (Some e) t2 (n + 1) machine.Unanswered u2) (sym al.units) k
  call_ended S s r e t2 machine.Lost u2 al p k = subst (λ n. D (Some e) t2 (n + 1) machine.Lost u2) (sym al.units) k

  answered_of : (x : Result (V × T) (Over × T)) (y : Result (W × U) (Over × U)) (s : State V T) (r : State W U) → Sim s r → P s.rest (rest_of x) → CallMatches R D Val (s.units + 1) x y → Comes Val (counted_answer m x s) (counted_answer d y r)
  unfolding counted_answer
  answered_of (Ok x) (Ok y) s r al p k = (record { globals = binds_keep _ s.rest x.1 y.1 _ _ p k.0 al.globals; locals = binds_keep _ s.rest x.1 y.1 _ _ p k.0 al.locals; units = ap (λ n. n + 1) al.units; lines = al.lines; steps = al.steps; rest = k.0 }, k.1)
  answered_of (Err e) (Ok y) s r al p k = absurd k
  answered_of (Ok x) (Err y) s r al p k = subst (λ n. EndsAlone D x.1 (n + 1) y.0 y.1) (sym al.units) k
  answered_of (Err e) (Err y) s r al p k = call_ended Val s r e.0 e.1 y.0 y.1 al p k

  ask_of : (u : AccessUnit) (forgive : Bool) (s : State V T) (r : State W U) → Sim s r → Comes Val (ask m u forgive s) (ask d u forgive r)
  unfolding ask
  ask_of u forgive s r al =
      let x : Out V T V = counted_answer m (m.asked u forgive s.rest) s in
      let y : Out V T V = halt AccessLimit s in
      subst (λ (k : ℕ). Comes Val (cond (nat_lt k 1000000) x y) (ask d u forgive r)) al.units
      (match_if Val (nat_lt r.units 1000000) x y _ _ (answered_of _ _ s r al (h.steady.asked u forgive s.rest) (h.asked s.units s.rest r.rest u forgive al.rest)) (refl, al))

  numbered_of : (x : Result (ℕ × T) (Over × T)) (y : Result (ℕ × U) (Over × U)) (s : State V T) (r : State W U) → Sim s r → P s.rest (rest_of x) → CallMatches R D Equal (s.units + 1) x y → Comes Val (counted_number m x s) (counted_number d y r)
  unfolding counted_number
  numbered_of (Ok x) (Ok y) s r al p k = number_of x.0 y.0 (unit_more s x.1) (unit_more r y.1) k.1 (record { globals = binds_keep _ s.rest x.1 y.1 _ _ p k.0 al.globals; locals = binds_keep _ s.rest x.1 y.1 _ _ p k.0 al.locals; units = ap (λ n. n + 1) al.units; lines = al.lines; steps = al.steps; rest = k.0 })
  numbered_of (Err e) (Ok y) s r al p k = absurd k
  numbered_of (Ok x) (Err y) s r al p k = subst (λ n. EndsAlone D x.1 (n + 1) y.0 y.1) (sym al.units) k
  numbered_of (Err e) (Err y) s r al p k = call_ended Val s r e.0 e.1 y.0 y.1 al p k

  command_of : (c : ProbeCall) (s : State V T) (r : State W U) → Sim s r → Comes Val (command m c s) (command d c r)
  unfolding command
  command_of c s r al =
      let x : Out V T V = counted_number m (m.commanded c s.rest) s in
      let y : Out V T V = halt AccessLimit s in
      subst (λ (k : ℕ). Comes Val (cond (nat_lt k 1000000) x y) (command d c r)) al.units
      (match_if Val (nat_lt r.units 1000000) x y _ _ (numbered_of _ _ s r al (h.steady.commanded c s.rest) (h.commanded s.units s.rest r.rest c al.rest)) (refl, al))

  zero_of_of : (out : Out V T V) (q : Out W U W) → Comes Val out q → Comes Val (zero_of m out) (zero_of d q)
  unfolding zero_of
  zero_of_of out q k = match_then Val Val out q _ _ k (λ x. g.goes_ok m P h.steady x.1 _) (λ x y al a. number_of 0 0 x.1 y.1 refl al)

  if_read_of : (read : Bool) (out : Out V T V) (q : Out W U W) → Comes Val out q → Comes Val (if_read m read out) (if_read d read q)
  unfolding if_read
  if_read_of true out q k = k
  if_read_of false out q k = zero_of_of out q k

  low_and_high_of : (low high : V) (low2 high2 : W) (s : State V T) (r : State W U) → Sim s r → Val s.rest low low2 → Val s.rest high high2 → Comes Val (low_and_high m low high s) (low_and_high d low2 high2 r)
  unfolding low_and_high
  low_and_high_of low high low2 high2 s r al a b =
      let k = h.confirmed s.units s.rest r.rest al.rest in
      let p = h.steady.confirmed s.rest in
      let s2 : State V T = with_rest s (m.confirmed s.rest) in
      let r2 : State W U = with_rest r (d.confirmed r.rest) in
      let a2 = h.keeps s.units s.rest (m.confirmed s.rest) (d.confirmed r.rest) low low2 p k a in
      let b2 = h.keeps s.units s.rest (m.confirmed s.rest) (d.confirmed r.rest) high high2 p k b in
      match_bind Equal Val s2 (use_now m low s2) (use_now d low2 r2) _ _ (use_of low low2 s2 r2 (moved s r _ _ al p k) a2) (g.goes_use m P h.steady low s2)
      (λ x. g.goes_bind m P h.steady x.1 (use_now m high x.1) _ (g.goes_use m P h.steady high x.1) (λ y. g.goes_ok m P h.steady y.1 _))
      (λ x y al2 p2 e. match_then Equal Val (use_now m high x.1) (use_now d high2 y.1) _ _ (use_of high high2 x.1 y.1 al2 (h.keeps _ s2.rest x.1.rest y.1.rest high high2 p2 al2.rest b2))
      (λ z. g.goes_ok m P h.steady z.1 _) (λ z w al3 e2. number_of _ _ z.1 w.1 (rw (e, e2) refl) al3))

  second_half_of : (read : Bool) (p : Port) (address n : ℕ) (low : V) (low2 : W) (s : State V T) (r : State W U) → Sim s r → Val s.rest low low2 → Comes Val (second_half m read p address n low s) (second_half d read p address n low2 r)
  unfolding second_half
  second_half_of read p address n low low2 s r al a =
      let u = memory_unit 4 read p.ap (address + 4) (n / 2 ^ 32) in
      match_bind Val Val s (ask m u p.forgive s) (ask d u p.forgive r) _ _ (ask_of u p.forgive s r al) (g.goes_ask m P h.steady u p.forgive s)
      (λ x. g.goes_cond m P h.steady x.1 read _ _ (g.goes_low_and_high m P h.steady low x.0 x.1) (g.goes_ok m P h.steady x.1 _))
      (λ x y al2 go b. match_if Val read (low_and_high m low x.0 x.1) (Ok (m.number 0, x.1)) (low_and_high d low2 y.0 y.1) (Ok (d.number 0, y.1))
      (low_and_high_of low x.0 low2 y.0 x.1 y.1 al2 (h.keeps _ s.rest x.1.rest y.1.rest low low2 go al2.rest a) b) (number_of 0 0 x.1 y.1 refl al2))

  two_units_of : (read : Bool) (p : Port) (address n : ℕ) (s : State V T) (r : State W U) → Sim s r → Comes Val (two_units m read p address n s) (two_units d read p address n r)
  unfolding two_units
  two_units_of read p address n s r al =
      let u = memory_unit 4 read p.ap address n in
      match_then Val Val (ask m u p.forgive s) (ask d u p.forgive r) _ _ (ask_of u p.forgive s r al) (λ x. g.goes_second_half m P h.steady read p address n x.0 x.1)
      (λ x y al2 a. second_half_of read p address n x.0 y.0 x.1 y.1 al2 a)

  or_halt_of : {A : Type 0} (o : Result A HaltCause) (f : A → State V T → Out V T V) (f2 : A → State W U → Out W U W) (s : State V T) (r : State W U) → Sim s r → ((x : A) → Comes Val (f x s) (f2 x r)) → Comes Val (or_halt o f s) (or_halt o f2 r)
  unfolding or_halt
  or_halt_of (Ok x) f f2 s r al k = k x
  or_halt_of (Err cause) f f2 s r al k = halt_of Val cause s r al

  memory_at_of : (size : ℕ) (read : Bool) (address n : ℕ) (p : Port) (s : State V T) (r : State W U) → Sim s r → Comes Val (memory_at m size read address n p s) (memory_at d size read address n p r)
  unfolding memory_at one_unit
  memory_at_of size read address n p s r al = or_halt_of (memory_port size address p.ap p.dp) _ _ s r al
      (λ x. match_if Val (nat_eq size 8) _ _ _ _ (two_units_of read p address n s r al) (if_read_of read _ _ (ask_of _ p.forgive s r al)))

  memory_of : (size : ℕ) (read : Bool) (address n : ℕ) (s : State V T) (r : State W U) → Sim s r → Comes Val (memory m size read address n s) (memory d size read address n r)
  unfolding memory
  memory_of size read address n s r al = match_then Equal Val (port m s) (port d r) _ _ (port_of s r al) (λ p. g.goes_memory_at m P h.steady size read address n p.0 p.1)
      (λ x y al2 e. rw e (memory_at_of size read address n x.0 x.1 y.1 al2))

  ap_at_of : (read : Bool) (addr n : ℕ) (p : Port) (s : State V T) (r : State W U) → Sim s r → Comes Val (ap_at m read addr n p s) (ap_at d read addr n p r)
  unfolding ap_at
  ap_at_of read addr n p s r al = or_halt_of (ap_unit read addr n p.ap p.dp) _ _ s r al (λ u. if_read_of read _ _ (ask_of u p.forgive s r al))

  ap_register_of : (read : Bool) (addr n : ℕ) (s : State V T) (r : State W U) → Sim s r → Comes Val (ap_register m read addr n s) (ap_register d read addr n r)
  unfolding ap_register
  ap_register_of read addr n s r al = match_then Equal Val (port m s) (port d r) _ _ (port_of s r al) (λ p. g.goes_ap_at m P h.steady read addr n p.0 p.1)
      (λ x y al2 e. rw e (ap_at_of read addr n x.0 x.1 y.1 al2))

  dp_at_of : (read : Bool) (addr n dp : ℕ) (s : State V T) (r : State W U) → Sim s r → Comes Val (dp_at m read addr n dp s) (dp_at d read addr n dp r)
  unfolding dp_at
  dp_at_of read addr n dp s r al = or_halt_of (dp_unit read addr n dp) _ _ s r al (λ u. if_read_of read _ _ (ask_of u false s r al))

  dp_register_of : (read : Bool) (addr n : ℕ) (s : State V T) (r : State W U) → Sim s r → Comes Val (dp_register m read addr n s) (dp_register d read addr n r)
  unfolding dp_register
  dp_register_of read addr n s r al = match_then Equal Val (global m (codes "__dp") s) (global d (codes "__dp") r) _ _ (global_of (codes "__dp") s r al) (λ p. g.goes_dp_at m P h.steady read addr n p.0 p.1)
      (λ x y al2 e. rw e (dp_at_of read addr n x.0 x.1 y.1 al2))

  abort_at_of : (n dp : ℕ) (s : State V T) (r : State W U) → Sim s r → Comes Val (abort_at m n dp s) (abort_at d n dp r)
  unfolding abort_at
  abort_at_of n dp s r al = match_if Val (nat_eq dp 0) _ _ _ _ (command_of _ s r al) (halt_of Val Unsupported s r al)

  abort_of : (n : ℕ) (s : State V T) (r : State W U) → Sim s r → Comes Val (abort m n s) (abort d n r)
  unfolding abort
  abort_of n s r al = match_then Equal Val (global m (codes "__dp") s) (global d (codes "__dp") r) _ _ (global_of (codes "__dp") s r al)
      (λ x. g.goes_abort_at m P h.steady n x.0 x.1)
      (λ x y al2 e. rw e (abort_at_of n x.0 x.1 y.1 al2))

  delay_of : (n : ℕ) (s : State V T) (r : State W U) → Sim s r → Comes Val (delay m n s) (delay d n r)
  unfolding delay
  delay_of n s r al = match_if Val (nat_lt 60000000 n) _ _ _ _ (halt_of Val ArgumentOutOfRange s r al) (command_of _ s r al)

  clock_of : (n : ℕ) (s : State V T) (r : State W U) → Sim s r → Comes Val (clock m n s) (clock d n r)
  unfolding clock
  clock_of n s r al = match_if Val (nat_eq n 0 || nat_lt 0xFFFFFFFF n) _ _ _ _ (halt_of Val ArgumentOutOfRange s r al) (command_of _ s r al)

  pins_of : (output select wait : ℕ) (s : State V T) (r : State W U) → Sim s r → Comes Val (pins m output select wait s) (pins d output select wait r)
  unfolding pins
  pins_of output select wait s r al = or_halt_of (pins_command output select wait) _ _ s r al (λ c. command_of c s r al)

  line_bits_of : (count bits : ℕ) (s : State V T) (r : State W U) → Sim s r → Comes Val (line_bits m count bits s) (line_bits d count bits r)
  unfolding line_bits
  line_bits_of count bits s r al = match_if Val (nat_eq count 0 || nat_lt 64 count) _ _ _ _ (halt_of Val ArgumentOutOfRange s r al) (command_of _ s r al)

  lined_of : (line : List ℕ) (n : ℕ) (s : State V T) (r : State W U) → Sim s r → Comes Val (line_result m line n s) (line_result d line n r)
  unfolding line_result
  lined_of line n s r al =
      let k = h.written s.units s.rest r.rest line al.rest in
      let p = h.steady.written line s.rest in
      let x : Out V T V = Ok (m.number n, line_more s (m.written line s.rest)) in
      let y : Out V T V = halt MessageLimit s in
      subst (λ (i : ℕ). Comes Val (cond (nat_lt i 100000) x y) (line_result d line n r)) al.lines
      (match_if Val (nat_lt r.lines 100000) x y _ _
      (record { globals = binds_keep s.units s.rest _ _ _ _ p k al.globals; locals = binds_keep s.units s.rest _ _ _ _ p k al.locals; units = al.units; lines = ap (λ i. i + 1) al.lines; steps = al.steps; rest = k }, h.number _ n) (refl, al))

  performed_of : (function : Function) (text n : List ℕ) (s : State V T) (r : State W U) → Sim s r → Comes Val (function_result m function text n s) (function_result d function text n r)
  unfolding function_result
  performed_of f.Read8 text n s r al = memory_of _ _ _ _ s r al
  performed_of f.Read16 text n s r al = memory_of _ _ _ _ s r al
  performed_of f.Read32 text n s r al = memory_of _ _ _ _ s r al
  performed_of f.Read64 text n s r al = memory_of _ _ _ _ s r al
  performed_of f.Write8 text n s r al = memory_of _ _ _ _ s r al
  performed_of f.Write16 text n s r al = memory_of _ _ _ _ s r al
  performed_of f.Write32 text n s r al = memory_of _ _ _ _ s r al
  performed_of f.Write64 text n s r al = memory_of _ _ _ _ s r al
  performed_of f.ReadAp text n s r al = ap_register_of _ _ _ s r al
  performed_of f.WriteAp text n s r al = ap_register_of _ _ _ s r al
  performed_of f.ReadDp text n s r al = dp_register_of _ _ _ s r al
  performed_of f.WriteDp text n s r al = dp_register_of _ _ _ s r al
  performed_of f.DapDelay text n s r al = zero_of_of _ _ (delay_of _ s r al)
  performed_of f.DapSwjClock text n s r al = zero_of_of _ _ (clock_of _ s r al)
  performed_of f.DapWriteAbort text n s r al = zero_of_of _ _ (abort_of _ s r al)
  performed_of f.DapSwjPins text n s r al = pins_of _ _ _ s r al
  performed_of f.DapSwjSequence text n s r al = zero_of_of _ _ (line_bits_of _ _ s r al)
  performed_of f.DapJtagSequence text n s r al = halt_of Val Unsupported s r al
  performed_of f.Sequence text n s r al = number_of 0 0 s r refl al
  performed_of f.Message text n s r al = lined_of _ _ s r al
  performed_of f.Query text n s r al = lined_of _ _ s r al
  performed_of f.QueryValue text n s r al = lined_of _ _ s r al
  performed_of f.LoadDebugInfo text n s r al = lined_of _ _ s r al

  -- ---- expressions

  sim_if : (b : Bool) (s1 s2 : State V T) (r1 r2 : State W U) → Sim s1 r1 → Sim s2 r2 → Sim (cond b s1 s2) (cond b r1 r2)
  sim_if true s1 s2 r1 r2 k l = k
  sim_if false s1 s2 r1 r2 k l = l

  set_visible_of : (name : List ℕ) (v : V) (w : W) (s : State V T) (r : State W U) → Sim s r → Val s.rest v w → Sim (set_visible name v s) (set_visible name w r)
  set_visible_of name v w s r al a =
      rw (has_in_of (Val s.rest) s.locals r.locals name al.locals)
      (sim_if (has_in r.locals name) _ _ _ _
      (record { globals = al.globals; locals = set_newest_of (Val s.rest) _ _ name v w al.locals a; units = al.units; lines = al.lines; steps = al.steps; rest = al.rest })
      (record { globals = set_in_of (Val s.rest) _ _ name v w al.globals a; locals = al.locals; units = al.units; lines = al.lines; steps = al.steps; rest = al.rest }))

  guarded_at : {A B : Type 0} (S : T → A → B → Type 0) (s : State V T) (r : State W U) (x : Out V T A) (y : Out W U B) (p q ok : Bool) → p ≡ false → (q ≡ true → D None s.rest r.units machine.Lost r.rest) → Goes P s x → Comes S x y
      → Comes S (cond (p && not ok) (Err (machine.Lost, s)) x) (cond (q && not ok) (Err (machine.Lost, r)) y)
  guarded_at S s r x y true q ok e k go c = absurd cc
  guarded_at S s r x y false true true e k go c = c
  guarded_at S s r x y false true false e k go c = dead_on S s x machine.Lost r go (k refl)
  guarded_at S s r x y false false ok e k go c = c

  guarded_of : {A B : Type 0} (S : T → A → B → Type 0) (ok : Bool) (f : State V T → Out V T A) (k : State W U → Out W U B) (s : State V T) (r : State W U) → Sim s r → Goes P s (f s) → Comes S (f s) (k r) → Comes S (guarded_rest m ok f s) (guarded_rest d ok k r)
  unfolding guarded_rest
  guarded_of S ok f k s r al go c = guarded_at S s r (f s) (k r) m.is_watchful d.is_watchful ok h.careless (lost_at s r al) go c

  is_visible_of : (name : List ℕ) (s : State V T) (r : State W U) → Sim s r → is_visible name s ≡ is_visible name r
  is_visible_of name s r al = rw (has_in_of (Val s.rest) s.locals r.locals name al.locals, has_in_of (Val s.rest) s.globals r.globals name al.globals) refl

  stored_of : (name : Name) (v : V) (w : W) (s : State V T) (r : State W U) → Sim s r → Val s.rest v w → Comes Val (stored_value m name v s) (stored_value d name w r)
  unfolding stored_value
  stored_of name v w s r al a =
      rw (is_visible_of name.text s r al) (guarded_of Val (is_visible name.text r) (λ q. Ok (v, set_visible name.text v q)) (λ q. Ok (w, set_visible name.text w q)) s r al
      (record { so = rw (g.stored_rest m P h.steady name.text v s) (h.steady.same s.rest) })
      (set_visible_of name.text v w s r al a, subst (λ t. Val t v w) (sym (g.stored_rest m P h.steady name.text v s)) a))

  named_of : (name : Name) (s : State V T) (r : State W U) → Sim s r → Comes Val (named_value m name s) (named_value d name r)
  unfolding named_value
  named_of name s r al = given_of Val _ _ (visible name.text s) (visible name.text r) s r al (h.number s.rest 0)
      (both_or (Val s.rest) _ _ _ _ (newest_in_of (Val s.rest) _ _ name.text al.locals) (value_in_of (Val s.rest) _ _ name.text al.globals))

  assigned_of : (name : Name) (out : Out V T V) (q : Out W U W) → Comes Val out q → Comes Val (assigned_value m name out) (assigned_value d name q)
  unfolding assigned_value
  assigned_of name out q k = match_then Val Val out q _ _ k (λ x. g.goes_stored m P h.steady name x.0 x.1) (λ x y al a. stored_of name x.0 y.0 x.1 y.1 al a)

  used_now_of : (out : Out V T V) (q : Out W U W) → Comes Val out q → Comes Equal (used_now m out) (used_now d q)
  unfolding used_now
  used_now_of out q k = match_then Val Equal out q _ _ k (λ x. g.goes_use m P h.steady x.0 x.1) (λ x y al a. use_of x.0 y.0 x.1 y.1 al a)

  of_unary_of : (op : UnaryOp) (out : Out V T V) (q : Out W U W) → Comes Val out q → Comes Val (of_unary m op out) (of_unary d op q)
  unfolding of_unary
  of_unary_of op out q k = match_then Equal Val (used_now m out) (used_now d q) _ _ (used_now_of out q k) (λ x. g.goes_ok m P h.steady x.1 _) (λ x y al e. number_of _ _ x.1 y.1 (rw e refl) al)

  both_of : (v v2 : V) (w w2 : W) (s : State V T) (r : State W U) → Sim s r → Val s.rest v w → Val s.rest v2 w2 → Comes Equal (both m v v2 s) (both d w w2 r)
  unfolding both
  both_of v v2 w w2 s r al a b = match_bind Equal Equal s (use_now m v s) (use_now d w r) _ _ (use_of v w s r al a) (g.goes_use m P h.steady v s)
      (λ x. g.goes_bind m P h.steady x.1 (use_now m v2 x.1) _ (g.goes_use m P h.steady v2 x.1) (λ y. g.goes_ok m P h.steady y.1 _))
      (λ x y al2 p e. match_then Equal Equal (use_now m v2 x.1) (use_now d w2 y.1) _ _ (use_of v2 w2 x.1 y.1 al2 (h.keeps _ s.rest x.1.rest y.1.rest v2 w2 p al2.rest b))
      (λ z. g.goes_ok m P h.steady z.1 _) (λ z u al3 e2. (al3, rw (e, e2) refl)))

  abbrev Follows : {A B : Type 0} → (T → A → B → Type 0) → (State V T → Out V T A) → (State W U → Out W U B) → Type 0
  Follows S f k = (s : State V T) (r : State W U) → Sim s r → Comes S (f s) (k r)

  abbrev Goer : {A : Type 0} → (State V T → Out V T A) → Type 0
  Goer f = (s : State V T) → Goes P s (f s)

  operands_of : (s : State V T) (out : Out V T V) (q : Out W U W) (f : State V T → Out V T V) (k : State W U → Out W U W) → Comes Val out q → Goer f → Follows Val f k → Comes Equal (operands m out f) (operands d q k)
  unfolding operands
  operands_of s out q f k c go fol = match_then Val Equal out q _ _ c (λ x. g.goes_bind m P h.steady x.1 (f x.1) _ (go x.1) (λ y. g.goes_both m P h.steady x.0 y.0 y.1))
      (λ x y al a. match_bind Val Equal x.1 (f x.1) (k y.1) _ _ (fol x.1 y.1 al) (go x.1) (λ z. g.goes_both m P h.steady x.0 z.0 z.1)
      (λ z w al2 p b. both_of x.0 z.0 y.0 w.0 z.1 w.1 al2 (h.keeps _ x.1.rest z.1.rest w.1.rest x.0 y.0 p al2.rest a) b))

  results_of : (o : Option ℕ) (s : State V T) (r : State W U) → Sim s r → Comes Val (result_of m o s) (result_of d o r)
  unfolding result_of
  results_of None s r al = halt_of Val DivideByZero s r al
  results_of (Some n) s r al = number_of n n s r refl al

  strict_of : (op : BinaryOp) (s : State V T) (out : Out V T V) (q : Out W U W) (f : State V T → Out V T V) (k : State W U → Out W U W) → Comes Val out q → Goer f → Follows Val f k → Comes Val (strict_binary m op out f) (strict_binary d op q k)
  unfolding strict_binary
  strict_of op s out q f k c go fol = match_then Equal Val (operands m out f) (operands d q k) _ _ (operands_of s out q f k c go fol) (λ x. g.goes_result m P h.steady _ x.1)
      (λ x y al e. rw e (results_of _ x.1 y.1 al))

  truth_of_of : (out : Out V T V) (q : Out W U W) → Comes Val out q → Comes Val (truth_of m out) (truth_of d q)
  unfolding truth_of
  truth_of_of out q c = match_then Equal Val (used_now m out) (used_now d q) _ _ (used_now_of out q c) (λ z. g.goes_ok m P h.steady z.1 _) (λ z w al e. number_of _ _ z.1 w.1 (rw e refl) al)

  conjunction_of : (out : Out V T V) (q : Out W U W) (f : State V T → Out V T V) (k : State W U → Out W U W) → Comes Val out q → Goer f → Follows Val f k → Comes Val (conjunction m out f) (conjunction d q k)
  unfolding conjunction
  conjunction_of out q f k c go fol = match_then Equal Val (used_now m out) (used_now d q) _ _ (used_now_of out q c)
      (λ x. g.goes_cond m P h.steady x.1 (nat_eq x.0 0) _ _ (g.goes_ok m P h.steady x.1 _) (g.goes_truth_of m P h.steady (f x.1) x.1 (go x.1)))
      (λ x y al e. rw e (match_if Val (nat_eq x.0 0) _ _ _ _ (number_of 0 0 x.1 y.1 refl al)
      (truth_of_of (f x.1) (k y.1) (fol x.1 y.1 al))))

  disjunction_of : (out : Out V T V) (q : Out W U W) (f : State V T → Out V T V) (k : State W U → Out W U W) → Comes Val out q → Goer f → Follows Val f k → Comes Val (disjunction m out f) (disjunction d q k)
  unfolding disjunction
  disjunction_of out q f k c go fol = match_then Equal Val (used_now m out) (used_now d q) _ _ (used_now_of out q c)
      (λ x. g.goes_cond m P h.steady x.1 (nat_eq x.0 0) _ _ (g.goes_truth_of m P h.steady (f x.1) x.1 (go x.1)) (g.goes_ok m P h.steady x.1 _))
      (λ x y al e. rw e (match_if Val (nat_eq x.0 0) _ _ _ _
      (truth_of_of (f x.1) (k y.1) (fol x.1 y.1 al))
      (number_of 1 1 x.1 y.1 refl al)))

  of_binary_of : (op : BinaryOp) (s : State V T) (out : Out V T V) (q : Out W U W) (f : State V T → Out V T V) (k : State W U → Out W U W) → Comes Val out q → Goer f → Follows Val f k → Comes Val (of_binary m op out f) (of_binary d op q k)
  unfolding of_binary
  of_binary_of b.And s out q f k c go fol = conjunction_of out q f k c go fol
  of_binary_of b.Or s out q f k c go fol = disjunction_of out q f k c go fol
  of_binary_of op s out q f k c go fol = strict_of op s out q f k c go fol

  choice_of : (out : Out V T V) (q : Out W U W) (f f2 : State V T → Out V T V) (k k2 : State W U → Out W U W) → Comes Val out q → Goer f → Goer f2 → Follows Val f k → Follows Val f2 k2 → Comes Val (choice m out f f2) (choice d q k k2)
  unfolding choice
  choice_of out q f f2 k k2 c go go2 fol fol2 = match_then Equal Val (used_now m out) (used_now d q) _ _ (used_now_of out q c)
      (λ x. g.goes_cond m P h.steady x.1 (nat_eq x.0 0) _ _ (go2 x.1) (go x.1))
      (λ x y al e. rw e (match_if Val (nat_eq x.0 0) _ _ _ _ (fol2 x.1 y.1 al) (fol x.1 y.1 al)))

  appended_of : (got : List V) (got2 : List W) (s : State V T) (out : Out V T V) (q : Out W U W) → Vals s.rest got got2 → Goes P s out → Comes Val out q → Comes Vals (appended_values m got out) (appended_values d got2 q)
  unfolding appended_values
  appended_of got got2 s out q a go c = match_bind Val Vals s out q _ _ c go (λ x. g.goes_ok m P h.steady x.1 _)
      (λ x y al p b. (al, vals_snoc (Val x.1.rest) got got2 x.0 y.0 (vals_keep _ s.rest x.1.rest y.1.rest got got2 p al.rest a) b))

  all_used_of : (vs : List V) (ws : List W) (s : State V T) (r : State W U) → Sim s r → Vals s.rest vs ws → Comes Equal (all_used m vs s) (all_used d ws r)
  unfolding all_used
  all_used_of [] [] s r al a = (al, refl)
  all_used_of [] (w ∷ ws) s r al a = absurd a
  all_used_of (v ∷ vs) [] s r al a = absurd a
  all_used_of (v ∷ vs) (w ∷ ws) s r al a = match_bind Equal Equal s (use_now m v s) (use_now d w r) _ _ (use_of v w s r al a.0) (g.goes_use m P h.steady v s)
      (λ x. g.goes_bind m P h.steady x.1 (all_used m vs x.1) _ (g.goes_all_used m P h.steady vs x.1) (λ y. g.goes_ok m P h.steady y.1 _))
      (λ x y al2 p e. match_then Equal Equal (all_used m vs x.1) (all_used d ws y.1) _ _ (all_used_of vs ws x.1 y.1 al2 (vals_keep _ s.rest x.1.rest y.1.rest vs ws p al2.rest a.1))
      (λ z. g.goes_ok m P h.steady z.1 _) (λ z u al3 e2. (al3, rw (e, e2) refl)))

  numbers_of_of : (out : Out V T (List V)) (q : Out W U (List W)) → Comes Vals out q → Comes Equal (numbers_of m out) (numbers_of d q)
  unfolding numbers_of
  numbers_of_of out q c = match_then Vals Equal out q _ _ c (λ x. g.goes_all_used m P h.steady x.0 x.1) (λ x y al a. all_used_of x.0 y.0 x.1 y.1 al a)

  chained_of : (out : Out V T (List V)) (q : Out W U (List W)) (f : List V → State V T → Out V T (List V)) (k : List W → State W U → Out W U (List W)) → Comes Vals out q → ((vs : List V) → Goer (f vs))
      → ((vs : List V) (ws : List W) (s : State V T) (r : State W U) → Sim s r → Vals s.rest vs ws → Comes Vals (f vs s) (k ws r)) → Comes Vals (chained_values m out f) (chained_values d q k)
  unfolding chained_values
  chained_of out q f k c go fol = match_then Vals Vals out q _ _ c (λ x. go x.0 x.1) (λ x y al a. fol x.0 y.0 x.1 y.1 al a)

  -- ---- steps

  abbrev Any : {A B : Type 0} → T → A → B → Type 0
  Any t x y = ⊤

  counted_of : (s : State V T) (r : State W U) → Sim s r → Comes Equal (counted_step m s) (counted_step d r)
  unfolding counted_step
  counted_of s r al =
      let x : Out V T (Unit {0}) = Ok (tt, step_more s) in
      let y : Out V T (Unit {0}) = halt StepLimit s in
      subst (λ (i : ℕ). Comes Equal (cond (nat_lt i 100000000) x y) (counted_step d r)) al.steps
      (match_if Equal (nat_lt r.steps 100000000) x y _ _
      (record { globals = al.globals; locals = al.locals; units = al.units; lines = al.lines; steps = ap (λ i. i + 1) al.steps; rest = al.rest }, refl) (refl, al))

  declared_of : (name : Name) (out : Out V T V) (q : Out W U W) → Comes Val out q → Comes Equal (declared_variable m name out) (declared_variable d name q)
  unfolding declared_variable
  declared_of name out q c = match_then Val Equal out q _ _ c (λ x. record { so = h.steady.same x.1.rest })
      (λ x y al a. (record { globals = al.globals; locals = binds_append (Val x.1.rest) _ _ name.text x.0 y.0 al.locals a; units = al.units; lines = al.lines; steps = al.steps; rest = al.rest }, refl))

  dropped_of : (out : Out V T V) (q : Out W U W) → Comes Val out q → Comes Equal (dropped_value m out) (dropped_value d q)
  unfolding dropped_value
  dropped_of out q c = match_then Val Equal out q _ _ c (λ x. g.goes_ok m P h.steady x.1 _) (λ x y al a. (al, refl))

  after_counted_of : (f : State V T → Out V T (Unit {0})) (k : State W U → Out W U (Unit {0})) → Goer f → Follows Equal f k → Follows Equal (after_counted m f) (after_counted d k)
  unfolding after_counted
  after_counted_of f k go fol s r al = match_then Equal Equal (counted_step m s) (counted_step d r) _ _ (counted_of s r al) (λ x. go x.1) (λ x y al2 e. fol x.1 y.1 al2)

  in_order_of : (out : Out V T (Unit {0})) (q : Out W U (Unit {0})) (f : State V T → Out V T (Unit {0})) (k : State W U → Out W U (Unit {0})) → Comes Equal out q → Goer f → Follows Equal f k → Comes Equal (in_order m out f) (in_order d q k)
  unfolding in_order
  in_order_of out q f k c go fol = match_then Equal Equal out q _ _ c (λ x. go x.1) (λ x y al e. fol x.1 y.1 al)

  inside_of : (f : State V T → Out V T (Unit {0})) (k : State W U → Out W U (Unit {0})) → Follows Equal f k → Follows Equal (inside m f) (inside d k)
  unfolding inside
  inside_of f k fol s r al = match_then Equal Equal (f s) (k r) _ _ (fol s r al) (λ x. record { so = h.steady.same x.1.rest })
      (λ x y al2 e. (
        record {
          globals = al2.globals;
          locals = subst (λ i. Binds (Val x.1.rest) (take (length s.locals) x.1.locals) (take i y.1.locals)) (binds_length (Val s.rest) s.locals r.locals al.locals) (binds_take (Val x.1.rest) (length s.locals) x.1.locals y.1.locals al2.locals);
          units = al2.units;
          lines = al2.lines;
          steps = al2.steps;
          rest = al2.rest;
        },
        refl,
      ))

  turn_of : (test : State V T → Out V T V) (test2 : State W U → Out W U W) (f : State V T → Out V T (Unit {0})) (k : State W U → Out W U (Unit {0})) → Goer test → Follows Val test test2 → Goer f → Follows Equal f k → Follows Equal (turn m test f) (turn d test2 k)
  unfolding turn
  turn_of test test2 f k go fol go2 fol2 s r al = match_then Equal Equal (counted_step m s) (counted_step d r) _ _ (counted_of s r al)
      (λ c. g.goes_bind m P h.steady c.1 (used_now m (test c.1)) _ (g.goes_used_now m P h.steady (test c.1) c.1 (go c.1)) (λ x. rest_goes x.0 x.1))
      (λ c e al2 i. match_then Equal Equal (used_now m (test c.1)) (used_now d (test2 e.1)) _ _ (used_now_of _ _ (fol c.1 e.1 al2)) (λ x. rest_goes x.0 x.1)
      (λ x y al3 j. rw j (match_if Equal (nat_eq x.0 0) _ _ _ _ (al3, refl)
      (match_then Equal Equal (f x.1) (k y.1) _ _ (fol2 x.1 y.1 al3) (λ z. g.goes_ok m P h.steady z.1 true) (λ z w al4 e4. (al4, refl))))))
    where
      rest_goes : (n : ℕ) (q : State V T) → Goes P q (cond (nat_eq n 0) (Ok (false, q)) (f q >>= λ y. Ok (true, y.1)))
      rest_goes n q = g.goes_cond m P h.steady q (nat_eq n 0) _ _ (g.goes_ok m P h.steady q false) (g.goes_bind m P h.steady q (f q) _ (go2 q) (λ y. g.goes_ok m P h.steady y.1 true))

  turns_of : (test : State V T → Out V T V) (test2 : State W U → Out W U W) (f : State V T → Out V T (Unit {0})) (k : State W U → Out W U (Unit {0})) (n : ℕ) → Goer test → Follows Val test test2 → Goer f → Follows Equal f k → Follows Equal (turns m test f n) (turns d test2 k n)
  unfolding turns
  turns_of test test2 f k zero go fol go2 fol2 s r al = (al, refl)
  turns_of test test2 f k (suc n) go fol go2 fol2 s r al = match_then Equal Equal (turn m test f s) (turn d test2 k r) _ _ (turn_of test test2 f k go fol go2 fol2 s r al)
      (λ x. g.goes_cond m P h.steady x.1 x.0 _ _ (g.goes_turns m P h.steady test f n x.1 go go2) (g.goes_ok m P h.steady x.1 tt))
      (λ x y al2 e. rw e (match_if Equal x.0 _ _ _ _ (turns_of test test2 f k n go fol go2 fol2 x.1 y.1 al2) (al2, refl)))

  polled_at_of : (form : ℕ × ℕ) (n dp : ℕ) (s : State V T) (r : State W U) → Sim s r → Comes Equal (poll_result_at m form n dp s) (poll_result_at d form n dp r)
  unfolding poll_result_at
  polled_at_of form n dp s r al = match_if Equal (nat_eq dp 0) _ _ _ _ (dropped_of _ _ (ask_of _ false s r al)) (halt_of {A = Unit {0}} {B = Unit {0}} Equal Unsupported s r al)

  polled_of : (form : ℕ × ℕ) (n : ℕ) → Follows Equal (poll_result m form n) (poll_result d form n)
  unfolding poll_result
  polled_of form n s r al = match_then Equal Equal (counted_step m s) (counted_step d r) _ _ (counted_of s r al)
      (λ x. g.goes_bind m P h.steady x.1 (global m (codes "__dp") x.1) _ (g.goes_global m P h.steady _ x.1) (λ y. g.goes_polled_at m P h.steady form n y.0 y.1))
      (λ x y al2 e. match_then Equal Equal (global m (codes "__dp") x.1) (global d (codes "__dp") y.1) _ _ (global_of (codes "__dp") x.1 y.1 al2) (λ z. g.goes_polled_at m P h.steady form n z.0 z.1)
      (λ z w al3 e2. rw e2 (polled_at_of form n z.0 z.1 w.1 al3)))

  both_same : {A : Type 0} (t : T) (o : Option A) → Both (Equal t) o o
  both_same t None = tt
  both_same t (Some x) = refl

  -- ---- where what calls of sequences do is related
  module _ (seq : List ℕ → State V T → Out V T (Unit {0})) (seq2 : List ℕ → State W U → Out W U (Unit {0})) (gs : (name : List ℕ) → Goer (seq name)) (fs : (name : List ℕ) → Follows Equal (seq name) (seq2 name)) where
    called_of : (function : Option Function) (text n : List ℕ) (s : State V T) (r : State W U) → Sim s r → Comes Val (call_result m seq function text n s) (call_result d seq2 function text n r)
    unfolding call_result
    called_of None text n s r al = missing_of Val _ _ s r al (h.number s.rest 0)
    called_of (Some f.Sequence) text n s r al = match_then Equal Val (seq text s) (seq2 text r) _ _ (fs text s r al) (λ x. g.goes_ok m P h.steady x.1 _) (λ x y al2 e. number_of 0 0 x.1 y.1 refl al2)
    called_of (Some function) text n s r al = performed_of function text n s r al

    call_of_of : (name : Name) (args : ArgTrees) (out : Out V T (List V)) (q : Out W U (List W)) → Comes Vals out q → Comes Val (call_of m seq name args out) (call_of d seq2 name args q)
    unfolding call_of
    call_of_of name args out q c = match_then Equal Val (numbers_of m out) (numbers_of d q) _ _ (numbers_of_of out q c)
        (λ x. g.goes_guarded m P h.steady _ _ x.1 (g.goes_called m P h.steady seq gs (function_named name.text) _ x.0 x.1))
        (λ x y al e. rw e (guarded_of Val (is_call (function_named name.text) args) _ _ x.1 y.1 al (g.goes_called m P h.steady seq gs (function_named name.text) _ x.0 x.1) (called_of (function_named name.text) _ x.0 x.1 y.1 al)))

    mutual
      unfolding value

      value_of : (e : Tree) → Follows Val (value m seq e) (value d seq2 e)
      value_of (t.Number n) s r al = number_of n n s r refl al
      value_of (t.Named name) s r al = named_of name s r al
      value_of (t.Group a) s r al = value_of a s r al
      value_of (t.Unary op a) s r al = of_unary_of op _ _ (value_of a s r al)
      value_of (t.Binary op a e) s r al = of_binary_of op s _ _ _ _ (value_of a s r al) (λ q. g.goes_value m P h.steady seq gs e q) (λ q p al2. value_of e q p al2)
      value_of (t.Cond e a b) s r al = choice_of _ _ _ _ _ _ (value_of e s r al) (λ q. g.goes_value m P h.steady seq gs a q) (λ q. g.goes_value m P h.steady seq gs b q) (λ q p al2. value_of a q p al2) (λ q p al2. value_of b q p al2)
      value_of (t.Assign name a) s r al = assigned_of name _ _ (value_of a s r al)
      value_of (t.Call name args) s r al = call_of_of name args _ _ (arguments_of args [] [] s r al tt)

      argument_of : (a : ArgTree) (got : List V) (got2 : List W) (s : State V T) (r : State W U) → Sim s r → Vals s.rest got got2 → Comes Vals (argument m seq a got s) (argument d seq2 a got2 r)
      argument_of (t.ExprArg at e) got got2 s r al a = appended_of got got2 s _ _ a (g.goes_value m P h.steady seq gs e s) (value_of e s r al)
      argument_of (t.TextArg x) got got2 s r al a = (al, a)

      arguments_of : (args : ArgTrees) (got : List V) (got2 : List W) (s : State V T) (r : State W U) → Sim s r → Vals s.rest got got2 → Comes Vals (arguments m seq args got s) (arguments d seq2 args got2 r)
      arguments_of t.NoArgs got got2 s r al a = (al, a)
      arguments_of (t.MoreArgs x more) got got2 s r al a = chained_of _ _ _ _ (argument_of x got got2 s r al a) (λ q p. g.goes_arguments m P h.steady seq gs more q p) (λ q q2 p p2 al2 a2. arguments_of more q q2 p p2 al2 a2)

    module _ (turn_us : ℕ) where
      abbrev gv : (e : Tree) → Goer (value m seq e)
      gv e q = g.goes_value m P h.steady seq gs e q

      statement_of : (st : StmtTree) → Follows Equal (statement m turn_us seq st) (statement d turn_us seq2 st)
      unfolding statement
      statement_of (t.Empty at) s r al = counted_of s r al
      statement_of (t.Declare name e) s r al = after_counted_of _ _ (λ q. g.goes_declared m P h.steady name _ q (gv e q)) (λ q p al2. declared_of name _ _ (value_of e q p al2)) s r al
      statement_of (t.Plain at e) s r al = after_counted_of _ _ (λ q. g.goes_dropped m P h.steady _ q (gv e q)) (λ q p al2. dropped_of _ _ (value_of e q p al2)) s r al

      block_of : (code : List StmtTree) → Follows Equal (block m turn_us seq code) (block d turn_us seq2 code)
      unfolding block
      block_of [] s r al = (al, refl)
      block_of (st ∷ code) s r al = in_order_of _ _ _ _ (statement_of st s r al) (λ q. g.goes_block m P h.steady seq gs turn_us code q) (λ q p al2. block_of code q p al2)

      condition_of : (o : Option Tree) → Follows Equal (condition m turn_us seq o) (condition d turn_us seq2 o)
      unfolding condition
      condition_of None s r al = (al, refl)
      condition_of (Some e) s r al = match_then Equal Equal (used_now m (value m seq e s)) (used_now d (value d seq2 e r)) _ _ (used_now_of _ _ (value_of e s r al)) (λ x. g.goes_ok m P h.steady x.1 _) (λ x y al2 i. (al2, rw i refl))

      looped_of : (o : Option (ℕ × ℕ)) (e : Tree) (n : ℕ) (f : State V T → Out V T (Unit {0})) (k : State W U → Out W U (Unit {0})) → Goer f → Follows Equal f k → Follows Equal (loop_result m turn_us seq o e n f) (loop_result d turn_us seq2 o e n k)
      unfolding loop_result
      looped_of (Some form) e n f k go fol s r al = polled_of form n s r al
      looped_of None e n f k go fol s r al = turns_of _ _ _ _ n (gv e) (λ q p al2. value_of e q p al2) (λ q. g.goes_inside m P h.steady f q go) (inside_of f k fol) s r al

      repeated_of : (o : Option Tree) (timeout : Option ℕ) (steps : CodeSteps) (f : State V T → Out V T (Unit {0})) (k : State W U → Out W U (Unit {0})) → Goer f → Follows Equal f k → Follows Equal (repeat_result m turn_us seq o timeout steps f) (repeat_result d turn_us seq2 o timeout steps k)
      unfolding repeat_result
      repeated_of None timeout steps f k go fol s r al = inside_of f k fol s r al
      repeated_of (Some e) timeout steps f k go fol s r al = match_then Equal Equal (value_or_missing m 0 (timeout_of timeout) s) (value_or_missing d 0 (timeout_of timeout) r) _ _ (given_of Equal 0 0 (timeout_of timeout) (timeout_of timeout) s r al refl (both_same s.rest (timeout_of timeout)))
          (λ x. g.goes_looped m P h.steady seq gs turn_us (poll_of e steps) e _ f x.1 go)
          (λ x y al2 i. rw i (looped_of (poll_of e steps) e _ f k go fol x.1 y.1 al2))

      controlled_of : (o o2 : Option Tree) (timeout : Option ℕ) (steps : CodeSteps) (f : State V T → Out V T (Unit {0})) (k : State W U → Out W U (Unit {0})) → Goer f → Follows Equal f k → Follows Equal (control_result m turn_us seq o o2 timeout steps f) (control_result d turn_us seq2 o o2 timeout steps k)
      unfolding control_result
      controlled_of o o2 timeout steps f k go fol s r al = match_then Equal Equal (condition m turn_us seq o s) (condition d turn_us seq2 o r) _ _ (condition_of o s r al)
          (λ x. g.goes_cond m P h.steady x.1 x.0 _ _ (g.goes_repeated m P h.steady seq gs turn_us o2 timeout steps f x.1 go) (g.goes_ok m P h.steady x.1 tt))
          (λ x y al2 i. rw i (match_if Equal x.0 _ _ _ _ (repeated_of o2 timeout steps f k go fol x.1 y.1 al2) (al2, refl)))

      mutual
        unfolding step

        step_of : (st : CodeStep) → Follows Equal (step m turn_us seq st) (step d turn_us seq2 st)
        step_of (c.Block code) s r al = block_of code s r al
        step_of (c.Control cond repeat timeout steps) s r al = controlled_of cond repeat timeout steps _ _ (λ q. g.goes_done m P h.steady seq gs turn_us steps q) (λ q p al2. done_of steps q p al2) s r al

        done_of : (steps : CodeSteps) → Follows Equal (steps_result m turn_us seq steps) (steps_result d turn_us seq2 steps)
        done_of c.NoSteps s r al = (al, refl)
        done_of (c.MoreSteps first more) s r al = in_order_of _ _ _ _ (step_of first s r al) (λ q. g.goes_done m P h.steady seq gs turn_us more q) (λ q p al2. done_of more q p al2)

  -- ---- sequences

  of_both : (t : T) (o : Option V) (p : Option W) → Both (Val t) o p → Val t (unwrap_or o (m.number 0)) (unwrap_or p (d.number 0))
  of_both t None None k = h.number t 0
  of_both t None (Some w) k = absurd k
  of_both t (Some v) None k = absurd k
  of_both t (Some v) (Some w) k = k

  given_back_of : (t : T) (before now : List (Binding V)) (before2 now2 : List (Binding W)) → Binds (Val t) before before2 → Binds (Val t) now now2 → Binds (Val t) (given_back m before now) (given_back d before2 now2)
  given_back_of t before now before2 now2 a b =
      set_in_of (Val t) _ _ _ _ _ (set_in_of (Val t) _ _ _ _ _ (set_in_of (Val t) now now2 (codes "__dp") _ _ b (one (codes "__dp"))) (one (codes "__ap"))) (one (codes "__errorcontrol"))
    where
      one : (name : List ℕ) → Val t (unwrap_or (value_named before name) (m.number 0)) (unwrap_or (value_named before2 name) (d.number 0))
      one name = of_both t _ _ (value_in_of (Val t) before before2 name a)

  entered_of : (f : State V T → Out V T (Unit {0})) (k : State W U → Out W U (Unit {0})) → Goer f → Follows Equal f k → Follows Equal (sequence_result m f) (sequence_result d k)
  unfolding sequence_result
  entered_of f k go fol s r al = match_bind Equal Equal (with_locals s []) (f (with_locals s [])) (k (with_locals r [])) _ _
      (fol (with_locals s []) (with_locals r []) (record { globals = al.globals; locals = tt; units = al.units; lines = al.lines; steps = al.steps; rest = al.rest }))
      (go (with_locals s [])) (λ x. record { so = h.steady.same x.1.rest })
      (λ x y al2 p e. (
        record {
          globals = given_back_of x.1.rest s.globals x.1.globals r.globals y.1.globals (binds_keep _ s.rest x.1.rest y.1.rest _ _ p al2.rest al.globals) al2.globals;
          locals = binds_keep _ s.rest x.1.rest y.1.rest _ _ p al2.rest al.locals;
          units = al2.units;
          lines = al2.lines;
          steps = al2.steps;
          rest = al2.rest;
        },
        refl,
      ))

  module _ (turn_us : ℕ) (set : SetTrees) where
    steps_at_of : (name : List ℕ) → Follows Equal (steps_at m turn_us set name) (steps_at d turn_us set name)
    unfolding steps_at
    steps_at_of name s r al = given_of Equal c.NoSteps c.NoSteps _ _ s r al refl (both_same s.rest (steps_named name set.sequences))

    pub sequence_of : (i : ℕ) (name : List ℕ) → Follows Equal (sequence_at m turn_us set i name) (sequence_at d turn_us set i name)
    unfolding sequence_at
    sequence_of zero name s r al = missing_of Equal tt tt s r al refl
    sequence_of (suc i) name s r al = entered_of _ _
        (λ q. g.goes_bind m P h.steady q (steps_at m turn_us set name q) _ (g.goes_steps_at m P h.steady turn_us set name q) (λ x. g.goes_done m P h.steady _ (λ n p. g.goes_sequence m P h.steady turn_us set i n p) turn_us x.0 x.1))
        (λ q p al2. match_then Equal Equal (steps_at m turn_us set name q) (steps_at d turn_us set name p) _ _ (steps_at_of name q p al2)
        (λ x. g.goes_done m P h.steady _ (λ n y. g.goes_sequence m P h.steady turn_us set i n y) turn_us x.0 x.1)
        (λ x y al3 e. rw e (done_of (λ n z. sequence_at m turn_us set i n z) (λ n z. sequence_at d turn_us set i n z) (λ n z. g.goes_sequence m P h.steady turn_us set i n z) (λ n. sequence_of i n) turn_us x.0 x.1 y.1 al3))) s r al

    pub debugged_of : (code : List StmtTree) → Follows Equal (debug_result m turn_us set code) (debug_result d turn_us set code)
    unfolding debug_result
    debugged_of [] s r al = (al, refl)
    debugged_of (t.Empty at ∷ code) s r al = debugged_of code s r al
    debugged_of (t.Declare name e ∷ code) s r al = match_then Val Equal (value m (λ n q. sequence_at m turn_us set 0 n q) e s) (value d (λ n q. sequence_at d turn_us set 0 n q) e r) _ _
        (value_of (λ n q. sequence_at m turn_us set 0 n q) (λ n q. sequence_at d turn_us set 0 n q) (λ n q. g.goes_sequence m P h.steady turn_us set 0 n q) (λ n. sequence_of 0 n) e s r al)
        (λ x. g.goes_bind m P h.steady x.1 (stored_value m name x.0 x.1) _ (g.goes_stored m P h.steady name x.0 x.1) (λ y. g.goes_debugged m P h.steady turn_us set code y.1))
        (λ x y al2 a. match_then Val Equal (stored_value m name x.0 x.1) (stored_value d name y.0 y.1) _ _ (stored_of name x.0 y.0 x.1 y.1 al2 a) (λ z. g.goes_debugged m P h.steady turn_us set code z.1)
        (λ z w al3 b. debugged_of code z.1 w.1 al3))
    debugged_of (t.Plain at e ∷ code) s r al = debugged_of code s r al

    -- a whole run
    pub run_of_of : (start : List ℕ) → Follows Equal (run_of m turn_us set start) (run_of d turn_us set start)
    unfolding run_of
    run_of_of start s r al = match_then Equal Equal (debug_result m turn_us set set.debugvars s) (debug_result d turn_us set set.debugvars r) _ _ (debugged_of set.debugvars s r al)
        (λ x. g.goes_bind m P h.steady x.1 (steps_at m turn_us set start x.1) _ (g.goes_steps_at m P h.steady turn_us set start x.1) (λ y. g.goes_done m P h.steady _ (λ n p. g.goes_sequence m P h.steady turn_us set 31 n p) turn_us y.0 y.1))
        (λ x y al2 e. match_then Equal Equal (steps_at m turn_us set start x.1) (steps_at d turn_us set start y.1) _ _ (steps_at_of start x.1 y.1 al2)
        (λ z. g.goes_done m P h.steady _ (λ n p. g.goes_sequence m P h.steady turn_us set 31 n p) turn_us z.0 z.1)
        (λ z w al3 e2. rw e2 (done_of (λ n q. sequence_at m turn_us set 31 n q) (λ n q. sequence_at d turn_us set 31 n q) (λ n x2. g.goes_sequence m P h.steady turn_us set 31 n x2) (λ n. sequence_of 31 n) turn_us z.0 z.1 w.1 al3)))
