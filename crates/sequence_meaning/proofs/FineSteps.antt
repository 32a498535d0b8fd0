-- Steps without faults lack nothing, where the sequences that they call lack nothing.
use Rattle.std.proofs.Common.{◌≡◌, ◌<◌, ℕ, zero, suc, Bool, true, false, cond, ◌&&◌, ◌||◌, List, [], ◌∷◌, ◌++◌, length, take, nat_eq, nat_lt, nat_le, Option, None, Some, Contains, codes, refl, sym, ap, subst, ◌∙◌, arith, bytes_eq}
use Rattle.std.proofs.lemmas.List.{append_assoc}
use Rattle.std.proofs.lemmas.List.Elements.{Contains-append_left, Contains-append_right}
use Rattle.expr_grammar.specs.Tree as t
use Rattle.expr_grammar.specs.Tree.{Tree, StmtTree}
use Rattle.expr_grammar.specs.Names.{has_name}
use Rattle.code_check.specs.First as first
use Rattle.code_check.specs.ExprFaults.{Scope, ExprFault}
use Rattle.code_check.specs.BlockFaults.{names_after, names_after_all, seeing, StmtFault, BlockFault}
use Rattle.code_check.specs.declared.fault.CodeFault.{CodeFault}
use Rattle.code_check.specs.declared.fault.FaultKind.TheVariants as kinds
use Rattle.sequence_trees.specs.Trees as c
use Rattle.sequence_trees.specs.Trees.{CodeStep, CodeSteps}
use Rattle.sequence_trees.specs.declared.spot.Part.{Part}
use Rattle.sequence_trees.specs.declared.spot.Part.TheVariants as parts
use Rattle.seq_check.specs.Calls.{number_of, expr_calls, statement_calls, block_calls, condition_calls, calls_at, step_calls, steps_calls}
use Rattle.seq_check.specs.StepFaults.{StepFault, under, ConditionFault, TimeoutFault, LoopFault, OwnFault, names_after_step, FaultInStep, FaultInSteps}
use Rattle.seq_check.specs.declared.calls.TextCall.{TextCall}
use Rattle.seq_check.specs.declared.step_calls.StepCall.{StepCall}
use Rattle.sequence_rules.specs.declared.bindings.Binding.{Binding}
use Rattle.sequence_rules.specs.Calls.{global}
use Rattle.sequence_rules.specs.Complete.{names_in}
use Rattle.sequence_rules.specs.Machine.{Machine, State, Out}
use Rattle.sequence_rules.specs.Polls.{poll_of}
use Rattle.sequence_rules.specs.Steps.{is_timeout, timeout_of, turn_count, counted_step, after_counted, declared_variable, dropped_value, in_order, inside, turn, turns, poll_result_at, poll_result, statement, block, condition, loop_result, repeat_result, control_result, step, steps_result}
use Rattle.sequence_rules.specs.Values.{used_now, value}
use Rattle.sequence_rules.proofs.NameLemmas.{last_names}
use Rattle.sequence_meaning.proofs.Fine.{Fine, fine_bind, fine_cond, fine_given, Has}
use Rattle.sequence_meaning.proofs.FineCalls.{LacksNothing, fine_global, fine_ask}
use Rattle.sequence_meaning.proofs.FineValues.{Runs, AreGood, good_left, good_right, fine_used, fine_value}
use Rattle.dap_base.proofs.Basics.{contains_map}
use Rattle.expr_grammar.specs.Bare.{nowhere}

-- ---- names

seen_one : (p q r w : Bool) → (w ≡ true → (q || r) ≡ true) → (p || w) ≡ true → (q || (p || r)) ≡ true
seen_one p true r w k h = refl
seen_one true false r w k h = refl
seen_one false false r w k h = k h

pub seen_append : (gs ls : List (List ℕ)) (n : List ℕ) → has_name (gs ++ ls) n ≡ true → (has_name ls n || has_name gs n) ≡ true
seen_append [] ls n h = rw h refl
seen_append (x ∷ gs) ls n h = seen_one (bytes_eq n x) (has_name ls n) (has_name gs n) (has_name (gs ++ ls) n) (seen_append gs ls n) h

-- the names of the running sequence after a statement, statements, a step, and steps
abbrev pub own_after : List (List ℕ) → StmtTree → List (List ℕ)
own_after ls (t.Empty at) = ls
own_after ls (t.Declare name e) = ls ++ name.text ∷ []
own_after ls (t.Plain at e) = ls

abbrev pub own_all : List (List ℕ) → List StmtTree → List (List ℕ)
own_all ls [] = ls
own_all ls (st ∷ code) = own_all (own_after ls st) code

abbrev pub own_step : List (List ℕ) → CodeStep → List (List ℕ)
own_step ls (c.Block code) = own_all ls code
own_step ls (c.Control cond repeat timeout steps) = ls

abbrev pub own_steps : List (List ℕ) → CodeSteps → List (List ℕ)
own_steps ls c.NoSteps = ls
own_steps ls (c.MoreSteps one more) = own_steps (own_step ls one) more

abbrev Extends : List (List ℕ) → List (List ℕ) → Type 0
Extends ls ks = (more : List (List ℕ)) × (ks ≡ ls ++ more)

extends_on : (a b d : List (List ℕ)) → Extends a b → Extends b d → Extends a d
extends_on a b d h k = (h.0 ++ k.0, rw (k.1, h.1) (append_assoc a h.0 k.0))

pub append_none : (xs : List (List ℕ)) → xs ≡ xs ++ []
append_none [] = refl
append_none (x ∷ xs) = ap (λ r. x ∷ r) (append_none xs)

extends_same : (a : List (List ℕ)) → Extends a a
extends_same a = ([], append_none a)

after_extends : (ls : List (List ℕ)) (st : StmtTree) → Extends ls (own_after ls st)
after_extends ls (t.Empty at) = extends_same ls
after_extends ls (t.Declare name e) = (name.text ∷ [], refl)
after_extends ls (t.Plain at e) = extends_same ls

all_extends : (ls : List (List ℕ)) (code : List StmtTree) → Extends ls (own_all ls code)
all_extends ls [] = extends_same ls
all_extends ls (st ∷ code) = extends_on ls (own_after ls st) (own_all (own_after ls st) code) (after_extends ls st) (all_extends (own_after ls st) code)

step_extends : (ls : List (List ℕ)) (one : CodeStep) → Extends ls (own_step ls one)
step_extends ls (c.Block code) = all_extends ls code
step_extends ls (c.Control cond repeat timeout steps) = extends_same ls

steps_extend : (ls : List (List ℕ)) (steps : CodeSteps) → Extends ls (own_steps ls steps)
steps_extend ls c.NoSteps = extends_same ls
steps_extend ls (c.MoreSteps one more) = extends_on ls (own_step ls one) (own_steps (own_step ls one) more) (step_extends ls one) (steps_extend (own_step ls one) more)

take_front : (ls more : List (List ℕ)) → take (length ls) (ls ++ more) ≡ ls
take_front [] [] = refl
take_front [] (x ∷ more) = refl
take_front (x ∷ ls) more = ap (λ r. x ∷ r) (take_front ls more)

names_take : {V : Type 0} (n : ℕ) (bs : List (Binding V)) → names_in (take n bs) ≡ take n (names_in bs)
names_take zero [] = refl
names_take zero (b ∷ bs) = refl
names_take (suc n) [] = refl
names_take (suc n) (b ∷ bs) = ap (λ r. b.name ∷ r) (names_take n bs)

names_length : {V : Type 0} (bs : List (Binding V)) → length (names_in bs) ≡ length bs
names_length [] = refl
names_length (b ∷ bs) = ap suc (names_length bs)

false_of : (b : Bool) → ¬ (b ≡ true) → b ≡ false
false_of true h = absurd (h refl)
false_of false h = refl

-- what the check sees after a statement without faults
stmt_names : (gs ls : List (List ℕ)) (sc : Scope) (st : StmtTree) → sc.visible ≡ gs ++ ls → ((g : CodeFault) → StmtFault sc st g → ⊥) → names_after sc.visible st ≡ gs ++ own_after ls st
stmt_names gs ls sc (t.Empty at) same no' = same
stmt_names gs ls sc (t.Declare name e) same no' =
    let new : has_name sc.visible name.text ≡ false = false_of _ (λ h. no' (record { place = name.at; kind = kinds.Redeclared }) (first.here (record { cause = h; is = refl }))) in
    ap (λ b. cond b sc.visible (sc.visible ++ name.text ∷ [])) new ∙ ap (λ vs. vs ++ name.text ∷ []) same ∙ append_assoc gs ls (name.text ∷ [])
stmt_names gs ls sc (t.Plain at e) same no' = same

block_names : (gs ls : List (List ℕ)) (sc : Scope) (code : List StmtTree) → sc.visible ≡ gs ++ ls → ((g : CodeFault) → BlockFault sc code g → ⊥) → names_after_all sc.visible code ≡ gs ++ own_all ls code
block_names gs ls sc [] same no' = same
block_names gs ls sc (st ∷ code) same no' =
    block_names gs (own_after ls st) (seeing sc (names_after sc.visible st)) code (stmt_names gs ls sc st same (λ g x. no' g (first.here x))) (λ g x. no' g (first.there x))

step_names : (gs ls : List (List ℕ)) (sc : Scope) → sc.visible ≡ gs ++ ls → (around : ℕ) (one : CodeStep) → ((g : StepFault) → FaultInStep sc around one g → ⊥) → names_after_step sc.visible one ≡ gs ++ own_step ls one
step_names gs ls sc same around (c.Block code) no' = block_names gs ls sc code same (λ g x. no' (record { path = []; part = parts.Block; fault = g }) (record { own = refl; part_is = refl; holds = x }))
step_names gs ls sc same around (c.Control cond repeat timeout steps) no' = same

-- ---- calls

-- each of the calls of steps is a good one
abbrev pub AreGoodCalls : (ℕ → Type 0) → List StepCall → Type 0
AreGoodCalls Good calls = (call : StepCall) → Contains calls call → Good call.callee

calls_left : (Good : ℕ → Type 0) (xs ys : List StepCall) → AreGoodCalls Good (xs ++ ys) → AreGoodCalls Good xs
calls_left Good xs ys h call k = h call (Contains-append_left xs ys call k)

calls_right : (Good : ℕ → Type 0) (xs ys : List StepCall) → AreGoodCalls Good (xs ++ ys) → AreGoodCalls Good ys
calls_right Good xs ys h call k = h call (Contains-append_right xs ys call k)

calls_of_text : (Good : ℕ → Type 0) (path : List ℕ) (part : Part) (calls : List TextCall) → AreGoodCalls Good (calls_at path part calls) → AreGood Good calls
calls_of_text Good path part calls h call k =
    h (record { path = path; part = part; place = call.place; callee = call.callee }) (contains_map (λ (x : TextCall). record { path = path; part = part; place = x.place; callee = x.callee }) calls call k)

-- ---- loops

timeout_fine : (timeout : ℕ) → ((g : CodeFault) → TimeoutFault (Some timeout) g → ⊥) → ¬ (timeout ≡ 0) → timeout_of (Some timeout) ≡ Some timeout
timeout_fine timeout no' some =
    let few : ¬ (60000000 < timeout) = λ h. no' (record { place = nowhere; kind = kinds.TimeoutTooLong }) (record { cause = h; is = refl }) in
    let test : is_timeout timeout ≡ true = both (nat_lt 0 timeout) (nat_le timeout 60000000) (grind arith) (grind arith) in
    ap (λ b. cond b (Some timeout) None) test
  where
    both : (p q : Bool) → p ≡ true → q ≡ true → (p && q) ≡ true
    both true q h k = k
    both false q h k = h

loop_fine : (e : Tree) (timeout : Option ℕ) → ((g : CodeFault) → TimeoutFault timeout g → ⊥) → ((g : CodeFault) → LoopFault (Some e) timeout g → ⊥) → (w : ℕ) × (timeout_of timeout ≡ Some w)
loop_fine e None no' bad = absurd (bad (record { place = nowhere; kind = kinds.UnboundedLoop }) (record { cause = tt; is = refl }))
loop_fine e (Some timeout) no' bad = (timeout, timeout_fine timeout no' (λ h. bad (record { place = nowhere; kind = kinds.UnboundedLoop }) (record { cause = h; is = refl })))

-- ---- steps

module _ {V T : Type 0} (m : Machine V T) (safe : LacksNothing m) (gs : List (List ℕ)) (turn_us : ℕ) (seq : List ℕ → State V T → Out V T (Unit {0}))
    (names : List (List ℕ)) (Good : ℕ → Type 0) (runs : (name : List ℕ) → has_name names name ≡ true → Good (number_of names name) → Runs gs seq name)
    (dp_there : has_name gs (codes "__dp") ≡ true) (ap_there : has_name gs (codes "__ap") ≡ true) (control_there : has_name gs (codes "__errorcontrol") ≡ true) where
  abbrev S : Type 0
  S = State V T

  fine_expr : (ls : List (List ℕ)) (sc : Scope) → sc.visible ≡ gs ++ ls → sc.sequences ≡ names → (e : Tree) → ((g : CodeFault) → ExprFault sc e g → ⊥) → AreGood Good (expr_calls names e)
      → (s : S) → Has gs ls s → Fine (Has gs ls) (value m seq e s)
  fine_expr ls sc same seqs e no' good s h =
      fine_value m safe gs ls sc seq (λ n k. seen_append gs ls n (subst (λ vs. has_name vs n ≡ true) same k)) names seqs Good runs dp_there ap_there control_there e no' good s h

  fine_counted : (ls : List (List ℕ)) (s : S) → Has gs ls s → Fine (Has gs ls) (counted_step m s)
  unfolding counted_step
  fine_counted ls s h = fine_cond (Has gs ls) (nat_lt s.steps 100000000) _ _ (record { globals = h.globals; locals = h.locals }) tt

  fine_statement : (ls : List (List ℕ)) (sc : Scope) → sc.visible ≡ gs ++ ls → sc.sequences ≡ names → (st : StmtTree) → ((g : CodeFault) → StmtFault sc st g → ⊥) → AreGood Good (statement_calls names st)
      → (s : S) → Has gs ls s → Fine (Has gs (own_after ls st)) (statement m turn_us seq st s)
  unfolding statement after_counted declared_variable dropped_value
  fine_statement ls sc same seqs (t.Empty at) no' good s h = fine_counted ls s h
  fine_statement ls sc same seqs (t.Declare name e) no' good s h =
      fine_bind (Has gs ls) (Has gs (ls ++ name.text ∷ [])) (counted_step m s) _ (fine_counted ls s h) (λ k p.
      fine_bind (Has gs ls) (Has gs (ls ++ name.text ∷ [])) (value m seq e k.1) _ (fine_expr ls sc same seqs e (λ g x. no' g (first.there x)) good k.1 p) (λ x q.
      record { globals = q.globals; locals = last_names x.1.locals name.text x.0 ∙ ap (λ r. r ++ name.text ∷ []) q.locals }))
  fine_statement ls sc same seqs (t.Plain at e) no' good s h =
      fine_bind (Has gs ls) (Has gs ls) (counted_step m s) _ (fine_counted ls s h) (λ k p.
      fine_bind (Has gs ls) (Has gs ls) (value m seq e k.1) _ (fine_expr ls sc same seqs e (λ g x. no' g (first.there x)) good k.1 p) (λ x q. q))

  fine_block : (ls : List (List ℕ)) (sc : Scope) → sc.visible ≡ gs ++ ls → sc.sequences ≡ names → (code : List StmtTree) → ((g : CodeFault) → BlockFault sc code g → ⊥) → AreGood Good (block_calls names code)
      → (s : S) → Has gs ls s → Fine (Has gs (own_all ls code)) (block m turn_us seq code s)
  unfolding block in_order
  fine_block ls sc same seqs [] no' good s h = h
  fine_block ls sc same seqs (st ∷ code) no' good s h =
      fine_bind (Has gs (own_after ls st)) (Has gs (own_all (own_after ls st) code)) (statement m turn_us seq st s) _
      (fine_statement ls sc same seqs st (λ g x. no' g (first.here x)) (good_left Good (statement_calls names st) (block_calls names code) good) s h) (λ x p.
      fine_block (own_after ls st) (seeing sc (names_after sc.visible st)) (stmt_names gs ls sc st same (λ g x. no' g (first.here x))) seqs code (λ g x. no' g (first.there x))
      (good_right Good (statement_calls names st) (block_calls names code) good) x.1 p)

  fine_inside : (ls more : List (List ℕ)) (body : S → Out V T (Unit {0})) → ((s : S) → Has gs ls s → Fine (Has gs (ls ++ more)) (body s)) → (s : S) → Has gs ls s → Fine (Has gs ls) (inside m body s)
  unfolding inside
  fine_inside ls more body k s h =
      fine_bind (Has gs (ls ++ more)) (Has gs ls) (body s) _ (k s h) (λ x p.
      record {
        globals = p.globals;
        locals =
            names_take (length s.locals) x.1.locals ∙ ap (λ bs. take (length s.locals) bs) p.locals
            ∙ ap (λ n. take n (ls ++ more)) (sym (names_length s.locals) ∙ ap length h.locals) ∙ take_front ls more;
      })

  fine_used_value : (ls : List (List ℕ)) (sc : Scope) → sc.visible ≡ gs ++ ls → sc.sequences ≡ names → (e : Tree) → ((g : CodeFault) → ExprFault sc e g → ⊥) → AreGood Good (expr_calls names e)
      → (s : S) → Has gs ls s → Fine (Has gs ls) (used_now m (value m seq e s))
  fine_used_value ls sc same seqs e no' good s h =
      fine_used m safe gs ls sc seq (λ n k. seen_append gs ls n (subst (λ vs. has_name vs n ≡ true) same k)) _ (fine_expr ls sc same seqs e no' good s h)

  fine_condition : (ls : List (List ℕ)) (sc : Scope) → sc.visible ≡ gs ++ ls → sc.sequences ≡ names → (cond' : Option Tree) → ((g : CodeFault) → ConditionFault sc cond' g → ⊥) → AreGood Good (condition_calls names cond')
      → (s : S) → Has gs ls s → Fine (Has gs ls) (condition m turn_us seq cond' s)
  unfolding condition
  fine_condition ls sc same seqs None no' good s h = h
  fine_condition ls sc same seqs (Some e) no' good s h = fine_bind (Has gs ls) (Has gs ls) _ _ (fine_used_value ls sc same seqs e no' good s h) (λ x p. p)

  fine_turn : (ls : List (List ℕ)) (test : S → Out V T V) (body : S → Out V T (Unit {0})) → ((s : S) → Has gs ls s → Fine (Has gs ls) (used_now m (test s))) → ((s : S) → Has gs ls s → Fine (Has gs ls) (body s))
      → (s : S) → Has gs ls s → Fine (Has gs ls) (turn m test body s)
  unfolding turn
  fine_turn ls test body k l s h =
      fine_bind (Has gs ls) (Has gs ls) (counted_step m s) _ (fine_counted ls s h) (λ c p.
      fine_bind (Has gs ls) (Has gs ls) (used_now m (test c.1)) _ (k c.1 p) (λ x q.
      fine_cond (Has gs ls) (nat_eq x.0 0) _ _ q (fine_bind (Has gs ls) (Has gs ls) (body x.1) _ (l x.1 q) (λ y r. r))))

  fine_turns : (ls : List (List ℕ)) (test : S → Out V T V) (body : S → Out V T (Unit {0})) → ((s : S) → Has gs ls s → Fine (Has gs ls) (used_now m (test s))) → ((s : S) → Has gs ls s → Fine (Has gs ls) (body s))
      → (n : ℕ) (s : S) → Has gs ls s → Fine (Has gs ls) (turns m test body n s)
  unfolding turns
  fine_turns ls test body k l zero s h = h
  fine_turns ls test body k l (suc n) s h =
      fine_bind (Has gs ls) (Has gs ls) (turn m test body s) _ (fine_turn ls test body k l s h) (λ x p. fine_cond (Has gs ls) x.0 _ _ (fine_turns ls test body k l n x.1 p) p)

  fine_polled : (ls : List (List ℕ)) (form : ℕ × ℕ) (n : ℕ) (s : S) → Has gs ls s → Fine (Has gs ls) (poll_result m form n s)
  unfolding poll_result poll_result_at dropped_value
  fine_polled ls form n s h =
      fine_bind (Has gs ls) (Has gs ls) (counted_step m s) _ (fine_counted ls s h) (λ k p.
      fine_bind (Has gs ls) (Has gs ls) (global m (codes "__dp") k.1) _ (fine_global m safe gs ls (codes "__dp") k.1 dp_there p) (λ d q.
      fine_cond (Has gs ls) (nat_eq d.0 0) _ _ (fine_bind (Has gs ls) (Has gs ls) _ _ (fine_ask m safe gs ls dp_there ap_there control_there _ false d.1 q) (λ x r. r)) tt))

  fine_looped : (ls : List (List ℕ)) (form : Option (ℕ × ℕ)) (e : Tree) (n : ℕ) (body : S → Out V T (Unit {0})) → ((s : S) → Has gs ls s → Fine (Has gs ls) (used_now m (value m seq e s)))
      → ((s : S) → Has gs ls s → Fine (Has gs ls) (inside m body s)) → (s : S) → Has gs ls s → Fine (Has gs ls) (loop_result m turn_us seq form e n body s)
  unfolding loop_result
  fine_looped ls (Some form) e n body k l s h = fine_polled ls form n s h
  fine_looped ls None e n body k l s h = fine_turns ls (λ r. value m seq e r) (λ r. inside m body r) k l n s h

  fine_repeated : (ls : List (List ℕ)) (sc : Scope) → sc.visible ≡ gs ++ ls → sc.sequences ≡ names → (repeat : Option Tree) (timeout : Option ℕ) (steps : CodeSteps) (body : S → Out V T (Unit {0}))
      → ((g : CodeFault) → TimeoutFault timeout g → ⊥) → ((g : CodeFault) → LoopFault repeat timeout g → ⊥) → ((g : CodeFault) → ConditionFault sc repeat g → ⊥) → AreGood Good (condition_calls names repeat)
      → ((s : S) → Has gs ls s → Fine (Has gs ls) (inside m body s)) → (s : S) → Has gs ls s → Fine (Has gs ls) (repeat_result m turn_us seq repeat timeout steps body s)
  unfolding repeat_result
  fine_repeated ls sc same seqs None timeout steps body few bad no' good k s h = k s h
  fine_repeated ls sc same seqs (Some e) timeout steps body few bad no' good k s h =
      let w = loop_fine e timeout few bad in
      fine_bind (Has gs ls) (Has gs ls) _ _ (fine_given m (Has gs ls) 0 (timeout_of timeout) w.0 s w.1 h) (λ x p.
      fine_looped ls (poll_of e steps) e (turn_count turn_us x.0) body (λ r q. fine_used_value ls sc same seqs e no' good r q) k x.1 p)

  -- a control without faults of its own
  fine_control : (ls : List (List ℕ)) (sc : Scope) → sc.visible ≡ gs ++ ls → sc.sequences ≡ names → (around : ℕ) (cond' repeat : Option Tree) (timeout : Option ℕ) (steps : CodeSteps) (body : S → Out V T (Unit {0}))
      → ((g : StepFault) → OwnFault sc around cond' repeat timeout g → ⊥) → AreGood Good (condition_calls names cond') → AreGood Good (condition_calls names repeat)
      → ((s : S) → Has gs ls s → Fine (Has gs ls) (inside m body s)) → (s : S) → Has gs ls s → Fine (Has gs ls) (control_result m turn_us seq cond' repeat timeout steps body s)
  unfolding control_result
  fine_control ls sc same seqs around cond' repeat timeout steps body no' good good2 k s h =
      fine_bind (Has gs ls) (Has gs ls) _ _
      (fine_condition ls sc same seqs cond' (λ g x. no' (record { path = []; part = parts.If; fault = g }) (first.there (first.here (record { own = refl; part_is = refl; holds = x })))) good s h) (λ x p.
      fine_cond (Has gs ls) x.0 _ _
      (fine_repeated ls sc same seqs repeat timeout steps body
      (λ g f. no' (record { path = []; part = parts.Control; fault = g }) (first.here (record { own = refl; part_is = refl; holds = first.there (first.here f) })))
      (λ g f. no' (record { path = []; part = parts.Control; fault = g }) (first.here (record { own = refl; part_is = refl; holds = first.there (first.there f) })))
      (λ g f. no' (record { path = []; part = parts.While; fault = g }) (first.there (first.there (record { own = refl; part_is = refl; holds = f })))) good2 k x.1 p) p)

  mutual
    unfolding step steps_result in_order

    pub fine_step : (ls : List (List ℕ)) (sc : Scope) → sc.visible ≡ gs ++ ls → sc.sequences ≡ names → (around : ℕ) (path : List ℕ) (one : CodeStep) → ((g : StepFault) → FaultInStep sc around one g → ⊥)
        → AreGoodCalls Good (step_calls names path one) → (s : S) → Has gs ls s → Fine (Has gs (own_step ls one)) (step m turn_us seq one s)
    fine_step ls sc same seqs around path (c.Block code) no' good s h =
        fine_block ls sc same seqs code (λ g x. no' (record { path = []; part = parts.Block; fault = g }) (record { own = refl; part_is = refl; holds = x })) (calls_of_text Good path parts.Block (block_calls names code) good) s h
    fine_step ls sc same seqs around path (c.Control cond' repeat timeout steps) no' good s h =
        let conds = calls_at path parts.If (condition_calls names cond') in
        let loops = calls_at path parts.While (condition_calls names repeat) in
        let rest = calls_right Good conds (loops ++ steps_calls names path 0 steps) good in
        let own = steps_extend ls steps in
        fine_control ls sc same seqs around cond' repeat timeout steps _ (λ g x. no' g (first.here x))
        (calls_of_text Good path parts.If (condition_calls names cond') (calls_left Good conds (loops ++ steps_calls names path 0 steps) good))
        (calls_of_text Good path parts.While (condition_calls names repeat) (calls_left Good loops (steps_calls names path 0 steps) rest))
        (λ r p. fine_inside ls own.0 _ (λ q k. subst (λ ks. Fine (Has gs ks) (steps_result m turn_us seq steps q)) own.1
        (fine_steps ls sc same seqs (suc around) 0 path steps (λ g x. no' g (first.there x)) (calls_right Good loops (steps_calls names path 0 steps) rest) q k)) r p) s h

    pub fine_steps : (ls : List (List ℕ)) (sc : Scope) → sc.visible ≡ gs ++ ls → sc.sequences ≡ names → (around number : ℕ) (path : List ℕ) (steps : CodeSteps) → ((g : StepFault) → FaultInSteps sc around number steps g → ⊥)
        → AreGoodCalls Good (steps_calls names path number steps) → (s : S) → Has gs ls s → Fine (Has gs (own_steps ls steps)) (steps_result m turn_us seq steps s)
    fine_steps ls sc same seqs around number path c.NoSteps no' good s h = h
    fine_steps ls sc same seqs around number path (c.MoreSteps one more) no' good s h =
        let here = step_calls names (path ++ number ∷ []) one in
        let bad : (g : StepFault) → FaultInStep sc around one g → ⊥ = λ g x. no' (under number g) (first.here (record { inner = g; holds = x; is = refl })) in
        fine_bind (Has gs (own_step ls one)) (Has gs (own_steps (own_step ls one) more)) (step m turn_us seq one s) _
        (fine_step ls sc same seqs around (path ++ number ∷ []) one bad (calls_left Good here (steps_calls names path (suc number) more) good) s h) (λ x p.
        fine_steps (own_step ls one) (seeing sc (names_after_step sc.visible one)) (step_names gs ls sc same around one bad) seqs around (suc number) path more (λ g k. no' g (first.there k))
        (calls_right Good here (steps_calls names path (suc number) more) good) x.1 p)
