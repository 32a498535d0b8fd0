-- A watched run of a program that lacks nothing is never lost: steps, sequences, and the whole.
use Rattle.std.proofs.Common.{◌≡◌, ℕ, zero, suc, true, false, List, [], ◌∷◌, ◌++◌, codes, nat_lt, nat_eq, Option, None, Some, ◌⊎◌, inl, inr, Ok, Err, refl, sym, ap, subst, ◌∙◌}
use Rattle.std.proofs.lemmas.List.{append_assoc, append-nil}
use Rattle.dap_base.specs.Outcome.{◌>>=◌}
use Rattle.expr_grammar.specs.Names.{has_name, with_names}
use Rattle.expr_grammar.specs.Tree as t
use Rattle.expr_grammar.specs.Tree.{Tree, StmtTree}
use Rattle.sequence_trees.specs.Trees as c
use Rattle.sequence_trees.specs.Trees.{CodeStep, CodeSteps, SetTrees, steps_named}
use Rattle.target_calls.specs.World.{World}
use Rattle.sequence_rules.specs.declared.bindings.Binding.{Binding}
use Rattle.sequence_rules.specs.Calls.{value_or_missing, global, ask}
use Rattle.sequence_rules.specs.Complete.{names_in, ExprComplete, CodeComplete, ConditionComplete, HasTimeout, LoopComplete, step_names, StepComplete, StepsComplete, AreThere, SequenceComplete, NoCalls, DebugComplete, shared_names, IsComplete}
use Rattle.sequence_rules.specs.Direct.{now_at, direct}
use Rattle.sequence_rules.specs.Machine as machine
use Rattle.sequence_rules.specs.Machine.{Over, with_locals, with_variables}
use Rattle.sequence_rules.specs.Polls.{poll_of}
use Rattle.sequence_rules.specs.Runs as ending
use Rattle.sequence_rules.specs.Runs.{Program, as_values, outcome_of, outcome_over, meaning, watched_run}
use Rattle.sequence_rules.specs.Steps.{timeout_of, declared_names, counted_step, after_counted, declared_variable, dropped_value, in_order, inside, turn, turns, poll_result_at, poll_result, statement, block, condition, loop_result, repeat_result, control_result, step, steps_result, given_back, sequence_result, steps_at, sequence_at, debug_result, run_of, start_state}
use Rattle.sequence_rules.specs.Values.{value, used_now, stored_value}
use Rattle.sequence_rules.proofs.NameLemmas.{set_names, last_names, front_names, all_new_names}
use Rattle.sequence_rules.proofs.Completing.{S, O, Fine, NotLost, Has, IsThere, fine_bind, fine_cond, given_fine, global_fine, ask_fine, used_fine, stored_fine, value_fine}
use Rattle.sequence_rules.proofs.Watching.{watched_same}

-- the names that steps declare for those after them
abbrev all_names : CodeSteps → List (List ℕ)
all_names c.NoSteps = []
all_names (c.MoreSteps first more) = step_names first ++ all_names more

timeout_there : (o : Option ℕ) → HasTimeout o → IsThere o
timeout_there None k = absurd k
timeout_there (Some n) k = tt

fine_weaken : {A : Type 0} (P Q : S → Type 0) (out : O A) → ((s : S) → P s → Q s) → Fine P out → Fine Q out
fine_weaken P Q (Ok x) k h = k x.1 h
fine_weaken P Q (Err e) k h = h

module _ (shared : List (List ℕ)) (dp : has_name shared (codes "__dp") ≡ true) (aps : has_name shared (codes "__ap") ≡ true) (control : has_name shared (codes "__errorcontrol") ≡ true) where
  counted_fine : (own : List (List ℕ)) (s : S) → Has shared own s → Fine (Has shared own) (counted_step (direct true) s)
  unfolding counted_step
  counted_fine own s h = fine_cond (Has shared own) (nat_lt s.steps 100000000) _ _ (record { shared_are = h.shared_are; own_are = h.own_are }) tt

  module _ (turn_us : ℕ) (Calls : List ℕ → Type 0) (seq : List ℕ → S → O (Unit {0}))
      (seqs : (own : List (List ℕ)) (name : List ℕ) (s : S) → Calls name → Has shared own s → Fine (Has shared own) (seq name s)) where
    expr_fine : (own : List (List ℕ)) (e : Tree) (s : S) → ExprComplete shared Calls own e → Has shared own s → Fine (Has shared own) (value (direct true) seq e s)
    expr_fine own e s k h = value_fine shared own dp aps control Calls seq (seqs own) e s k h

    code_fine : (own : List (List ℕ)) (code : List StmtTree) (s : S) → CodeComplete shared Calls own code → Has shared own s → Fine (Has shared (own ++ declared_names code)) (block (direct true) turn_us seq code s)
    unfolding block statement in_order after_counted declared_variable dropped_value
    code_fine own [] s k h = subst (λ ns. Has shared ns s) (sym (append-nil own)) h
    code_fine own (t.Empty at ∷ code) s k h = fine_bind (Has shared own) (Has shared (own ++ declared_names code)) (counted_step (direct true) s) _ (counted_fine own s h) (λ x j. code_fine own code x.1 k j)
    code_fine own (t.Declare name e ∷ code) s k h =
        fine_bind (Has shared (own ++ name.text ∷ [])) (Has shared (own ++ name.text ∷ declared_names code)) (after_counted (direct true) (λ r. declared_variable (direct true) name (value (direct true) seq e r)) s) _
        (fine_bind (Has shared own) (Has shared (own ++ name.text ∷ [])) (counted_step (direct true) s) _ (counted_fine own s h)
        (λ x j. fine_bind (Has shared own) (Has shared (own ++ name.text ∷ [])) (value (direct true) seq e x.1) _ (expr_fine own e x.1 k.0 j)
        (λ y l. record { shared_are = l.shared_are; own_are = last_names y.1.locals name.text y.0 ∙ ap (λ ns. ns ++ name.text ∷ []) l.own_are })))
        (λ x j. subst (λ ns. Fine (Has shared ns) (block (direct true) turn_us seq code x.1)) (append_assoc own (name.text ∷ []) (declared_names code)) (code_fine (own ++ name.text ∷ []) code x.1 k.1 j))
    code_fine own (t.Plain at e ∷ code) s k h =
        fine_bind (Has shared own) (Has shared (own ++ declared_names code)) (after_counted (direct true) (λ r. dropped_value (direct true) (value (direct true) seq e r)) s) _
        (fine_bind (Has shared own) (Has shared own) (counted_step (direct true) s) _ (counted_fine own s h)
        (λ x j. fine_bind (Has shared own) (Has shared own) (value (direct true) seq e x.1) _ (expr_fine own e x.1 k.0 j) (λ y l. l)))
        (λ x j. code_fine own code x.1 k.1 j)

    condition_fine : (own : List (List ℕ)) (o : Option Tree) (s : S) → ConditionComplete shared Calls own o → Has shared own s → Fine (Has shared own) (condition (direct true) turn_us seq o s)
    unfolding condition
    condition_fine own None s k h = h
    condition_fine own (Some e) s k h = fine_bind (Has shared own) (Has shared own) (used_now (direct true) (value (direct true) seq e s)) _ (used_fine shared own _ (expr_fine own e s k h)) (λ x j. j)

    inside_fine : (own more : List (List ℕ)) (body : S → O (Unit {0})) (s : S) → Has shared own s → ((r : S) → Has shared own r → Fine (Has shared (own ++ more)) (body r)) → Fine (Has shared own) (inside (direct true) body s)
    unfolding inside
    inside_fine own more body s h k = fine_bind (Has shared (own ++ more)) (Has shared own) (body s) _ (k s h)
        (λ x j. record { shared_are = j.shared_are; own_are = front_names s.locals x.1.locals more (j.own_are ∙ ap (λ ns. ns ++ more) (sym h.own_are)) ∙ h.own_are })

    turn_fine : (own : List (List ℕ)) (test : S → O ℕ) (body : S → O (Unit {0})) (s : S) → Has shared own s → ((r : S) → Has shared own r → Fine (Has shared own) (test r)) → ((r : S) → Has shared own r → Fine (Has shared own) (body r))
        → Fine (Has shared own) (turn (direct true) test body s)
    unfolding turn
    turn_fine own test body s h k l = fine_bind (Has shared own) (Has shared own) (counted_step (direct true) s) _ (counted_fine own s h)
        (λ x j. fine_bind (Has shared own) (Has shared own) (used_now (direct true) (test x.1)) _ (used_fine shared own _ (k x.1 j))
        (λ y i. fine_cond (Has shared own) (nat_eq y.0 0) _ _ i (fine_bind (Has shared own) (Has shared own) (body y.1) _ (l y.1 i) (λ z q. q))))

    turns_fine : (own : List (List ℕ)) (test : S → O ℕ) (body : S → O (Unit {0})) (n : ℕ) (s : S) → Has shared own s → ((r : S) → Has shared own r → Fine (Has shared own) (test r)) → ((r : S) → Has shared own r → Fine (Has shared own) (body r))
        → Fine (Has shared own) (turns (direct true) test body n s)
    unfolding turns
    turns_fine own test body zero s h k l = h
    turns_fine own test body (suc n) s h k l = fine_bind (Has shared own) (Has shared own) (turn (direct true) test body s) _ (turn_fine own test body s h k l)
        (λ x j. fine_cond (Has shared own) x.0 _ _ (turns_fine own test body n x.1 j k l) j)

    polled_fine : (own : List (List ℕ)) (form : ℕ × ℕ) (n : ℕ) (s : S) → Has shared own s → Fine (Has shared own) (poll_result (direct true) form n s)
    unfolding poll_result poll_result_at dropped_value
    polled_fine own form n s h = fine_bind (Has shared own) (Has shared own) (counted_step (direct true) s) _ (counted_fine own s h)
        (λ x j. fine_bind (Has shared own) (Has shared own) (global (direct true) (codes "__dp") x.1) _ (global_fine shared own (codes "__dp") x.1 j dp)
        (λ y i. fine_cond (Has shared own) (nat_eq y.0 0) _ _ (fine_bind (Has shared own) (Has shared own) (ask (direct true) _ false y.1) _ (ask_fine shared own _ false y.1 i) (λ z q. q)) tt))

    loop_fine : (own more : List (List ℕ)) (o : Option (ℕ × ℕ)) (e : Tree) (n : ℕ) (body : S → O (Unit {0})) (s : S) → ExprComplete shared Calls own e → Has shared own s
        → ((r : S) → Has shared own r → Fine (Has shared (own ++ more)) (body r)) → Fine (Has shared own) (loop_result (direct true) turn_us seq o e n body s)
    unfolding loop_result
    loop_fine own more (Some form) e n body s k h l = polled_fine own form n s h
    loop_fine own more None e n body s k h l = turns_fine own _ _ n s h (λ r j. expr_fine own e r k j) (λ r j. inside_fine own more body r j l)

    repeated_fine : (own more : List (List ℕ)) (o : Option Tree) (timeout : Option ℕ) (steps : CodeSteps) (body : S → O (Unit {0})) (s : S) → LoopComplete shared Calls own o timeout → Has shared own s
        → ((r : S) → Has shared own r → Fine (Has shared (own ++ more)) (body r)) → Fine (Has shared own) (repeat_result (direct true) turn_us seq o timeout steps body s)
    unfolding repeat_result
    repeated_fine own more None timeout steps body s k h l = inside_fine own more body s h l
    repeated_fine own more (Some e) timeout steps body s k h l = fine_bind (Has shared own) (Has shared own) (value_or_missing (direct true) 0 (timeout_of timeout) s) _
        (given_fine shared own 0 (timeout_of timeout) s h (timeout_there (timeout_of timeout) k.1))
        (λ x j. loop_fine own more (poll_of e steps) e _ body x.1 k.0 j l)

    mutual
      unfolding step StepComplete control_result in_order

      step_fine : (own : List (List ℕ)) (st : CodeStep) (s : S) → StepComplete shared Calls own st → Has shared own s → Fine (Has shared (own ++ step_names st)) (step (direct true) turn_us seq st s)
      step_fine own (c.Block code) s k h = code_fine own code s k h
      step_fine own (c.Control cond repeat timeout steps) s k h =
          subst (λ ns. Fine (Has shared ns) (step (direct true) turn_us seq (c.Control cond repeat timeout steps) s)) (sym (append-nil own))
          (fine_bind (Has shared own) (Has shared own) (condition (direct true) turn_us seq cond s) _ (condition_fine own cond s k.0 h)
          (λ x j. fine_cond (Has shared own) x.0 _ _ (repeated_fine own (all_names steps) repeat timeout steps _ x.1 k.1 j (λ r l. steps_fine own steps r k.2 l)) j))

      pub steps_fine : (own : List (List ℕ)) (steps : CodeSteps) (s : S) → StepsComplete shared Calls own steps → Has shared own s → Fine (Has shared (own ++ all_names steps)) (steps_result (direct true) turn_us seq steps s)
      steps_fine own c.NoSteps s k h = subst (λ ns. Has shared ns s) (sym (append-nil own)) h
      steps_fine own (c.MoreSteps first more) s k h = fine_bind (Has shared (own ++ step_names first)) (Has shared (own ++ (step_names first ++ all_names more))) (step (direct true) turn_us seq first s) _ (step_fine own first s k.0 h)
          (λ x j. subst (λ ns. Fine (Has shared ns) (steps_result (direct true) turn_us seq more x.1)) (append_assoc own (step_names first) (all_names more)) (steps_fine (own ++ step_names first) more x.1 k.1 j))

  -- ---- sequences

  abbrev Shared : S → Type 0
  Shared s = names_in s.globals ≡ shared

  back_names : (before now : List (Binding ℕ)) → names_in (given_back (direct true) before now) ≡ names_in now
  back_names before now = set_names _ (codes "__errorcontrol") _ ∙ set_names _ (codes "__ap") _ ∙ set_names now (codes "__dp") _

  entered_fine : (own : List (List ℕ)) (body : S → O (Unit {0})) (s : S) → Has shared own s → ((r : S) → Has shared [] r → Fine Shared (body r)) → Fine (Has shared own) (sequence_result (direct true) body s)
  unfolding sequence_result
  entered_fine own body s h k = fine_bind Shared (Has shared own) (body (with_locals s [])) _ (k (with_locals s []) (record { shared_are = h.shared_are; own_are = refl }))
      (λ x j. record { shared_are = back_names s.globals x.1.globals ∙ j; own_are = h.own_are })

  module _ (turn_us : ℕ) (set : SetTrees) where
    body_fine : (Calls : List ℕ → Type 0) (seq : List ℕ → S → O (Unit {0})) (seqs : (own : List (List ℕ)) (name : List ℕ) (s : S) → Calls name → Has shared own s → Fine (Has shared own) (seq name s))
        (o : Option CodeSteps) (r : S) → AreThere (StepsComplete shared Calls []) o → Has shared [] r → Fine Shared (value_or_missing (direct true) c.NoSteps o r >>= λ x. steps_result (direct true) turn_us seq x.0 x.1)
    unfolding value_or_missing
    body_fine Calls seq seqs None r k h = absurd k
    body_fine Calls seq seqs (Some steps) r k h = fine_weaken (Has shared (all_names steps)) Shared (steps_result (direct true) turn_us seq steps r) (λ q j. j.shared_are) (steps_fine turn_us Calls seq seqs [] steps r k h)

    pub sequence_fine : (d : ℕ) (own : List (List ℕ)) (name : List ℕ) (s : S) → SequenceComplete shared set d name → Has shared own s → Fine (Has shared own) (sequence_at (direct true) turn_us set d name s)
    unfolding sequence_at SequenceComplete steps_at
    sequence_fine zero own name s k h = absurd k
    sequence_fine (suc d) own name s k h = entered_fine own _ s h
        (λ r j. body_fine (λ n. SequenceComplete shared set d n) (λ n q. sequence_at (direct true) turn_us set d n q) (λ o n q l i. sequence_fine d o n q l i) (steps_named name set.sequences) r k j)

    debug_fine : (code : List StmtTree) (s : S) → DebugComplete shared code → Has shared [] s → Fine (Has shared []) (debug_result (direct true) turn_us set code s)
    unfolding debug_result
    debug_fine [] s k h = h
    debug_fine (t.Empty at ∷ code) s k h = debug_fine code s k h
    debug_fine (t.Declare name e ∷ code) s k h = fine_bind (Has shared []) (Has shared []) (value (direct true) (λ n q. sequence_at (direct true) turn_us set 0 n q) e s) _
        (value_fine shared [] dp aps control NoCalls (λ n q. sequence_at (direct true) turn_us set 0 n q) (λ n q l i. absurd l) e s k.0 h)
        (λ x j. fine_bind (Has shared []) (Has shared []) (stored_value (direct true) name x.0 x.1) _ (stored_fine shared [] name x.0 x.1 j k.1) (λ y i. debug_fine code y.1 k.2 i))
    debug_fine (t.Plain at e ∷ code) s k h = debug_fine code s k h

    pub run_fine : (start : List ℕ) (s : S) → DebugComplete shared set.debugvars → SequenceComplete shared set 32 start → Has shared [] s → Fine Shared (run_of (direct true) turn_us set start s)
    unfolding run_of SequenceComplete steps_at
    run_fine start s k l h = fine_bind (Has shared []) Shared (debug_result (direct true) turn_us set set.debugvars s) _ (debug_fine set.debugvars s k h)
        (λ x j. body_fine (λ n. SequenceComplete shared set 31 n) (λ n q. sequence_at (direct true) turn_us set 31 n q) (λ o n q i m. sequence_fine 31 o n q i m) (steps_named start set.sequences) x.1 l j)

-- ---- whole runs

pub values_names : (bs : List (Binding ℕ)) → names_in (as_values (direct true) bs) ≡ names_in bs
values_names [] = refl
values_names (x ∷ bs) = ap (λ ns. x.name ∷ ns) (values_names bs)

start_has : (p : Program) (w : World) (written : Option (List ℕ)) → Has (shared_names p) [] (start_state (direct true) p.turn_us p.set (as_values (direct true) p.predefined) (now_at w written))
start_has p w written = record {
  shared_are = all_new_names (as_values (direct true) p.predefined) (declared_names p.set.debugvars) _ ∙ ap (λ ns. with_names ns (declared_names p.set.debugvars)) (values_names p.predefined);
  own_are = refl;
}

over_fine : (over : Over) (s : S) → NotLost over → (outcome_over over s).ending ≡ ending.Lost → ⊥
over_fine (machine.Halted cause) s h e = cc
over_fine (machine.Faulted call) s h e = cc
over_fine machine.Unanswered s h e = cc
over_fine machine.Lost s h e = h

end_fine : (P : S → Type 0) (out : O (Unit {0})) → Fine P out → (outcome_of out).ending ≡ ending.Lost → ⊥
end_fine P (Ok x) h e = cc
end_fine P (Err e) h k = over_fine e.0 e.1 h k

pub never_lost : (w : World) (p : Program) (written : Option (List ℕ)) → IsComplete p → (outcome_of (watched_run w p written)).ending ≡ ending.Lost → ⊥
never_lost w p written k = end_fine (λ s. names_in s.globals ≡ shared_names p) (watched_run w p written) (run_fine (shared_names p) k.dp k.ap k.control p.turn_us p.set p.start _ k.debugvars k.start (start_has p w written))

same_by : (P Q : Type 0) → P ⊎ Q → (Q → ⊥) → P
same_by P Q (inl x) k = x
same_by P Q (inr y) k = absurd (k y)

pub complete_same : (w : World) (p : Program) (written : Option (List ℕ)) → IsComplete p → outcome_of (watched_run w p written) ≡ outcome_of (meaning w p written)
complete_same w p written k = same_by _ _ (watched_same w p written) (never_lost w p written k)
