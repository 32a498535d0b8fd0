-- Actions that do not ask for RDBUFF, on targets that agree.
use Rattle.std.proofs.Common.{◌≡◌, ◌∙◌, ℕ, zero, suc, ◌+◌, Bool, true, false, cond, eqb, List, [], ◌∷◌, refl, sym, ap, subst}
use Rattle.std.specs.Prelude.{bit_and}
use Rattle.target_machine.proofs.ActionLists.{order_from}
use Rattle.target_machine.proofs.Agreement.{attempt_agrees}
use Rattle.target_machine.specs.Attempt.{Attempt, attempt, done_attempt}
use Rattle.target_machine.specs.Laws.{AnswerAlike}
use Rattle.target_machine.specs.Lines.{pins_set, line_shifted, clock_set, delayed_target}
use Rattle.target_machine.specs.Lists.{after, SparesRdbuff, SpareRdbuff}
use Rattle.target_machine.specs.Plain.{Action, Makes, Polls, Commands, Polled, poll_result, poll_read, dp_read_of, dp_write_of, command_attempt, action_attempt, then_acted, in_order, is_fault, issued_actions}
use Rattle.target_machine.specs.Registers.{abort_address, ctrl_stat_address}
use Rattle.target_machine.specs.State.{TargetState, Agree}
use Rattle.target_machine.specs.declared.access.Outcome.{Outcome}
use Rattle.target_machine.specs.declared.access.Outcome.TheVariants.{Value, Done, Fault}
use Rattle.target_machine.specs.declared.unit.ProbeCall.{ProbeCall}
use Rattle.target_machine.specs.declared.unit.ProbeCall.TheVariants as probe

record PolledAlike (p q : Polled) : Type 0 where
  outcome : p.outcome ≡ q.outcome
  reads : p.reads ≡ q.reads
  next : Agree p.next q.next

polled_either : (b : Bool) (p q r s : Polled) → PolledAlike p r → PolledAlike q s → PolledAlike (cond b p q) (cond b r s)
polled_either true p q r s h k = h
polled_either false p q r s h k = k

one_more : (p q : Polled) → PolledAlike p q → PolledAlike (record p { reads = p.reads + 1 }) (record q { reads = q.reads + 1 })
one_more p q h = record { outcome = h.outcome; reads = ap (λ (n : ℕ). n + 1) h.reads; next = h.next }

looked_alike : (o : Outcome) (t u : TargetState) (mask requested : ℕ) (p q : Polled) → Agree t u → PolledAlike p q →
    PolledAlike (poll_read o t mask requested p) (poll_read o u mask requested q)
looked_alike (Value n) t u mask requested p q agree h =
    polled_either (eqb (bit_and n mask) requested) (record { outcome = Value 1; reads = 1; next = t }) (record p { reads = p.reads + 1 })
    (record { outcome = Value 1; reads = 1; next = u }) (record q { reads = q.reads + 1 }) (record { outcome = refl; reads = refl; next = agree }) (one_more p q h)
looked_alike Done t u mask requested p q agree h = one_more p q h
looked_alike Fault t u mask requested p q agree h = record { outcome = refl; reads = refl; next = agree }

polled_alike : (turns mask requested : ℕ) (t u : TargetState) → Agree t u → PolledAlike (poll_result turns mask requested t) (poll_result turns mask requested u)
unfolding poll_result
polled_alike zero mask requested t u agree = record { outcome = refl; reads = refl; next = agree }
polled_alike (suc turns) mask requested t u agree =
    let x : Attempt = attempt t (dp_read_of ctrl_stat_address) in
    let y : Attempt = attempt u (dp_read_of ctrl_stat_address) in
    let alike : AnswerAlike x y = attempt_agrees t u (dp_read_of ctrl_stat_address) agree refl in
    subst (λ (o : Outcome). PolledAlike (poll_read x.outcome x.next mask requested (poll_result turns mask requested x.next)) (poll_read o y.next mask requested (poll_result turns mask requested y.next))) alike.outcome
    (looked_alike x.outcome x.next y.next mask requested (poll_result turns mask requested x.next) (poll_result turns mask requested y.next) alike.next
    (polled_alike turns mask requested x.next y.next alike.next))

commanded_alike : (t u : TargetState) (c : ProbeCall) → Agree t u → AnswerAlike (command_attempt t c) (command_attempt u c)
commanded_alike t u (probe.Delay micros) agree = record { outcome = refl; next = record { same = ap (λ (s : TargetState). delayed_target s micros) agree.same } }
commanded_alike t u (probe.Abort value) agree = attempt_agrees t u (dp_write_of abort_address value) agree refl
commanded_alike t u (probe.Pins output select wait) agree = record {
  outcome = ap (λ (s : TargetState). Value (pins_set s output select).lines.pins) agree.same;
  next = record { same = ap (λ (s : TargetState). pins_set s output select) agree.same };
}
commanded_alike t u (probe.Clock hertz) agree = record { outcome = refl; next = record { same = ap (λ (s : TargetState). clock_set s hertz) agree.same } }
commanded_alike t u (probe.Line count bits) agree = record { outcome = refl; next = record { same = ap (λ (s : TargetState). line_shifted s count bits) agree.same } }

-- one action
pub acted_alike : (t u : TargetState) (x : Action) → Agree t u → SparesRdbuff x → AnswerAlike (action_attempt t x) (action_attempt u x)
acted_alike t u (Makes a) agree spares = attempt_agrees t u a agree spares
acted_alike t u (Polls mask requested turns) agree spares =
    let h = polled_alike turns mask requested t u agree in record { outcome = h.outcome; next = h.next }
acted_alike t u (Commands c) agree spares = commanded_alike t u c agree

then_alike : (m l : Attempt) (x : Action) → AnswerAlike m l → SparesRdbuff x → AnswerAlike (then_acted m x) (then_acted l x)
then_alike m l x alike spares = by_fault (is_fault m.outcome) refl
  where
    by_fault : (b : Bool) → is_fault m.outcome ≡ b → AnswerAlike (then_acted m x) (then_acted l x)
    by_fault true e =
        let em : then_acted m x ≡ m = ap (λ (b : Bool). cond b m (action_attempt m.next x)) e in
        let el : then_acted l x ≡ l = ap (λ (b : Bool). cond b l (action_attempt l.next x)) (ap is_fault (sym alike.outcome) ∙ e) in
        subst (λ (y : Attempt). AnswerAlike y (then_acted l x)) (sym em) (subst (λ (y : Attempt). AnswerAlike m y) (sym el) alike)
    by_fault false e =
        let em : then_acted m x ≡ action_attempt m.next x = ap (λ (b : Bool). cond b m (action_attempt m.next x)) e in
        let el : then_acted l x ≡ action_attempt l.next x = ap (λ (b : Bool). cond b l (action_attempt l.next x)) (ap is_fault (sym alike.outcome) ∙ e) in
        subst (λ (y : Attempt). AnswerAlike y (then_acted l x)) (sym em)
        (subst (λ (y : Attempt). AnswerAlike (action_attempt m.next x) y) (sym el) (acted_alike m.next l.next x alike.next spares))

order_alike : (xs : List Action) (m l : Attempt) → AnswerAlike m l → SpareRdbuff xs → AnswerAlike (order_from m xs) (order_from l xs)
order_alike [] m l alike spare = alike
order_alike (x ∷ xs) m l alike spare = order_alike xs (then_acted m x) (then_acted l x) (then_alike m l x alike spare.0) spare.1

-- actions in order
pub in_order_alike : (xs : List Action) (t u : TargetState) → Agree t u → SpareRdbuff xs → AnswerAlike (in_order t xs) (in_order u xs)
in_order_alike xs t u agree spare = order_alike xs (done_attempt t) (done_attempt u) (record { outcome = refl; next = agree }) spare

-- the same is issued
pub issued_alike : (xs : List Action) (t u : TargetState) → Agree t u → SpareRdbuff xs → issued_actions t xs ≡ issued_actions u xs
issued_alike [] t u agree spare = refl
issued_alike (x ∷ xs) t u agree spare =
    let a = acted_alike t u x agree spare.0 in
    ap (λ (o : Outcome). x ∷ cond (is_fault o) [] (issued_actions (action_attempt t x).next xs)) a.outcome
    ∙ ap (λ (l : List Action). x ∷ cond (is_fault (action_attempt u x).outcome) [] l) (issued_alike xs (action_attempt t x).next (action_attempt u x).next a.next spare.1)

-- actions that are made whatever the ones before them answered
pub after_agrees : (xs : List Action) (t u : TargetState) → Agree t u → SpareRdbuff xs → Agree (after t xs) (after u xs)
after_agrees [] t u agree spare = agree
after_agrees (x ∷ xs) t u agree spare =
    let a = acted_alike t u x agree spare.0 in after_agrees xs (action_attempt t x).next (action_attempt u x).next a.next spare.1
