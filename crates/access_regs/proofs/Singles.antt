-- Calls of one action that is no access of an AP: DP units, polls, probe commands.
use Rattle.std.proofs.Common.{◌≡◌, ◌∙◌, ℕ, ◌⊎◌, inl, inr, Bool, true, false, cond, ◌&&◌, List, [], ◌∷◌, Option, Some, None, refl, sym, ap, subst}
use Rattle.target_machine.specs.Attempt.{Attempt, attempt, acknowledges}
use Rattle.target_machine.specs.Plain.{Action, Makes, Polls, Commands, action_attempt, dp_read_of, dp_write_of, is_fault, given_number, call_done, ended_call, issued_actions, poll_result, command_attempt, result_of, CallDone, Answered}
use Rattle.target_machine.specs.Sound.{IsSoundDp}
use Rattle.target_machine.specs.State.{TargetState}
use Rattle.target_machine.specs.declared.access.Outcome.{Outcome}
use Rattle.target_machine.specs.declared.access.Outcome.TheVariants.{Value, Done}
use Rattle.target_machine.specs.declared.access.RegAccess.{RegAccess}
use Rattle.target_machine.specs.declared.unit.Call.{Call}
use Rattle.target_machine.specs.declared.unit.Call.TheVariants.{Access, Probe}
use Rattle.target_machine.specs.declared.unit.ProbeCall.{ProbeCall}
use Rattle.target_machine.specs.declared.unit.ProbeCall.TheVariants as probe
use Rattle.target_machine.specs.declared.unit.Unit.TheVariants as unit
use Rattle.access_regs.specs.Kept.{Kept}
use Rattle.access_regs.specs.Plan.{kept_after_plan}
use Rattle.access_regs.specs.Journal.{Issue, by_plan}
use Rattle.access_regs.specs.Follows.{Follows}
use Rattle.access_regs.specs.declared.known.Unsettled.{Unsettled}
use Rattle.access_regs.proofs.Drw.{Ports, other}
use Rattle.access_regs.specs.Course.{Course, answered}
use Rattle.access_regs.proofs.FollowsFacts.{planned_clear}
use Rattle.target_calls.specs.declared.journal.Part.TheVariants.{Ends}
use Rattle.access_regs.proofs.Lines.{follows_beside, follows_selected, stat_value, stat_read, stat_reads, stat_beside, stat_power, stat_select, id_reads, abort_write, abort_writes, abort_beside, abort_select, abort_power, ctrl_write, ctrl_writes, ctrl_beside, ctrl_select, select_stored, select_writes, select_beside, polls_are, commands, commands_beside, commands_select, commands_power, command_outcome, commanded_is}

-- what a call of one action comes to
pub record IsOne (d : CallDone) (call : Call) (large : List ℕ) (x : Attempt) : Type 0 where
  pub end : d.end ≡ Answered (result_of call (given_number x.outcome))
  pub next : d.next ≡ x.next
  pub list : d.large ≡ large

one_by : (d : CallDone) (call : Call) (large : List ℕ) (x : Attempt) (forgive : Bool) (actions : List Action) →
    d ≡ ended_call (is_fault x.outcome) forgive false (result_of call (given_number x.outcome)) x.next large actions → is_fault x.outcome ≡ false → IsOne d call large x
one_by d call large x forgive actions is good =
    let e : d ≡ ended_call false forgive false (result_of call (given_number x.outcome)) x.next large actions =
    is ∙ ap (λ (b : Bool). ended_call b forgive false (result_of call (given_number x.outcome)) x.next large actions) good in
    record { end = ap (λ (c : CallDone). c.end) e; next = ap (λ (c : CallDone). c.next) e; list = ap (λ (c : CallDone). c.large) e }

module _ (t : TargetState) (large : List ℕ) (forgive : Bool) where
  abbrev dp_access_of : Bool → ℕ → ℕ → RegAccess
  dp_access_of read addr value = cond read (dp_read_of addr) (dp_write_of addr value)

  dp_is : (read : Bool) (addr value : ℕ) → call_done t large forgive (Access (unit.Dp read addr value))
      ≡ ended_call (is_fault (attempt t (dp_access_of read addr value)).outcome) (forgive && false) false (given_number (attempt t (dp_access_of read addr value)).outcome)
      (attempt t (dp_access_of read addr value)).next large (issued_actions t (Makes (dp_access_of read addr value) ∷ []))
  unfolding call_done
  dp_is read addr value = refl

  poll_is : (mask requested turns : ℕ) → call_done t large forgive (Access (unit.Poll mask requested turns))
      ≡ ended_call (is_fault (poll_result turns mask requested t).outcome) (forgive && false) false (given_number (poll_result turns mask requested t).outcome)
      (poll_result turns mask requested t).next large (issued_actions t (Polls mask requested turns ∷ []))
  unfolding call_done
  poll_is mask requested turns = refl

  probe_is : (c : ProbeCall) → call_done t large forgive (Probe c)
      ≡ ended_call (is_fault (command_attempt t c).outcome) (forgive && false) false (given_number (command_attempt t c).outcome) (command_attempt t c).next large (issued_actions t (Commands c ∷ []))
  unfolding call_done
  probe_is c = refl

  pub dp_one : (read : Bool) (addr value : ℕ) → is_fault (attempt t (dp_access_of read addr value)).outcome ≡ false →
      IsOne (call_done t large forgive (Access (unit.Dp read addr value))) (Access (unit.Dp read addr value)) large (attempt t (dp_access_of read addr value))
  dp_one read addr value good =
      one_by _ (Access (unit.Dp read addr value)) large (attempt t (dp_access_of read addr value)) (forgive && false) (issued_actions t (Makes (dp_access_of read addr value) ∷ [])) (dp_is read addr value) good

  pub poll_one : (mask requested turns : ℕ) → is_fault (poll_result turns mask requested t).outcome ≡ false →
      IsOne (call_done t large forgive (Access (unit.Poll mask requested turns))) (Access (unit.Poll mask requested turns)) large (action_attempt t (Polls mask requested turns))
  poll_one mask requested turns good =
      one_by _ (Access (unit.Poll mask requested turns)) large (action_attempt t (Polls mask requested turns)) (forgive && false) (issued_actions t (Polls mask requested turns ∷ [])) (poll_is mask requested turns) good

  pub probe_one : (c : ProbeCall) → is_fault (command_attempt t c).outcome ≡ false → IsOne (call_done t large forgive (Probe c)) (Probe c) large (command_attempt t c)
  probe_one c good = one_by _ (Probe c) large (command_attempt t c) (forgive && false) (issued_actions t (Commands c ∷ [])) (probe_is c) good

no_fault : (c : ProbeCall) (s : TargetState) → is_fault (command_outcome c s) ≡ false
no_fault (probe.Pins output select wait) s = refl
no_fault other s = refl

same_pins : (t : TargetState) (c : ProbeCall) (r : ℕ) (m : Ports) → command_outcome c (other t r m) ≡ command_outcome c t
same_pins t (probe.Pins output select wait) r m = refl
same_pins t other r m = refl

module _ (k : Kept) (large : List ℕ) (t u : TargetState) (f : Follows k large t u) where
  single : (i : Issue) (d : CallDone) (call : Call) (a : Action) → i.steps ≡ record { part = Ends; action = a } ∷ [] → IsOne d call large (action_attempt t a) →
      is_fault (action_attempt t a).outcome ≡ false → (action_attempt u a).outcome ≡ (action_attempt t a).outcome → Follows i.kept large (action_attempt t a).next (action_attempt u a).next → Course i d call u
  single i d call a steps one good same follows = answered (record {
    leads = [];
    action = a;
    at = u;
    steps = steps;
    pass = refl;
    good = ap is_fault same ∙ good;
    end = one.end ∙ ap (λ (o : Outcome). Answered (result_of call (given_number o))) (sym same);
    follows = subst (λ (s : TargetState). Follows i.kept d.large s (action_attempt u a).next) (sym one.next) (subst (λ (l : List ℕ). Follows i.kept l (action_attempt t a).next (action_attempt u a).next) (sym one.list) follows);
  })

  u_clear : u.sticky ≡ false
  u_clear = planned_clear k large t u f

  -- a DP access of which both targets know what it does
  dp_by : (forgive read : Bool) (addr value : ℕ) (o : TargetState → Outcome) (g : TargetState → TargetState) →
      ((s : TargetState) → s.sticky ≡ false → attempt s (cond read (dp_read_of addr) (dp_write_of addr value)) ≡ record { outcome = o s; next = g s }) →
      is_fault (o t) ≡ false → o u ≡ o t → Follows (kept_after_plan k (unit.Dp read addr value)) large (g t) (g u) →
      Course (by_plan k (unit.Dp read addr value)) (call_done t large forgive (Access (unit.Dp read addr value))) (Access (unit.Dp read addr value)) u
  dp_by forgive read addr value o g is good same follows =
      let et = is t f.clear in
      let eu = is u u_clear in
      let good_t : is_fault (attempt t (cond read (dp_read_of addr) (dp_write_of addr value))).outcome ≡ false = ap (λ (x : Attempt). is_fault x.outcome) et ∙ good in
      single (by_plan k (unit.Dp read addr value)) _ (Access (unit.Dp read addr value)) (Makes (cond read (dp_read_of addr) (dp_write_of addr value))) refl
      (dp_one t large forgive read addr value good_t) good_t
      (ap (λ (x : Attempt). x.outcome) eu ∙ same ∙ sym (ap (λ (x : Attempt). x.outcome) et))
      (subst (λ (x : Attempt). Follows (kept_after_plan k (unit.Dp read addr value)) large x.next (attempt u (cond read (dp_read_of addr) (dp_write_of addr value))).next) (sym et)
      (subst (λ (x : Attempt). Follows (kept_after_plan k (unit.Dp read addr value)) large (g t) x.next) (sym eu) follows))

  stays : (s : Unsettled) → k.unsettled ≡ Some s → acknowledges t 0x1000_0000 ≡ true → acknowledges t 0x1000_0000 ≡ true
  stays s e on = on

  -- A DP unit, which settles before it writes SELECT or CTRL/STAT.
  pub dp_course : (forgive read : Bool) (addr value : ℕ) → IsSoundDp read addr → (read ≡ false → (addr ≡ 4) ⊎ (addr ≡ 8) → k.unsettled ≡ None) →
      Course (by_plan k (unit.Dp read addr value)) (call_done t large forgive (Access (unit.Dp read addr value))) (Access (unit.Dp read addr value)) u
  dp_course forgive true addr value (inl e) calm =
      subst (λ (n : ℕ). Course (by_plan k (unit.Dp true n value)) (call_done t large forgive (Access (unit.Dp true n value))) (Access (unit.Dp true n value)) u) (sym e)
      (dp_by forgive true 0 value (λ s. Value s.dpidr) (λ s. s) (λ s c. id_reads s c) refl (ap (λ (s : TargetState). Value s.dpidr) f.rest) f)
  dp_course forgive true addr value (inr e) calm =
      subst (λ (n : ℕ). Course (by_plan k (unit.Dp true n value)) (call_done t large forgive (Access (unit.Dp true n value))) (Access (unit.Dp true n value)) u) (sym e)
      (dp_by forgive true 4 value (λ s. Value (stat_value s)) stat_read (λ s c. stat_reads s c) refl (ap (λ (s : TargetState). Value (stat_value s)) f.rest)
      (follows_beside k large t u f stat_read (stat_beside t) (stat_select t) (λ s e on. stat_power t f.few on)))
  dp_course forgive false addr value (inl e) calm =
      subst (λ (n : ℕ). Course (by_plan k (unit.Dp false n value)) (call_done t large forgive (Access (unit.Dp false n value))) (Access (unit.Dp false n value)) u) (sym e)
      (dp_by forgive false 0 value (λ s. Done) (abort_write value) (λ s c. abort_writes s value c) refl refl
      (follows_beside k large t u f (abort_write value) (abort_beside value t) (abort_select value t) (λ s e on. abort_power value t on)))
  dp_course forgive false addr value (inr (inl e)) calm =
      let none : k.unsettled ≡ None = calm refl (inl e) in
      subst (λ (n : ℕ). Course (by_plan k (unit.Dp false n value)) (call_done t large forgive (Access (unit.Dp false n value))) (Access (unit.Dp false n value)) u) (sym e)
      (dp_by forgive false 4 value (λ s. Done) (ctrl_write value) (λ s c. ctrl_writes s value c) refl refl
      (follows_beside k large t u f (ctrl_write value) (ctrl_beside value t) (ctrl_select value t)
      (λ s some on. (let x : ◌≡◌ {A = Option Unsettled} None (Some s) = sym none ∙ some in absurd (cc)))))
  dp_course forgive false addr value (inr (inr e)) calm =
      let none : k.unsettled ≡ None = calm refl (inr e) in
      subst (λ (n : ℕ). Course (by_plan k (unit.Dp false n value)) (call_done t large forgive (Access (unit.Dp false n value))) (Access (unit.Dp false n value)) u) (sym e)
      (dp_by forgive false 8 value (λ s. Done) (select_stored value) (λ s c. select_writes s value c) refl refl
      (follows_selected k large t u f (select_stored value) (select_beside value t) value none refl))

  pub poll_course : (forgive : Bool) (mask requested turns : ℕ) →
      Course (by_plan k (unit.Poll mask requested turns)) (call_done t large forgive (Access (unit.Poll mask requested turns))) (Access (unit.Poll mask requested turns)) u
  poll_course forgive mask requested turns =
      let h = polls_are mask requested turns t f.clear f.few in
      let g : TargetState → TargetState = λ s. (poll_result turns mask requested s).next in
      let same : (poll_result turns mask requested u).outcome ≡ (poll_result turns mask requested t).outcome =
      ap (λ (s : TargetState). (poll_result turns mask requested s).outcome) f.rest ∙ h.outcome u.rdbuff u.aps in
      single (by_plan k (unit.Poll mask requested turns)) _ (Access (unit.Poll mask requested turns)) (Polls mask requested turns) refl
      (poll_one t large forgive mask requested turns h.good) h.good same
      (follows_beside k large t u f g (record { commutes = h.commutes; ports = h.ports; clear = λ e. h.clear; few = h.few }) h.select (λ s e on. h.power on))

  pub probe_course : (forgive : Bool) (c : ProbeCall) →
      Course (record { steps = record { part = Ends; action = Commands c } ∷ []; kept = k }) (call_done t large forgive (Probe c)) (Probe c) u
  probe_course forgive c =
      let et = commanded_is c t f.clear in
      let eu = commanded_is c u u_clear in
      let good : is_fault (command_attempt t c).outcome ≡ false = ap (λ (x : Attempt). is_fault x.outcome) et ∙ no_fault c t in
      single (record { steps = record { part = Ends; action = Commands c } ∷ []; kept = k }) _ (Probe c) (Commands c) refl (probe_one t large forgive c good) good
      (ap (λ (x : Attempt). x.outcome) eu ∙ ap (command_outcome c) f.rest ∙ same_pins t c u.rdbuff u.aps ∙ sym (ap (λ (x : Attempt). x.outcome) et))
      (subst (λ (x : Attempt). Follows k large x.next (command_attempt u c).next) (sym et) (subst (λ (x : Attempt). Follows k large (commands c t) x.next) (sym eu)
      (follows_beside k large t u f (commands c) (commands_beside c t) (commands_select c t) (λ s e on. commands_power c t on))))
