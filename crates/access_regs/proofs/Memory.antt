-- A memory unit with no read of CFG: its plan against the plain unit.
use Rattle.std.proofs.Common.{◌≡◌, ◌≢◌, ◌∙◌, ℕ, ◌/◌, ◌%◌, ◌^◌, ◌<◌, Bool, true, false, cond, not, ◌||◌, List, [], ◌∷◌, ◌++◌, append_assoc, append-nil, Option, Some, None, refl, sym, ap, subst, arith, bit_or, is_none}
use Rattle.std.specs.FinMap as finite
use Rattle.std.specs.Option.{unwrap_or}
use Rattle.std.proofs.lemmas.Bool.{eq-eqb}
use Rattle.target_machine.specs.Attempt.{Attempt, attempt, posted_attempt, bus_error, acknowledges}
use Rattle.target_machine.specs.Plain.{Action, Makes, action_attempt, in_order, contains, select_of, ap_access_of, drw_of, csw_for, is_fault, given_number, call_done, ended_call, result_of, needs_cfg, csw_actions, memory_actions, transfer_actions, issued_actions, CallDone, Answered}
use Rattle.target_machine.specs.State.{TargetState}
use Rattle.target_machine.specs.declared.ap.ApState.{ApState}
use Rattle.target_machine.specs.declared.access.RegAccess.{RegAccess}
use Rattle.target_machine.specs.declared.access.Outcome.{Outcome}
use Rattle.target_machine.specs.declared.unit.Call.{Call}
use Rattle.target_machine.specs.declared.unit.Call.TheVariants.{Access}
use Rattle.target_machine.specs.declared.unit.Unit.{Unit as AccessUnit}
use Rattle.target_machine.specs.declared.unit.Unit.TheVariants as unit
use Rattle.access_regs.specs.Kept.{Kept, known_at, csw_of, is_known, kept_with_select}
use Rattle.access_regs.specs.Plan.{select_value, unless, select_needed, port_writes, kept_after_plan, kept_after_csw, first_plan, needs_csw, planned_csw}
use Rattle.access_regs.specs.Journal.{Issue, Step, making, steps_of, actions_of, before, gives, by_plan, by_csw}
use Rattle.access_regs.specs.Follows.{Follows, unsettled_tar}
use Rattle.access_regs.specs.declared.known.Known.{Known}
use Rattle.access_regs.specs.declared.known.Unsettled.{Unsettled}
use Rattle.access_regs.proofs.Csw.{IsSize}
use Rattle.access_regs.proofs.Port.{Selects, attempt_none, read_some}
use Rattle.access_regs.proofs.Select.{selected_is, making_append}
use Rattle.access_regs.proofs.PortFacts.{unsettled_none, unsettled_other, known_same}
use Rattle.access_regs.proofs.Transfer.{plain_writes}
use Rattle.access_regs.proofs.Stage as stage
use Rattle.access_regs.proofs.Course.{course_before, actions_steps, steps_append}
use Rattle.access_regs.specs.Course.{Course, answered, stopped}
use Rattle.target_machine.proofs.ActionLists.{pass_append, pass_last, pass_then_fault}
use Rattle.target_machine.specs.Lists.{PassTo}
use Rattle.target_calls.specs.declared.journal.Part.TheVariants.{Settles, Leads, Ends}
use Rattle.access_regs.proofs.FollowsFacts.{at_select, follows_select, follows_rdbuff, follows_known, plain_select, planned_select, planned_clear, same_power, same_words, learned_port}

-- ---- without power

pub no_power : (t : TargetState) (a : RegAccess) → t.sticky ≡ false → acknowledges t 0x1000_0000 ≡ false → a.ap ≡ true → attempt t a ≡ bus_error t
unfolding attempt
no_power t a clear power is = rw (clear, is, power) refl

-- the first of these is an access of an AP
HeadIsAp : List RegAccess → Type 0
HeadIsAp [] = Unit {0}
HeadIsAp (x ∷ xs) = x.ap ≡ true

head_of : (b c d : Bool) (x y z : RegAccess) → x.ap ≡ true → y.ap ≡ true → z.ap ≡ true → HeadIsAp (unless b x ++ (unless c y ++ unless d z))
unfolding HeadIsAp
head_of false c d x y z i j l = i
head_of true false d x y z i j l = j
head_of true true false x y z i j l = l
head_of true true true x y z i j l = tt

-- ---- a read of CSW

pub record CswRead (t : TargetState) (n : ℕ) : Type 0 where
  pub csw : ℕ
  pub is : attempt t (ap_access_of true 0 0) ≡ posted_attempt csw t
  pub shows : (p : ApState) → finite.get t.aps n ≡ Some p → csw ≡ bit_or p.csw 0x40

pub csw_reads : (t : TargetState) (n : ℕ) → Selects t n → CswRead t n
csw_reads t n at = by_port (finite.get t.aps n) refl
  where
    by_port : (o : Option ApState) → finite.get t.aps n ≡ o → CswRead t n
    by_port None none = record {
      csw = 0;
      is = attempt_none t n at (ap_access_of true 0 0) refl none;
      shows = λ p is. (let e : ◌≡◌ {A = Option ApState} None (Some p) = sym none ∙ is in absurd (cc));
    }
    by_port (Some q) some = record {
      csw = bit_or q.csw 0x40;
      is = read_some t n at q some;
      shows = λ p is. (let e : ◌≡◌ {A = Option ApState} (Some q) (Some p) = sym some ∙ is in let same : q ≡ p = cc in ap (λ (x : ApState). bit_or x.csw 0x40) same);
    }

pub transfer_is : (l : Bool) (size : ℕ) (read : Bool) (address value csw : ℕ) →
    transfer_actions l size read address value csw ≡ making (plain_writes (csw_for csw size) l address) ++ Makes (drw_of read address value) ∷ []
transfer_is true size read address value csw = refl
transfer_is false size read address value csw = refl

-- ---- the call

abbrev pub memory_done : TargetState → List ℕ → ℕ → Bool → ℕ → ℕ → ℕ → Attempt → CallDone
memory_done t large size read n address value x =
    ended_call (is_fault x.outcome) false false (result_of (Access (unit.Memory size read n address value)) (given_number x.outcome)) x.next large
    (issued_actions t (memory_actions t (contains large n) size read n address value))

pub done_memory : (t : TargetState) (large : List ℕ) (size : ℕ) (read : Bool) (n address value : ℕ) → needs_cfg large n address ≡ false →
    call_done t large false (Access (unit.Memory size read n address value))
    ≡ memory_done t large size read n address value (in_order t (memory_actions t (contains large n) size read n address value))
unfolding call_done
done_memory t large size read n address value narrow = rw narrow refl

module _ (large : List ℕ) (size : ℕ) (read : Bool) (n address value : ℕ) (lt : n < 256) (is : IsSize size) (aligned : address % size ≡ 0) where
  abbrev asked : AccessUnit
  asked = unit.Memory size read n address value

  abbrev call : Call
  call = Access asked

  abbrev last : Step
  last = record { part = Ends; action = Makes (drw_of read address value) }

  -- what a plan has after SELECT
  abbrev tail : Kept → Issue
  tail k = record { steps = steps_of Leads (port_writes (known_at k n) size address) ++ last ∷ []; kept = kept_after_plan k asked }

  module _ (k : Kept) (t0 t u : TargetState) (f : Follows k large t u) (knows : (known_at k n).csw ≡ Some (csw_of (known_at k n))) (at : Selects t n) (selects : t.select ≡ select_value n 0)
      (idle : (q : ℕ) → q ≢ n → unsettled_tar k q ≡ None) (csw : ℕ) (csw_read : (p : ApState) → finite.get t.aps n ≡ Some p → csw ≡ bit_or p.csw 0x40) where
    abbrev X : Attempt
    X = stage.X k large t u size read n address value lt is aligned f knows at selects idle csw csw_read

    abbrev Y : Attempt
    Y = stage.Y k large t u size read n address value lt is aligned f knows at selects idle csw csw_read

    abbrev d : CallDone
    d = memory_done t0 large size read n address value X

    abbrev u3 : TargetState
    u3 = stage.u3 k large t u size read n address value lt is aligned f knows at selects idle csw csw_read

    together : stage.Drws k large t u size read n address value lt is aligned f knows at selects idle csw csw_read u3
    together = stage.together k large t u size read n address value lt is aligned f knows at selects idle csw csw_read

    writes_pass : PassTo u (actions_of (steps_of Leads (port_writes (known_at k n) size address))) u3
    writes_pass =
        let p = stage.planned k large t u size read n address value lt is aligned f knows at selects idle csw csw_read in
        subst (λ (l : List Action). PassTo u l u3) (sym (actions_steps Leads (port_writes (known_at k n) size address))) p.pass

    abbrev ended_by : Bool → CallDone
    ended_by b = ended_call b false false (result_of call (given_number X.outcome)) X.next large (issued_actions t0 (memory_actions t0 (contains large n) size read n address value))

    by_fault : (b : Bool) → is_fault X.outcome ≡ b → Course (tail k) d call u
    by_fault false e =
        let same : d ≡ ended_by false = ap ended_by e in
        answered (record {
          leads = steps_of Leads (port_writes (known_at k n) size address);
          action = Makes (drw_of read address value);
          at = u3;
          steps = refl;
          pass = writes_pass;
          good = ap is_fault together.outcome ∙ e;
          end = ap (λ (c : CallDone). c.end) same ∙ ap (λ (o : Outcome). Answered (result_of call (given_number o))) (sym together.outcome);
          follows = subst (λ (c : CallDone). Follows (kept_after_plan k asked) c.large c.next Y.next) (sym same)
              (stage.follows k large t u size read n address value lt is aligned f knows at selects idle csw csw_read e);
        })
    by_fault true e =
        let same : d ≡ ended_by true = ap ended_by e in
        stopped (record {
          leads = steps_of Leads (port_writes (known_at k n) size address);
          step = last;
          more = [];
          at = u3;
          steps = refl;
          own = λ q. absurd (cc);
          pass = writes_pass;
          bad = ap is_fault together.outcome ∙ e;
          end = ap (λ (c : CallDone). c.end) same;
          words = ap (λ (x : TargetState). x.words) together.rest ∙ sym (ap (λ (c : CallDone). c.next.words) same);
        })

    pub tail_course : Course (tail k) d call u
    tail_course = by_fault (is_fault X.outcome) refl

  -- ---- from the unit's first access on

  module _ (k : Kept) (t u : TargetState) (f : Follows k large t u) (narrow : needs_cfg large n address ≡ false) (calm : (s : Unsettled) → k.unsettled ≡ Some s → s.ap ≡ n) where
    abbrev ts : TargetState
    ts = at_select t n 0

    abbrev us : TargetState
    us = at_select u n 0

    abbrev k1 : Kept
    k1 = kept_with_select k (select_value n 0)

    abbrev csw_access : RegAccess
    csw_access = ap_access_of true 0 0

    abbrev done_call : CallDone
    done_call = call_done t large false call

    abbrev R : Attempt
    R = in_order t (memory_actions t (contains large n) size read n address value)

    f1 : Follows k1 large ts us
    f1 = follows_select k large t u f n 0 lt (omega arith) (λ s e. ap (λ (i : ℕ). select_value i 0) (sym (calm s e)))

    idle_at : (q : ℕ) → q ≢ n → unsettled_tar k q ≡ None
    idle_at q ne = by_unsettled k.unsettled refl
      where
        by_unsettled : (o : Option Unsettled) → k.unsettled ≡ o → unsettled_tar k q ≡ None
        by_unsettled None none = unsettled_none k q none
        by_unsettled (Some s) some = unsettled_other k q s some (λ e. ne (e ∙ calm s some))

    done_by : (x : Attempt) → R ≡ x → done_call ≡ memory_done t large size read n address value x
    done_by x e = done_memory t large size read n address value narrow ∙ ap (memory_done t large size read n address value) e

    -- ---- without power

    module _ (off : acknowledges t 0x1000_0000 ≡ false) where
      plain_fails : R ≡ bus_error ts
      plain_fails =
          let x = no_power ts csw_access f.clear off refl in
          pass_then_fault t ts (Makes (select_of n 0) ∷ []) (Makes csw_access)
          (transfer_actions (contains large n) size read address value (given_number (in_order t (csw_actions n)).outcome)) (plain_select k large t u f n 0 lt (omega arith)) (ap (λ (y : Attempt). is_fault y.outcome) x) ∙ x

      stops_at : (i : Issue) (step : Step) (more : List Step) → i.steps ≡ steps_of Leads (select_needed k n 0) ++ step ∷ more → step.part ≢ Settles → action_attempt us step.action ≡ bus_error us → Course i done_call call u
      stops_at i step more steps own x =
          let e : done_call ≡ memory_done t large size read n address value (bus_error ts) = done_by (bus_error ts) plain_fails in
          stopped (record {
            leads = steps_of Leads (select_needed k n 0);
            step = step;
            more = more;
            at = us;
            steps = steps;
            own = own;
            pass = subst (λ (l : List Action). PassTo u l us) (sym (actions_steps Leads (select_needed k n 0))) (planned_select k large t u f n 0 lt (omega arith));
            bad = ap (λ (y : Attempt). is_fault y.outcome) x;
            end = ap (λ (c : CallDone). c.end) e;
            words = ap (λ (y : Attempt). y.next.words) x ∙ same_words k large t u f ∙ sym (ap (λ (c : CallDone). c.next.words) e);
          })

      off_planned : (a : RegAccess) → a.ap ≡ true → attempt us a ≡ bus_error us
      off_planned a is = no_power us a (planned_clear k large t u f) (same_power k large t u f ∙ off) is

      stops_in : (xs : List RegAccess) → HeadIsAp xs → Course (record { steps = steps_of Leads (select_needed k n 0 ++ xs) ++ last ∷ []; kept = kept_after_plan k asked }) done_call call u
      unfolding HeadIsAp
      stops_in [] head =
          stops_at _ last [] (ap (λ (l : List Step). l ++ last ∷ []) (steps_append Leads (select_needed k n 0) [] ∙ append-nil (steps_of Leads (select_needed k n 0)))) (λ q. absurd (cc)) (off_planned (drw_of read address value) refl)
      stops_in (x ∷ xs) head =
          stops_at _ (record { part = Leads; action = Makes x }) (steps_of Leads xs ++ last ∷ [])
          (ap (λ (l : List Step). l ++ last ∷ []) (steps_append Leads (select_needed k n 0) (x ∷ xs)) ∙ append_assoc (steps_of Leads (select_needed k n 0)) (steps_of Leads (x ∷ xs)) (last ∷ []))
          (λ q. absurd (cc)) (off_planned x head)

      pub off_course : Course (by_csw u k asked) done_call call u
      off_course = by_needs (needs_csw k asked)
        where
          first : Issue
          first = before (steps_of Leads (first_plan k n)) (by_plan (kept_after_csw k n (gives u (first_plan k n))) asked)

          by_needs : (b : Bool) → Course (cond b first (by_plan k asked)) done_call call u
          by_needs true =
              let rest : List Step = (by_plan (kept_after_csw k n (gives u (first_plan k n))) asked).steps in
              stops_at first (record { part = Leads; action = Makes csw_access }) rest
              (ap (λ (l : List Step). l ++ rest) (steps_append Leads (select_needed k n 0) (csw_access ∷ []))
              ∙ append_assoc (steps_of Leads (select_needed k n 0)) (steps_of Leads (csw_access ∷ [])) rest)
              (λ q. absurd (cc)) (off_planned csw_access refl)
          by_needs false =
              stops_in (port_writes (known_at k n) size address)
              (head_of (is_known (known_at k n).csw (planned_csw (csw_of (known_at k n)) size)) (not (known_at k n).large || is_known (known_at k n).high (address / 2 ^ 32)) (is_known (known_at k n).tar (address % 2 ^ 32))
              (ap_access_of false 0 (planned_csw (csw_of (known_at k n)) size)) (ap_access_of false 8 (address / 2 ^ 32)) (ap_access_of false 4 (address % 2 ^ 32)) refl refl refl)

    -- ---- with power

    module _ (on : acknowledges t 0x1000_0000 ≡ true) where
      ats : Selects ts n
      ats = selected_is ts n lt f.clear on refl

      atu : Selects us n
      atu = selected_is us n lt (planned_clear k large t u f) (same_power k large t u f ∙ on) refl

      rt : CswRead ts n
      rt = csw_reads ts n ats

      ru : CswRead us n
      ru = csw_reads us n atu

      abbrev t2 : TargetState
      t2 = record ts { rdbuff = rt.csw }

      at2 : Selects t2 n
      at2 = record { power = ats.power; clear = ats.clear; here = ats.here; bank = ats.bank }

      read_pass : PassTo t (csw_actions n) t2
      read_pass =
          pass_append t ts t2 (Makes (select_of n 0) ∷ []) (Makes csw_access ∷ []) (plain_select k large t u f n 0 lt (omega arith))
          (ap (λ (x : Attempt). is_fault x.outcome) rt.is, ap (λ (x : Attempt). x.next) (sym rt.is))

      read_order : in_order t (csw_actions n) ≡ posted_attempt rt.csw ts
      read_order = pass_last t ts (Makes (select_of n 0) ∷ []) (Makes csw_access) (plain_select k large t u f n 0 lt (omega arith)) ∙ rt.is

      module _ (k2 : Kept) (u2 : TargetState) (f2 : Follows k2 large t2 u2) (knows : (known_at k2 n).csw ≡ Some (csw_of (known_at k2 n))) (idle : (q : ℕ) → q ≢ n → unsettled_tar k2 q ≡ None) where
        abbrev writes : List Action
        writes = making (plain_writes (csw_for rt.csw size) (known_at k2 n).large address)

        abbrev drw_action : Action
        drw_action = Makes (drw_of read address value)

        abbrev t3 : TargetState
        t3 = stage.t3 k2 large t2 u2 size read n address value lt is aligned f2 knows at2 refl idle rt.csw rt.shows

        plain_is : R ≡ attempt t3 (drw_of read address value)
        plain_is =
            ap (λ (x : Attempt). in_order t (csw_actions n ++ transfer_actions (contains large n) size read address value (given_number x.outcome))) read_order
            ∙ ap (λ (l : Bool). in_order t (csw_actions n ++ transfer_actions l size read address value rt.csw)) (sym (f2.larges n lt))
            ∙ ap (λ (l : List Action). in_order t (csw_actions n ++ l)) (transfer_is (known_at k2 n).large size read address value rt.csw)
            ∙ ap (in_order t) (sym (append_assoc (csw_actions n) writes (drw_action ∷ [])))
            ∙ pass_last t t3 (csw_actions n ++ writes) drw_action
            (pass_append t t2 t3 (csw_actions n) writes read_pass (let p = stage.plain k2 large t2 u2 size read n address value lt is aligned f2 knows at2 refl idle rt.csw rt.shows in p.pass))

        on_tail : Course (tail k2) done_call call u2
        on_tail =
            subst (λ (d : CallDone). Course (tail k2) d call u2) (sym (done_by (attempt t3 (drw_of read address value)) plain_is))
            (tail_course k2 t t2 u2 f2 knows at2 refl idle rt.csw rt.shows)

      idle_selected : (q : ℕ) → q ≢ n → unsettled_tar k1 q ≡ None
      idle_selected q ne = idle_at q ne

      -- CSW is known
      known_course : (known_at k n).csw ≡ Some (csw_of (known_at k n)) → Course (by_plan k asked) done_call call u
      known_course knows =
          let S : List RegAccess = select_needed k n 0 in
          let W : List RegAccess = port_writes (known_at k n) size address in
          let f2 : Follows k1 large t2 us = follows_rdbuff k1 large ts us f1 rt.csw us.rdbuff in
          let c : Course (before (steps_of Leads S) (tail k1)) done_call call u =
          course_before (tail k1) done_call call u us (steps_of Leads S) (subst (λ (l : List Action). PassTo u l us) (sym (actions_steps Leads S)) (planned_select k large t u f n 0 lt (omega arith)))
          (on_tail k1 us f2 knows idle_selected) in
          let same : steps_of Leads (S ++ W) ++ last ∷ [] ≡ steps_of Leads S ++ (steps_of Leads W ++ last ∷ []) =
          ap (λ (l : List Step). l ++ last ∷ []) (steps_append Leads S W) ∙ append_assoc (steps_of Leads S) (steps_of Leads W) (last ∷ []) in
          subst (λ (l : List Step). Course (record { steps = l; kept = kept_after_plan k asked }) done_call call u) (sym same) c

      -- CSW is read first
      abbrev learned_known : Known
      learned_known = record (known_at k n) { csw = Some ru.csw }

      abbrev k2 : Kept
      k2 = kept_after_csw k n ru.csw

      abbrev u2 : TargetState
      u2 = record us { rdbuff = ru.csw }

      known_is : known_at k2 n ≡ learned_known
      known_is = let e = f.table in known_same k n learned_known (omega arith)

      learned_follows : (known_at k n).csw ≡ None → Follows k2 large t2 u2
      learned_follows none =
          let g : Follows k2 large ts us =
          follows_known k1 large ts us f1 n learned_known lt refl
          (learned_port (known_at k n) (unsettled_tar k n) ru.csw (finite.get ts.aps n) (finite.get us.aps n) none (λ r e. ru.shows r e) (f1.ports n)) in
          follows_rdbuff k2 large ts us g rt.csw ru.csw

      first_pass : PassTo u (actions_of (steps_of Leads (first_plan k n))) u2
      first_pass =
          subst (λ (l : List Action). PassTo u l u2) (sym (actions_steps Leads (first_plan k n) ∙ making_append (select_needed k n 0) (csw_access ∷ [])))
          (pass_append u us u2 (making (select_needed k n 0)) (Makes csw_access ∷ []) (planned_select k large t u f n 0 lt (omega arith))
          (ap (λ (x : Attempt). is_fault x.outcome) ru.is, ap (λ (x : Attempt). x.next) (sym ru.is)))

      gives_csw : gives u (first_plan k n) ≡ ru.csw
      gives_csw =
          ap (λ (l : List Action). given_number (in_order u l).outcome) (making_append (select_needed k n 0) (csw_access ∷ []))
          ∙ ap (λ (x : Attempt). given_number x.outcome) (pass_last u us (making (select_needed k n 0)) (Makes csw_access) (planned_select k large t u f n 0 lt (omega arith)) ∙ ru.is)

      selected_plan : by_plan k2 asked ≡ tail k2
      selected_plan =
          ap (λ (b : Bool). with_select (unless b (select_of n 0))) (eq-eqb (select_value n 0) (select_value n 0) refl)
        where
          with_select : List RegAccess → Issue
          with_select xs = record { steps = steps_of Leads (xs ++ port_writes (known_at k2 n) size address) ++ last ∷ []; kept = kept_after_plan k2 asked }

      unknown_course : (known_at k n).csw ≡ None → Course (before (steps_of Leads (first_plan k n)) (by_plan (kept_after_csw k n (gives u (first_plan k n))) asked)) done_call call u
      unknown_course none =
          let knows : (known_at k2 n).csw ≡ Some (csw_of (known_at k2 n)) = subst (λ (a : Known). a.csw ≡ Some (csw_of a)) (sym known_is) refl in
          let c : Course (by_plan k2 asked) done_call call u2 =
          subst (λ (i : Issue). Course i done_call call u2) (sym selected_plan) (on_tail k2 u2 (learned_follows none) knows idle_selected) in
          subst (λ (v : ℕ). Course (before (steps_of Leads (first_plan k n)) (by_plan (kept_after_csw k n v) asked)) done_call call u) (sym gives_csw)
          (course_before (by_plan k2 asked) done_call call u u2 (steps_of Leads (first_plan k n)) first_pass c)

      pub on_course : Course (by_csw u k asked) done_call call u
      on_course = by_csw_known (known_at k n).csw refl
        where
          first : Issue
          first = before (steps_of Leads (first_plan k n)) (by_plan (kept_after_csw k n (gives u (first_plan k n))) asked)

          by_csw_known : (o : Option ℕ) → (known_at k n).csw ≡ o → Course (by_csw u k asked) done_call call u
          by_csw_known None none =
              subst (λ (i : Issue). Course i done_call call u) (sym (ap (λ (o : Option ℕ). cond (is_none o) first (by_plan k asked)) none)) (unknown_course none)
          by_csw_known (Some c) some =
              let knows : (known_at k n).csw ≡ Some (csw_of (known_at k n)) = some ∙ ap (λ (o : Option ℕ). Some (unwrap_or o 0)) (sym some) in
              subst (λ (i : Issue). Course i done_call call u) (sym (ap (λ (o : Option ℕ). cond (is_none o) first (by_plan k asked)) some)) (known_course knows)

    -- The unit is answered, or stops, as the plain unit does.
    pub narrow_course : Course (by_csw u k asked) done_call call u
    narrow_course = by_power (acknowledges t 0x1000_0000) refl
      where
        by_power : (b : Bool) → acknowledges t 0x1000_0000 ≡ b → Course (by_csw u k asked) done_call call u
        by_power true e = on_course e
        by_power false e = off_course e
