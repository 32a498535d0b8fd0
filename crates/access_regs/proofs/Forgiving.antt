-- A unit made alone, where nothing is unsettled: it is made by the accesses of the plain unit.
use Rattle.std.proofs.Common.{◌≡◌, ◌≢◌, ◌∙◌, ℕ, ◌/◌, ◌%◌, ◌^◌, ◌<◌, ◌⊎◌, inl, inr, Bool, true, false, cond, not, ◌&&◌, ◌||◌, nat_lt, List, [], ◌∷◌, ◌++◌, Option, None, refl, sym, ap, subst, arith, length, append_assoc}
use Rattle.std.proofs.lemmas.Bool.{eq-eqb, cases_eq, both_ways}
use Rattle.std.proofs.Math.Bool.{and-false}
use Rattle.target_machine.specs.Attempt.{Attempt, attempt, done_attempt, is_free}
use Rattle.target_machine.specs.Laws.{AnswerAlike}
use Rattle.target_machine.specs.Plain.{Action, Makes, Polls, Commands, action_attempt, in_order, is_fault, given_number, issued_actions, contains, select_of, ap_access_of, drw_of, needs_cfg, has_large, unit_actions, call_done, ended_call, result_of, large_after, is_small, command_attempt, forgives, CallDone, Answered, Faulted, Skipped}
use Rattle.target_machine.specs.State.{TargetState, Agree}
use Rattle.target_machine.specs.declared.access.Outcome.{Outcome}
use Rattle.target_machine.specs.declared.access.Outcome.TheVariants.{Fault}
use Rattle.target_machine.specs.declared.access.RegAccess.{RegAccess}
use Rattle.target_machine.specs.declared.unit.Call.{Call}
use Rattle.target_machine.specs.declared.unit.Call.TheVariants.{Access}
use Rattle.target_machine.specs.declared.unit.Unit.{Unit as AccessUnit}
use Rattle.target_machine.specs.declared.unit.Unit.TheVariants as unit
use Rattle.access_regs.specs.Kept.{Kept, known_at, with_known, forgotten}
use Rattle.access_regs.specs.Journal.{Issue, Step, actions_of, port_of, large_of, part_of, parts_of, is_early, issue_done, is_last, select_written, select_after, kept_after, alone_at}
use Rattle.access_regs.specs.Follows.{Follows}
use Rattle.access_regs.specs.declared.known.Known.{Known}
use Rattle.access_regs.proofs.Stage.{is_true_of}
use Rattle.access_regs.proofs.PortFacts.{table_kept, known_same, known_other}
use Rattle.access_regs.proofs.Settle.{follows_agree}
use Rattle.access_regs.specs.Course.{Course, answered, small, skipped, stopped, IsPassing}
use Rattle.access_regs.proofs.FollowsFacts.{planned_clear}
use Rattle.access_regs.proofs.Agreeing.{follows_facts, forgotten_true, whole_from}
use Rattle.access_regs.proofs.Wide.{contains_last, contains_other}
use Rattle.target_machine.proofs.ActionAgreement.{in_order_alike}
use Rattle.target_machine.proofs.ActionLists.{order_fault, order_from, pass_last, after_append, after_issued, issued_pass, order_next}
use Rattle.target_machine.specs.Lists.{after, PassTo, SpareRdbuff}
use Rattle.target_calls.specs.Journal.{settles}
use Rattle.target_calls.specs.declared.journal.Part.TheVariants.{Settles, Leads, Ends, Skips}
use Rattle.access_regs.proofs.Runs.{Left, Step', run_left}
use Rattle.access_regs.proofs.MemoryShape.{csw_at, left_shape, memory_shape, quiet_shape, shape, shape_front, shape_last, shape_same}

-- ---- any unit that may be forgiven

-- the write of ABORT that clears STICKYERR
pub aborts : (t : TargetState) → command_attempt t forgives ≡ done_attempt (record t { sticky = false })
unfolding attempt is_free
aborts t = by_sticky t.sticky
  where
    by_sticky : (b : Bool) → cond (b && false) (record { outcome = Fault; next = t }) (done_attempt (record t { sticky = false })) ≡ done_attempt (record t { sticky = false })
    by_sticky true = refl
    by_sticky false = refl

pub actions_parts : (early : Bool) (asked : AccessUnit) (xs : List Action) → actions_of (parts_of early asked xs) ≡ xs
actions_parts early asked [] = refl
actions_parts early asked (x ∷ xs) = ap (λ (l : List Action). x ∷ l) (actions_parts early asked xs)

pub parts_append : (early : Bool) (asked : AccessUnit) (xs ys : List Action) → parts_of early asked (xs ++ ys) ≡ parts_of early asked xs ++ parts_of early asked ys
parts_append early asked [] ys = refl
parts_append early asked (x ∷ xs) ys = ap (λ (l : List Step). record { part = part_of early asked x; action = x } ∷ l) (parts_append early asked xs ys)

pub never_settles : (early : Bool) (asked : AccessUnit) (x : Action) → settles (part_of early asked x) ≡ false
never_settles early asked (Makes a) = by_last (is_last asked a)
  where
    by_last : (b : Bool) → settles (cond b Ends Leads) ≡ false
    by_last true = refl
    by_last false = refl
never_settles early asked (Polls m w n) = refl
never_settles early asked (Commands c) = refl

all_pass : (early : Bool) (asked : AccessUnit) (u : TargetState) (xs : List Action) → IsPassing u (parts_of early asked xs)
all_pass early asked u [] = tt
all_pass early asked u (x ∷ xs) =
    (ap (λ (b : Bool). is_fault (action_attempt u x).outcome && b) (never_settles early asked x) ∙ and-false (is_fault (action_attempt u x).outcome), all_pass early asked (action_attempt u x).next xs)

pub select_append : (written : Option ℕ) (xs ys : List Action) → select_after written (xs ++ ys) ≡ select_after (select_after written xs) ys
select_append written [] ys = refl
select_append written (x ∷ xs) ys = select_append (select_written written x) xs ys

record Split (t : TargetState) (xs : List Action) (a : Action) (v : TargetState) : Type 0 where
  at : TargetState
  pass : PassTo t xs at
  good : is_fault (action_attempt at a).outcome ≡ false
  is : v ≡ (action_attempt at a).next

split_pass : (t : TargetState) (xs : List Action) (a : Action) (v : TargetState) → PassTo t (xs ++ a ∷ []) v → Split t xs a v
split_pass t [] a v h = record { at = t; pass = refl; good = h.0; is = h.1 }
split_pass t (x ∷ xs) a v h = let s = split_pass (action_attempt t x).next xs a v h.1 in record { at = s.at; pass = (h.0, s.pass); good = s.good; is = s.is }

-- actions of which one faults: those before it pass, and it is the last that is issued
record Faults (m : Attempt) (xs : List Action) : Type 0 where
  front : List Action
  action : Action
  at : TargetState
  is : issued_actions m.next xs ≡ front ++ action ∷ []
  pass : PassTo m.next front at
  bad : is_fault (action_attempt at action).outcome ≡ true
  last : order_from m xs ≡ action_attempt at action

faults_from : (xs : List Action) (m : Attempt) → is_fault m.outcome ≡ false → is_fault (order_from m xs).outcome ≡ true → Faults m xs
faults_from [] m good bad = absurd (both_ways (is_fault m.outcome) good bad)
faults_from (y ∷ xs) m good bad = by_first (is_fault (action_attempt m.next y).outcome) refl (λ e. faults_from xs (action_attempt m.next y) e (ap (λ (z : Attempt). is_fault z.outcome) (sym (order_next m y xs good)) ∙ bad))
  where
    by_first : (b : Bool) → is_fault (action_attempt m.next y).outcome ≡ b → (is_fault (action_attempt m.next y).outcome ≡ false → Faults (action_attempt m.next y) xs) → Faults m (y ∷ xs)
    by_first true e again = record {
      front = [];
      action = y;
      at = m.next;
      is = ap (λ (b : Bool). y ∷ cond b [] (issued_actions (action_attempt m.next y).next xs)) e;
      pass = refl;
      bad = e;
      last = order_next m y xs good ∙ order_fault (action_attempt m.next y) xs e;
    }
    by_first false e again =
        let r = again e in
        record {
          front = y ∷ r.front;
          action = r.action;
          at = r.at;
          is = ap (λ (b : Bool). y ∷ cond b [] (issued_actions (action_attempt m.next y).next xs)) e ∙ ap (λ (l : List Action). y ∷ l) r.is;
          pass = (e, r.pass);
          bad = r.bad;
          last = order_next m y xs good ∙ r.last;
        }

-- the last access of a list is the one that the unit is for
pub record HasLast (asked : AccessUnit) (xs : List Action) : Type 0 where
  pub front : List Action
  pub last : RegAccess
  pub is : xs ≡ front ++ Makes last ∷ []
  pub ends : is_last asked last ≡ true

module _ (k : Kept) (large : List ℕ) (t u : TargetState) (f : Follows k large t u) (calm : k.unsettled ≡ None) (asked : AccessUnit) (lt : port_of asked < 256)
    (xs : List Action) (s : Bool) (lt_after lu_after : List ℕ) where
  abbrev n : ℕ
  n = port_of asked

  abbrev call : Call
  call = Access asked

  abbrev RT : Attempt
  RT = in_order t xs

  abbrev RU : Attempt
  RU = in_order u xs

  abbrev DT : Bool → CallDone
  DT forgive = ended_call (is_fault RT.outcome) forgive s (result_of call (given_number RT.outcome)) RT.next lt_after (issued_actions t xs)

  abbrev DU : Bool → CallDone
  DU forgive = ended_call (is_fault RU.outcome) forgive s (result_of call (given_number RU.outcome)) RU.next lu_after (issued_actions u xs)

  abbrev kept_of : CallDone → Kept
  kept_of d = kept_after k asked d

  abbrev issue_of : CallDone → Issue
  issue_of d = issue_done k asked d

  module _ (quiet : SpareRdbuff xs) (left : Step' n u (select_after k.select (issued_actions u xs)) RU) (last : s ≡ false → HasLast asked xs)
      (same_large : contains lu_after n ≡ contains lt_after n) (other_large : (q : ℕ) → q ≢ n → contains lt_after q ≡ contains large q) where
    alike : AnswerAlike RT RU
    alike = in_order_alike xs t u (follows_agree k large t u f calm) quiet

    table : n < length k.ports
    table = let e = f.table in let l : n < 256 = lt in omega arith

    larges_at : (q : ℕ) → q < 256 → (q ≡ n) ⊎ (q ≢ n) → (known_at (with_known k n (record (forgotten (known_at k n)) { large = contains lu_after n })) q).large ≡ contains lt_after q
    larges_at q less (inl same) =
        ap (λ (i : ℕ). (known_at (with_known k n (record (forgotten (known_at k n)) { large = contains lu_after n })) i).large) same
        ∙ ap (λ (x : Known). x.large) (known_same k n (record (forgotten (known_at k n)) { large = contains lu_after n }) table) ∙ same_large ∙ ap (contains lt_after) (sym same)
    larges_at q less (inr ne) =
        ap (λ (x : Known). x.large) (known_other k n q (record (forgotten (known_at k n)) { large = contains lu_after n }) ne) ∙ f.larges q less ∙ sym (other_large q ne)

    -- what is kept after it is so
    facts : (v w : TargetState) (written : Option ℕ) → Agree v w → v.sticky ≡ false → Left n u written w →
        Follows (record (with_known k n (record (forgotten (known_at k n)) { large = contains lu_after n })) { select = written }) lt_after v w
    facts v w written agree clear l =
        let a : Known = record (forgotten (known_at k n)) { large = contains lu_after n } in
        follows_facts (record (with_known k n a) { select = written }) lt_after v w (record {
          agree = agree;
          clear = clear;
          few =
              subst (λ (x : ℕ). x < 2 ^ 32) (sym (ap (λ (x : TargetState). x.power_reads) agree.same ∙ l.few ∙ ap (λ (x : TargetState). x.power_reads) f.rest)) f.few;
          table = table_kept k n a ∙ f.table;
          select = λ x e. ap (λ (y : TargetState). y.select) agree.same ∙ l.select x e;
          larges = λ q less. larges_at q less (cases_eq q n);
          so = forgotten_true k n a u w table refl refl refl l.others (l.stored (whole_from k large t u f)) (λ q p is. is_true_of k large t u q f p is);
          calm = calm;
        })

    abbrev written : Option ℕ
    written = select_after k.select (issued_actions u xs)

    abbrev kept_with : Option ℕ → Kept
    kept_with w = record (with_known k n (record (forgotten (known_at k n)) { large = contains lu_after n })) { select = w }

    -- it faults, and is skipped
    abbrev skipped_t : CallDone
    skipped_t = record { end = Skipped; next = (command_attempt RT.next forgives).next; large = lt_after; actions = issued_actions t xs ++ Commands forgives ∷ [] }

    abbrev skipped_u : CallDone
    skipped_u = record { end = Skipped; next = (command_attempt RU.next forgives).next; large = lu_after; actions = issued_actions u xs ++ Commands forgives ∷ [] }

    abbrev skip_parts : List Step
    skip_parts = parts_of (is_early asked skipped_u.actions) asked skipped_u.actions

    skipped_follows : Follows (kept_of skipped_u) lt_after (command_attempt RT.next forgives).next (after u (actions_of skip_parts))
    skipped_follows =
        let l = left.left in
        let v : TargetState = record RT.next { sticky = false } in
        let w : TargetState = record RU.next { sticky = false } in
        let g : Follows (kept_with written) lt_after v w =
        facts v w written (record { same = ap (λ (x : TargetState). record x { sticky = false }) alike.next.same }) refl
        (record { others = l.others; stored = l.stored; few = l.few; select = l.select; here = l.here }) in
        let at : after u (actions_of skip_parts) ≡ w =
        ap (after u) (actions_parts (is_early asked skipped_u.actions) asked skipped_u.actions) ∙ after_append u (issued_actions u xs) (Commands forgives ∷ [])
        ∙ ap (λ (x : TargetState). (command_attempt x forgives).next) (after_issued xs u) ∙ ap (λ (x : Attempt). x.next) (aborts RU.next) in
        subst (λ (x : Option ℕ). Follows (kept_with x) lt_after (command_attempt RT.next forgives).next (after u (actions_of skip_parts)))
        (sym (select_append k.select (issued_actions u xs) (Commands forgives ∷ [])))
        (subst (λ (x : TargetState). Follows (kept_with written) lt_after x (after u (actions_of skip_parts))) (sym (ap (λ (x : Attempt). x.next) (aborts RT.next)))
        (subst (Follows (kept_with written) lt_after v) (sym at) g))

    -- it does not fault
    module _ (good : is_fault RU.outcome ≡ false) where
      t_clear : RT.next.sticky ≡ false
      t_clear = ap (λ (x : TargetState). x.sticky) alike.next.same ∙ left.clear good

      after_follows : Follows (kept_with written) lt_after RT.next RU.next
      after_follows = facts RT.next RU.next written alike.next t_clear left.left

      all_issued : (issued_actions u xs ≡ xs) × PassTo u xs RU.next
      all_issued = issued_pass xs u good

      good_course : (forgive b : Bool) → s ≡ b →
          Course (issue_of (ended_call false forgive b (result_of call (given_number RU.outcome)) RU.next lu_after (issued_actions u xs))) (ended_call false forgive b (result_of call (given_number RT.outcome)) RT.next lt_after (issued_actions t xs)) call u
      good_course forgive true e =
          small (record {
            at = RU.next;
            pass = subst (λ (l : List Action). PassTo u l RU.next) (sym (actions_parts (is_early asked (issued_actions u xs)) asked (issued_actions u xs) ∙ all_issued.0)) all_issued.1;
            end = refl;
            follows = after_follows;
          })
      good_course forgive false e =
          let h = last e in
          let early : Bool = is_early asked (issued_actions u xs) in
          let p = split_pass u h.front (Makes h.last) RU.next (subst (λ (l : List Action). PassTo u l RU.next) h.is all_issued.1) in
          let order : RU ≡ attempt p.at h.last = ap (in_order u) h.is ∙ pass_last u p.at h.front (Makes h.last) p.pass in
          answered (record {
            leads = parts_of early asked h.front;
            action = Makes h.last;
            at = p.at;
            steps = ap (parts_of early asked) (all_issued.0 ∙ h.is) ∙ parts_append early asked h.front (Makes h.last ∷ [])
                ∙ ap (λ (b : Bool). parts_of early asked h.front ++ record { part = cond b Ends Leads; action = Makes h.last } ∷ []) h.ends;
            pass = subst (λ (l : List Action). PassTo u l p.at) (sym (actions_parts early asked h.front)) p.pass;
            good = p.good;
            end = ap (λ (o : Outcome). Answered (result_of call (given_number o))) alike.outcome ∙ ap (λ (x : Attempt). Answered (result_of call (given_number x.outcome))) order;
            follows = subst (Follows (kept_with written) lt_after RT.next) p.is after_follows;
          })

    -- it faults: its steps end with the one that does
    module _ (bad : is_fault RU.outcome ≡ true) where
      abbrev x : Faults (done_attempt u) xs
      x = faults_from xs (done_attempt u) refl bad

      own : (early : Bool) → part_of early asked x.action ≢ Settles
      own early e = let settling : settles (part_of early asked x.action) ≡ true = ap settles e in absurd (both_ways (settles (part_of early asked x.action)) (never_settles early asked x.action) settling)

      abbrev leads : Bool → List Step
      leads early = parts_of early asked x.front

      abbrev step : Bool → Step
      step early = record { part = part_of early asked x.action; action = x.action }

      steps_are : (early : Bool) → parts_of early asked (issued_actions u xs) ≡ leads early ++ step early ∷ []
      steps_are early = ap (parts_of early asked) x.is ∙ parts_append early asked x.front (x.action ∷ [])

      pass_leads : (early : Bool) → PassTo u (actions_of (leads early)) x.at
      pass_leads early = subst (λ (l : List Action). PassTo u l x.at) (sym (actions_parts early asked x.front)) x.pass

      skipped_course : Course (issue_of skipped_u) skipped_t call u
      skipped_course =
          let early : Bool = is_early asked skipped_u.actions in
          let abort : Step = record { part = Skips early; action = Commands forgives } in
          skipped (record {
            leads = leads early;
            step = step early;
            early = early;
            at = x.at;
            steps = parts_append early asked (issued_actions u xs) (Commands forgives ∷ []) ∙ ap (λ (l : List Step). l ++ abort ∷ []) (steps_are early) ∙ append_assoc (leads early) (step early ∷ []) (abort ∷ []);
            own = own early;
            pass = pass_leads early;
            bad = x.bad;
            end = refl;
            passes = all_pass early asked u skipped_u.actions;
            follows = skipped_follows;
          })

      stopped_course : Course (issue_of (record { end = Faulted; next = RU.next; large = lu_after; actions = issued_actions u xs })) (record { end = Faulted; next = RT.next; large = lt_after; actions = issued_actions t xs }) call u
      stopped_course =
          let early : Bool = is_early asked (issued_actions u xs) in
          stopped (record {
            leads = leads early;
            step = step early;
            more = [];
            at = x.at;
            steps = steps_are early;
            own = own early;
            pass = pass_leads early;
            bad = x.bad;
            end = refl;
            words = ap (λ (y : Attempt). y.next.words) (sym x.last) ∙ sym (ap (λ (y : TargetState). y.words) alike.next.same);
          })

      bad_course : (forgive : Bool) → Course (issue_of (ended_call true forgive s (result_of call (given_number RU.outcome)) RU.next lu_after (issued_actions u xs))) (ended_call true forgive s (result_of call (given_number RT.outcome)) RT.next lt_after (issued_actions t xs)) call u
      bad_course true = skipped_course
      bad_course false = stopped_course

    pub by_fault : (forgive b : Bool) → is_fault RU.outcome ≡ b → Course (issue_of (DU forgive)) (DT forgive) call u
    by_fault forgive b e =
        let et : DT forgive ≡ ended_call b forgive s (result_of call (given_number RT.outcome)) RT.next lt_after (issued_actions t xs) =
        ap (λ (b : Bool). ended_call b forgive s (result_of call (given_number RT.outcome)) RT.next lt_after (issued_actions t xs)) (ap is_fault alike.outcome ∙ e) in
        let eu : DU forgive ≡ ended_call b forgive s (result_of call (given_number RU.outcome)) RU.next lu_after (issued_actions u xs) =
        ap (λ (b : Bool). ended_call b forgive s (result_of call (given_number RU.outcome)) RU.next lu_after (issued_actions u xs)) e in
        subst (λ (d : CallDone). Course (issue_of (DU forgive)) d call u) (sym et)
        (subst (λ (d : CallDone). Course (issue_of d) (ended_call b forgive s (result_of call (given_number RT.outcome)) RT.next lt_after (issued_actions t xs)) call u) (sym eu) (by_case b e))
      where
        by_case : (b : Bool) → is_fault RU.outcome ≡ b → Course (issue_of (ended_call b forgive s (result_of call (given_number RU.outcome)) RU.next lu_after (issued_actions u xs))) (ended_call b forgive s (result_of call (given_number RT.outcome)) RT.next lt_after (issued_actions t xs)) call u
        by_case true e = bad_course e forgive
        by_case false e = good_course e forgive s refl

-- ---- memory units and AP units

-- the call, by its actions
abbrev pub done_of : Bool → TargetState → List ℕ → AccessUnit → List Action → Bool → CallDone
done_of forgive t l asked xs s =
    ended_call (is_fault (in_order t xs).outcome) forgive s (result_of (Access asked) (given_number (in_order t xs).outcome)) (in_order t xs).next (large_after t l (Access asked)) (issued_actions t xs)

pub memory_done : (forgive : Bool) (t : TargetState) (l : List ℕ) (size : ℕ) (read : Bool) (n address value : ℕ) → call_done t l forgive (Access (unit.Memory size read n address value))
    ≡ done_of forgive t l (unit.Memory size read n address value) (unit_actions t l (unit.Memory size read n address value)) (is_small t l (Access (unit.Memory size read n address value)))
unfolding call_done
memory_done true t l size read n address value = refl
memory_done false t l size read n address value = refl

pub port_done : (forgive : Bool) (t : TargetState) (l : List ℕ) (read : Bool) (n addr value : ℕ) → call_done t l forgive (Access (unit.Ap read n addr value))
    ≡ done_of forgive t l (unit.Ap read n addr value) (unit_actions t l (unit.Ap read n addr value)) false
unfolding call_done
port_done true t l read n addr value = refl
port_done false t l read n addr value = refl

pub contains_one : (b : Bool) (n : ℕ) → contains (cond b (n ∷ []) []) n ≡ b
contains_one true n = ap (λ (c : Bool). c || false) (eq-eqb n n refl)
contains_one false n = refl

pub joined_same : (l m : List ℕ) (n : ℕ) (b : Bool) → contains l n ≡ contains m n → contains (cond b (l ++ n ∷ []) l) n ≡ contains (cond b (m ++ n ∷ []) m) n
joined_same l m n true e = contains_last l n ∙ sym (contains_last m n)
joined_same l m n false e = e

pub joined_other : (l : List ℕ) (n q : ℕ) (b : Bool) → q ≢ n → contains (cond b (l ++ n ∷ []) l) q ≡ contains l q
joined_other l n q true ne = contains_other l n q ne
joined_other l n q false ne = refl

module _ (k : Kept) (large : List ℕ) (t u : TargetState) (f : Follows k large t u) (calm : k.unsettled ≡ None) where
  pub ap_course : (forgive read : Bool) (n addr value : ℕ) → n < 256 → addr < 256 →
      Course (alone_at forgive (unit.Ap read n addr value) u k) (call_done t large forgive (Access (unit.Ap read n addr value))) (Access (unit.Ap read n addr value)) u
  ap_course forgive read n addr value lt fits =
      let asked : AccessUnit = unit.Ap read n addr value in
      let xs : List Action = unit_actions t large asked in
      let left = run_left n lt u (addr / 16) (omega arith) (Makes (ap_access_of read (addr % 16) value) ∷ []) k.select (inr refl, tt) (planned_clear k large t u f) in
      let DT : CallDone = done_of forgive t large asked xs false in
      let same_large : contains (large_of k asked) n ≡ contains large n = contains_one (known_at k n).large n ∙ f.larges n lt in
      let c = by_fault k large t u f calm asked lt xs false large (large_of k asked) (refl, (refl, tt)) left
      (λ e. record { front = Makes (select_of n (addr / 16)) ∷ []; last = ap_access_of read (addr % 16) value; is = refl; ends = refl })
      same_large (λ q ne. refl) forgive (is_fault (in_order u xs).outcome) refl in
      subst (λ (d : CallDone). Course (alone_at forgive asked u k) d (Access asked) u) (sym (port_done forgive t large read n addr value))
      (subst (λ (d : CallDone). Course (issue_done k asked d) DT (Access asked) u)
      (sym (port_done forgive u (large_of k asked) read n addr value)) c)

  pub memory_course : (forgive : Bool) (size : ℕ) (read : Bool) (n address value : ℕ) → n < 256 →
      Course (alone_at forgive (unit.Memory size read n address value) u k) (call_done t large forgive (Access (unit.Memory size read n address value))) (Access (unit.Memory size read n address value)) u
  memory_course forgive size read n address value lt =
      let asked : AccessUnit = unit.Memory size read n address value in
      let l2 : List ℕ = large_of k asked in
      let same : contains l2 n ≡ contains large n = contains_one (known_at k n).large n ∙ f.larges n lt in
      let w : Bool = needs_cfg large n address in
      let b : Bool = has_large t n in
      let csw : ℕ = csw_at size read n address value t w in
      let xs : List Action = shape size read n address value w b (contains large n) csw in
      let sh = shape_same size read n address value t u (follows_agree k large t u f calm) w in
      let needs : needs_cfg l2 n address ≡ w = ap (λ (c : Bool). nat_lt 0xFFFF_FFFF address && not c) same in
      let has : has_large u n ≡ b = sym sh.0 in
      let xt : unit_actions t large asked ≡ xs = memory_shape size read n address value t large in
      let xu : unit_actions u l2 asked ≡ xs =
      memory_shape size read n address value u l2
      ∙ ap (λ (c : Bool). shape size read n address value c (has_large u n) (contains l2 n) (csw_at size read n address value u c)) needs
      ∙ ap (λ (c : Bool). shape size read n address value w c (contains l2 n) (csw_at size read n address value u w)) has
      ∙ ap (λ (c : Bool). shape size read n address value w b c (csw_at size read n address value u w)) same
      ∙ ap (λ (c : ℕ). shape size read n address value w b (contains large n) c) (sym sh.1) in
      let s : Bool = w && not b in
      let LT : List ℕ = cond (w && b) (large ++ n ∷ []) large in
      let LU : List ℕ = cond (w && b) (l2 ++ n ∷ []) l2 in
      let left = left_shape size read n address value lt u (planned_clear k large t u f) k.select w b (contains large n) csw in
      let c = by_fault k large t u f calm asked lt xs s LT LU (quiet_shape size read n address value w b (contains large n) csw) left
      (λ e. record { front = shape_front size read n address value w (contains large n) csw; last = drw_of read address value; is = shape_last size read n address value w b (contains large n) csw e; ends = refl })
      (joined_same l2 large n (w && b) same) (λ q ne. joined_other large n q (w && b) ne) forgive (is_fault (in_order u xs).outcome) refl in
      let D : TargetState → Bool → Bool → List Action → List ℕ → CallDone = λ v x y acts l.
      ended_call (is_fault (in_order v acts).outcome) forgive (x && not y) (result_of (Access asked) (given_number (in_order v acts).outcome)) (in_order v acts).next (cond (x && y) (l ++ n ∷ []) l) (issued_actions v acts) in
      let dt : call_done t large forgive (Access asked) ≡ D t w b xs large = memory_done forgive t large size read n address value ∙ ap (λ (z : List Action). D t w b z large) xt in
      let du : call_done u l2 forgive (Access asked) ≡ D u w b xs l2 =
      memory_done forgive u l2 size read n address value
      ∙ ap (λ (z : List Action). D u (needs_cfg l2 n address) (has_large u n) z l2) xu
      ∙ ap (λ (z : Bool). D u z (has_large u n) xs l2) needs ∙ ap (λ (z : Bool). D u w z xs l2) has in
      subst (λ (d : CallDone). Course (alone_at forgive asked u k) d (Access asked) u) (sym dt)
      (subst (λ (d : CallDone). Course (issue_done k asked d) (D t w b xs large) (Access asked) u)
      (sym du) c)
