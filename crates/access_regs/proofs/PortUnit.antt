-- An AP unit, where nothing is unsettled: its plan against the plain unit.
use Rattle.std.proofs.Common.{◌≡◌, ◌∙◌, ℕ, ◌/◌, ◌%◌, ◌<◌, Bool, true, false, List, [], ◌∷◌, Option, Some, None, refl, sym, ap, subst, arith, bit_and, length}
use Rattle.target_machine.proofs.Agreement.{attempt_agrees}
use Rattle.target_machine.specs.Attempt.{Attempt, attempt}
use Rattle.target_machine.specs.Laws.{AnswerAlike}
use Rattle.target_machine.specs.Plain.{Action, Makes, in_order, is_fault, given_number, ap_access_of, select_of, call_done, ended_call, issued_actions, unit_actions, CallDone, Answered, Faulted}
use Rattle.target_machine.specs.State.{TargetState}
use Rattle.target_machine.specs.declared.access.Outcome.{Outcome}
use Rattle.target_machine.specs.declared.access.RegAccess.{RegAccess}
use Rattle.target_machine.specs.declared.unit.Call.{Call}
use Rattle.target_machine.specs.declared.unit.Call.TheVariants.{Access}
use Rattle.target_machine.specs.declared.unit.Unit.{Unit as AccessUnit}
use Rattle.target_machine.specs.declared.unit.Unit.TheVariants as unit
use Rattle.access_regs.specs.Kept.{Kept, known_at, forgotten, kept_with_select}
use Rattle.access_regs.specs.Plan.{select_value, select_needed, kept_after_plan}
use Rattle.access_regs.specs.Journal.{steps_of, actions_of, by_plan}
use Rattle.access_regs.specs.Follows.{Follows}
use Rattle.access_regs.specs.declared.known.Unsettled.{Unsettled}
use Rattle.access_regs.proofs.Select.{select_kept, selects_port}
use Rattle.access_regs.proofs.Stage.{is_true_of}
use Rattle.access_regs.proofs.PortFacts.{table_kept}
use Rattle.access_regs.proofs.Settle.{follows_agree}
use Rattle.access_regs.proofs.Course.{actions_steps}
use Rattle.access_regs.specs.Course.{Course, answered, stopped}
use Rattle.access_regs.proofs.FollowsFacts.{at_select, follows_select, plain_select, planned_select}
use Rattle.target_machine.proofs.OneAp.{one_ap_changed, csw_stays_stored}
use Rattle.target_machine.specs.Laws.{ChangesOneAp}
use Rattle.target_machine.proofs.ActionLists.{pass_last}
use Rattle.target_machine.specs.Lists.{PassTo}
use Rattle.target_calls.specs.declared.journal.Part.TheVariants.{Leads, Ends}
use Rattle.access_regs.proofs.Agreeing.{Facts, follows_facts, forgotten_true, forgotten_large, whole_from, keeps_few}

module _ (k : Kept) (large : List ℕ) (t u : TargetState) (f : Follows k large t u) (calm : k.unsettled ≡ None)
    (read : Bool) (n addr value : ℕ) (lt : n < 256) (fits : addr < 256) where
  abbrev bank : ℕ
  bank = addr / 16

  abbrev asked : AccessUnit
  asked = unit.Ap read n addr value

  abbrev call : Call
  call = Access asked

  abbrev a : RegAccess
  a = ap_access_of read (addr % 16) value

  abbrev ts : TargetState
  ts = at_select t n bank

  abbrev us : TargetState
  us = at_select u n bank

  abbrev k1 : Kept
  k1 = kept_with_select k (select_value n bank)

  banked : bank < 16
  banked = omega arith

  f1 : Follows k1 large ts us
  f1 = follows_select k large t u f n bank lt banked (λ s e. (let x : ◌≡◌ {A = Option Unsettled} None (Some s) = sym calm ∙ e in absurd (cc)))

  alike : AnswerAlike (attempt ts a) (attempt us a)
  alike = attempt_agrees ts us a (follows_agree k1 large ts us f1 calm) refl

  abbrev X : Attempt
  X = attempt ts a

  abbrev Y : Attempt
  Y = attempt us a

  abbrev done_by : Attempt → CallDone
  done_by x = ended_call (is_fault x.outcome) false false (given_number x.outcome) x.next large (issued_actions t (unit_actions t large asked))

  by_definition : call_done t large false call ≡ done_by (in_order t (unit_actions t large asked))
  unfolding call_done
  by_definition = refl

  done_is : call_done t large false call ≡ done_by X
  done_is = by_definition ∙ ap done_by (pass_last t ts (Makes (select_of n bank) ∷ []) (Makes a) (plain_select k large t u f n bank lt banked))

  changed_u : ChangesOneAp us Y
  changed_u = one_ap_changed us a refl

  changed_t : ChangesOneAp ts X
  changed_t = one_ap_changed ts a refl

  table : n < length k.ports
  table = let e = f.table in let l : n < 256 = lt in omega arith

  facts : is_fault X.outcome ≡ false → Facts (kept_after_plan k asked) large X.next Y.next
  facts good = record {
    agree = alike.next;
    clear = changed_t.sticky good ∙ f.clear;
    few = keeps_few ts a f.few;
    table = table_kept k n (forgotten (known_at k n)) ∙ f.table;
    select = λ v e. (let same : select_value n bank ≡ v = cc in ap (λ (s : TargetState). s.select) changed_t.rest ∙ sym (select_kept n bank lt banked) ∙ ap (λ (x : ℕ). bit_and x 0xFF00_00FF) same);
    larges = forgotten_large k large n (forgotten (known_at k n)) table (f.larges n lt) f.larges;
    so = forgotten_true k n (forgotten (known_at k n)) us Y.next table refl refl refl
        (λ q ne. changed_u.others q (λ e. ne (e ∙ selects_port n bank lt banked))) (csw_stays_stored us a (whole_from k large t u f)) (λ q p is. is_true_of k large t u q f p is);
    calm = calm;
  }

  leads_pass : PassTo u (actions_of (steps_of Leads (select_needed k n bank))) us
  leads_pass = subst (λ (l : List Action). PassTo u l us) (sym (actions_steps Leads (select_needed k n bank))) (planned_select k large t u f n bank lt banked)

  by_fault : (b : Bool) → is_fault X.outcome ≡ b → Course (by_plan k asked) (call_done t large false call) call u
  by_fault false e =
      let same : call_done t large false call ≡ record { end = Answered (given_number X.outcome); next = X.next; large = large; actions = issued_actions t (unit_actions t large asked) } =
      done_is ∙ ap (λ (b : Bool). ended_call b false false (given_number X.outcome) X.next large (issued_actions t (unit_actions t large asked))) e in
      answered (record {
        leads = steps_of Leads (select_needed k n bank);
        action = Makes a;
        at = us;
        steps = refl;
        pass = leads_pass;
        good = ap is_fault (sym alike.outcome) ∙ e;
        end = ap (λ (c : CallDone). c.end) same ∙ ap (λ (o : Outcome). Answered (given_number o)) alike.outcome;
        follows = subst (λ (c : CallDone). Follows (kept_after_plan k asked) c.large c.next Y.next) (sym same) (follows_facts (kept_after_plan k asked) large X.next Y.next (facts e));
      })
  by_fault true e =
      let same : call_done t large false call ≡ record { end = Faulted; next = X.next; large = large; actions = issued_actions t (unit_actions t large asked) } =
      done_is ∙ ap (λ (b : Bool). ended_call b false false (given_number X.outcome) X.next large (issued_actions t (unit_actions t large asked))) e in
      stopped (record {
        leads = steps_of Leads (select_needed k n bank);
        step = record { part = Ends; action = Makes a };
        more = [];
        at = us;
        steps = refl;
        own = λ q. absurd (cc);
        pass = leads_pass;
        bad = ap is_fault (sym alike.outcome) ∙ e;
        end = ap (λ (c : CallDone). c.end) same;
        words = ap (λ (s : TargetState). s.words) (sym alike.next.same) ∙ sym (ap (λ (c : CallDone). c.next.words) same);
      })

  pub port_course : Course (by_plan k asked) (call_done t large false call) call u
  port_course = by_fault (is_fault X.outcome) refl
