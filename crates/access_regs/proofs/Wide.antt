-- A memory unit that reads CFG first.
use Rattle.std.proofs.Common.{◌≡◌, ◌≢◌, ◌∙◌, ℕ, ◌/◌, ◌%◌, ◌^◌, ◌<◌, ◌⊎◌, inl, inr, Bool, true, false, cond, not, ◌&&◌, ◌||◌, nat_lt, List, [], ◌∷◌, ◌++◌, append_assoc, append-nil, Option, Some, None, refl, sym, ap, subst, arith, bit_and, length}
use Rattle.std.specs.Prelude.{nat_eq}
use Rattle.std.specs.FinMap as map
use Rattle.std.proofs.lemmas.Bool.{cases_eq, eq-eqb, ne_eqb}
use Rattle.std.proofs.lemmas.Nat.{and_block}
use Rattle.std.specs.Int.Bits.{and_zero_r}
use Rattle.std.proofs.Math.Bool.{and-false, or-true, or-false, or_assoc}
use Rattle.target_machine.proofs.Agreement.{attempt_agrees}
use Rattle.access_regs.proofs.Settle.{follows_agree}
use Rattle.target_machine.specs.Attempt.{Attempt, attempt, posted_attempt, bus_error, acknowledges, register_value}
use Rattle.target_machine.specs.Plain.{Action, Makes, in_order, contains, select_of, ap_access_of, is_fault, given_number, call_done, ended_call, result_of, needs_cfg, has_large, cfg_actions, csw_actions, memory_actions, transfer_actions, issued_actions, CallDone}
use Rattle.target_machine.specs.State.{TargetState}
use Rattle.target_machine.specs.declared.ap.ApState.{ApState}
use Rattle.target_machine.specs.declared.access.RegAccess.{RegAccess}
use Rattle.target_machine.specs.declared.access.Outcome.{Outcome}
use Rattle.target_machine.specs.declared.access.Outcome.TheVariants.{Value}
use Rattle.target_machine.specs.declared.unit.Call.{Call}
use Rattle.target_machine.specs.declared.unit.Call.TheVariants.{Access}
use Rattle.target_machine.specs.declared.unit.Unit.{Unit as AccessUnit}
use Rattle.target_machine.specs.declared.unit.Unit.TheVariants as unit
use Rattle.access_regs.specs.Kept.{Kept, known_at, kept_with_select}
use Rattle.access_regs.specs.Plan.{select_value, select_needed, cfg_plan, learned_cfg}
use Rattle.access_regs.specs.Journal.{Issue, Step, making, steps_of, actions_of, before, gives, by_csw, by_cfg_read}
use Rattle.access_regs.specs.Follows.{Follows, FollowsPort, unsettled_tar}
use Rattle.access_regs.specs.declared.known.Known.{Known}
use Rattle.access_regs.specs.declared.known.Unsettled.{Unsettled}
use Rattle.access_regs.proofs.Csw.{IsSize}
use Rattle.access_regs.proofs.Passing.{pass_on}
use Rattle.access_regs.proofs.Select.{making_append}
use Rattle.access_regs.proofs.PortFacts.{known_same, known_other, table_kept}
use Rattle.access_regs.proofs.Course.{course_before, course_like, actions_steps, steps_append}
use Rattle.access_regs.specs.Course.{Course, stopped, small}
use Rattle.access_regs.proofs.FollowsFacts.{at_select, follows_select, follows_rdbuff, follows_known, plain_select, planned_select, planned_clear, same_power, same_words}
use Rattle.target_machine.proofs.ActionLists.{pass_append, pass_last, pass_after}
use Rattle.target_machine.specs.Lists.{after, PassTo}
use Rattle.dap_base.specs.Bits.{has_bit}
use Rattle.target_calls.specs.declared.journal.Part.TheVariants.{Leads}
use Rattle.access_regs.proofs.Memory.{no_power, narrow_course, done_memory}

-- ---- the list of APs

contains_more : (xs : List ℕ) (n q : ℕ) → contains (xs ++ n ∷ []) q ≡ (contains xs q || (nat_eq q n || false))
contains_more [] n q = refl
contains_more (x ∷ xs) n q = ap (λ (b : Bool). nat_eq q x || b) (contains_more xs n q) ∙ sym (or_assoc (nat_eq q x) (contains xs q) (nat_eq q n || false))

pub contains_last : (xs : List ℕ) (n : ℕ) → contains (xs ++ n ∷ []) n ≡ true
contains_last xs n = contains_more xs n n ∙ ap (λ (b : Bool). contains xs n || (b || false)) (eq-eqb n n refl) ∙ or-true (contains xs n)

pub contains_other : (xs : List ℕ) (n q : ℕ) → q ≢ n → contains (xs ++ n ∷ []) q ≡ contains xs q
contains_other xs n q ne = contains_more xs n q ∙ ap (λ (b : Bool). contains xs q || (b || false)) (ne_eqb q n ne) ∙ or-false (contains xs q)

-- ---- a read of CFG

abbrev pub cfg_access : RegAccess
cfg_access = ap_access_of true 4 0

pub cfg_bits : (n : ℕ) → bit_and (select_value n 0xF) 0xF0 ≡ 0xF0
cfg_bits n =
    let none : bit_and n 0 ≡ 0 = and_zero_r n in
    and_block 24 n 0 0xF0 0xF0 (omega arith) (omega arith) ∙ omega (arith, none)

pub record CfgRead (t : TargetState) : Type 0 where
  pub cfg : ℕ
  pub is : attempt t cfg_access ≡ posted_attempt cfg t

cfg_none : (t : TargetState) → t.sticky ≡ false → acknowledges t 0x1000_0000 ≡ true → map.get t.aps (t.select / 2 ^ 24) ≡ None → attempt t cfg_access ≡ posted_attempt 0 t
unfolding attempt
cfg_none t clear power none = rw (clear, power, none) refl

cfg_some : (t : TargetState) (p : ApState) → t.sticky ≡ false → acknowledges t 0x1000_0000 ≡ true → map.get t.aps (t.select / 2 ^ 24) ≡ Some p → bit_and t.select 0xF0 ≡ 0xF0 → attempt t cfg_access ≡ posted_attempt (register_value p 0xF4) t
unfolding attempt
cfg_some t p clear power some bank = rw (clear, power, some, bank) refl

pub cfg_reads : (t : TargetState) (n : ℕ) → n < 256 → t.sticky ≡ false → acknowledges t 0x1000_0000 ≡ true → t.select ≡ select_value n 0xF → CfgRead t
cfg_reads t n lt clear power at = by_port (map.get t.aps (t.select / 2 ^ 24)) refl
  where
    by_port : (o : Option ApState) → map.get t.aps (t.select / 2 ^ 24) ≡ o → CfgRead t
    by_port None none = record { cfg = 0; is = cfg_none t clear power none }
    by_port (Some p) some = record { cfg = register_value p 0xF4; is = cfg_some t p clear power some (ap (λ (x : ℕ). bit_and x 0xF0) at ∙ cfg_bits n) }

pub and_not : (x y : Bool) → (x && not y) ≡ true → y ≡ false
and_not true true e = absurd (cc)
and_not true false e = refl
and_not false y e = absurd (cc)

port_large : (a : Known) (unsettled : Option ℕ) (l : Bool) (x y : Option ApState) → FollowsPort a unsettled x y → FollowsPort (record a { large = l }) unsettled x y
port_large a unsettled l None None h = tt
port_large a None l (Some p) (Some r) h = let so = h.1 in (h.0, record { csw = so.csw; tar = so.tar; high = so.high; stored = so.stored })
port_large a (Some tar) l (Some p) (Some r) h =
    let c = h.0 in let so = h.1 in
    (record { learned = c.learned; csw = c.csw; at = c.at; others = c.others }, record { csw = so.csw; tar = so.tar; high = so.high; stored = so.stored })
port_large a unsettled l None (Some r) h = h
port_large a unsettled l (Some p) None h = h

record SameEnd (d e : CallDone) : Type 0 where
  end : d.end ≡ e.end
  next : d.next ≡ e.next
  list : d.large ≡ e.large

ended_same : (b : Bool) (v : ℕ) (t : TargetState) (l : List ℕ) (xs ys : List Action) → SameEnd (ended_call b false false v t l xs) (ended_call b false false v t l ys)
ended_same true v t l xs ys = record { end = refl; next = refl; list = refl }
ended_same false v t l xs ys = record { end = refl; next = refl; list = refl }

module _ (large : List ℕ) (size : ℕ) (read : Bool) (n address value : ℕ) (lt : n < 256) (is : IsSize size) (aligned : address % size ≡ 0) where
  abbrev asked : AccessUnit
  asked = unit.Memory size read n address value

  abbrev call : Call
  call = Access asked

  -- the call, by whether CFG is requested and what it shows
  abbrev shape : TargetState → Bool → Bool → CallDone
  shape t w b =
      let actions : List Action = cond w (cfg_actions n ++ cond b (memory_actions (in_order t (cfg_actions n)).next true size read n address value) []) (memory_actions t (contains large n) size read n address value) in
      let ran : Attempt = in_order t actions in
      ended_call (is_fault ran.outcome) false (w && not b) (result_of call (given_number ran.outcome)) ran.next (cond (w && b) (large ++ n ∷ []) large) (issued_actions t actions)

  by_definition : (t : TargetState) → call_done t large false call ≡ shape t (needs_cfg large n address) (has_large t n)
  unfolding call_done
  by_definition t = refl

  module _ (k : Kept) (t u : TargetState) (f : Follows k large t u) (wide : needs_cfg large n address ≡ true) (calm : k.unsettled ≡ None) where
    abbrev ts : TargetState
    ts = at_select t n 0xF

    abbrev us : TargetState
    us = at_select u n 0xF

    abbrev k1 : Kept
    k1 = kept_with_select k (select_value n 0xF)

    abbrev d : CallDone
    d = call_done t large false call

    f1 : Follows k1 large ts us
    f1 = follows_select k large t u f n 0xF lt (omega arith) (λ s e. (let x : ◌≡◌ {A = Option Unsettled} None (Some s) = sym calm ∙ e in absurd (cc)))

    select_pass : PassTo u (actions_of (steps_of Leads (select_needed k n 0xF))) us
    select_pass = subst (λ (l : List Action). PassTo u l us) (sym (actions_steps Leads (select_needed k n 0xF))) (planned_select k large t u f n 0xF lt (omega arith))

    cfg_order : in_order t (cfg_actions n) ≡ attempt ts cfg_access
    cfg_order = pass_last t ts (Makes (select_of n 0xF) ∷ []) (Makes cfg_access) (plain_select k large t u f n 0xF lt (omega arith))

    gives_is : gives u (cfg_plan k n) ≡ given_number (attempt us cfg_access).outcome
    gives_is =
        ap (λ (l : List Action). given_number (in_order u l).outcome) (making_append (select_needed k n 0xF) (cfg_access ∷ []))
        ∙ ap (λ (x : Attempt). given_number x.outcome) (pass_last u us (making (select_needed k n 0xF)) (Makes cfg_access) (planned_select k large t u f n 0xF lt (omega arith)))

    shape_is : (b : Bool) → has_large t n ≡ b → d ≡ shape t true b
    shape_is b e = by_definition t ∙ ap (λ (w : Bool). shape t w (has_large t n)) wide ∙ ap (shape t true) e

    -- nothing more
    short : (rest : List Action) (x : Attempt) → in_order t (cfg_actions n) ≡ x → in_order t (cfg_actions n ++ []) ≡ x
    short rest x e = ap (in_order t) (append-nil (cfg_actions n)) ∙ e

    abbrev short_done : Attempt → CallDone
    short_done x = ended_call (is_fault x.outcome) false true (result_of call (given_number x.outcome)) x.next large (issued_actions t (cfg_actions n ++ []))

    short_is : (x : Attempt) → attempt ts cfg_access ≡ x → has_bit (given_number x.outcome) 2 ≡ false → d ≡ short_done x
    short_is x e none =
        shape_is false (ap (λ (y : Attempt). has_bit (given_number y.outcome) 2) (cfg_order ∙ e) ∙ none)
        ∙ ap short_done (short [] x (cfg_order ∙ e))

    abbrev cfg_issue : ℕ → Issue
    cfg_issue cfg = before (steps_of Leads (cfg_plan k n)) (by_cfg_read (after u (making (cfg_plan k n))) k asked cfg)

    first_steps : (more : List Step) → steps_of Leads (cfg_plan k n) ++ more ≡ steps_of Leads (select_needed k n 0xF) ++ record { part = Leads; action = Makes cfg_access } ∷ more
    first_steps more =
        ap (λ (l : List Step). l ++ more) (steps_append Leads (select_needed k n 0xF) (cfg_access ∷ []))
        ∙ append_assoc (steps_of Leads (select_needed k n 0xF)) (steps_of Leads (cfg_access ∷ [])) more

    -- ---- without power

    off_course : acknowledges t 0x1000_0000 ≡ false → Course (cfg_issue (gives u (cfg_plan k n))) d call u
    off_course off =
        let x : attempt ts cfg_access ≡ bus_error ts = no_power ts cfg_access f.clear off refl in
        let y : attempt us cfg_access ≡ bus_error us = no_power us cfg_access (planned_clear k large t u f) (same_power k large t u f ∙ off) refl in
        let e : d ≡ short_done (bus_error ts) = short_is (bus_error ts) x refl in
        stopped (record {
          leads = steps_of Leads (select_needed k n 0xF);
          step = record { part = Leads; action = Makes cfg_access };
          more = (by_cfg_read (after u (making (cfg_plan k n))) k asked (gives u (cfg_plan k n))).steps;
          at = us;
          steps = first_steps (by_cfg_read (after u (making (cfg_plan k n))) k asked (gives u (cfg_plan k n))).steps;
          own = λ q. absurd (cc);
          pass = select_pass;
          bad = ap (λ (z : Attempt). is_fault z.outcome) y;
          end = ap (λ (c : CallDone). c.end) e;
          words = ap (λ (z : Attempt). z.next.words) y ∙ same_words k large t u f ∙ sym (ap (λ (c : CallDone). c.next.words) e);
        })

    -- ---- with power

    module _ (on : acknowledges t 0x1000_0000 ≡ true) where
      rt : CfgRead ts
      rt = cfg_reads ts n lt f.clear on refl

      ru : CfgRead us
      ru = cfg_reads us n lt (planned_clear k large t u f) (same_power k large t u f ∙ on) refl

      same_cfg : ru.cfg ≡ rt.cfg
      same_cfg =
          let a = attempt_agrees ts us cfg_access (follows_agree k1 large ts us f1 calm) refl in
          let e : ◌≡◌ {A = Outcome} (Value rt.cfg) (Value ru.cfg) = sym (ap (λ (x : Attempt). x.outcome) rt.is) ∙ a.outcome ∙ ap (λ (x : Attempt). x.outcome) ru.is in
          cc

      abbrev t2 : TargetState
      t2 = record ts { rdbuff = rt.cfg }

      abbrev u2 : TargetState
      u2 = record us { rdbuff = ru.cfg }

      gives_cfg : gives u (cfg_plan k n) ≡ ru.cfg
      gives_cfg = gives_is ∙ ap (λ (x : Attempt). given_number x.outcome) ru.is

      plan_pass : PassTo u (making (cfg_plan k n)) u2
      plan_pass =
          subst (λ (l : List Action). PassTo u l u2) (sym (making_append (select_needed k n 0xF) (cfg_access ∷ [])))
          (pass_append u us u2 (making (select_needed k n 0xF)) (Makes cfg_access ∷ []) (planned_select k large t u f n 0xF lt (omega arith))
          (ap (λ (x : Attempt). is_fault x.outcome) ru.is, ap (λ (x : Attempt). x.next) (sym ru.is)))

      steps_pass : PassTo u (actions_of (steps_of Leads (cfg_plan k n))) u2
      steps_pass = subst (λ (l : List Action). PassTo u l u2) (sym (actions_steps Leads (cfg_plan k n))) plan_pass

      plain_pass : PassTo t (cfg_actions n) t2
      plain_pass =
          pass_append t ts t2 (Makes (select_of n 0xF) ∷ []) (Makes cfg_access ∷ []) (plain_select k large t u f n 0xF lt (omega arith))
          (ap (λ (x : Attempt). is_fault x.outcome) rt.is, ap (λ (x : Attempt). x.next) (sym rt.is))

      not_known : (known_at k n).large ≡ false
      not_known = f.larges n lt ∙ and_not (nat_lt 0xFFFF_FFFF address) (contains large n) wide

      abbrev a : ℕ → Known
      a cfg = record (known_at k n) { large = (known_at k n).large || has_bit cfg 2 }

      port : (cfg : ℕ) → FollowsPort (a cfg) (unsettled_tar k n) (map.get ts.aps n) (map.get us.aps n)
      port cfg = port_large (known_at k n) (unsettled_tar k n) ((known_at k n).large || has_bit cfg 2) (map.get ts.aps n) (map.get us.aps n) (f1.ports n)

      -- the AP has no large addresses
      small_course : has_bit ru.cfg 2 ≡ false → Course (cfg_issue ru.cfg) d call u
      small_course none =
          let e : d ≡ short_done (posted_attempt rt.cfg ts) = short_is (posted_attempt rt.cfg ts) rt.is (ap (λ (x : ℕ). has_bit x 2) (sym same_cfg) ∙ none) in
          let g : Follows (learned_cfg k n ru.cfg) large ts us =
          follows_known k1 large ts us f1 n (a ru.cfg) lt (ap (λ (b : Bool). (known_at k n).large || b) none ∙ or-false (known_at k n).large) (port ru.cfg) in
          let h : Follows (learned_cfg k n ru.cfg) large t2 u2 = follows_rdbuff (learned_cfg k n ru.cfg) large ts us g rt.cfg ru.cfg in
          let nothing : Issue = record { steps = steps_of Leads (cfg_plan k n) ++ []; kept = learned_cfg k n ru.cfg } in
          let c : Course nothing d call u = small (record {
            at = u2;
            pass = subst (λ (l : List Step). PassTo u (actions_of l) u2) (sym (append-nil (steps_of Leads (cfg_plan k n)))) steps_pass;
            end = ap (λ (c : CallDone). c.end) e;
            follows = subst (λ (c : CallDone). Follows (learned_cfg k n ru.cfg) c.large c.next u2) (sym e) h;
          }) in
          subst (λ (b : Bool). Course (before (steps_of Leads (cfg_plan k n)) (cond b (by_csw (after u (making (cfg_plan k n))) (learned_cfg k n ru.cfg) asked) (record { steps = []; kept = learned_cfg k n ru.cfg }))) d call u)
          (sym none) c

      -- the AP joins the list
      abbrev large' : List ℕ
      large' = large ++ n ∷ []

      abbrev k2 : Kept
      k2 = learned_cfg k n ru.cfg

      table : n < length k.ports
      table = let e = f.table in let l : n < 256 = lt in omega arith

      here : known_at k2 n ≡ a ru.cfg
      here = known_same k n (a ru.cfg) table

      large_at : has_bit ru.cfg 2 ≡ true → (q : ℕ) → q < 256 → (q ≡ n) ⊎ (q ≢ n) → (known_at k2 q).large ≡ contains large' q
      large_at big q less (inl same) =
          ap (λ (i : ℕ). (known_at k2 i).large) same ∙ ap (λ (x : Known). x.large) here ∙ ap (λ (b : Bool). (known_at k n).large || b) big ∙ or-true (known_at k n).large
          ∙ sym (ap (contains large') same ∙ contains_last large n)
      large_at big q less (inr ne) = ap (λ (x : Known). x.large) (known_other k n q (a ru.cfg) ne) ∙ f.larges q less ∙ sym (contains_other large n q ne)

      port_at : (q : ℕ) → (q ≡ n) ⊎ (q ≢ n) → FollowsPort (known_at k2 q) (unsettled_tar k q) (map.get ts.aps q) (map.get us.aps q)
      port_at q (inl same) =
          subst (λ (i : ℕ). FollowsPort (known_at k2 i) (unsettled_tar k i) (map.get ts.aps i) (map.get us.aps i)) (sym same)
          (subst (λ (c : Known). FollowsPort c (unsettled_tar k n) (map.get ts.aps n) (map.get us.aps n)) (sym here) (port ru.cfg))
      port_at q (inr ne) = subst (λ (c : Known). FollowsPort c (unsettled_tar k q) (map.get ts.aps q) (map.get us.aps q)) (sym (known_other k n q (a ru.cfg) ne)) (f.ports q)

      joined : has_bit ru.cfg 2 ≡ true → Follows k2 large' t2 u2
      joined big =
          follows_rdbuff k2 large' ts us (record {
            rest = f1.rest;
            clear = f1.clear;
            few = f1.few;
            table = table_kept k n (a ru.cfg) ∙ f.table;
            select = f1.select;
            larges = λ q less. large_at big q less (cases_eq q n);
            ports = λ q. port_at q (cases_eq q n);
            unsettled = f1.unsettled;
          }) rt.cfg ru.cfg

      abbrev d2 : CallDone
      d2 = call_done t2 large' false call

      abbrev M : Bool → List Action
      M l = memory_actions t2 l size read n address value

      abbrev of : List Action → Attempt → CallDone
      of actions x = ended_call (is_fault x.outcome) false false (result_of call (given_number x.outcome)) x.next large' actions

      whole_order : in_order t (cfg_actions n ++ memory_actions (in_order t (cfg_actions n)).next true size read n address value) ≡ in_order t2 (M true)
      whole_order =
          ap (λ (x : Attempt). in_order t (cfg_actions n ++ memory_actions x.next true size read n address value)) (cfg_order ∙ rt.is)
          ∙ pass_on t t2 (cfg_actions n) (Makes (select_of n 0))
          (Makes (ap_access_of true 0 0) ∷ transfer_actions true size read address value (given_number (in_order t2 (csw_actions n)).outcome)) plain_pass

      d_is : has_bit ru.cfg 2 ≡ true → d ≡ of (issued_actions t (cfg_actions n ++ memory_actions (in_order t (cfg_actions n)).next true size read n address value)) (in_order t2 (M true))
      d_is big =
          shape_is true (ap (λ (y : Attempt). has_bit (given_number y.outcome) 2) (cfg_order ∙ rt.is) ∙ ap (λ (x : ℕ). has_bit x 2) (sym same_cfg) ∙ big)
          ∙ ap (of (issued_actions t (cfg_actions n ++ memory_actions (in_order t (cfg_actions n)).next true size read n address value))) whole_order

      narrow : needs_cfg large' n address ≡ false
      narrow = ap (λ (b : Bool). nat_lt 0xFFFF_FFFF address && not b) (contains_last large n) ∙ and-false (nat_lt 0xFFFF_FFFF address)

      d2_is : d2 ≡ of (issued_actions t2 (M (contains large' n))) (in_order t2 (M true))
      d2_is =
          done_memory t2 large' size read n address value narrow
          ∙ ap (λ (l : Bool). of (issued_actions t2 (M (contains large' n))) (in_order t2 (M l))) (contains_last large n)

      big_course : has_bit ru.cfg 2 ≡ true → Course (cfg_issue ru.cfg) d call u
      big_course big =
          let c : Course (by_csw u2 k2 asked) d2 call u2 =
          narrow_course large' size read n address value lt is aligned k2 t2 u2 (joined big) narrow (λ s e. (let x : ◌≡◌ {A = Option Unsettled} None (Some s) = sym calm ∙ e in absurd (cc))) in
          let x : Attempt = in_order t2 (M true) in
          let acts : List Action = issued_actions t (cfg_actions n ++ memory_actions (in_order t (cfg_actions n)).next true size read n address value) in
          let acts2 : List Action = issued_actions t2 (M (contains large' n)) in
          let same = ended_same (is_fault x.outcome) (result_of call (given_number x.outcome)) x.next large' acts acts2 in
          let b : Course (by_csw u2 k2 asked) d call u2 =
          course_like (by_csw u2 k2 asked) d2 d call u2
          (ap (λ (c : CallDone). c.end) (d_is big) ∙ same.end ∙ sym (ap (λ (c : CallDone). c.end) d2_is))
          (ap (λ (c : CallDone). c.next) (d_is big) ∙ same.next ∙ sym (ap (λ (c : CallDone). c.next) d2_is))
          (ap (λ (c : CallDone). c.large) (d_is big) ∙ same.list ∙ sym (ap (λ (c : CallDone). c.large) d2_is)) c in
          let at_after : Course (by_csw (after u (making (cfg_plan k n))) k2 asked) d call u2 =
          subst (λ (s : TargetState). Course (by_csw s k2 asked) d call u2) (sym (pass_after u u2 (making (cfg_plan k n)) plan_pass)) b in
          subst (λ (l : Bool). Course (before (steps_of Leads (cfg_plan k n)) (cond l (by_csw (after u (making (cfg_plan k n))) k2 asked) (record { steps = []; kept = k2 }))) d call u)
          (sym big) (course_before (by_csw (after u (making (cfg_plan k n))) k2 asked) d call u u2 (steps_of Leads (cfg_plan k n)) steps_pass at_after)

      on_course : Course (cfg_issue (gives u (cfg_plan k n))) d call u
      on_course = subst (λ (v : ℕ). Course (cfg_issue v) d call u) (sym gives_cfg) (by_bit (has_bit ru.cfg 2) refl)
        where
          by_bit : (b : Bool) → has_bit ru.cfg 2 ≡ b → Course (cfg_issue ru.cfg) d call u
          by_bit true e = big_course e
          by_bit false e = small_course e

    -- The unit is answered, stops or ends because its AP has no large addresses, as the plain unit does.
    pub wide_course : Course (cfg_issue (gives u (cfg_plan k n))) d call u
    wide_course = by_power (acknowledges t 0x1000_0000) refl
      where
        by_power : (b : Bool) → acknowledges t 0x1000_0000 ≡ b → Course (cfg_issue (gives u (cfg_plan k n))) d call u
        by_power true e = on_course e
        by_power false e = off_course e
