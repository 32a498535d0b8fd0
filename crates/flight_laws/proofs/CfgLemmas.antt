-- What the read of CFG says of a memory unit.
use Rattle.std.proofs.Common.{◌≡◌, ◌∙◌, ℕ, ◌<◌, Bool, true, false, cond, not, ◌&&◌, nat_lt, List, [], ◌∷◌, ◌++◌, Option, Some, None, refl, sym, ap, subst, arith, append-nil}
use Rattle.dap_base.specs.Bits.{has_bit}
use Rattle.target_machine.specs.Attempt.{Attempt, attempt}
use Rattle.target_machine.specs.Lists.{after}
use Rattle.target_machine.specs.Plain.{Action, CallDone, Makes, call_done, cfg_actions, contains, ended_call, given_number, has_large, in_order, is_fault, issued_actions, memory_actions, needs_cfg, result_of, select_of}
use Rattle.target_machine.specs.State.{TargetState}
use Rattle.target_machine.specs.declared.unit.Call.{Call}
use Rattle.target_machine.specs.declared.unit.Call.TheVariants.{Access}
use Rattle.target_machine.specs.declared.unit.Unit.TheVariants as unit
use Rattle.target_machine.proofs.ActionAgreement.{in_order_alike}
use Rattle.target_machine.proofs.ActionLists.{pass_after, pass_last}
use Rattle.target_machine.proofs.Agreement.{attempt_agrees}
use Rattle.target_calls.specs.Asks.{unit_ask}
use Rattle.target_calls.specs.World.{is_small_end, start_world}
use Rattle.target_calls.proofs.OneCall.{one_small}
use Rattle.access_regs.specs.Alone.{alone_after, large_of_all}
use Rattle.access_regs.specs.Entries.{kept_by, target_by}
use Rattle.access_regs.specs.Follows.{Follows}
use Rattle.access_regs.specs.Journal.{gives, making}
use Rattle.access_regs.specs.Kept.{Kept}
use Rattle.access_regs.specs.Plan.{cfg_plan, select_needed, select_value, settle, kept_after_settling}
use Rattle.access_regs.specs.Kept.{kept_with_select}
use Rattle.access_regs.specs.declared.known.Unsettled.{Unsettled}
use Rattle.access_regs.proofs.AllCalls.{journal_follows}
use Rattle.access_regs.proofs.FollowsFacts.{at_select, follows_select, plain_select, planned_select}
use Rattle.access_regs.proofs.Select.{making_append}
use Rattle.access_regs.proofs.Settle.{follows_agree, settled_calm, settles}
use Rattle.access_regs.proofs.Wide.{cfg_access}
use Rattle.flight_laws.specs.Small.{SmallAlone, SmallByCfg}
use Rattle.flight_laws.proofs.OpenLemmas.{after_alone, large_alone}
use Rattle.flight_laws.proofs.SmallLemmas.{NeverStops, never_stops, not_small}

-- where nothing is unsettled, CFG is read the same from the planned target as from the plain one
module _ (k : Kept) (large : List ℕ) (t u : TargetState) (f : Follows k large t u) (calm : k.unsettled ≡ None) (n : ℕ) (lt : n < 256) where
  abbrev ts : TargetState
  ts = at_select t n 0xF

  abbrev us : TargetState
  us = at_select u n 0xF

  selects : Follows (kept_with_select k (select_value n 0xF)) large ts us
  selects = follows_select k large t u f n 0xF lt (omega arith) (λ s e. (let x : ◌≡◌ {A = Option Unsettled} None (Some s) = sym calm ∙ e in absurd (cc)))

  plain_read : in_order t (cfg_actions n) ≡ attempt ts cfg_access
  plain_read = pass_last t ts (Makes (select_of n 0xF) ∷ []) (Makes cfg_access) (plain_select k large t u f n 0xF lt (omega arith))

  planned_read : in_order u (making (cfg_plan k n)) ≡ attempt us cfg_access
  planned_read =
      ap (in_order u) (making_append (select_needed k n 0xF) (cfg_access ∷ []))
      ∙ pass_last u us (making (select_needed k n 0xF)) (Makes cfg_access) (planned_select k large t u f n 0xF lt (omega arith))

  same_read : (in_order t (cfg_actions n)).outcome ≡ (in_order u (making (cfg_plan k n))).outcome
  same_read =
      ap (λ (x : Attempt). x.outcome) plain_read
      ∙ (attempt_agrees ts us cfg_access (follows_agree (kept_with_select k (select_value n 0xF)) large ts us selects calm) refl).outcome
      ∙ ap (λ (x : Attempt). x.outcome) (sym planned_read)

  same_large : has_large t n ≡ has_bit (gives u (cfg_plan k n)) 2
  same_large = ap (λ o. has_bit (given_number o) 2) same_read

small_when : (faults forgives : Bool) (v : ℕ) (t : TargetState) (l : List ℕ) (xs : List Action) → faults ≡ false → is_small_end (ended_call faults forgives true v t l xs).end ≡ true
small_when true forgives v t l xs e = absurd (cc)
small_when false forgives v t l xs e = refl

module _ (large : List ℕ) (size : ℕ) (read : Bool) (n address value : ℕ) (forgive : Bool) where
  abbrev call : Call
  call = Access (unit.Memory size read n address value)

  -- the call, by whether CFG is requested and what it shows
  abbrev shape : TargetState → Bool → Bool → CallDone
  shape t w b =
      let actions : List Action = cond w (cfg_actions n ++ cond b (memory_actions (in_order t (cfg_actions n)).next true size read n address value) []) (memory_actions t (contains large n) size read n address value) in
      let ran : Attempt = in_order t actions in
      ended_call (is_fault ran.outcome) (forgive && true) (w && not b) (result_of call (given_number ran.outcome)) ran.next (cond (w && b) (large ++ n ∷ []) large) (issued_actions t actions)

  by_definition : (t : TargetState) → call_done t large forgive call ≡ shape t (needs_cfg large n address) (has_large t n)
  unfolding call_done
  by_definition t = refl

  small_shape : (t : TargetState) → needs_cfg large n address ≡ true → is_fault (in_order t (cfg_actions n)).outcome ≡ false → is_small_end (call_done t large forgive call).end ≡ not (has_large t n)
  small_shape t wide good =
      ap (λ (d : CallDone). is_small_end d.end) (by_definition t ∙ ap (λ (w : Bool). shape t w (has_large t n)) wide)
      ∙ by_large (has_large t n)
    where
      by_large : (b : Bool) → is_small_end (shape t true b).end ≡ not b
      by_large true = not_small _ _ false _ _ _ _ refl
      by_large false = small_when _ _ _ _ _ _ (ap (λ (xs : List Action). is_fault (in_order t xs).outcome) (append-nil (cfg_actions n)) ∙ good)

pub small_by_cfg : SmallByCfg
small_by_cfg p t asks n size read port address value forgive fresh ok whole lt wide good =
    let s : NeverStops t [] n asks = never_stops t [] n asks whole in
    let plain : TargetState = alone_after t [] asks in
    let large : List ℕ = large_of_all t [] asks in
    let follows : Follows (kept_by p t asks) large plain (target_by p t asks) = journal_follows p t asks fresh ok s.none in
    let g = settles (kept_by p t asks) large plain (target_by p t asks) follows in
    let at : after (target_by p t asks) (making (settle (kept_by p t asks))) ≡ g.at = pass_after (target_by p t asks) g.at (making (settle (kept_by p t asks))) g.pass in
    let k : Kept = kept_after_settling (kept_by p t asks) in
    let f : Follows k large plain (after (target_by p t asks) (making (settle (kept_by p t asks)))) = subst (Follows k large plain) (sym at) g.follows in
    let u : TargetState = after (target_by p t asks) (making (settle (kept_by p t asks))) in
    let needs : needs_cfg large port address ≡ true = ap (λ (b : Bool). nat_lt 0xFFFF_FFFF address && not b) (sym (f.larges port lt)) ∙ wide in
    let clear : is_fault (in_order plain (cfg_actions port)).outcome ≡ false = ap is_fault (same_read k large plain u f (settled_calm (kept_by p t asks)) port lt) ∙ good in
    let target = after_alone t [] n asks s.none s.enough in
    let larges = large_alone t [] n asks s.none s.enough in
    one_small (start_world t n) asks (unit_ask (unit.Memory size read port address value) forgive) whole
    ∙ (λ j. is_small_end (call_done (target j) (larges j) forgive (Access (unit.Memory size read port address value))).end)
    ∙ small_shape large size read port address value forgive plain needs clear
    ∙ ap not (same_large k large plain u f (settled_calm (kept_by p t asks)) port lt)

-- ---- a unit that is made alone

pub small_alone : SmallAlone
small_alone p t asks n size read port address value forgive fresh ok whole lt wide good =
    let s : NeverStops t [] n asks = never_stops t [] n asks whole in
    let plain : TargetState = alone_after t [] asks in
    let large : List ℕ = large_of_all t [] asks in
    let follows : Follows (kept_by p t asks) large plain (target_by p t asks) = journal_follows p t asks fresh ok s.none in
    let g = settles (kept_by p t asks) large plain (target_by p t asks) follows in
    let at : after (target_by p t asks) (making (settle (kept_by p t asks))) ≡ g.at = pass_after (target_by p t asks) g.at (making (settle (kept_by p t asks))) g.pass in
    let k : Kept = kept_after_settling (kept_by p t asks) in
    let u : TargetState = after (target_by p t asks) (making (settle (kept_by p t asks))) in
    let f : Follows k large plain u = subst (Follows k large plain) (sym at) g.follows in
    let needs : needs_cfg large port address ≡ true = ap (λ (b : Bool). nat_lt 0xFFFF_FFFF address && not b) (sym (f.larges port lt)) ∙ wide in
    let same = in_order_alike (cfg_actions port) plain u (follows_agree k large plain u f (settled_calm (kept_by p t asks))) (refl, (refl, tt)) in
    let clear : is_fault (in_order plain (cfg_actions port)).outcome ≡ false = ap is_fault same.outcome ∙ good in
    let target = after_alone t [] n asks s.none s.enough in
    let larges = large_alone t [] n asks s.none s.enough in
    one_small (start_world t n) asks (unit_ask (unit.Memory size read port address value) forgive) whole
    ∙ (λ j. is_small_end (call_done (target j) (larges j) forgive (Access (unit.Memory size read port address value))).end)
    ∙ small_shape large size read port address value forgive plain needs clear
    ∙ ap (λ o. not (has_bit (given_number o) 2)) same.outcome
