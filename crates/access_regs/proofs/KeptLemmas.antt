-- What is known after a unit that is made alone.
use Rattle.std.proofs.Common.{◌≡◌, ◌∙◌, ℕ, ◌/◌, ◌%◌, ◌<◌, Bool, true, false, cond, eqb, not, ◌&&◌, ◌||◌, nat_lt, List, [], ◌∷◌, ◌++◌, Option, Some, refl, ap, arith, length}
use Rattle.access_regs.proofs.CostLemmas.{at_cfg, cfg_clears, cfg_good, cfg_read, select_passes}
use Rattle.access_regs.proofs.Forgiving.{contains_one, select_append}
use Rattle.access_regs.proofs.MemoryShape.{csw_at, memory_shape, shape}
use Rattle.access_regs.proofs.Wide.{contains_last}
use Rattle.access_regs.specs.Journal.{kept_alone, large_of, select_after}
use Rattle.access_regs.specs.Kept.{Kept, forget, forgotten, known_at, kept_with_select, with_known}
use Rattle.access_regs.specs.declared.known.Known.{Known}
use Rattle.access_regs.proofs.PortFacts.{known_same}
use Rattle.std.proofs.lemmas.List.{set-set}
use Rattle.dap_base.specs.Bits.{has_bit}
use Rattle.access_regs.specs.Laws.{AloneKept, KeptAfterCfg, KeptByCfg, KeptBySelect, PortKept}
use Rattle.access_regs.specs.Plan.{learned_cfg, needs_cfg, select_value}
use Rattle.target_machine.specs.Attempt.{Attempt, attempt}
use Rattle.target_machine.specs.Plain.{Action, Makes, Polls, Commands, ap_access_of, call_done, contains, csw_actions, ended_call, forgives, given_number, has_large, in_order, is_fault, is_small, issued_actions, large_after, needs_cfg as wants_cfg, result_of, select_of, transfer_actions, unit_actions}
use Rattle.target_machine.specs.State.{TargetState}
use Rattle.target_machine.specs.declared.access.RegAccess.{RegAccess}
use Rattle.target_machine.specs.declared.unit.Call.TheVariants.{Access}
use Rattle.target_machine.specs.declared.unit.Unit.{Unit as AccessUnit}
use Rattle.target_machine.specs.declared.unit.Unit.TheVariants as unit

-- accesses of an AP leave SELECT
abbrev AreOfPort : List Action → Type 0
AreOfPort [] = Unit {0}
AreOfPort (Makes a ∷ xs) = (a.ap ≡ true) × AreOfPort xs
AreOfPort (Polls mask value turns ∷ xs) = ⊥
AreOfPort (Commands c ∷ xs) = ⊥

port_leaves : (old : Option ℕ) (v : TargetState) (xs : List Action) → AreOfPort xs → select_after old (issued_actions v xs) ≡ old
port_leaves old v [] h = refl
port_leaves old v (Makes a ∷ xs) h =
    ap (λ (b : Bool). select_after (cond (not b && (not a.read && eqb a.addr 8)) (Some a.value) old) (cond (is_fault (attempt v a).outcome) [] (issued_actions (attempt v a).next xs))) h.0
    ∙ by_fault (is_fault (attempt v a).outcome) (port_leaves old (attempt v a).next xs h.1)
  where
    by_fault : (b : Bool) → select_after old (issued_actions (attempt v a).next xs) ≡ old → select_after old (cond b [] (issued_actions (attempt v a).next xs)) ≡ old
    by_fault true e = refl
    by_fault false e = e
port_leaves old v (Polls mask value turns ∷ xs) h = absurd h
port_leaves old v (Commands c ∷ xs) h = absurd h

-- SELECT, and then accesses of its AP
select_part : (old : Option ℕ) (v : TargetState) (n bank : ℕ) (xs : List Action) → n < 256 → bank < 16 → v.sticky ≡ false → AreOfPort xs → select_after old (issued_actions v (Makes (select_of n bank) ∷ xs)) ≡ Some (select_value n bank)
select_part old v n bank xs lt banked clear h =
    ap (λ (b : Bool). select_after (Some (select_value n bank)) (cond b [] (issued_actions (attempt v (select_of n bank)).next xs))) (select_passes v n bank lt banked clear)
    ∙ port_leaves (Some (select_value n bank)) (attempt v (select_of n bank)).next xs h

module _ (old : Option ℕ) (size : ℕ) (read : Bool) (n address value : ℕ) (lt : n < 256) where
  tail_port : (l : Bool) (csw : ℕ) → AreOfPort (transfer_actions l size read address value csw)
  tail_port true csw = (refl, (refl, (refl, (refl, tt))))
  tail_port false csw = (refl, (refl, (refl, tt)))

  csw_part : (o : Option ℕ) (v : TargetState) → v.sticky ≡ false → (l : Bool) (csw : ℕ) → select_after o (issued_actions v (csw_actions n ++ transfer_actions l size read address value csw)) ≡ Some (select_value n 0)
  csw_part o v clear l csw = select_part o v n 0 (Makes (ap_access_of true 0 0) ∷ transfer_actions l size read address value csw) lt (omega arith) clear (refl, tail_port l csw)

  cfg_part : (v : TargetState) → v.sticky ≡ false → (b l : Bool) (csw : ℕ) → has_large v n ≡ b → select_after old (issued_actions v (shape size read n address value true b l csw)) ≡ Some (select_value n (cond b 0 15))
  cfg_part v clear true l csw e =
      let s : TargetState = at_cfg v clear n lt in
      let cfg : RegAccess = cfg_read v clear n lt in
      let rest : List Action = csw_actions n ++ transfer_actions true size read address value csw in
      ap (λ (b : Bool). select_after (Some (select_value n 15)) (cond b [] (Makes cfg ∷ cond (is_fault (attempt s cfg).outcome) [] (issued_actions (attempt s cfg).next rest)))) (select_passes v n 15 lt (omega arith) clear)
      ∙ ap (λ (b : Bool). select_after (Some (select_value n 15)) (cond b [] (issued_actions (attempt s cfg).next rest))) (cfg_good v clear n lt e)
      ∙ csw_part (Some (select_value n 15)) (attempt s cfg).next (cfg_clears v clear n lt e) true csw
  cfg_part v clear false l csw e = select_part old v n 15 (Makes (ap_access_of true 4 0) ∷ []) lt (omega arith) clear (refl, tt)

  shape_part : (v : TargetState) → v.sticky ≡ false → (w l : Bool) (csw : ℕ) → select_after old (issued_actions v (shape size read n address value w (has_large v n) l csw)) ≡ Some (select_value n (cond w (cond (has_large v n) 0 15) 0))
  shape_part v clear true l csw = cfg_part v clear (has_large v n) l csw refl
  shape_part v clear false l csw = csw_part old v clear l csw

-- the write of ABORT leaves it
ended_select : (old : Option ℕ) (b forgive small : Bool) (x : ℕ) (next : TargetState) (large : List ℕ) (actions : List Action) → select_after old (ended_call b forgive small x next large actions).actions ≡ select_after old actions
ended_select old true true small x next large actions = select_append old actions (Commands forgives ∷ [])
ended_select old true false small x next large actions = refl
ended_select old false forgive true x next large actions = refl
ended_select old false forgive false x next large actions = refl

pub ended_large : (b forgive small : Bool) (x : ℕ) (next : TargetState) (large : List ℕ) (actions : List Action) → (ended_call b forgive small x next large actions).large ≡ large
ended_large true true small x next large actions = refl
ended_large true false small x next large actions = refl
ended_large false forgive true x next large actions = refl
ended_large false forgive false x next large actions = refl

-- whether the AP has large addresses, as far as that is known then
known_large : (wide known_ large : Bool) (l : List ℕ) (n : ℕ) → contains l n ≡ known_ → contains (cond ((wide && not known_) && large) (l ++ n ∷ []) l) n ≡ cond (wide && not known_) large known_
known_large true false true l n e = contains_last l n
known_large true false false l n e = e
known_large true true large l n e = e
known_large false known_ large l n e = e

-- the two fields
same_kept : (k : Kept) (n : ℕ) (x y : Option ℕ) (a b : Bool) → x ≡ y → a ≡ b → record (with_known k n (record (forgotten (known_at k n)) { large = a })) { select = x } ≡ record (with_known k n (record (forgotten (known_at k n)) { large = b })) { select = y }
same_kept k n x y a b e h = (λ j. record (with_known k n (record (forgotten (known_at k n)) { large = h j })) { select = e j })

by_wide : (k : Kept) (n : ℕ) (w b known_ : Bool) → record (with_known k n (record (forgotten (known_at k n)) { large = cond w b known_ })) { select = Some (select_value n (cond w (cond b 0 15) 0)) }
    ≡ cond w (kept_alone k n (cond b 0 15) b) (kept_alone k n 0 known_)
by_wide k n true b known_ = refl
by_wide k n false b known_ = refl

pub alone_kept : AloneKept
unfolding call_done
alone_kept t k forgive size read n address value clear lt =
    let asked : AccessUnit = unit.Memory size read n address value in
    let l2 : List ℕ = large_of k asked in
    let here : Bool = (known_at k n).large in
    let xs : List Action = unit_actions t l2 asked in
    let ran : Attempt = in_order t xs in
    let one : contains l2 n ≡ here = contains_one here n in
    let wide : wants_cfg l2 n address ≡ needs_cfg k asked = ap (λ (c : Bool). nat_lt 0xFFFF_FFFF address && not c) one in
    let select : select_after k.select (call_done t l2 forgive (Access asked)).actions ≡ Some (select_value n (cond (needs_cfg k asked) (cond (has_large t n) 0 15) 0)) =
    ended_select k.select (is_fault ran.outcome) (forgive && true) (is_small t l2 (Access asked)) (result_of (Access asked) (given_number ran.outcome)) ran.next (large_after t l2 (Access asked)) (issued_actions t xs)
    ∙ ap (λ (l : List Action). select_after k.select (issued_actions t l)) (memory_shape size read n address value t l2)
    ∙ shape_part k.select size read n address value lt t clear (wants_cfg l2 n address) (contains l2 n) (csw_at size read n address value t (wants_cfg l2 n address))
    ∙ ap (λ (w : Bool). Some (select_value n (cond w (cond (has_large t n) 0 15) 0))) wide in
    let large : contains (call_done t l2 forgive (Access asked)).large n ≡ cond (needs_cfg k asked) (has_large t n) here =
    ap (λ (l : List ℕ). contains l n) (ended_large (is_fault ran.outcome) (forgive && true) (is_small t l2 (Access asked)) (result_of (Access asked) (given_number ran.outcome)) ran.next (large_after t l2 (Access asked)) (issued_actions t xs))
    ∙ ap (λ (w : Bool). contains (cond (w && has_large t n) (l2 ++ n ∷ []) l2) n) wide
    ∙ known_large (nat_lt 0xFFFF_FFFF address) here (has_large t n) l2 n one in
    same_kept k n _ _ _ _ select large ∙ by_wide k n (needs_cfg k asked) (has_large t n) here

pub port_kept : PortKept
unfolding call_done
port_kept t k forgive read n addr value clear lt fits =
    let asked : AccessUnit = unit.Ap read n addr value in
    let l2 : List ℕ = large_of k asked in
    let xs : List Action = unit_actions t l2 asked in
    let ran : Attempt = in_order t xs in
    let select : select_after k.select (call_done t l2 forgive (Access asked)).actions ≡ Some (select_value n (addr / 16)) =
    ended_select k.select (is_fault ran.outcome) (forgive && true) false (result_of (Access asked) (given_number ran.outcome)) ran.next l2 (issued_actions t xs)
    ∙ select_part k.select t n (addr / 16) (Makes (ap_access_of read (addr % 16) value) ∷ []) lt (omega arith) clear (refl, tt) in
    let large : contains (call_done t l2 forgive (Access asked)).large n ≡ (known_at k n).large =
    ap (λ (l : List ℕ). contains l n) (ended_large (is_fault ran.outcome) (forgive && true) false (result_of (Access asked) (given_number ran.outcome)) ran.next l2 (issued_actions t xs)) ∙ contains_one (known_at k n).large n in
    same_kept k n _ _ _ _ select large

-- ---- how it is noted

pub kept_by_select : KeptBySelect
kept_by_select k n bank = refl

-- a port is noted twice
noted_twice : (k : Kept) (n : ℕ) (a b : Known) → with_known (with_known k n a) n b ≡ with_known k n b
noted_twice k n a b = ap (λ (l : List Known). record k { ports = l }) (set-set k.ports n a b)

module _ (k : Kept) (select n cfg : ℕ) (table : length k.ports ≡ 256) (lt : n < 256) where
  abbrev noted : Known
  noted = record (known_at k n) { large = (known_at k n).large || has_bit cfg 2 }

  here : known_at (with_known k n noted) n ≡ noted
  here = known_same k n noted (omega (arith, table, lt))

  twice : with_known (with_known k n noted) n (forgotten (known_at (with_known k n noted) n)) ≡ with_known k n (record (forgotten (known_at k n)) { large = (known_at k n).large || has_bit cfg 2 })
  twice = noted_twice k n noted (forgotten (known_at (with_known k n noted) n)) ∙ ap (λ (a : Known). with_known k n (forgotten a)) here

  pub by_cfg : forget (learned_cfg (kept_with_select k select) n cfg) n ≡ kept_alone k n 15 ((known_at k n).large || has_bit cfg 2)
  by_cfg = ap (λ (l : Kept). record l { select = Some (select_value n 15) }) twice

  pub after_cfg : (bank : ℕ) → forget (kept_with_select (learned_cfg (kept_with_select k select) n cfg) (select_value n bank)) n ≡ kept_alone k n bank ((known_at k n).large || has_bit cfg 2)
  after_cfg bank = ap (λ (l : Kept). record l { select = Some (select_value n bank) }) twice

pub kept_by_cfg : KeptByCfg
kept_by_cfg k select n cfg table lt = by_cfg k select n cfg table lt

pub kept_after_cfg : KeptAfterCfg
kept_after_cfg k select n cfg bank table lt = after_cfg k select n cfg table lt bank
