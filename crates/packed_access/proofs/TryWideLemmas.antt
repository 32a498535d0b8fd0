-- How a unit made alone that forgives a fault ends, and what is noted of it.
use Rattle.std.proofs.Common.{◌≡◌, inl, inr, ◌∙◌, ℕ, ◌+◌, ◌/◌, ◌%◌, ◌<◌, Bool, true, false, cond, not, ◌&&◌, ◌||◌, nat_lt, List, [], ◌∷◌, ◌++◌, length, Option, Some, None, refl, sym, ap, subst, arith}
use Rattle.dap_base.specs.Bits.{has_bit}
use Rattle.target_machine.specs.Attempt.{Attempt, attempt}
use Rattle.target_machine.specs.Lists.{after}
use Rattle.target_machine.specs.Plain.{Action, Makes, action_attempt, after_cfg, ap_access_of, call_actions, cfg_actions, contains, given_number, has_large, in_order, is_fault, memory_actions, needs_cfg as wants_cfg, select_of}
use Rattle.target_machine.specs.Registers.{cfg_la}
use Rattle.target_machine.specs.State.{TargetState}
use Rattle.target_machine.specs.declared.access.Outcome.{Outcome}
use Rattle.target_machine.specs.declared.access.Outcome.TheVariants as outcome
use Rattle.target_machine.specs.declared.access.RegAccess.{RegAccess}
use Rattle.target_machine.specs.declared.unit.Call.TheVariants.{Access}
use Rattle.target_machine.specs.declared.unit.Unit.{Unit as AccessUnit}
use Rattle.target_machine.specs.declared.unit.Unit.TheVariants as unit
use Rattle.target_machine.proofs.ActionLists.{pass_last}
use Rattle.probe_core.specs.Bench.{BenchState}
use Rattle.target_machine.specs.Counts.{one_if}
use Rattle.access_regs.specs.Costs.{leading_reads}
use Rattle.access_regs.specs.Entries.{NoneFault}
use Rattle.access_regs.specs.Journal.{alone_at, kept_alone, large_of, making}
use Rattle.access_regs.specs.Kept.{Kept, forget, known_at, kept_with_select}
use Rattle.access_regs.specs.Plan.{learned_cfg, needs_cfg, select_value}
use Rattle.access_regs.proofs.CostLemmas.{alone_reads, port_reads}
use Rattle.access_regs.proofs.Forgiving.{contains_one}
use Rattle.access_regs.proofs.KeptLemmas.{alone_kept, kept_after_cfg, kept_by_cfg, port_kept}
use Rattle.access_regs.proofs.LeadLemmas.{select_is_good}
use Rattle.flight_laws.proofs.PushLemmas.{pass_makes}
use Rattle.packed_access.specs.Forgiving.{AreNextAccesses, CameTo, CfgShows, HasForgiven, IsDoneBy, IsForgiven, IsSmallBy, IsTrying, LogHasTried, WentTo}
use Rattle.packed_access.specs.Logs.{LogState}
use Rattle.packed_access.proofs.BegunLemmas.{fact_of}
use Rattle.packed_access.proofs.TryMemoryLemmas.{tried_clear, tried_good, went_came}
use Rattle.access_regs.specs.declared.planner.Planner.{Planner}
use Rattle.access_regs.proofs.Wide.{and_not}

tried_actions : (p : Planner) (forgive : Bool) (x : Option BenchState) (log : LogState) (asked : AccessUnit) (k : Kept) (t : TargetState) (made : List RegAccess) (rest : List Action) (m0 : BenchState) → LogHasTried p forgive x log asked k t made rest m0 → call_actions t (large_of k asked) (Access asked) ≡ making made ++ rest
tried_actions p forgive x log asked k t made rest m0 h = fact_of x (λ m. IsTrying p forgive log asked k t made rest m0 m) _ (λ m i. i.actions) h.so

forgiven_bad : (p : Planner) (forgive : Bool) (x : Option BenchState) (log : LogState) (asked : AccessUnit) (k : Kept) (t : TargetState) (made : List RegAccess) (last : RegAccess) (m0 : BenchState) → HasForgiven p forgive x log asked k t made last m0 → is_fault (action_attempt (after t (making made)) (Makes last)).outcome ≡ true
forgiven_bad p forgive x log asked k t made last m0 h = fact_of x (λ m. IsForgiven p forgive log asked k t made last m0 m) _ (λ m i. i.bad) h.so

given_fault : (o : Outcome) → is_fault o ≡ true → given_number o ≡ 0
given_fault outcome.Fault e = refl
given_fault (outcome.Value n) e = absurd (cc)
given_fault outcome.Done e = absurd (cc)

-- ---- a memory unit

module _ (p : Planner) (forgive : Bool) (x : Option BenchState) (log : LogState) (k : Kept) (t : TargetState) (rest : List Action) (m0 : BenchState) (size : ℕ) (read : Bool) (n address value : ℕ) (h : LogHasTried p forgive x log (unit.Memory size read n address value) k t [] rest m0) (lt : n < 256) where
  abbrev mem : AccessUnit
  mem = unit.Memory size read n address value

  clear : t.sticky ≡ false
  clear = tried_clear p forgive x log mem k t [] rest m0 h

  abbrev large : Bool
  large = (known_at k n).large

  wants : wants_cfg (large_of k mem) n address ≡ needs_cfg k mem
  wants = ap (λ (c : Bool). nat_lt 0xFFFF_FFFF address && not c) (contains_one large n)

  reads_are : (b : Bool) → needs_cfg k mem ≡ b → leading_reads (alone_at forgive mem t k).steps ≡ cond b (1 + one_if (has_large t n)) 1
  reads_are b e = alone_reads t k forgive size read n address value clear lt ∙ ap (λ (w : Bool). cond w (1 + one_if (has_large t n)) 1) e

  kept_are : (b : Bool) → needs_cfg k mem ≡ b → (alone_at forgive mem t k).kept ≡ cond b (kept_alone k n (cond (has_large t n) 0 15) (has_large t n)) (kept_alone k n 0 large)
  kept_are b e = alone_kept t k forgive size read n address value clear lt ∙ ap (λ (w : Bool). cond w (kept_alone k n (cond (has_large t n) 0 15) (has_large t n)) (kept_alone k n 0 large)) e

  -- CFG is not read
  module _ (narrow : needs_cfg k mem ≡ false) where
    pub narrow_rest : rest ≡ memory_actions t (known_at k n).large size read n address value
    narrow_rest =
        sym (tried_actions p forgive x log mem k t [] rest m0 h)
        ∙ ap (λ (w : Bool). cond w (cfg_actions n ++ after_cfg t size read n address value) (memory_actions t (contains (large_of k mem) n) size read n address value)) (wants ∙ narrow)
        ∙ ap (λ (c : Bool). memory_actions t c size read n address value) (contains_one large n)

    small_narrow : (w : Option ℕ) → IsSmallBy false w mem k t
    small_narrow None = tt
    small_narrow (Some v) = inl narrow

    pub narrow_done : (w : Option ℕ) (y : Option BenchState) (log2 : LogState) (noted : Kept) → noted ≡ kept_with_select k (select_value n 0) → CameTo p forgive w y log2 mem k t m0 → IsDoneBy p forgive false w 1 noted y log2 mem k t m0
    narrow_done w y log2 noted is came = record {
      came = came;
      small_is = small_narrow w;
      reads_are = sym (reads_are false narrow);
      kept_is = ap (λ (q : Kept). forget q n) is ∙ sym (kept_are false narrow);
    }

  -- CFG is read
  module _ (wide : needs_cfg k mem ≡ true) where
    abbrev pub cfg_flight : List RegAccess
    cfg_flight = select_of n 15 ∷ ap_access_of true 4 0 ∷ []

    pub wide_rest : rest ≡ cfg_actions n ++ after_cfg t size read n address value
    wide_rest =
        sym (tried_actions p forgive x log mem k t [] rest m0 h)
        ∙ ap (λ (w : Bool). cond w (cfg_actions n ++ after_cfg t size read n address value) (memory_actions t (contains (large_of k mem) n) size read n address value)) (wants ∙ wide)

    none_select : NoneFault t (select_of n 15 ∷ [])
    none_select = select_is_good t n 15 lt (omega arith) clear

    pub cfg_next : AreNextAccesses mem t [] (select_of n 15 ∷ []) (ap_access_of true 4 0) false rest (after_cfg t size read n address value)
    cfg_next = record { may = refl; first = refl; are = wide_rest; parts = refl; early = refl; good = none_select }

    not_large : (known_at k n).large ≡ false
    not_large = and_not (nat_lt 0xFFFF_FFFF address) large wide

    -- the read as the last of both
    order_is : in_order t (cfg_actions n) ≡ attempt (after t (making (select_of n 15 ∷ []))) (ap_access_of true 4 0)
    order_is = pass_last t (after t (making (select_of n 15 ∷ []))) (making (select_of n 15 ∷ [])) (Makes (ap_access_of true 4 0)) (pass_makes t (select_of n 15 ∷ []) none_select)

    pub cfg_skipped : (y : Option BenchState) (log2 : LogState) (noted : Kept) (w : Option ℕ) → noted ≡ kept_with_select k (select_value n 15) → w ≡ None → WentTo p forgive w y log2 mem k t [] (select_of n 15 ∷ []) (ap_access_of true 4 0) (after_cfg t size read n address value) m0 → IsDoneBy p forgive false None 1 noted y log2 mem k t m0
    cfg_skipped y log2 noted w is none went =
        let f : HasForgiven p forgive y log2 mem k t (select_of n 15 ∷ []) (ap_access_of true 4 0) m0 = subst (λ (v : Option ℕ). WentTo p forgive v y log2 mem k t [] (select_of n 15 ∷ []) (ap_access_of true 4 0) (after_cfg t size read n address value) m0) none went in
        let bad = forgiven_bad p forgive y log2 mem k t (select_of n 15 ∷ []) (ap_access_of true 4 0) m0 f in
        let it_lacks : has_large t n ≡ false = ap (λ (a : Attempt). has_bit (given_number a.outcome) cfg_la) order_is ∙ ap (λ (v : ℕ). has_bit v cfg_la) (given_fault (attempt (after t (making (select_of n 15 ∷ []))) (ap_access_of true 4 0)).outcome bad) in
        record {
          came = record { made = select_of n 15 ∷ []; last = ap_access_of true 4 0; forgiven = f };
          small_is = tt;
          reads_are = sym (reads_are true wide ∙ ap (λ (b : Bool). 1 + one_if b) it_lacks);
          kept_is = ap (λ (q : Kept). forget q n) is ∙ ap (λ (b : Bool). kept_alone k n 15 b) not_large ∙ sym (kept_are true wide ∙ ap (λ (b : Bool). kept_alone k n (cond b 0 15) b) it_lacks);
        }

    -- it came
    module _ (y : Option BenchState) (log2 : LogState) (w : Option ℕ) (cfg : ℕ) (came : w ≡ Some cfg) (went : WentTo p forgive w y log2 mem k t [] (select_of n 15 ∷ []) (ap_access_of true 4 0) (after_cfg t size read n address value) m0) (table : length k.ports ≡ 256) where
      went_some : WentTo p forgive (Some cfg) y log2 mem k t [] (select_of n 15 ∷ []) (ap_access_of true 4 0) (after_cfg t size read n address value) m0
      went_some = subst (λ (v : Option ℕ). WentTo p forgive v y log2 mem k t [] (select_of n 15 ∷ []) (ap_access_of true 4 0) (after_cfg t size read n address value) m0) came went

      pub cfg_tried : LogHasTried p forgive y log2 mem k t cfg_flight (after_cfg t size read n address value) m0
      cfg_tried = went_some.0

      none_both : NoneFault t cfg_flight
      none_both = tried_good p forgive y log2 mem k t cfg_flight (after_cfg t size read n address value) m0 cfg_tried

      shows : (b : Bool) → has_bit cfg cfg_la ≡ b → CfgShows mem t b
      shows b e = (
        ap (λ (a : Attempt). is_fault a.outcome) order_is ∙ none_both.1.0,
        ap (λ (a : Attempt). has_bit (given_number a.outcome) cfg_la) order_is ∙ ap (λ (v : ℕ). has_bit v cfg_la) (sym went_some.1) ∙ e,
      )

      pub cfg_small : (noted : Kept) → noted ≡ learned_cfg (kept_with_select k (select_value n 15)) n cfg → has_bit cfg cfg_la ≡ false → IsDoneBy p forgive true (Some 0) 1 noted y log2 mem k t m0
      cfg_small noted is it_lacks =
          let s = shows false it_lacks in
          record {
            came = (refl, record { made = cfg_flight; tried = subst (λ (l : List Action). LogHasTried p forgive y log2 mem k t cfg_flight l m0) (ap (λ (b : Bool). cond b (memory_actions (in_order t (cfg_actions n)).next true size read n address value) []) s.1) cfg_tried });
            small_is = (wide, s);
            reads_are = sym (reads_are true wide ∙ ap (λ (b : Bool). 1 + one_if b) s.1);
            kept_is = ap (λ (q : Kept). forget q n) is ∙ kept_by_cfg k (select_value n 15) n cfg table lt ∙ (λ j. kept_alone k n 15 (not_large j || it_lacks j)) ∙ sym (kept_are true wide ∙ ap (λ (b : Bool). kept_alone k n (cond b 0 15) b) s.1);
          }

      pub cfg_large : has_bit cfg cfg_la ≡ true → after_cfg t size read n address value ≡ memory_actions (after t (making cfg_flight)) true size read n address value
      cfg_large it_has =
          ap (λ (b : Bool). cond b (memory_actions (in_order t (cfg_actions n)).next true size read n address value) []) (shows true it_has).1
          ∙ ap (λ (a : Attempt). memory_actions a.next true size read n address value) order_is

      small_large : (v : Option ℕ) → has_bit cfg cfg_la ≡ true → IsSmallBy false v mem k t
      small_large None it_has = tt
      small_large (Some v) it_has = inr (wide, shows true it_has)

      pub wide_done : (v : Option ℕ) (z : Option BenchState) (log3 : LogState) (noted : Kept) → noted ≡ kept_with_select (learned_cfg (kept_with_select k (select_value n 15)) n cfg) (select_value n 0) → has_bit cfg cfg_la ≡ true → CameTo p forgive v z log3 mem k t m0 → IsDoneBy p forgive false v 2 noted z log3 mem k t m0
      wide_done v z log3 noted is it_has came =
          let s = shows true it_has in
          record {
            came = came;
            small_is = small_large v it_has;
            reads_are = sym (reads_are true wide ∙ ap (λ (b : Bool). 1 + one_if b) s.1);
            kept_is = ap (λ (q : Kept). forget q n) is ∙ kept_after_cfg k (select_value n 15) n cfg 0 table lt ∙ (λ j. kept_alone k n 0 (not_large j || it_has j)) ∙ sym (kept_are true wide ∙ ap (λ (b : Bool). kept_alone k n (cond b 0 15) b) s.1);
          }

-- ---- an AP unit

module _ (p : Planner) (forgive : Bool) (x : Option BenchState) (log : LogState) (k : Kept) (t : TargetState) (rest : List Action) (m0 : BenchState) (read : Bool) (n addr value : ℕ) (h : LogHasTried p forgive x log (unit.Ap read n addr value) k t [] rest m0) (lt : n < 256) (fits : addr < 256) where
  abbrev reg : AccessUnit
  reg = unit.Ap read n addr value

  port_clear : t.sticky ≡ false
  port_clear = tried_clear p forgive x log reg k t [] rest m0 h

  pub port_next : AreNextAccesses reg t [] (select_of n (addr / 16) ∷ []) (ap_access_of read (addr % 16) value) true rest []
  port_next = record { may = refl; first = refl; are = sym (tried_actions p forgive x log reg k t [] rest m0 h); parts = refl; early = refl; good = select_is_good t n (addr / 16) lt (omega (arith, fits)) port_clear }

  small_port : (w : Option ℕ) → IsSmallBy false w reg k t
  small_port None = tt
  small_port (Some v) = inl refl

  pub port_done : (w : Option ℕ) (y : Option BenchState) (log2 : LogState) (noted : Kept) → noted ≡ kept_with_select k (select_value n (addr / 16)) → WentTo p forgive w y log2 reg k t [] (select_of n (addr / 16) ∷ []) (ap_access_of read (addr % 16) value) [] m0 → IsDoneBy p forgive false w 0 noted y log2 reg k t m0
  port_done w y log2 noted is went = record {
    came = went_came p forgive w y log2 reg k t [] (select_of n (addr / 16) ∷ []) (ap_access_of read (addr % 16) value) m0 went;
    small_is = small_port w;
    reads_are = sym (port_reads t k forgive read n addr value);
    kept_is = ap (λ (q : Kept). forget q n) is ∙ sym (port_kept t k forgive read n addr value port_clear lt fits);
  }

-- the same, named otherwise
pub done_same : (p : Planner) (forgive : Bool) (noted : Kept) (y : Option BenchState) (log : LogState) (asked : AccessUnit) (k : Kept) (t : TargetState) (m0 : BenchState) (s s' : Bool) (w w' : Option ℕ) (r r' : ℕ) → s ≡ s' → w ≡ w' → r ≡ r' → IsDoneBy p forgive s' w' r' noted y log asked k t m0 → IsDoneBy p forgive s w r noted y log asked k t m0
done_same p forgive noted y log asked k t m0 s s' w w' r r' small word reads h =
    subst (λ (x : Bool). IsDoneBy p forgive x w r noted y log asked k t m0) (sym small) (subst (λ (x : Option ℕ). IsDoneBy p forgive s' x r noted y log asked k t m0) (sym word) (subst (λ (x : ℕ). IsDoneBy p forgive s' w' x noted y log asked k t m0) (sym reads) h))
