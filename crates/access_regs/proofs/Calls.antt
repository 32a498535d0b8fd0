-- Each call by what is issued for it, against the call alone and at once.
use Rattle.std.proofs.Common.{◌≡◌, ◌∙◌, ℕ, ◌<◌, ◌⊎◌, inl, inr, Bool, true, false, cond, eqb, not, ◌&&◌, ◌||◌, nat_lt, List, Option, Some, None, refl, sym, ap, subst, arith, is_some}
use Rattle.std.proofs.lemmas.Bool.{or_parts, not-false}
use Rattle.target_machine.specs.Plain.{Action, call_done, needs_cfg, may_forgive, CallDone}
use Rattle.target_machine.specs.Sound.{IsSound}
use Rattle.target_machine.specs.State.{TargetState}
use Rattle.target_machine.specs.declared.unit.Call.{Call}
use Rattle.target_machine.specs.declared.unit.Call.TheVariants.{Access}
use Rattle.target_machine.specs.declared.unit.Unit.{Unit as AccessUnit}
use Rattle.target_machine.specs.declared.unit.Unit.TheVariants as unit
use Rattle.access_regs.specs.Kept.{Kept, is_known}
use Rattle.access_regs.specs.Plan.{select_value, settle, kept_after_settling, needs_settle, must_follow_settling}
use Rattle.access_regs.specs.Plan as plans
use Rattle.access_regs.specs.Journal.{Issue, making, steps_of, before, gives, by_plan, by_csw, by_cfg, by_cfg_read, after_settling, issue_of_plan}
use Rattle.access_regs.specs.Follows.{Follows}
use Rattle.access_regs.specs.declared.known.Unsettled.{Unsettled}
use Rattle.access_regs.proofs.Course.{course_before, actions_steps}
use Rattle.access_regs.specs.Course.{Course}
use Rattle.access_regs.proofs.Transfer.{is_known_some}
use Rattle.access_regs.proofs.Settle.{settles, settled_calm}
use Rattle.access_regs.proofs.Memory.{narrow_course}
use Rattle.access_regs.proofs.Wide.{wide_course}
use Rattle.access_regs.proofs.PortUnit.{port_course}
use Rattle.target_machine.proofs.ActionLists.{pass_after}
use Rattle.target_machine.specs.Lists.{after, PassTo}
use Rattle.target_calls.specs.Asks.{IsUnitInRange}
use Rattle.target_calls.specs.declared.journal.Part.TheVariants.{Settles, Leads}
use Rattle.access_regs.proofs.Singles.{dp_course, poll_course}

module _ (k : Kept) (large : List ℕ) (t u : TargetState) (f : Follows k large t u) where
  -- settling first
  pub settle_course : (next : TargetState → Kept → Issue) (d : CallDone) (call : Call) → ((v : TargetState) → Follows (kept_after_settling k) large t v → Course (next v (kept_after_settling k)) d call v) →
      Course (after_settling u k next) d call u
  settle_course next d call then =
      let g = settles k large t u f in
      let c : Course (next g.at (kept_after_settling k)) d call g.at = then g.at g.follows in
      let b : Course (before (steps_of Settles (settle k)) (next g.at (kept_after_settling k))) d call u =
      course_before (next g.at (kept_after_settling k)) d call u g.at (steps_of Settles (settle k)) (subst (λ (l : List Action). PassTo u l g.at) (sym (actions_steps Settles (settle k))) g.pass) c in
      subst (λ (v : TargetState). Course (before (steps_of Settles (settle k)) (next v (kept_after_settling k))) d call u) (sym (pass_after u g.at (making (settle k)) g.pass)) b

  no_unsettled : k.unsettled ≡ None → (s : Unsettled) → k.unsettled ≡ Some s → ⊥
  no_unsettled none s some = let x : ◌≡◌ {A = Option Unsettled} None (Some s) = sym none ∙ some in absurd (cc)

  -- a memory unit that needs no settling any more
  memory_by_cfg : (size : ℕ) (read : Bool) (n address value : ℕ) → IsSound (unit.Memory size read n address value) → n < 256 →
      (plans.needs_cfg k (unit.Memory size read n address value) ≡ true → k.unsettled ≡ None) → (plans.needs_cfg k (unit.Memory size read n address value) ≡ false → (s : Unsettled) → k.unsettled ≡ Some s → s.ap ≡ n) →
      Course (by_cfg u k (unit.Memory size read n address value)) (call_done t large false (Access (unit.Memory size read n address value))) (Access (unit.Memory size read n address value)) u
  memory_by_cfg size read n address value sound lt calm same = by_needs (plans.needs_cfg k asked) refl
    where
      asked : AccessUnit
      asked = unit.Memory size read n address value

      needs_is : needs_cfg large n address ≡ plans.needs_cfg k asked
      needs_is = ap (λ (b : Bool). nat_lt 0xFFFF_FFFF address && not b) (sym (f.larges n lt))

      first : Issue
      first = before (steps_of Leads (plans.cfg_plan k n)) (by_cfg_read (after u (making (plans.cfg_plan k n))) k asked (gives u (plans.cfg_plan k n)))

      by_needs : (b : Bool) → plans.needs_cfg k asked ≡ b → Course (by_cfg u k asked) (call_done t large false (Access asked)) (Access asked) u
      by_needs true e =
          subst (λ (b : Bool). Course (cond b first (by_csw u k asked)) (call_done t large false (Access asked)) (Access asked) u) (sym e)
          (wide_course large size read n address value lt sound.sized sound.aligned k t u f (needs_is ∙ e) (calm e))
      by_needs false e =
          subst (λ (b : Bool). Course (cond b first (by_csw u k asked)) (call_done t large false (Access asked)) (Access asked) u) (sym e)
          (narrow_course large size read n address value lt sound.sized sound.aligned k t u f (needs_is ∙ e) (same e))

module _ (k : Kept) (large : List ℕ) (t u : TargetState) (f : Follows k large t u) where
  module _ (size : ℕ) (read : Bool) (n address value : ℕ) (sound : IsSound (unit.Memory size read n address value)) (lt : n < 256) where
    abbrev asked : AccessUnit
    asked = unit.Memory size read n address value

    abbrev C : Issue → Type 0
    C i = Course i (call_done t large false (Access asked)) (Access asked) u

    rests : (s : Unsettled) → k.unsettled ≡ Some s → needs_settle k asked ≡ false → (plans.needs_cfg k asked ≡ false) × (s.ap ≡ n)
    rests s some e =
        let stored : (plans.needs_cfg k asked || not (is_known k.select (select_value n 0))) ≡ false =
        sym (ap (λ (o : Option Unsettled). is_some o && (plans.needs_cfg k asked || not (is_known k.select (select_value n 0)))) some) ∙ e in
        let parts = or_parts (plans.needs_cfg k asked) (not (is_known k.select (select_value n 0))) stored in
        let known_select : k.select ≡ Some (select_value n 0) = is_known_some k.select (select_value n 0) (not-false (is_known k.select (select_value n 0)) parts.1) in
        let b = f.unsettled s some in
        let both : ◌≡◌ {A = Option ℕ} (Some (select_value s.ap 0)) (Some (select_value n 0)) = sym b.0 ∙ known_select in
        let same : select_value s.ap 0 ≡ select_value n 0 = cc in
        (parts.0, omega (arith, same))

    memory_rests : needs_settle k asked ≡ false → C (by_cfg u k asked)
    memory_rests e =
        memory_by_cfg k large t u f size read n address value sound lt
        (λ wide. calm k.unsettled refl wide) (λ narrow s some. (let r = rests s some e in r.1))
      where
        calm : (o : Option Unsettled) → k.unsettled ≡ o → plans.needs_cfg k asked ≡ true → k.unsettled ≡ None
        calm None none wide = none
        calm (Some s) some wide = let r = rests s some e in let x : true ≡ false = sym wide ∙ r.0 in absurd (cc)

    memory_settles : C (after_settling u k (λ v l. by_cfg v l asked))
    memory_settles =
        settle_course k large t u f (λ v l. by_cfg v l asked) (call_done t large false (Access asked)) (Access asked)
        (λ v g. memory_by_cfg (kept_after_settling k) large t v g size read n address value sound lt (λ wide. settled_calm k)
        (λ narrow s some. absurd (no_unsettled (kept_after_settling k) large t v g (settled_calm k) s some)))

    memory_planned : C (issue_of_plan u k asked)
    memory_planned = by_settle (needs_settle k asked) refl
      where
        by_settle : (b : Bool) → needs_settle k asked ≡ b → C (issue_of_plan u k asked)
        by_settle true e = subst (λ (b : Bool). C (cond b (after_settling u k (λ v l. by_cfg v l asked)) (by_cfg u k asked))) (sym e) memory_settles
        by_settle false e = subst (λ (b : Bool). C (cond b (after_settling u k (λ v l. by_cfg v l asked)) (by_cfg u k asked))) (sym e) (memory_rests e)

  -- units for which settling is decided by `unsettles` alone, and that have no more than their plan
  plain_planned : (asked : AccessUnit) (d : CallDone) (call : Call) (b : Bool) →
      ((l : Kept) (v : TargetState) → Follows l large t v → (b ≡ true → l.unsettled ≡ None) → Course (by_plan l asked) d call v) →
      Course (cond (is_some k.unsettled && b) (after_settling u k (λ v l. by_plan l asked)) (by_plan k asked)) d call u
  plain_planned asked d call b each = by_unsettled k.unsettled refl b refl
    where
      by_unsettled : (o : Option Unsettled) → k.unsettled ≡ o → (c : Bool) → b ≡ c → Course (cond (is_some k.unsettled && b) (after_settling u k (λ v l. by_plan l asked)) (by_plan k asked)) d call u
      by_unsettled None none c e =
          subst (λ (o : Option Unsettled). Course (cond (is_some o && b) (after_settling u k (λ v l. by_plan l asked)) (by_plan k asked)) d call u) (sym none)
          (each k u f (λ h. none))
      by_unsettled (Some s) some true e =
          subst (λ (o : Option Unsettled). Course (cond (is_some o && b) (after_settling u k (λ v l. by_plan l asked)) (by_plan k asked)) d call u) (sym some)
          (subst (λ (x : Bool). Course (cond x (after_settling u k (λ v l. by_plan l asked)) (by_plan k asked)) d call u) (sym e)
          (settle_course k large t u f (λ v l. by_plan l asked) d call (λ v g. each (kept_after_settling k) v g (λ h. settled_calm k))))
      by_unsettled (Some s) some false e =
          subst (λ (o : Option Unsettled). Course (cond (is_some o && b) (after_settling u k (λ v l. by_plan l asked)) (by_plan k asked)) d call u) (sym some)
          (subst (λ (x : Bool). Course (cond x (after_settling u k (λ v l. by_plan l asked)) (by_plan k asked)) d call u) (sym e)
          (each k u f (λ h. (let x : true ≡ false = sym h ∙ e in absurd (cc)))))

  writes_settle : (read : Bool) (addr : ℕ) → read ≡ false → (addr ≡ 4) ⊎ (addr ≡ 8) → (not read && (eqb addr 4 || eqb addr 8)) ≡ true
  writes_settle read addr e (inl a) = rw (e, a) refl
  writes_settle read addr e (inr a) = rw (e, a) refl

  -- A unit that is not forgiving.
  pub planned_course : (asked : AccessUnit) → IsSound asked → IsUnitInRange asked → Course (issue_of_plan u k asked) (call_done t large false (Access asked)) (Access asked) u
  planned_course (unit.Memory size read n address value) sound range = memory_planned size read n address value sound range.0
  planned_course (unit.Ap read n addr value) sound range =
      plain_planned (unit.Ap read n addr value) (call_done t large false (Access (unit.Ap read n addr value))) (Access (unit.Ap read n addr value)) true
      (λ l v g calm. port_course l large t v g (calm refl) read n addr value range.0 range.1)
  planned_course (unit.Dp read addr value) sound range =
      plain_planned (unit.Dp read addr value) (call_done t large false (Access (unit.Dp read addr value))) (Access (unit.Dp read addr value)) (not read && (eqb addr 4 || eqb addr 8))
      (λ l v g calm. dp_course l large t v g false read addr value sound (λ e a. calm (writes_settle read addr e a)))
  planned_course (unit.Poll mask value turns) sound range =
      plain_planned (unit.Poll mask value turns) (call_done t large false (Access (unit.Poll mask value turns))) (Access (unit.Poll mask value turns)) false
      (λ l v g calm. poll_course l large t v g false mask value turns)

  -- the mark of forgiving counts where the call may be forgiven
  strict_done : (forgive : Bool) (call : Call) → (forgive && may_forgive call) ≡ false → call_done t large forgive call ≡ call_done t large false call
  unfolding call_done
  strict_done forgive call e = rw e refl

  pub strict_course : (forgive : Bool) (asked : AccessUnit) → (forgive && may_forgive (Access asked)) ≡ false → IsSound asked → IsUnitInRange asked → Course (issue_of_plan u k asked) (call_done t large forgive (Access asked)) (Access asked) u
  strict_course forgive asked e sound range =
      subst (λ (d : CallDone). Course (issue_of_plan u k asked) d (Access asked) u) (sym (strict_done forgive (Access asked) e)) (planned_course asked sound range)
