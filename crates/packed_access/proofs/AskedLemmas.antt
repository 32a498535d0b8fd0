-- A unit that forgives nothing is asked: what its plan comes to.
use Rattle.std.proofs.Common.{◌≡◌, ◌∙◌, ℕ, zero, suc, ◌-◌, Bool, true, false, cond, not, ◌&&◌, nat_lt, List, [], ◌∷◌, ◌++◌, length, take, Option, Some, None, Result, Ok, Err, refl, sym, ap, subst, arith, length-append}
use Rattle.std.proofs.lemmas.List.{map-append}
use Rattle.std.specs.Prelude.{IfOk, OnOk, is_some, slice_index_or, slice_set}
use Rattle.std.proofs.lemmas.Bool.{or_left}
use Rattle.dap_base.specs.Bits.{has_bit}
use Rattle.target_machine.specs.Fresh.{IsFresh}
use Rattle.target_machine.specs.Lists.{after}
use Rattle.target_machine.specs.Plain.{Makes, may_forgive}
use Rattle.target_machine.specs.State.{TargetState}
use Rattle.target_machine.specs.declared.access.RegAccess.{RegAccess}
use Rattle.target_machine.specs.declared.unit.Call.{Call}
use Rattle.target_machine.specs.declared.unit.Call.TheVariants.{Access}
use Rattle.target_machine.specs.declared.unit.Unit.{Unit as AccessUnit}
use Rattle.target_machine.specs.declared.unit.Unit.TheVariants as unit
use Rattle.probe_core.specs.Bench.{BenchState}
use Rattle.probe_core.specs.Bench.{Reported as BenchReported}
use Rattle.probe_core.specs.Probe.{target_of}
use Rattle.target_calls.specs.Asks.{AreAskable, IsAskable, IsCallInRange, IsUnitInRange, is_forgiving, unit_ask}
use Rattle.target_calls.specs.Journal.{Entry, target_after}
use Rattle.target_calls.specs.NeedPoints.{Cost, asks_with_call}
use Rattle.target_calls.specs.World.{small_now, start_world}
use Rattle.target_calls.specs.declared.calls.Ask.{Ask}
use Rattle.target_calls.specs.declared.journal.Part.TheVariants.{Settles}
use Rattle.access_regs.specs.Costs.{call_cost, cost_by, leading_reads}
use Rattle.access_regs.specs.Entries.{kept_by, target_by}
use Rattle.access_regs.specs.Journal.{Issue, after_settling, alone_at, before, by_cfg, gives, issue, issue_of, issued_entries, making, numbered_entries, issue_of_plan, port_of, steps_of}
use Rattle.access_regs.specs.Kept.{Kept, known_at, unknown}
use Rattle.access_regs.specs.Plan.{cfg_plan, must_follow_settling, needs_cfg, needs_settle, settle, kept_after_settling, settled_at, settling}
use Rattle.access_regs.specs.declared.known.Known.{Known}
use Rattle.access_regs.specs.declared.known.Unsettled.{Unsettled}
use Rattle.access_regs.proofs.CostLemmas.{planned_reads}
use Rattle.access_regs.proofs.EntryLemmas.{journal_grows, askable_first}
use Rattle.access_calls.specs.declared.stop.Stop.{Stop}
use Rattle.flight_laws.proofs.CfgLemmas.{small_by_cfg}
use Rattle.flight_laws.proofs.SmallLemmas.{never_small}
use Rattle.packed_access.specs.Begun.{HasBegun, HasIssued, IsIssuing, IsNoPoll, LogHasAsked, entries_for_call, steps_left, strict_entries, target_issued}
use Rattle.packed_access.specs.Logs.{LogState, asks_of, log_with_call, with_needs}
use Rattle.packed_access.specs.Planned.{HasShown, reads_before, settle_before, settled_before, target_before}
use Rattle.packed_access.proofs.AskLemmas.{begun_asked}
use Rattle.packed_access.proofs.BegunLemmas.{fact_of, open_facts}
use Rattle.packed_access.proofs.CfgLemmas.{cancel_back, target_moves}
use Rattle.packed_access.proofs.ReadLemmas.{seam_of}
use Rattle.packed_access.proofs.TryBeginLemmas.{askable_last}
use Rattle.access_regs.specs.declared.planner.Planner.{Planner}
use Rattle.access_regs.specs.declared.planner.Planner.TheVariants.{Managed, Plain}
use Rattle.access_regs.specs.Journal.{is_alone}
use Rattle.target_machine.specs.Lines.{grown_counter}

-- ---- a call is asked

pub begins_asked : (p : Planner) (bench : BenchReported) (state : Option BenchState) (log new : LogState) (sent got : List ℕ) (kept : Kept) (accesses : List RegAccess) (ask : Ask) (m0 : BenchState) → HasBegun p bench state log sent got kept accesses m0 → log.end ≡ None → IsAskable ask → ask.settled ≡ false →
    length log.results ≡ length log.calls → length log.places ≡ length log.calls → new ≡ log_with_call log ask new.room → LogHasAsked p state new accesses kept log.calls ask m0
begins_asked p bench state log new sent got kept accesses ask m0 h none ok unmarked long places is = record {
  are = ap (λ (l : LogState). l.calls) is;
  unmarked = unmarked;
  kept_is = open_facts p bench state log sent got kept accesses m0 h none;
  issued = begun_asked p bench state log new sent got kept accesses ask m0 h none ok unmarked long places is;
}

-- ---- what is known where a call was asked

-- the calls may be asked, from a fresh target
pub record AreSound (t : TargetState) (calls : List Ask) (ask : Ask) : Type 0 where
  pub fresh : IsFresh t
  pub askable : AreAskable calls
  pub last : IsAskable ask

pub asked_sound : (p : Planner) (x : Option BenchState) (log : LogState) (accesses : List RegAccess) (k : Kept) (calls : List Ask) (ask : Ask) (m0 : BenchState) → LogHasAsked p x log accesses k calls ask m0 → AreSound (target_of m0.probe) calls ask
asked_sound p x log accesses k calls ask m0 h =
    fact_of x (λ m. IsIssuing p log accesses (entries_for_call p (target_of m0.probe) calls k ask) m0 m) (AreSound (target_of m0.probe) calls ask)
    (λ m i. (let all : AreAskable (calls ++ ask ∷ []) = subst AreAskable h.are i.sending.askable in record { fresh = i.sending.fresh; askable = askable_first calls (ask ∷ []) all; last = askable_last calls ask all })) h.issued.so

-- the target that the call finds
pub asked_target : (p : Planner) (x : Option BenchState) (log : LogState) (accesses : List RegAccess) (k : Kept) (calls : List Ask) (ask : Ask) (m0 : BenchState) → LogHasAsked p x log accesses k calls ask m0 → target_issued p log m0 ≡ target_by p (target_of m0.probe) calls
asked_target p x log accesses k calls ask m0 h =
    let grown : issued_entries p (target_of m0.probe) log.calls ≡ issued_entries p (target_of m0.probe) calls ++ entries_for_call p (target_of m0.probe) calls k ask =
    ap (issued_entries p (target_of m0.probe)) h.are ∙ (journal_grows p (target_of m0.probe) calls ask h.unmarked).0
    ∙ ap (λ (q : Kept). issued_entries p (target_of m0.probe) calls ++ entries_for_call p (target_of m0.probe) calls q ask) h.kept_is in
    ap (target_after (target_of m0.probe))
    (cancel_back (take (length log.entries) (issued_entries p (target_of m0.probe) log.calls)) (issued_entries p (target_of m0.probe) calls) (entries_for_call p (target_of m0.probe) calls k ask)
    (sym (seam_of p x log accesses (entries_for_call p (target_of m0.probe) calls k ask) m0 h.issued.so).0 ∙ grown))

-- what a call that forgives nothing issues
pub planned_issue : (p : Planner) (t : TargetState) (k : Kept) (ask : Ask) (asked : AccessUnit) → ask.call ≡ Access asked → is_forgiving ask ≡ false → (is_alone p false && may_forgive (Access asked)) ≡ false → issue_of p t k ask ≡ issue_of_plan t k asked
planned_issue p t k ask asked is mild apart =
    ap (λ (c : Call). issue p t k ask.forgive c) is
    ∙ ap (λ (b : Bool). cond b (after_settling t k (alone_at ask.forgive asked)) (issue_of_plan t k asked)) (by_planner p (ap (λ (c : Call). ask.forgive && may_forgive c) (sym is) ∙ mild) apart)
  where
    by_planner : (q : Planner) → (ask.forgive && may_forgive (Access asked)) ≡ false → (is_alone q false && may_forgive (Access asked)) ≡ false → (is_alone q ask.forgive && may_forgive (Access asked)) ≡ false
    by_planner Managed forgiving alone = forgiving
    by_planner Plain forgiving alone = alone

-- which units are made alone

-- what is left then
pub planned_left : (p : Planner) (x : Option BenchState) (log : LogState) (accesses : List RegAccess) (k : Kept) (calls : List Ask) (ask : Ask) (asked : AccessUnit) (m0 : BenchState) → ask.call ≡ Access asked → is_forgiving ask ≡ false → (is_alone p false && may_forgive (Access asked)) ≡ false → LogHasAsked p x log accesses k calls ask m0 →
    HasIssued p x log accesses (steps_left log (issue_of_plan (target_issued p log m0) k asked).steps) m0
planned_left p x log accesses k calls ask asked m0 is mild apart h =
    let count : length calls ≡ length log.calls - 1 = (let l = ap length h.are ∙ length-append calls (ask ∷ []) in omega (arith, l)) in
    let same : issue_of p (target_by p (target_of m0.probe) calls) k ask ≡ issue_of_plan (target_issued p log m0) k asked =
    planned_issue p (target_by p (target_of m0.probe) calls) k ask asked is mild apart ∙ ap (λ (t : TargetState). issue_of_plan t k asked) (sym (asked_target p x log accesses k calls ask m0 h)) in
    subst (λ (l : List Entry). HasIssued p x log accesses l m0) (λ j. numbered_entries (count j) (mild j) (same j).steps) h.issued

-- ---- the settling

pub settles_numbered : (units : ℕ) (xs : List RegAccess) → numbered_entries units false (steps_of Settles xs) ≡ strict_entries units Settles xs
settles_numbered units [] = refl
settles_numbered units (x ∷ xs) = ap (λ l. record { unit = units; part = Settles; forgiving = false; action = Makes x } ∷ l) (settles_numbered units xs)

-- Nothing has to be settled any more: what is left by the registers and the calls as they are now.
pub record IsReady (p : Planner) (y : Option BenchState) (old mid : LogState) (accesses : List RegAccess) (k k' : Kept) (asked : AccessUnit) (m0 : BenchState) : Type 0 where
  pub left : HasIssued p y mid accesses (steps_left mid (by_cfg (target_issued p mid m0) k' asked).steps) m0
  pub kept : (by_cfg (target_issued p mid m0) k' asked).kept ≡ (issue_of_plan (target_issued p old m0) k asked).kept
  pub target : target_issued p mid m0 ≡ target_before (target_issued p old m0) k asked
  pub known : k' ≡ settled_before k asked

plain_is : (t : TargetState) (k : Kept) (asked : AccessUnit) → needs_settle k asked ≡ false → issue_of_plan t k asked ≡ by_cfg t k asked
plain_is t k asked needs = ap (λ (b : Bool). cond b (after_settling t k (λ u l. by_cfg u l asked)) (by_cfg t k asked)) needs

pub plain_ready : (p : Planner) (x : Option BenchState) (log : LogState) (accesses : List RegAccess) (k : Kept) (asked : AccessUnit) (m0 : BenchState) → needs_settle k asked ≡ false → HasIssued p x log accesses (steps_left log (issue_of_plan (target_issued p log m0) k asked).steps) m0 →
    IsReady p x log log accesses k k asked m0
plain_ready p x log accesses k asked m0 needs h =
    let is = plain_is (target_issued p log m0) k asked needs in
    record {
      left = subst (λ (i : Issue). HasIssued p x log accesses (steps_left log i.steps) m0) is h;
      kept = ap (λ (i : Issue). i.kept) (sym is);
      target = ap (λ (b : Bool). after (target_issued p log m0) (making (cond b (settle k) []))) (sym needs);
      known = ap (λ (b : Bool). cond b (kept_after_settling k) k) (sym needs);
    }

settle_is : (t : TargetState) (k : Kept) (asked : AccessUnit) → needs_settle k asked ≡ true → issue_of_plan t k asked ≡ before (steps_of Settles (settle k)) (by_cfg (after t (making (settle k))) (kept_after_settling k) asked)
settle_is t k asked needs = ap (λ (b : Bool). cond b (after_settling t k (λ u l. by_cfg u l asked)) (by_cfg t k asked)) needs

pub settle_left : (p : Planner) (x : Option BenchState) (log : LogState) (accesses : List RegAccess) (t : TargetState) (k : Kept) (asked : AccessUnit) (units : ℕ) (m0 : BenchState) → units ≡ length log.calls - 1 → needs_settle k asked ≡ true → HasIssued p x log accesses (steps_left log (issue_of_plan t k asked).steps) m0 →
    HasIssued p x log accesses (strict_entries units Settles (settle k) ++ steps_left log (by_cfg (after t (making (settle k))) (kept_after_settling k) asked).steps) m0
settle_left p x log accesses t k asked units m0 same needs h =
    let is : steps_left log (issue_of_plan t k asked).steps ≡ strict_entries units Settles (settle k) ++ steps_left log (by_cfg (after t (making (settle k))) (kept_after_settling k) asked).steps =
    ap (λ (i : Issue). steps_left log i.steps) (settle_is t k asked needs)
    ∙ map-append _ (steps_of Settles (settle k)) (by_cfg (after t (making (settle k))) (kept_after_settling k) asked).steps
    ∙ ap (λ (l : List Entry). l ++ steps_left log (by_cfg (after t (making (settle k))) (kept_after_settling k) asked).steps) (settles_numbered (length log.calls - 1) (settle k))
    ∙ ap (λ (n : ℕ). strict_entries n Settles (settle k) ++ steps_left log (by_cfg (after t (making (settle k))) (kept_after_settling k) asked).steps) (sym same) in
    subst (λ (l : List Entry). HasIssued p x log accesses l m0) is h

pub settled_ready : (p : Planner) (x y : Option BenchState) (old mid : LogState) (accesses accesses' : List RegAccess) (k k' : Kept) (asked : AccessUnit) (units : ℕ) (m0 : BenchState) → needs_settle k asked ≡ true →
    HasIssued p x old accesses (strict_entries units Settles (settle k) ++ steps_left old (by_cfg (after (target_issued p old m0) (making (settle k))) (kept_after_settling k) asked).steps) m0 →
    HasIssued p y mid accesses' (steps_left old (by_cfg (after (target_issued p old m0) (making (settle k))) (kept_after_settling k) asked).steps) m0 → mid.calls ≡ old.calls → k' ≡ kept_after_settling k → IsReady p y old mid accesses' k k' asked m0
settled_ready p x y old mid accesses accesses' k k' asked units m0 needs first there calls kept =
    let at = target_moves p x y old mid accesses accesses' units Settles (settle k) (steps_left old (by_cfg (after (target_issued p old m0) (making (settle k))) (kept_after_settling k) asked).steps) m0 first there calls in
    let is : by_cfg (target_issued p mid m0) k' asked ≡ by_cfg (after (target_issued p old m0) (making (settle k))) (kept_after_settling k) asked = (λ j. by_cfg (at j) (kept j) asked) in
    record {
      left = subst (λ (l : List Entry). HasIssued p y mid accesses' l m0) (λ j. numbered_entries (length (sym calls j) - 1) false (sym is j).steps) there;
      kept = ap (λ (i : Issue). i.kept) (is ∙ sym (ap (λ (b : Bool). cond b (by_cfg (after (target_issued p old m0) (making (settle k))) (kept_after_settling k) asked) (by_cfg (target_issued p old m0) k asked)) needs))
          ∙ planned_kept (needs_settle k asked);
      target = at ∙ ap (λ (b : Bool). after (target_issued p old m0) (making (cond b (settle k) []))) (sym needs);
      known = kept ∙ ap (λ (b : Bool). cond b (kept_after_settling k) k) (sym needs);
    }
  where
    planned_kept : (b : Bool) → (cond b (by_cfg (after (target_issued p old m0) (making (settle k))) (kept_after_settling k) asked) (by_cfg (target_issued p old m0) k asked)).kept ≡ (cond b (after_settling (target_issued p old m0) k (λ u l. by_cfg u l asked)) (by_cfg (target_issued p old m0) k asked)).kept
    planned_kept true = refl
    planned_kept false = refl

-- before the first call nothing is unsettled
pub first_calm : (p : Planner) (x : Option BenchState) (log : LogState) (accesses : List RegAccess) (k : Kept) (calls : List Ask) (ask : Ask) (asked : AccessUnit) (m0 : BenchState) → LogHasAsked p x log accesses k calls ask m0 → length log.calls - 1 ≡ 0 → needs_settle k asked ≡ false
first_calm p x log accesses k calls ask asked m0 h none = by_calls calls h.kept_is (let l = ap length h.are ∙ length-append calls (ask ∷ []) in omega (arith, l, none))
  where
    by_calls : (xs : List Ask) → kept_by p (target_of m0.probe) xs ≡ k → length xs ≡ 0 → needs_settle k asked ≡ false
    by_calls [] is zero_is = ap (λ (q : Kept). needs_settle q asked) (sym is)
    by_calls (y ∷ xs) is zero_is = absurd (omega (arith, zero_is))

-- ---- what CFG shows

large_set : (xs : List Known) (i j : ℕ) (v : Known) → v.large ≡ (slice_index_or xs i unknown).large → (slice_index_or (slice_set xs i v) j unknown).large ≡ (slice_index_or xs j unknown).large
large_set [] i j v e = refl
large_set (x ∷ xs) zero zero v e = e
large_set (x ∷ xs) zero (suc j) v e = refl
large_set (x ∷ xs) (suc i) zero v e = refl
large_set (x ∷ xs) (suc i) (suc j) v e = large_set xs i j v e

large_settled : (k : Kept) (s : Option Unsettled) (n : ℕ) → (known_at (settled_at k s) n).large ≡ (known_at k n).large
large_settled k None n = refl
large_settled k (Some s) n = large_set k.ports s.ap n _ refl

large_before : (k : Kept) (b : Bool) (n : ℕ) → (known_at (cond b (kept_after_settling k) k) n).large ≡ (known_at k n).large
large_before k true n = large_settled k k.unsettled n
large_before k false n = refl

same_needs : (k : Kept) (asked : AccessUnit) → needs_cfg (settled_before k asked) asked ≡ needs_cfg k asked
same_needs k (unit.Memory size read n address value) = ap (λ (b : Bool). nat_lt 0xFFFF_FFFF address && not b) (large_before k (needs_settle k (unit.Memory size read n address value)) n)
same_needs k (unit.Ap read n addr value) = refl
same_needs k (unit.Dp read addr value) = refl
same_needs k (unit.Poll mask value turns) = refl

-- where CFG is read, the unsettled port is settled before that
none_unsettled : (s : Option Unsettled) (b : Bool) → b ≡ true → (is_some s && b) ≡ false → s ≡ None
none_unsettled None b e h = refl
none_unsettled (Some s) true e h = absurd (cc)
none_unsettled (Some s) false e h = absurd (cc)

-- the settling is the whole one
record IsAll (k : Kept) (asked : AccessUnit) : Type 0 where
  pub accesses : settle_before k asked ≡ settle k
  pub kept : settled_before k asked ≡ kept_after_settling k

all_settled : (k : Kept) (size : ℕ) (read : Bool) (n address value : ℕ) → needs_cfg k (unit.Memory size read n address value) ≡ true → IsAll k (unit.Memory size read n address value)
all_settled k size read n address value needs = by_needs (needs_settle k asked) refl
  where
    asked : AccessUnit
    asked = unit.Memory size read n address value

    by_needs : (b : Bool) → needs_settle k (unit.Memory size read n address value) ≡ b → IsAll k (unit.Memory size read n address value)
    by_needs true e = record { accesses = ap (λ (b : Bool). cond b (settle k) []) e; kept = ap (λ (b : Bool). cond b (kept_after_settling k) k) e }
    by_needs false e =
        let calm : k.unsettled ≡ None = none_unsettled k.unsettled (must_follow_settling k (unit.Memory size read n address value)) (or_left (needs_cfg k (unit.Memory size read n address value)) _ needs) e in
        record {
          accesses = ap (λ (b : Bool). cond b (settle k) []) e ∙ ap (settling k) (sym calm);
          kept = ap (λ (b : Bool). cond b (kept_after_settling k) k) e ∙ ap (settled_at k) (sym calm);
        }

small_read : (p : Planner) (t : TargetState) (calls : List Ask) (asked : AccessUnit) (forgive small : Bool) → IsFresh t → AreAskable calls → IsUnitInRange asked →
    HasShown t calls (target_before (target_by p t calls) (kept_by p t calls) asked) (settled_before (kept_by p t calls) asked) asked small →
    needs_cfg (settled_before (kept_by p t calls) asked) asked ≡ true → small ≡ small_now (start_world t None) calls (unit_ask asked forgive)
small_read p t calls (unit.Memory size read n address value) forgive small fresh ok range h e =
    let asked : AccessUnit = unit.Memory size read n address value in
    let k : Kept = kept_by p t calls in
    let all = all_settled (kept_by p t calls) size read n address value (sym (same_needs (kept_by p t calls) (unit.Memory size read n address value)) ∙ e) in
    let kept : settled_before (kept_by p t calls) (unit.Memory size read n address value) ≡ kept_after_settling (kept_by p t calls) = all.kept in
    let target : target_before (target_by p t calls) (kept_by p t calls) (unit.Memory size read n address value) ≡ after (target_by p t calls) (making (settle (kept_by p t calls))) =
    ap (λ (xs : List RegAccess). after (target_by p t calls) (making xs)) all.accesses in
    let there : HasShown t calls (after (target_by p t calls) (making (settle (kept_by p t calls)))) (kept_after_settling (kept_by p t calls)) (unit.Memory size read n address value) small =
    subst (λ (u : TargetState). HasShown t calls u (kept_after_settling (kept_by p t calls)) (unit.Memory size read n address value) small) target
    (subst (λ (q : Kept). HasShown t calls (target_before (target_by p t calls) (kept_by p t calls) (unit.Memory size read n address value)) q (unit.Memory size read n address value) small) kept h) in
    let needs : needs_cfg (kept_after_settling (kept_by p t calls)) (unit.Memory size read n address value) ≡ true = ap (λ (q : Kept). needs_cfg q (unit.Memory size read n address value)) (sym kept) ∙ e in
    there.shown
    ∙ ap (λ (b : Bool). b && not (has_bit (gives (after (target_by p t calls) (making (settle (kept_by p t calls)))) (cfg_plan (kept_after_settling (kept_by p t calls)) n)) 2)) needs
    ∙ sym (small_by_cfg p t calls None size read n address value forgive fresh ok (there.whole needs) range.0 needs (there.good needs))
small_read p t calls (unit.Ap read n addr value) forgive small fresh ok range h e = absurd (cc)
small_read p t calls (unit.Dp read addr value) forgive small fresh ok range h e = absurd (cc)
small_read p t calls (unit.Poll mask value turns) forgive small fresh ok range h e = absurd (cc)

-- What is answered is whether the unit ends because its AP has no large addresses.
small_shown : (p : Planner) (t : TargetState) (calls : List Ask) (asked : AccessUnit) (forgive small : Bool) → IsFresh t → AreAskable calls → IsUnitInRange asked →
    HasShown t calls (target_before (target_by p t calls) (kept_by p t calls) asked) (settled_before (kept_by p t calls) asked) asked small → small ≡ small_now (start_world t None) calls (unit_ask asked forgive)
small_shown p t calls asked forgive small fresh ok range h = by_needs (needs_cfg (settled_before (kept_by p t calls) asked) asked) refl
  where
    k : Kept
    k = kept_by p t calls

    never : needs_cfg (settled_before (kept_by p t calls) asked) asked ≡ false → small ≡ small_now (start_world t None) calls (unit_ask asked forgive)
    never e =
        h.shown ∙ ap (λ (b : Bool). b && not (has_bit (gives (target_before (target_by p t calls) (kept_by p t calls) asked) (cfg_plan (settled_before (kept_by p t calls) asked) (port_of asked))) 2)) e
        ∙ sym (never_small p t calls None asked forgive fresh ok range (sym (same_needs (kept_by p t calls) asked) ∙ e))

    by_needs : (b : Bool) → needs_cfg (settled_before (kept_by p t calls) asked) asked ≡ b → small ≡ small_now (start_world t None) calls (unit_ask asked forgive)
    by_needs false e = never e
    by_needs true e = small_read p t calls asked forgive small fresh ok range h e

pub small_is : (p : Planner) (x y : Option BenchState) (log mid : LogState) (accesses accesses' : List RegAccess) (k k' : Kept) (calls : List Ask) (ask : Ask) (asked : AccessUnit) (small : Bool) (m0 : BenchState) → ask.call ≡ Access asked → LogHasAsked p x log accesses k calls ask m0 →
    IsReady p y log mid accesses' k k' asked m0 → HasShown (target_of m0.probe) calls (target_issued p mid m0) k' asked small → small ≡ small_now (start_world (target_of m0.probe) None) calls ask
small_is p x y log mid accesses accesses' k k' calls ask asked small m0 is h r shown =
    let t0 : TargetState = target_of m0.probe in
    let s = asked_sound p x log accesses k calls ask m0 h in
    let known_is : k' ≡ settled_before (kept_by p (target_of m0.probe) calls) asked = r.known ∙ ap (λ (q : Kept). settled_before q asked) (sym h.kept_is) in
    let target : target_issued p mid m0 ≡ target_before (target_by p (target_of m0.probe) calls) (kept_by p (target_of m0.probe) calls) asked =
    r.target ∙ (λ j. target_before (asked_target p x log accesses k calls ask m0 h j) (sym h.kept_is j) asked) in
    let there : HasShown (target_of m0.probe) calls (target_before (target_by p (target_of m0.probe) calls) (kept_by p (target_of m0.probe) calls) asked) (settled_before (kept_by p (target_of m0.probe) calls) asked) asked small =
    subst (λ (u : TargetState). HasShown (target_of m0.probe) calls u (settled_before (kept_by p (target_of m0.probe) calls) asked) asked small) target
    (subst (λ (q : Kept). HasShown (target_of m0.probe) calls (target_issued p mid m0) q asked small) known_is shown) in
    let range : IsUnitInRange asked = subst IsCallInRange is s.last.range in
    small_shown p (target_of m0.probe) calls asked ask.forgive small s.fresh s.askable range there
    ∙ ap (small_now (start_world (target_of m0.probe) None) calls) (λ j. record { call = sym is j; forgive = ask.forgive; settled = sym h.unmarked j })

-- ---- need points

asked_by : (log : LogState) (calls : List Ask) (ask : Ask) (n : ℕ) → log.calls ≡ calls ++ ask ∷ [] → asks_of (with_needs log n (length log.calls - 1)) ≡ asks_with_call (record { before = n; after = 0 }) ask (record { calls = calls; needs = log.needs; fence = log.fence })
asked_by log calls ask zero are = ap (λ (l : List Ask). record { calls = l; needs = log.needs; fence = log.fence }) are
asked_by log calls ask (suc n) are =
    let count : length log.calls - 1 ≡ length calls = (let l = ap length are ∙ length-append calls (ask ∷ []) in omega (arith, l)) in
    (λ j. record { calls = are j; needs = grown_counter log.needs (suc n); fence = count j })

no_more : (k : Kept) (t : TargetState) (asked : AccessUnit) → IsNoPoll asked → call_cost k t (Access asked) ≡ 0
no_more k t (unit.Memory size read n address value) h = refl
no_more k t (unit.Ap read n addr value) h = refl
no_more k t (unit.Dp read addr value) h = refl
no_more k t (unit.Poll mask value turns) h = absurd h

needs_like : (old mid : LogState) (n : ℕ) → asks_of mid ≡ asks_of old → asks_of (with_needs mid n (length mid.calls - 1)) ≡ asks_of (with_needs old n (length old.calls - 1))
needs_like old mid zero same = same
needs_like old mid (suc n) same = ap (λ a. record { calls = a.calls; needs = grown_counter a.needs (suc n); fence = length a.calls - 1 }) same

-- its cost: so many reads of CFG and CSW before it counts as asked, where the access counts need points
planned_cost_is : (p : Planner) (t : TargetState) (calls : List Ask) (ask : Ask) (asked' : AccessUnit) → ask.call ≡ Access asked' → is_forgiving ask ≡ false → IsNoPoll asked' → (is_alone p false && may_forgive (Access asked')) ≡ false →
    cost_by p t calls ask ≡ record { before = leading_reads (issue_of p (target_by p t calls) (kept_by p t calls) ask).steps; after = 0 }
planned_cost_is Managed t calls ask asked' is mild no_poll apart =
    ap (λ (b : Bool). record { before = leading_reads (issue_of Managed (target_by Managed t calls) (kept_by Managed t calls) ask).steps; after = cond b 5 (call_cost (kept_by Managed t calls) (target_by Managed t calls) ask.call) }) mild
    ∙ ap (λ (n : ℕ). record { before = leading_reads (issue_of Managed (target_by Managed t calls) (kept_by Managed t calls) ask).steps; after = n })
    (ap (call_cost (kept_by Managed t calls) (target_by Managed t calls)) is ∙ no_more (kept_by Managed t calls) (target_by Managed t calls) asked' no_poll)
planned_cost_is Plain t calls ask asked' is mild no_poll apart =
    ap (λ (n : ℕ). record { before = n; after = 0 })
    (sym (ap (λ (i : Issue). leading_reads i.steps) (planned_issue Plain (target_by Plain t calls) (kept_by Plain t calls) ask asked' is mild apart)
    ∙ planned_reads (target_by Plain t calls) (kept_by Plain t calls) asked' ∙ none_read asked' apart no_poll))
  where
    none_read : (unit_ : AccessUnit) → may_forgive (Access unit_) ≡ false → IsNoPoll unit_ → reads_before (target_before (target_by Plain t calls) (kept_by Plain t calls) unit_) (settled_before (kept_by Plain t calls) unit_) unit_ ≡ 0
    none_read (unit.Memory size read n address value) may h = absurd (let x : ◌≡◌ {A = Bool} true false = may in cc)
    none_read (unit.Ap read n addr value) may h = absurd (let x : ◌≡◌ {A = Bool} true false = may in cc)
    none_read (unit.Dp read addr value) may h = refl
    none_read (unit.Poll mask value turns) may h = absurd h

pub needs_is : (p : Planner) (x y : Option BenchState) (log mid new : LogState) (accesses accesses' : List RegAccess) (k k' : Kept) (calls : List Ask) (ask : Ask) (asked' : AccessUnit) (m0 : BenchState) → ask.call ≡ Access asked' → is_forgiving ask ≡ false → IsNoPoll asked' →
    (is_alone p false && may_forgive (Access asked')) ≡ false → LogHasAsked p x log accesses k calls ask m0 →
    IsReady p y log mid accesses' k k' asked' m0 → asks_of mid ≡ asks_of log → asks_of new ≡ asks_of (with_needs mid (reads_before (target_issued p mid m0) k' asked') (length mid.calls - 1)) →
    asks_of new ≡ asks_with_call (cost_by p (target_of m0.probe) calls ask) ask (record { calls = calls; needs = log.needs; fence = log.fence })
needs_is p x y log mid new accesses accesses' k k' calls ask asked' m0 is mild no_poll apart h r same here =
    let at : target_issued p log m0 ≡ target_by p (target_of m0.probe) calls = asked_target p x log accesses k calls ask m0 h in
    let reads : reads_before (target_issued p mid m0) k' asked' ≡ leading_reads (issue_of p (target_by p (target_of m0.probe) calls) (kept_by p (target_of m0.probe) calls) ask).steps =
    (λ j. reads_before (r.target j) (r.known j) asked')
    ∙ sym (planned_reads (target_issued p log m0) k asked')
    ∙ ap (λ (i : Issue). leading_reads i.steps)
    ((λ j. issue_of_plan (at j) (sym h.kept_is j) asked') ∙ sym (planned_issue p (target_by p (target_of m0.probe) calls) (kept_by p (target_of m0.probe) calls) ask asked' is mild apart)) in
    here
    ∙ needs_like log mid (reads_before (target_issued p mid m0) k' asked') same
    ∙ ap (λ (n : ℕ). asks_of (with_needs log n (length log.calls - 1))) reads
    ∙ asked_by log calls ask _ h.are
    ∙ ap (λ (c : Cost). asks_with_call c ask (record { calls = calls; needs = log.needs; fence = log.fence })) (sym (planned_cost_is p (target_of m0.probe) calls ask asked' is mild no_poll apart))

-- ---- what is known after it

pub kept_is : (p : Planner) (x y : Option BenchState) (log mid : LogState) (accesses accesses' : List RegAccess) (k k' k'' : Kept) (calls : List Ask) (ask : Ask) (asked : AccessUnit) (m0 : BenchState) → ask.call ≡ Access asked → is_forgiving ask ≡ false → (is_alone p false && may_forgive (Access asked)) ≡ false → LogHasAsked p x log accesses k calls ask m0 →
    IsReady p y log mid accesses' k k' asked m0 → k'' ≡ (by_cfg (target_issued p mid m0) k' asked).kept → k'' ≡ (issue_of p (target_by p (target_of m0.probe) calls) k ask).kept
kept_is p x y log mid accesses accesses' k k' k'' calls ask asked m0 is mild apart h r here =
    here ∙ r.kept ∙ ap (λ (i : Issue). i.kept) (ap (λ (t : TargetState). issue_of_plan t k asked) (asked_target p x log accesses k calls ask m0 h) ∙ sym (planned_issue p (target_by p (target_of m0.probe) calls) k ask asked is mild apart))

-- ---- clauses of a call's result

pub ok_then : {T : Type 0} (A B : Type 0) (r : Result T Stop) → (A → B) → OnOk r A → OnOk r B
ok_then A B (Ok v) f h = f h
ok_then A B (Err s) f h = h

pub at_ok_then : {T : Type 0} (P Q : T → Type 0) (r : Result T Stop) → ((v : T) → P v → Q v) → IfOk r P → IfOk r Q
at_ok_then P Q (Ok v) f h = f v h
at_ok_then P Q (Err s) f h = h
