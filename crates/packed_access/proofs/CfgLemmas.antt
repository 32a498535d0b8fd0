-- A unit that forgives nothing: its settling, the read of CFG, and what follows it.
use Rattle.std.proofs.Common.{◌≡◌, ◌∙◌, ℕ, ◌+◌, ◌-◌, Bool, true, false, cond, not, ◌&&◌, List, [], ◌∷◌, ◌++◌, length, take, Option, Some, None, refl, sym, ap, subst, arith, append_assoc, length-append}
use Rattle.std.proofs.Math.Seq.{take-append_seam}
use Rattle.std.proofs.lemmas.List.{map-append}
use Rattle.dap_base.specs.Bits.{has_bit}
use Rattle.target_machine.specs.Attempt.{Attempt, done_attempt}
use Rattle.target_machine.specs.Lists.{PassTo, after}
use Rattle.target_machine.specs.Plain.{Action, Makes, action_attempt, in_order, is_fault}
use Rattle.target_machine.specs.State.{TargetState}
use Rattle.target_machine.specs.declared.access.RegAccess.{RegAccess}
use Rattle.target_machine.specs.declared.unit.Unit.{Unit as AccessUnit}
use Rattle.target_machine.proofs.ActionLists.{order_from}
use Rattle.probe_core.specs.Bench.{BenchState}
use Rattle.probe_core.specs.Probe.{target_of}
use Rattle.target_machine.specs.Counts.{one_if}
use Rattle.target_calls.specs.Journal.{Entry, Passes, target_after}
use Rattle.target_calls.specs.World.{start_world, stop}
use Rattle.target_calls.specs.declared.calls.Ask.{Ask}
use Rattle.target_calls.specs.declared.journal.Part.{Part}
use Rattle.target_calls.specs.declared.journal.Part.TheVariants.{Leads}
use Rattle.target_calls.proofs.EntryLemmas.{pass_rest}
use Rattle.access_regs.specs.Journal.{Issue, before, by_cfg, by_cfg_read, by_csw, gives, issued_entries, making, numbered_entries, port_of, steps_of}
use Rattle.access_regs.specs.Kept.{Kept}
use Rattle.access_regs.specs.Plan.{cfg_plan, learned_cfg, needs_cfg, needs_csw}
use Rattle.access_regs.proofs.Seams.{after_split}
use Rattle.access_calls.specs.Standing.{WhereObservable}
use Rattle.packed_access.specs.Begun.{HasIssued, IsIssuing, steps_left, strict_entries, target_issued}
use Rattle.packed_access.specs.Logs.{LogState, asks_of, with_needs}
use Rattle.packed_access.specs.Planned.{HasShown, reads_before}
use Rattle.packed_access.proofs.ActionLemmas.{at_rest_count}
use Rattle.packed_access.proofs.CameLemmas.{HaveCome, have_come_own}
use Rattle.packed_access.proofs.PlannedLemmas.{leads_numbered}
use Rattle.packed_access.proofs.ReadLemmas.{actions_of_entries, clear_of, seam_of}
use Rattle.access_regs.specs.declared.planner.Planner.{Planner}

-- ---- what was issued from one moment to another

pub cancel_back : {A : Type 0} → (xs ys zs : List A) → xs ++ zs ≡ ys ++ zs → xs ≡ ys
cancel_back xs ys zs same =
    let l = ap length same in
    let a = length-append xs zs in
    let b = length-append ys zs in
    let n : length xs ≡ length ys = omega (arith, l, a, b) in
    sym (take-append_seam xs zs) ∙ (λ j. take (n j) (same j)) ∙ take-append_seam ys zs

issued_between : (p : Planner) (x y : Option BenchState) (old new : LogState) (accesses accesses' : List RegAccess) (own rest : List Entry) (m0 : BenchState) → HasIssued p x old accesses (own ++ rest) m0 → HasIssued p y new accesses' rest m0 → new.calls ≡ old.calls →
    take (length new.entries) (issued_entries p (target_of m0.probe) new.calls) ≡ take (length old.entries) (issued_entries p (target_of m0.probe) old.calls) ++ own
issued_between p x y old new accesses accesses' own rest m0 h k calls =
    let a = (seam_of p x old accesses (own ++ rest) m0 h.so).0 in
    let b = (seam_of p y new accesses' rest m0 k.so).0 in
    cancel_back (take (length new.entries) (issued_entries p (target_of m0.probe) new.calls)) (take (length old.entries) (issued_entries p (target_of m0.probe) old.calls) ++ own) rest
    (sym b ∙ ap (issued_entries p (target_of m0.probe)) calls ∙ a ∙ sym (append_assoc (take (length old.entries) (issued_entries p (target_of m0.probe) old.calls)) own rest))

-- the target moves by the accesses that were issued
pub target_moves : (p : Planner) (x y : Option BenchState) (old new : LogState) (accesses accesses' : List RegAccess) (unit : ℕ) (part : Part) (xs : List RegAccess) (rest : List Entry) (m0 : BenchState) →
    HasIssued p x old accesses (strict_entries unit part xs ++ rest) m0 → HasIssued p y new accesses' rest m0 → new.calls ≡ old.calls → target_issued p new m0 ≡ after (target_issued p old m0) (making xs)
target_moves p x y old new accesses accesses' unit part xs rest m0 h k calls =
    ap (target_after (target_of m0.probe)) (issued_between p x y old new accesses accesses' (strict_entries unit part xs) rest m0 h k calls)
    ∙ after_split (target_of m0.probe) (take (length old.entries) (issued_entries p (target_of m0.probe) old.calls)) (strict_entries unit part xs)
    ∙ ap (after (target_issued p old m0)) (actions_of_entries unit part xs)

-- ---- accesses that pass

pass_to : (u : TargetState) (unit : ℕ) (part : Part) (xs : List RegAccess) → Passes u (strict_entries unit part xs) → PassTo u (making xs) (after u (making xs))
pass_to u unit part [] h = refl
pass_to u unit part (a ∷ xs) h = (clear_of (is_fault (action_attempt u (Makes a)).outcome) h.0, pass_to (action_attempt u (Makes a)).next unit part xs h.1)

order_good : (m : Attempt) (v : TargetState) (xs : List Action) → is_fault m.outcome ≡ false → PassTo m.next xs v → is_fault (order_from m xs).outcome ≡ false
order_good m v [] good h = good
order_good m v (x ∷ xs) good h = ap (λ (b : Bool). is_fault (order_from (cond b m (action_attempt m.next x)) xs).outcome) good ∙ order_good (action_attempt m.next x) v xs h.0 h.1

-- what is confirmed passes, where nothing lies in the flight
rest_passes : (p : Planner) (y : Option BenchState) (log : LogState) (rest : List Entry) (m0 : BenchState) → WhereObservable y (λ m. IsIssuing p log [] rest m0 m) →
    Passes (target_of m0.probe) (take (length log.entries) (issued_entries p (target_of m0.probe) log.calls))
rest_passes p None log rest m0 h = absurd h
rest_passes p (Some m) log rest m0 h =
    let at : length h.sending.made ≡ length log.entries = h.sending.confirmed_is ∙ at_rest_count p log rest m0 m h in
    let first : take (length log.entries) (issued_entries p (target_of m0.probe) log.calls) ≡ h.sending.made = (λ j. take (sym at j) (h.sending.on.are j)) ∙ take-append_seam h.sending.made (h.flying ++ rest) in
    subst (Passes (target_of m0.probe)) (sym first) h.sending.on.passes

-- accesses that came do not fault
pub came_good : (p : Planner) (x y : Option BenchState) (old new : LogState) (accesses : List RegAccess) (unit : ℕ) (part : Part) (xs : List RegAccess) (rest : List Entry) (m0 : BenchState) →
    HasIssued p x old accesses (strict_entries unit part xs ++ rest) m0 → HasIssued p y new [] rest m0 → new.calls ≡ old.calls → is_fault (in_order (target_issued p old m0) (making xs)).outcome ≡ false
came_good p x y old new accesses unit part xs rest m0 h k calls =
    let first : List Entry = take (length old.entries) (issued_entries p (target_of m0.probe) old.calls) in
    let all : Passes (target_of m0.probe) (take (length old.entries) (issued_entries p (target_of m0.probe) old.calls) ++ strict_entries unit part xs) =
    subst (Passes (target_of m0.probe)) (issued_between p x y old new accesses [] (strict_entries unit part xs) rest m0 h k calls) (rest_passes p y new rest m0 k.so) in
    order_good (done_attempt (target_issued p old m0)) (after (target_issued p old m0) (making xs)) (making xs) refl
    (pass_to (target_issued p old m0) unit part xs (pass_rest (target_of m0.probe) first (strict_entries unit part xs) all))

-- and no call stops before the last one
pub whole_before : (p : Planner) (log : LogState) (rest : List Entry) (calls : List Ask) (ask : Ask) (m0 m : BenchState) → IsIssuing p log [] rest m0 m → log.calls ≡ calls ++ ask ∷ [] → log.whole + 1 ≡ length log.calls → stop (start_world (target_of m0.probe) None) calls ≡ None
whole_before p log rest calls ask m0 m h are whole =
    let here = at_rest_count p log rest m0 m h in
    let come : HaveCome p log.calls log.confirmed log.whole m0 =
    have_come_own p log.calls h.sending.made (h.flying ++ rest) log.confirmed log.whole m0 h.sending.fresh h.sending.askable h.within h.sending.on.are h.sending.on.passes h.sending.confirmed_is (let w = h.whole_issued in omega (arith, w, here)) in
    let at : log.whole ≡ length calls = (let l = ap length are ∙ length-append calls (ask ∷ []) in omega (arith, l, whole)) in
    subst (λ (l : List Ask). stop (start_world (target_of m0.probe) None) l ≡ None) ((λ j. take (at j) (are j)) ∙ take-append_seam calls (ask ∷ [])) (come.none_stops.stops None tt)

whole_where : (p : Planner) (y : Option BenchState) (log : LogState) (rest : List Entry) (calls : List Ask) (ask : Ask) (m0 : BenchState) → WhereObservable y (λ m. IsIssuing p log [] rest m0 m) → log.calls ≡ calls ++ ask ∷ [] → log.whole + 1 ≡ length log.calls → stop (start_world (target_of m0.probe) None) calls ≡ None
whole_where p None log rest calls ask m0 h are whole = absurd h
whole_where p (Some m) log rest calls ask m0 h are whole = whole_before p log rest calls ask m0 m h are whole

pub rest_whole : (p : Planner) (y : Option BenchState) (log : LogState) (rest : List Entry) (calls : List Ask) (ask : Ask) (m0 : BenchState) → HasIssued p y log [] rest m0 → log.calls ≡ calls ++ ask ∷ [] → log.whole + 1 ≡ length log.calls → stop (start_world (target_of m0.probe) None) calls ≡ None
rest_whole p y log rest calls ask m0 h are whole = whole_where p y log rest calls ask m0 h.so are whole

-- ---- the read of CFG

-- what is issued after it
abbrev pub after_cfg : TargetState → Kept → AccessUnit → Issue
after_cfg t k asked = by_cfg_read (after t (making (cfg_plan k (port_of asked)))) k asked (gives t (cfg_plan k (port_of asked)))

cfg_is : (t : TargetState) (k : Kept) (asked : AccessUnit) → needs_cfg k asked ≡ true → by_cfg t k asked ≡ before (steps_of Leads (cfg_plan k (port_of asked))) (after_cfg t k asked)
cfg_is t k asked needs = ap (λ (b : Bool). cond b (before (steps_of Leads (cfg_plan k (port_of asked))) (after_cfg t k asked)) (by_csw t k asked)) needs

pub cfg_kept : (t : TargetState) (k : Kept) (asked : AccessUnit) → needs_cfg k asked ≡ true → (by_cfg t k asked).kept ≡ (after_cfg t k asked).kept
cfg_kept t k asked needs = ap (λ (x : Issue). x.kept) (cfg_is t k asked needs)

pub cfg_left : (p : Planner) (x : Option BenchState) (log : LogState) (accesses : List RegAccess) (t : TargetState) (k : Kept) (asked : AccessUnit) (m0 : BenchState) → log.whole + 1 ≡ length log.calls → needs_cfg k asked ≡ true →
    HasIssued p x log accesses (steps_left log (by_cfg t k asked).steps) m0 →
    HasIssued p x log accesses (strict_entries (length log.calls) Leads (cfg_plan k (port_of asked)) ++ steps_left log (after_cfg t k asked).steps) m0
cfg_left p x log accesses t k asked m0 whole needs h =
    let units : ℕ = length log.calls - 1 in
    let same : (length log.calls - 1) + 1 ≡ length log.calls = omega (arith, whole) in
    let is : steps_left log (by_cfg t k asked).steps ≡ strict_entries (length log.calls) Leads (cfg_plan k (port_of asked)) ++ steps_left log (after_cfg t k asked).steps =
    ap (λ (x : Issue). steps_left log x.steps) (cfg_is t k asked needs)
    ∙ map-append _ (steps_of Leads (cfg_plan k (port_of asked))) (after_cfg t k asked).steps
    ∙ ap (λ (l : List Entry). l ++ steps_left log (after_cfg t k asked).steps) (leads_numbered (length log.calls - 1) (cfg_plan k (port_of asked)))
    ∙ ap (λ (n : ℕ). strict_entries n Leads (cfg_plan k (port_of asked)) ++ steps_left log (after_cfg t k asked).steps) same in
    subst (λ (l : List Entry). HasIssued p x log accesses l m0) is h

-- it shows no large addresses
none_is : (t : TargetState) (k : Kept) (asked : AccessUnit) → has_bit (gives t (cfg_plan k (port_of asked))) 2 ≡ false → after_cfg t k asked ≡ record { steps = []; kept = learned_cfg k (port_of asked) (gives t (cfg_plan k (port_of asked))) }
none_is t k asked bit =
    ap (λ (b : Bool). cond b (by_csw (after t (making (cfg_plan k (port_of asked)))) (learned_cfg k (port_of asked) (gives t (cfg_plan k (port_of asked)))) asked) (record { steps = []; kept = learned_cfg k (port_of asked) (gives t (cfg_plan k (port_of asked))) })) bit

pub none_left : (p : Planner) (y : Option BenchState) (log mid : LogState) (accesses : List RegAccess) (t : TargetState) (k : Kept) (asked : AccessUnit) (m0 : BenchState) → has_bit (gives t (cfg_plan k (port_of asked))) 2 ≡ false → accesses ≡ [] →
    HasIssued p y mid [] (steps_left log (after_cfg t k asked).steps) m0 → HasIssued p y mid accesses [] m0
none_left p y log mid accesses t k asked m0 bit empty h =
    subst (λ (xs : List RegAccess). HasIssued p y mid xs [] m0) (sym empty) (subst (λ (x : Issue). HasIssued p y mid [] (steps_left log x.steps) m0) (none_is t k asked bit) h)

pub none_kept : (t : TargetState) (k k' : Kept) (asked : AccessUnit) → needs_cfg k asked ≡ true → has_bit (gives t (cfg_plan k (port_of asked))) 2 ≡ false → k' ≡ learned_cfg k (port_of asked) (gives t (cfg_plan k (port_of asked))) → k' ≡ (by_cfg t k asked).kept
none_kept t k k' asked needs bit is = is ∙ sym (cfg_kept t k asked needs ∙ ap (λ (x : Issue). x.kept) (none_is t k asked bit))

-- it shows large addresses
large_is : (t u : TargetState) (k k' : Kept) (asked : AccessUnit) → has_bit (gives t (cfg_plan k (port_of asked))) 2 ≡ true → u ≡ after t (making (cfg_plan k (port_of asked))) → k' ≡ learned_cfg k (port_of asked) (gives t (cfg_plan k (port_of asked))) → by_csw u k' asked ≡ after_cfg t k asked
large_is t u k k' asked bit at is =
    (λ j. by_csw (at j) (is j) asked)
    ∙ sym (ap (λ (b : Bool). cond b (by_csw (after t (making (cfg_plan k (port_of asked)))) (learned_cfg k (port_of asked) (gives t (cfg_plan k (port_of asked)))) asked) (record { steps = []; kept = learned_cfg k (port_of asked) (gives t (cfg_plan k (port_of asked))) })) bit)

-- The read was made, and it shows large addresses: what is left by the registers and the calls as they are now.
pub record IsLarge (p : Planner) (y : Option BenchState) (old mid : LogState) (accesses : List RegAccess) (k k' : Kept) (asked : AccessUnit) (m0 : BenchState) : Type 0 where
  pub left : HasIssued p y mid accesses (steps_left mid (by_csw (target_issued p mid m0) k' asked).steps) m0
  pub kept : (by_csw (target_issued p mid m0) k' asked).kept ≡ (by_cfg (target_issued p old m0) k asked).kept

pub large_left : (p : Planner) (x y : Option BenchState) (old mid : LogState) (accesses accesses' : List RegAccess) (k k' : Kept) (asked : AccessUnit) (m0 : BenchState) → needs_cfg k asked ≡ true → has_bit (gives (target_issued p old m0) (cfg_plan k (port_of asked))) 2 ≡ true →
    HasIssued p x old accesses (strict_entries (length old.calls) Leads (cfg_plan k (port_of asked)) ++ steps_left old (after_cfg (target_issued p old m0) k asked).steps) m0 → HasIssued p y mid [] (steps_left old (after_cfg (target_issued p old m0) k asked).steps) m0 →
    mid.calls ≡ old.calls → accesses' ≡ [] → k' ≡ learned_cfg k (port_of asked) (gives (target_issued p old m0) (cfg_plan k (port_of asked))) → IsLarge p y old mid accesses' k k' asked m0
large_left p x y old mid accesses accesses' k k' asked m0 needs bit first there calls empty kept =
    let at = target_moves p x y old mid accesses [] (length old.calls) Leads (cfg_plan k (port_of asked)) (steps_left old (after_cfg (target_issued p old m0) k asked).steps) m0 first there calls in
    let is : by_csw (target_issued p mid m0) k' asked ≡ after_cfg (target_issued p old m0) k asked = large_is (target_issued p old m0) (target_issued p mid m0) k k' asked bit at kept in
    record {
      left = subst (λ (xs : List RegAccess). HasIssued p y mid xs (steps_left mid (by_csw (target_issued p mid m0) k' asked).steps) m0) (sym empty)
          (subst (λ (l : List Entry). HasIssued p y mid [] l m0) (λ j. numbered_entries (length (sym calls j) - 1) false (sym is j).steps) there);
      kept = ap (λ (x : Issue). x.kept) is ∙ sym (cfg_kept (target_issued p old m0) k asked needs);
    }

-- ---- what CFG shows

pub shown_by : (t0 : TargetState) (calls : List Ask) (t : TargetState) (k : Kept) (asked : AccessUnit) (large : Bool) → needs_cfg k asked ≡ true → large ≡ has_bit (gives t (cfg_plan k (port_of asked))) 2 →
    is_fault (in_order t (making (cfg_plan k (port_of asked)))).outcome ≡ false → stop (start_world t0 None) calls ≡ None → HasShown t0 calls t k asked (not large)
shown_by t0 calls t k asked large needs is good whole = record { shown = (λ j. sym needs j && not (is j)); good = λ _. good; whole = λ _. whole }

-- ---- need points

pub reads_small : (t : TargetState) (k : Kept) (asked : AccessUnit) → needs_cfg k asked ≡ true → has_bit (gives t (cfg_plan k (port_of asked))) 2 ≡ false → reads_before t k asked ≡ 1
reads_small t k asked needs bit =
    ap (λ (b : Bool). cond b (1 + cond (has_bit (gives t (cfg_plan k (port_of asked))) 2) (one_if (needs_csw (learned_cfg k (port_of asked) (gives t (cfg_plan k (port_of asked)))) asked)) 0) (one_if (needs_csw k asked))) needs
    ∙ ap (λ (b : Bool). 1 + cond b (one_if (needs_csw (learned_cfg k (port_of asked) (gives t (cfg_plan k (port_of asked)))) asked)) 0) bit

pub reads_large : (t : TargetState) (k k' : Kept) (asked : AccessUnit) → needs_cfg k asked ≡ true → has_bit (gives t (cfg_plan k (port_of asked))) 2 ≡ true → k' ≡ learned_cfg k (port_of asked) (gives t (cfg_plan k (port_of asked))) →
    reads_before t k asked ≡ 1 + one_if (needs_csw k' asked)
reads_large t k k' asked needs bit is =
    ap (λ (b : Bool). cond b (1 + cond (has_bit (gives t (cfg_plan k (port_of asked))) 2) (one_if (needs_csw (learned_cfg k (port_of asked) (gives t (cfg_plan k (port_of asked)))) asked)) 0) (one_if (needs_csw k asked))) needs
    ∙ ap (λ (b : Bool). 1 + cond b (one_if (needs_csw (learned_cfg k (port_of asked) (gives t (cfg_plan k (port_of asked)))) asked)) 0) bit
    ∙ ap (λ (q : Kept). 1 + one_if (needs_csw q asked)) (sym is)

-- one need point, and then another or none
pub needs_both : (b : Bool) (log mid : LogState) (n c : ℕ) → asks_of mid ≡ asks_of (with_needs log 1 c) → n ≡ c → asks_of (with_needs mid (one_if b) n) ≡ asks_of (with_needs log (1 + one_if b) c)
needs_both false log mid n c first same = first
needs_both true log mid n c first same = (λ j. record { calls = (first j).calls; needs = both j; fence = same j })
  where
    before_is : mid.needs ≡ (with_needs log 1 c).needs
    before_is = ap (λ a. a.needs) first

    both : (with_needs mid 1 n).needs ≡ (with_needs log 2 c).needs
    both = omega (arith, before_is)
