-- A unit that forgives a fault, from its call to its first access.
use Rattle.std.proofs.Common.{◌≡◌, ◌∙◌, ℕ, ◌+◌, ◌-◌, ◌<◌, Bool, true, false, cond, ◌&&◌, List, [], ◌∷◌, ◌++◌, length, take, Option, Some, None, refl, sym, ap, subst, arith, append_assoc, length-append}
use Rattle.std.proofs.Math.Seq.{take-append_seam}
use Rattle.std.proofs.lemmas.Bool.{and_from}
use Rattle.target_machine.specs.Fresh.{IsFresh}
use Rattle.target_machine.specs.Lists.{PassTo, after}
use Rattle.target_machine.specs.Plain.{Makes, after_cfg, call_actions, cfg_actions, contains, may_forgive, memory_actions, needs_cfg as wants_cfg}
use Rattle.target_machine.specs.State.{TargetState}
use Rattle.target_machine.specs.declared.access.RegAccess.{RegAccess}
use Rattle.target_machine.specs.declared.unit.Call.TheVariants.{Access}
use Rattle.target_machine.specs.declared.unit.Unit.{Unit as AccessUnit}
use Rattle.target_machine.specs.declared.unit.Unit.TheVariants as unit
use Rattle.target_machine.proofs.ActionLists.{pass_after}
use Rattle.probe_core.specs.Bench.{BenchState}
use Rattle.probe_core.specs.Probe.{target_of}
use Rattle.target_calls.specs.Asks.{AreAskable, IsAskable, is_forgiving, unit_ask}
use Rattle.target_calls.specs.Journal.{Entry, actions_in, target_after}
use Rattle.target_calls.specs.World.{start_world, stop}
use Rattle.target_calls.specs.declared.calls.Ask.{Ask}
use Rattle.target_calls.specs.declared.journal.Part.TheVariants.{Settles}
use Rattle.access_regs.specs.Alone.{alone_after, large_of_all}
use Rattle.access_regs.specs.Entries.{kept_by, target_by}
use Rattle.access_regs.specs.Follows.{Follows}
use Rattle.access_regs.specs.Journal.{Issue, Step, after_settling, alone_at, issue_of, issued_entries, large_of, making, numbered_entries, issue_of_plan, steps_of}
use Rattle.access_regs.specs.Kept.{Kept}
use Rattle.access_regs.specs.Plan.{settle, kept_after_settling}
use Rattle.access_regs.proofs.AllCalls.{journal_follows}
use Rattle.access_regs.proofs.EntryLemmas.{journal_grows}
use Rattle.access_regs.proofs.Seams.{after_split}
use Rattle.access_regs.proofs.Settle.{settles}
use Rattle.access_calls.specs.Standing.{WhereObservable}
use Rattle.flight_laws.proofs.SmallLemmas.{NeverStops, never_stops}
use Rattle.packed_access.specs.Begun.{HasIssued, IsIssuing, LogHasAsked, entries_for_call, strict_entries}
use Rattle.packed_access.specs.Forgiving.{IsTrying, LogHasTried}
use Rattle.packed_access.specs.Logs.{LogState}
use Rattle.packed_access.proofs.ActionLemmas.{at_rest}
use Rattle.packed_access.proofs.BegunLemmas.{fact_of, where_same}
use Rattle.packed_access.specs.Marks.{unmarked_last}
use Rattle.packed_access.proofs.CameLemmas.{HaveCome, have_come_own}
use Rattle.access_regs.specs.declared.planner.Planner.{Planner}
use Rattle.access_regs.specs.Journal.{is_alone}
use Rattle.access_regs.proofs.Lists.{numbered_append}

-- ---- the call

and_same : (b c : Bool) → c ≡ true → (b && c) ≡ b
and_same true c e = e
and_same false c e = refl

-- the target where the accesses of the unit begin
abbrev pub target_settled : Planner → TargetState → List Ask → Kept → TargetState
target_settled p t calls k = after (target_by p t calls) (making (settle k))

-- what the unit issues after the settling
abbrev pub alone_issue : (p : Planner) (forgive : Bool) → TargetState → List Ask → Kept → AccessUnit → Issue
alone_issue p forgive t calls k asked = alone_at forgive asked (target_settled p t calls k) (kept_after_settling k)

pub issue_is : (p : Planner) (forgive : Bool) (t : TargetState) (calls : List Ask) (k : Kept) (asked : AccessUnit) → is_alone p forgive ≡ true → may_forgive (Access asked) ≡ true →
    issue_of p (target_by p t calls) k (unit_ask asked forgive) ≡ after_settling (target_by p t calls) k (alone_at forgive asked)
issue_is p forgive t calls k asked alone may = ap (λ (b : Bool). cond b (after_settling (target_by p t calls) k (alone_at forgive asked)) (issue_of_plan (target_by p t calls) k asked)) (and_from (is_alone p forgive) (may_forgive (Access asked)) alone may)

settles_numbered : (units : ℕ) (b : Bool) (xs : List RegAccess) → numbered_entries units b (steps_of Settles xs) ≡ strict_entries units Settles xs
settles_numbered units true [] = refl
settles_numbered units false [] = refl
settles_numbered units true (x ∷ xs) = ap (λ l. record { unit = units; part = Settles; forgiving = false; action = Makes x } ∷ l) (settles_numbered units true xs)
settles_numbered units false (x ∷ xs) = ap (λ l. record { unit = units; part = Settles; forgiving = false; action = Makes x } ∷ l) (settles_numbered units false xs)

-- its entries: those that settle, and then its own
pub entries_are : (p : Planner) (forgive : Bool) (t : TargetState) (calls : List Ask) (k : Kept) (asked : AccessUnit) → is_alone p forgive ≡ true → may_forgive (Access asked) ≡ true →
    entries_for_call p t calls k (unit_ask asked forgive) ≡ strict_entries (length calls) Settles (settle k) ++ numbered_entries (length calls) forgive (alone_issue p forgive t calls k asked).steps
entries_are p forgive t calls k asked alone may =
    (λ j. numbered_entries (length calls) (and_same forgive (may_forgive (Access asked)) may j) (issue_is p forgive t calls k asked alone may j).steps)
    ∙ numbered_append (length calls) forgive (steps_of Settles (settle k)) (alone_issue p forgive t calls k asked).steps
    ∙ ap (λ (l : List Entry). l ++ numbered_entries (length calls) forgive (alone_issue p forgive t calls k asked).steps) (settles_numbered (length calls) forgive (settle k))

-- an access port is unsettled only after a call
settle_unit : (p : Planner) (t : TargetState) (calls : List Ask) (u : ℕ) → (0 < length calls → u ≡ length calls) → strict_entries (length calls) Settles (settle (kept_by p t calls)) ≡ strict_entries u Settles (settle (kept_by p t calls))
settle_unit p t [] u is = refl
settle_unit p t (c ∷ calls) u is = ap (λ (n : ℕ). strict_entries n Settles (settle (kept_by p t (c ∷ calls)))) (sym (is (omega arith)))

-- the settling is to be issued, and then the unit
pub begin_settling : (p : Planner) (forgive : Bool) (x : Option BenchState) (log : LogState) (accesses : List RegAccess) (kept : Kept) (calls : List Ask) (ask : Ask) (asked : AccessUnit) (m0 : BenchState) (u : ℕ) → LogHasAsked p x log accesses kept calls ask m0 → ask ≡ unit_ask asked forgive → is_alone p forgive ≡ true → may_forgive (Access asked) ≡ true →
    (0 < length calls → u ≡ length calls) → HasIssued p x log accesses (strict_entries u Settles (settle kept) ++ numbered_entries (length calls) forgive (alone_issue p forgive (target_of m0.probe) calls kept asked).steps) m0
begin_settling p forgive x log accesses kept calls ask asked m0 u h same alone may is =
    subst (λ (l : List Entry). HasIssued p x log accesses l m0)
    (ap (entries_for_call p (target_of m0.probe) calls kept) same ∙ entries_are p forgive (target_of m0.probe) calls kept asked alone may
    ∙ ap (λ (l : List Entry). l ++ numbered_entries (length calls) forgive (alone_issue p forgive (target_of m0.probe) calls kept asked).steps)
    (subst (λ (q : Kept). strict_entries (length calls) Settles (settle q) ≡ strict_entries u Settles (settle q)) h.kept_is (settle_unit p (target_of m0.probe) calls u is)))
    h.issued

-- ---- where the calls before it are

-- the calls before this one do not stop, and may be asked with it
pub record IsBefore (t : TargetState) (calls : List Ask) (ask : Ask) : Type 0 where
  pub fresh : IsFresh t
  pub askable : AreAskable (calls ++ ask ∷ [])
  pub whole : stop (start_world t None) calls ≡ None

pub first_before : (log : LogState) (calls : List Ask) (ask : Ask) → log.calls ≡ calls ++ ask ∷ [] → take (length calls) log.calls ≡ calls
first_before log calls ask are = ap (take (length calls)) are ∙ take-append_seam calls (ask ∷ [])

before_at : (p : Planner) (log : LogState) (calls : List Ask) (ask : Ask) (rest : List Entry) (m0 m : BenchState) → IsIssuing p log [] rest m0 m → log.calls ≡ calls ++ ask ∷ [] → log.came ≡ length calls → IsBefore (target_of m0.probe) calls ask
before_at p log calls ask rest m0 m h are came =
    let s = at_rest p log rest m0 m h in
    let count : length log.calls ≡ length calls + 1 = ap length are ∙ length-append calls (ask ∷ []) in
    let c : HaveCome p log.calls log.confirmed (length calls) m0 = have_come_own p log.calls s.made rest log.confirmed (length calls) m0 s.fresh s.askable (omega (arith, count)) s.on.are s.on.passes s.confirmed_is
    (let f = ap (λ (k : ℕ). length (issued_entries p (target_of m0.probe) (take k (unmarked_last log.calls)))) came in let n = h.came_made in omega (arith, f, n)) in
    record {
      fresh = s.fresh;
      askable = subst AreAskable are s.askable;
      whole = subst (λ (l : List Ask). stop (start_world (target_of m0.probe) None) l ≡ None) (first_before log calls ask are) (c.none_stops.stops None tt);
    }

pub is_before : (p : Planner) (x : Option BenchState) (log : LogState) (calls : List Ask) (ask : Ask) (rest : List Entry) (m0 : BenchState) → HasIssued p x log [] rest m0 → log.calls ≡ calls ++ ask ∷ [] → log.came ≡ length calls → IsBefore (target_of m0.probe) calls ask
is_before p x log calls ask rest m0 h are came = fact_of x (λ m. IsIssuing p log [] rest m0 m) _ (λ m i. before_at p log calls ask rest m0 m i are came) h.so

-- after the settling the target follows the one after the calls alone
pub record IsCalm (p : Planner) (t : TargetState) (calls : List Ask) : Type 0 where
  pub pass : PassTo (target_by p t calls) (making (settle (kept_by p t calls))) (target_settled p t calls (kept_by p t calls))
  pub follows : Follows (kept_after_settling (kept_by p t calls)) (large_of_all t [] calls) (alone_after t [] calls) (target_settled p t calls (kept_by p t calls))

pub askable_front : (calls : List Ask) (ask : Ask) → AreAskable (calls ++ ask ∷ []) → AreAskable calls
askable_front [] ask h = tt
askable_front (c ∷ calls) ask h = (h.0, askable_front calls ask h.1)

pub askable_last : (calls : List Ask) (ask : Ask) → AreAskable (calls ++ ask ∷ []) → IsAskable ask
askable_last [] ask h = h.0
askable_last (c ∷ calls) ask h = askable_last calls ask h.1

pub is_calm : (p : Planner) (t : TargetState) (calls : List Ask) (ask : Ask) → IsBefore t calls ask → IsCalm p t calls
is_calm p t calls ask b =
    let s : NeverStops t [] None calls = never_stops t [] None calls b.whole in
    let follows : Follows (kept_by p t calls) (large_of_all t [] calls) (alone_after t [] calls) (target_by p t calls) = journal_follows p t calls b.fresh (askable_front calls ask b.askable) s.none in
    let g = settles (kept_by p t calls) (large_of_all t [] calls) (alone_after t [] calls) (target_by p t calls) follows in
    let at : after (target_by p t calls) (making (settle (kept_by p t calls))) ≡ g.at = pass_after (target_by p t calls) g.at (making (settle (kept_by p t calls))) g.pass in
    record {
      pass = subst (PassTo (target_by p t calls) (making (settle (kept_by p t calls)))) (sym at) g.pass;
      follows = subst (Follows (kept_after_settling (kept_by p t calls)) (large_of_all t [] calls) (alone_after t [] calls)) (sym at) g.follows;
    }

-- ---- its first access

pub settles_in : (units : ℕ) (xs : List RegAccess) → actions_in (strict_entries units Settles xs) ≡ making xs
settles_in units [] = refl
settles_in units (x ∷ xs) = ap (λ l. Makes x ∷ l) (settles_in units xs)

cancel_back : (xs ys zs : List Entry) → xs ++ zs ≡ ys ++ zs → xs ≡ ys
cancel_back xs ys zs e =
    let l = ap length e in let a = length-append xs zs in let b = length-append ys zs in
    let same : length xs ≡ length ys = omega (arith, l, a, b) in
    sym (take-append_seam xs zs) ∙ (λ j. take (same j) (e j)) ∙ take-append_seam ys zs

some_actions : (t : TargetState) (large : List ℕ) (asked : AccessUnit) → may_forgive (Access asked) ≡ true → call_actions t large (Access asked) ≡ [] → ⊥
some_actions t large (unit.Memory size read n address value) may none = by_wide (wants_cfg large n address) none
  where
    by_wide : (b : Bool) → cond b (cfg_actions n ++ after_cfg t size read n address value) (memory_actions t (contains large n) size read n address value) ≡ [] → ⊥
    by_wide true e = cc
    by_wide false e = cc
some_actions t large (unit.Ap read n addr value) may none = cc
some_actions t large (unit.Dp read addr value) may none = (let x : ◌≡◌ {A = Bool} false true = may in cc)
some_actions t large (unit.Poll mask value turns) may none = (let x : ◌≡◌ {A = Bool} false true = may in cc)

trying_at : (p : Planner) (forgive : Bool) (log : LogState) (calls : List Ask) (asked : AccessUnit) (m0 m : BenchState) → is_alone p forgive ≡ true → may_forgive (Access asked) ≡ true → log.calls ≡ calls ++ unit_ask asked forgive ∷ [] →
    IsIssuing p log [] (numbered_entries (length calls) forgive (alone_issue p forgive (target_of m0.probe) calls (kept_by p (target_of m0.probe) calls) asked).steps) m0 m →
    IsTrying p forgive log asked (kept_after_settling (kept_by p (target_of m0.probe) calls)) (target_settled p (target_of m0.probe) calls (kept_by p (target_of m0.probe) calls)) []
    (call_actions (target_settled p (target_of m0.probe) calls (kept_by p (target_of m0.probe) calls)) (large_of (kept_after_settling (kept_by p (target_of m0.probe) calls)) asked) (Access asked)) m0 m
trying_at p forgive log calls asked m0 m alone may are h =
    let t0 : TargetState = target_of m0.probe in
    let k : Kept = kept_by p (target_of m0.probe) calls in
    let steps : List Step = (alone_issue p forgive (target_of m0.probe) calls (kept_by p (target_of m0.probe) calls) asked).steps in
    let own : List Entry = numbered_entries (length calls) forgive steps in
    let calming : List Entry = strict_entries (length calls) Settles (settle (kept_by p (target_of m0.probe) calls)) in
    let s = at_rest p log (numbered_entries (length calls) forgive (alone_issue p forgive (target_of m0.probe) calls (kept_by p (target_of m0.probe) calls) asked).steps) m0 m h in
    let count : length log.calls - 1 ≡ length calls = (let c = ap length are ∙ length-append calls (unit_ask asked forgive ∷ []) in omega (arith, c)) in
    let grown : issued_entries p (target_of m0.probe) log.calls ≡ (issued_entries p (target_of m0.probe) calls ++ calming) ++ own =
    ap (issued_entries p (target_of m0.probe)) are ∙ (journal_grows p (target_of m0.probe) calls (unit_ask asked forgive) refl).0
    ∙ ap (λ (l : List Entry). issued_entries p (target_of m0.probe) calls ++ l) (entries_are p forgive (target_of m0.probe) calls (kept_by p (target_of m0.probe) calls) asked alone may)
    ∙ sym (append_assoc (issued_entries p (target_of m0.probe) calls) calming own) in
    let made : s.made ≡ issued_entries p (target_of m0.probe) calls ++ calming = cancel_back s.made (issued_entries p (target_of m0.probe) calls ++ calming) own (sym s.on.are ∙ grown) in
    record {
      left = steps;
      issuing = subst (λ (n : ℕ). IsIssuing p log [] (numbered_entries n forgive (alone_issue p forgive (target_of m0.probe) calls (kept_by p (target_of m0.probe) calls) asked).steps) m0 m) (sym count) h;
      actions = refl;
      steps = refl;
      good = tt;
      target = s.on.target ∙ ap (target_after (target_of m0.probe)) made ∙ after_split (target_of m0.probe) (issued_entries p (target_of m0.probe) calls) calming
          ∙ ap (after (target_by p (target_of m0.probe) calls)) (settles_in (length calls) (settle (kept_by p (target_of m0.probe) calls)));
      end = λ none. absurd (some_actions _ _ asked may none);
    }

-- where the bench is observable
pub begin_trying : (p : Planner) (forgive : Bool) (x : Option BenchState) (log : LogState) (kept : Kept) (calls : List Ask) (asked : AccessUnit) (m0 : BenchState) → kept_by p (target_of m0.probe) calls ≡ kept → is_alone p forgive ≡ true → may_forgive (Access asked) ≡ true → log.calls ≡ calls ++ unit_ask asked forgive ∷ [] →
    HasIssued p x log [] (numbered_entries (length calls) forgive (alone_issue p forgive (target_of m0.probe) calls kept asked).steps) m0 →
    LogHasTried p forgive x log asked (kept_after_settling kept) (target_settled p (target_of m0.probe) calls kept) [] (call_actions (target_settled p (target_of m0.probe) calls kept) (large_of (kept_after_settling kept) asked) (Access asked)) m0
begin_trying p forgive x log kept calls asked m0 kept_is alone may are =
    subst (λ (q : Kept). HasIssued p x log [] (numbered_entries (length calls) forgive (alone_issue p forgive (target_of m0.probe) calls q asked).steps) m0 →
    LogHasTried p forgive x log asked (kept_after_settling q) (target_settled p (target_of m0.probe) calls q) [] (call_actions (target_settled p (target_of m0.probe) calls q) (large_of (kept_after_settling q) asked) (Access asked)) m0) kept_is
    (λ h. record { so = where_same x _ _ (λ m i. trying_at p forgive log calls asked m0 m alone may are i) h.so })

-- what is known of 256 access ports
pub settled_table : (p : Planner) (t : TargetState) (kept : Kept) (calls : List Ask) (ask : Ask) → kept_by p t calls ≡ kept → IsBefore t calls ask → length (kept_after_settling kept).ports ≡ 256
settled_table p t kept calls ask kept_is b = subst (λ (q : Kept). length (kept_after_settling q).ports ≡ 256) kept_is (is_calm p t calls ask b).follows.table
