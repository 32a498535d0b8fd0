-- The laws of the journal.
use Rattle.std.proofs.Common.{◌≡◌, ◌∙◌, ℕ, ◌<◌, ◌⊎◌, inl, inr, Bool, true, false, cond, ◌&&◌, List, [], ◌∷◌, None, refl, sym, ap, subst, arith, length, replicate, get_or, zero, suc, ◌≤◌}
use Rattle.std.proofs.lemmas.List.{get_or-replicate, length-replicate}
use Rattle.std.proofs.lemmas.Bool.{cases_lt, and_parts}
use Rattle.std.proofs.Math.Bool.{and-false}
use Rattle.target_machine.specs.Plain.{call_done, may_forgive}
use Rattle.target_machine.specs.Sound.{IsSoundCall}
use Rattle.target_machine.specs.State.{TargetState}
use Rattle.target_machine.specs.declared.unit.Call.{Call}
use Rattle.target_machine.specs.declared.unit.Call.TheVariants.{Access, Probe}
use Rattle.target_machine.specs.declared.unit.Unit.{Unit as AccessUnit}
use Rattle.target_machine.specs.declared.unit.Unit.TheVariants as unit
use Rattle.access_regs.specs.Kept.{Kept, known_at, unknown, nothing_kept}
use Rattle.access_regs.specs.Plan.{kept_after_settling}
use Rattle.access_regs.specs.declared.known.Known.{Known}
use Rattle.access_regs.specs.Journal.{finish, issue_of, finish_of, steps_at, actions_of, alone_at, is_alone, after_settling, issue_of_plan, issue, issued_entries, kept_from}
use Rattle.access_regs.specs.Alone.{call_alone, alone_after, large_of_all}
use Rattle.access_regs.specs.Follows.{Follows, IsTrueOf}
use Rattle.access_regs.specs.Laws.{FreshFollows, CallGoes, CallLeaves, JournalFollows, JournalAgrees, JournalPasses, JournalStops, JournalAnswers}
use Rattle.access_regs.specs.Course.{Course}
use Rattle.access_regs.proofs.Settle.{settled_calm, follows_agree}
use Rattle.access_regs.proofs.Calls.{strict_course, settle_course}
use Rattle.access_regs.proofs.Forgiving.{ap_course, memory_course}
use Rattle.access_regs.proofs.Agreeing.{follows_facts}
use Rattle.target_machine.specs.Lists.{after}
use Rattle.access_regs.specs.declared.planner.Planner.{Planner}
use Rattle.access_regs.specs.declared.planner.Planner.TheVariants.{Managed, Plain}
use Rattle.access_regs.proofs.Singles.{probe_course}
use Rattle.target_calls.specs.Asks.{IsUnitInRange, IsCallInRange, IsAskable, AreAskable, is_settled}
use Rattle.target_calls.specs.Journal.{actions_in}
use Rattle.target_calls.specs.declared.calls.Ask.{Ask}
use Rattle.access_regs.proofs.Lists.{AllOk, step_follows, list_follows, list_passes, list_stops, list_answers}

alone_course : (k : Kept) (large : List ℕ) (t u : TargetState) → Follows k large t u → (forgive : Bool) (asked : AccessUnit) → IsUnitInRange asked → may_forgive (Access asked) ≡ true →
    Course (after_settling u k (alone_at forgive asked)) (call_done t large forgive (Access asked)) (Access asked) u
alone_course k large t u f forgive (unit.Memory size read n address value) range may =
    settle_course k large t u f (alone_at forgive (unit.Memory size read n address value)) (call_done t large forgive (Access (unit.Memory size read n address value))) (Access (unit.Memory size read n address value))
    (λ v g. memory_course (kept_after_settling k) large t v g (settled_calm k) forgive size read n address value range.0)
alone_course k large t u f forgive (unit.Ap read n addr value) range may =
    settle_course k large t u f (alone_at forgive (unit.Ap read n addr value)) (call_done t large forgive (Access (unit.Ap read n addr value))) (Access (unit.Ap read n addr value))
    (λ v g. ap_course (kept_after_settling k) large t v g (settled_calm k) forgive read n addr value range.0 range.1)
alone_course k large t u f forgive (unit.Dp read addr value) range may = absurd (cc)
alone_course k large t u f forgive (unit.Poll mask value turns) range may = absurd (cc)

-- a unit that is not made alone forgives nothing
pub strict_unless : (p : Planner) (forgive may : Bool) → (is_alone p forgive && may) ≡ false → (forgive && may) ≡ false
strict_unless Managed forgive may e = e
strict_unless Plain forgive may e = ap (λ (b : Bool). forgive && b) e ∙ and-false forgive

-- Each call goes as it goes alone.
pub call_course : (p : Planner) (k : Kept) (large : List ℕ) (t u : TargetState) → Follows k large t u → (c : Ask) → IsAskable c → Course (issue_of p u k c) (call_alone t large c) c.call u
call_course p k large t u f c ok = by_call c.call ok.sound ok.range
  where
    by_mark : (asked : AccessUnit) (b : Bool) → (is_alone p c.forgive && may_forgive (Access asked)) ≡ b → IsSoundCall (Access asked) → IsCallInRange (Access asked) →
        Course (issue p u k c.forgive (Access asked)) (call_done t large c.forgive (Access asked)) (Access asked) u
    by_mark asked b e sound range =
        subst (λ (a : Bool). Course (cond a (after_settling u k (alone_at c.forgive asked)) (issue_of_plan u k asked)) (call_done t large c.forgive (Access asked)) (Access asked) u) (sym e) (by_case b e)
      where
        by_case : (b : Bool) → (is_alone p c.forgive && may_forgive (Access asked)) ≡ b →
            Course (cond b (after_settling u k (alone_at c.forgive asked)) (issue_of_plan u k asked)) (call_done t large c.forgive (Access asked)) (Access asked) u
        by_case false e = strict_course k large t u f c.forgive asked (strict_unless p c.forgive (may_forgive (Access asked)) e) sound range
        by_case true e = alone_course k large t u f c.forgive asked range (and_parts (is_alone p c.forgive) (may_forgive (Access asked)) e).1

    by_call : (call : Call) → IsSoundCall call → IsCallInRange call → Course (issue p u k c.forgive call) (call_done t large c.forgive call) call u
    by_call (Access asked) sound range = by_mark asked (is_alone p c.forgive && may_forgive (Access asked)) refl sound range
    by_call (Probe x) sound range = probe_course k large t u f c.forgive x

pub all_ok : (p : Planner) (cs : List Ask) → AreAskable cs → AllOk p IsAskable (call_course p) cs
all_ok p [] h = tt
all_ok p (c ∷ cs) h = (h.0, all_ok p cs h.1)

get_or_past : (xs : List Known) (q : ℕ) → length xs ≤ q → get_or xs q unknown ≡ unknown
get_or_past [] q le = refl
get_or_past (x ∷ xs) zero le = absurd (omega arith)
get_or_past (x ∷ xs) (suc q) le = get_or_past xs q (omega arith)

pub known_nothing : (q : ℕ) → known_at nothing_kept q ≡ unknown
known_nothing q = by_place (cases_lt q 256)
  where
    by_place : (q < 256) ⊎ (256 ≤ q) → known_at nothing_kept q ≡ unknown
    by_place (inl lt) = get_or-replicate 256 q unknown unknown lt
    by_place (inr ge) = get_or_past (replicate 256 unknown) q (let e = length-replicate 256 unknown in omega arith)

pub fresh_follows : FreshFollows
fresh_follows t fresh = follows_facts nothing_kept [] t t (record {
  agree = record { same = refl };
  clear = fresh.clear;
  few = fresh.few;
  table = length-replicate 256 unknown;
  select = λ v e. absurd (cc);
  larges = λ q less. ap (λ x. x.large) (known_nothing q);
  so = λ q p is. subst (λ x. IsTrueOf x p) (sym (known_nothing q)) (record { csw = λ c e. absurd (cc); tar = λ c e. absurd (cc); high = λ c e. absurd (cc); stored = fresh.stored q p is });
  calm = refl;
})

pub call_goes : CallGoes
call_goes p k large t u c f ok = call_course p k large t u f c ok

pub call_leaves : CallLeaves
call_leaves p k large t u c f ok ne = step_follows p IsAskable (call_course p) k large t u f c ok ne

pub journal_follows : JournalFollows
journal_follows p t calls fresh ok none = list_follows p IsAskable (call_course p) 0 nothing_kept [] t t (fresh_follows t fresh) calls (all_ok p calls ok) none

pub journal_passes : JournalPasses
journal_passes p t calls fresh ok none = list_passes p IsAskable (call_course p) 0 nothing_kept [] t t (fresh_follows t fresh) calls (all_ok p calls ok) none

finish_calm : (b : Bool) (k : Kept) → b ≡ true → (finish b k).kept.unsettled ≡ None
finish_calm true k e = settled_calm k
finish_calm false k e = absurd (cc)

some_calm : (p : Planner) (k : Kept) (u : TargetState) (c : Ask) (cs : List Ask) → is_settled (c ∷ cs) ≡ true → (kept_from p k u (c ∷ cs)).unsettled ≡ None
some_calm p k u c [] h = finish_calm c.settled (issue_of p u k c).kept h
some_calm p k u c (d ∷ cs) h = some_calm p (finish_of p u k c).kept (after u (actions_of (steps_at p u k c))) d cs h

finished_calm : (p : Planner) (k : Kept) (u : TargetState) (cs : List Ask) → is_settled cs ≡ true → k.unsettled ≡ None → (kept_from p k u cs).unsettled ≡ None
finished_calm p k u [] h calm = calm
finished_calm p k u (c ∷ cs) h calm = some_calm p k u c cs h

pub journal_agrees : JournalAgrees
journal_agrees p t calls fresh ok none finished =
    follows_agree (kept_from p nothing_kept t calls) (large_of_all t [] calls) (alone_after t [] calls) (after t (actions_in (issued_entries p t calls)))
    (journal_follows p t calls fresh ok none) (finished_calm p nothing_kept t calls finished refl)

pub journal_stops : JournalStops
journal_stops p t calls last fresh ok ok_last none bad =
    let s = list_stops p IsAskable (call_course p) 0 nothing_kept [] t t (fresh_follows t fresh) calls last (all_ok p calls ok) ok_last none bad in
    record { front = s.front; entry = s.entry; stops = s.stops; unit = s.unit ∙ omega arith; own = s.own; words = s.words }

pub journal_answers : JournalAnswers
journal_answers p t calls more c n fresh ok ok_last none e =
    let a = list_answers p IsAskable (call_course p) 0 nothing_kept [] t t (fresh_follows t fresh) calls more c n (all_ok p calls ok) ok_last none e in
    record { front = a.front; entry = a.entry; more = a.more; is = a.is; unit = a.unit ∙ omega arith; ends = a.ends; gives = a.gives }
