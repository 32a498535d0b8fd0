-- What is true of the journal of any calls, by either planner.
use Rattle.std.specs.Prelude.{◌≡◌, ◌≢◌, ◌+◌, ◌/◌, ◌<◌, ◌≤◌, ℕ, Bool, true, false, ◌||◌, if◌then◌else◌, List, [], ◌∷◌, ◌++◌, length, None}
use Rattle.std.specs.List.{AllByRecursion}
use Rattle.dap_base.specs.Bits.{has_bit}
use Rattle.target_machine.specs.Registers.{cfg_la}
use Rattle.target_machine.specs.Plain.{Answered, Faulted, has_large}
use Rattle.target_machine.specs.declared.unit.Unit.{Unit as AccessUnit}
use Rattle.target_machine.specs.declared.unit.Unit.TheVariants as unit
use Rattle.target_machine.specs.State.{TargetState, Agree}
use Rattle.access_regs.specs.Journal.{alone_at, issue_of, kept_alone, issued_entries, issued_from, kept_at, kept_from, target_at, issue_of_plan}
use Rattle.access_regs.specs.Alone.{actions_alone, call_alone, alone_after, large_of_all, NoneFaults, StopsInLast, AnswersWith, KeepsMemory}
use Rattle.target_machine.specs.Fresh.{IsFresh}
use Rattle.target_calls.specs.Journal.{Passes, actions_in, lines_before, target_after}
use Rattle.target_calls.specs.Asks.{AreAskable, IsAskable, is_settled, IsUnitInRange}
use Rattle.access_regs.specs.Kept.{Kept, forget, known_at, nothing_kept, kept_with_select}
use Rattle.access_regs.specs.Plan.{learned_cfg, needs_cfg, select_value, kept_after_settling}
use Rattle.target_calls.specs.declared.calls.Ask.{Ask}
use Rattle.access_regs.specs.Course.{Course}
use Rattle.access_regs.specs.Follows.{Follows}
use Rattle.access_regs.specs.declared.planner.Planner.{Planner}
use Rattle.access_regs.specs.declared.planner.Planner.TheVariants.{Plain}

-- At a fresh target, of which nothing is known, calls may begin.
abbrev pub FreshFollows : Type 0
FreshFollows = (t : TargetState) → IsFresh t → Follows nothing_kept [] t t

-- One call goes as it goes alone, from where the calls before it led.
abbrev pub CallGoes : Type 0
CallGoes = (p : Planner) (k : Kept) (large : List ℕ) (t u : TargetState) (c : Ask) → Follows k large t u → IsAskable c →
    Course (issue_of p u k c) (call_alone t large c) c.call u

-- Where it does not end at a fault, the next call may follow: it and the `finish` after it leave what it leaves alone.
abbrev pub CallLeaves : Type 0
CallLeaves = (p : Planner) (k : Kept) (large : List ℕ) (t u : TargetState) (c : Ask) → Follows k large t u → IsAskable c → (call_alone t large c).end ≢ Faulted →
    Follows (kept_at p u k c) (call_alone t large c).large (call_alone t large c).next (target_at p u k c)

-- Let no call end at a fault. Then the target after the journal differs from the one after the calls alone at most in RDBUFF, and in CSW and TAR
-- of the AP that is unsettled.
abbrev pub JournalFollows : Type 0
JournalFollows = (p : Planner) (t : TargetState) (calls : List Ask) → IsFresh t → AreAskable calls → NoneFaults t [] calls →
    Follows (kept_from p nothing_kept t calls) (large_of_all t [] calls) (alone_after t [] calls) (target_after t (issued_entries p t calls))

-- Where a `finish` was made after the last of them, the two agree.
abbrev pub JournalAgrees : Type 0
JournalAgrees = (p : Planner) (t : TargetState) (calls : List Ask) → IsFresh t → AreAskable calls → NoneFaults t [] calls → is_settled calls ≡ true →
    Agree (alone_after t [] calls) (target_after t (issued_entries p t calls))

-- No entry gives a fault that its unit does not forgive.
abbrev pub JournalPasses : Type 0
JournalPasses = (p : Planner) (t : TargetState) (calls : List Ask) → IsFresh t → AreAskable calls → NoneFaults t [] calls → Passes t (issued_entries p t calls)

-- Let the last call end at a fault, and none before it. Then the first entry that gives a fault which its unit does not forgive is an own one of
-- that call. It leaves the memory that the call alone leaves.
abbrev pub JournalStops : Type 0
JournalStops = (p : Planner) (t : TargetState) (calls : List Ask) (last : Ask) → IsFresh t → AreAskable calls → IsAskable last → NoneFaults t [] calls →
    (call_alone (alone_after t [] calls) (large_of_all t [] calls) last).end ≡ Faulted →
    StopsInLast t (issued_entries p t (calls ++ last ∷ [])) (length calls + 1) (call_alone (alone_after t [] calls) (large_of_all t [] calls) last).next

-- A call that has a result has it from the entry that its unit is for.
abbrev pub JournalAnswers : Type 0
JournalAnswers = (p : Planner) (t : TargetState) (calls more : List Ask) (c : Ask) (n : ℕ) → IsFresh t → AreAskable calls → IsAskable c → NoneFaults t [] calls →
    (call_alone (alone_after t [] calls) (large_of_all t [] calls) c).end ≡ Answered n →
    AnswersWith t (issued_entries p t (calls ++ c ∷ more)) (length calls + 1) c.call n

-- The journal of more calls is that of the first ones, and then that of the others from the target and from what is kept.
abbrev pub JournalJoins : Type 0
JournalJoins = (p : Planner) (units : ℕ) (k : Kept) (t : TargetState) (xs ys : List Ask) →
    issued_from p units k t (xs ++ ys) ≡ issued_from p units k t xs
    ++ issued_from p (units + length xs) (kept_from p k t xs) (target_after t (issued_from p units k t xs)) ys

-- Each entry of calls that are asked after so many others is issued for one of them, or settles what was asked before it.
abbrev pub LaterEntries : Type 0
LaterEntries = (p : Planner) (units : ℕ) (k : Kept) (t : TargetState) (calls : List Ask) → AllByRecursion (λ e. units ≤ lines_before e) (issued_from p units k t calls)

-- So it is with what is kept.
abbrev pub KeptJoins : Type 0
KeptJoins = (p : Planner) (units : ℕ) (k : Kept) (t : TargetState) (xs ys : List Ask) →
    kept_from p k t (xs ++ ys) ≡ kept_from p (kept_from p k t xs) (target_after t (issued_from p units k t xs)) ys

-- After a settling no AP is unsettled.
abbrev pub SettlingEnds : Type 0
SettlingEnds = (k : Kept) → (kept_after_settling k).unsettled ≡ None

-- Of the steps of a unit that forgives nothing, settling with them, only the one that the unit is for changes the memory.
abbrev pub UnitKeepsMemory : Type 0
UnitKeepsMemory = (k : Kept) (large : List ℕ) (t u : TargetState) (asked : AccessUnit) → Follows k large t u → IsUnitInRange asked →
    KeepsMemory u (issue_of_plan u k asked).steps

-- After a memory unit that is made alone SELECT has bank 0, except where CFG was read and shows no large addresses: then it has
-- bank F. What is known of its AP is whether that has large addresses.
abbrev pub AloneKept : Type 0
AloneKept = (t : TargetState) (k : Kept) (forgive : Bool) (size : ℕ) (read : Bool) (ap address value : ℕ) → t.sticky ≡ false → ap < 256 →
    (alone_at forgive (unit.Memory size read ap address value) t k).kept
    ≡ (if needs_cfg k (unit.Memory size read ap address value) then kept_alone k ap (if has_large t ap then 0 else 15) (has_large t ap) else kept_alone k ap 0
    (known_at k ap).large)

-- So it is after an AP unit, with the bank of its register.
abbrev pub PortKept : Type 0
PortKept = (t : TargetState) (k : Kept) (forgive read : Bool) (ap addr value : ℕ) → t.sticky ≡ false → ap < 256 → addr < 256 →
    (alone_at forgive (unit.Ap read ap addr value) t k).kept ≡ kept_alone k ap (addr / 16) (known_at k ap).large

-- What is known after a unit that is made alone is noted. That is its writes of SELECT, the CFG that it reads, and at the end that nothing else
-- is known of its AP.
abbrev pub KeptBySelect : Type 0
KeptBySelect = (k : Kept) (ap bank : ℕ) → forget (kept_with_select k (select_value ap bank)) ap ≡ kept_alone k ap bank (known_at k ap).large

-- The CFG was read, and no SELECT written after it.
abbrev pub KeptByCfg : Type 0
KeptByCfg = (k : Kept) (select ap cfg : ℕ) → length k.ports ≡ 256 → ap < 256 →
    forget (learned_cfg (kept_with_select k select) ap cfg) ap ≡ kept_alone k ap 15 ((known_at k ap).large || has_bit cfg cfg_la)

-- The CFG was read, and SELECT written after it.
abbrev pub KeptAfterCfg : Type 0
KeptAfterCfg = (k : Kept) (select ap cfg bank : ℕ) → length k.ports ≡ 256 → ap < 256 →
    forget (kept_with_select (learned_cfg (kept_with_select k select) ap cfg) (select_value ap bank)) ap
    ≡ kept_alone k ap bank ((known_at k ap).large || has_bit cfg cfg_la)

-- By the plain planner calls issue what they issue when each is made alone, in order. They leave the very same target, also where calls fault.
abbrev pub PlainIsAlone : Type 0
PlainIsAlone = (t : TargetState) (calls : List Ask) → AreAskable calls →
    (actions_in (issued_entries Plain t calls) ≡ actions_alone t [] calls) × (target_after t (issued_entries Plain t calls) ≡ alone_after t [] calls)
