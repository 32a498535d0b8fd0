-- The journal of two lists of calls, one after the other.
use Rattle.std.proofs.Common.{◌≡◌, ◌∙◌, ℕ, suc, ◌+◌, ◌-◌, ◌≤◌, Bool, true, false, if◌then◌else◌, List, [], ◌∷◌, ◌++◌, append_assoc, length, refl, sym, ap, arith}
use Rattle.std.specs.List.{AllByRecursion}
use Rattle.target_machine.proofs.ActionLists.{after_append}
use Rattle.target_machine.specs.Lists.{after}
use Rattle.target_machine.specs.Plain.{Action}
use Rattle.target_machine.specs.State.{TargetState}
use Rattle.target_calls.specs.Asks.{is_forgiving}
use Rattle.target_calls.specs.Journal.{Entry, actions_in, lines_before, settles, target_after}
use Rattle.target_calls.specs.declared.calls.Ask.{Ask}
use Rattle.access_regs.specs.Kept.{Kept}
use Rattle.access_regs.specs.Journal.{Step, entries_at, finish_of, issue_of, kept_at, numbered_entries, target_at, issued_from, kept_from}
use Rattle.access_regs.specs.Laws.{JournalJoins, KeptJoins, LaterEntries, SettlingEnds}
use Rattle.access_regs.proofs.Lists.{actions_in_append, actions_entries}
use Rattle.access_regs.proofs.Settle.{settled_calm}
use Rattle.access_regs.specs.declared.planner.Planner.{Planner}

-- the target after the entries of a call, and then others
pub after_entries_at : (p : Planner) (n : ℕ) (k : Kept) (t : TargetState) (c : Ask) (rest : List Entry) → target_after t (entries_at p n t k c ++ rest) ≡ target_after (target_at p t k c) rest
after_entries_at p n k t c rest =
    ap (after t) (actions_in_append (entries_at p n t k c) rest)
    ∙ after_append t (actions_in (entries_at p n t k c)) (actions_in rest)
    ∙ ap (λ (l : List Action). after (after t l) (actions_in rest)) (actions_entries p n t k c)

pub journal_joins : JournalJoins
journal_joins p n k t [] ys = ap (λ (m : ℕ). issued_from p m k t ys) (omega arith)
journal_joins p n k t (c ∷ xs) ys =
    let u : TargetState = target_at p t k c in
    let l : Kept = kept_at p t k c in
    let first : List Entry = issued_from p (n + 1) l u xs in
    let count : n + 1 + length xs ≡ n + suc (length xs) = omega arith in
    ap (λ (x : List Entry). entries_at p n t k c ++ x) (journal_joins p (n + 1) l u xs ys)
    ∙ sym (append_assoc (entries_at p n t k c) first (issued_from p (n + 1 + length xs) (kept_from p l u xs) (target_after u first) ys))
    ∙ ap (λ (m : ℕ). (entries_at p n t k c ++ first) ++ issued_from p m (kept_from p l u xs) (target_after u first) ys) count
    ∙ ap (λ (s : TargetState). (entries_at p n t k c ++ first) ++ issued_from p (n + suc (length xs)) (kept_from p l u xs) s ys) (sym (after_entries_at p n k t c first))

pub kept_joins : KeptJoins
kept_joins p n k t [] ys = refl
kept_joins p n k t (c ∷ xs) ys =
    let u : TargetState = target_at p t k c in
    let l : Kept = kept_at p t k c in
    let first : List Entry = issued_from p (n + 1) l u xs in
    kept_joins p (n + 1) l u xs ys
    ∙ ap (λ (s : TargetState). kept_from p (kept_from p l u xs) s ys) (sym (after_entries_at p n k t c first))

pub settling_ends : SettlingEnds
settling_ends k = settled_calm k

-- ---- entries of later calls

later_number : (n : ℕ) (b : Bool) → n ≤ (if b then (if b then n else n + 1) else (if b then n else n + 1) - 1)
later_number n true = omega arith
later_number n false = omega arith

later_numbered : (low n : ℕ) (forgiving : Bool) (steps : List Step) → low ≤ n → AllByRecursion (λ e. low ≤ lines_before e) (numbered_entries n forgiving steps)
later_numbered low n forgiving [] h = tt
later_numbered low n forgiving (s ∷ steps) h = ((let l = later_number n (settles s.part) in omega (arith, l, h)), later_numbered low n forgiving steps h)

later_append : (low : ℕ) (xs ys : List Entry) → AllByRecursion (λ e. low ≤ lines_before e) xs → AllByRecursion (λ e. low ≤ lines_before e) ys → AllByRecursion (λ e. low ≤ lines_before e) (xs ++ ys)
later_append low [] ys h j = j
later_append low (x ∷ xs) ys h j = (h.0, later_append low xs ys h.1 j)

later_from : (low : ℕ) (p : Planner) (n : ℕ) (k : Kept) (t : TargetState) (calls : List Ask) → low ≤ n → AllByRecursion (λ e. low ≤ lines_before e) (issued_from p n k t calls)
later_from low p n k t [] h = tt
later_from low p n k t (c ∷ cs) h =
    later_append low (entries_at p n t k c) (issued_from p (n + 1) (kept_at p t k c) (target_at p t k c) cs)
    (later_append low (numbered_entries n (is_forgiving c) (issue_of p t k c).steps) (numbered_entries (n + 1) false (finish_of p t k c).steps)
    (later_numbered low n (is_forgiving c) (issue_of p t k c).steps h)
    (later_numbered low (n + 1) false (finish_of p t k c).steps (omega (arith, h))))
    (later_from low p (n + 1) (kept_at p t k c) (target_at p t k c) cs (omega (arith, h)))

pub later_entries : LaterEntries
later_entries p n k t calls = later_from n p n k t calls (omega arith)
