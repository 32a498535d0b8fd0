-- The entries that calls issue: what one more call adds, and which unit, weight and answer an entry has.
use Rattle.std.specs.Prelude.{◌≡◌, ℕ, ◌+◌, ◌/◌, ◌%◌, ◌^◌, ◌≤◌, ◌<◌, Bool, true, false, not, List, [], ◌∷◌, ◌++◌, length, ⊤}
use Rattle.target_machine.specs.Attempt.{attempt}
use Rattle.target_machine.specs.Fresh.{IsFresh}
use Rattle.target_machine.specs.Plain.{Makes, action_attempt, given_number, is_fault, result_of, Answered, select_of, ap_access_of}
use Rattle.target_machine.specs.Registers.{csw_register, tar_register, tar_high_register}
use Rattle.target_machine.specs.State.{TargetState}
use Rattle.target_machine.specs.declared.access.RegAccess.{RegAccess}
use Rattle.target_calls.specs.Asks.{AreAskable, is_forgiving, settled_last}
use Rattle.target_calls.specs.Journal.{Entry, target_after}
use Rattle.target_calls.specs.Weights.{AreWeighty}
use Rattle.target_calls.specs.declared.calls.Ask.{Ask}
use Rattle.target_calls.specs.declared.journal.Part.TheVariants.{Settles}
use Rattle.access_regs.specs.Alone.{NoneFaults, call_alone, alone_after, large_of_all}
use Rattle.access_regs.specs.Journal.{issue_of, issued_entries, kept_from, numbered_entries, steps_of}
use Rattle.access_regs.specs.Kept.{Kept, nothing_kept}
use Rattle.access_regs.specs.Plan.{settle, kept_after_settling, unless}
use Rattle.access_regs.specs.declared.planner.Planner.{Planner}

-- what is known after the entries of calls
abbrev pub kept_by : Planner → TargetState → List Ask → Kept
kept_by p t asks = kept_from p nothing_kept t asks

-- the target after the entries of calls
abbrev pub target_by : Planner → TargetState → List Ask → TargetState
target_by p t asks = target_after t (issued_entries p t asks)

-- One more call, with no `finish` after it, adds what it issues from there.
abbrev pub JournalGrows : Type 0
JournalGrows = (p : Planner) (t : TargetState) (asks : List Ask) (ask : Ask) → ask.settled ≡ false →
    (issued_entries p t (asks ++ ask ∷ [])
    ≡ issued_entries p t asks ++ numbered_entries (length asks) (is_forgiving ask) (issue_of p (target_by p t asks) (kept_by p t asks) ask).steps)
    × (kept_by p t (asks ++ ask ∷ []) ≡ (issue_of p (target_by p t asks) (kept_by p t asks) ask).kept)

-- A `finish` after the last call adds the settling of the unsettled AP; where it was marked already, there is none.
abbrev pub JournalMarks : Type 0
JournalMarks = (p : Planner) (t : TargetState) (asks : List Ask) →
    (issued_entries p t (settled_last asks) ≡ issued_entries p t asks ++ numbered_entries (length asks) false (steps_of Settles (settle (kept_by p t asks))))
    × (kept_by p t (settled_last asks) ≡ kept_after_settling (kept_by p t asks))

-- The unit of each entry is one of the calls.
abbrev pub UnitsInRange : Type 0
UnitsInRange = (p : Planner) (t : TargetState) (asks : List Ask) (front : List Entry) (e : Entry) (more : List Entry) → issued_entries p t asks ≡ front ++ e ∷ more →
    (1 ≤ e.unit) × (e.unit ≤ length asks)

-- No entry is a poll of no turns.
abbrev pub JournalWeighs : Type 0
JournalWeighs = (p : Planner) (t : TargetState) (asks : List Ask) → AreAskable asks → AreWeighty (issued_entries p t asks)

-- The result of a call after others is given by the last entry that it issues itself.
pub record AnsweredAt (p : Planner) (t : TargetState) (entries : List Entry) (asks : List Ask) (ask : Ask) (v : ℕ) : Type 0 where
  pub front : List Entry
  pub entry : Entry
  pub more : List Entry
  pub is : entries ≡ front ++ entry ∷ more
  pub at : length front + 1 ≡ length (issued_entries p t asks) + length (issue_of p (target_by p t asks) (kept_by p t asks) ask).steps
  pub gives_it : result_of ask.call (given_number (action_attempt (target_after t front) entry.action).outcome) ≡ v

-- Where no call before it ends at a fault, a call that has a result has it so.
abbrev pub CallAnswers : Type 0
CallAnswers = (p : Planner) (t : TargetState) (asks : List Ask) (ask : Ask) (more : List Ask) (v : ℕ) → IsFresh t → AreAskable (asks ++ ask ∷ more) →
    NoneFaults t [] asks →
    (call_alone (alone_after t [] asks) (large_of_all t [] asks) ask).end ≡ Answered v → AnsweredAt p t (issued_entries p t (asks ++ ask ∷ more)) asks ask v

-- None of these accesses faults.
abbrev pub NoneFault : TargetState → List RegAccess → Type 0
NoneFault u [] = ⊤
NoneFault u (a ∷ rest) = (is_fault (action_attempt u (Makes a)).outcome ≡ false) × NoneFault (action_attempt u (Makes a)).next rest

-- A write of SELECT, which comes before the read of CFG or CSW and before the access of an AP register, does not fault.
abbrev pub SelectIsGood : Type 0
SelectIsGood = (t : TargetState) (n bank : ℕ) → n < 256 → bank < 16 → t.sticky ≡ false → NoneFault t (select_of n bank ∷ [])

-- CSW, the upper word and TAR: what a forgiving unit writes before DRW
abbrev pub before_drw : ℕ → Bool → ℕ → List RegAccess
before_drw csw large address =
    ap_access_of false csw_register csw ∷ unless (not large) (ap_access_of false tar_high_register (address / 2 ^ 32))
    ++ ap_access_of false tar_register (address % 2 ^ 32) ∷ []

-- After a read of CSW that does not fault, none of them faults.
abbrev pub LeadsAreGood : Type 0
LeadsAreGood = (t : TargetState) (n csw address : ℕ) (large : Bool) → n < 256 → t.sticky ≡ false →
    is_fault (attempt (attempt t (select_of n 0)).next (ap_access_of true csw_register 0)).outcome ≡ false →
    NoneFault (attempt (attempt t (select_of n 0)).next (ap_access_of true csw_register 0)).next (before_drw csw large address)
