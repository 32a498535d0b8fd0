-- What entries weigh: by how much the probe's work grows with each. It shows how many of them were performed.
use Rattle.std.specs.Prelude.{ℕ, suc, ◌+◌, ◌-◌, ◌<◌, nat_le, if◌then◌else◌, List, [], ◌∷◌, sum_by, ⊤}
use Rattle.std.specs.List.{AllByRecursion}
use Rattle.target_machine.specs.Packets.{commands_for}
use Rattle.target_machine.specs.Plain.{Action, Makes, Polls, Commands, action_attempt, poll_result}
use Rattle.target_machine.specs.State.{TargetState}
use Rattle.target_calls.specs.Journal.{Entry}

-- What an action weighs on t: 1, the reads of a poll, or the commands of a probe call.
abbrev pub weight : TargetState → Action → ℕ
weight t (Makes a) = 1
weight t (Polls mask requested turns) = (poll_result turns mask requested t).reads
weight t (Commands c) = commands_for c

-- What these entries weigh together, one at a time from t.
abbrev pub weight_in : TargetState → List Entry → ℕ
weight_in t [] = 0
weight_in t (e ∷ entries) = weight t e.action + weight_in (action_attempt t e.action).next entries

-- How many entries were performed: the first ones that weigh together at most this.
abbrev pub entries_performed : TargetState → List Entry → ℕ → ℕ
entries_performed t [] work = 0
entries_performed t (e ∷ entries) work =
    if nat_le (weight t e.action) work then suc (entries_performed (action_attempt t e.action).next entries (work - weight t e.action)) else 0

-- a poll has at least one turn
abbrev pub IsWeighty : Action → Type 0
IsWeighty (Makes a) = ⊤
IsWeighty (Polls mask requested turns) = 0 < turns
IsWeighty (Commands c) = ⊤

-- no entry is a poll of no turns
abbrev pub AreWeighty : List Entry → Type 0
AreWeighty entries = AllByRecursion (λ e. IsWeighty e.action) entries

-- how many commands of the probe an action is
abbrev pub commands_of : Action → ℕ
commands_of (Makes a) = 0
commands_of (Polls mask requested turns) = 0
commands_of (Commands c) = commands_for c

-- how many commands of the probe these entries are
abbrev pub commands_in : List Entry → ℕ
commands_in entries = sum_by (λ (e : Entry). commands_of e.action) entries

-- how many register accesses an action is; a poll counts as none
abbrev pub registers_of : Action → ℕ
registers_of (Makes a) = 1
registers_of (Polls mask requested turns) = 0
registers_of (Commands c) = 0

-- how many register accesses these entries are
abbrev pub registers_in : List Entry → ℕ
registers_in entries = sum_by (λ (e : Entry). registers_of e.action) entries
