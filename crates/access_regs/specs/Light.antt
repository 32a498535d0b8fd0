-- How much calls weigh at most.
use Rattle.std.specs.Prelude.{◌*◌, ◌≤◌, List, length}
use Rattle.target_machine.specs.State.{TargetState}
use Rattle.target_calls.specs.Asks.{AreAskable}
use Rattle.target_calls.specs.Weights.{weight_in}
use Rattle.target_calls.specs.declared.calls.Ask.{Ask}
use Rattle.access_regs.specs.Journal.{issued_entries}
use Rattle.access_regs.specs.declared.planner.Planner.{Planner}

-- The entries of calls weigh together at most 60,000,012 for each call: the turns of the longest poll, and what comes before and
-- after it.
abbrev pub JournalIsLight : Type 0
JournalIsLight = (p : Planner) (t : TargetState) (asks : List Ask) → AreAskable asks → weight_in t (issued_entries p t asks) ≤ 60000012 * length asks
