-- How far a bench has come with entries, some of which lie in a flight.
use Rattle.std.specs.Prelude.{◌≡◌, ℕ, ◌+◌, ◌*◌, ◌^◌, ◌<◌, ◌≤◌, false, List, ◌++◌, length, Option}
use Rattle.target_machine.specs.declared.access.RegAccess.{RegAccess}
use Rattle.probe_core.specs.Bench.{BenchState}
use Rattle.probe_core.specs.Probe.{ended_retries_of, target_of, work_of}
use Rattle.target_calls.specs.Journal.{Entry, Passes, actions_in, target_after}
use Rattle.target_calls.specs.Weights.{AreWeighty, commands_in, weight_in}
use Rattle.access_regs.specs.Journal.{making}
use Rattle.access_calls.specs.Reported.{began}
use Rattle.access_calls.specs.Standing.{HasPerformed, idle_cycles_of, transfer_number_of, transfer_setting_of}

-- Of these entries the first were made and are confirmed, the next lie in a flight as these accesses, and the rest is still to be pushed. None
-- of those made gives a fault that its unit does not forgive. The target is the one after them, with STICKYERR clear, and the work has grown by
-- what they weigh. No retry ended, and the settings of the transfers and the idle cycles are the same. The transfers are at most two for each
-- register access and each read of a poll.
pub record IsUnderWay (entries made flying rest : List Entry) (accesses : List RegAccess) (m0 m : BenchState) : Type 0 where
  pub are : entries ≡ made ++ (flying ++ rest)
  pub weighty : AreWeighty entries
  pub flight : actions_in flying ≡ making accesses
  pub passes : Passes (target_of m0.probe) made
  pub target : target_of m.probe ≡ target_after (target_of m0.probe) made
  pub clear : (target_of m.probe).sticky ≡ false
  pub work : work_of m.probe ≡ work_of m0.probe + weight_in (target_of m0.probe) made
  pub room : work_of m.probe + length flying < 2 ^ 64
  pub retries : ended_retries_of m.probe ≡ ended_retries_of m0.probe
  pub few : ended_retries_of m0.probe + 1 < 2 ^ 32
  pub setting : transfer_setting_of m ≡ transfer_setting_of m0
  pub idle_cycles : idle_cycles_of m ≡ idle_cycles_of m0
  pub number : transfer_number_of m + 2 * commands_in made ≤ transfer_number_of m0 + 2 * weight_in (target_of m0.probe) made

-- Where the work has grown by what the first entries weigh, and the target is the one after them, exactly they were performed.
abbrev pub FrontPerformed : Type 0
FrontPerformed = (n : Option ℕ) (m0 m : BenchState) (front rest : List Entry) → AreWeighty (front ++ rest) →
    work_of m.probe ≡ work_of m0.probe + weight_in (target_of m0.probe) front →
    target_of m.probe ≡ target_after (target_of m0.probe) front →
    HasPerformed (front ++ rest) (length front) (began m0 n) m
