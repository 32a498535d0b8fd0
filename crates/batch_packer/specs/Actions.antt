-- Commands of the probe and polls as actions, and what is done to a bench by one.
use Rattle.std.specs.Prelude.{◌≡◌, ℕ, ◌+◌, ◌-◌, ◌*◌, ◌^◌, ◌≤◌, Bool, true, false, nat_le, min}
use Rattle.target_machine.specs.InRange.{IsInRange}
use Rattle.target_machine.specs.Lines.{delayed_target}
use Rattle.target_machine.specs.Plain.{Action, action_attempt, is_fault}
use Rattle.target_machine.specs.declared.unit.ProbeCall.{ProbeCall}
use Rattle.target_machine.specs.declared.unit.ProbeCall.TheVariants as probe
use Rattle.target_calls.specs.Weights.{commands_of, weight}
use Rattle.dap_messages.specs.declared.command_value.CommandValue.{CommandValue}
use Rattle.dap_messages.specs.declared.command_value.CommandValue.TheVariants.{Abort, Clock, Delay, Line, Pins}
use Rattle.dap_transfer.specs.State.{TransferState, grown_work}
use Rattle.probe_core.specs.Bench.{BenchState}
use Rattle.probe_core.specs.Probe.{ended_retries_of, target_of, work_of}
use Rattle.batch_packer.specs.Exchanges.{IsIdle}
use Rattle.batch_packer.specs.Flying.{transfers_of}

-- An action was done whole. It makes no transfer that may wait, leaves the match mask, match retry and the list of stalls, and sets no
-- STICKYERR.
pub record Acts (x : Action) (p q : TransferState) : Type 0 where
  pub passes : is_fault (action_attempt p.line.target x).outcome ≡ false
  pub target : q.line.target ≡ (action_attempt p.line.target x).next
  pub work : q.work ≡ grown_work p.work (weight p.line.target x)
  pub number : q.line.number ≡ p.line.number
  pub retries : q.ended_retries ≡ p.ended_retries
  pub pending : q.pending ≡ p.pending
  pub mask : q.mask ≡ p.mask
  pub matches : q.setting.matches ≡ p.setting.matches
  pub stalls : q.setting.stalls ≡ p.setting.stalls
  pub dpidr : q.line.target.dpidr ≡ p.line.target.dpidr
  pub clear : p.line.target.sticky ≡ false → q.line.target.sticky ≡ false
  pub in_range : IsInRange p.line.target → IsInRange q.line.target

-- an action that was done by so many packets, whose replies were taken
pub record HasActed (x : Action) (packets : ℕ) (m n : BenchState) : Type 0 where
  pub acts : Acts x (transfers_of m) (transfers_of n)
  pub idle : IsIdle n
  pub limits : n.probe.executor.limits ≡ m.probe.executor.limits
  pub starting : n.starting ≡ min (m.starting + packets) (2 ^ 64 - 1)

-- A poll or a command of the probe was done whole, from one state of the bench to another, and left the settings of the transfers and the
-- idle cycles.
pub record DoesAction (x : Action) (m o : BenchState) : Type 0 where
  pub target : target_of o.probe ≡ (action_attempt (target_of m.probe) x).next
  pub clear : (target_of o.probe).sticky ≡ false
  pub work : work_of o.probe ≡ work_of m.probe + weight (target_of m.probe) x
  pub retries : ended_retries_of o.probe ≡ ended_retries_of m.probe
  pub setting : (transfers_of o).setting ≡ (transfers_of m).setting
  pub idle_cycles : o.probe.executor.idle ≡ m.probe.executor.idle
  pub number : (transfers_of o).line.number + 2 * commands_of x ≤ (transfers_of m).line.number + 2 * weight (target_of m.probe) x

-- whether one command is enough for a probe call: for all but a delay of more than 65,535 microseconds
abbrev pub is_one : ProbeCall → Bool
is_one (probe.Delay micros) = nat_le micros 65535
is_one other = true

-- the CMSIS-DAP command that makes a probe call for which one is enough
abbrev pub command_of : ProbeCall → CommandValue
command_of (probe.Delay micros) = Delay micros
command_of (probe.Abort value) = Abort value
command_of (probe.Pins output select wait) = Pins output select wait
command_of (probe.Clock hertz) = Clock hertz
command_of (probe.Line count bits) = Line count bits

-- the transfers after so many commands that each delay 65,535 microseconds
abbrev pub delayed_by : TransferState → ℕ → TransferState
delayed_by p count = record p { line = record p.line { target = delayed_target p.line.target (65535 * count) }; work = grown_work p.work count }
