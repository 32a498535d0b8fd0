-- A command of the probe in one packet: what its reply says, and what it does.
use Rattle.std.specs.Prelude.{◌≡◌, ◌⊎◌, ℕ, ◌+◌, ◌*◌, ◌==◌, Bool, true, false, if◌then◌else◌, List, [], ◌∷◌, Option, Some, None, Result, Ok, Err, slice_index}
use Rattle.dap_messages.specs.declared.command_value.CommandValue.{CommandValue}
use Rattle.dap_messages.specs.declared.command_value.CommandValue.TheVariants as command
use Rattle.dap_messages.specs.Commands.{IsCommand}
use Rattle.dap_replies.specs.ReplyViews.{Shown}
use Rattle.dap_replies.specs.ReplyReading.{reply_read}
use Rattle.dap_transfer.specs.Lines.{pins_set}
use Rattle.dap_transfer.specs.State.{TransferState}
use Rattle.probe_core.specs.Bench.{BenchState, counted_up}
use Rattle.probe_core.specs.Commands.{command_result}
use Rattle.probe_core.specs.Probe.{ExecutorState}
use Rattle.batch_packer.specs.Exchanges.{IsIdle}
use Rattle.batch_packer.specs.Readings.{shown_in}
use Rattle.batch_packer.specs.declared.ends.FlightEnd.{FlightEnd}
use Rattle.batch_packer.specs.declared.ends.FlightEnd.TheVariants as ends

-- a command that is no Transfer and no block of writes
abbrev pub is_single : CommandValue → Bool
is_single (command.Transfer requests) = false
is_single (command.WriteBlock request words) = false
is_single c = true

-- A command that can be sent alone in a packet: it is no Transfer and no block of writes.
pub record IsSingle (c : CommandValue) : Type 0 where
  pub command : IsCommand c
  pub single : is_single c ≡ true

-- how something ends that answers so; it has no end where it answers a value
abbrev pub end_in : {A : Type 0} → Result A FlightEnd → Option FlightEnd
end_in (Ok answer) = None
end_in (Err end) = Some end

-- The number that a reply shows. After its length that is the packet count in one byte, or the packet size in two, the low byte first. Of pins
-- it is their levels, and else it is 0.
abbrev pub number_in : CommandValue → Shown → ℕ
number_in (command.Info id) view = slice_index view.bytes 1 + 256 * slice_index view.bytes 2
number_in (command.Pins output select wait) view = slice_index view.bytes 0
number_in c view = 0

-- the same, where there is a reply that the command may get; any other is bad
abbrev pub number_by : CommandValue → Option Shown → Result ℕ FlightEnd
number_by c None = Err ends.ReplyBad
number_by c (Some view) = Ok (number_in c view)

-- what the one reply to a command says
abbrev pub number_read : CommandValue → List (List ℕ) → Result ℕ FlightEnd
number_read c (reply ∷ []) = number_by c (shown_in (reply_read c reply))
number_read c replies = Err ends.ReplyBad

-- the number that a probe answers: its packet count or packet size; the levels of the pins after the command; and else 0
abbrev pub number_given : ExecutorState → CommandValue → ℕ
number_given e (command.Info id) = if id == 0xFE then e.limits.packet_count else e.limits.packet_size
number_given e (command.Pins output select wait) = let after : TransferState = pins_set e.transfers output select in after.line.target.lines.pins
number_given e c = 0

-- a command that was done, and whose reply was taken: one starting packet was sent
pub record HasDone (c : CommandValue) (number : ℕ) (m n : BenchState) : Type 0 where
  pub number_is : number ≡ number_given m.probe.executor c
  pub executor : n.probe.executor ≡ (command_result m.probe.executor c).next
  pub idle : IsIdle n
  pub starting : n.starting ≡ counted_up m.starting

-- the command was done or not
abbrev pub MayHaveDone : CommandValue → BenchState → BenchState → Type 0
MayHaveDone c m n = (n.probe.executor ≡ m.probe.executor) ⊎ (n.probe.executor ≡ (command_result m.probe.executor c).next)

-- What was done where a command is answered so. A reply is never bad, and nothing is cut.
abbrev pub DoneBy : CommandValue → Result ℕ FlightEnd → BenchState → BenchState → Type 0
DoneBy c (Ok number) m n = HasDone c number m n
DoneBy c (Err ends.BenchFault) m n = MayHaveDone c m n
DoneBy c (Err ends.ReplyBad) m n = ⊥
DoneBy c (Err (ends.Cut cut)) m n = ⊥
