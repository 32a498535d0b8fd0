-- A portion of a poll in one packet: what its reply says, and what it does.
use Rattle.std.specs.Prelude.{◌≡◌, ◌⊎◌, ℕ, ◌-◌, ◌≤◌, ◌==◌, ◌&&◌, Bool, true, false, if◌then◌else◌, is_some}
use Rattle.std.specs.Prelude.{List, [], ◌∷◌, length, slice_index, slice_range, Option, Some, None, Result, Ok, Err}
use Rattle.target_machine.specs.Attempt.{bank}
use Rattle.target_machine.specs.Plain.{Action, Polls, poll_result}
use Rattle.dap_messages.specs.declared.command_value.CommandValue.{CommandValue}
use Rattle.dap_messages.specs.declared.command_value.CommandValue.TheVariants.{Configure, Transfer}
use Rattle.dap_messages.specs.declared.request.Response.{Response}
use Rattle.dap_messages.specs.declared.request.Response.TheVariants.{Good, Wait, Fault, Mismatch}
use Rattle.dap_messages.specs.Commands.{Packet}
use Rattle.dap_replies.specs.ReplyViews.{Shown}
use Rattle.dap_replies.specs.ReplyReading.{reply_read}
use Rattle.dap_messages.specs.Responses.{response_of}
use Rattle.probe_core.specs.Bench.{BenchState}
use Rattle.probe_core.specs.Probe.{target_of}
use Rattle.flight_forms.specs.Polls.{clear_mask, poll_commands, poll_packet, poll_requests}
use Rattle.dap_transfer.specs.ValueMatch.{has_matched}
use Rattle.batch_packer.specs.Actions.{Acts, HasActed}
use Rattle.batch_packer.specs.Flying.{transfers_of}
use Rattle.batch_packer.specs.Readings.{shown_in}
use Rattle.batch_packer.specs.declared.ends.FlightEnd.{FlightEnd}
use Rattle.batch_packer.specs.declared.ends.FlightEnd.TheVariants as ends
use Rattle.probe_core.specs.declared.job.Config.{Config}
use Rattle.batch_packer.specs.declared.poll.PollAsk.{PollAsk}

-- The turns of one portion of a poll: DAP_TransferConfigure has 16 bits for the match retry, one less than the turns.
pub record AreTurns (turns : ℕ) : Type 0 where
  pub low : 1 ≤ turns
  pub high : turns ≤ 65536

-- the commands of a poll
abbrev pub commands_of : Config → PollAsk → List CommandValue
commands_of config ask = poll_commands config.idle config.retry ask.mask ask.value ask.turns

-- the packet of a poll
abbrev pub packet_of : Config → PollAsk → Packet
packet_of config ask = poll_packet config.idle config.retry ask.mask ask.value ask.turns

-- whether a reply is one that its command may get
abbrev pub is_read : CommandValue → List ℕ → Bool
is_read c reply = is_some (shown_in (reply_read c reply))

-- whether a reply begins with DAP_ExecuteCommands and the number 4, and has 12 bytes
abbrev pub is_of_four : List ℕ → Bool
is_of_four reply = (length reply == 12) && ((slice_index reply 0 == 0x7F) && (slice_index reply 1 == 4))

-- Whether the replies to the commands around the value match are ones that these may get. The commands are the two settings of match retry,
-- before and after it, and the mask that is set back.
abbrev pub is_framed : Config → PollAsk → List ℕ → Bool
is_framed config ask reply =
    is_of_four reply
    && (is_read (Configure config.idle config.retry (ask.turns - 1)) (slice_range reply 2 4)
    && (is_read (Transfer clear_mask) (slice_range reply 7 10) && is_read (Configure config.idle config.retry 0) (slice_range reply 10 12)))

-- the end of a poll in which a transfer was answered so: it names no access
abbrev pub poll_cut : ℕ → FlightEnd
poll_cut response = ends.Cut (record { performed = 0; confirmed = 0; response = response })

-- whether the register matched, by the response to the value match
abbrev pub match_end : Option Response → Result Bool FlightEnd
match_end None = Err ends.ReplyBad
match_end (Some Good) = Ok true
match_end (Some Mismatch) = Ok false
match_end (Some Wait) = Err (poll_cut 0x02)
match_end (Some Fault) = Err (poll_cut 0x04)

-- the same by the reply to it, where it is one that the value match may get
abbrev pub match_by : Option Shown → Result Bool FlightEnd
match_by None = Err ends.ReplyBad
match_by (Some view) = match_end (response_of view.response)

-- what the reply to the packet says; any that the packet may not get is bad
abbrev pub matched_in : Config → PollAsk → List ℕ → Result Bool FlightEnd
matched_in config ask reply =
    if is_framed config ask reply then match_by (shown_in (reply_read (Transfer (poll_requests ask.mask ask.value)) (slice_range reply 4 7)))
    else Err ends.ReplyBad

-- what the one reply to a poll says
abbrev pub matched_read : Config → PollAsk → List (List ℕ) → Result Bool FlightEnd
matched_read config ask (reply ∷ []) = matched_in config ask reply
matched_read config ask replies = Err ends.ReplyBad

-- the reads of the poll
abbrev pub reads_of : PollAsk → Action
reads_of ask = Polls ask.mask ask.value ask.turns

-- a poll whose reply was taken: it is its reads, one at a time, and the settings are those that it was given
pub record HasPolled (config : Config) (ask : PollAsk) (matched : Bool) (m n : BenchState) : Type 0 where
  pub matched_is : matched ≡ has_matched (poll_result ask.turns ask.mask ask.value (target_of m.probe))
  pub acted : HasActed (reads_of ask) 1 m n
  pub retry : (transfers_of n).setting.retry ≡ config.retry
  pub idle_cycles : n.probe.executor.idle ≡ config.idle

-- the poll was made: the settings are those that it was given
pub record WasPolled (config : Config) (ask : PollAsk) (m n : BenchState) : Type 0 where
  pub acts : Acts (reads_of ask) (transfers_of m) (transfers_of n)
  pub retry : (transfers_of n).setting.retry ≡ config.retry
  pub idle_cycles : n.probe.executor.idle ≡ config.idle

-- it was made, or nothing was done
abbrev pub MayHavePolled : Config → PollAsk → BenchState → BenchState → Type 0
MayHavePolled config ask m n = (n.probe.executor ≡ m.probe.executor) ⊎ WasPolled config ask m n

-- What was done where a poll is answered so. A reply is never bad, and no read waits or faults.
abbrev pub PolledBy : Config → PollAsk → Result Bool FlightEnd → BenchState → BenchState → Type 0
PolledBy config ask (Ok matched) m n = HasPolled config ask matched m n
PolledBy config ask (Err ends.BenchFault) m n = MayHavePolled config ask m n
PolledBy config ask (Err ends.ReplyBad) m n = ⊥
PolledBy config ask (Err (ends.Cut cut)) m n = ⊥

-- What was done where DPBANKSEL is 0, so that the reads are of CTRL/STAT.
abbrev pub PollsBy : Config → PollAsk → Result Bool FlightEnd → BenchState → BenchState → Type 0
PollsBy config ask result m n = bank (target_of m.probe) ≡ 0 → PolledBy config ask result m n
