-- A portion of a poll of CTRL/STAT, as one packet of four commands.
use Rattle.std.specs.Prelude.{◌≡◌, ℕ, ◌-◌, false, if◌then◌else◌, List, [], ◌∷◌, length}
use Rattle.target_machine.specs.Plain.{Polled, is_fault, poll_result}
use Rattle.dap_messages.specs.declared.request.Request.{Request}
use Rattle.dap_messages.specs.declared.request.Response.TheVariants.{Good, Mismatch}
use Rattle.dap_messages.specs.declared.command_value.CommandValue.{CommandValue}
use Rattle.dap_messages.specs.declared.command_value.CommandValue.TheVariants.{Configure, Transfer}
use Rattle.dap_messages.specs.declared.command.PacketKind.TheVariants.{Execute}
use Rattle.dap_messages.specs.Commands.{IsPacket, Packet, longest_packet_reply, packet_bytes}
use Rattle.dap_messages.specs.Requests.{mask_request, match_request}
use Rattle.dap_messages.specs.Replies.{Answers}
use Rattle.dap_transfer.specs.Lines.{configured_state}
use Rattle.dap_transfer.specs.State.{TransferState, Transferred, grown_work}
use Rattle.dap_transfer.specs.Transfer.{transfer_result}
use Rattle.dap_transfer.specs.ValueMatch.{has_matched}
use Rattle.flight_forms.specs.Packets.{transfer_answer}

-- the mask, and a value match of CTRL/STAT (0x4) with the value
abbrev pub poll_requests : ℕ → ℕ → List Request
poll_requests mask requested = mask_request mask ∷ match_request false 0x4 requested ∷ []

-- the mask that lets a guarded command through
abbrev pub clear_mask : List Request
clear_mask = mask_request 0 ∷ []

-- the four commands: match retry is one less than the turns for the value match, and 0 after it
abbrev pub poll_commands : ℕ → ℕ → ℕ → ℕ → ℕ → List CommandValue
poll_commands idle retry mask requested turns =
    Configure idle retry (turns - 1)
    ∷ Transfer (poll_requests mask requested)
    ∷ Transfer clear_mask
    ∷ Configure idle retry 0
    ∷ []

-- what the value match does and answers
abbrev pub poll_matched : TransferState → ℕ → ℕ → ℕ → ℕ → Transferred
poll_matched p retry mask requested turns = transfer_result (configured_state p retry (turns - 1)) (poll_requests mask requested)

-- what the mask after it does and answers
abbrev pub poll_cleared : TransferState → ℕ → ℕ → ℕ → ℕ → Transferred
poll_cleared p retry mask requested turns = transfer_result (poll_matched p retry mask requested turns).next clear_mask

-- the state after the four commands
abbrev pub poll_after : TransferState → ℕ → ℕ → ℕ → ℕ → TransferState
poll_after p retry mask requested turns = configured_state (poll_cleared p retry mask requested turns).next retry 0

-- A portion of a poll reads CTRL/STAT one read at a time until it matches. Its replies say whether it did. After it the target is that after
-- these reads, the match mask and match retry are 0, and each read is one of the work. Nothing else changed.
pub record DoesPoll (p : TransferState) (retry mask requested turns : ℕ) (x : Polled) (d u : Transferred) : Type 0 where
  pub passes : is_fault x.outcome ≡ false
  pub response : d.response ≡ (if has_matched x then Good else Mismatch)
  pub executed : d.executed ≡ (if has_matched x then 2 else 1)
  pub words : d.words ≡ []
  pub answers : Answers (Transfer (poll_requests mask requested)) (transfer_answer d)
  pub clears : u ≡ record { executed = 1; response = Good; words = []; next = record d.next { mask = 0 } }
  pub clear_answers : Answers (Transfer clear_mask) (transfer_answer u)
  pub after : poll_after p retry mask requested turns ≡ record p {
    setting = record p.setting { retry = retry; matches = 0 };
    line = record p.line { target = x.next };
    mask = 0;
    work = grown_work p.work x.reads;
  }

-- the same of a portion of so many turns from a state of the probe
abbrev pub PollsAtOnce : TransferState → ℕ → ℕ → ℕ → ℕ → Type 0
PollsAtOnce p retry mask requested turns =
    DoesPoll p retry mask requested turns (poll_result turns mask requested p.line.target)
    (poll_matched p retry mask requested turns) (poll_cleared p retry mask requested turns)

-- the packet of these commands
abbrev pub poll_packet : ℕ → ℕ → ℕ → ℕ → ℕ → Packet
poll_packet idle retry mask requested turns = record { kind = Execute; commands = poll_commands idle retry mask requested turns }

-- The packet is in its ranges; it has 35 bytes, and its longest reply 12.
pub record IsPollPacket (p : Packet) : Type 0 where
  pub packet : IsPacket p
  pub bytes : length (packet_bytes p) ≡ 35
  pub reply : longest_packet_reply p ≡ 12
