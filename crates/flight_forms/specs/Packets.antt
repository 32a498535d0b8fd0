-- The commands of a flight, and the replies to them.
use Rattle.std.specs.Prelude.{ℕ, ◌+◌, ◌≤◌, false, List, [], ◌∷◌, length, ⊤}
use Rattle.std.specs.List.{AllByRecursion}
use Rattle.target_machine.specs.declared.access.RegAccess.{RegAccess}
use Rattle.dap_messages.specs.declared.command.PacketKind.{PacketKind}
use Rattle.dap_messages.specs.declared.command.PacketKind.TheVariants.{Execute, Queue}
use Rattle.dap_messages.specs.declared.command_value.CommandValue.{CommandValue}
use Rattle.dap_messages.specs.declared.command_value.CommandValue.TheVariants.{Transfer, WriteBlock}
use Rattle.dap_messages.specs.Commands.{IsCommand, bytes_of_kind, command_bytes, longest_reply}
use Rattle.dap_messages.specs.Replies.{Answers, ReplyValue}
use Rattle.dap_messages.specs.Replies as reply
use Rattle.dap_messages.specs.Responses.{code_of}
use Rattle.dap_transfer.specs.State.{Transferred}
use Rattle.flight_forms.specs.Flights.{words_of}
use Rattle.flight_forms.specs.Packing.{guarded_requests, requests_for}

-- the block of these writes of DRW
abbrev pub block_command : List RegAccess → CommandValue
block_command accesses = WriteBlock 0x0D (words_of accesses)

-- the one Transfer of these accesses
abbrev pub transfer_command : List RegAccess → CommandValue
transfer_command accesses = Transfer (requests_for false accesses)

-- the guarded Transfer of these accesses
abbrev pub guarded_command : List RegAccess → CommandValue
guarded_command accesses = Transfer (guarded_requests accesses)

-- A command in its ranges, which fits a packet of this size as does its longest reply, with so many bytes before each.
pub record FitsPacket (size before : ℕ) (c : CommandValue) : Type 0 where
  pub command : IsCommand c
  pub bytes : before + length (command_bytes c) ≤ size
  pub reply : before + longest_reply c ≤ size

-- each part of a chain fits its packet: two bytes are before its command, and before the reply to it
abbrev pub FitChain : ℕ → List (List RegAccess) → Type 0
FitChain size parts = AllByRecursion (λ accesses. FitsPacket size 2 (guarded_command accesses)) parts

-- the kind of a packet of a chain before these parts: all are held but the last
abbrev pub chain_kind : List (List RegAccess) → PacketKind
chain_kind [] = Execute
chain_kind (accesses ∷ parts) = Queue

-- the packets of a chain
abbrev pub chain_packets : List (List RegAccess) → List (List ℕ)
chain_packets [] = []
chain_packets (accesses ∷ parts) = bytes_of_kind (chain_kind parts) (guarded_command accesses ∷ []) ∷ chain_packets parts

-- what the reply to a Transfer says that ended so
abbrev pub transfer_answer : Transferred → ReplyValue
transfer_answer d = reply.Transfer d.executed (code_of d.response) d.words

-- what the reply to a block says that ended so
abbrev pub block_answer : Transferred → ReplyValue
block_answer d = reply.Block d.executed (code_of d.response)

-- each reply is one that the guarded command of its part may get
abbrev pub AnswerChain : List (List RegAccess) → List Transferred → Type 0
AnswerChain [] [] = ⊤
AnswerChain (accesses ∷ parts) (d ∷ replies) = Answers (guarded_command accesses) (transfer_answer d) × AnswerChain parts replies
AnswerChain _ _ = ⊥
