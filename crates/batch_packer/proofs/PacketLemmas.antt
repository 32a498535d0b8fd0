-- Packets of one command: how they are read, and what a probe answers to them.
use Rattle.std.proofs.Common.{◌≡◌, ℕ, ◌+◌, ◌≤◌, cond, List, [], ◌∷◌, length, refl, ap, subst, ◌∙◌, arith, append-nil, Option}
use Rattle.std.specs.Prelude.{Result, Ok, Err, slice_get}
use Rattle.std.proofs.lemmas.Bool.{le-leb, le-ltb}
use Rattle.std.proofs.lemmas.List.Sums.{sum_by-cons}
use Rattle.dap_messages.specs.declared.command.PacketKind.{PacketKind}
use Rattle.dap_messages.specs.declared.command.PacketKind.TheVariants.{Plain, Execute, Queue}
use Rattle.dap_messages.specs.declared.command_value.CommandValue.{CommandValue}
use Rattle.dap_messages.specs.declared.error.MessageError.{MessageError}
use Rattle.dap_messages.specs.Commands.{IsCount, Packet, bytes_of_kind, command_bytes, longest_packet_reply, longest_reply}
use Rattle.dap_messages.specs.PacketReading.{packet_at, packet_read, too_long}
use Rattle.dap_messages.proofs.PacketLaws.{packet_complete}
use Rattle.probe_core.specs.Packet.{packet_answer, answered_as, nothing_done, packet_done}
use Rattle.probe_core.specs.Probe.{ExecutorState}
use Rattle.flight_forms.specs.Packets.{FitsPacket}
use Rattle.batch_packer.specs.Readings.{IsPacketOf}

-- how a packet is read
pub reads_packet : (kind : PacketKind) (commands : List CommandValue) (packet : List ℕ) → IsPacketOf kind commands packet → packet_read packet ≡ Ok (record { kind = kind; commands = commands })
reads_packet kind commands packet is =
    let bytes : List ℕ = bytes_of_kind kind commands in
    let short : length bytes ≤ 1024 = subst (λ (xs : List ℕ). length xs ≤ 1024) is.bytes is.short in
    ap packet_read is.bytes
    ∙ ap (λ b. cond b (Err (too_long (packet_at bytes))) (packet_at bytes)) (le-ltb 1024 (length bytes) short)
    ∙ packet_complete kind commands is.count is.in_range

abbrev commands_or : Result Packet MessageError → List CommandValue
commands_or (Ok p) = p.commands
commands_or (Err e) = []

pub command_read : (kind : PacketKind) (commands : List CommandValue) (packet : List ℕ) (index : ℕ) (view : Packet) (found : Option CommandValue) → IsPacketOf kind commands packet →
    Ok view ≡ packet_read packet → found ≡ slice_get view.commands index → found ≡ slice_get commands index
command_read kind commands packet index view found is read at =
    let same : view.commands ≡ commands = ap commands_or (read ∙ reads_packet kind commands packet is) in
    at ∙ ap (λ xs. slice_get xs index) same

pub never_err : (kind : PacketKind) (commands : List CommandValue) (packet : List ℕ) (e : MessageError) → IsPacketOf kind commands packet → Err e ≡ packet_read packet → ⊥
never_err kind commands packet e is read = not_both (read ∙ reads_packet kind commands packet is)
  where
    not_both : ◌≡◌ {A = Result Packet MessageError} (Err e) (Ok (record { kind = kind; commands = commands })) → ⊥
    not_both g = cc

-- what a probe answers to a packet whose longest reply fits
pub answered_is : (e : ExecutorState) (kind : PacketKind) (commands : List CommandValue) (packet : List ℕ) → IsPacketOf kind commands packet →
    longest_packet_reply (record { kind = kind; commands = commands }) ≤ e.limits.packet_size → packet_answer e packet ≡ packet_done e (record { kind = kind; commands = commands })
unfolding packet_answer
answered_is e kind commands packet is fits =
    let p : Packet = record { kind = kind; commands = commands } in
    ap (answered_as e) (reads_packet kind commands packet is)
    ∙ ap (λ b. cond b (packet_done e p) (nothing_done e)) (le-leb (longest_packet_reply p) e.limits.packet_size fits)

-- ---- packets of one command

-- the bytes before the command, and before the reply to it
abbrev pub head_of : PacketKind → ℕ
head_of Plain = 0
head_of Execute = 2
head_of Queue = 2

one_counts : (kind : PacketKind) → IsCount kind 1
one_counts Plain = refl
one_counts Execute = (omega arith, omega arith)
one_counts Queue = (omega arith, omega arith)

one_long : (kind : PacketKind) (c : CommandValue) → length (bytes_of_kind kind (c ∷ [])) ≡ head_of kind + length (command_bytes c)
one_long Plain c = let a = ap length (append-nil (command_bytes c)) in omega arith
one_long Execute c = let a = ap length (append-nil (command_bytes c)) in omega arith
one_long Queue c = let a = ap length (append-nil (command_bytes c)) in omega arith

longest_one : (kind : PacketKind) (c : CommandValue) → longest_packet_reply (record { kind = kind; commands = c ∷ [] }) ≡ head_of kind + longest_reply c
longest_one Plain c = let a = sum_by-cons longest_reply c [] in omega arith
longest_one Execute c = let a = sum_by-cons longest_reply c [] in omega arith
longest_one Queue c = let a = sum_by-cons longest_reply c [] in omega arith

-- what fits a packet is one
pub fits_packet : (kind : PacketKind) (c : CommandValue) (packet : List ℕ) (size : ℕ) → size ≤ 1024 → FitsPacket size (head_of kind) c → packet ≡ bytes_of_kind kind (c ∷ []) → IsPacketOf kind (c ∷ []) packet
fits_packet kind c packet size short fits is = record {
  count = one_counts kind;
  in_range = (fits.command, tt);
  bytes = is;
  short = (let a = one_long kind c in let b = ap length is in let d = fits.bytes in omega arith);
}

-- what a probe answers to it
pub answered_one : (e : ExecutorState) (kind : PacketKind) (c : CommandValue) (packet : List ℕ) → e.limits.packet_size ≤ 1024 → FitsPacket e.limits.packet_size (head_of kind) c →
    packet ≡ bytes_of_kind kind (c ∷ []) → packet_answer e packet ≡ packet_done e (record { kind = kind; commands = c ∷ [] })
answered_one e kind c packet short fits is =
    answered_is e kind (c ∷ []) packet (fits_packet kind c packet e.limits.packet_size short fits is) (let a = longest_one kind c in let b = fits.reply in omega arith)

-- in a larger packet it fits too
pub fits_more : (size more before : ℕ) (c : CommandValue) → size ≤ more → FitsPacket size before c → FitsPacket more before c
fits_more size more before c h fits = record {
  command = fits.command;
  bytes = (let a = fits.bytes in omega arith);
  reply = (let a = fits.reply in omega arith);
}
