-- What the code of a flight keeps: its requests, packets and replies.
use Rattle.std.proofs.Common.{◌≡◌, ℕ, ◌+◌, ◌*◌, ◌≤◌, Bool, true, false, List, [], ◌∷◌, ◌++◌, length, Option, Some, refl, ap, sym, subst, ◌∙◌, arith, append-nil, slice_get}
use Rattle.std.proofs.lemmas.List.{length-map}
use Rattle.std.specs.Prelude.{nat_le, ◌&&◌}
use Rattle.target_machine.specs.declared.access.RegAccess.{RegAccess}
use Rattle.dap_messages.specs.declared.command.PacketKind.{PacketKind}
use Rattle.dap_messages.specs.declared.command.PacketKind.TheVariants.{Plain}
use Rattle.dap_messages.specs.declared.command_value.CommandValue.{CommandValue}
use Rattle.dap_messages.specs.declared.request.Request.{Request}
use Rattle.dap_messages.specs.Commands.{command_bytes}
use Rattle.dap_transfer.specs.Laws.{AreNormal}
use Rattle.flight_forms.proofs.AskedRequests.{are_normal}
use Rattle.flight_forms.proofs.Blocks.{drw_requests}
use Rattle.flight_forms.specs.Flights.{words_of}
use Rattle.flight_forms.specs.Forms.{all_write_drw}
use Rattle.flight_forms.specs.Packets.{FitsPacket}
use Rattle.flight_forms.specs.Packing.{requests_for}
use Rattle.batch_packer.proofs.AloneLemmas.{seen_shown}
use Rattle.batch_packer.proofs.PacketLemmas.{fits_packet}
use Rattle.batch_packer.specs.Alone.{IsBlock, one_command, one_reading}
use Rattle.batch_packer.specs.Readings.{IsPacketOf, IsSeen, IsShown, reading}
use Rattle.batch_packer.specs.declared.part.FlightProgress.{FlightProgress}
use Rattle.batch_packer.proofs.ChainBench.{some_is}

-- the one packet that was kept
pub one_kept : (old new : List (List ℕ)) (x : List ℕ) → old ≡ [] → new ≡ old ++ x ∷ [] → new ≡ x ∷ []
one_kept old new x none is = is ∙ ap (λ xs. xs ++ x ∷ []) none

pub first_kept : (old new : List (List ℕ)) (x y : List ℕ) → old ≡ [] → new ≡ old ++ x ∷ [] → slice_get new 0 ≡ Some y → y ≡ x
first_kept old new x y none is at = some_is x y (sym (ap (λ xs. slice_get xs 0) (one_kept old new x none is)) ∙ at)

-- ---- requests

block_parts : (x y z : Bool) → (x && y && z) ≡ true → (y ≡ true) × (z ≡ true)
block_parts true true true e = (refl, refl)
block_parts true true false e = absurd (cc)
block_parts true false z e = absurd (cc)
block_parts false y z e = absurd (cc)

block_few : (accesses : List RegAccess) → IsBlock accesses → length accesses ≤ 255
block_few accesses is = grind (arith, is.1, is.2)

block_long : (accesses : List RegAccess) → IsBlock accesses → length (requests_for false accesses) ≡ length accesses
block_long accesses is =
    let parts = block_parts (nat_le 2 (length accesses)) (all_write_drw accesses) (nat_le (5 + 4 * length accesses) is.0) is.2 in
    ap length (drw_requests false accesses parts.0)
    ∙ length-map (words_of accesses) (λ (w : ℕ). record { byte = 0x0D; word = w })
    ∙ length-map accesses (λ (a : RegAccess). a.value)

pub few_requests : (b : Bool) (size : ℕ) (accesses : List RegAccess) → (b ≡ true → IsBlock accesses) → FitsPacket size 0 (one_command b accesses) → length (requests_for false accesses) ≤ 255
few_requests true size accesses block fits = let a = block_long accesses (block refl) in let b = block_few accesses (block refl) in omega arith
few_requests false size accesses block fits = let c = fits.command in let d = c.1 in omega arith

pub normal_front : (rs : List Request) (accesses : List RegAccess) → rs ≡ requests_for false accesses → AreNormal rs
normal_front rs accesses is = subst AreNormal (sym is) (are_normal false accesses)

-- ---- what was read

pub shown_alone : (b : Bool) (size : ℕ) (accesses : List RegAccess) (packet reply : List ℕ) (rs : List Request) (progress : Option FlightProgress) (old new : List (Option ℕ)) → size ≤ 1024 →
    FitsPacket size 0 (one_command b accesses) → packet ≡ command_bytes (one_command b accesses) → rs ≡ requests_for false accesses →
    ((kind : PacketKind) (command : CommandValue) → IsPacketOf kind (command ∷ []) packet → IsShown (reading command 0 rs reply) progress old new) → old ≡ [] →
    IsSeen (reading (one_command b accesses) 0 (requests_for false accesses) reply) progress new
shown_alone b size accesses packet reply rs progress old new short fits is front shown none =
    let c : CommandValue = one_command b accesses in
    seen_shown (reading c 0 (requests_for false accesses) reply) progress new (subst (λ (xs : List (Option ℕ)). IsShown (reading c 0 (requests_for false accesses) reply) progress xs new) none
    (subst (λ (ys : List Request). IsShown (reading c 0 ys reply) progress old new) front
    (shown Plain c (fits_packet Plain c packet size short fits (is ∙ sym (append-nil (command_bytes c)))))))

pub read_alone : (b : Bool) (accesses : List RegAccess) (reply : List ℕ) (replies : List (List ℕ)) (progress : Option FlightProgress) (new : List (Option ℕ)) → replies ≡ reply ∷ [] →
    IsSeen (reading (one_command b accesses) 0 (requests_for false accesses) reply) progress new → IsSeen (one_reading b accesses replies) progress new
read_alone b accesses reply replies progress new is shown = subst (λ (xs : List (List ℕ)). IsSeen (one_reading b accesses xs) progress new) (sym is) shown
