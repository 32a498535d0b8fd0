use Rattle.std.proofs.Common.{◌≡◌, ◌≤◌, ◌+◌, ◌++◌, ◌∷◌, [], ℕ, Bool, List, length, take, drop, ap, ◌∙◌, arith, eqb, ◌-◌, subst}
use Rattle.target_machine.specs.declared.access.RegAccess.{RegAccess}
use Rattle.flight_forms.specs.Forms.{parts_of}
use Rattle.flight_forms.specs.Packets.{chain_packets, guarded_command}
use Rattle.probe_core.specs.Packets.{Packets}
use Rattle.batch_packer.proofs.PartLemmas.{fits_left, one_longer, packets_go, part_made, slice_rest}
use Rattle.dap_messages.specs.Commands.{bytes_of_kind}
use Rattle.batch_packer.specs.Queues.{last_kind}
use Rattle.batch_packer.proofs.packing.put_packets.Goals as goal

pub loop-start-preserved : goal.loop-start-preserved
loop-start-preserved c =
    let xs : List RegAccess = c.args.accesses.now in
    let size : ℕ = c.args.packet_size in
    let start : ℕ = c.loop-start.start in
    let len : ℕ = c.first_part-len.result in
    let inv = c.loop-start.invariant in
    let rest : List RegAccess = drop start xs in
    let is_last : Bool = eqb len (length rest) in
    let left : List (List RegAccess) = parts_of size (drop (start + len) xs) in
    let same : take (length xs - start) rest ≡ rest = slice_rest start xs inv.within in
    let within : len ≤ length rest = subst (λ (ys : List RegAccess). len ≤ length ys) same c.first_part-len.ensures.within in
    let part : parts_of size rest ≡ take len rest ∷ parts_of size (drop len rest) =
    subst (λ (ys : List RegAccess). parts_of size ys ≡ take len ys ∷ parts_of size (drop len ys)) same c.first_part-len.ensures.part in
    let made = part_made size start len xs inv.within within part in
    let packet : List ℕ = take c.write_part-size.result c.write_part-size.new.bytes in
    let front : packet ≡ bytes_of_kind (last_kind is_last) (guarded_command (take len rest) ∷ []) =
    subst (λ (ys : List RegAccess). packet ≡ bytes_of_kind (last_kind (eqb len (length ys))) (guarded_command (take len ys) ∷ [])) same c.write_part-size.ensures.front.first in
    let pushed : c.push.new.self.items ≡ c.loop-start.packets.items ++ packet ∷ [] = ap (λ (p : Packets). p.items) c.push.ensures in
    let fits = fits_left 1024 (take len rest) (parts_of size rest) left made.parts inv.fits in
    record {
      whole = packets_go c.loop-start.packets.items c.push.new.self.items packet (take len rest) (parts_of size rest) left (chain_packets (parts_of size xs)) is_last pushed front made.kind made.parts inv.whole;
      within = made.within;
      fits = fits.1;
      room_is = ap (λ (p : Packets). p.room) c.push.ensures ∙ inv.room_is;
      count = (let a = ap length made.parts in let b = one_longer c.loop-start.packets.items c.push.new.self.items packet pushed in let d = inv.count in omega arith);
      requests = c.write_part-size.auto.requests ∙ inv.requests;
      bytes = c.write_part-size.auto.bytes ∙ inv.bytes;
    }
