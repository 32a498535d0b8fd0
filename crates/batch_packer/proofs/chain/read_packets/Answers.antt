use Rattle.std.proofs.Common.{◌≡◌, ◌<◌, ◌≤◌, ◌+◌, ◌-◌, ◌∷◌, ℕ, List, length, take, drop, ap, sym, ◌∙◌, arith, subst, Some, None, IfSome, length-drop}
use Rattle.std.proofs.lemmas.List.{length-take-le}
use Rattle.target_machine.specs.declared.access.RegAccess.{RegAccess}
use Rattle.flight_forms.specs.Chains.{nothing_yet}
use Rattle.flight_forms.specs.Forms.{parts_of}
use Rattle.batch_packer.proofs.PartLemmas.{fits_left, part_made, slice_rest}
use Rattle.batch_packer.proofs.ReadLemmas.{end_goes_on, end_is_there, end_stops_at, ends_past, ends_there, goes_on, next_packet, rest_some, stops_at}
use Rattle.batch_packer.proofs.ShortLemmas.{all_short, next_short, some_taken, taken_left}
use Rattle.flight_forms.specs.Flights.{IsPartOf}
use Rattle.flight_forms.specs.Packing.{AreTaken}
use Rattle.batch_packer.specs.ChainReadings.{ended_at, guarded_reading, readings_after, then_reading}
use Rattle.batch_packer.specs.Queues.{IsPartPacket}
use Rattle.batch_packer.specs.Readings.{IsSeen, part_with}
use Rattle.batch_packer.proofs.chain.read_packets.Goals as goal

pub first_part-len-requires-clause-some : goal.first_part-len-requires-clause-some
first_part-len-requires-clause-some c =
    let rest : List RegAccess = drop c.loop-i.start c.args.accesses.now in
    let same = slice_rest c.loop-i.start c.args.accesses.now c.loop-i.invariant.within in
    let below : c.loop-i.i < length c.args.packets.now.items = (let a = c.loop-i-test.true in let b = c.len-i-end.ensures in let d = c.requires.replies in omega arith) in
    subst (λ (ys : List RegAccess). 0 < length ys) (sym same) (rest_some c.args.packet_size c.loop-i.i c.args.packets.now.items rest c.loop-i.invariant.packets below)

pub read_next-requires-clause-part : goal.read_next-requires-clause-part
read_next-requires-clause-part c =
    let rest : List RegAccess = drop c.loop-i.start c.args.accesses.now in
    let len : ℕ = c.first_part-len.result in
    let size : ℕ = c.args.packet_size in
    let same : take (length c.args.accesses.now - c.loop-i.start) rest ≡ rest = slice_rest c.loop-i.start c.args.accesses.now c.loop-i.invariant.within in
    let within : len ≤ length rest = subst (λ (ys : List RegAccess). len ≤ length ys) same c.first_part-len.ensures.within in
    let part : parts_of size rest ≡ take len rest ∷ parts_of size (drop len rest) =
    subst (λ (ys : List RegAccess). parts_of size ys ≡ take len ys ∷ parts_of size (drop len ys)) same c.first_part-len.ensures.part in
    let next = next_packet c.loop-i.i c.args.packets.now.items c.get.result.now (take len rest) (parts_of size rest) (parts_of size (drop len rest)) c.get.ensures.value c.loop-i.invariant.packets part c.loop-i.invariant.fits in
    let taken = taken_left (take len rest) (parts_of size rest) (parts_of size (drop len rest)) part c.loop-i.invariant.taken in
    record {
      is_packet = subst (λ (ys : List RegAccess). IsPartPacket (take len ys) c.get.result.now) (sym same) next.is_packet;
      some = subst (λ (ys : List RegAccess). 0 < length (take len ys)) (sym same) (some_taken len rest c.first_part-len.ensures.some within);
      taken = subst (λ (ys : List RegAccess). AreTaken (take len ys)) (sym same) taken.0;
    }

pub read_next-requires-clause-performed : goal.read_next-requires-clause-performed
read_next-requires-clause-performed c = let a = c.loop-i.invariant.performed in let b = c.loop-i-test.true in let d = c.len-i-end.ensures in let f = c.requires.many in let e = c.requires.replies in omega arith

pub read_next-requires-clause-confirmed : goal.read_next-requires-clause-confirmed
read_next-requires-clause-confirmed c = let a = c.loop-i.invariant.confirmed in let b = c.loop-i-test.true in let d = c.len-i-end.ensures in let f = c.requires.many in let e = c.requires.replies in omega arith

pub returns-in-None-clause-seen : goal.returns-in-None-clause-seen
returns-in-None-clause-seen c =
    let rest : List RegAccess = drop c.loop-i.start c.args.accesses.now in
    let len : ℕ = c.first_part-len.result in
    let size : ℕ = c.args.packet_size in
    let same : take (length c.args.accesses.now - c.loop-i.start) rest ≡ rest = slice_rest c.loop-i.start c.args.accesses.now c.loop-i.invariant.within in
    let part : parts_of size rest ≡ take len rest ∷ parts_of size (drop len rest) =
    subst (λ (ys : List RegAccess). parts_of size ys ≡ take len ys ∷ parts_of size (drop len ys)) same c.first_part-len.ensures.part in
    let seen : IsSeen (then_reading (part_with c.loop-i.so_far c.loop-i.slots.values) (guarded_reading (take len rest) c.get-in-loop-i.result.now)) None c.read_next.new.slots.values =
    subst (λ (ys : List RegAccess). IsSeen (then_reading (part_with c.loop-i.so_far c.loop-i.slots.values) (guarded_reading (take len ys) c.get-in-loop-i.result.now)) None c.read_next.new.slots.values) same c.in-None.ensures.seen in
    stops_at c.loop-i.i c.args.replies.now.items c.get-in-loop-i.result.now (take len rest) (parts_of size rest) (parts_of size (drop len rest)) (part_with c.loop-i.so_far c.loop-i.slots.values) c.read_next.new.slots.values
    (readings_after (Some nothing_yet) (parts_of size c.args.accesses.now) c.args.replies.now.items) c.get-in-loop-i.ensures.value part c.loop-i.invariant.whole seen

pub returns-in-None-clause-at : goal.returns-in-None-clause-at
returns-in-None-clause-at c =
    let rest : List RegAccess = drop c.loop-i.start c.args.accesses.now in
    let len : ℕ = c.first_part-len.result in
    let size : ℕ = c.args.packet_size in
    let same : take (length c.args.accesses.now - c.loop-i.start) rest ≡ rest = slice_rest c.loop-i.start c.args.accesses.now c.loop-i.invariant.within in
    let part : parts_of size rest ≡ take len rest ∷ parts_of size (drop len rest) =
    subst (λ (ys : List RegAccess). parts_of size ys ≡ take len ys ∷ parts_of size (drop len ys)) same c.first_part-len.ensures.part in
    let seen : IsSeen (then_reading (part_with c.loop-i.so_far c.loop-i.slots.values) (guarded_reading (take len rest) c.get-in-loop-i.result.now)) None c.read_next.new.slots.values =
    subst (λ (ys : List RegAccess). IsSeen (then_reading (part_with c.loop-i.so_far c.loop-i.slots.values) (guarded_reading (take len ys) c.get-in-loop-i.result.now)) None c.read_next.new.slots.values) same c.in-None.ensures.seen in
    end_stops_at c.loop-i.i c.loop-i.at c.args.replies.now.items c.get-in-loop-i.result.now (take len rest) (parts_of size rest) (parts_of size (drop len rest)) (part_with c.loop-i.so_far c.loop-i.slots.values) c.read_next.new.slots.values
    (ended_at (Some nothing_yet) 0 0 (parts_of size c.args.accesses.now) c.args.replies.now.items) c.get-in-loop-i.ensures.value part c.loop-i.invariant.at_is seen

pub loop-i-preserved : goal.loop-i-preserved
loop-i-preserved c =
    let xs : List RegAccess = c.args.accesses.now in
    let start : ℕ = c.loop-i.start in
    let rest : List RegAccess = drop start xs in
    let len : ℕ = c.first_part-len.result in
    let size : ℕ = c.args.packet_size in
    let inv = c.loop-i.invariant in
    let same : take (length xs - start) rest ≡ rest = slice_rest start xs inv.within in
    let part : parts_of size rest ≡ take len rest ∷ parts_of size (drop len rest) =
    subst (λ (ys : List RegAccess). parts_of size ys ≡ take len ys ∷ parts_of size (drop len ys)) same c.first_part-len.ensures.part in
    let within : len ≤ length rest = subst (λ (ys : List RegAccess). len ≤ length ys) same c.first_part-len.ensures.within in
    let made = part_made size start len xs inv.within within part in
    let left : List (List RegAccess) = parts_of size (drop (start + len) xs) in
    let next = next_packet c.loop-i.i c.args.packets.now.items c.get.result.now (take len rest) (parts_of size rest) left c.get.ensures.value inv.packets made.parts inv.fits in
    let fits = fits_left 1024 (take len rest) (parts_of size rest) left made.parts inv.fits in
    let seen : IsSeen (then_reading (part_with c.loop-i.so_far c.loop-i.slots.values) (guarded_reading (take len rest) c.get-in-loop-i.result.now)) (Some c.in-Some.progress) c.read_next.new.slots.values =
    subst (λ (ys : List RegAccess). IsSeen (then_reading (part_with c.loop-i.so_far c.loop-i.slots.values) (guarded_reading (take len ys) c.get-in-loop-i.result.now)) (Some c.in-Some.progress) c.read_next.new.slots.values) same c.in-Some.ensures.seen in
    let few = c.in-Some.ensures.few in
    let taken = taken_left (take len rest) (parts_of size rest) left made.parts inv.taken in
    let short : IfSome (guarded_reading (take len rest) c.get-in-loop-i.result.now) (IsPartOf (length (take len rest))) =
    subst (λ (ys : List RegAccess). IfSome (guarded_reading (take len ys) c.get-in-loop-i.result.now) (IsPartOf (length (take len ys)))) same c.in-Some.ensures.short in
    record {
      whole = goes_on c.loop-i.i c.args.replies.now.items c.get-in-loop-i.result.now (take len rest) (parts_of size rest) left (part_with c.loop-i.so_far c.loop-i.slots.values) c.in-Some.progress c.read_next.new.slots.values
          (readings_after (Some nothing_yet) (parts_of size xs) c.args.replies.now.items) c.get-in-loop-i.ensures.value made.parts inv.whole seen;
      at_is = end_goes_on c.loop-i.i c.loop-i.at c.mark.new.at c.args.replies.now.items c.get-in-loop-i.result.now (take len rest) (parts_of size rest) left (part_with c.loop-i.so_far c.loop-i.slots.values) c.in-Some.progress
          c.read_next.new.slots.values (ended_at (Some nothing_yet) 0 0 (parts_of size xs) c.args.replies.now.items) c.get-in-loop-i.ensures.value made.parts inv.at_is c.mark.ensures seen;
      packets = next.rest;
      within = made.within;
      fits = fits.1;
      taken = taken.1;
      short = all_short (start + length (take len rest)) (start + len) c.in-Some.progress c.read_next.new.slots.values (ap (λ n. start + n) (length-take-le len rest within))
          (next_short start (length (take len rest)) (part_with c.loop-i.so_far c.loop-i.slots.values) (guarded_reading (take len rest) c.get-in-loop-i.result.now) c.in-Some.progress c.read_next.new.slots.values seen short inv.short);
      performed = (let a = few.performed in let b = inv.performed in omega arith);
      confirmed = (let a = few.confirmed in let b = inv.confirmed in omega arith);
      values = (let a = c.in-Some.ensures.values in let b = inv.values in omega arith);
      requests = c.read_next.auto.requests ∙ inv.requests;
      room_is = c.read_next.ensures.room ∙ inv.room_is;
    }

pub returns-clause-seen : goal.returns-clause-seen
returns-clause-seen c =
    let inv = c.loop-i.invariant in
    ends_there c.loop-i.i c.args.packets.now.items c.args.replies.now.items (parts_of c.args.packet_size (drop c.loop-i.start c.args.accesses.now)) c.loop-i.so_far c.loop-i.slots.values
    (readings_after (Some nothing_yet) (parts_of c.args.packet_size c.args.accesses.now) c.args.replies.now.items) c.requires.replies (let a = c.loop-i-test.false in let b = c.len-i-end.ensures in omega arith)
    inv.packets inv.whole

pub returns-clause-at : goal.returns-clause-at
returns-clause-at c =
    let inv = c.loop-i.invariant in
    end_is_there c.loop-i.i c.loop-i.at c.args.packets.now.items c.args.replies.now.items (parts_of c.args.packet_size (drop c.loop-i.start c.args.accesses.now)) (part_with c.loop-i.so_far c.loop-i.slots.values)
    (ended_at (Some nothing_yet) 0 0 (parts_of c.args.packet_size c.args.accesses.now) c.args.replies.now.items) c.requires.replies (let a = c.loop-i-test.false in let b = c.len-i-end.ensures in omega arith)
    inv.packets inv.at_is

pub returns-clause-short : goal.returns-clause-short
returns-clause-short c =
    let inv = c.loop-i.invariant in
    let none = ends_past c.loop-i.i c.args.packets.now.items c.args.packet_size (drop c.loop-i.start c.args.accesses.now) (let a = c.loop-i-test.false in let b = c.len-i-end.ensures in let d = c.requires.replies in omega arith) inv.packets in
    all_short c.loop-i.start (length c.args.accesses.now) c.loop-i.so_far c.loop-i.slots.values (let l = length-drop c.loop-i.start c.args.accesses.now in let w = inv.within in omega arith) inv.short
