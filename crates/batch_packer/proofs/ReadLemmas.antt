-- The replies to a chain, read one after the other.
use Rattle.std.proofs.Common.{◌≡◌, ℕ, zero, suc, ◌+◌, ◌-◌, ◌<◌, ◌≤◌, arith, take, drop, length, length-append, length-drop, true, false, cond, get_or, Option, Some, None, List, [], ◌∷◌, ◌++◌, refl, ap, sym, ◌∙◌, subst, slice_get}
use Rattle.target_machine.specs.declared.access.RegAccess.{RegAccess}
use Rattle.dap_messages.specs.declared.command.PacketKind.{PacketKind}
use Rattle.dap_messages.specs.declared.command.PacketKind.TheVariants.{Execute, Queue}
use Rattle.dap_messages.specs.declared.command_value.CommandValue.{CommandValue}
use Rattle.dap_messages.specs.declared.request.Request.{Request}
use Rattle.dap_messages.specs.Commands.{bytes_of_kind}
use Rattle.dap_messages.specs.Requests.{mask_request, match_request}
use Rattle.dap_transfer.specs.Laws.{AreNormal}
use Rattle.flight_forms.proofs.AskedRequests.{payload_normal}
use Rattle.flight_forms.specs.Flights.{Part}
use Rattle.flight_forms.specs.Forms.{filled_parts, parts_of}
use Rattle.flight_forms.specs.Packets.{FitChain, FitsPacket, chain_kind, chain_packets, guarded_command}
use Rattle.flight_forms.specs.Packing.{guarded_requests, payload}
use Rattle.batch_packer.proofs.PartLemmas.{some_filled}
use Rattle.batch_packer.proofs.PacketLemmas.{fits_packet}
use Rattle.batch_packer.specs.ChainReadings.{ended_at, guarded_in, guarded_reading, inner_reply, is_of_one, noted_at, readings_after, then_reading}
use Rattle.batch_packer.specs.Queues.{IsPartPacket}
use Rattle.batch_packer.specs.Readings.{IsPacketOf, IsSeen, IsShown, part_with, reading}
use Rattle.batch_packer.specs.declared.part.FlightProgress.{FlightProgress}
use Rattle.dap_base.proofs.Basics.{first_is}
use Rattle.dap_messages.specs.Responses.{is_good}

-- ---- the payload between the guard and its end

front_of : (n : ℕ) (rs : List Request) → take n (take (n + 1) rs) ≡ take n rs
front_of zero rs = refl
front_of (suc n) [] = let e : suc n + 1 ≡ suc (n + 1) = omega arith in ap (λ k. take {A = Request} (suc n) (take k [])) e
front_of (suc n) (r ∷ rs) = let e : suc n + 1 ≡ suc (n + 1) = omega arith in ap (λ k. take (suc n) (take k (r ∷ rs))) e ∙ ap (λ xs. r ∷ xs) (front_of n rs)

take_own : (n : ℕ) (xs ys : List Request) → n ≡ length xs → take n (xs ++ ys) ≡ xs
take_own zero [] ys e = refl
take_own zero (x ∷ xs) ys e = absurd (omega arith)
take_own (suc n) [] ys e = absurd (omega arith)
take_own (suc n) (x ∷ xs) ys e = ap (λ zs. x ∷ zs) (take_own n xs ys (omega arith))

slice_of : (rs : List Request) (n : ℕ) (xs : List Request) (a b z : Request) → take (suc (suc (n + 1))) rs ≡ a ∷ b ∷ (xs ++ z ∷ []) → n ≡ length xs → take n (drop 2 rs) ≡ xs
slice_of [] n xs a b z e long = absurd (let f = ap length e in omega arith)
slice_of (r ∷ []) n xs a b z e long = absurd (let f = ap length e in omega arith)
slice_of (r ∷ q ∷ rs) n xs a b z e long =
    let rest : take (n + 1) rs ≡ xs ++ z ∷ [] = ap (drop 2) e in
    sym (front_of n rs) ∙ ap (take n) rest ∙ take_own n xs (z ∷ []) long

pub payload_slice : (rs : List Request) (count : ℕ) (accesses : List RegAccess) → take count rs ≡ guarded_requests accesses → count ≡ length (guarded_requests accesses) →
    take (count - 1 - 2) (drop 2 rs) ≡ payload accesses
payload_slice rs count accesses front long =
    let xs : List Request = payload accesses in
    let l = length-append xs (mask_request 0 ∷ []) in
    let n : count - 1 - 2 ≡ length xs = omega arith in
    let k : count ≡ suc (suc (length xs + 1)) = omega arith in
    ap (λ m. take m (drop 2 rs)) n
    ∙ slice_of rs (length xs) xs (match_request false 0x0 0) (mask_request 1) (mask_request 0) (ap (λ m. take m rs) (sym k) ∙ front) refl

pub slice_normal : (rs : List Request) (count : ℕ) (accesses : List RegAccess) → take count rs ≡ guarded_requests accesses → count ≡ length (guarded_requests accesses) →
    AreNormal (take (count - 1 - 2) (drop 2 rs))
slice_normal rs count accesses front long = subst AreNormal (sym (payload_slice rs count accesses front long)) (payload_normal accesses)

-- ---- the two bytes before a reply

pub inner_is : (reply : List ℕ) → 2 ≤ length reply → is_of_one (get_or reply 0 0) (get_or reply 1 0) ≡ true → inner_reply reply ≡ Some (drop 2 reply)
inner_is [] h e = absurd (omega arith)
inner_is (id ∷ []) h e = absurd (omega arith)
inner_is (id ∷ count ∷ reply) h e = ap (λ b. cond b (Some reply) None) e

pub take_bytes : (n : ℕ) (xs : List ℕ) → length xs ≤ n → take n xs ≡ xs
take_bytes zero [] h = refl
take_bytes zero (x ∷ xs) h = absurd (omega arith)
take_bytes (suc n) [] h = refl
take_bytes (suc n) (x ∷ xs) h = ap (λ ys. x ∷ ys) (take_bytes n xs (omega arith))

pub part_shown : (accesses : List RegAccess) (packet reply : List ℕ) (rs : List Request) (count : ℕ) (progress : Option FlightProgress) (old new : List (Option ℕ)) → IsPartPacket accesses packet →
    take count rs ≡ guarded_requests accesses → count ≡ length (guarded_requests accesses) → 2 ≤ length reply → is_of_one (get_or reply 0 0) (get_or reply 1 0) ≡ true →
    ((kind : PacketKind) (command : CommandValue) → IsPacketOf kind (command ∷ []) packet → IsShown (reading command 2 (take (count - 1 - 2) (drop 2 rs)) (take (length reply - 2) (drop 2 reply))) progress old new) →
    IsShown (guarded_reading accesses reply) progress old new
part_shown accesses packet reply rs count progress old new is front long two first shown =
    let left : take (length reply - 2) (drop 2 reply) ≡ drop 2 reply = take_bytes (length reply - 2) (drop 2 reply) (let l = length-drop 2 reply in omega arith) in
    let same : reading (guarded_command accesses) 2 (take (count - 1 - 2) (drop 2 rs)) (take (length reply - 2) (drop 2 reply)) ≡ guarded_reading accesses reply =
    (λ i. reading (guarded_command accesses) 2 (payload_slice rs count accesses front long i) (left i)) ∙ ap (guarded_in accesses) (sym (inner_is reply two first)) in
    subst (λ (x : Option Part). IsShown x progress old new) same (shown is.0 (guarded_command accesses) is.1)

-- ---- packet by packet

drop_at : (i : ℕ) (xs : List (List ℕ)) (x : List ℕ) → slice_get xs i ≡ Some x → drop i xs ≡ x ∷ drop (i + 1) xs
drop_at zero [] x e = absurd (cc)
drop_at zero (y ∷ xs) x e = let same : y ≡ x = some_is y x e in ap (λ z. z ∷ xs) same
  where
    some_is : (a b : List ℕ) → Some a ≡ Some b → a ≡ b
    some_is a b f = cc
drop_at (suc i) [] x e = absurd (cc)
drop_at (suc i) (y ∷ xs) x e = let n : suc i + 1 ≡ suc (i + 1) = omega arith in drop_at i xs x e ∙ ap (λ k. x ∷ drop k (y ∷ xs)) (sym n)

pub rest_some : (size i : ℕ) (packets : List (List ℕ)) (rest : List RegAccess) → drop i packets ≡ chain_packets (parts_of size rest) → i < length packets → 0 < length rest
rest_some size i packets [] e below = absurd (let f = ap length e in let l = length-drop i packets in omega arith)
rest_some size i packets (a ∷ rest) e below = omega arith

kind_fits : (left : List (List RegAccess)) (part : List RegAccess) (packet : List ℕ) → FitsPacket 1024 2 (guarded_command part) → packet ≡ bytes_of_kind (chain_kind left) (guarded_command part ∷ []) →
    IsPartPacket part packet
kind_fits [] part packet fits is = (Execute, fits_packet Execute (guarded_command part) packet 1024 (omega arith) fits is)
kind_fits (other ∷ left) part packet fits is = (Queue, fits_packet Queue (guarded_command part) packet 1024 (omega arith) fits is)

-- the packet of the next part, and those that are left
pub record NextPacket (part : List RegAccess) (left : List (List RegAccess)) (i : ℕ) (packets : List (List ℕ)) (packet : List ℕ) : Type 0 where
  pub is_packet : IsPartPacket part packet
  pub rest : drop (i + 1) packets ≡ chain_packets left

pub next_packet : (i : ℕ) (packets : List (List ℕ)) (packet : List ℕ) (part : List RegAccess) (parts left : List (List RegAccess)) → slice_get packets i ≡ Some packet → drop i packets ≡ chain_packets parts →
    parts ≡ part ∷ left → FitChain 1024 parts → NextPacket part left i packets packet
next_packet i packets packet part parts left at is split fits =
    let both = first_is packet (bytes_of_kind (chain_kind left) (guarded_command part ∷ [])) (drop (i + 1) packets) (chain_packets left) (sym (drop_at i packets packet at) ∙ is ∙ ap chain_packets split) in
    let fit = subst (λ (xs : List (List RegAccess)). FitChain 1024 xs) split fits in
    record {
      is_packet = kind_fits left part packet fit.0 both.0;
      rest = both.1;
    }

-- ---- reply by reply

pub reads_on : (i : ℕ) (replies : List (List ℕ)) (reply : List ℕ) (part : List RegAccess) (parts left : List (List RegAccess)) (sofar next : Part) (found all : Option Part) → slice_get replies i ≡ Some reply →
    parts ≡ part ∷ left → readings_after (Some sofar) parts (drop i replies) ≡ all → then_reading sofar (guarded_reading part reply) ≡ found →
    readings_after found left (drop (i + 1) replies) ≡ all
reads_on i replies reply part parts left sofar next found all at split whole is =
    ap (λ x. readings_after x left (drop (i + 1) replies)) (sym is)
    ∙ (λ j. readings_after (Some sofar) (sym split j) (sym (drop_at i replies reply at) j))
    ∙ whole

seen_some : (found : Option Part) (progress : FlightProgress) (new : List (Option ℕ)) → IsSeen found (Some progress) new → found ≡ Some (part_with progress new)
seen_some None progress new h = absurd h
seen_some (Some part) progress new h = ap Some h

seen_none : (found : Option Part) (new : List (Option ℕ)) → IsSeen found None new → found ≡ None
seen_none None new h = refl
seen_none (Some part) new h = absurd h

pub goes_on : (i : ℕ) (replies : List (List ℕ)) (reply : List ℕ) (part : List RegAccess) (parts left : List (List RegAccess)) (sofar : Part) (progress : FlightProgress) (new : List (Option ℕ)) (all : Option Part) →
    slice_get replies i ≡ Some reply → parts ≡ part ∷ left → readings_after (Some sofar) parts (drop i replies) ≡ all → IsSeen (then_reading sofar (guarded_reading part reply)) (Some progress) new →
    readings_after (Some (part_with progress new)) left (drop (i + 1) replies) ≡ all
goes_on i replies reply part parts left sofar progress new all at split whole seen =
    reads_on i replies reply part parts left sofar sofar (Some (part_with progress new)) all at split whole (seen_some (then_reading sofar (guarded_reading part reply)) progress new seen)

pub stops_at : (i : ℕ) (replies : List (List ℕ)) (reply : List ℕ) (part : List RegAccess) (parts left : List (List RegAccess)) (sofar : Part) (new : List (Option ℕ)) (all : Option Part) →
    slice_get replies i ≡ Some reply → parts ≡ part ∷ left → readings_after (Some sofar) parts (drop i replies) ≡ all → IsSeen (then_reading sofar (guarded_reading part reply)) None new → IsSeen all None new
stops_at i replies reply part parts left sofar new all at split whole seen =
    subst (λ (x : Option Part). IsSeen x None new)
    (reads_on i replies reply part parts left sofar sofar None all at split whole (seen_none (then_reading sofar (guarded_reading part reply)) new seen)) tt

-- ---- the reply at which it ended

ends_on : (i at : ℕ) (replies : List (List ℕ)) (reply : List ℕ) (part : List RegAccess) (parts left : List (List RegAccess)) (sofar : Part) (found : Option Part) (all : ℕ) → slice_get replies i ≡ Some reply →
    parts ≡ part ∷ left → ended_at (Some sofar) i at parts (drop i replies) ≡ all → then_reading sofar (guarded_reading part reply) ≡ found →
    ended_at found (i + 1) (noted_at i at (is_good sofar.response) found) left (drop (i + 1) replies) ≡ all
ends_on i at replies reply part parts left sofar found all here split whole is =
    ap (λ x. ended_at x (i + 1) (noted_at i at (is_good sofar.response) x) left (drop (i + 1) replies)) (sym is)
    ∙ (λ j. ended_at (Some sofar) i at (sym split j) (sym (drop_at i replies reply here) j))
    ∙ whole

pub end_goes_on : (i at noted : ℕ) (replies : List (List ℕ)) (reply : List ℕ) (part : List RegAccess) (parts left : List (List RegAccess)) (sofar : Part) (progress : FlightProgress) (new : List (Option ℕ)) (all : ℕ) →
    slice_get replies i ≡ Some reply → parts ≡ part ∷ left → ended_at (Some sofar) i at parts (drop i replies) ≡ all → noted ≡ cond (is_good sofar.response) i at →
    IsSeen (then_reading sofar (guarded_reading part reply)) (Some progress) new → ended_at (Some (part_with progress new)) (i + 1) noted left (drop (i + 1) replies) ≡ all
end_goes_on i at noted replies reply part parts left sofar progress new all here split whole note seen =
    ap (λ n. ended_at (Some (part_with progress new)) (i + 1) n left (drop (i + 1) replies)) note
    ∙ ends_on i at replies reply part parts left sofar (Some (part_with progress new)) all here split whole (seen_some (then_reading sofar (guarded_reading part reply)) progress new seen)

pub end_stops_at : (i at : ℕ) (replies : List (List ℕ)) (reply : List ℕ) (part : List RegAccess) (parts left : List (List RegAccess)) (sofar : Part) (new : List (Option ℕ)) (all : ℕ) → slice_get replies i ≡ Some reply →
    parts ≡ part ∷ left → ended_at (Some sofar) i at parts (drop i replies) ≡ all → IsSeen (then_reading sofar (guarded_reading part reply)) None new → i ≡ all
end_stops_at i at replies reply part parts left sofar new all here split whole seen =
    ends_on i at replies reply part parts left sofar None all here split whole (seen_none (then_reading sofar (guarded_reading part reply)) new seen)

none_left : (parts : List (List RegAccess)) → [] ≡ chain_packets parts → parts ≡ []
none_left [] e = refl
none_left (part ∷ parts) e = absurd (let f = ap length e in omega arith)

drop_all : (i : ℕ) (xs : List (List ℕ)) → length xs ≤ i → drop i xs ≡ []
drop_all zero [] h = refl
drop_all zero (x ∷ xs) h = absurd (omega arith)
drop_all (suc i) [] h = refl
drop_all (suc i) (x ∷ xs) h = drop_all i xs (omega arith)

pub ends_there : (i : ℕ) (packets replies : List (List ℕ)) (parts : List (List RegAccess)) (progress : FlightProgress) (new : List (Option ℕ)) (all : Option Part) → length replies ≡ length packets → length replies ≤ i →
    drop i packets ≡ chain_packets parts → readings_after (Some (part_with progress new)) parts (drop i replies) ≡ all → IsSeen all (Some progress) new
ends_there i packets replies parts progress new all count past is whole =
    let none : parts ≡ [] = none_left parts (sym (drop_all i packets (omega arith)) ∙ is) in
    let seen : Some (part_with progress new) ≡ all = (λ j. readings_after (Some (part_with progress new)) (sym none j) (sym (drop_all i replies past) j)) ∙ whole in
    subst (λ (x : Option Part). IsSeen x (Some progress) new) seen refl

pub end_is_there : (i at : ℕ) (packets replies : List (List ℕ)) (parts : List (List RegAccess)) (sofar : Part) (all : ℕ) → length replies ≡ length packets → length replies ≤ i → drop i packets ≡ chain_packets parts →
    ended_at (Some sofar) i at parts (drop i replies) ≡ all → at ≡ all
end_is_there i at packets replies parts sofar all count past is whole =
    let none : parts ≡ [] = none_left parts (sym (drop_all i packets (omega arith)) ∙ is) in
    ap (λ xs. ended_at (Some sofar) i at xs (drop i replies)) (sym none) ∙ whole

-- after the last packet no access is left
pub ends_past : (i : ℕ) (packets : List (List ℕ)) (size : ℕ) (rest : List RegAccess) → length packets ≤ i → drop i packets ≡ chain_packets (parts_of size rest) → length rest ≡ 0
ends_past i packets size [] past is = refl
ends_past i packets size (a ∷ rest) past is =
    absurd (let e = ap length (sym (drop_all i packets past) ∙ is) in let k = packets_some (filled_parts size (a ∷ []) rest) (some_filled size (a ∷ []) rest) in omega arith)
  where
    packets_some : (parts : List (List RegAccess)) → 0 < length parts → 0 < length (chain_packets parts)
    packets_some [] h = absurd (omega arith)
    packets_some (part ∷ parts) h = omega arith
