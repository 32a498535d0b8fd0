-- A chain of held packets: what a probe answers to it, and what the replies show.
use Rattle.std.proofs.Common.{◌≡◌, ℕ, zero, suc, ◌+◌, ◌≤◌, ◌⊎◌, inl, inr, arith, take, drop, length, true, false, Option, Some, List, [], ◌∷◌, ◌++◌, fold, map, refl, ap, sym, ◌∙◌, append_assoc, append-nil}
use Rattle.std.specs.List.{AllByRecursion}
use Rattle.target_machine.specs.declared.access.RegAccess.{RegAccess}
use Rattle.dap_replies.proofs.ReplyAgain.{reply_complete}
use Rattle.dap_messages.specs.declared.command.PacketKind.{PacketKind}
use Rattle.dap_messages.specs.declared.command.PacketKind.TheVariants.{Execute, Queue}
use Rattle.dap_messages.specs.declared.request.Response.{Response}
use Rattle.dap_messages.specs.declared.request.Response.TheVariants.{Good, Wait, Fault, Mismatch}
use Rattle.dap_messages.specs.Commands.{IsCommand, bytes_of_kind}
use Rattle.dap_messages.specs.Replies.{Answers, reply_bytes}
use Rattle.dap_replies.specs.ReplyViews.{reply_shown}
use Rattle.dap_replies.proofs.ReplyLaws.{response-code}
use Rattle.dap_transfer.specs.State.{TransferState, Transferred}
use Rattle.dap_transfer.specs.Transfer.{transfer_result}
use Rattle.probe_core.specs.Bench.{BenchState, counted_up, bench_after_reply, bench_after_packet}
use Rattle.probe_core.specs.Commands.{with_transfers}
use Rattle.probe_core.specs.Packet.{probe_after_packet, after_packets, packet_answer, replies_to}
use Rattle.probe_core.specs.Probe.{ExecutorState, ProbeState}
use Rattle.flight_forms.specs.Chains.{CutAs, IsCutOnce, IsShut, chain_after, chain_part, chain_replies, guarded_part, joined_as, nothing_yet}
use Rattle.flight_forms.specs.Flights.{Part}
use Rattle.flight_forms.specs.Packets.{AnswerChain, FitChain, FitsPacket, chain_kind, chain_packets, guarded_command, transfer_answer}
use Rattle.flight_forms.specs.Packing.{guarded_requests, payload}
use Rattle.batch_packer.proofs.PacketLemmas.{answered_one}
use Rattle.batch_packer.specs.ChainReadings.{guarded_reading, is_mismatch, joined_if, readings_after, then_reading}
use Rattle.batch_packer.specs.Queues.{HandedSome}
use Rattle.batch_packer.specs.Readings.{part_as, part_in, shown_in}
use Rattle.dap_messages.specs.Responses.{is_good}

-- the reply to a packet of a chain
abbrev pub guarded_reply : Transferred → List ℕ
guarded_reply d = 0x7F ∷ 1 ∷ reply_bytes (transfer_answer d)

-- ---- one packet

queue_answered : (k : PacketKind) (e : ExecutorState) (accesses : List RegAccess) → e.limits.packet_size ≤ 1024 → FitsPacket e.limits.packet_size 2 (guarded_command accesses) →
    (k ≡ Execute) ⊎ (k ≡ Queue) → packet_answer e (bytes_of_kind k (guarded_command accesses ∷ []))
    ≡ (let d = transfer_result e.transfers (guarded_requests accesses) in record { reply = guarded_reply d; next = with_transfers e d.next })
queue_answered k e accesses size fits (inl is) =
    let d : Transferred = transfer_result e.transfers (guarded_requests accesses) in
    ap (λ j. packet_answer e (bytes_of_kind j (guarded_command accesses ∷ []))) is
    ∙ answered_one e Execute (guarded_command accesses) (bytes_of_kind Execute (guarded_command accesses ∷ [])) size fits refl
    ∙ ap (λ bytes. record { reply = 0x7F ∷ 1 ∷ bytes; next = with_transfers e d.next }) (append-nil (reply_bytes (transfer_answer d)))
queue_answered k e accesses size fits (inr is) =
    let d : Transferred = transfer_result e.transfers (guarded_requests accesses) in
    ap (λ j. packet_answer e (bytes_of_kind j (guarded_command accesses ∷ []))) is
    ∙ answered_one e Queue (guarded_command accesses) (bytes_of_kind Queue (guarded_command accesses ∷ [])) size fits refl
    ∙ ap (λ bytes. record { reply = 0x7F ∷ 1 ∷ bytes; next = with_transfers e d.next }) (append-nil (reply_bytes (transfer_answer d)))

pub chain_kinds : (parts : List (List RegAccess)) → (chain_kind parts ≡ Execute) ⊎ (chain_kind parts ≡ Queue)
chain_kinds [] = inl refl
chain_kinds (accesses ∷ parts) = inr refl

-- a chain, when it is run: its replies, and what executes the next packet
pub chain_answered : (e : ExecutorState) (parts : List (List RegAccess)) → e.limits.packet_size ≤ 1024 → FitChain e.limits.packet_size parts →
    (replies_to e (chain_packets parts) ≡ map guarded_reply (chain_replies e.transfers parts)) × (after_packets e (chain_packets parts) ≡ with_transfers e (chain_after e.transfers parts))
chain_answered e [] size fits = (refl, refl)
chain_answered e (accesses ∷ parts) size fits =
    let d : Transferred = transfer_result e.transfers (guarded_requests accesses) in
    let one = queue_answered (chain_kind parts) e accesses size fits.0 (chain_kinds parts) in
    let rest = chain_answered (with_transfers e d.next) parts size fits.1 in (
      (λ i. (one i).reply ∷ replies_to (one i).next (chain_packets parts)) ∙ ap (λ xs. guarded_reply d ∷ xs) rest.0,
      ap (λ x. after_packets x.next (chain_packets parts)) one ∙ rest.1,
    )

-- ---- the whole chain

-- after all packets of a chain: those that were held have run with the last
abbrev queue_run : ProbeState → List (List ℕ) → ProbeState
queue_run p packets = record { executor = after_packets p.executor packets; held = []; waiting = replies_to p.executor packets }

chain_accepted : (p : ProbeState) (accesses : List RegAccess) (parts : List (List RegAccess)) → p.waiting ≡ [] →
    fold probe_after_packet p (chain_packets (accesses ∷ parts)) ≡ queue_run p (p.held ++ chain_packets (accesses ∷ parts))
chain_accepted p accesses [] none = ap (λ ws. record (queue_run p (p.held ++ chain_packets (accesses ∷ []))) { waiting = ws ++ replies_to p.executor (p.held ++ chain_packets (accesses ∷ [])) }) none
chain_accepted p accesses (next ∷ parts) none =
    let packet : List ℕ = bytes_of_kind Queue (guarded_command accesses ∷ []) in
    chain_accepted (record p { held = p.held ++ packet ∷ [] }) next parts none
    ∙ ap (queue_run p) (append_assoc p.held (packet ∷ []) (chain_packets (next ∷ parts)))

-- an idle probe after all packets of a chain
abbrev pub chain_taken : ProbeState → List (List RegAccess) → ProbeState
chain_taken p parts = record {
  executor = with_transfers p.executor (chain_after p.executor.transfers parts);
  held = [];
  waiting = map guarded_reply (chain_replies p.executor.transfers parts);
}

pub chain_ran : (p : ProbeState) (accesses : List RegAccess) (parts : List (List RegAccess)) → p.held ≡ [] → p.waiting ≡ [] → p.executor.limits.packet_size ≤ 1024 →
    FitChain p.executor.limits.packet_size (accesses ∷ parts) → fold probe_after_packet p (chain_packets (accesses ∷ parts)) ≡ chain_taken p (accesses ∷ parts)
chain_ran p accesses parts held waiting size fits =
    let ran = chain_answered p.executor (accesses ∷ parts) size fits in
    chain_accepted p accesses parts waiting
    ∙ ap (λ hs. queue_run p (hs ++ chain_packets (accesses ∷ parts))) held
    ∙ (λ i. record { executor = ran.1 i; held = []; waiting = ran.0 i })

pub served_probe : (m : BenchState) (packets : List (List ℕ)) → (fold bench_after_packet m packets).probe ≡ fold probe_after_packet m.probe packets
served_probe m [] = refl
served_probe m (x ∷ packets) = served_probe (bench_after_packet m x) packets

pub drop_twice : (n : ℕ) (xs : List (List ℕ)) → drop n (drop 1 xs) ≡ drop (suc n) xs
drop_twice zero [] = refl
drop_twice (suc n) [] = refl
drop_twice n (y ∷ xs) = refl

handed_probe : (m : BenchState) (replies : List (List ℕ)) → (fold bench_after_reply m replies).probe ≡ record m.probe { waiting = drop (length replies) m.probe.waiting }
handed_probe m [] = refl
handed_probe m (x ∷ replies) = handed_probe (bench_after_reply m x) replies ∙ ap (λ ws. record m.probe { waiting = ws }) (drop_twice (length replies) m.probe.waiting)

handed_starting : (m : BenchState) (replies : List (List ℕ)) → (fold bench_after_reply m replies).starting ≡ m.starting
handed_starting m [] = refl
handed_starting m (x ∷ replies) = handed_starting (bench_after_reply m x) replies

-- one of the packets of a chain is a starting packet, the last
chain_starting : (m : BenchState) (accesses : List RegAccess) (parts : List (List RegAccess)) → (fold bench_after_packet m (chain_packets (accesses ∷ parts))).starting ≡ counted_up m.starting
chain_starting m accesses [] = refl
chain_starting m accesses (next ∷ parts) = chain_starting (bench_after_packet m (bytes_of_kind Queue (guarded_command accesses ∷ []))) next parts

take_exact : (n : ℕ) (xs : List (List ℕ)) → n ≡ length xs → take n xs ≡ xs
take_exact zero [] e = refl
take_exact zero (x ∷ xs) e = absurd (omega arith)
take_exact (suc n) [] e = absurd (omega arith)
take_exact (suc n) (x ∷ xs) e = ap (λ ys. x ∷ ys) (take_exact n xs (omega arith))

drop_exact : (n : ℕ) (xs : List (List ℕ)) → n ≡ length xs → drop n xs ≡ []
drop_exact zero [] e = refl
drop_exact zero (x ∷ xs) e = absurd (omega arith)
drop_exact (suc n) [] e = refl
drop_exact (suc n) (x ∷ xs) e = drop_exact n xs (omega arith)

reply_count : (p : TransferState) (parts : List (List RegAccess)) → length (map guarded_reply (chain_replies p parts)) ≡ length parts
reply_count p [] = refl
reply_count p (accesses ∷ parts) = ap suc (reply_count (transfer_result p (guarded_requests accesses)).next parts)

-- after a chain of which every reply was taken
pub record ChainTaken (parts : List (List RegAccess)) (replies : List (List ℕ)) (m o : BenchState) : Type 0 where
  pub replies_are : replies ≡ map guarded_reply (chain_replies m.probe.executor.transfers parts)
  pub probe : o.probe ≡ record { executor = with_transfers m.probe.executor (chain_after m.probe.executor.transfers parts); held = []; waiting = [] }
  pub starting : o.starting ≡ counted_up m.starting

pub chain_flown : (m n o : BenchState) (accesses : List RegAccess) (parts : List (List RegAccess)) (replies : List (List ℕ)) → m.probe.held ≡ [] → m.probe.waiting ≡ [] →
    m.probe.executor.limits.packet_size ≤ 1024 → FitChain m.probe.executor.limits.packet_size (accesses ∷ parts) → n ≡ fold bench_after_packet m (chain_packets (accesses ∷ parts)) →
    HandedSome replies n o → length replies ≡ length (accesses ∷ parts) → ChainTaken (accesses ∷ parts) replies m o
chain_flown m n o accesses parts replies held waiting size fits sent_is handed_is count =
    let all : List (List ℕ) = map guarded_reply (chain_replies m.probe.executor.transfers (accesses ∷ parts)) in
    let probe : n.probe ≡ chain_taken m.probe (accesses ∷ parts) =
    ap (λ (b : BenchState). b.probe) sent_is ∙ served_probe m (chain_packets (accesses ∷ parts)) ∙ chain_ran m.probe accesses parts held waiting size fits in
    let waits : n.probe.waiting ≡ all = ap (λ (p : ProbeState). p.waiting) probe in
    let whole : length replies ≡ length all = count ∙ sym (reply_count m.probe.executor.transfers (accesses ∷ parts)) in
    let last : o.probe ≡ record n.probe { waiting = drop (length replies) n.probe.waiting } = ap (λ (b : BenchState). b.probe) handed_is.next ∙ handed_probe n replies in
    record {
      replies_are = sym handed_is.front ∙ ap (take (length replies)) waits ∙ take_exact (length replies) all whole;
      probe = last ∙ ap (λ (p : ProbeState). record p { waiting = drop (length replies) p.waiting }) probe
          ∙ ap (λ ws. record { executor = with_transfers m.probe.executor (chain_after m.probe.executor.transfers (accesses ∷ parts)); held = []; waiting = ws }) (drop_exact (length replies) all whole);
      starting = ap (λ (b : BenchState). b.starting) handed_is.next ∙ handed_starting n replies ∙ ap (λ (b : BenchState). b.starting) sent_is ∙ chain_starting m accesses parts;
    }

-- ---- what the replies show

pub reads_guarded : (accesses : List RegAccess) (d : Transferred) → IsCommand (guarded_command accesses) → Answers (guarded_command accesses) (transfer_answer d) →
    guarded_reading accesses (guarded_reply d) ≡ Some (guarded_part accesses d)
reads_guarded accesses d command may =
    ap (λ x. part_in 2 (payload accesses) (shown_in x)) (reply_complete (guarded_command accesses) (transfer_answer d) command may)
    ∙ ap (part_as 2 (payload accesses) (reply_shown (transfer_answer d))) (response-code d.response)

joined_after : (a b c : Part) → joined_as Good (joined_as Good a b) c ≡ joined_as Good a (joined_as Good b c)
joined_after a b c =
    let p : (a.performed + b.performed) + c.performed ≡ a.performed + (b.performed + c.performed) = omega arith in
    let k : (a.confirmed + b.confirmed) + c.confirmed ≡ a.confirmed + (b.confirmed + c.confirmed) = omega arith in
    let v = append_assoc a.values b.values c.values in
    λ i. record { performed = p i; confirmed = k i; response = c.response; values = v i }

joined_last : (a : Part) → a.response ≡ Good → joined_as Good a nothing_yet ≡ a
joined_last a good =
    let p : a.performed + 0 ≡ a.performed = omega arith in
    let k : a.confirmed + 0 ≡ a.confirmed = omega arith in
    let v = append-nil a.values in
    λ i. record { performed = p i; confirmed = k i; response = sym good i; values = v i }

joined_first : (a : Part) → joined_as Good nothing_yet a ≡ a
joined_first a =
    let p : 0 + a.performed ≡ a.performed = omega arith in
    let k : 0 + a.confirmed ≡ a.confirmed = omega arith in
    λ i. record { performed = p i; confirmed = k i; response = a.response; values = a.values }

then_good : (sofar : Part) (next : Part) (found : Option Part) → sofar.response ≡ Good → found ≡ Some next → (next.response ≡ Mismatch → ⊥) → then_reading sofar found ≡ Some (joined_as Good sofar next)
then_good sofar next found good is never =
    ap (then_reading sofar) is
    ∙ ap (λ x. joined_if (is_good x) (is_mismatch next.response) sofar next) good
    ∙ by_response next.response never
  where
    by_response : (x : Response) → (x ≡ Mismatch → ⊥) → joined_if true (is_mismatch x) sofar next ≡ Some (joined_as Good sofar next)
    by_response Good f = refl
    by_response Wait f = refl
    by_response Fault f = refl
    by_response Mismatch f = absurd (f refl)

then_shut : (sofar next : Part) (found : Option Part) → is_good sofar.response ≡ false → found ≡ Some next → next.response ≡ Mismatch → then_reading sofar found ≡ Some sofar
then_shut sofar next found cut is shut =
    ap (then_reading sofar) is ∙ (λ i. joined_if (cut i) (is_mismatch (shut i)) sofar next)

-- after one that was cut
shut_readings : (p : TransferState) (parts : List (List RegAccess)) (sofar : Part) (size : ℕ) → FitChain size parts → AnswerChain parts (chain_replies p parts) →
    AllByRecursion IsShut (chain_replies p parts) → is_good sofar.response ≡ false → readings_after (Some sofar) parts (map guarded_reply (chain_replies p parts)) ≡ Some sofar
shut_readings p [] sofar size fits may shut cut = refl
shut_readings p (accesses ∷ parts) sofar size fits may shut cut =
    let d : Transferred = transfer_result p (guarded_requests accesses) in
    let fit = fits.0 in
    let one = shut.0 in
    ap (λ x. readings_after x parts (map guarded_reply (chain_replies d.next parts)))
    (then_shut sofar (guarded_part accesses d) (guarded_reading accesses (guarded_reply d)) cut (reads_guarded accesses d fit.command may.0) one.response)
    ∙ shut_readings d.next parts sofar size fits.1 may.1 shut.1 cut

abbrev Shows : TransferState → List (List RegAccess) → Part → Type 0
Shows p parts sofar = readings_after (Some sofar) parts (map guarded_reply (chain_replies p parts)) ≡ Some (joined_as Good sofar (chain_part parts (chain_replies p parts)))

-- what the replies of a chain show is the part that it did
pub chain_shows : (p : TransferState) (parts : List (List RegAccess)) (sofar : Part) (size : ℕ) → FitChain size parts → AnswerChain parts (chain_replies p parts) → IsCutOnce (chain_replies p parts) →
    sofar.response ≡ Good → Shows p parts sofar
chain_shows p [] sofar size fits may cut good = ap Some (sym (joined_last sofar good))
chain_shows p (accesses ∷ parts) sofar size fits may cut good =
    by_response (transfer_result p (guarded_requests accesses)).response refl cut
    (λ (next : Part) (rest : IsCutOnce (chain_replies (transfer_result p (guarded_requests accesses)).next parts)) (g : next.response ≡ Good).
    chain_shows (transfer_result p (guarded_requests accesses)).next parts next size fits.1 may.1 rest g)
  where
    d : Transferred
    d = transfer_result p (guarded_requests accesses)

    first : (found : Option Part) → then_reading sofar (guarded_reading accesses (guarded_reply d)) ≡ found →
        readings_after (Some sofar) (accesses ∷ parts) (map guarded_reply (chain_replies p (accesses ∷ parts))) ≡ readings_after found parts (map guarded_reply (chain_replies d.next parts))
    first found e = ap (λ x. readings_after x parts (map guarded_reply (chain_replies d.next parts))) e

    shown_first : guarded_reading accesses (guarded_reply d) ≡ Some (guarded_part accesses d)
    shown_first = let fit = fits.0 in reads_guarded accesses d fit.command may.0

    by_response : (x : Response) → d.response ≡ x → CutAs x (chain_replies d.next parts) (IsCutOnce (chain_replies d.next parts)) →
        ((next : Part) → IsCutOnce (chain_replies d.next parts) → next.response ≡ Good → Shows d.next parts next) → Shows p (accesses ∷ parts) sofar
    by_response Good e c ih =
        first (Some (joined_as Good sofar (guarded_part accesses d))) (then_good sofar (guarded_part accesses d) (guarded_reading accesses (guarded_reply d)) good shown_first (λ f. absurd (let g : ◌≡◌ {A = Response} Good Mismatch = sym e ∙ f in cc)))
        ∙ ih (joined_as Good sofar (guarded_part accesses d)) c e
        ∙ ap Some (joined_after sofar (guarded_part accesses d) (chain_part parts (chain_replies d.next parts)))
        ∙ ap (λ x. Some (joined_as Good sofar (joined_as x (guarded_part accesses d) (chain_part parts (chain_replies d.next parts))))) (sym e)
    by_response Wait e c ih =
        first (Some (joined_as Good sofar (guarded_part accesses d))) (then_good sofar (guarded_part accesses d) (guarded_reading accesses (guarded_reply d)) good shown_first (λ f. absurd (let g : ◌≡◌ {A = Response} Wait Mismatch = sym e ∙ f in cc)))
        ∙ shut_readings d.next parts (joined_as Good sofar (guarded_part accesses d)) size fits.1 may.1 c (ap is_good e)
        ∙ ap (λ x. Some (joined_as Good sofar (joined_as x (guarded_part accesses d) (chain_part parts (chain_replies d.next parts))))) (sym e)
    by_response Fault e c ih =
        first (Some (joined_as Good sofar (guarded_part accesses d))) (then_good sofar (guarded_part accesses d) (guarded_reading accesses (guarded_reply d)) good shown_first (λ f. absurd (let g : ◌≡◌ {A = Response} Fault Mismatch = sym e ∙ f in cc)))
        ∙ shut_readings d.next parts (joined_as Good sofar (guarded_part accesses d)) size fits.1 may.1 c (ap is_good e)
        ∙ ap (λ x. Some (joined_as Good sofar (joined_as x (guarded_part accesses d) (chain_part parts (chain_replies d.next parts))))) (sym e)
    by_response Mismatch e c ih = absurd c

-- from the first reply on
pub whole_chain_shows : (p : TransferState) (parts : List (List RegAccess)) (size : ℕ) → FitChain size parts → AnswerChain parts (chain_replies p parts) → IsCutOnce (chain_replies p parts) →
    readings_after (Some nothing_yet) parts (map guarded_reply (chain_replies p parts)) ≡ Some (chain_part parts (chain_replies p parts))
whole_chain_shows p parts size fits may cut = chain_shows p parts nothing_yet size fits may cut refl ∙ ap Some (joined_first (chain_part parts (chain_replies p parts)))
