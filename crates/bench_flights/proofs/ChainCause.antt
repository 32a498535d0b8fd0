-- What the replies of a chain show of the end of its flight.
use Rattle.std.proofs.Common.{◌≡◌, ◌⊎◌, inl, inr, ◌∙◌, ℕ, zero, suc, ◌+◌, ◌<◌, ◌≤◌, Bool, true, false, cond, List, [], ◌∷◌, length, Option, Some, None, Ok, Err, Result, refl, sym, ap, subst, arith, append-nil}
use Rattle.std.specs.Prelude.{◌&&◌, ◌||◌, ◌==◌, slice_get}
use Rattle.std.specs.List.{concat, list_any}
use Rattle.std.proofs.lemmas.Bool.{eq-eqb, eqb-true}
use Rattle.target_machine.specs.declared.access.RegAccess.{RegAccess}
use Rattle.dap_messages.specs.Commands.{Packet, bytes_of_kind}
use Rattle.dap_messages.specs.PacketReading.{packet_read}
use Rattle.dap_messages.specs.Replies.{kind_at, may_end, may_end_block, passes, progress_at}
use Rattle.dap_replies.specs.ReplyViews.{Shown}
use Rattle.dap_replies.specs.ReplyReading.{is_missing, reply_read}
use Rattle.dap_messages.specs.Requests.{is_match, kind}
use Rattle.dap_messages.specs.Responses.{code_of, response_of, is_good}
use Rattle.dap_messages.specs.declared.command.PacketKind.{PacketKind}
use Rattle.dap_messages.specs.declared.command.PacketKind.TheVariants.{Plain, Execute, Queue}
use Rattle.dap_messages.specs.declared.command_value.CommandValue.{CommandValue}
use Rattle.dap_messages.specs.declared.error.MessageError.{MessageError}
use Rattle.dap_messages.specs.declared.request.Response.{Response}
use Rattle.dap_messages.specs.declared.request.Response.TheVariants.{Good, Wait, Fault, Mismatch}
use Rattle.dap_replies.proofs.ReplyLaws.{response-code, response_is}
use Rattle.flight_forms.specs.Chains.{joined_as, nothing_yet}
use Rattle.flight_forms.specs.Flights.{Part}
use Rattle.flight_forms.specs.Packets.{FitChain, block_command, chain_kind, chain_packets, guarded_command, transfer_command}
use Rattle.flight_forms.specs.Packing.{guarded_requests, payload, requests_for}
use Rattle.flight_forms.proofs.AskedRequests.{are_normal, payload_normal}
use Rattle.flight_forms.proofs.GuardedShortness.{normal_or_mask}
use Rattle.flight_forms.proofs.Shortness.{normal_kind}
use Rattle.probe_core.specs.Bench.{Exchange}
use Rattle.access_calls.specs.Causes.{AllWholeBefore, AreReplies, BreaksQueue, HasFront, HasResponse, IsBadReply, ReplyShows, ShowsAt, is_queue, is_shut, is_whole}
use Rattle.batch_packer.specs.ChainReadings.{ended_at, guarded_in, guarded_reading, inner_reply, is_mismatch, joined_if, noted_at, readings_after, then_reading}
use Rattle.batch_packer.proofs.PacketLemmas.{fits_packet, reads_packet}
use Rattle.batch_packer.specs.Readings.{part_as, part_in, shown_in}
use Rattle.bench_flights.proofs.CauseLemmas.{IsShownAt}
use Rattle.bench_flights.proofs.ReplyReads.{block_read, transfer_read}
use Rattle.batch_packer.proofs.ChainBench.{packet_count}

-- ---- no access of a flight is a value match

-- of a guarded command only the first request is one
first_matches : (accesses : List RegAccess) (n : ℕ) → passes is_match (kind_at (guarded_requests accesses) n) ≡ true → n ≡ 0
first_matches accesses zero h = refl
first_matches accesses (suc zero) h = absurd (cc)
first_matches accesses (suc (suc n)) h = absurd (let e = normal_or_mask n (payload accesses) (payload_normal accesses) in cc (e, h))

-- ---- what one reply shows

-- a view of a reply to a command of a flight has this response
pub record HasView (view : Shown) (response : Response) : Type 0 where
  pub code : view.response ≡ code_of response
  pub named : response_of view.response ≡ Some response
  pub shut : response ≡ Mismatch → view.count ≡ 0

guarded_view : (accesses : List RegAccess) (bytes : List ℕ) (view : Shown) → reply_read (guarded_command accesses) bytes ≡ Ok view → (r : Response) × HasView view r
guarded_view accesses bytes view e =
    let t = transfer_read (guarded_requests accesses) bytes view e in (
      t.response,
      record {
        code = t.response_is;
        named = ap response_of t.response_is ∙ response-code t.response;
        shut = λ mismatch. t.count_is ∙ first_matches accesses t.count (subst (λ (r : Response). may_end r (progress_at (guarded_requests accesses) t.count) (is_missing r (progress_at (guarded_requests accesses) t.count) t.rest) ≡ true) mismatch t.ends);
      },
    )

-- in one Transfer no reply says that a match was not met
pub transfer_view : (accesses : List RegAccess) (bytes : List ℕ) (view : Shown) → reply_read (transfer_command accesses) bytes ≡ Ok view → (r : Response) × (view.response ≡ code_of r) × (r ≡ Mismatch → ⊥)
transfer_view accesses bytes view e =
    let t = transfer_read (requests_for false accesses) bytes view e in (
      t.response,
      t.response_is,
      λ mismatch.
          let met : passes is_match (kind_at (requests_for false accesses) t.count) ≡ true = subst (λ (r : Response). may_end r (progress_at (requests_for false accesses) t.count) (is_missing r (progress_at (requests_for false accesses) t.count) t.rest) ≡ true) mismatch t.ends in
          let un = normal_kind t.count (requests_for false accesses) (are_normal false accesses) in
          cc (un, met),
    )

pub block_view : (accesses : List RegAccess) (bytes : List ℕ) (view : Shown) → reply_read (block_command accesses) bytes ≡ Ok view → (r : Response) × (view.response ≡ code_of r) × (r ≡ Mismatch → ⊥)
block_view accesses bytes view e = let b = block_read _ _ bytes view e in by_response (response_of view.response) refl b.count _ b.ends
  where
    by_response : (o : Option Response) → response_of view.response ≡ o → (n words : ℕ) → may_end_block o n words ≡ true → (r : Response) × (view.response ≡ code_of r) × (r ≡ Mismatch → ⊥)
    by_response None named n words h = absurd (cc)
    by_response (Some Good) named n words h = (Good, response_is view.response Good named, λ k. cc)
    by_response (Some Wait) named n words h = (Wait, response_is view.response Wait named, λ k. cc)
    by_response (Some Fault) named n words h = (Fault, response_is view.response Fault named, λ k. cc)
    by_response (Some Mismatch) named n words h = absurd (cc)

-- ---- a chain

-- the packet of a part of a chain, held or not
abbrev part_packet : PacketKind → List RegAccess → Packet
part_packet k accesses = record { kind = k; commands = guarded_command accesses ∷ [] }

-- the packets of a chain are read as its commands
data IsQueueKind : PacketKind → Type 0 where
  Held : IsQueueKind Queue
  Last : IsQueueKind Execute

chain_is_queue : (parts : List (List RegAccess)) → IsQueueKind (chain_kind parts)
chain_is_queue [] = Last
chain_is_queue (p ∷ parts) = Held

-- a list of one reply to one command
one_reply : (c : CommandValue) (parts : List (List ℕ)) (shows : List Shown) → AreReplies (c ∷ []) parts shows → (part : List ℕ) × (view : Shown) × (parts ≡ part ∷ []) × (shows ≡ view ∷ []) × (reply_read c part ≡ Ok view)
one_reply c [] [] all = absurd all
one_reply c [] (s ∷ shows) all = absurd all
one_reply c (p ∷ parts) [] all = absurd all
one_reply c (p ∷ []) (s ∷ []) all = (p, s, refl, refl, all.0)
one_reply c (p ∷ []) (s ∷ t ∷ shows) all = absurd all.1
one_reply c (p ∷ q ∷ parts) (s ∷ []) all = absurd all.1
one_reply c (p ∷ q ∷ parts) (s ∷ t ∷ shows) all = absurd all.1

front_of : (k : PacketKind) → IsQueueKind k → (rest reply : List ℕ) → HasFront k true 1 rest reply → (reply ≡ 0x7F ∷ 1 ∷ rest) ⊎ (reply ≡ 0x7E ∷ 1 ∷ rest)
front_of Plain h rest reply f = elim h [ ]
front_of Execute h rest reply (inl same) = inl same
front_of Execute h rest reply (inr held) = inr held.1
front_of Queue h rest reply (inl same) = inl same
front_of Queue h rest reply (inr held) = inr held.1

-- what stands in a reply that its packet may get
inner_is : (k : PacketKind) → IsQueueKind k → (accesses : List RegAccess) (reply : List ℕ) (shows : List Shown) → ReplyShows true (part_packet k accesses) reply shows →
    (part : List ℕ) × (view : Shown) × (inner_reply reply ≡ Some part) × (shows ≡ view ∷ []) × (reply_read (guarded_command accesses) part ≡ Ok view)
inner_is k q accesses reply shows h =
    let one = one_reply (guarded_command accesses) h.parts shows h.replies in
    let front = front_of k q (concat h.parts) reply h.bytes in
    (one.0, one.1, by_front one.0 (ap concat one.2 ∙ append-nil one.0) front, one.3, one.4)
  where
    by_front : (part : List ℕ) → concat h.parts ≡ part → (reply ≡ 0x7F ∷ 1 ∷ concat h.parts) ⊎ (reply ≡ 0x7E ∷ 1 ∷ concat h.parts) → inner_reply reply ≡ Some part
    by_front part same (inl is) = ap inner_reply is ∙ ap (λ (p : List ℕ). Some p) same
    by_front part same (inr is) = ap inner_reply is ∙ ap (λ (p : List ℕ). Some p) same

-- a reply that shows something of its part
record HasShown (k : PacketKind) (accesses : List RegAccess) (reply : List ℕ) (next : Part) : Type 0 where
  view : Shown
  is : HasView view next.response
  shows : ReplyShows true (part_packet k accesses) reply (view ∷ [])

-- one that shows nothing is none that its packet may get
abbrev Seen : PacketKind → List RegAccess → List ℕ → Option Part → Type 0
Seen k accesses reply None = (shows : List Shown) → ReplyShows true (part_packet k accesses) reply shows → ⊥
Seen k accesses reply (Some next) = HasShown k accesses reply next

front_for : (k : PacketKind) → IsQueueKind k → (reply part : List ℕ) → (reply ≡ 0x7F ∷ 1 ∷ part) ⊎ (reply ≡ 0x7E ∷ 1 ∷ part) → HasFront k true 1 part reply
front_for Plain h reply part f = elim h [ ]
front_for Execute h reply part (inl same) = inl same
front_for Execute h reply part (inr same) = inr (refl, same)
front_for Queue h reply part (inl same) = inl same
front_for Queue h reply part (inr same) = inr (refl, same)

-- the reply by what stands before the reply in it
fronted : (reply part : List ℕ) → inner_reply reply ≡ Some part → (reply ≡ 0x7F ∷ 1 ∷ part) ⊎ (reply ≡ 0x7E ∷ 1 ∷ part)
fronted [] part h = absurd (cc)
fronted (a ∷ []) part h = absurd (cc)
fronted (a ∷ b ∷ rest) part h = by_first (a == 0x7F) (a == 0x7E) (b == 1) refl refl refl h
  where
    by_first : (x y z : Bool) → (a == 0x7F) ≡ x → (a == 0x7E) ≡ y → (b == 1) ≡ z → cond ((x || y) && z) (Some rest) None ≡ Some part → (a ∷ b ∷ rest ≡ 0x7F ∷ 1 ∷ part) ⊎ (a ∷ b ∷ rest ≡ 0x7E ∷ 1 ∷ part)
    by_first true y true i j k e = inl (let s : rest ≡ part = cc in λ t. eqb-true a 0x7F i t ∷ eqb-true b 1 k t ∷ s t)
    by_first false true true i j k e = inr (let s : rest ≡ part = cc in λ t. eqb-true a 0x7E j t ∷ eqb-true b 1 k t ∷ s t)
    by_first true y false i j k e = absurd (cc)
    by_first false true false i j k e = absurd (cc)
    by_first false false z i j k e = absurd (cc)

seen_by : (k : PacketKind) → IsQueueKind k → (accesses : List RegAccess) (reply part : List ℕ) (r : Result Shown MessageError) → inner_reply reply ≡ Some part → reply_read (guarded_command accesses) part ≡ r → Seen k accesses reply (part_in 2 (payload accesses) (shown_in r))
seen_by k q accesses reply part (Err fault) inner read = λ shows h. let i = inner_is k q accesses reply shows h in
    (let same : i.0 ≡ part = (let a = i.2 in cc (a, inner)) in let again : reply_read (guarded_command accesses) part ≡ Ok i.1 = ap (reply_read (guarded_command accesses)) (sym same) ∙ i.4 in cc (again, read))
seen_by k q accesses reply part (Ok view) inner read =
    let v = guarded_view accesses part view read in
    subst (λ (o : Option Response). Seen k accesses reply (part_as 2 (payload accesses) view o)) (sym v.1.named)
    (record {
      view = view;
      is = v.1;
      shows = record { parts = part ∷ []; replies = (read, tt); bytes = front_for k q reply (concat (part ∷ [])) (subst (λ (p : List ℕ). (reply ≡ 0x7F ∷ 1 ∷ p) ⊎ (reply ≡ 0x7E ∷ 1 ∷ p)) (sym (append-nil part)) (fronted reply part inner)) };
    })

seen_in : (k : PacketKind) → IsQueueKind k → (accesses : List RegAccess) (reply : List ℕ) (found : Option (List ℕ)) → inner_reply reply ≡ found → Seen k accesses reply (guarded_in accesses found)
seen_in k q accesses reply None inner = λ shows h. let i = inner_is k q accesses reply shows h in (let a = i.2 in cc (a, inner))
seen_in k q accesses reply (Some part) inner = seen_by k q accesses reply part (reply_read (guarded_command accesses) part) inner refl

seen : (k : PacketKind) → IsQueueKind k → (accesses : List RegAccess) (reply : List ℕ) → Seen k accesses reply (guarded_reading accesses reply)
seen k q accesses reply = seen_in k q accesses reply (inner_reply reply) refl

-- the packets and replies from this place on are those of these parts
record IsFrom (last : Exchange) (i : ℕ) (parts : List (List RegAccess)) (replies : List (List ℕ)) : Type 0 where
  sent : (k : ℕ) → slice_get (chain_packets parts) k ≡ slice_get last.packets (i + k)
  got : (k : ℕ) → slice_get replies k ≡ slice_get last.replies (i + k)

module _ (size : ℕ) (last : Exchange) (short : size ≤ 1024) (queue : is_queue last ≡ true) where
  from_next : (i : ℕ) (accesses : List RegAccess) (parts : List (List RegAccess)) (reply : List ℕ) (replies : List (List ℕ)) → IsFrom last i (accesses ∷ parts) (reply ∷ replies) → IsFrom last (i + 1) parts replies
  from_next i accesses parts reply replies h = record {
    sent = λ k. h.sent (suc k) ∙ ap (slice_get last.packets) (let e : i + suc k ≡ i + 1 + k = omega arith in e);
    got = λ k. h.got (suc k) ∙ ap (slice_get last.replies) (let e : i + suc k ≡ i + 1 + k = omega arith in e);
  }

  -- at a place stands the packet of a part, with its reply
  record StandsAt (i : ℕ) (k : PacketKind) (accesses : List RegAccess) (reply : List ℕ) : Type 0 where
    sent : slice_get last.packets i ≡ Some (bytes_of_kind k (guarded_command accesses ∷ []))
    reads : packet_read (bytes_of_kind k (guarded_command accesses ∷ [])) ≡ Ok (part_packet k accesses)
    got : slice_get last.replies i ≡ Some reply

  stands_at : (i : ℕ) (accesses : List RegAccess) (parts : List (List RegAccess)) (reply : List ℕ) (replies : List (List ℕ)) → FitChain size (accesses ∷ parts) → IsFrom last i (accesses ∷ parts) (reply ∷ replies) →
      StandsAt i (chain_kind parts) accesses reply
  stands_at i accesses parts reply replies fit h = record {
    sent = ap (slice_get last.packets) (let e : i ≡ i + 0 = omega arith in e) ∙ sym (h.sent 0);
    reads = by_kind (chain_kind parts) (chain_is_queue parts);
    got = ap (slice_get last.replies) (let e : i ≡ i + 0 = omega arith in e) ∙ sym (h.got 0);
  }
    where
      by_kind : (k : PacketKind) → IsQueueKind k → packet_read (bytes_of_kind k (guarded_command accesses ∷ [])) ≡ Ok (part_packet k accesses)
      by_kind Plain q = elim q [ ]
      by_kind Execute q = reads_packet Execute (guarded_command accesses ∷ []) _ (fits_packet Execute (guarded_command accesses) (bytes_of_kind Execute (guarded_command accesses ∷ [])) size short fit.0 refl)
      by_kind Queue q = reads_packet Queue (guarded_command accesses ∷ []) _ (fits_packet Queue (guarded_command accesses) (bytes_of_kind Queue (guarded_command accesses ∷ [])) size short fit.0 refl)

  -- a reply that shows something
  shows_at : (i : ℕ) (k : PacketKind) (accesses : List RegAccess) (reply : List ℕ) (shows : List Shown) → StandsAt i k accesses reply → ReplyShows true (part_packet k accesses) reply shows → ShowsAt last i shows
  shows_at i k accesses reply shows s h = record {
    packet = part_packet k accesses;
    reply = reply;
    replied = record { bytes = bytes_of_kind k (guarded_command accesses ∷ []); sent = s.sent; reads = s.reads; got = s.got };
    shown = subst (λ (b : Bool). ReplyShows b (part_packet k accesses) reply shows) (sym queue) h;
  }

  -- a reply that its packet may not get by itself
  bad_alone_at : (i : ℕ) (k : PacketKind) (accesses : List RegAccess) (reply : List ℕ) → StandsAt i k accesses reply → Seen k accesses reply None → IsShownAt IsBadReply last i
  bad_alone_at i k accesses reply s none = record {
    packet = bytes_of_kind k (guarded_command accesses ∷ []);
    reply = reply;
    sent = s.sent;
    got = s.got;
    so = record {
      packet = part_packet k accesses;
      reply = reply;
      replied = record { bytes = bytes_of_kind k (guarded_command accesses ∷ []); sent = s.sent; reads = s.reads; got = s.got };
      bad = inl (λ shows h. none shows (subst (λ (b : Bool). ReplyShows b (part_packet k accesses) reply shows) queue h));
    };
  }

  -- one that may not come after those before it
  bad_after : (i : ℕ) (k : PacketKind) (accesses : List RegAccess) (reply : List ℕ) → StandsAt i k accesses reply → BreaksQueue last i → IsShownAt IsBadReply last i
  bad_after i k accesses reply s breaks = record {
    packet = bytes_of_kind k (guarded_command accesses ∷ []);
    reply = reply;
    sent = s.sent;
    got = s.got;
    so = record {
      packet = part_packet k accesses;
      reply = reply;
      replied = record { bytes = bytes_of_kind k (guarded_command accesses ∷ []); sent = s.sent; reads = s.reads; got = s.got };
      bad = inr breaks;
    };
  }

  -- all replies so far are whole
  record WentWell (i : ℕ) (sofar : Part) : Type 0 where
    good : sofar.response ≡ Good
    whole : AllWholeBefore last i

  -- a reply before this place shows the cut
  record WasCutAt (i at : ℕ) (sofar : Part) : Type 0 where
    less : at < i
    packet : List ℕ
    reply : List ℕ
    sent : slice_get last.packets at ≡ Some packet
    got : slice_get last.replies at ≡ Some reply
    view : Shown
    shown : ShowsAt last at (view ∷ [])
    code : view.response ≡ code_of sofar.response
    bad : sofar.response ≡ Good → ⊥
    never : sofar.response ≡ Mismatch → ⊥

  abbrev SoFar : ℕ → ℕ → Part → Type 0
  SoFar i at sofar = WentWell i sofar ⊎ WasCutAt i at sofar

  -- what the replies come to
  abbrev pub ComesTo : Option Part → ℕ → Type 0
  ComesTo None at = IsShownAt IsBadReply last at
  ComesTo (Some part) at = (part.response ≡ Good) ⊎ (IsShownAt (HasResponse (code_of part.response)) last at × (part.response ≡ Mismatch → ⊥))

  any_one : (code : ℕ) (view : Shown) → view.response ≡ code → list_any (λ (s : Shown). s.response == code) (view ∷ []) ≡ true
  any_one code view same = rw (eq-eqb view.response code same) refl

  ended : (i at : ℕ) (sofar : Part) → SoFar i at sofar → ComesTo (Some sofar) at
  ended i at sofar (inl well) = inl well.good
  ended i at sofar (inr cut) = inr (
    record { packet = cut.packet; reply = cut.reply; sent = cut.sent; got = cut.got; so = record { shows = cut.view ∷ []; reply = cut.shown; has = any_one (code_of sofar.response) cut.view cut.code } },
    cut.never,
  )

  -- a view of a reply is whole where its response is 01, and shut where it is 11 and nothing was executed
  whole_view : (view : Shown) (r : Response) → HasView view r → r ≡ Good → is_whole (view ∷ []) ≡ true
  whole_view view r v good = eq-eqb view.response 0x01 (v.code ∙ ap code_of good)

  cut_view : (view : Shown) (r : Response) → view.response ≡ code_of r → (r ≡ Good → ⊥) → is_whole (view ∷ []) ≡ false
  cut_view view Good code bad = absurd (bad refl)
  cut_view view Wait code bad = ap (λ (n : ℕ). n == 0x01) code
  cut_view view Fault code bad = ap (λ (n : ℕ). n == 0x01) code
  cut_view view Mismatch code bad = ap (λ (n : ℕ). n == 0x01) code

  shut_view : (view : Shown) (r : Response) → HasView view r → r ≡ Mismatch → is_shut (view ∷ []) ≡ true
  shut_view view r v mismatch = (λ t. (v.code ∙ ap code_of mismatch) t == 0x11 && (v.shut mismatch t == 0))

  open_view : (view : Shown) (r : Response) → view.response ≡ code_of r → (r ≡ Mismatch → ⊥) → is_shut (view ∷ []) ≡ false
  open_view view Good code never = ap (λ (n : ℕ). (n == 0x11) && (view.count == 0)) code
  open_view view Wait code never = ap (λ (n : ℕ). (n == 0x11) && (view.count == 0)) code
  open_view view Fault code never = ap (λ (n : ℕ). (n == 0x11) && (view.count == 0)) code
  open_view view Mismatch code never = absurd (never refl)

  whole_more : (i : ℕ) (view : Shown) → AllWholeBefore last i → ShowsAt last i (view ∷ []) → is_whole (view ∷ []) ≡ true → AllWholeBefore last (i + 1)
  whole_more i view before here whole = λ j less. by_place j (j == i) refl less
    where
      by_place : (j : ℕ) (b : Bool) → (j == i) ≡ b → j < i + 1 → (shows : List Shown) × ShowsAt last j shows × (is_whole shows ≡ true)
      by_place j true same less = subst (λ (n : ℕ). (shows : List Shown) × ShowsAt last n shows × (is_whole shows ≡ true)) (sym (eqb-true j i same)) (view ∷ [], here, whole)
      by_place j false other less = before j (let ne : j ≡ i → ⊥ = (λ e. (let t = eq-eqb j i e in cc (t, other))) in omega (arith, ne, less))

  -- the next reply, by what it shows and how the ones before it ended
  next_cut : (i at : ℕ) (k : PacketKind) (accesses : List RegAccess) (reply : List ℕ) (sofar next : Part) → StandsAt i k accesses reply → HasShown k accesses reply next → WentWell i sofar → (next.response ≡ Mismatch → ⊥) →
      (next.response ≡ Good → ⊥) → WasCutAt (i + 1) i (joined_as Good sofar next)
  next_cut i at k accesses reply sofar next s h well never bad = record {
    less = omega arith;
    packet = bytes_of_kind k (guarded_command accesses ∷ []);
    reply = reply;
    sent = s.sent;
    got = s.got;
    view = h.view;
    shown = shows_at i k accesses reply (h.view ∷ []) s h.shows;
    code = h.is.code;
    bad = bad;
    never = never;
  }

  later_cut : (i at : ℕ) (sofar : Part) → WasCutAt i at sofar → WasCutAt (i + 1) at sofar
  later_cut i at sofar c = record { less = (let l = c.less in omega (arith, l)); packet = c.packet; reply = c.reply; sent = c.sent; got = c.got; view = c.view; shown = c.shown; code = c.code; bad = c.bad; never = c.never }

  -- what comes of the next reply
  abbrev Next : ℕ → Option Part → ℕ → Type 0
  Next i None at = IsShownAt IsBadReply last at
  Next i (Some part) at = SoFar (i + 1) at part

  well_next : (i at : ℕ) (k : PacketKind) (accesses : List RegAccess) (reply : List ℕ) (sofar next : Part) → StandsAt i k accesses reply → HasShown k accesses reply next → WentWell i sofar → (r : Response) → next.response ≡ r →
      Next i (joined_if true (is_mismatch r) sofar next) (noted_at i at true (joined_if true (is_mismatch r) sofar next))
  well_next i at k accesses reply sofar next s h well Good is = inl (record {
    good = is;
    whole = whole_more i h.view well.whole (shows_at i k accesses reply (h.view ∷ []) s h.shows) (whole_view h.view next.response h.is is);
  })
  well_next i at k accesses reply sofar next s h well Wait is = inr (next_cut i at k accesses reply sofar next s h well (λ e. cc (e, is)) (λ e. cc (e, is)))
  well_next i at k accesses reply sofar next s h well Fault is = inr (next_cut i at k accesses reply sofar next s h well (λ e. cc (e, is)) (λ e. cc (e, is)))
  well_next i at k accesses reply sofar next s h well Mismatch is =
      bad_after i k accesses reply s (record {
        queue = queue;
        shows = h.view ∷ [];
        reply = shows_at i k accesses reply (h.view ∷ []) s h.shows;
        broken = inl (shut_view h.view next.response h.is is, well.whole);
      })

  cut_next : (i at : ℕ) (k : PacketKind) (accesses : List RegAccess) (reply : List ℕ) (sofar next : Part) → StandsAt i k accesses reply → HasShown k accesses reply next → WasCutAt i at sofar → (b : Bool) → is_mismatch next.response ≡ b →
      Next i (joined_if false b sofar next) (noted_at i at false (joined_if false b sofar next))
  cut_next i at k accesses reply sofar next s h c true is = inr (later_cut i at sofar c)
  cut_next i at k accesses reply sofar next s h c false is =
      bad_after i k accesses reply s (record {
        queue = queue;
        shows = h.view ∷ [];
        reply = shows_at i k accesses reply (h.view ∷ []) s h.shows;
        broken = inr (open_view h.view next.response h.is.code (λ e. (let m = ap is_mismatch e in cc (m, is))), (at, c.less, c.view ∷ [], c.shown, cut_view c.view sofar.response c.code c.bad));
      })

  bad_is : (r : Response) → (r ≡ Good → ⊥) → is_good r ≡ false
  bad_is Good bad = absurd (bad refl)
  bad_is Wait bad = refl
  bad_is Fault bad = refl
  bad_is Mismatch bad = refl

  next_of : (i at : ℕ) (k : PacketKind) (accesses : List RegAccess) (reply : List ℕ) (sofar : Part) (found : Option Part) → StandsAt i k accesses reply → Seen k accesses reply found → SoFar i at sofar →
      Next i (then_reading sofar found) (noted_at i at (is_good sofar.response) (then_reading sofar found))
  next_of i at k accesses reply sofar None s h so = bad_alone_at i k accesses reply s h
  next_of i at k accesses reply sofar (Some next) s h (inl well) =
      subst (λ (b : Bool). Next i (joined_if b (is_mismatch next.response) sofar next) (noted_at i at b (joined_if b (is_mismatch next.response) sofar next))) (sym (ap is_good well.good)) (well_next i at k accesses reply sofar next s h well next.response refl)
  next_of i at k accesses reply sofar (Some next) s h (inr c) =
      subst (λ (b : Bool). Next i (joined_if b (is_mismatch next.response) sofar next) (noted_at i at b (joined_if b (is_mismatch next.response) sofar next))) (sym (bad_is sofar.response c.bad)) (cut_next i at k accesses reply sofar next s h c (is_mismatch next.response) refl)

  -- what comes of it with the replies after it
  found_comes : (i at : ℕ) (sofar : Part) (parts : List (List RegAccess)) (replies : List (List ℕ)) (o : Option Part) →
      ((part : Part) (n : ℕ) → SoFar (i + 1) n part → ComesTo (readings_after (Some part) parts replies) (ended_at (Some part) (i + 1) n parts replies)) →
      Next i o (noted_at i at (is_good sofar.response) o) → ComesTo (readings_after o parts replies) (ended_at o (i + 1) (noted_at i at (is_good sofar.response) o) parts replies)
  found_comes i at sofar parts replies None go n = n
  found_comes i at sofar parts replies (Some part) go n = go part (noted_at i at (is_good sofar.response) (Some part)) n

  chain_comes : (i at : ℕ) (sofar : Part) (parts : List (List RegAccess)) (replies : List (List ℕ)) → FitChain size parts → length replies ≡ length parts → IsFrom last i parts replies → SoFar i at sofar →
      ComesTo (readings_after (Some sofar) parts replies) (ended_at (Some sofar) i at parts replies)
  chain_comes i at sofar [] [] fit long from so = ended i at sofar so
  chain_comes i at sofar [] (r ∷ replies) fit long from so = absurd (omega (arith, long))
  chain_comes i at sofar (p ∷ parts) [] fit long from so = absurd (omega (arith, long))
  chain_comes i at sofar (p ∷ parts) (r ∷ replies) fit long from so =
      let s = stands_at i p parts r replies fit from in
      found_comes i at sofar parts replies (then_reading sofar (guarded_reading p r)) (λ part n so. chain_comes (i + 1) n part parts replies fit.1 (omega (arith, long)) (from_next i p parts r replies from) so)
      (next_of i at (chain_kind parts) p r sofar (guarded_reading p r) s (seen (chain_kind parts) (chain_is_queue parts) p r) so)

  pub chain_shows : (parts : List (List RegAccess)) → FitChain size parts → last.packets ≡ chain_packets parts → length last.replies ≡ length last.packets → ComesTo (readings_after (Some nothing_yet) parts last.replies) (ended_at (Some nothing_yet) 0 0 parts last.replies)
  chain_shows parts fit packets long =
      chain_comes 0 0 nothing_yet parts last.replies fit (long ∙ ap length packets ∙ packet_count parts)
      (record { sent = λ k. ap (λ (l : List (List ℕ)). slice_get l k) (sym packets) ∙ ap (slice_get last.packets) (let e : k ≡ 0 + k = omega arith in e); got = λ k. ap (slice_get last.replies) (let e : k ≡ 0 + k = omega arith in e) })
      (inl (record { good = refl; whole = λ j less. absurd (omega (arith, less)) }))
