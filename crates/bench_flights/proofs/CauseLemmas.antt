-- The cause of an end: the packet and the reply that are shown at it.
use Rattle.std.proofs.Common.{◌≡◌, inl, ◌∙◌, ℕ, Bool, true, List, [], ◌∷◌, length, Option, Some, None, Ok, Err, Result, IfErr, MatchResult, refl, sym, ap, subst, arith, append-nil}
use Rattle.std.specs.Prelude.{slice_get}
use Rattle.std.specs.List.{concat}
use Rattle.dap_messages.specs.Commands.{IsCommand, alone, command_bytes}
use Rattle.dap_replies.specs.ReplyViews.{Shown}
use Rattle.dap_messages.specs.PacketReading.{packet_read}
use Rattle.dap_replies.specs.ReplyReading.{reply_read}
use Rattle.dap_messages.specs.declared.command_value.CommandValue.{CommandValue}
use Rattle.dap_messages.proofs.PacketLaws.{alone_is_read}
use Rattle.probe_core.specs.Bench.{Exchange, counted_up}
use Rattle.probe_core.specs.Bench.{Reported as BenchReported}
use Rattle.access_calls.specs.Causes.{AreReplies, HasResponse, IsBadReply, ReplyShows, is_queue}
use Rattle.batch_packer.specs.Commands.{is_single, number_by, number_read}
use Rattle.batch_packer.specs.FlightEnds.{got_replies}
use Rattle.batch_packer.specs.FlightEnds.{HasEndCause as HasFaultCause}
use Rattle.batch_packer.specs.FlightStates.{FlightState, bytes_or_none, item_at, items_kept}
use Rattle.batch_packer.specs.Readings.{shown_in}
use Rattle.batch_packer.specs.declared.ends.FlightEnd.{FlightEnd}
use Rattle.batch_packer.specs.declared.ends.FlightEnd.TheVariants as ends
use Rattle.batch_packer.proofs.SingleLemmas.{single_short}
use Rattle.bench_flights.specs.Flown.{FlightHasCause}

-- at this place of an exchange stand a packet and a reply, of which this is so
pub record IsShownAt (P : Exchange → ℕ → Type 0) (last : Exchange) (place : ℕ) : Type 0 where
  pub packet : List ℕ
  pub reply : List ℕ
  pub sent : slice_get last.packets place ≡ Some packet
  pub got : slice_get last.replies place ≡ Some reply
  pub so : P last place

-- the place shows the cause of the end
abbrev pub ShowsEnd : FlightEnd → Exchange → ℕ → Type 0
ShowsEnd (ends.Cut cut) last place = IsShownAt (HasResponse cut.response) last place
ShowsEnd ends.BenchFault last place = Unit {0}
ShowsEnd ends.ReplyBad last place = IsShownAt IsBadReply last place

-- what is known of an end: the count of faults, the exchange, and what is kept of it
pub record IsEndOf (end : FlightEnd) (old new : BenchReported) (packets replies : List (List ℕ)) (at : ℕ) : Type 0 where
  pub cause : HasFaultCause old.faults new.faults (Some end)
  pub exchanges : got_replies (Some end) ≡ true → new.exchanges ≡ counted_up old.exchanges
  pub packets_are : packets ≡ items_kept (Some end) new.last.packets
  pub replies_are : replies ≡ items_kept (Some end) new.last.replies
  pub shows : got_replies (Some end) ≡ true → ShowsEnd end new.last at

item_is : (items kept : List (List ℕ)) (at : ℕ) (bytes : List ℕ) → items ≡ kept → slice_get kept at ≡ Some bytes → slice_get kept at ≡ Some (item_at items at)
item_is items kept at bytes same there = there ∙ ap (λ (b : List ℕ). Some b) (sym (ap bytes_or_none there) ∙ ap (λ (l : List (List ℕ)). item_at l at) (sym same))

pub end_cause : (end : FlightEnd) (old new : BenchReported) (packets replies : List (List ℕ)) (at : ℕ) → IsEndOf end old new packets replies at → FlightHasCause end old new (item_at packets at) (item_at replies at)
end_cause (ends.Cut cut) old new packets replies at h =
    let s = h.shows refl in
    (h.cause.others refl, record { begun = (let e = h.exchanges refl in omega (arith, e)); place = at; sent = item_is packets new.last.packets at s.packet h.packets_are s.sent; got = item_is replies new.last.replies at s.reply h.replies_are s.got; so = s.so })
end_cause ends.BenchFault old new packets replies at h = h.cause.failed refl
end_cause ends.ReplyBad old new packets replies at h =
    let s = h.shows refl in
    (h.cause.others refl, record { begun = (let e = h.exchanges refl in omega (arith, e)); place = at; sent = item_is packets new.last.packets at s.packet h.packets_are s.sent; got = item_is replies new.last.replies at s.reply h.replies_are s.got; so = s.so })

-- ---- one command of the probe

-- a reply that its command may not get by itself
pub none_shown : (queued : Bool) (c : CommandValue) (reply : List ℕ) (shows : List Shown) → shown_in (reply_read c reply) ≡ None → ReplyShows queued (alone c) reply shows → ⊥
none_shown queued c reply shows none h = by_parts h.parts shows h.replies h.bytes
  where
    by_parts : (parts : List (List ℕ)) (shows : List Shown) → AreReplies (c ∷ []) parts shows → reply ≡ concat parts → ⊥
    by_parts [] shows all bytes = absurd all
    by_parts (part ∷ []) [] all bytes = absurd all
    by_parts (part ∷ []) (s ∷ []) all bytes =
        let same : reply ≡ part = bytes ∙ append-nil part in
        let read : reply_read c reply ≡ Ok s = ap (reply_read c) same ∙ all.0 in
        cc (ap shown_in read, none)
    by_parts (part ∷ []) (s ∷ t ∷ shows) all bytes = absurd all.1
    by_parts (part ∷ other ∷ parts) [] all bytes = absurd all
    by_parts (part ∷ other ∷ parts) (s ∷ shows) all bytes = absurd all.1

-- a single reply to a command that it may not get
pub bad_alone : (c : CommandValue) (packet reply : List ℕ) (last : Exchange) → packet_read packet ≡ Ok (alone c) → last.packets ≡ packet ∷ [] → last.replies ≡ reply ∷ [] → shown_in (reply_read c reply) ≡ None → IsShownAt IsBadReply last 0
bad_alone c packet reply last reads packets replies none = record {
  packet = packet;
  reply = reply;
  sent = ap (λ (l : List (List ℕ)). slice_get l 0) packets;
  got = ap (λ (l : List (List ℕ)). slice_get l 0) replies;
  so = record {
    packet = alone c;
    reply = reply;
    replied = record { bytes = packet; sent = ap (λ (l : List (List ℕ)). slice_get l 0) packets; reads = reads; got = ap (λ (l : List (List ℕ)). slice_get l 0) replies };
    bad = inl (λ shows h. none_shown (is_queue last) c reply shows none h);
  };
}

-- the end of a command is shown by its one reply
pub single_shows : (c : CommandValue) (last : Exchange) (end : FlightEnd) → IsCommand c → is_single c ≡ true → last.packets ≡ command_bytes c ∷ [] → length last.replies ≡ 1 → Err end ≡ number_read c last.replies → ShowsEnd end last 0
single_shows c last end command single packets one read = by_replies last.replies refl one read
  where
    reads : packet_read (command_bytes c) ≡ Ok (alone c)
    reads = alone_is_read c command (let s = single_short c single in omega (arith, s))

    by_shown : (reply : List ℕ) (shown : Option Shown) → last.replies ≡ reply ∷ [] → shown_in (reply_read c reply) ≡ shown → Err end ≡ number_by c shown → ShowsEnd end last 0
    by_shown reply (Some view) replies found e = absurd (cc)
    by_shown reply None replies found e = subst (λ (x : FlightEnd). ShowsEnd x last 0) (let k : ends.ReplyBad ≡ end = cc in k) (bad_alone c (command_bytes c) reply last reads packets replies found)

    by_replies : (replies : List (List ℕ)) → last.replies ≡ replies → length replies ≡ 1 → Err end ≡ number_read c replies → ShowsEnd end last 0
    by_replies [] same long e = absurd (omega (arith, long))
    by_replies (reply ∷ []) same long e = by_shown reply (shown_in (reply_read c reply)) same refl e
    by_replies (reply ∷ other ∷ replies) same long e = absurd (omega (arith, long))

-- what the layer below says of the end of a poll or a command, in one record
pub record IsEndBelow (e : Option FlightEnd) (old new : BenchReported) (f : FlightState) : Type 0 where
  pub cause : HasFaultCause old.faults new.faults e
  pub exchanges : got_replies e ≡ true → new.exchanges ≡ counted_up old.exchanges
  pub packets_are : f.packets ≡ items_kept e new.last.packets
  pub replies_are : f.replies ≡ items_kept e new.last.replies
  pub at : f.at ≡ 0

pub below_is : (e : Option FlightEnd) (end : FlightEnd) (old new : BenchReported) (f : FlightState) → e ≡ Some end → IsEndBelow e old new f → (got_replies (Some end) ≡ true → ShowsEnd end new.last 0) → FlightHasCause end old new (item_at f.packets f.at) (item_at f.replies f.at)
below_is e end old new f is h shows =
    let k : IsEndBelow (Some end) old new f = subst (λ (x : Option FlightEnd). IsEndBelow x old new f) is h in
    end_cause end old new f.packets f.replies f.at
    (record { cause = k.cause; exchanges = k.exchanges; packets_are = k.packets_are; replies_are = k.replies_are; shows = λ got. subst (λ (n : ℕ). ShowsEnd end new.last n) (sym k.at) (shows got) })

pub single_cause : (c : CommandValue) (result : Result ℕ FlightEnd) (old new : BenchReported) (f : FlightState) → IsCommand c → is_single c ≡ true →
    MatchResult result (λ _. f.end ≡ None) (λ end. f.end ≡ Some end) → IsEndBelow f.end old new f →
    (got_replies f.end ≡ true → result ≡ number_read c new.last.replies) → (got_replies f.end ≡ true → new.last.packets ≡ command_bytes c ∷ []) → (got_replies f.end ≡ true → length new.last.replies ≡ 1) →
    IfErr result (λ end. FlightHasCause end old new (item_at f.packets f.at) (item_at f.replies f.at))
single_cause c (Ok word) old new f command single is h read packets long = tt
single_cause c (Err end) old new f command single is h read packets long =
    below_is f.end end old new f is h
    (λ got. let there : got_replies f.end ≡ true = ap got_replies is ∙ got in single_shows c new.last end command single (packets there) (long there) (read there))
