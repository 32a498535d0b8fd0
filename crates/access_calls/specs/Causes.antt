-- How an access comes to its end: by which reply to which packet, or because its bench failed.
use Rattle.std.specs.Prelude.{◌≡◌, ◌⊎◌, ⊤, ℕ, ◌<◌, Bool, true, false, ◌&&◌, ◌==◌, nat_lt, List, [], ◌∷◌, length, slice_get, Option, Some, None, Ok}
use Rattle.std.specs.List.{concat, list_any}
use Rattle.dap_base.specs.Causes.{Rose}
use Rattle.dap_messages.specs.Commands.{Packet}
use Rattle.dap_messages.specs.PacketReading.{packet_read}
use Rattle.dap_replies.specs.ReplyViews.{Shown}
use Rattle.dap_replies.specs.ReplyReading.{reply_read}
use Rattle.dap_messages.specs.declared.command.PacketKind.{PacketKind}
use Rattle.dap_messages.specs.declared.command.PacketKind.TheVariants.{Plain, Execute, Queue}
use Rattle.dap_messages.specs.declared.command_value.CommandValue.{CommandValue}
use Rattle.probe_core.specs.Bench.{Exchange}
use Rattle.access_calls.specs.Reported.{AccessView}
use Rattle.access_calls.specs.declared.stop.Stop.{Stop}
use Rattle.access_calls.specs.declared.stop.Stop.TheVariants.{Cut, BenchFault, ReplyBad, OutOfMemory}
use Rattle.access_calls.specs.declared.stop.StopCause.{StopCause}
use Rattle.access_calls.specs.declared.stop.StopCause.TheVariants.{Faulted, NoAnswer}

-- ---- what a reply shows

-- these parts, one for each command, are replies to the commands, and show this
abbrev pub AreReplies : List CommandValue → List (List ℕ) → List Shown → Type 0
AreReplies [] [] [] = ⊤
AreReplies (c ∷ commands) (part ∷ parts) (s ∷ shows) = (reply_read c part ≡ Ok s) × AreReplies commands parts shows
AreReplies _ _ _ = ⊥

-- What stands before the replies of several commands: 7F, and their number. In a queue of packets 7E may stand for 7F.
abbrev pub HasFront : PacketKind → Bool → ℕ → List ℕ → List ℕ → Type 0
HasFront Plain queued count rest reply = reply ≡ rest
HasFront Execute queued count rest reply = (reply ≡ 0x7F ∷ count ∷ rest) ⊎ ((queued ≡ true) × (reply ≡ 0x7E ∷ count ∷ rest))
HasFront Queue queued count rest reply = (reply ≡ 0x7F ∷ count ∷ rest) ⊎ ((queued ≡ true) × (reply ≡ 0x7E ∷ count ∷ rest))

-- The reply is one that the packet may get by itself, and shows this of each of its commands.
pub record ReplyShows (queued : Bool) (packet : Packet) (reply : List ℕ) (shows : List Shown) : Type 0 where
  pub parts : List (List ℕ)
  pub replies : AreReplies packet.commands parts shows
  pub bytes : HasFront packet.kind queued (length packet.commands) (concat parts) reply

-- an exchange of several packets is a queue
abbrev pub is_queue : Exchange → Bool
is_queue exchange = nat_lt 1 (length exchange.packets)

-- At this place of an exchange stand this packet and this reply.
pub record WasReplied (exchange : Exchange) (place : ℕ) (packet : Packet) (reply : List ℕ) : Type 0 where
  pub bytes : List ℕ
  pub sent : slice_get exchange.packets place ≡ Some bytes
  pub reads : packet_read bytes ≡ Ok packet
  pub got : slice_get exchange.replies place ≡ Some reply

-- At this place of an exchange stands a reply that its packet may get, and shows this.
pub record ShowsAt (exchange : Exchange) (place : ℕ) (shows : List Shown) : Type 0 where
  pub packet : Packet
  pub reply : List ℕ
  pub replied : WasReplied exchange place packet reply
  pub shown : ReplyShows (is_queue exchange) packet reply shows

-- The reply at this place has this transfer response for one of its commands.
pub record HasResponse (code : ℕ) (exchange : Exchange) (place : ℕ) : Type 0 where
  pub shows : List Shown
  pub reply : ShowsAt exchange place shows
  pub has : list_any (λ s. s.response == code) shows ≡ true

-- ---- what a reply must be

-- one transfer command, which made all its requests: response 01
abbrev pub is_whole : List Shown → Bool
is_whole (s ∷ []) = s.response == 0x01
is_whole _ = false

-- one transfer command, which its first request ended, a value match: response 11, and nothing executed
abbrev pub is_shut : List Shown → Bool
is_shut (s ∷ []) = (s.response == 0x11) && (s.count == 0)
is_shut _ = false

-- each reply before this place is whole
abbrev pub AllWholeBefore : Exchange → ℕ → Type 0
AllWholeBefore exchange place = (j : ℕ) → j < place → (shows : List Shown) × ShowsAt exchange j shows × (is_whole shows ≡ true)

-- a reply before this place is not whole
abbrev pub SomeCutBefore : Exchange → ℕ → Type 0
SomeCutBefore exchange place = (j : ℕ) × (j < place) × (shows : List Shown) × ShowsAt exchange j shows × (is_whole shows ≡ false)

-- Commands that hold each other off: a command of a queue does nothing unless the one before came to its end. The reply at this place breaks
-- this. It shows a command that did nothing though all before it are whole, or one that did something though one before it is not.
pub record BreaksQueue (exchange : Exchange) (place : ℕ) : Type 0 where
  pub queue : is_queue exchange ≡ true
  pub shows : List Shown
  pub reply : ShowsAt exchange place shows
  pub broken : ((is_shut shows ≡ true) × AllWholeBefore exchange place) ⊎ ((is_shut shows ≡ false) × SomeCutBefore exchange place)

-- The reply at this place is none that its packet may get: not by itself, or not after the replies before it in a queue.
pub record IsBadReply (exchange : Exchange) (place : ℕ) : Type 0 where
  pub packet : Packet
  pub reply : List ℕ
  pub replied : WasReplied exchange place packet reply
  pub bad : ((shows : List Shown) → ReplyShows (is_queue exchange) packet reply shows → ⊥) ⊎ BreaksQueue exchange place

-- ---- the causes of an end

-- The last exchange began since, and at one of its places stand the packet and the reply that are kept, of which this is so.
pub record EndedByReply (P : Exchange → ℕ → Type 0) (old new : AccessView) : Type 0 where
  pub begun : Rose old.bench.exchanges new.bench.exchanges
  pub place : ℕ
  pub sent : slice_get new.bench.last.packets place ≡ Some new.sent
  pub got : slice_get new.bench.last.replies place ≡ Some new.got
  pub so : P new.bench.last place

-- no packet and no reply are kept
pub record KeepsNoReply (a : AccessView) : Type 0 where
  pub sent : a.sent ≡ []
  pub got : a.got ≡ []

-- the transfer response of a cut: FAULT, 04, or WAIT, 02
abbrev pub code_of_cause : StopCause → ℕ
code_of_cause Faulted = 0x04
code_of_cause NoAnswer = 0x02

-- How an access came to its end, or to none. The bench failed only at BenchFault. In an exchange of these calls, a cut comes with its response,
-- and ReplyBad with a bad reply.
abbrev pub HasStopCause : AccessView → AccessView → Option Stop → Type 0
HasStopCause old new None = new.bench.faults ≡ old.bench.faults
HasStopCause old new (Some (Cut r)) = (new.bench.faults ≡ old.bench.faults) × EndedByReply (HasResponse (code_of_cause r.cause)) old new
HasStopCause old new (Some (BenchFault issued confirmed)) = Rose old.bench.faults new.bench.faults
HasStopCause old new (Some ReplyBad) = (new.bench.faults ≡ old.bench.faults) × EndedByReply IsBadReply old new
HasStopCause old new (Some OutOfMemory) = ⊥

-- A packet and a reply are kept only where a reply was the end.
abbrev pub KeepsReplyAt : Option Stop → AccessView → Type 0
KeepsReplyAt (Some (Cut r)) a = ⊤
KeepsReplyAt (Some ReplyBad) a = ⊤
KeepsReplyAt other a = KeepsNoReply a

-- where none are kept
keeps_nothing_at : (end : Option Stop) (a : AccessView) → KeepsNoReply a → KeepsReplyAt end a
keeps_nothing_at (Some (Cut r)) a none = tt
keeps_nothing_at (Some ReplyBad) a none = tt
keeps_nothing_at other a none = none

-- an access that never keeps a packet and a reply
pub keeps_nothing : (end : Option Stop) (a : AccessView) → a.sent ≡ [] → a.got ≡ [] → KeepsReplyAt end a
keeps_nothing end a sent got = keeps_nothing_at end a (record { sent = sent; got = got })
