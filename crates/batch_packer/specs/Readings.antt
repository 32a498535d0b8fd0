-- What the reply to a packet says of the accesses of its command.
use Rattle.std.specs.Prelude.{◌≡◌, ℕ, ◌+◌, ◌-◌, ◌≤◌, List, ◌++◌, length, take, Option, Some, None, Result, Ok, Err, IfSome, ⊤}
use Rattle.std.specs.List.{AllByRecursion}
use Rattle.dap_messages.specs.declared.command.PacketKind.{PacketKind}
use Rattle.dap_messages.specs.declared.command_value.CommandValue.{CommandValue}
use Rattle.dap_messages.specs.declared.error.MessageError.{MessageError}
use Rattle.dap_messages.specs.declared.request.Request.{Request}
use Rattle.dap_messages.specs.declared.request.Response.{Response}
use Rattle.dap_messages.specs.Commands.{IsCommand, IsCount, bytes_of_kind}
use Rattle.dap_replies.specs.ReplyViews.{IsReplyTo, Shown}
use Rattle.dap_replies.specs.ReplyReading.{reply_read}
use Rattle.dap_messages.specs.Responses.{response_of}
use Rattle.flight_forms.specs.Flights.{Part, part_of}
use Rattle.batch_packer.specs.SlotList.{SlotList}
use Rattle.batch_packer.specs.declared.part.FlightProgress.{FlightProgress}

-- The packet is of these commands, run in this way, and is read as such.
pub record IsPacketOf (kind : PacketKind) (commands : List CommandValue) (packet : List ℕ) : Type 0 where
  pub count : IsCount kind (length commands)
  pub in_range : AllByRecursion IsCommand commands
  pub bytes : packet ≡ bytes_of_kind kind commands
  pub short : length packet ≤ 1024

-- what a reply shows, where it is one that its command may get
abbrev pub shown_in : Result Shown MessageError → Option Shown
shown_in (Err fault) = None
shown_in (Ok view) = Some view

-- what a reply with this response shows of these requests, where so many others come before them in the command
abbrev pub part_as : ℕ → List Request → Shown → Option Response → Option Part
part_as before requests view None = None
part_as before requests view (Some response) = Some (part_of (take (view.count - before) requests) response view.words)

-- the same of a reply that the command may get
abbrev pub part_in : ℕ → List Request → Option Shown → Option Part
part_in before requests None = None
part_in before requests (Some view) = part_as before requests view (response_of view.response)

-- What the reply to a command shows of these requests, where so many others come before them in the command. It shows none where it is no reply
-- that the command may get.
abbrev pub reading : CommandValue → ℕ → List Request → List ℕ → Option Part
reading command before requests reply = part_in before requests (shown_in (reply_read command reply))

-- The numbers are those of the part, and its values were added to others.
pub record IsPart (part : Part) (progress : FlightProgress) (old new : List (Option ℕ)) : Type 0 where
  pub performed : progress.performed ≡ part.performed
  pub confirmed : progress.confirmed ≡ part.confirmed
  pub response : progress.response ≡ part.response
  pub values : new ≡ old ++ part.values

-- What was read is what the reply shows: where it shows nothing, no value was added.
abbrev pub IsShown : Option Part → Option FlightProgress → List (Option ℕ) → List (Option ℕ) → Type 0
IsShown None None old new = new ≡ old
IsShown (Some part) (Some progress) old new = IsPart part progress old new
IsShown _ _ old new = ⊥

-- the part that the numbers and values say
abbrev pub part_with : FlightProgress → List (Option ℕ) → Part
part_with progress values = record {
  performed = progress.performed;
  confirmed = progress.confirmed;
  response = progress.response;
  values = values;
}

-- The numbers and the values are what was shown, where something was.
abbrev pub IsSeen : Option Part → Option FlightProgress → List (Option ℕ) → Type 0
IsSeen None None values = ⊤
IsSeen (Some part) (Some progress) values = part ≡ part_with progress values
IsSeen _ _ values = ⊥

-- The numbers are those of one command, and so many values were added.
pub record IsFew (progress : FlightProgress) (old new : List (Option ℕ)) : Type 0 where
  pub performed : progress.performed ≤ 255
  pub confirmed : progress.confirmed ≤ 255
  pub values : length new ≤ length old + 255

-- What was read from one reply has few numbers and values, and the room for values stays.
pub record ReadsFew (result : Option FlightProgress) (old new : SlotList) : Type 0 where
  pub few : IfSome result (λ p. IsFew p old.values new.values)
  pub room : new.room ≡ old.room

-- The numbers have grown by those of one command.
pub record IsNear (so_far progress : FlightProgress) : Type 0 where
  pub performed : progress.performed ≤ so_far.performed + 255
  pub confirmed : progress.confirmed ≤ so_far.confirmed + 255

-- The progress was read from a reply that the command may get, where so many of its requests come before these.
pub record IsReadFrom (command : CommandValue) (before : ℕ) (requests : List Request) (reply : List ℕ) (old new : List (Option ℕ))
    (progress : FlightProgress) : Type 0 where
  pub view : Shown
  pub answers : IsReplyTo command reply view
  pub read : shown_in (reply_read command reply) ≡ Some view
  pub shown : IsShown (part_as before requests view (response_of view.response)) (Some progress) old new
