-- What the replies to the packets of a chain show.
use Rattle.std.specs.Prelude.{ℕ, ◌+◌, Bool, true, false, ◌&&◌, ◌||◌, ◌==◌, if◌then◌else◌, List, [], ◌∷◌, ◌++◌, Option, Some, None}
use Rattle.target_machine.specs.declared.access.RegAccess.{RegAccess}
use Rattle.dap_messages.specs.declared.request.Response.{Response}
use Rattle.dap_messages.specs.declared.request.Response.TheVariants.{Good, Mismatch}
use Rattle.flight_forms.specs.Chains.{joined_as, nothing_yet}
use Rattle.flight_forms.specs.Flights.{Part}
use Rattle.flight_forms.specs.Forms.{parts_of}
use Rattle.flight_forms.specs.Packets.{guarded_command}
use Rattle.flight_forms.specs.Packing.{payload}
use Rattle.batch_packer.specs.Readings.{reading}
use Rattle.dap_messages.specs.Responses.{is_good}

-- whether a reply begins with DAP_ExecuteCommands, or DAP_QueueCommands, and the number 1
abbrev pub is_of_one : ℕ → ℕ → Bool
is_of_one id count = ((id == 0x7F) || (id == 0x7E)) && (count == 1)

-- The reply to the one command of a packet of several: DAP_ExecuteCommands (or DAP_QueueCommands) and the number 1 come before it.
abbrev pub inner_reply : List ℕ → Option (List ℕ)
inner_reply (id ∷ count ∷ reply) = if is_of_one id count then Some reply else None
inner_reply _ = None

-- what such a reply to a guarded command of these accesses shows, where there is one: two requests are before theirs
abbrev pub guarded_in : List RegAccess → Option (List ℕ) → Option Part
guarded_in accesses None = None
guarded_in accesses (Some reply) = reading (guarded_command accesses) 2 (payload accesses) reply

-- what the reply to the packet of a part shows
abbrev pub guarded_reading : List RegAccess → List ℕ → Option Part
guarded_reading accesses reply = guarded_in accesses (inner_reply reply)

-- whether a value match was not met
abbrev pub is_mismatch : Response → Bool
is_mismatch Mismatch = true
is_mismatch _ = false

-- What was shown so far, and by the next reply. As long as commands came to their end, the next makes accesses. After one that did not, no value
-- match is met any more.
abbrev pub joined_if : Bool → Bool → Part → Part → Option Part
joined_if true false sofar next = Some (joined_as Good sofar next)
joined_if false true sofar next = Some sofar
joined_if _ _ sofar next = None

-- the same, where the next reply is one that its command may get
abbrev pub then_reading : Part → Option Part → Option Part
then_reading sofar None = None
then_reading sofar (Some next) = joined_if (is_good sofar.response) (is_mismatch next.response) sofar next

-- what the replies to the packets of these parts show, after others that showed this; none where one of them breaks the rules
abbrev pub readings_after : Option Part → List (List RegAccess) → List (List ℕ) → Option Part
readings_after None parts replies = None
readings_after (Some sofar) [] [] = Some sofar
readings_after (Some sofar) (accesses ∷ parts) (reply ∷ replies) = readings_after (then_reading sofar (guarded_reading accesses reply)) parts replies
readings_after (Some sofar) _ _ = None

-- what the replies to a chain of these accesses show, in packets of this size at most
abbrev pub chain_reading : ℕ → List RegAccess → List (List ℕ) → Option Part
chain_reading size accesses replies = readings_after (Some nothing_yet) (parts_of size accesses) replies

-- The number of the reply at which a chain ended, by this reply of this number. It is this number where the reply breaks the rules, and where
-- all before it were OK.
abbrev pub noted_at : ℕ → ℕ → Bool → Option Part → ℕ
noted_at i at good None = i
noted_at i at good (Some part) = if good then i else at

-- The number of the reply at which a chain ended. It is the first that breaks the rules, or else the first that is not OK, or else the last. The
-- replies are numbered from i on, and what those before them showed, and their number so far, come first.
abbrev pub ended_at : Option Part → ℕ → ℕ → List (List RegAccess) → List (List ℕ) → ℕ
ended_at None i at parts replies = at
ended_at (Some sofar) i at (accesses ∷ parts) (reply ∷ replies) =
    let next : Option Part = then_reading sofar (guarded_reading accesses reply) in
    ended_at next (i + 1) (noted_at i at (is_good sofar.response) next) parts replies
ended_at (Some sofar) i at _ _ = at

-- that number for a chain of these accesses, in packets of this size at most
abbrev pub chain_ended_at : ℕ → List RegAccess → List (List ℕ) → ℕ
chain_ended_at size accesses replies = ended_at (Some nothing_yet) 0 0 (parts_of size accesses) replies

-- the values after a reply: where a value match was not met, none is added
abbrev pub values_kept : Bool → List (Option ℕ) → List (Option ℕ) → List (Option ℕ)
values_kept true before values = before
values_kept false before values = before ++ values
