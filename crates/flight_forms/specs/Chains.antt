-- A guarded chain: commands of which each makes accesses only where the one before came to its end.
use Rattle.std.specs.Prelude.{◌≡◌, ◌+◌, ◌-◌, ◌==◌, false, List, [], ◌∷◌, ◌++◌, take, bit_and, ⊤}
use Rattle.std.specs.List.{AllByRecursion}
use Rattle.target_machine.specs.declared.access.RegAccess.{RegAccess}
use Rattle.dap_messages.specs.declared.request.Response.{Response}
use Rattle.dap_messages.specs.declared.request.Response.TheVariants.{Good, Mismatch}
use Rattle.dap_transfer.specs.State.{TransferState, Transferred}
use Rattle.dap_transfer.specs.Transfer.{transfer_result}
use Rattle.flight_forms.specs.Packing.{AreTaken, guarded_requests, payload}
use Rattle.flight_forms.specs.Flights.{DoesPart, Part, part_of}

-- a probe that lets a guarded command make its accesses
pub record IsGuardOpen (p : TransferState) : Type 0 where
  pub mask : p.mask ≡ 0
  pub matches : p.setting.matches ≡ 0
  -- bit 0 of DPIDR is set in each debug port
  pub dpidr : (bit_and p.line.target.dpidr 1 == 0) ≡ false
  pub clear : p.line.target.sticky ≡ false

-- a probe that lets none of its accesses be made, after one that was cut
pub record IsGuardShut (p : TransferState) : Type 0 where
  pub mask : p.mask ≡ 1
  pub matches : p.setting.matches ≡ 0
  pub dpidr : (bit_and p.line.target.dpidr 1 == 0) ≡ false

-- the guard after a command that was answered so
abbrev pub LeavesGuard : Response → TransferState → Type 0
LeavesGuard Good q = IsGuardOpen q
LeavesGuard _ q = IsGuardShut q

-- what the reply to a guarded command of these accesses shows: the two requests of the guard come first
abbrev pub guarded_part : List RegAccess → Transferred → Part
guarded_part accesses d = part_of (take (d.executed - 2) (payload accesses)) d.response d.words

-- the replies to the guarded commands of these parts, one after the other
abbrev pub chain_replies : TransferState → List (List RegAccess) → List Transferred
chain_replies p [] = []
chain_replies p (accesses ∷ parts) = let d = transfer_result p (guarded_requests accesses) in d ∷ chain_replies d.next parts

-- the state after the guarded commands of these parts
abbrev pub chain_after : TransferState → List (List RegAccess) → TransferState
chain_after p [] = p
chain_after p (accesses ∷ parts) = let d = transfer_result p (guarded_requests accesses) in chain_after d.next parts

-- a part of no accesses
abbrev pub nothing_yet : Part
nothing_yet = record { performed = 0; confirmed = 0; response = Good; values = [] }

-- two parts, one after the other, where the first was answered so; one that was cut has nothing after it
abbrev pub joined_as : Response → Part → Part → Part
joined_as Good a b = record {
  performed = a.performed + b.performed;
  confirmed = a.confirmed + b.confirmed;
  response = b.response;
  values = a.values ++ b.values;
}
joined_as _ a b = a

-- what the replies to the commands of a chain show
abbrev pub chain_part : List (List RegAccess) → List Transferred → Part
chain_part (accesses ∷ parts) (d ∷ replies) = joined_as d.response (guarded_part accesses d) (chain_part parts replies)
chain_part _ _ = nothing_yet

-- the accesses of all parts
abbrev pub all_of : List (List RegAccess) → List RegAccess
all_of [] = []
all_of (accesses ∷ parts) = accesses ++ all_of parts

-- each part has accesses that a flight takes
abbrev pub AllTaken : List (List RegAccess) → Type 0
AllTaken parts = AllByRecursion AreTaken parts

-- a reply that no request was executed, since the value match was not met
pub record IsShut (d : Transferred) : Type 0 where
  pub response : d.response ≡ Mismatch
  pub executed : d.executed ≡ 0
  pub words : d.words ≡ []

-- what follows a reply with this response: after the first that is cut all are shut
abbrev pub CutAs : Response → List Transferred → Type 0 → Type 0
CutAs Good replies rest = rest
CutAs Mismatch replies rest = ⊥
CutAs _ replies rest = AllByRecursion IsShut replies

-- the first reply that is not OK is WAIT or FAULT, and all after it say that nothing was executed
abbrev pub IsCutOnce : List Transferred → Type 0
IsCutOnce [] = ⊤
IsCutOnce (d ∷ replies) = CutAs d.response replies (IsCutOnce replies)

-- A chain of these parts does a part of its accesses, which its replies show. The guard is open after it where it came to its end, and else
-- shut.
pub record DoesChain (p : TransferState) (parts : List (List RegAccess)) : Type 0 where
  pub part : DoesPart p (chain_after p parts) (all_of parts) (chain_part parts (chain_replies p parts))
  pub guard : LeavesGuard (chain_part parts (chain_replies p parts)).response (chain_after p parts)
  pub cut : IsCutOnce (chain_replies p parts)
