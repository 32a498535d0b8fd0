-- The requests of the accesses of a flight: one for each access, and checks of writes between them.
use Rattle.std.specs.Prelude.{◌≡◌, ◌⊎◌, Bool, true, false, not, ◌&&◌, if◌then◌else◌, List, [], ◌∷◌, ◌++◌, fold}
use Rattle.std.specs.List.{AllByRecursion}
use Rattle.target_machine.specs.InRange.{IsWord}
use Rattle.target_machine.specs.declared.access.RegAccess.{RegAccess}
use Rattle.dap_messages.specs.declared.request.Request.{Request}
use Rattle.dap_messages.specs.Requests.{mask_request, match_request, read_request, write_request}
use Rattle.dap_transfer.specs.CommandEnds.{may_be_free, writes_ap}

-- An access that a flight takes. It takes each access of an access port. Of the debug port it takes a read of DPIDR (0x0) or CTRL/STAT (0x4),
-- and a write of ABORT (0x0), CTRL/STAT (0x4), SELECT (0x8) or address 0xC.
pub record IsTaken (a : RegAccess) : Type 0 where
  pub read : a.ap ≡ false → a.read ≡ true → (a.addr ≡ 0x0) ⊎ (a.addr ≡ 0x4)
  pub write : a.ap ≡ false → a.read ≡ false → (a.addr ≡ 0x0) ⊎ ((a.addr ≡ 0x4) ⊎ ((a.addr ≡ 0x8) ⊎ (a.addr ≡ 0xC)))

-- a flight takes each of these accesses
abbrev pub AreTaken : List RegAccess → Type 0
AreTaken accesses = AllByRecursion IsTaken accesses

-- what each of the accesses writes is of 32 bits
abbrev pub AreWords : List RegAccess → Type 0
AreWords accesses = AllByRecursion (λ a. IsWord a.value) accesses

-- the request that asks for an access
abbrev pub request_of : RegAccess → Request
request_of a = if a.read then read_request a.ap a.addr else write_request a.ap a.addr a.value

-- a read of RDBUFF (0xC): where it ends well the write before it was good
abbrev pub check : Request
check = read_request false 0xC

-- a check, where one is needed
abbrev pub check_when : Bool → List Request
check_when needed = if needed then check ∷ [] else []

-- The requests of these accesses, after a write of an access port or not. A check comes between such a write and an access that
-- may act while STICKYERR is set.
abbrev pub requests_for : Bool → List RegAccess → List Request
requests_for after_write [] = []
requests_for after_write (a ∷ rest) = check_when (after_write && may_be_free a) ++ request_of a ∷ requests_for (writes_ap a) rest

-- whether the last of these accesses is a write; without any, whether the one before them was
abbrev pub write_at_end : Bool → List RegAccess → Bool
write_at_end before accesses = fold (λ _ a. not a.read) before accesses

-- the requests of a guarded command between its guard and its end: those of the accesses, and the check of a last write
abbrev pub payload : List RegAccess → List Request
payload accesses = requests_for false accesses ++ check_when (write_at_end false accesses)

-- A guarded command begins with a value match of DPIDR with 0, which is met only while the match mask is 0, and then sets the
-- mask to 1. At its end it sets the mask to 0.
abbrev pub with_guards : List Request → List Request
with_guards requests = match_request false 0x0 0 ∷ mask_request 1 ∷ requests ++ mask_request 0 ∷ []

-- the guarded command of these accesses
abbrev pub guarded_requests : List RegAccess → List Request
guarded_requests accesses = with_guards (payload accesses)
