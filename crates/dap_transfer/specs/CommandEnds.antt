-- How a command of normal requests ends: where, and which of its accesses are known to have been good.
use Rattle.std.specs.Prelude.{◌≡◌, ℕ, ◌+◌, ◌≤◌, Bool, true, false, not, ◌&&◌, ◌||◌, ◌==◌, if◌then◌else◌, List, [], ◌∷◌, length, take, map, fold, count_by, ⊤}
use Rattle.target_machine.specs.Registers.{abort_address, ctrl_stat_address, dpidr_address}
use Rattle.target_machine.specs.Counts.{one_if}
use Rattle.target_machine.specs.State.{TargetState}
use Rattle.target_machine.specs.declared.access.RegAccess.{RegAccess}
use Rattle.dap_messages.specs.declared.request.Request.{Request}
use Rattle.dap_messages.specs.declared.request.Response.{Response}
use Rattle.dap_messages.specs.declared.request.Response.TheVariants.{Good, Wait, Fault, Mismatch}
use Rattle.dap_messages.specs.Requests.{is_posted, kind, reads_in, write_after}
use Rattle.dap_transfer.specs.Wires.{access_of}
use Rattle.dap_transfer.specs.State.{TransferState, Transferred}
use Rattle.dap_transfer.specs.Transfer.{transfer_result}
use Rattle.dap_transfer.specs.Laws.{one_at_a_time}

-- an access that, under some SELECT, acts also where STICKYERR is set: DPIDR, CTRL/STAT, ABORT
abbrev pub may_be_free : RegAccess → Bool
may_be_free a = not a.ap && (if a.read then (a.addr == dpidr_address) || (a.addr == ctrl_stat_address) else (a.addr == abort_address))

-- a write of an access port
abbrev pub writes_ap : RegAccess → Bool
writes_ap a = a.ap && not a.read

-- No access that may act where STICKYERR is set follows a write of an access port directly; before these requests such a
-- write was made or not.
abbrev pub AreGuarded : Bool → List Request → Type 0
AreGuarded after_write [] = ⊤
AreGuarded after_write (r ∷ rs) = ((after_write && may_be_free (access_of r)) ≡ false) × AreGuarded (writes_ap (access_of r)) rs

-- Whether the outcome of the last executed access is not known: at WAIT where a read was outstanding or a write unchecked,
-- and at FAULT always.
abbrev pub is_doubted : Response → Bool → Bool
is_doubted Good pending = false
is_doubted Wait pending = pending
is_doubted Fault pending = true
is_doubted Mismatch pending = false

-- the same of a command that was done
abbrev pub in_doubt : Transferred → Bool
in_doubt d = is_doubted d.response d.next.pending

-- whether the last request is a posted read; without a request, whether one was outstanding before
abbrev pub posted_last : Bool → List Request → Bool
posted_last before rs = fold (λ _ r. is_posted (kind r)) before rs

-- the target after the accesses of the first n requests
abbrev pub target_after : TargetState → ℕ → List Request → TargetState
target_after t n rs = one_at_a_time t (take n (map access_of rs))

-- A command that executed the first n of these requests, gave so many words and ended so, its last access being in doubt
-- or not. Before these requests a read was outstanding, or a write unchecked, or neither.
pub record EndsAt (t : TargetState) (outstanding unchecked : Bool) (rs : List Request) (given n : ℕ) (response : Response) (doubt : Bool) : Type 0 where
  pub most : n ≤ length rs
  pub whole : response ≡ Good → n ≡ length rs
  pub never : response ≡ Mismatch → ⊥
  -- STICKYERR was clear before each access whose outcome is known, and after the last of them
  pub clear : (j : ℕ) → j + one_if doubt ≤ n → (target_after t j rs).sticky ≡ false
  -- at FAULT the last access set it
  pub fault : response ≡ Fault → (target_after t n rs).sticky ≡ true
  -- the word of a posted read is missing exactly where its outcome is not known
  pub words : given + one_if (doubt && posted_last outstanding (take n rs)) ≡ one_if outstanding + reads_in (take n rs)
  -- what is in doubt is a posted read or a write
  pub unseen : doubt ≡ true → (posted_last outstanding (take n rs) || write_after unchecked (take n rs)) ≡ true
  -- where all requests were executed it is the last access that is in doubt
  pub at_end : (response ≡ Good → ⊥) → n ≡ length rs → doubt ≡ true
  -- a last write is in doubt unless the command ended well
  pub unproven : write_after unchecked (take n rs) ≡ true → (response ≡ Good → ⊥) → doubt ≡ true

-- how a command of these requests ends
abbrev pub Ends : TransferState → List Request → Type 0
Ends p rs = let d = transfer_result p rs in EndsAt p.line.target false false rs (length d.words) d.executed d.response (in_doubt d)

-- What a command with a mask after its last request does, by what it does without. Where it ended well one request more is executed, and the
-- mask is set.
abbrev pub masked_by : Response → Transferred → ℕ → Transferred
masked_by Good d mask = record d { executed = d.executed + 1; next = record d.next { mask = mask } }
masked_by _ d mask = d

-- the same, by how the command ended
abbrev pub masked_result : Transferred → ℕ → Transferred
masked_result d mask = masked_by d.response d mask

-- the same command with k executed requests in front of it
abbrev pub counted_from : ℕ → Transferred → Transferred
counted_from k d = record d { executed = k + d.executed }

-- how many of these requests are posted reads
abbrev pub posted_in : List Request → ℕ
posted_in rs = count_by (λ r. is_posted (kind r)) rs

-- Whether one transfer more was made at the end of a command, by how it ended and what its last executed request is. It is the check of a write,
-- or the one that met more WAITs than the retry number allows. Or it is the one that met FAULT, unless it was to fetch the word of a posted
-- read.
abbrev pub one_at_end : Response → Bool → Bool → Bool
one_at_end Good posted written = written
one_at_end Wait posted written = true
one_at_end Fault posted written = not posted
one_at_end Mismatch posted written = true

-- So many transfers that may wait are numbered where n requests are executed. They are one for each request, one for each posted read to fetch
-- its word, and one at the end.
abbrev pub IsNumbered : ℕ → Bool → Bool → ℕ → List Request → Response → ℕ → Type 0
IsNumbered before outstanding unchecked n rs response number =
    number ≤ before + n + posted_in (take n rs) + one_if outstanding
    + one_if (one_at_end response (posted_last outstanding (take n rs)) (write_after unchecked (take n rs)))

-- how far a command of these requests goes on in the list of stalls
abbrev pub NumbersTransfers : TransferState → List Request → Type 0
NumbersTransfers p rs = let d = transfer_result p rs in IsNumbered p.line.number false false d.executed rs d.response d.next.line.number
