-- What a flight does, in terms of its accesses made one at a time; and what its replies show of that.
use Rattle.std.specs.Prelude.{◌≡◌, ℕ, ◌+◌, ◌-◌, ◌*◌, ◌^◌, ◌≤◌, ◌<◌, min, nat_lt, not, ◌&&◌, ◌||◌, slice_index, Bool, true}
use Rattle.std.specs.Prelude.{false, if◌then◌else◌, List, [], ◌∷◌, length, map, take, drop, Option, Some, None}
use Rattle.target_machine.specs.State.{TargetState}
use Rattle.target_machine.specs.Attempt.{attempt}
use Rattle.target_machine.specs.declared.access.RegAccess.{RegAccess}
use Rattle.dap_messages.specs.declared.request.Request.{Request}
use Rattle.dap_messages.specs.declared.request.Response.{Response}
use Rattle.dap_messages.specs.declared.request.Response.TheVariants.{Good, Wait, Fault, Mismatch}
use Rattle.dap_messages.specs.Requests.{kind, reads_in, write_after, gives_word}
use Rattle.dap_transfer.specs.Block.{block_result}
use Rattle.target_machine.specs.Counts.{one_if}
use Rattle.dap_transfer.specs.Laws.{accesses_in, one_at_a_time, value_now}
use Rattle.dap_transfer.specs.State.{Setting, TransferState, grown_work, is_wait}
use Rattle.dap_transfer.specs.Transfer.{transfer_result}
use Rattle.dap_transfer.specs.WireTransfer.{next_number, reads_rdbuff_itself, RetryIsOver}
use Rattle.dap_transfer.specs.Wires.{access_of}
use Rattle.flight_forms.specs.Packing.{requests_for}
use Rattle.dap_messages.specs.Responses.{is_good}

-- STICKYERR is clear before each of these accesses and after the last, where they are made one at a time
abbrev pub AreClear : TargetState → List RegAccess → Type 0
AreClear t [] = t.sticky ≡ false
AreClear t (a ∷ rest) = (t.sticky ≡ false) × AreClear (attempt t a).next rest

-- what each of these accesses gives where they are made one at a time: a read its value, a write none
abbrev pub slot_values : TargetState → List RegAccess → List (Option ℕ)
slot_values t [] = []
slot_values t (a ∷ rest) = (if a.read then Some (value_now t a) else None) ∷ slot_values (attempt t a).next rest

-- What a flight did that was answered so. Exactly the first of its accesses were made, one at a time, and the first of these are known to have
-- been good.
pub record Performs (t u : TargetState) (accesses : List RegAccess) (performed confirmed : ℕ) (response : Response) : Type 0 where
  pub most : performed ≤ length accesses
  -- whether it is not known of the last that was performed
  pub doubt : Bool
  pub near : performed ≡ confirmed + one_if doubt
  pub target : u ≡ one_at_a_time t (take performed accesses)
  pub clear : AreClear t (take confirmed accesses)
  pub whole : response ≡ Good → confirmed ≡ length accesses
  pub short : (response ≡ Good → ⊥) → confirmed < length accesses
  -- at FAULT the last that was performed set STICKYERR
  pub fault : response ≡ Fault → (doubt ≡ true) × (u.sticky ≡ true)
  pub never : response ≡ Mismatch → ⊥

-- What is known of a command, or of a flight, from its replies.
pub record Part : Type 0 where
  pub performed : ℕ
  pub confirmed : ℕ
  pub response : Response
  -- what each confirmed access gave: a read its value, a write none
  pub values : List (Option ℕ)

-- Accesses did this part of themselves, from one state of the probe to another.
pub record DoesPart (p q : TransferState) (accesses : List RegAccess) (part : Part) : Type 0 where
  pub made : Performs p.line.target q.line.target accesses part.performed part.confirmed part.response
  pub values : part.values ≡ slot_values p.line.target (take part.confirmed accesses)
  pub work : q.work ≡ grown_work p.work part.performed
  pub setting : q.setting ≡ p.setting
  pub retries : q.ended_retries ≡ (if is_wait part.response then min (p.ended_retries + 1) (2 ^ 32 - 1) else p.ended_retries)
  -- at WAIT the probe knows too whether the last access is in doubt
  pub pending : part.response ≡ Wait → part.performed ≡ part.confirmed + one_if q.pending
  -- how far the list of stalls went on
  pub number : q.line.number ≤ p.line.number + 2 * part.performed + one_if (is_wait part.response)
  -- where a retry ended
  pub over : part.response ≡ Wait → RetryIsOver p.setting q.line.number

-- ---- what a reply shows

-- the next word, where there is one
abbrev pub next_word : List ℕ → Option ℕ
next_word [] = None
next_word (word ∷ words) = Some word

-- an access of the flight's own: it is no read of RDBUFF, which checks a write
abbrev pub is_own : RegAccess → Bool
is_own a = not (reads_rdbuff_itself a)

-- What words say of the own accesses among these requests: each read takes a word, that of a check is dropped, and a write gives
-- none.
abbrev pub seen_values : List Request → List ℕ → List (Option ℕ)
seen_values [] words = []
seen_values (r ∷ rs) words =
    if gives_word (kind r)
    then (if is_own (access_of r) then next_word words ∷ seen_values rs (drop 1 words) else seen_values rs (drop 1 words))
    else None ∷ seen_values rs words

-- what one of these requests adds, where the next word is found or not
abbrev pub seen_one : Request → Option ℕ → List (Option ℕ)
seen_one r found = if gives_word (kind r) then (if is_own (access_of r) then found ∷ [] else []) else None ∷ []

-- Whether it is not known of the last executed request that it was good. The command did not end well, and the request is a write or its word is
-- missing.
abbrev pub doubts : Response → List Request → ℕ → Bool
doubts response executed given = not (is_good response) && (write_after false executed || nat_lt given (reads_in executed))

-- what a reply shows that says that these requests were executed, and gives these words
abbrev pub part_of : List Request → Response → List ℕ → Part
part_of executed response words =
    let performed = length (accesses_in executed) in
    let confirmed = performed - one_if (doubts response executed (length words)) in
    record {
      performed = performed;
      confirmed = confirmed;
      response = response;
      values = take confirmed (seen_values executed words);
    }

-- What a reply to so many accesses shows that may come, whatever was done. All are confirmed where it is OK, and fewer where it is not. The
-- values are those of the confirmed ones.
pub record IsPartOf (count : ℕ) (part : Part) : Type 0 where
  pub most : part.performed ≤ count
  pub within : part.confirmed ≤ part.performed
  pub near : part.performed ≤ part.confirmed + 1
  pub whole : part.response ≡ Good → part.confirmed ≡ count
  pub short : (part.response ≡ Good → ⊥) → part.confirmed < count
  pub values : length part.values ≡ part.confirmed

-- ---- commands without a guard

-- One Transfer of these accesses does a part of them, which its reply shows, and the match mask stays.
abbrev pub DoesTransfer : TransferState → List RegAccess → Type 0
DoesTransfer p accesses =
    let rs = requests_for false accesses in
    let d = transfer_result p rs in
    DoesPart p d.next accesses (part_of (take d.executed rs) d.response d.words) × (d.next.mask ≡ p.mask)

-- what the accesses write
abbrev pub words_of : List RegAccess → List ℕ
words_of accesses = map (λ a. a.value) accesses

-- So does one block of these writes of DRW (request byte 0x0D), whose reply gives no words.
abbrev pub DoesBlock : TransferState → List RegAccess → Type 0
DoesBlock p accesses =
    let d = block_result p 0x0D (words_of accesses) in
    DoesPart p d.next accesses (part_of (take d.executed (requests_for false accesses)) d.response []) × (d.next.mask ≡ p.mask)
