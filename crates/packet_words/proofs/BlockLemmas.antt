-- The words of a block, one by one.
use Rattle.std.proofs.Common.{◌≡◌, ◌+◌, ℕ, zero, suc, List, [], ◌∷◌, ◌++◌, Option, Some, drop, slice_get, refl, append_assoc, arith}
use Rattle.dap_messages.specs.declared.request.Request.{Request}
use Rattle.packet_words.specs.declared.fate.Fate.{Fate}
use Rattle.register_words.specs.declared.known.KnownRegisters.{KnownRegisters}
use Rattle.register_words.specs.declared.access.RegisterAccess.{RegisterAccess}
use Rattle.packet_words.specs.Accesses.{request_access, requests_accesses}
use Rattle.packet_words.specs.Requests.{RequestsLeft, after_request, after_requests, fate_of, left_after_request, request_line, request_lines}
use Rattle.dap_messages.specs.Requests.{block_requests}

-- the item at a place, and those after it
pub drop_at : (xs : List ℕ) (i x : ℕ) → slice_get xs i ≡ Some x → drop i xs ≡ x ∷ drop (i + 1) xs
drop_at [] zero x at = cc
drop_at [] (suc i) x at = cc
drop_at (y ∷ ys) zero x at = let same : y ≡ x = cc in rw same refl
drop_at (y ∷ ys) (suc i) x at =
    let more : suc i + 1 ≡ suc (i + 1) = omega arith in
    rw more (drop_at ys i x at)

abbrev word_request : ℕ → ℕ → Request
word_request byte word = record { byte = byte; word = word }

-- one word more is written
pub block_text : (line next all : List ℕ) (known later : KnownRegisters) (left rest : RequestsLeft) (byte : ℕ) (words : List ℕ) (i word : ℕ) (fate : Fate)
    → slice_get words i ≡ Some word → fate ≡ fate_of left (word_request byte word) → next ≡ line ++ request_line known (word_request byte word) fate
    → later ≡ after_request known (word_request byte word) fate → rest ≡ left_after_request left (word_request byte word)
    → line ++ request_lines known left (block_requests byte (drop i words)) ≡ all
    → next ++ request_lines later rest (block_requests byte (drop (i + 1) words)) ≡ all
block_text line next all known later left rest byte words i word fate at fate_is next_is later_is rest_is before =
    let h = rw (drop_at words i word at) at before in
    simp (next_is, later_is, rest_is, fate_is, append_assoc) h

-- one access more
pub block_accesses : (made next all : List RegisterAccess) (known later : KnownRegisters) (left rest : RequestsLeft) (byte : ℕ) (words : List ℕ) (i word : ℕ) (fate : Fate)
    → slice_get words i ≡ Some word → fate ≡ fate_of left (word_request byte word) → next ≡ made ++ request_access known (word_request byte word) fate
    → later ≡ after_request known (word_request byte word) fate → rest ≡ left_after_request left (word_request byte word)
    → made ++ requests_accesses known left (block_requests byte (drop i words)) ≡ all
    → next ++ requests_accesses later rest (block_requests byte (drop (i + 1) words)) ≡ all
block_accesses made next all known later left rest byte words i word fate at fate_is next_is later_is rest_is before =
    let h = rw (drop_at words i word at) at before in
    simp (next_is, later_is, rest_is, fate_is, append_assoc) h

-- what is known after one word more
pub block_known : (known later end : KnownRegisters) (left rest : RequestsLeft) (byte : ℕ) (words : List ℕ) (i word : ℕ) (fate : Fate)
    → slice_get words i ≡ Some word → fate ≡ fate_of left (word_request byte word)
    → later ≡ after_request known (word_request byte word) fate → rest ≡ left_after_request left (word_request byte word)
    → after_requests known left (block_requests byte (drop i words)) ≡ end
    → after_requests later rest (block_requests byte (drop (i + 1) words)) ≡ end
block_known known later end left rest byte words i word fate at fate_is later_is rest_is before =
    let h = rw (drop_at words i word at) at before in
    simp (later_is, rest_is, fate_is) h
