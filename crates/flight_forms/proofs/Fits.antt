-- What fits a form fits its packets.
use Rattle.std.proofs.Common.{◌≡◌, leb, ℕ, ◌+◌, ◌*◌, ◌-◌, ◌/◌, ◌^◌, ◌≤◌, ◌<◌, ◌&&◌, Bool, true, false, List, [], ◌∷◌, ◌++◌, length, refl, ap, arith, suc, subst, length-append}
use Rattle.std.specs.List.{AllByRecursion}
use Rattle.std.proofs.lemmas.Bool.{leb-true}
use Rattle.target_machine.specs.declared.access.RegAccess.{RegAccess}
use Rattle.target_machine.proofs.CountLemmas.{one_most}
use Rattle.dap_messages.specs.declared.request.Request.{Request}
use Rattle.dap_messages.specs.Requests.{IsRequest, mask_request, match_request, reads_in, request_bytes}
use Rattle.dap_messages.proofs.RequestBits.{mask_is_request, match_is_request, read_is_request}
use Rattle.dap_messages.proofs.WordLemmas.{length-word_bytes}
use Rattle.dap_transfer.specs.CommandEnds.{may_be_free, writes_ap}
use Rattle.dap_transfer.proofs.Words.{reads_first}
use Rattle.flight_forms.specs.Flights.{words_of}
use Rattle.flight_forms.specs.Forms.{all_write_drw, bytes_in, fits_block, fits_guarded, fits_transfer, parts_of}
use Rattle.flight_forms.specs.Packets.{FitChain, FitsPacket, block_command, guarded_command, transfer_command}
use Rattle.flight_forms.specs.Packing.{AreWords, check_when, guarded_requests, payload, request_of, requests_for, write_at_end}
use Rattle.flight_forms.proofs.PartLists.{parts_fit, parts_have}
use Rattle.flight_forms.proofs.RequestFacts.{request_is}
use Rattle.flight_forms.proofs.RequestSizes.{bytes-append, bytes_first, check_bytes, check_length, check_reads, few_for, reads-append, three_parts}

-- ---- the requests are in their ranges

check_is : (b : Bool) (rs : List Request) → AllByRecursion IsRequest rs → AllByRecursion IsRequest (check_when b ++ rs)
check_is true rs h = (read_is_request false 0xC, h)
check_is false rs h = h

requests_are : (w : Bool) (accesses : List RegAccess) (more : List Request) → AreWords accesses → AllByRecursion IsRequest more → AllByRecursion IsRequest (requests_for w accesses ++ more)
requests_are w [] more h k = k
requests_are w (a ∷ rest) more h k =
    by_check (w && may_be_free a) (requests_are (writes_ap a) rest more h.1 k)
  where
    by_check : (b : Bool) → AllByRecursion IsRequest (requests_for (writes_ap a) rest ++ more) → AllByRecursion IsRequest ((check_when b ++ request_of a ∷ requests_for (writes_ap a) rest) ++ more)
    by_check true rest_is = (read_is_request false 0xC, (request_is a h.0, rest_is))
    by_check false rest_is = (request_is a h.0, rest_is)

plain_are : (accesses : List RegAccess) → AreWords accesses → AllByRecursion IsRequest (requests_for false accesses)
plain_are accesses h = subst (AllByRecursion IsRequest) (append-none (requests_for false accesses)) (requests_are false accesses [] h tt)
  where
    append-none : (rs : List Request) → rs ++ [] ≡ rs
    append-none [] = refl
    append-none (r ∷ rs) = ap (λ xs. r ∷ xs) (append-none rs)

joined_are : (xs ys : List Request) → AllByRecursion IsRequest xs → AllByRecursion IsRequest ys → AllByRecursion IsRequest (xs ++ ys)
joined_are [] ys h k = k
joined_are (x ∷ xs) ys h k = (h.0, joined_are xs ys h.1 k)

guarded_are : (accesses : List RegAccess) → AreWords accesses → AllByRecursion IsRequest (guarded_requests accesses)
guarded_are accesses h = (
  match_is_request false 0x0 0 (omega arith),
  (
    mask_is_request 1 (omega arith),
    joined_are (payload accesses) (mask_request 0 ∷ []) (requests_are false accesses (check_when (write_at_end false accesses)) h (checks (write_at_end false accesses)))
        (mask_is_request 0 (omega arith), tt),
  ),
)
  where
    checks : (b : Bool) → AllByRecursion IsRequest (check_when b)
    checks true = (read_is_request false 0xC, tt)
    checks false = tt

-- ---- one Transfer

pub transfer_fits : (size : ℕ) (a : RegAccess) (rest : List RegAccess) → AreWords (a ∷ rest) → fits_transfer size (a ∷ rest) ≡ true → FitsPacket size 0 (transfer_command (a ∷ rest))
transfer_fits size a rest ranges fits =
    let rs : List Request = requests_for false (a ∷ rest) in
    let all = three_parts (leb (3 + bytes_in rs) size) (leb (3 + 4 * reads_in rs) size) (leb (length rs) 255) fits in
    let bytes : 3 + bytes_in rs ≤ size = leb-true (3 + bytes_in rs) size all.0 in
    let words : 3 + 4 * reads_in rs ≤ size = leb-true (3 + 4 * reads_in rs) size all.1 in
    let few : length rs ≤ 255 = leb-true (length rs) 255 all.2 in
    let counts = few_for false (a ∷ rest) in
    let some : 1 ≤ length rs = (let s = counts.some in omega arith) in
    record { command = (some, omega arith, plain_are (a ∷ rest) ranges); bytes = omega arith; reply = omega arith }

-- ---- a guarded Transfer

pub record GuardedSize (accesses : List RegAccess) : Type 0 where
  pub requests : length (guarded_requests accesses) ≤ length (requests_for false accesses) + 4
  pub bytes : bytes_in (guarded_requests accesses) ≤ bytes_in (requests_for false accesses) + 16
  pub reads : reads_in (guarded_requests accesses) ≤ reads_in (requests_for false accesses) + 1

guarded_size : (accesses : List RegAccess) → GuardedSize accesses
guarded_size accesses =
    let b : Bool = write_at_end false accesses in
    let rs : List Request = requests_for false accesses in
    let last : List Request = mask_request 0 ∷ [] in
    let tail : List Request = payload accesses ++ last in
    let one = one_most b in
    record {
      requests = (let x = length-append (payload accesses) last in let y = length-append rs (check_when b) in let z = check_length b in omega arith);
      bytes =
          (let x = bytes_first (match_request false 0x0 0) (mask_request 1 ∷ tail) in
          let y = bytes_first (mask_request 1) tail in
          let z = bytes-append (payload accesses) last in
          let u = bytes-append rs (check_when b) in
          let v = check_bytes b in
          let five : length (request_bytes (match_request false 0x0 0)) ≡ 5 = refl in
          let mask_five : length (request_bytes (mask_request 1)) ≡ 5 = refl in
          let last_five : bytes_in last ≡ 5 = refl in
          omega arith);
      reads =
          (let x = reads_first (guarded_requests accesses) (mask_request 1 ∷ tail) (match_request false 0x0 0) refl in
          let y = reads_first (mask_request 1 ∷ tail) tail (mask_request 1) refl in
          let z = reads-append (payload accesses) last in
          let u = reads-append rs (check_when b) in
          let v = check_reads b in
          let none : reads_in last ≡ 0 = refl in
          omega arith);
    }

-- four requests more in a guarded command, at most
pub guarded_most : (accesses : List RegAccess) → length (guarded_requests accesses) ≤ length (requests_for false accesses) + 4
guarded_most accesses = (let h = guarded_size accesses in h.requests)

pub guarded_fits : (size : ℕ) (accesses : List RegAccess) → AreWords accesses → fits_guarded size accesses ≡ true → FitsPacket size 2 (guarded_command accesses)
guarded_fits size accesses ranges fits =
    let rs : List Request = requests_for false accesses in
    let all = three_parts (leb (bytes_in rs + 21) size) (leb (reads_in rs) ((size - 9) / 4)) (leb (length rs) 251) fits in
    let bytes : bytes_in rs + 21 ≤ size = leb-true (bytes_in rs + 21) size all.0 in
    let words : reads_in rs ≤ (size - 9) / 4 = leb-true (reads_in rs) ((size - 9) / 4) all.1 in
    let few : length rs ≤ 251 = leb-true (length rs) 251 all.2 in
    let counts = guarded_size accesses in
    record {
      command = (omega arith, (let x = counts.requests in omega arith), guarded_are accesses ranges);
      bytes = (let x = counts.bytes in omega arith);
      reply = (let x = counts.reads in omega arith);
    }

chain_fits : (size : ℕ) (parts : List (List RegAccess)) → AllByRecursion (λ xs. AreWords xs) parts → AllByRecursion (λ xs. fits_guarded size xs ≡ true) parts → FitChain size parts
chain_fits size [] h k = tt
chain_fits size (part ∷ parts) h k = (guarded_fits size part h.0 k.0, chain_fits size parts h.1 k.1)

pub parts_fit_packets : (size : ℕ) (accesses : List RegAccess) → 64 ≤ size → size ≤ 1024 → AreWords accesses → FitChain size (parts_of size accesses)
parts_fit_packets size accesses least small ranges =
    chain_fits size (parts_of size accesses) (parts_have (λ a. a.value < 2 ^ 32) size accesses ranges) (parts_fit size accesses least small)

-- ---- a block

pub length_words : (accesses : List RegAccess) → length (words_of accesses) ≡ length accesses
length_words [] = refl
length_words (a ∷ rest) = ap suc (length_words rest)

words_fit : (accesses : List RegAccess) → AreWords accesses → AllByRecursion (λ word. word < 2 ^ 32) (words_of accesses)
words_fit [] h = tt
words_fit (a ∷ rest) h = (h.0, words_fit rest h.1)

pub block_fits : (size : ℕ) (accesses : List RegAccess) → size < 2 ^ 16 → AreWords accesses → fits_block size accesses ≡ true → FitsPacket size 0 (block_command accesses)
block_fits size accesses small ranges fits =
    let all = three_parts (leb 2 (length accesses)) (all_write_drw accesses) (leb (5 + 4 * length accesses) size) fits in
    let some = leb-true 2 (length accesses) all.0 in
    let few = leb-true (5 + 4 * length accesses) size all.2 in
    let count = length_words accesses in
    let bytes = length-word_bytes (words_of accesses) in
    record {
      command = (refl, omega arith, omega arith, words_fit accesses ranges);
      bytes = omega arith;
      reply = omega arith;
    }
