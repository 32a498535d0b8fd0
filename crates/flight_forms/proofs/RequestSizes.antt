-- How many bytes, reads and requests the accesses of a flight take.
use Rattle.std.proofs.Common.{◌≡◌, eqb, ℕ, ◌+◌, ◌*◌, ◌≤◌, ◌&&◌, ◌||◌, not, Bool, true, false, cond, List, [], ◌∷◌, ◌++◌, length, refl, ap, ◌∙◌, arith, suc, length-append}
use Rattle.std.specs.List.{flat_map}
use Rattle.std.proofs.lemmas.Grind.{flat_map-append}
use Rattle.std.proofs.lemmas.List.Concat.{flat_map-cons}
use Rattle.target_machine.specs.declared.access.RegAccess.{RegAccess}
use Rattle.dap_messages.specs.declared.request.Request.{Request}
use Rattle.dap_messages.specs.Requests.{kind, reads_in, request_bytes, takes_word, word_if}
use Rattle.target_machine.specs.Counts.{one_if}
use Rattle.target_machine.proofs.CountLemmas.{one_most}
use Rattle.dap_transfer.specs.CommandEnds.{may_be_free, writes_ap}
use Rattle.dap_transfer.specs.Private.{word_of}
use Rattle.dap_transfer.proofs.Words.{reads_first}
use Rattle.flight_forms.specs.Forms.{bytes_in}
use Rattle.flight_forms.specs.Packing.{check_when, request_of, requests_for}
use Rattle.flight_forms.proofs.RequestFacts.{kind_carried, kind_for}

-- ---- three facts of a form

pub three_parts : (x y z : Bool) → (x && y && z) ≡ true → (x ≡ true) × (y ≡ true) × (z ≡ true)
three_parts true true z e = (refl, refl, e)
three_parts true false z e = absurd (cc)
three_parts false y z e = absurd (cc)

pub three_from : (x y z : Bool) → x ≡ true → y ≡ true → z ≡ true → (x && y && z) ≡ true
three_from true true z e f g = g
three_from true false z e f g = absurd (cc)
three_from false y z e f g = absurd (cc)

-- ---- lists of requests

pub bytes_first : (r : Request) (rs : List Request) → bytes_in (r ∷ rs) ≡ length (request_bytes r) + bytes_in rs
bytes_first r rs = ap length (flat_map-cons request_bytes r rs) ∙ length-append (request_bytes r) (flat_map request_bytes rs)

pub bytes-append : (xs ys : List Request) → bytes_in (xs ++ ys) ≡ bytes_in xs + bytes_in ys
bytes-append xs ys = ap length (flat_map-append request_bytes xs ys) ∙ length-append (flat_map request_bytes xs) (flat_map request_bytes ys)

pub reads-append : (xs ys : List Request) → reads_in (xs ++ ys) ≡ reads_in xs + reads_in ys
reads-append [] ys = omega arith
reads-append (x ∷ xs) ys =
    let a = reads_first (x ∷ xs ++ ys) (xs ++ ys) x refl in
    let b = reads_first (x ∷ xs) xs x refl in
    let c = reads-append xs ys in
    omega arith

-- ---- one request

abbrev pub bytes_of : Bool → ℕ
bytes_of read_is = cond read_is 1 5

kind_bytes : (read_is ap_is : Bool) (word : ℕ) → suc (length (word_if (takes_word (kind_for ap_is read_is)) word)) ≡ bytes_of read_is
kind_bytes true true word = refl
kind_bytes true false word = refl
kind_bytes false ap_is word = refl

pub access_bytes : (a : RegAccess) → length (request_bytes (request_of a)) ≡ bytes_of a.read
access_bytes a = let r : Request = request_of a in ap (λ k. suc (length (word_if (takes_word k) r.word))) (kind_carried a) ∙ kind_bytes a.read a.ap r.word

kind_reads : (read_is ap_is : Bool) → word_of (kind_for ap_is read_is) ≡ one_if read_is
kind_reads true true = refl
kind_reads true false = refl
kind_reads false ap_is = refl

pub access_reads : (a : RegAccess) → word_of (kind (request_of a)) ≡ one_if a.read
access_reads a = ap word_of (kind_carried a) ∙ kind_reads a.read a.ap

-- ---- with a check before it

pub check_length : (b : Bool) → length (check_when b) ≡ one_if b
check_length true = refl
check_length false = refl

pub check_bytes : (b : Bool) → bytes_in (check_when b) ≡ one_if b
check_bytes true = refl
check_bytes false = refl

pub check_reads : (b : Bool) → reads_in (check_when b) ≡ one_if b
check_reads true = refl
check_reads false = refl

-- how many bytes, reads and requests one access adds, with a check before it or not
pub record Adds (checked : Bool) (a : RegAccess) (before after : List Request) : Type 0 where
  pub requests : length after ≡ length before + one_if checked + 1
  pub bytes : bytes_in after ≡ bytes_in before + one_if checked + bytes_of a.read
  pub reads : reads_in after ≡ reads_in before + one_if checked + one_if a.read

pub one_added : (b : Bool) (a : RegAccess) (before : List Request) → Adds b a before (before ++ (check_when b ++ request_of a ∷ []))
one_added b a before =
    let r : Request = request_of a in
    let some : List Request = check_when b ++ r ∷ [] in
    record {
      requests = (let x = length-append before some in let y = length-append (check_when b) (r ∷ []) in let z = check_length b in omega arith);
      bytes =
          (let x = bytes-append before some in
          let y = bytes-append (check_when b) (r ∷ []) in
          let z = check_bytes b in
          let v = bytes_first r [] in
          let u : bytes_in [] ≡ 0 = refl in
          let w = access_bytes a in
          omega arith);
      reads =
          (let x = reads-append before some in
          let y = reads-append (check_when b) (r ∷ []) in
          let z = check_reads b in
          let v = reads_first (r ∷ []) [] r refl in
          let u : reads_in [] ≡ 0 = refl in
          let w = access_reads a in
          omega arith);
    }

-- ---- of many accesses

pub record FewFor (w : Bool) (accesses : List RegAccess) : Type 0 where
  pub requests : 2 * length (requests_for w accesses) ≤ 3 * length accesses + one_if w
  pub bytes : bytes_in (requests_for w accesses) ≤ 6 * length accesses
  pub reads : reads_in (requests_for w accesses) ≤ length accesses + one_if w
  pub some : length accesses ≤ length (requests_for w accesses)

checked_most : (w free : Bool) → one_if (w && free) ≤ one_if w
checked_most true true = omega arith
checked_most true false = omega arith
checked_most false free = omega arith

-- an access is checked before or a write of an access port, not both; and a read is no write
pub one_of_them : (w : Bool) (a : RegAccess) → one_if (w && may_be_free a) + one_if (writes_ap a) ≤ 1
one_of_them w a = by_bits w a.ap (not a.read) (cond a.read (eqb a.addr 0 || eqb a.addr 4) (eqb a.addr 0))
  where
    by_bits : (w ap_is y x : Bool) → one_if (w && (not ap_is && x)) + one_if (ap_is && y) ≤ 1
    by_bits true true true x = omega arith
    by_bits true true false x = omega arith
    by_bits false true true x = omega arith
    by_bits false true false x = omega arith
    by_bits true false y true = omega arith
    by_bits true false y false = omega arith
    by_bits false false y x = omega arith

read_or_write : (ap_is read_is : Bool) → one_if read_is + one_if (ap_is && not read_is) ≤ 1
read_or_write true true = omega arith
read_or_write true false = omega arith
read_or_write false true = omega arith
read_or_write false false = omega arith

bytes_most : (b : Bool) → bytes_of b ≤ 5
bytes_most true = omega arith
bytes_most false = omega arith

pub few_for : (w : Bool) (accesses : List RegAccess) → FewFor w accesses
few_for w [] = record { requests = omega arith; bytes = omega arith; reads = omega arith; some = omega arith }
few_for w (a ∷ rest) =
    let b : Bool = w && may_be_free a in
    let r : Request = request_of a in
    let rs : List Request = requests_for (writes_ap a) rest in
    let more = few_for (writes_ap a) rest in
    let one = one_of_them w a in
    let most = checked_most w (may_be_free a) in
    let z = one_most b in
    record {
      requests = (let x = length-append (check_when b) (r ∷ rs) in let y = check_length b in let v = more.requests in omega arith);
      bytes =
          (let x = bytes-append (check_when b) (r ∷ rs) in
          let y = check_bytes b in
          let u = bytes_first r rs in
          let t = access_bytes a in
          let s = bytes_most a.read in
          let v = more.bytes in
          omega arith);
      reads =
          (let x = reads-append (check_when b) (r ∷ rs) in
          let y = check_reads b in
          let u = reads_first (r ∷ rs) rs r refl in
          let t = access_reads a in
          let s = read_or_write a.ap a.read in
          let v = more.reads in
          omega arith);
      some = (let x = length-append (check_when b) (r ∷ rs) in let v = more.some in omega arith);
    }

-- three requests for two accesses at most
pub requests_most : (accesses : List RegAccess) → 2 * length (requests_for false accesses) ≤ 3 * length accesses
requests_most accesses = (let h = few_for false accesses in let n = h.requests in omega arith)
