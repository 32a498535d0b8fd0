-- How many accesses a flight holds at most.
use Rattle.std.proofs.Common.{◌≡◌, ◌∙◌, leb, ℕ, suc, ◌+◌, ◌-◌, ◌*◌, ◌/◌, ◌≤◌, min, Bool, true, false, cond, ◌&&◌, List, [], ◌∷◌, ◌++◌, length, Option, Some, None, refl, sym, ap, subst, arith, length-append}
use Rattle.std.proofs.lemmas.Bool.{and_parts, leb-true}
use Rattle.std.proofs.lemmas.Nat.{mul-le}
use Rattle.std.specs.Prelude.{is_some}
use Rattle.target_machine.specs.Counts.{one_if}
use Rattle.target_machine.specs.declared.access.RegAccess.{RegAccess}
use Rattle.dap_messages.specs.declared.request.Request.{Request}
use Rattle.dap_messages.specs.Requests.{reads_in}
use Rattle.dap_transfer.specs.CommandEnds.{may_be_free, writes_ap}
use Rattle.dap_transfer.proofs.Words.{reads_first}
use Rattle.probe_core.specs.Ranges.{AreLimits}
use Rattle.probe_core.specs.declared.job.Limits.{Limits}
use Rattle.access_calls.specs.Standing.{flight_accesses, packet_capacity}
use Rattle.flight_forms.specs.Forms.{all_write_drw, bytes_in, filled_parts, fits_block, fits_chain, fits_guarded, fits_transfer, form_of, parts_of}
use Rattle.flight_forms.specs.Packing.{check_when, request_of, requests_for}
use Rattle.flight_forms.specs.declared.form.Form.{Form}
use Rattle.flight_forms.specs.declared.form.Form.TheVariants.{Block, Transfer, Chain}
use Rattle.flight_forms.proofs.Capacity.{guarded_most, transfer_most}
use Rattle.flight_forms.proofs.RequestSizes.{access_bytes, access_reads, bytes-append, bytes_first, bytes_of, reads-append, three_parts}
use Rattle.batch_packer.specs.Flying.{IsWithin}
use Rattle.bench_flights.specs.Wires.{AreHeld}

-- ---- in one packet

five_one : (read : Bool) → bytes_of read + 4 * one_if read ≡ 5
five_one true = refl
five_one false = refl

-- an access takes five bytes of its packet and the reply together
five_each : (w : Bool) (accesses : List RegAccess) → 5 * length accesses ≤ bytes_in (requests_for w accesses) + 4 * reads_in (requests_for w accesses)
five_each w [] = omega arith
five_each w (a ∷ rest) =
    let b : Bool = w && may_be_free a in
    let r : Request = request_of a in
    let rs : List Request = requests_for (writes_ap a) rest in
    let x = bytes-append (check_when b) (r ∷ rs) in
    let y = bytes_first r rs in
    let z = access_bytes a in
    let u = reads-append (check_when b) (r ∷ rs) in
    let v = reads_first (r ∷ rs) rs r refl in
    let t = access_reads a in
    let five = five_one a.read in
    let more = five_each (writes_ap a) rest in
    omega (arith, x, y, z, u, v, t, five, more)

-- how many accesses a packet of this size holds at most
abbrev most_in : ℕ → ℕ
most_in size = min 255 ((2 * (size - 3)) / 5)

transfer_few : (size : ℕ) (accesses : List RegAccess) → fits_transfer size accesses ≡ true → length accesses ≤ most_in size
transfer_few size accesses e =
    let rs : List Request = requests_for false accesses in
    let all = three_parts (leb (3 + bytes_in rs) size) (leb (3 + 4 * reads_in rs) size) (leb (length rs) 255) e in
    let bytes = leb-true (3 + bytes_in rs) size all.0 in
    let reads = leb-true (3 + 4 * reads_in rs) size all.1 in
    let five = five_each false accesses in
    let few = transfer_most size accesses e in
    omega (arith, bytes, reads, five, few)

guarded_few : (size : ℕ) (accesses : List RegAccess) → fits_guarded size accesses ≡ true → length accesses ≤ most_in size
guarded_few size accesses e =
    let rs : List Request = requests_for false accesses in
    let all = three_parts (leb (bytes_in rs + 21) size) (leb (reads_in rs) ((size - 9) / 4)) (leb (length rs) 251) e in
    let bytes = leb-true (bytes_in rs + 21) size all.0 in
    let reads = leb-true (reads_in rs) ((size - 9) / 4) all.1 in
    let five = five_each false accesses in
    let few = guarded_most size accesses e in
    omega (arith, bytes, reads, five, few)

block_few : (size : ℕ) (accesses : List RegAccess) → size ≤ 1024 → fits_block size accesses ≡ true → length accesses ≤ most_in size
block_few size accesses small e =
    let all = three_parts (leb 2 (length accesses)) (all_write_drw accesses) (leb (5 + 4 * length accesses) size) e in
    let few = leb-true (5 + 4 * length accesses) size all.2 in
    omega (arith, few, small)

-- ---- in a chain

-- a chain whose parts have so many at most, where the first has these accesses already
filled_few : (size most : ℕ) (part rest : List RegAccess) → 1 ≤ most → ((some : List RegAccess) → fits_guarded size some ≡ true → length some ≤ most) → length part ≤ most
    → length part + length rest ≤ length (filled_parts size part rest) * most
filled_few size most part [] one held few = (let e : 1 * most ≡ most = omega arith in omega (arith, e, few))
filled_few size most part (a ∷ rest) one held few =
    by_fit (fits_guarded size (part ++ a ∷ [])) refl (λ h. filled_few size most (part ++ a ∷ []) rest one held h) (filled_few size most (a ∷ []) rest one held one)
  where
    by_fit : (b : Bool) → fits_guarded size (part ++ a ∷ []) ≡ b → (length (part ++ a ∷ []) ≤ most → length (part ++ a ∷ []) + length rest ≤ length (filled_parts size (part ++ a ∷ []) rest) * most)
        → 1 + length rest ≤ length (filled_parts size (a ∷ []) rest) * most → length part + suc (length rest) ≤ length (cond b (filled_parts size (part ++ a ∷ []) rest) (part ∷ filled_parts size (a ∷ []) rest)) * most
    by_fit true e longer shorter = (let n = length-append part (a ∷ []) in let more = longer (held (part ++ a ∷ []) e) in omega (arith, n, more))
    by_fit false e longer shorter =
        let k : ℕ = length (filled_parts size (a ∷ []) rest) in
        let d : suc k * most ≡ k * most + most = omega arith in
        omega (arith, shorter, few, d)

parts_few : (size most : ℕ) (accesses : List RegAccess) → 1 ≤ most → ((some : List RegAccess) → fits_guarded size some ≡ true → length some ≤ most) → length accesses ≤ length (parts_of size accesses) * most
parts_few size most [] one held = omega arith
parts_few size most (a ∷ rest) one held = (let h = filled_few size most (a ∷ []) rest one held one in omega (arith, h))

-- ---- in a flight

-- what some form holds
form_few : (size count most : ℕ) (accesses : List RegAccess) (f : Form) → size ≤ 1024 → 1 ≤ count → 1 ≤ most → most ≡ most_in size → form_of size count accesses ≡ Some f → length accesses ≤ count * most
form_few size count most accesses f small some one is e = by_block (fits_block size accesses) refl
  where
    -- in one packet
    in_one : length accesses ≤ most → length accesses ≤ count * most
    in_one few = (let h = mul-le 1 most count most some (omega arith) in let d : 1 * most ≡ most = omega arith in omega (arith, few, h, d))

    in_chain : fits_chain size count accesses ≡ true → length accesses ≤ count * most
    in_chain h =
        let two = and_parts (leb 2 count) (leb (length (parts_of size accesses)) count) h in
        let few = leb-true (length (parts_of size accesses)) count two.1 in
        let all = parts_few size most accesses one (λ part fits. (let k = guarded_few size part fits in omega (arith, k, is))) in
        let le = mul-le (length (parts_of size accesses)) most count most few (omega arith) in
        omega (arith, all, le)

    by_chain : (b : Bool) → fits_chain size count accesses ≡ b → cond {A = Option Form} b (Some Chain) None ≡ Some f → length accesses ≤ count * most
    by_chain true h g = in_chain h
    by_chain false h g = absurd (cc)

    by_transfer : (b : Bool) → fits_transfer size accesses ≡ b → cond {A = Option Form} b (Some Transfer) (cond (fits_chain size count accesses) (Some Chain) None) ≡ Some f → length accesses ≤ count * most
    by_transfer true h g = in_one (let k = transfer_few size accesses h in omega (arith, k, is))
    by_transfer false h g = by_chain (fits_chain size count accesses) refl g

    by_block : (b : Bool) → fits_block size accesses ≡ b → length accesses ≤ count * most
    by_block true h = in_one (let k = block_few size accesses small h in omega (arith, k, is))
    by_block false h =
        by_transfer (fits_transfer size accesses) refl
        (sym (ap (λ b. cond {A = Option Form} b (Some Block) (cond (fits_transfer size accesses) (Some Transfer) (cond (fits_chain size count accesses) (Some Chain) None))) h) ∙ e)

form_held : (size count most : ℕ) (accesses : List RegAccess) (f : Option Form) → size ≤ 1024 → 1 ≤ count → 1 ≤ most → most ≡ most_in size → form_of size count accesses ≡ f → is_some f ≡ true → length accesses ≤ count * most
form_held size count most accesses None small some one is e held = absurd (cc)
form_held size count most accesses (Some f) small some one is e held = form_few size count most accesses f small some one is e

held_few : (limits : Limits) (accesses : List RegAccess) → AreLimits limits → AreHeld limits accesses → length accesses ≤ flight_accesses limits
held_few limits [] fits held = omega arith
held_few limits (a ∷ rest) fits held =
    form_held limits.packet_size limits.packet_count (packet_capacity limits) (a ∷ rest) (form_of limits.packet_size limits.packet_count (a ∷ rest)) fits.size_high fits.count_low
    (let low = fits.size_low in omega (arith, low)) refl refl (held (omega arith))

-- with larger limits a flight holds no fewer
more_held : (limits given : Limits) → IsWithin limits given → flight_accesses limits ≤ flight_accesses given
more_held limits given within =
    mul-le limits.packet_count (packet_capacity limits) given.packet_count (packet_capacity given) within.count (let s = within.size in omega (arith, s))

-- what a flight has that is held to its limits is at most what one holds by the limits of the bench
pub accesses_held : (limits given now : Limits) (accesses : List RegAccess) → AreLimits limits → AreHeld limits accesses → IsWithin limits given → now ≡ given → length accesses ≤ flight_accesses now
accesses_held limits given now accesses fits held within same =
    subst (λ (l : Limits). length accesses ≤ flight_accesses l) (sym same)
    (let few = held_few limits accesses fits held in let more = more_held limits given within in omega (arith, few, more))
