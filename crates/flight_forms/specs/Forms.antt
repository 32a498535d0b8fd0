-- The forms of a flight, and what each of them holds. The packet size is in bytes; the packet count is how many packets a probe takes
-- before a reply is read.
use Rattle.std.specs.Prelude.{ℕ, ◌+◌, ◌-◌, ◌*◌, ◌/◌, Bool, true, false, not, ◌&&◌, ◌==◌, nat_le, if◌then◌else◌, List, [], ◌∷◌, ◌++◌, length, bit_and, Option, Some, None}
use Rattle.std.specs.List.{flat_map}
use Rattle.target_machine.specs.declared.access.RegAccess.{RegAccess}
use Rattle.dap_messages.specs.declared.request.Request.{Request}
use Rattle.dap_messages.specs.Requests.{reads_in, request_bytes}
use Rattle.flight_forms.specs.declared.form.Form.{Form}
use Rattle.flight_forms.specs.declared.form.Form.TheVariants.{Block, Transfer, Chain}
use Rattle.flight_forms.specs.Packing.{requests_for}

-- a write of DRW: any write of an access port whose address has bits 3 and 2 set
abbrev pub writes_drw : RegAccess → Bool
writes_drw a = a.ap && not a.read && (bit_and a.addr 0xC == 0xC)

-- all of them are writes of DRW
abbrev pub all_write_drw : List RegAccess → Bool
all_write_drw [] = true
all_write_drw (a ∷ rest) = writes_drw a && all_write_drw rest

-- A block holds two writes of DRW or more, of 4 bytes each after 5 others.
abbrev pub fits_block : ℕ → List RegAccess → Bool
fits_block size accesses = nat_le 2 (length accesses) && all_write_drw accesses && nat_le (5 + 4 * length accesses) size

-- how many bytes the requests take
abbrev pub bytes_in : List Request → ℕ
bytes_in requests = length (flat_map request_bytes requests)

-- One Transfer holds 255 requests at most. Its packet has 3 bytes before those of the requests, and its reply 3 bytes before the
-- words of the reads.
abbrev pub fits_transfer : ℕ → List RegAccess → Bool
fits_transfer size accesses =
    let requests = requests_for false accesses in
    nat_le (3 + bytes_in requests) size && nat_le (3 + 4 * reads_in requests) size && nat_le (length requests) 255

-- A guarded Transfer has 21 bytes besides those of its accesses and of the checks between them. It has 4 requests besides, and one read at most
-- besides, the check of a last write. Its reply has 5 bytes besides the words.
abbrev pub fits_guarded : ℕ → List RegAccess → Bool
fits_guarded size accesses =
    let requests = requests_for false accesses in
    nat_le (bytes_in requests + 21) size && nat_le (reads_in requests) ((size - 9) / 4) && nat_le (length requests) 251

-- the parts of a chain, where the first of them has these accesses already: each part has as many as fit
abbrev pub filled_parts : ℕ → List RegAccess → List RegAccess → List (List RegAccess)
filled_parts size part [] = part ∷ []
filled_parts size part (a ∷ rest) =
    if fits_guarded size (part ++ a ∷ []) then filled_parts size (part ++ a ∷ []) rest else part ∷ filled_parts size (a ∷ []) rest

-- the parts of a chain of these accesses, each a guarded Transfer
abbrev pub parts_of : ℕ → List RegAccess → List (List RegAccess)
parts_of size [] = []
parts_of size (a ∷ rest) = filled_parts size (a ∷ []) rest

-- A chain holds as many parts as the probe takes packets, which are two at least.
abbrev pub fits_chain : ℕ → ℕ → List RegAccess → Bool
fits_chain size count accesses = nat_le 2 count && nat_le (length (parts_of size accesses)) count

-- the first form that holds the accesses: a block, one Transfer, or a chain
abbrev pub form_of : ℕ → ℕ → List RegAccess → Option Form
form_of size count accesses =
    if fits_block size accesses then Some Block else
    if fits_transfer size accesses then Some Transfer else
    if fits_chain size count accesses then Some Chain else None

-- so many accesses some form holds, whatever they are: 6 bytes for each, which are the request and a check
abbrev pub capacity : ℕ → ℕ → ℕ
capacity size count = count * ((size - 21) / 6)
