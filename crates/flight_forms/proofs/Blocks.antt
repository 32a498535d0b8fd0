-- A block of writes of DRW.
use Rattle.std.proofs.Common.{◌≡◌, eqb, leb, ℕ, ◌+◌, ◌*◌, ◌&&◌, ◌||◌, not, Bool, true, false, cond, List, [], ◌∷◌, ◌++◌, length, take, refl, ap, sym, ◌∙◌, arith, suc, zero, subst, IsTrue}
use Rattle.std.specs.Prelude.{bit_and}
use Rattle.std.proofs.lemmas.Bool.{eq-eqb, eqb-true, and_parts, not-true}
use Rattle.target_machine.specs.declared.access.RegAccess.{RegAccess}
use Rattle.dap_messages.specs.declared.request.Request.{Request}
use Rattle.dap_messages.specs.declared.request.Response.{Response}
use Rattle.dap_messages.specs.declared.request.Response.TheVariants.{Good, Wait, Fault, Mismatch}
use Rattle.dap_messages.specs.Replies.{Answers, may_end_block}
use Rattle.dap_messages.specs.Requests.{reads_in, block_requests}
use Rattle.dap_messages.specs.Responses.{code_of, response_of}
use Rattle.dap_transfer.specs.Block.{block_result}
use Rattle.dap_transfer.specs.CommandEnds.{Ends, EndsAt, in_doubt, may_be_free, writes_ap}
use Rattle.dap_transfer.specs.State.{TransferState, Transferred}
use Rattle.dap_transfer.specs.Transfer.{transfer_result}
use Rattle.dap_transfer.proofs.BlockTransfers.{block_is_transfer}
use Rattle.dap_transfer.proofs.CommandEnds.{command_ends}
use Rattle.dap_transfer.proofs.Words.{reads_first}
use Rattle.flight_forms.specs.Flights.{DoesBlock, DoesPart, part_of, words_of}
use Rattle.flight_forms.specs.Forms.{all_write_drw, fits_block, writes_drw}
use Rattle.flight_forms.specs.Packets.{block_answer, block_command}
use Rattle.flight_forms.specs.Packing.{AreTaken, check_when, request_of, requests_for}
use Rattle.flight_forms.proofs.AskedRequests.{all_guarded, are_normal}
use Rattle.flight_forms.proofs.RequestSizes.{three_parts}
use Rattle.flight_forms.proofs.Transfers.{does_transfer}
use Rattle.dap_base.proofs.Basics.{no_items}

-- ---- the requests of writes of DRW are those of a block

drw_request : (a : RegAccess) → writes_drw a ≡ true → (a.ap ≡ true) × (request_of a ≡ record { byte = 0x0D; word = a.value })
drw_request a e =
    let parts = three_parts a.ap (not a.read) (eqb (bit_and a.addr 12) 12) e in
    let write : a.read ≡ false = not-true a.read parts.1 in
    let addr : bit_and a.addr 12 ≡ 12 = eqb-true (bit_and a.addr 12) 12 parts.2 in (
      parts.0,
      (λ i. cond (write i) (record { byte = cond (parts.0 i) 1 0 + 2 + bit_and a.addr 12; word = 0 }) (record { byte = cond (parts.0 i) 1 0 + 0 + addr i; word = a.value })),
    )

no_check : (w : Bool) (a : RegAccess) (rs : List Request) → a.ap ≡ true → check_when (w && may_be_free a) ++ rs ≡ rs
no_check w a rs e = ap (λ b. check_when (w && (not b && cond a.read (eqb a.addr 0 || eqb a.addr 4) (eqb a.addr 0))) ++ rs) e ∙ by_write w
  where
    by_write : (b : Bool) → check_when (b && false) ++ rs ≡ rs
    by_write true = refl
    by_write false = refl

pub drw_requests : (w : Bool) (accesses : List RegAccess) → all_write_drw accesses ≡ true → requests_for w accesses ≡ block_requests 0x0D (words_of accesses)
drw_requests w [] e = refl
drw_requests w (a ∷ rest) e =
    let two = and_parts (writes_drw a) (all_write_drw rest) e in
    let first = drw_request a two.0 in
    no_check w a (request_of a ∷ requests_for (writes_ap a) rest) first.0
    ∙ (λ i. first.1 i ∷ drw_requests (writes_ap a) rest two.1 i)

pub drw_taken : (accesses : List RegAccess) → all_write_drw accesses ≡ true → AreTaken accesses
drw_taken [] e = tt
drw_taken (a ∷ rest) e =
    let two = and_parts (writes_drw a) (all_write_drw rest) e in
    let first = drw_request a two.0 in
    (record { read = λ f. absurd (let g = sym f ∙ first.0 in cc); write = λ f. absurd (let g = sym f ∙ first.0 in cc) }, drw_taken rest two.1)

-- ---- no word comes

pub no_reads : (n : ℕ) (words : List ℕ) → reads_in (take n (block_requests 0x0D words)) ≡ 0
no_reads zero words = refl
no_reads (suc n) [] = refl
no_reads (suc n) (w ∷ words) =
    let r : Request = record { byte = 0x0D; word = w } in
    reads_first (r ∷ take n (block_requests 0x0D words)) (take n (block_requests 0x0D words)) r refl ∙ ap (λ k. 0 + k) (no_reads n words)

-- ---- a block

abbrev BlockBy : TransferState → List RegAccess → List ℕ → Transferred → Type 0
BlockBy p accesses words d = DoesPart p d.next accesses (part_of (take d.executed (requests_for false accesses)) d.response words) × (d.next.mask ≡ p.mask)

is_block : (p : TransferState) (a : RegAccess) (rest : List RegAccess) → all_write_drw (a ∷ rest) ≡ true →
    transfer_result p (requests_for false (a ∷ rest)) ≡ block_result p 0x0D (words_of (a ∷ rest))
is_block p a rest e = ap (transfer_result p) (drw_requests false (a ∷ rest) e) ∙ block_is_transfer p 0x0D a.value (words_of rest) refl

ends_as_transfer : (p : TransferState) (accesses : List RegAccess) → AreTaken accesses → p.line.target.sticky ≡ false → Ends p (requests_for false accesses)
ends_as_transfer p accesses taken clear = command_ends p (requests_for false accesses) (are_normal false accesses) (all_guarded accesses taken) clear

some_block : (p : TransferState) (a : RegAccess) (rest : List RegAccess) → all_write_drw (a ∷ rest) ≡ true → p.line.target.sticky ≡ false → DoesBlock p (a ∷ rest)
some_block p a rest e clear =
    let accesses : List RegAccess = a ∷ rest in
    let rs : List Request = requests_for false accesses in
    let d : Transferred = transfer_result p rs in
    let taken : AreTaken accesses = drw_taken accesses e in
    let ends : EndsAt p.line.target false false rs (length d.words) d.executed d.response (in_doubt d) = ends_as_transfer p accesses taken clear in
    let none : reads_in (take d.executed rs) ≡ 0 = ap (λ xs. reads_in (take d.executed xs)) (drw_requests false accesses e) ∙ no_reads d.executed (words_of accesses) in
    let words : d.words ≡ [] = no_items d.words (let h = ends.words in omega arith) in
    let does : BlockBy p accesses d.words d = does_transfer p accesses taken clear in
    subst (BlockBy p accesses []) (is_block p a rest e) (subst (λ ws. BlockBy p accesses ws d) words does)

pub does_block : (p : TransferState) (size : ℕ) (accesses : List RegAccess) → fits_block size accesses ≡ true → p.line.target.sticky ≡ false → DoesBlock p accesses
does_block p size [] e clear = absurd (cc)
does_block p size (a ∷ rest) e clear =
    let all = three_parts (leb 2 (length (a ∷ rest))) (all_write_drw (a ∷ rest)) (leb (5 + 4 * length (a ∷ rest)) size) e in
    some_block p a rest all.1 clear

-- ---- its reply is one that it may get

pub length_writes : (words : List ℕ) → length (block_requests 0x0D words) ≡ length words
length_writes [] = refl
length_writes (w ∷ words) = ap suc (length_writes words)

block_may : (x : Response) (n m : ℕ) → (x ≡ Good → n ≡ m) → (x ≡ Mismatch → ⊥) → IsTrue (may_end_block (response_of (code_of x)) n m)
block_may Good n m whole never = eq-eqb n m (whole refl)
block_may Wait n m whole never = refl
block_may Fault n m whole never = refl
block_may Mismatch n m whole never = absurd (never refl)

some_answers : (p : TransferState) (a : RegAccess) (rest : List RegAccess) → all_write_drw (a ∷ rest) ≡ true → p.line.target.sticky ≡ false →
    Answers (block_command (a ∷ rest)) (block_answer (block_result p 0x0D (words_of (a ∷ rest))))
some_answers p a rest e clear =
    let accesses : List RegAccess = a ∷ rest in
    let words : List ℕ = words_of accesses in
    let rs : List Request = requests_for false accesses in
    let d : Transferred = transfer_result p rs in
    let ends : EndsAt p.line.target false false rs (length d.words) d.executed d.response (in_doubt d) = ends_as_transfer p accesses (drw_taken accesses e) clear in
    let count : length rs ≡ length words = ap length (drw_requests false accesses e) ∙ length_writes words in
    subst (λ (x : Transferred). Answers (block_command accesses) (block_answer x)) (is_block p a rest e)
    ((let m = ends.most in omega arith), block_may d.response d.executed (length words) (λ f. ends.whole f ∙ count) ends.never)

pub block_answers : (p : TransferState) (size : ℕ) (accesses : List RegAccess) → fits_block size accesses ≡ true → p.line.target.sticky ≡ false →
    Answers (block_command accesses) (block_answer (block_result p 0x0D (words_of accesses)))
block_answers p size [] e clear = absurd (cc)
block_answers p size (a ∷ rest) e clear =
    let all = three_parts (leb 2 (length (a ∷ rest))) (all_write_drw (a ∷ rest)) (leb (5 + 4 * length (a ∷ rest)) size) e in
    some_answers p a rest all.1 clear
