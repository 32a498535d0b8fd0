-- A block of writes is a Transfer of writes.
use Rattle.std.proofs.Common.{◌≡◌, ℕ, ◌+◌, Bool, true, false, List, [], ◌∷◌, ◌++◌, length, take, map, refl, sym, subst, ap, ◌∙◌, arith, suc}
use Rattle.dap_messages.specs.declared.request.Request.{Request}
use Rattle.dap_messages.specs.declared.request.RequestKind.TheVariants.{Write}
use Rattle.dap_messages.specs.Requests.{is_posted, kind_of, write_after, write_last, block_requests}
use Rattle.dap_transfer.specs.Block.{BlockMakesPrefix, block_from, block_result}
use Rattle.dap_messages.specs.declared.request.RequestKind.{RequestKind}
use Rattle.dap_transfer.proofs.Prefix.{makes_prefix}
use Rattle.dap_transfer.specs.Laws.{AreNormal, IsNormalKind, one_at_a_time}
use Rattle.dap_transfer.specs.State.{TransferState, Transferred}
use Rattle.dap_transfer.specs.Transfer.{run_reply, good_front, run_to_place, transfer_result}
use Rattle.dap_transfer.specs.Wires.{access_of, Checks, Wire, between, check_if, item, last_mask, mask_by, rdbuff, wires, wires_from}

block_wires : (byte i j m : ℕ) (words : List ℕ) → kind_of byte ≡ Write → j ≡ i + length words →
    wires_from i m false (block_requests byte words) ++ item Checks rdbuff j m ∷ [] ≡ block_from byte i m words
block_wires byte i j m [] e h = let same : j ≡ i = omega arith in ap (λ n. item Checks rdbuff n m ∷ []) same
block_wires byte i j m (w ∷ words) e h =
    let r : Request = record { byte = byte; word = w } in
    let rest : List Request = block_requests byte words in
    ap (λ k. (between k false i m r ++ wires_from (i + 1) (mask_by k m r) (is_posted k) rest) ++ item Checks rdbuff j m ∷ []) e
    ∙ ap (λ ws. between Write false i m r ++ ws) (block_wires byte (i + 1) j m words e (omega arith))

last_write : (byte : ℕ) (b : Bool) (words : List ℕ) → kind_of byte ≡ Write → b ≡ true → write_after b (block_requests byte words) ≡ true
last_write byte b [] e h = h
last_write byte b (w ∷ words) e h = last_write byte (write_last (kind_of byte) b) words e (ap (λ k. write_last k b) e)

mask_same : (byte m : ℕ) (words : List ℕ) → kind_of byte ≡ Write → last_mask m (block_requests byte words) ≡ m
mask_same byte m [] e = refl
mask_same byte m (w ∷ words) e = ap (λ k. last_mask (mask_by k m (record { byte = byte; word = w })) (block_requests byte words)) e ∙ mask_same byte m words e

count_same : (byte : ℕ) (words : List ℕ) → length (block_requests byte words) ≡ length words
count_same byte [] = refl
count_same byte (w ∷ words) = ap suc (count_same byte words)

wires_same : (byte m w : ℕ) (words : List ℕ) → kind_of byte ≡ Write → wires m (block_requests byte (w ∷ words)) ≡ block_from byte 0 m (w ∷ words)
wires_same byte m w words e =
    let rs : List Request = block_requests byte (w ∷ words) in
    (λ i. wires_from 0 m false rs ++ check_if (last_write byte (write_last (kind_of byte) false) words e (ap (λ k. write_last k false) e) i) (length rs) (mask_same byte m (w ∷ words) e i))
    ∙ block_wires byte 0 (length rs) m (w ∷ words) e (count_same byte (w ∷ words) ∙ omega arith)

pub block_is_transfer : (p : TransferState) (byte w : ℕ) (words : List ℕ) → kind_of byte ≡ Write → transfer_result p (block_requests byte (w ∷ words)) ≡ block_result p byte (w ∷ words)
block_is_transfer p byte w words e =
    let rs : List Request = block_requests byte (w ∷ words) in
    let ran = λ (ws : List Wire). run_to_place p.setting false p.line ws (good_front p.setting p.line ws) in
    λ i. run_reply p [] (ran (wires_same byte p.mask w words e i)) (count_same byte (w ∷ words) i) (mask_same byte p.mask (w ∷ words) e i)

normal_by : (k : RequestKind) → k ≡ Write → IsNormalKind k
normal_by k e = subst IsNormalKind (sym e) tt

writes_normal : (byte : ℕ) (words : List ℕ) → kind_of byte ≡ Write → AreNormal (block_requests byte words)
writes_normal byte [] e = tt
writes_normal byte (w ∷ words) e = (normal_by (kind_of byte) e, writes_normal byte words e)

pub block_makes_prefix : (p : TransferState) (byte w : ℕ) (words : List ℕ) → kind_of byte ≡ Write → BlockMakesPrefix p byte (w ∷ words)
block_makes_prefix p byte w words e =
    let rs : List Request = block_requests byte (w ∷ words) in
    subst (λ (d : Transferred). d.next.line.target ≡ one_at_a_time p.line.target (take d.executed (map access_of rs))) (block_is_transfer p byte w words e)
    (makes_prefix p rs (writes_normal byte (w ∷ words) e))
