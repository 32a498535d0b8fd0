-- A command goes on in the same way whatever number of requests was executed before.
use Rattle.std.proofs.Common.{◌≡◌, ℕ, ◌+◌, Bool, true, false, cond, List, [], ◌∷◌, ◌++◌, length, fold, refl, ap, sym, ◌∙◌, arith, subst}
use Rattle.dap_base.specs.Bits.{has_bit}
use Rattle.dap_messages.specs.declared.request.Request.{Request}
use Rattle.dap_transfer.specs.declared.notes.Notes.{Notes}
use Rattle.dap_messages.specs.declared.request.RequestKind.{RequestKind}
use Rattle.dap_messages.specs.declared.request.RequestKind.TheVariants.{Posted, Read, Match, Mask, Write}
use Rattle.dap_messages.specs.declared.request.Response.{Response}
use Rattle.dap_messages.specs.declared.request.Response.TheVariants.{Good, Wait, Fault, Mismatch}
use Rattle.dap_messages.specs.Requests.{is_posted, kind, write_last}
use Rattle.dap_transfer.specs.Wires.{Matches, Wire, access_of, item, wires_from, between, own, post_if, fetch_if, check_if, mask_after, last_mask}
use Rattle.dap_transfer.specs.State.{Setting, TransferState, Transferred, WireState}
use Rattle.dap_transfer.specs.Transfer.{RunResult, run_reply, ending, is_writes}
use Rattle.dap_transfer.specs.WireTransfer.{Ending}
use Rattle.dap_transfer.specs.Private.{first_then, front, run}
use Rattle.dap_transfer.specs.CommandEnds.{counted_from}
use Rattle.dap_transfer.proofs.Steps.{continued}

-- the same wire transfers, with k requests more executed before them
abbrev later : ℕ → Wire → Wire
later k w = record w { executed = k + w.executed }

abbrev all_later : ℕ → List Wire → List Wire
all_later k [] = []
all_later k (w ∷ ws) = later k w ∷ all_later k ws

later-append : (k : ℕ) (xs ys : List Wire) → all_later k (xs ++ ys) ≡ all_later k xs ++ all_later k ys
later-append k [] ys = refl
later-append k (x ∷ xs) ys = ap (λ ws. later k x ∷ ws) (later-append k xs ys)

-- a run that stopped, with k requests more executed before it
abbrev moved_by : Response → ℕ → RunResult → RunResult
moved_by Good k ran = ran
moved_by _ k ran = record ran { executed = k + ran.executed }

front_moved : (x : Response) (k : ℕ) (xs : List ℕ) (n : ℕ) (a : RunResult) → front xs n (moved_by x k a) ≡ moved_by x k (front xs n a)
front_moved Good k xs n a = refl
front_moved Wait k xs n a = refl
front_moved Fault k xs n a = refl
front_moved Mismatch k xs n a = refl

first_moved : (r : Response) (k : ℕ) (before : Bool) (l : WireState) (w : Wire) (d : Ending) (a b : RunResult) → b ≡ moved_by a.response k a →
    first_then r before l (later k w) d b ≡ (let c = first_then r before l w d a in moved_by c.response k c)
first_moved Good k before l w d a b e = ap (front _ _) e ∙ front_moved a.response k _ _ a
first_moved Wait k before l w d a b e = refl
first_moved Fault k before l w d a b e = refl
first_moved Mismatch k before l w d a b e = refl

run_moved : (k : ℕ) (s : Setting) (before : Bool) (l : WireState) (ws : List Wire) → run s before l (all_later k ws) ≡ (let a = run s before l ws in moved_by a.response k a)
run_moved k s before l [] = refl
run_moved k s before l (w ∷ ws) = first_moved (ending s l w).response k before l w (ending s l w) _ _ (run_moved k s (is_writes w.role) (ending s l w).line ws)

fetch_later : (o : Bool) (k i m : ℕ) → fetch_if o (k + i) m ≡ all_later k (fetch_if o i m)
fetch_later true k i m = refl
fetch_later false k i m = refl

check_later : (b : Bool) (k i m : ℕ) → check_if b (k + i) m ≡ all_later k (check_if b i m)
check_later true k i m = refl
check_later false k i m = refl

post_later : (b : Bool) (k i m : ℕ) (r : Request) → post_if b (k + i) m r ≡ all_later k (post_if b i m r)
post_later true k i m r = refl
post_later false k i m r = refl

own_later : (d : RequestKind) (k i m : ℕ) (r : Request) → own d (k + i) m r ≡ all_later k (own d i m r)
own_later Posted k i m r = refl
own_later Read k i m r = refl
own_later Mask k i m r = refl
own_later Match k i m r =
    let w : Wire = item (Matches r.word) (access_of r) i m in
    ap (λ ws. ws ++ later k w ∷ []) (post_later (has_bit r.byte 1) k i m r) ∙ sym (later-append k (post_if (has_bit r.byte 1) i m r) (w ∷ []))
own_later Write k i m r = refl

after_fetch_later : (d : RequestKind) (o : Bool) (k i m : ℕ) (r : Request) → fetch_if o (k + i) m ++ own d (k + i) m r ≡ all_later k (fetch_if o i m ++ own d i m r)
after_fetch_later d o k i m r = (λ j. fetch_later o k i m j ++ own_later d k i m r j) ∙ sym (later-append k (fetch_if o i m) (own d i m r))

between_later : (d : RequestKind) (o : Bool) (k i m : ℕ) (r : Request) → between d o (k + i) m r ≡ all_later k (between d o i m r)
between_later Posted o k i m r = refl
between_later Read o k i m r = after_fetch_later Read o k i m r
between_later Mask o k i m r = after_fetch_later Mask o k i m r
between_later Match o k i m r = after_fetch_later Match o k i m r
between_later Write o k i m r = after_fetch_later Write o k i m r

wires_later : (k i m : ℕ) (o : Bool) (rs : List Request) → wires_from (k + i) m o rs ≡ all_later k (wires_from i m o rs)
wires_later k i m o [] = fetch_later o k i m
wires_later k i m o (r ∷ rs) =
    let next : k + i + 1 ≡ k + (i + 1) = omega arith in
    (λ j. between_later (kind r) o k i m r j ++ wires_from (next j) (mask_after m r) (is_posted (kind r)) rs)
    ∙ ap (λ ws. all_later k (between (kind r) o i m r) ++ ws) (wires_later k (i + 1) (mask_after m r) (is_posted (kind r)) rs)
    ∙ sym (later-append k (between (kind r) o i m r) (wires_from (i + 1) (mask_after m r) (is_posted (kind r)) rs))

ended_moved : (x : Response) (p : TransferState) (words : List ℕ) (ran : RunResult) (k whole mask : ℕ) → ran.response ≡ x →
    run_reply p words (moved_by x k ran) (k + whole) mask ≡ counted_from k (run_reply p words ran whole mask)
ended_moved x p words ran k whole mask e =
    subst (λ (a : RunResult). run_reply p words (moved_by x k a) (k + whole) mask ≡ counted_from k (run_reply p words a whole mask)) (λ j. record ran { response = sym e j }) (by_end x)
  where
    by_end : (x : Response) → run_reply p words (moved_by x k (record ran { response = x })) (k + whole) mask ≡ counted_from k (run_reply p words (record ran { response = x }) whole mask)
    by_end Good = refl
    by_end Wait = refl
    by_end Fault = refl
    by_end Mismatch = refl

pub counts_from : (p : TransferState) (words : List ℕ) (o u : Bool) (k i : ℕ) (rs : List Request) →
    continued p words (record { outstanding = o; unchecked = u; executed = k + i }) rs
    ≡ counted_from k (continued p words (record { outstanding = o; unchecked = u; executed = i }) rs)
counts_from p words o u k i rs =
    let whole : k + i + length rs ≡ k + (i + length rs) = omega arith in
    let last : Bool = fold (λ b r. write_last (kind r) b) u rs in
    let mask : ℕ = last_mask p.mask rs in
    let ws : List Wire = wires_from i p.mask o rs ++ check_if last (i + length rs) mask in
    let is : wires_from (k + i) p.mask o rs ++ check_if last (k + i + length rs) mask ≡ all_later k ws =
    (λ j. wires_later k i p.mask o rs j ++ check_if last (whole j) mask) ∙ ap (λ vs. all_later k (wires_from i p.mask o rs) ++ vs) (check_later last k (i + length rs) mask)
    ∙ sym (later-append k (wires_from i p.mask o rs) (check_if last (i + length rs) mask)) in
    let ran : RunResult = run p.setting u p.line ws in
    (λ j. run_reply p words (run p.setting u p.line (is j)) (whole j) mask)
    ∙ ap (λ (a : RunResult). run_reply p words a (k + (i + length rs)) mask) (run_moved k p.setting u p.line ws)
    ∙ ended_moved ran.response p words ran k (i + length rs) mask refl
