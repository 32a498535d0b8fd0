-- How many transfers that may wait a command of normal requests makes.
use Rattle.std.proofs.Common.{◌≡◌, ℕ, ◌+◌, ◌-◌, ◌^◌, ◌≤◌, ◌&&◌, not, Bool, true, false, cond, List, [], ◌∷◌, ◌++◌, take, length, min, suc, refl, ap, sym, ◌∙◌, arith, subst, inl, inr}
use Rattle.std.specs.Prelude.{count_by}
use Rattle.std.proofs.lemmas.List.Sums.{sum_by-cons}
use Rattle.std.proofs.lemmas.Bool.{both_ways}
use Rattle.target_machine.specs.Attempt.{is_free}
use Rattle.target_machine.specs.declared.access.RegAccess.{RegAccess}
use Rattle.dap_messages.specs.declared.request.Request.{Request}
use Rattle.dap_transfer.specs.declared.notes.Notes.{Notes}
use Rattle.dap_messages.specs.declared.request.RequestKind.{RequestKind}
use Rattle.dap_messages.specs.declared.request.RequestKind.TheVariants.{Posted, Read, Match, Mask, Write}
use Rattle.dap_messages.specs.declared.request.Response.{Response}
use Rattle.dap_messages.specs.declared.request.Response.TheVariants.{Good, Wait, Fault, Mismatch}
use Rattle.dap_messages.specs.Requests.{is_posted, kind, write_last}
use Rattle.dap_transfer.specs.Wires.{Wire, Posts, Moves, Fetches, Reads, Writes, Checks, item, rdbuff, fetch_if, access_of, between, check_if}
use Rattle.dap_transfer.specs.State.{Setting, TransferState, Transferred, WireState}
use Rattle.dap_transfer.specs.WireTransfer.{Ending, ends, number_after, wire_ending, wire_ending_as}
use Rattle.dap_transfer.specs.Transfer.{RunResult, ending, transfer_result}
use Rattle.dap_transfer.specs.Private.{mask_if, run, run_then, request_ran, close_ran, state_after_run}
use Rattle.dap_transfer.specs.Laws.{IsNormalKind, AreNormal}
use Rattle.target_machine.specs.Counts.{one_if}
use Rattle.dap_transfer.specs.CommandEnds.{IsNumbered, NumbersTransfers, posted_in}
use Rattle.dap_transfer.proofs.Runs.{run-append}
use Rattle.dap_transfer.proofs.ReadWords.{not_sticky}
use Rattle.dap_transfer.proofs.RunEnds.{OneAs, one_ends}
use Rattle.dap_transfer.proofs.StickyFacts.{fault_sticky}
use Rattle.dap_transfer.proofs.TargetFacts.{rdbuff_waits}
use Rattle.dap_transfer.proofs.Steps.{continued, start_notes, from_start, goes_on, one_after, breaks_off, closes, ended_here, run_written, between_written}
use Rattle.dap_transfer.proofs.Prefix.{IsPlain, plain_once, one_line, run_one, leaves_rdbuff, good_or_not}

-- ---- one wire transfer

next_at_most : (free : Bool) (n : ℕ) → cond free n (min (n + 1) (2 ^ 64 - 1)) ≤ n + 1
next_at_most true n = omega arith
next_at_most false n = omega arith

after_at_most : (l : WireState) (a : RegAccess) → number_after l a ≤ l.number + 1
after_at_most l a = next_at_most (is_free l.target a) l.number

ending_at_most : (r : Response) (l : WireState) (a : RegAccess) → (wire_ending_as r l a).line.number ≤ l.number + 1
ending_at_most Good l a = after_at_most l a
ending_at_most Wait l a = after_at_most l a
ending_at_most Fault l a = after_at_most l a
ending_at_most Mismatch l a = after_at_most l a

run_at_most : (s : Setting) (before : Bool) (l : WireState) (w : Wire) → IsPlain w.role → (run s before l (w ∷ [])).line.number ≤ l.number + 1
run_at_most s before l w plain =
    let line : (run s before l (w ∷ [])).line ≡ (wire_ending s l w.access).line =
    (one_line (ending s l w).response s before l w (ending s l w) refl).1 ∙ ap (λ (d : Ending). d.line) (plain_once w.role s l w.mask w.access plain) in
    subst (λ (k : WireState). k.number ≤ l.number + 1) (sym line) (ending_at_most (ends s l w.access) l w.access)

one_response : (r : Response) (before : Bool) (l : WireState) (w : Wire) (ran : RunResult) → OneAs r before l w ran → ran.response ≡ r
one_response Good before l w ran one = one.0
one_response Wait before l w ran one = one.0
one_response Fault before l w ran one = one.0
one_response Mismatch before l w ran one = one.0

run_response : (s : Setting) (before : Bool) (l : WireState) (w : Wire) → IsPlain w.role → (run s before l (w ∷ [])).response ≡ ends s l w.access
run_response s before l w plain = one_response (ends s l w.access) before l w (run s before l (w ∷ [])) (one_ends s before l w plain)

-- ---- one request

-- how far the wire transfers of a request go on; a read was outstanding before them or not
abbrev GrowsAs : Response → Bool → ℕ → ℕ → Type 0
GrowsAs Good o before number = number ≤ before + 1 + one_if o
GrowsAs Wait o before number = number ≤ before + 1 + one_if o
GrowsAs Fault o before number = number ≤ before + 1
GrowsAs Mismatch o before number = number ≤ before + 1 + one_if o

grows_one : (x : Response) (o : Bool) (before number : ℕ) → number ≤ before + 1 → GrowsAs x o before number
grows_one Good o before number h = omega arith
grows_one Wait o before number h = omega arith
grows_one Fault o before number h = h
grows_one Mismatch o before number h = omega arith

grows_two : (x : Response) (before number : ℕ) → (x ≡ Fault → ⊥) → number ≤ before + 2 → GrowsAs x true before number
grows_two Good before number h k = omega arith
grows_two Wait before number h k = omega arith
grows_two Fault before number h k = absurd (h refl)
grows_two Mismatch before number h k = omega arith

then_grows : (x : Response) (a : RunResult) (s : Setting) (w : Wire) (before : ℕ) → a.response ≡ x → a.line.number ≤ before + 1 → (x ≡ Good → a.line.target.sticky ≡ false) → IsPlain w.role →
    (let c = run_then x a (run s a.written a.line (w ∷ [])) in GrowsAs c.response true before c.line.number)
then_grows Good a s w before e most clear plain =
    let b : RunResult = run s a.written a.line (w ∷ []) in
    let more : b.line.number ≤ a.line.number + 1 = run_at_most s a.written a.line w plain in
    grows_two b.response before b.line.number
    (λ f. both_ways a.line.target.sticky (clear refl) (fault_sticky s a.line w.access (sym (run_response s a.written a.line w plain) ∙ f))) (omega arith)
then_grows Wait a s w before e most clear plain = grows_one a.response true before a.line.number most
then_grows Fault a s w before e most clear plain = grows_one a.response true before a.line.number most
then_grows Mismatch a s w before e most clear plain = grows_one a.response true before a.line.number most

fetch_grows : (s : Setting) (b : Bool) (l : WireState) (i m : ℕ) (w : Wire) → IsPlain w.role →
    (let ran = run s b l (fetch_if true i m ++ w ∷ []) in GrowsAs ran.response true l.number ran.line.number)
fetch_grows s b l i m w plain =
    let f : Wire = item Fetches rdbuff i m in
    let a : RunResult = run s b l (f ∷ []) in
    let same : a.line.target ≡ l.target = leaves_rdbuff a.response l.target a.line.target (run_one s b l f tt) in
    subst (λ (c : RunResult). GrowsAs c.response true l.number c.line.number) (sym (run-append s b l (f ∷ []) (w ∷ [])))
    (then_grows a.response a s w l.number refl (run_at_most s b l f tt)
    (λ good. ap (λ t. t.sticky) same ∙ not_sticky s l rdbuff (sym (run_response s b l f tt) ∙ good) (rdbuff_waits l.target)) plain)

post_plain : (o : Bool) → IsPlain (cond o Moves Posts)
post_plain true = tt
post_plain false = tt

one_grows : (s : Setting) (b o : Bool) (l : WireState) (w : Wire) → IsPlain w.role → (let ran = run s b l (w ∷ []) in GrowsAs ran.response o l.number ran.line.number)
one_grows s b o l w plain = let ran : RunResult = run s b l (w ∷ []) in grows_one ran.response o l.number ran.line.number (run_at_most s b l w plain)

between_grows : (k : RequestKind) → IsNormalKind k → (o : Bool) (s : Setting) (b : Bool) (l : WireState) (i m : ℕ) (r : Request) →
    (let ran = run s b l (between k o i m r) in GrowsAs ran.response o l.number ran.line.number)
between_grows Posted h o s b l i m r = one_grows s b o l (item (cond o Moves Posts) (access_of r) i m) (post_plain o)
between_grows Read h true s b l i m r = fetch_grows s b l i m (item Reads (access_of r) i m) tt
between_grows Read h false s b l i m r = one_grows s b false l (item Reads (access_of r) i m) tt
between_grows Write h true s b l i m r = fetch_grows s b l i m (item Writes (access_of r) i m) tt
between_grows Write h false s b l i m r = one_grows s b false l (item Writes (access_of r) i m) tt
between_grows Match h o s b l i m r = absurd h
between_grows Mask h o s b l i m r = absurd h

close_grows : (o u : Bool) (s : Setting) (l : WireState) (i m : ℕ) → (o && u) ≡ false → (run s u l (fetch_if o i m ++ check_if u i m)).line.number ≤ l.number + one_if o + one_if u
close_grows true true s l i m e = absurd (cc)
close_grows true false s l i m e = let h = run_at_most s false l (item Fetches rdbuff i m) tt in omega arith
close_grows false true s l i m e = let h = run_at_most s true l (item Checks rdbuff i m) tt in omega arith
close_grows false false s l i m e = omega arith

-- ---- all requests

closed_numbered : (x : Response) (o u : Bool) (before number : ℕ) → number ≤ before + one_if o + one_if u → (o && u) ≡ false → IsNumbered before o u 0 [] x number
closed_numbered Good o u before number h e = omega arith
closed_numbered Wait o true before number h e = omega arith
closed_numbered Wait o false before number h e = omega arith
closed_numbered Fault true true before number h e = absurd (cc)
closed_numbered Fault true false before number h e = omega arith
closed_numbered Fault false true before number h e = omega arith
closed_numbered Fault false false before number h e = omega arith
closed_numbered Mismatch o true before number h e = omega arith
closed_numbered Mismatch o false before number h e = omega arith

stopped_numbered : (x : Response) (o u : Bool) (before number : ℕ) (rs : List Request) → (x ≡ Good → ⊥) → GrowsAs x o before number → IsNumbered before o u 0 rs x number
stopped_numbered Good o u before number rs bad h = absurd (bad refl)
stopped_numbered Wait o u before number rs bad h = omega arith
stopped_numbered Fault true u before number rs bad h = omega arith
stopped_numbered Fault false u before number rs bad h = omega arith
stopped_numbered Mismatch o u before number rs bad h = omega arith

good_grows : (x : Response) (o : Bool) (before number : ℕ) → x ≡ Good → GrowsAs x o before number → number ≤ before + 1 + one_if o
good_grows Good o before number e h = h
good_grows Wait o before number e h = absurd (cc)
good_grows Fault o before number e h = absurd (cc)
good_grows Mismatch o before number e h = absurd (cc)

pub one_is : (b : Bool) → cond {A = ℕ} b 1 0 ≡ one_if b
one_is true = refl
one_is false = refl

pub posted_first : (r : Request) (rs : List Request) → posted_in (r ∷ rs) ≡ one_if (is_posted (kind r)) + posted_in rs
posted_first r rs = sum_by-cons _ r rs ∙ ap (λ n. n + posted_in rs) (one_is (is_posted (kind r)))

one_numbered : (before now number n : ℕ) (o u u' : Bool) (r : Request) (rs : List Request) (x : Response) → now ≤ before + 1 + one_if o → u' ≡ write_last (kind r) u →
    IsNumbered now (is_posted (kind r)) u' n rs x number → IsNumbered before o u (suc n) (r ∷ rs) x number
one_numbered before now number n o u u' r rs x most u_is h =
    let same : IsNumbered now (is_posted (kind r)) (write_last (kind r) u) n rs x number = subst (λ (b : Bool). IsNumbered now (is_posted (kind r)) b n rs x number) u_is h in
    let first : posted_in (r ∷ take n rs) ≡ one_if (is_posted (kind r)) + posted_in (take n rs) = posted_first r (take n rs) in
    omega arith

abbrev Numbered : ℕ → Bool → Bool → ℕ → List Request → Transferred → Type 0
Numbered before o u i rs d = (i ≤ d.executed) × IsNumbered before o u (d.executed - i) rs d.response d.next.line.number

none_left : (before : ℕ) (o u : Bool) (i : ℕ) (rs : List Request) (d : Transferred) → d.executed ≡ i → IsNumbered before o u 0 rs d.response d.next.line.number → Numbered before o u i rs d
none_left before o u i rs d e h =
    let none : 0 ≡ d.executed - i = omega arith in
    (omega arith, subst (λ (n : ℕ). IsNumbered before o u n rs d.response d.next.line.number) none h)

numbers : (p : TransferState) (words : List ℕ) (notes : Notes) (rs : List Request) → AreNormal rs → (notes.outstanding && notes.unchecked) ≡ false →
    Numbered p.line.number notes.outstanding notes.unchecked notes.executed rs (continued p words notes rs)
numbers p words notes [] normal one =
    let ran : RunResult = close_ran p notes in
    subst (Numbered p.line.number notes.outstanding notes.unchecked notes.executed []) (sym (closes p words notes))
    (none_left p.line.number notes.outstanding notes.unchecked notes.executed [] (ended_here p words notes.executed ran) refl
    (closed_numbered ran.response notes.outstanding notes.unchecked p.line.number ran.line.number (close_grows notes.outstanding notes.unchecked p.setting p.line notes.executed p.mask one) one))
numbers p words notes (r ∷ rs) normal one =
    let ran : RunResult = request_ran p notes r in
    let grows : GrowsAs ran.response notes.outstanding p.line.number ran.line.number =
    between_grows (kind r) normal.0 notes.outstanding p.setting notes.unchecked p.line notes.executed p.mask r in
    elim (good_or_not ran.response) [
      | inl good ↦
          let next : Notes = record { outstanding = is_posted (kind r); unchecked = ran.written; executed = notes.executed + 1 } in
          let q : TransferState = state_after_run p ran (kind r) r in
          let d : Transferred = continued q (words ++ ran.words) next rs in
          let written : ran.written ≡ write_last (kind r) notes.unchecked =
          run_written p.setting notes.unchecked p.line (between (kind r) notes.outstanding notes.executed p.mask r) good
          ∙ between_written (kind r) notes.outstanding notes.unchecked notes.executed p.mask r one in
          let rest = numbers q (words ++ ran.words) next rs normal.1 (one_after p notes r one good) in
          let fewer : notes.executed + 1 ≤ d.executed = rest.0 in
          let count : suc (d.executed - (notes.executed + 1)) ≡ d.executed - notes.executed = omega arith in
          subst (Numbered p.line.number notes.outstanding notes.unchecked notes.executed (r ∷ rs)) (sym (goes_on p words notes r rs good one)) (
            omega arith,
            subst (λ (n : ℕ). IsNumbered p.line.number notes.outstanding notes.unchecked n (r ∷ rs) d.response d.next.line.number) count
                (one_numbered p.line.number ran.line.number d.next.line.number (d.executed - (notes.executed + 1)) notes.outstanding notes.unchecked ran.written r rs d.response
                (good_grows ran.response notes.outstanding p.line.number ran.line.number good grows) written rest.1),
          )
      | inr bad ↦
          subst (Numbered p.line.number notes.outstanding notes.unchecked notes.executed (r ∷ rs)) (sym (breaks_off p words notes r rs bad))
          (none_left p.line.number notes.outstanding notes.unchecked notes.executed (r ∷ rs) (ended_here (record p { mask = mask_if ran.response (kind r) p.mask r }) words notes.executed ran) refl
          (stopped_numbered ran.response notes.outstanding notes.unchecked p.line.number ran.line.number (r ∷ rs) bad grows))
    ]

pub numbers_transfers : (p : TransferState) (rs : List Request) → AreNormal rs → NumbersTransfers p rs
numbers_transfers p rs normal =
    let d : Transferred = continued p [] start_notes rs in
    let all : d.executed - 0 ≡ d.executed = omega arith in
    subst (λ (x : Transferred). IsNumbered p.line.number false false x.executed rs x.response x.next.line.number) (from_start p rs)
    (subst (λ (n : ℕ). IsNumbered p.line.number false false n rs d.response d.next.line.number) all (numbers p [] start_notes rs normal refl).1)
