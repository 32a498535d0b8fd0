-- A value match of DPIDR in front of a command: where its value matches, the requests after it are done, and else nothing is.
use Rattle.std.proofs.Common.{◌≡◌, eqb, ℕ, ◌+◌, ◌&&◌, Bool, true, false, cond, List, [], ◌∷◌, refl, ap, sym, ◌∙◌, arith, suc}
use Rattle.std.specs.Prelude.{bit_and}
use Rattle.target_machine.specs.State.{TargetState}
use Rattle.target_machine.specs.Attempt.{Attempt, attempt, is_free, answers}
use Rattle.target_machine.specs.declared.access.Outcome.TheVariants as outcome
use Rattle.target_machine.specs.declared.access.RegAccess.{RegAccess}
use Rattle.dap_messages.specs.declared.request.Request.{Request}
use Rattle.dap_transfer.specs.declared.notes.Notes.{Notes}
use Rattle.dap_messages.specs.declared.request.RequestKind.TheVariants.{Match}
use Rattle.dap_messages.specs.declared.request.Response.{Response}
use Rattle.dap_messages.specs.declared.request.Response.TheVariants.{Good, Wait, Fault, Mismatch}
use Rattle.dap_messages.specs.Requests.{mask_request, match_request}
use Rattle.dap_transfer.specs.Wires.{Wire, Matches, item, access_of}
use Rattle.dap_transfer.specs.State.{Setting, TransferState, Transferred, WireState}
use Rattle.dap_transfer.specs.Transfer.{RunResult, ending, transfer_result}
use Rattle.dap_transfer.specs.ValueMatch.{match_ending, match_ending_as}
use Rattle.dap_transfer.specs.WireTransfer.{Ending, ends, access_made, value, value_of}
use Rattle.dap_transfer.specs.Private.{first_then, mask_if, request_ran, run, state_after_run}
use Rattle.dap_transfer.specs.CommandEnds.{counted_from}
use Rattle.dap_transfer.proofs.Counting.{counts_from}
use Rattle.dap_transfer.proofs.Steps.{continued, start_notes, from_start, goes_on, breaks_off, ended_here}
use Rattle.dap_transfer.proofs.Blocks.{grown_none}

-- a value match of DPIDR
abbrev dpidr_match : ℕ → Request
dpidr_match v = match_request false 0 v

reads_dpidr : (t : TargetState) (v : ℕ) → attempt t (access_of (dpidr_match v)) ≡ answers t.dpidr t
unfolding attempt is_free
reads_dpidr t v = not_stuck t.sticky
  where
    not_stuck : (b : Bool) → cond (b && false) (record { outcome = outcome.Fault; next = t }) (answers t.dpidr t) ≡ answers t.dpidr t
    not_stuck true = refl
    not_stuck false = refl

match_ends : (s : Setting) (l : WireState) (v : ℕ) → ends s l (access_of (dpidr_match v)) ≡ Good
unfolding ends is_free
match_ends s l v = refl

match_made : (l : WireState) (v : ℕ) → access_made l (access_of (dpidr_match v)) ≡ l
unfolding is_free
match_made l v = λ i. record { target = (reads_dpidr l.target v i).next; number = l.number }

match_value : (l : WireState) (v : ℕ) → value l (access_of (dpidr_match v)) ≡ l.target.dpidr
match_value l v = ap (λ (x : Attempt). value_of x.outcome) (reads_dpidr l.target v)

-- how it ends: at once where the value matches, and where it doesn't and match retry is 0
abbrev match_did : Bool → WireState → Ending
match_did true l = record { response = Good; line = l; count = 1 }
match_did false l = record { response = Mismatch; line = l; count = 1 }

matches_at : (hit : Bool) (l : WireState) (a : RegAccess) (rest : Ending) → access_made l a ≡ l → (hit ≡ false → rest ≡ record { response = Mismatch; line = access_made l a; count = 0 }) →
    match_ending_as Good hit l a rest ≡ match_did hit l
matches_at true l a rest same none = λ i. record { response = Good; line = same i; count = 1 }
matches_at false l a rest same none =
    (λ i. record { response = (none refl i).response; line = (none refl i).line; count = (none refl i).count + 1 }) ∙ (λ i. record { response = Mismatch; line = same i; count = 1 })

did_match : (s : Setting) (l : WireState) (v i mask : ℕ) (hit : Bool) → (hit ≡ false → s.matches ≡ 0) → eqb (bit_and l.target.dpidr mask) v ≡ hit →
    ending s l (item (Matches v) (access_of (dpidr_match v)) i mask) ≡ match_did hit l
did_match s l v i mask hit no_retry h =
    let a : RegAccess = access_of (dpidr_match v) in
    let rest : Ending = match_ending s mask v a s.matches (access_made l a) in
    let turns : s.matches + 1 ≡ suc s.matches = omega arith in
    ap (λ n. match_ending s mask v a n l) turns
    ∙ ap (λ r. match_ending_as r (eqb (bit_and (value l a) mask) v) l a rest) (match_ends s l v)
    ∙ ap (λ b. match_ending_as Good b l a rest) (ap (λ x. eqb (bit_and x mask) v) (match_value l v) ∙ h)
    ∙ matches_at hit l a rest (match_made l v) (λ e. ap (λ n. match_ending s mask v a n (access_made l a)) (no_retry e))

abbrev match_ran : Bool → WireState → ℕ → RunResult
match_ran true l mask = record { response = Good; line = l; words = []; work = 0; written = false; pending = false; executed = 0; mask = 0 }
match_ran false l mask = record { response = Mismatch; line = l; words = []; work = 0; written = false; pending = false; executed = 0; mask = mask }

ran_by : (hit : Bool) (s : Setting) (l : WireState) (v mask : ℕ) →
    (let w = item (Matches v) (access_of (dpidr_match v)) 0 mask in
    let d = match_did hit l in
    first_then d.response false l w d (run s false d.line []) ≡ match_ran hit l mask)
ran_by true s l v mask = refl
ran_by false s l v mask = refl

ran_match : (p : TransferState) (v : ℕ) (hit : Bool) → (hit ≡ false → p.setting.matches ≡ 0) → eqb (bit_and p.line.target.dpidr p.mask) v ≡ hit →
    request_ran p start_notes (dpidr_match v) ≡ match_ran hit p.line p.mask
ran_match p v hit no_retry h =
    let w : Wire = item (Matches v) (access_of (dpidr_match v)) 0 p.mask in
    ap (λ (d : Ending). first_then d.response false p.line w d (run p.setting false d.line [])) (did_match p.setting p.line v 0 p.mask hit no_retry h)
    ∙ ran_by hit p.setting p.line v p.mask

abbrev two_notes : Notes
two_notes = record { outstanding = false; unchecked = false; executed = 2 }

abbrev one_note : Notes
one_note = record { outstanding = false; unchecked = false; executed = 1 }

-- where it matches, the requests after it are done under the mask that is set
pub match_opens : (p : TransferState) (v mask : ℕ) (rs : List Request) → eqb (bit_and p.line.target.dpidr p.mask) v ≡ true →
    transfer_result p (dpidr_match v ∷ mask_request mask ∷ rs) ≡ counted_from 2 (transfer_result (record p { mask = mask }) rs)
match_opens p v mask rs hit =
    let rest : List Request = mask_request mask ∷ rs in
    let is : request_ran p start_notes (dpidr_match v) ≡ match_ran true p.line p.mask = ran_match p v true (λ e. absurd (cc)) hit in
    let good : (request_ran p start_notes (dpidr_match v)).response ≡ Good = ap (λ (ran : RunResult). ran.response) is in
    sym (from_start p (dpidr_match v ∷ rest))
    ∙ goes_on p [] start_notes (dpidr_match v) rest good refl
    ∙ ap (λ (ran : RunResult). continued (state_after_run p ran Match (dpidr_match v)) ran.words (record { outstanding = false; unchecked = ran.written; executed = 1 }) rest) is
    ∙ ap (λ (n : ℕ). continued (record p { work = n }) [] one_note rest) (grown_none p.work)
    ∙ goes_on p [] one_note (mask_request mask) rs refl refl
    ∙ ap (λ (n : ℕ). continued (record p { work = n; mask = mask }) [] two_notes rs) (grown_none p.work)
    ∙ counts_from (record p { mask = mask }) [] false false 2 0 rs
    ∙ ap (counted_from 2) (from_start (record p { mask = mask }) rs)

abbrev mismatched : TransferState → Transferred
mismatched p = record { executed = 0; response = Mismatch; words = []; next = p }

-- where it doesn't, nothing is done
pub match_shuts : (p : TransferState) (v : ℕ) (rs : List Request) → p.setting.matches ≡ 0 → eqb (bit_and p.line.target.dpidr p.mask) v ≡ false →
    transfer_result p (dpidr_match v ∷ rs) ≡ record { executed = 0; response = Mismatch; words = []; next = p }
match_shuts p v rs no_retry miss =
    let is : request_ran p start_notes (dpidr_match v) ≡ match_ran false p.line p.mask = ran_match p v false (λ _. no_retry) miss in
    let bad : (request_ran p start_notes (dpidr_match v)).response ≡ Good → ⊥ = λ e. (let f = sym (ap (λ (ran : RunResult). ran.response) is) ∙ e in not_both f) in
    sym (from_start p (dpidr_match v ∷ rs))
    ∙ breaks_off p [] start_notes (dpidr_match v) rs bad
    ∙ ap (λ (ran : RunResult). ended_here (record p { mask = mask_if ran.response Match p.mask (dpidr_match v) }) [] 0 ran) is
    ∙ ap (λ (n : ℕ). mismatched (record p { work = n })) (grown_none p.work)
  where
    not_both : Mismatch ≡ Good → ⊥
    not_both e = cc
