-- A value match of CTRL/STAT is a poll, one read at a time; and the match mask before it or alone.
use Rattle.std.proofs.Common.{◌≡◌, eqb, ltb, ℕ, ◌+◌, ◌-◌, ◌&&◌, ◌||◌, not, Bool, true, false, cond, List, [], ◌∷◌, refl, ap, sym, ◌∙◌, arith, suc, zero}
use Rattle.std.specs.Prelude.{bit_and, slice_index}
use Rattle.std.proofs.lemmas.Bool.{eqb-true}
use Rattle.target_machine.specs.Attempt.{Attempt, answers, attempt, bank, ctrl_stat, is_free}
use Rattle.target_machine.proofs.PollLemmas.{reads_plain}
use Rattle.target_machine.specs.PollCounts.{reads_counted}
use Rattle.target_machine.specs.Plain.{Polled, given_number, is_fault, poll_read, poll_result}
use Rattle.target_machine.specs.State.{TargetState}
use Rattle.target_machine.specs.declared.access.Outcome.{Outcome}
use Rattle.target_machine.specs.declared.access.Outcome.TheVariants as outcome
use Rattle.target_machine.specs.declared.access.RegAccess.{RegAccess}
use Rattle.dap_messages.specs.declared.request.Request.{Request}
use Rattle.dap_messages.specs.declared.request.RequestKind.TheVariants.{Match}
use Rattle.dap_messages.specs.declared.request.Response.{Response}
use Rattle.dap_messages.specs.declared.request.Response.TheVariants.{Good, Wait, Fault, Mismatch}
use Rattle.dap_messages.specs.Requests.{mask_request, match_request}
use Rattle.dap_transfer.specs.CommandEnds.{counted_from}
use Rattle.dap_transfer.specs.Private.{first_then, mask_if, request_ran, run, state_after_run, value_matched}
use Rattle.dap_transfer.specs.State.{Setting, TransferState, Transferred, WireState, grown_work}
use Rattle.dap_transfer.specs.Transfer.{RunResult, transfer_result}
use Rattle.dap_transfer.specs.ValueMatch.{has_matched, match_ending, match_ending_as}
use Rattle.dap_transfer.specs.WireTransfer.{Ending, ends, access_made, next_number, value, value_of}
use Rattle.dap_transfer.specs.Wires.{Matches, Wire, access_of, item}
use Rattle.dap_transfer.specs.declared.notes.Notes.{Notes}
use Rattle.dap_transfer.proofs.Counting.{counts_from}
use Rattle.dap_transfer.proofs.Steps.{breaks_off, closes, continued, ended_here, from_start, goes_on, start_notes}
use Rattle.dap_transfer.proofs.Blocks.{grown_none as grown_same}

-- ---- one read of CTRL/STAT with DPBANKSEL 0

-- a value match of CTRL/STAT
abbrev pub ctrl_match : ℕ → Request
ctrl_match v = match_request false 0x4 v

-- a read of CTRL/STAT; the value in the access plays no part
abbrev pub ctrl_read : ℕ → RegAccess
ctrl_read v = access_of (ctrl_match v)

-- the target after the read
abbrev after_read : TargetState → TargetState
after_read t = reads_counted t 1

bank_free : (t : TargetState) (v : ℕ) → bank t ≡ 0 → is_free t (ctrl_read v) ≡ true
unfolding is_free
bank_free t v e = ap (λ n. eqb n 0) e

reads_ctrl : (t : TargetState) (v : ℕ) → bank t ≡ 0 → attempt t (ctrl_read v) ≡ answers (ctrl_stat t) (after_read t)
unfolding attempt is_free
reads_ctrl t v e = reads_plain t e

pub first_good : (f : Bool) (x : Response) → f ≡ true → cond f Good x ≡ Good
first_good true x e = refl
first_good false x e = absurd (cc)

ctrl_ends : (s : Setting) (l : WireState) (v : ℕ) → bank l.target ≡ 0 → ends s l (ctrl_read v) ≡ Good
unfolding ends
ctrl_ends s l v e =
    first_good (is_free l.target (ctrl_read v)) (cond (ltb s.retry (slice_index s.stalls l.number)) Wait (cond l.target.sticky Fault Good)) (bank_free l.target v e)

-- the line after the read
abbrev line_after : WireState → WireState
line_after l = record { target = after_read l.target; number = l.number }

ctrl_made : (l : WireState) (v : ℕ) → bank l.target ≡ 0 → access_made l (ctrl_read v) ≡ line_after l
ctrl_made l v e = λ i. record { target = (reads_ctrl l.target v e i).next; number = cond (bank_free l.target v e i) l.number (next_number l.number) }

ctrl_value : (l : WireState) (v : ℕ) → bank l.target ≡ 0 → value l (ctrl_read v) ≡ ctrl_stat l.target
ctrl_value l v e = ap (λ (x : Attempt). value_of x.outcome) (reads_ctrl l.target v e)

-- ---- the reads of a value match are those of a poll

-- how the value match ends, by what the poll comes to
abbrev pub poll_ending : Polled → WireState → Ending
poll_ending x l = record { response = cond (has_matched x) Good Mismatch; line = record { target = x.next; number = l.number }; count = x.reads }

abbrev hit_or : Bool → TargetState → Polled → Polled
hit_or b u rest = cond b (record { outcome = outcome.Value 1; reads = 1; next = u }) (record rest { reads = rest.reads + 1 })

one_turn : (b : Bool) (l : WireState) (w : ℕ) (x : Polled) → bank l.target ≡ 0 →
    match_ending_as Good b l (ctrl_read w) (poll_ending x (line_after l)) ≡ poll_ending (hit_or b (after_read l.target) x) l
one_turn true l w x e = λ i. record { response = Good; line = ctrl_made l w e i; count = 1 }
one_turn false l w x e = refl

pub match_polls : (n : ℕ) (s : Setting) (mask w v : ℕ) (l : WireState) → bank l.target ≡ 0 →
    match_ending s mask v (ctrl_read w) n l ≡ poll_ending (poll_result n mask v l.target) l
unfolding poll_result
match_polls zero s mask w v l e = refl
match_polls (suc n) s mask w v l e =
    let t : TargetState = l.target in
    let rest = λ (k : WireState). match_ending s mask v (ctrl_read w) n k in
    let hit : Bool = eqb (bit_and (ctrl_stat t) mask) v in
    ap (λ r. match_ending_as r (eqb (bit_and (value l (ctrl_read w)) mask) v) l (ctrl_read w) (rest (access_made l (ctrl_read w)))) (ctrl_ends s l w e)
    ∙ ap (λ c. match_ending_as Good (eqb (bit_and c mask) v) l (ctrl_read w) (rest (access_made l (ctrl_read w)))) (ctrl_value l w e)
    ∙ ap (λ k. match_ending_as Good hit l (ctrl_read w) (rest k)) (ctrl_made l w e)
    ∙ ap (λ x. match_ending_as Good hit l (ctrl_read w) x) (match_polls n s mask w v (line_after l) e)
    ∙ one_turn hit l w (poll_result n mask v (after_read t)) e
    ∙ ap (λ (x : Attempt). poll_ending (poll_read x.outcome x.next mask v (poll_result n mask v x.next)) l) (sym (reads_plain t e))

-- a read at the address of CTRL/STAT that never waits is one of CTRL/STAT
reads_it : (at_ap read : Bool) (addr b : ℕ) → read ≡ true → addr ≡ 4 → (not at_ap && cond read (eqb addr 0 || (eqb addr 4 && eqb b 0)) (eqb addr 0)) ≡ true →
    (at_ap ≡ false) × (b ≡ 0)
reads_it at_ap read addr b er ea h =
    by_port at_ap (sym (ap (λ r. not at_ap && cond r (eqb addr 0 || (eqb addr 4 && eqb b 0)) (eqb addr 0)) er ∙ ap (λ n. not at_ap && (eqb n 0 || (eqb n 4 && eqb b 0))) ea) ∙ h)
  where
    by_port : (p : Bool) → (not p && eqb b 0) ≡ true → (p ≡ false) × (b ≡ 0)
    by_port true e = absurd (cc)
    by_port false e = (refl, eqb-true b 0 e)

ctrl_is : (t : TargetState) (a : RegAccess) → a.read ≡ true → a.addr ≡ 4 → is_free t a ≡ true → (a.ap ≡ false) × (bank t ≡ 0)
unfolding is_free
ctrl_is t a er ea free = reads_it a.ap a.read a.addr (bank t) er ea free

same_read : (a : RegAccess) → a.ap ≡ false → a.read ≡ true → a.addr ≡ 4 → a ≡ ctrl_read a.value
same_read a ea er en = λ i. record { ap = ea i; read = er i; addr = en i; value = a.value }

-- what the value match of a probe comes to
abbrev pub poll_of : TransferState → ℕ → Polled
poll_of p v = poll_result (p.setting.matches + 1) p.mask v p.line.target

-- a value match of CTRL/STAT that a probe makes now
pub ctrl_matched : (p : TransferState) (a : RegAccess) (v : ℕ) → a.read ≡ true → a.addr ≡ 4 → is_free p.line.target a ≡ true →
    value_matched p a v ≡ poll_ending (poll_of p v) p.line
ctrl_matched p a v er ea free =
    let is = ctrl_is p.line.target a er ea free in
    ap (λ (x : RegAccess). value_matched p x v) (same_read a is.0 er ea) ∙ match_polls (p.setting.matches + 1) p.setting p.mask a.value v p.line is.1

-- the same, by what the code makes of the poll
pub ctrl_ended : (p : TransferState) (a : RegAccess) (v : ℕ) → a.read ≡ true → a.addr ≡ 4 → is_free p.line.target a ≡ true →
    (t u : TargetState) (mask number turns reads : ℕ) (o : Outcome) (r : Response) →
    t ≡ p.line.target → mask ≡ p.mask → number ≡ p.line.number → turns ≡ p.setting.matches + 1 →
    record { outcome = o; reads = reads; next = u } ≡ poll_result turns mask v t → r ≡ cond (eqb (given_number o) 1) Good Mismatch →
    record { response = r; line = record { target = u; number = number }; count = reads } ≡ value_matched p a v
ctrl_ended p a v er ea free t u mask number turns reads o r target_is mask_is number_is turns_is polled_is response_is =
    let same : record { outcome = o; reads = reads; next = u } ≡ poll_of p v = polled_is ∙ (λ i. poll_result (turns_is i) (mask_is i) v (target_is i)) in
    ap (λ (x : Response). record { response = x; line = record { target = u; number = number }; count = reads }) response_is
    ∙ (λ i. record { response = cond (has_matched (same i)) Good Mismatch; line = record { target = (same i).next; number = number_is i }; count = (same i).reads })
    ∙ sym (ctrl_matched p a v er ea free)

never_either : (b : Bool) (u : TargetState) (x : Polled) → is_fault x.outcome ≡ false → is_fault (hit_or b u x).outcome ≡ false
never_either true u x h = refl
never_either false u x h = h

pub never_faults : (n mask v : ℕ) (t : TargetState) → bank t ≡ 0 → is_fault (poll_result n mask v t).outcome ≡ false
unfolding poll_result
never_faults zero mask v t e = refl
never_faults (suc n) mask v t e =
    ap (λ (x : Attempt). is_fault (poll_read x.outcome x.next mask v (poll_result n mask v x.next)).outcome) (reads_plain t e)
    ∙ never_either (eqb (bit_and (ctrl_stat t) mask) v) (after_read t) (poll_result n mask v (after_read t)) (never_faults n mask v (after_read t) e)

-- ---- the value match alone

abbrev poll_line : Polled → WireState → WireState
poll_line x l = record { target = x.next; number = l.number }

abbrev poll_ran : Bool → Polled → WireState → ℕ → RunResult
poll_ran true x l mask = record { response = Good; line = poll_line x l; words = []; work = x.reads + 0; written = false; pending = false; executed = 0; mask = 0 }
poll_ran false x l mask = record { response = Mismatch; line = poll_line x l; words = []; work = x.reads; written = false; pending = false; executed = 0; mask = mask }

ran_by : (m : Bool) (x : Polled) (s : Setting) (l : WireState) (v mask : ℕ) → has_matched x ≡ m →
    (let w = item (Matches v) (ctrl_read v) 0 mask in
    let d = poll_ending x l in
    first_then d.response false l w d (run s false d.line []) ≡ poll_ran m x l mask)
ran_by m x s l v mask e =
    let w : Wire = item (Matches v) (ctrl_read v) 0 mask in
    ap (λ (b : Bool). first_then (cond b Good Mismatch) false l w (record { response = cond b Good Mismatch; line = poll_line x l; count = x.reads }) (run s false (poll_line x l) [])) e
    ∙ by_end m
  where
    by_end : (b : Bool) →
        first_then (cond b Good Mismatch) false l (item (Matches v) (ctrl_read v) 0 mask) (record { response = cond b Good Mismatch; line = poll_line x l; count = x.reads }) (run s false (poll_line x l) [])
        ≡ poll_ran b x l mask
    by_end true = refl
    by_end false = refl

ran_match : (p : TransferState) (v : ℕ) (m : Bool) → bank p.line.target ≡ 0 → has_matched (poll_of p v) ≡ m →
    request_ran p start_notes (ctrl_match v) ≡ poll_ran m (poll_of p v) p.line p.mask
ran_match p v m e h =
    let w : Wire = item (Matches v) (ctrl_read v) 0 p.mask in
    ap (λ (d : Ending). first_then d.response false p.line w d (run p.setting false d.line [])) (match_polls (p.setting.matches + 1) p.setting p.mask v v p.line e)
    ∙ ran_by m (poll_of p v) p.setting p.line v p.mask h

-- the probe after it
abbrev pub poll_left : TransferState → Polled → TransferState
poll_left p x = record p { line = poll_line x p.line; work = grown_work p.work x.reads }

abbrev pub poll_end : Bool → TransferState → Polled → Transferred
poll_end true p x = record { executed = 1; response = Good; words = []; next = poll_left p x }
poll_end false p x = record { executed = 0; response = Mismatch; words = []; next = poll_left p x }

grown_none : (w n : ℕ) → grown_work (grown_work w (n + 0)) 0 ≡ grown_work w n
grown_none w n = omega arith

abbrev one_note : Notes
one_note = record { outstanding = false; unchecked = false; executed = 1 }

pub match_alone : (p : TransferState) (v : ℕ) (m : Bool) → bank p.line.target ≡ 0 → has_matched (poll_of p v) ≡ m →
    transfer_result p (ctrl_match v ∷ []) ≡ poll_end m p (poll_of p v)
match_alone p v true e h =
    let x : Polled = poll_of p v in
    let is : request_ran p start_notes (ctrl_match v) ≡ poll_ran true x p.line p.mask = ran_match p v true e h in
    let good : (request_ran p start_notes (ctrl_match v)).response ≡ Good = ap (λ (ran : RunResult). ran.response) is in
    sym (from_start p (ctrl_match v ∷ []))
    ∙ goes_on p [] start_notes (ctrl_match v) [] good refl
    ∙ ap (λ (ran : RunResult). continued (state_after_run p ran Match (ctrl_match v)) ran.words (record { outstanding = false; unchecked = ran.written; executed = 1 }) []) is
    ∙ closes (record p { line = poll_line x p.line; work = grown_work p.work (x.reads + 0) }) [] one_note
    ∙ ap (λ (n : ℕ). record { executed = 1; response = Good; words = []; next = record p { line = poll_line x p.line; work = n } }) (grown_none p.work x.reads)
match_alone p v false e h =
    let x : Polled = poll_of p v in
    let is : request_ran p start_notes (ctrl_match v) ≡ poll_ran false x p.line p.mask = ran_match p v false e h in
    let bad : (request_ran p start_notes (ctrl_match v)).response ≡ Good → ⊥ = λ f. (let g = sym (ap (λ (ran : RunResult). ran.response) is) ∙ f in not_both g) in
    sym (from_start p (ctrl_match v ∷ []))
    ∙ breaks_off p [] start_notes (ctrl_match v) [] bad
    ∙ ap (λ (ran : RunResult). ended_here (record p { mask = mask_if ran.response Match p.mask (ctrl_match v) }) [] 0 ran) is
  where
    not_both : Mismatch ≡ Good → ⊥
    not_both f = cc

-- ---- a mask in front

pub mask_in_front : (p : TransferState) (mask : ℕ) (rs : List Request) → transfer_result p (mask_request mask ∷ rs) ≡ counted_from 1 (transfer_result (record p { mask = mask }) rs)
mask_in_front p mask rs =
    sym (from_start p (mask_request mask ∷ rs))
    ∙ goes_on p [] start_notes (mask_request mask) rs refl refl
    ∙ ap (λ (n : ℕ). continued (record p { work = n; mask = mask }) [] one_note rs) (grown_same p.work)
    ∙ counts_from (record p { mask = mask }) [] false false 1 0 rs
    ∙ ap (counted_from 1) (from_start (record p { mask = mask }) rs)

nothing_done : (p : TransferState) → transfer_result p [] ≡ record { executed = 0; response = Good; words = []; next = p }
nothing_done p = ap (λ (n : ℕ). record { executed = 0; response = Good; words = []; next = record p { work = n } }) (grown_same p.work)

pub mask_alone : (p : TransferState) (mask : ℕ) → transfer_result p (mask_request mask ∷ []) ≡ record { executed = 1; response = Good; words = []; next = record p { mask = mask } }
mask_alone p mask = mask_in_front p mask [] ∙ ap (counted_from 1) (nothing_done (record p { mask = mask }))
