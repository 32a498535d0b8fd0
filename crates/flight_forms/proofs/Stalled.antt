-- Where a command ends with WAIT: the last of its transfers met more WAITs than the retry number allows.
use Rattle.std.proofs.Common.{◌≡◌, ltb, ℕ, zero, suc, ◌+◌, ◌<◌, Bool, true, false, cond, List, [], ◌∷◌, refl, sym, ap, ◌∙◌, subst}
use Rattle.std.specs.Prelude.{slice_index, ◌==◌, bit_and}
use Rattle.std.proofs.lemmas.Bool.{ltb-true}
use Rattle.target_machine.specs.Attempt.{is_free}
use Rattle.target_machine.specs.declared.access.RegAccess.{RegAccess}
use Rattle.dap_messages.specs.declared.request.Request.{Request}
use Rattle.dap_messages.specs.declared.request.Response.{Response}
use Rattle.dap_messages.specs.declared.request.Response.TheVariants.{Good, Wait, Fault, Mismatch}
use Rattle.dap_transfer.specs.Wires.{Role, Posts, Moves, Fetches, Reads, Matches, Writes, Checks, Wire, wires, last_mask}
use Rattle.dap_transfer.specs.State.{Setting, TransferState, WireState}
use Rattle.dap_transfer.specs.WireTransfer.{Ending, ends, access_made, next_number, number_after, value, wire_ending, wire_ending_as, RetryIsOver}
use Rattle.dap_transfer.specs.ValueMatch.{match_ending, match_ending_as}
use Rattle.dap_transfer.specs.Transfer.{RunResult, ending, ending_as, good_front, run_to_place, transfer_result}
use Rattle.dap_transfer.specs.Private.{first_then, run}
use Rattle.dap_transfer.proofs.Runs.{first_place}
use Rattle.dap_messages.specs.Responses.{is_good}

wait_end : (free stall sticky : Bool) → cond free Good (cond stall Wait (cond sticky Fault Good)) ≡ Wait → (free ≡ false) × (stall ≡ true)
wait_end true stall sticky e = absurd (cc)
wait_end false true sticky e = (refl, refl)
wait_end false false true e = absurd (cc)
wait_end false false false e = absurd (cc)

-- one wire transfer
wait_over : (s : Setting) (l : WireState) (a : RegAccess) → ends s l a ≡ Wait → RetryIsOver s (number_after l a)
unfolding ends
wait_over s l a e =
    let w = wait_end (is_free l.target a) (ltb s.retry (slice_index s.stalls l.number)) l.target.sticky e in
    (l.number, ap (λ (b : Bool). cond b l.number (next_number l.number)) w.0, ltb-true s.retry (slice_index s.stalls l.number) w.1)

wire_over : (r : Response) (s : Setting) (l : WireState) (a : RegAccess) → ends s l a ≡ r → (wire_ending_as r l a).response ≡ Wait → RetryIsOver s (wire_ending_as r l a).line.number
wire_over Good s l a e w = absurd (cc)
wire_over Wait s l a e w = wait_over s l a e
wire_over Fault s l a e w = absurd (cc)
wire_over Mismatch s l a e w = absurd (cc)

-- the reads of a value match
match_by : (r : Response) (hit : Bool) (s : Setting) (l : WireState) (a : RegAccess) (rest : Ending) → ends s l a ≡ r → (rest.response ≡ Wait → RetryIsOver s rest.line.number) →
    (match_ending_as r hit l a rest).response ≡ Wait → RetryIsOver s (match_ending_as r hit l a rest).line.number
match_by Good true s l a rest e h w = absurd (cc)
match_by Good false s l a rest e h w = h w
match_by Wait hit s l a rest e h w = wait_over s l a e
match_by Fault hit s l a rest e h w = absurd (cc)
match_by Mismatch hit s l a rest e h w = absurd (cc)

match_over : (s : Setting) (mask requested : ℕ) (a : RegAccess) (n : ℕ) (l : WireState) → (match_ending s mask requested a n l).response ≡ Wait → RetryIsOver s (match_ending s mask requested a n l).line.number
match_over s mask requested a zero l w = absurd (cc)
match_over s mask requested a (suc n) l w =
    match_by (ends s l a) (bit_and (value l a) mask == requested) s l a (match_ending s mask requested a n (access_made l a)) refl (match_over s mask requested a n (access_made l a)) w

role_over : (role : Role) (s : Setting) (l : WireState) (mask : ℕ) (a : RegAccess) → (ending_as role s l mask a).response ≡ Wait → RetryIsOver s (ending_as role s l mask a).line.number
role_over Posts s l mask a w = wire_over (ends s l a) s l a refl w
role_over Moves s l mask a w = wire_over (ends s l a) s l a refl w
role_over Fetches s l mask a w = wire_over (ends s l a) s l a refl w
role_over Reads s l mask a w = wire_over (ends s l a) s l a refl w
role_over (Matches requested) s l mask a w = match_over s mask requested a (s.matches + 1) l w
role_over Writes s l mask a w = wire_over (ends s l a) s l a refl w
role_over Checks s l mask a w = wire_over (ends s l a) s l a refl w

-- ---- wire transfers one after another

first_over : (r : Response) (s : Setting) (before : Bool) (l : WireState) (w : Wire) (d : Ending) (rest : RunResult) → (r ≡ Wait → RetryIsOver s d.line.number) → (rest.response ≡ Wait → RetryIsOver s rest.line.number) →
    (first_then r before l w d rest).response ≡ Wait → RetryIsOver s (first_then r before l w d rest).line.number
first_over Good s before l w d rest one h e = h e
first_over Wait s before l w d rest one h e = one refl
first_over Fault s before l w d rest one h e = absurd (cc)
first_over Mismatch s before l w d rest one h e = absurd (cc)

run_over : (s : Setting) (before : Bool) (l : WireState) (ws : List Wire) → (run s before l ws).response ≡ Wait → RetryIsOver s (run s before l ws).line.number
run_over s before l [] e = absurd (cc)
run_over s before l (w ∷ ws) e =
    first_over (ending s l w).response s before l w (ending s l w) _ (role_over w.role s l w.mask w.access) (run_over s _ (ending s l w).line ws) e

-- a command of requests
pub command_over : (p : TransferState) (rs : List Request) → (transfer_result p rs).response ≡ Wait → RetryIsOver p.setting (transfer_result p rs).next.line.number
command_over p rs e =
    let ws : List Wire = wires p.mask rs in
    let same = first_place p.setting false p.line ws in
    subst (λ (ran : RunResult). RetryIsOver p.setting ran.line.number) (sym same)
    (run_over p.setting false p.line ws (ap (λ (ran : RunResult). ran.response) (sym same) ∙ e))
