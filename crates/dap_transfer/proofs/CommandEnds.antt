-- How a command of normal requests ends.
use Rattle.std.proofs.Common.{◌≡◌, eqb, ℕ, ◌+◌, ◌-◌, ◌≤◌, ◌&&◌, ◌||◌, not, Bool, true, false, cond, List, [], ◌∷◌, ◌++◌, take, length, refl, ap, sym, ◌∙◌, arith, suc, zero, subst, inl, inr, length-append}
use Rattle.std.proofs.lemmas.Bool.{both_ways}
use Rattle.target_machine.specs.State.{TargetState}
use Rattle.target_machine.specs.Attempt.{attempt, is_free}
use Rattle.target_machine.specs.declared.access.RegAccess.{RegAccess}
use Rattle.dap_base.specs.Bits.{has_bit}
use Rattle.dap_base.proofs.Basics.{or_weaker}
use Rattle.dap_messages.specs.declared.request.Request.{Request}
use Rattle.dap_transfer.specs.declared.notes.Notes.{Notes}
use Rattle.dap_messages.specs.declared.request.RequestKind.{RequestKind}
use Rattle.dap_messages.specs.declared.request.RequestKind.TheVariants.{Posted, Read, Match, Mask, Write}
use Rattle.dap_messages.specs.declared.request.Response.{Response}
use Rattle.dap_messages.specs.declared.request.Response.TheVariants.{Good, Wait, Fault, Mismatch}
use Rattle.dap_messages.specs.Requests.{is_posted, kind, write_last}
use Rattle.dap_transfer.specs.Wires.{Wire, Posts, Moves, Fetches, Reads, Writes, Checks, item, rdbuff, fetch_if, access_of, between, own, check_if}
use Rattle.dap_transfer.specs.State.{Setting, TransferState, Transferred, WireState, grown_work}
use Rattle.dap_transfer.specs.Transfer.{RunResult, is_pending, reads_back}
use Rattle.dap_transfer.specs.WireTransfer.{ends}
use Rattle.dap_transfer.specs.Private.{close_ran, mask_if, state_after_command, request_ran, run, state_after_run, word_of}
use Rattle.dap_transfer.specs.Laws.{IsNormalKind, AreNormal}
use Rattle.dap_transfer.proofs.Runs.{run-append}
use Rattle.dap_transfer.proofs.Steps.{continued, start_notes, from_start, goes_on, one_after, breaks_off, closes, ended_here, run_written, between_written}
use Rattle.dap_transfer.proofs.Prefix.{IsPlain, good_or_not, leaves_good, leaves_rdbuff, between_leaves, run_one, LeavesAs}
use Rattle.dap_transfer.proofs.TargetFacts.{ap_waits, rdbuff_waits}
use Rattle.dap_transfer.proofs.Words.{reads_first}
use Rattle.target_machine.specs.Counts.{one_if}
use Rattle.dap_transfer.specs.CommandEnds.{may_be_free, writes_ap, AreGuarded, is_doubted, in_doubt, target_after, EndsAt, Ends}
use Rattle.dap_transfer.proofs.StickyFacts.{stays_clear, free_may}
use Rattle.dap_transfer.proofs.RunEnds.{OneAs, Reports, one_ends, ReportsAs, alone_reports, back_reports, fetched_reports, gives_one}
use Rattle.dap_transfer.proofs.ReadWords.{posted_bits, read_bits}

-- ---- the bits of a request by its kind

chain : Bool → Bool → Bool → Bool → RequestKind
chain mask read match at_ap = cond mask Mask (cond (not read) Write (cond match Match (cond at_ap Posted Read)))

posted_chain : (mask read match at_ap : Bool) → chain mask read match at_ap ≡ Posted → (at_ap ≡ true) × (read ≡ true)
unfolding chain
posted_chain true read match at_ap e = absurd (cc)
posted_chain false false match at_ap e = absurd (cc)
posted_chain false true true at_ap e = absurd (cc)
posted_chain false true false true e = (refl, refl)
posted_chain false true false false e = absurd (cc)

read_chain : (mask read match at_ap : Bool) → chain mask read match at_ap ≡ Read → at_ap ≡ false
unfolding chain
read_chain true read match at_ap e = absurd (cc)
read_chain false false match at_ap e = absurd (cc)
read_chain false true true at_ap e = absurd (cc)
read_chain false true false true e = absurd (cc)
read_chain false true false false e = refl

write_chain : (mask read match at_ap : Bool) → chain mask read match at_ap ≡ Write → read ≡ false
unfolding chain
write_chain true read match at_ap e = absurd (cc)
write_chain false false match at_ap e = refl
write_chain false true true at_ap e = absurd (cc)
write_chain false true false true e = absurd (cc)
write_chain false true false false e = absurd (cc)

read_is_chain : (mask read match at_ap : Bool) → chain mask read match at_ap ≡ Read → read ≡ true
unfolding chain
read_is_chain true read match at_ap e = absurd (cc)
read_is_chain false false match at_ap e = absurd (cc)
read_is_chain false true match at_ap e = refl

pub read_is : (r : Request) → kind r ≡ Read → (access_of r).read ≡ true
unfolding chain
read_is r e = read_is_chain (eqb r.byte 0x20) (has_bit r.byte 2) (has_bit r.byte 0x10) (has_bit r.byte 1) e

pub write_bits : (r : Request) → kind r ≡ Write → (access_of r).read ≡ false
unfolding chain
write_bits r e = write_chain (eqb r.byte 0x20) (has_bit r.byte 2) (has_bit r.byte 0x10) (has_bit r.byte 1) e

-- ---- one request

fetch_reports : (s : Setting) (l : WireState) (i m : ℕ) (w : Wire) (waits : Bool) (after own : ℕ) → IsPlain w.role → reads_back w.role ≡ false → gives_one w.role + after ≡ own →
    Reports true false l.target waits after own (run s false l (fetch_if true i m ++ w ∷ []))
fetch_reports s l i m w waits after own plain back count =
    let f : Wire = item Fetches rdbuff i m in
    let a : RunResult = run s false l (f ∷ []) in
    subst (Reports true false l.target waits after own) (sym (run-append s false l (f ∷ []) (w ∷ [])))
    (fetched_reports a.response a s w l.target waits after own refl
    (back_reports s l f true 0 0 tt refl (rdbuff_waits l.target) refl refl)
    (leaves_rdbuff a.response l.target a.line.target (run_one s false l f tt))
    (run_written s false l (f ∷ [])) plain back count)

-- what the wire transfers of one request report: `waits` where its own access waits
pub between_reports : (k : RequestKind) → IsNormalKind k → (o b : Bool) (s : Setting) (l : WireState) (i m : ℕ) (r : Request) → kind r ≡ k → (o && b) ≡ false → (waits : Bool) →
    (waits ≡ true → is_free l.target (access_of r) ≡ false) →
    Reports o b l.target waits (one_if (is_posted k)) (word_of k) (run s b l (between k o i m r))
between_reports Posted h true true s l i m r e one waits free = absurd (cc)
between_reports Posted h true false s l i m r e one waits free =
    let bits = posted_bits r e in
    back_reports s l (item Moves (access_of r) i m) waits 1 1 tt refl (ap_waits l.target (access_of r) bits.0) refl refl
between_reports Posted h false b s l i m r e one waits free = alone_reports s b l (item Posts (access_of r) i m) waits 1 1 tt refl free (omega arith)
between_reports Read h true true s l i m r e one waits free = absurd (cc)
between_reports Read h true false s l i m r e one waits free = fetch_reports s l i m (item Reads (access_of r) i m) waits 0 1 tt refl (omega arith)
between_reports Read h false b s l i m r e one waits free = alone_reports s b l (item Reads (access_of r) i m) waits 0 1 tt refl free (omega arith)
between_reports Write h true true s l i m r e one waits free = absurd (cc)
between_reports Write h true false s l i m r e one waits free = fetch_reports s l i m (item Writes (access_of r) i m) waits 0 0 tt refl (omega arith)
between_reports Write h false b s l i m r e one waits free = alone_reports s b l (item Writes (access_of r) i m) waits 0 0 tt refl free (omega arith)
between_reports Match h o b s l i m r e one waits free = absurd h
between_reports Mask h o b s l i m r e one waits free = absurd h

-- what the end of a command reports
pub close_reports : (o b : Bool) (s : Setting) (l : WireState) (i m : ℕ) → (o && b) ≡ false → Reports o b l.target b 0 0 (run s b l (fetch_if o i m ++ check_if b i m))
close_reports true true s l i m e = absurd (cc)
close_reports true false s l i m e = back_reports s l (item Fetches rdbuff i m) false 0 0 tt refl (rdbuff_waits l.target) refl refl
close_reports false true s l i m e = alone_reports s true l (item Checks rdbuff i m) true 0 0 tt refl (λ _. rdbuff_waits l.target) (omega arith)
close_reports false false s l i m e = ((λ h. absurd (cc)), omega arith)

wait_back : (x : Response) (s : Setting) (b : Bool) (l : WireState) (w : Wire) → IsPlain w.role → is_pending w.role b 0 ≡ true → OneAs x b l w (run s b l (w ∷ [])) → (run s b l (w ∷ [])).response ≡ Wait →
    (run s b l (w ∷ [])).pending ≡ true
wait_back Good s b l w plain back one e = absurd (let f = sym one.0 ∙ e in cc)
wait_back Wait s b l w plain back one e = one.2 ∙ back
wait_back Fault s b l w plain back one e = absurd (let f = sym one.0 ∙ e in cc)
wait_back Mismatch s b l w plain back one e = absurd (let f = sym one.0 ∙ e in cc)

-- a command that meets WAIT at its end: the last access is in doubt
close_pending : (o b : Bool) (s : Setting) (l : WireState) (i m : ℕ) → (o && b) ≡ false → (run s b l (fetch_if o i m ++ check_if b i m)).response ≡ Wait →
    (run s b l (fetch_if o i m ++ check_if b i m)).pending ≡ true
close_pending true true s l i m e f = absurd (cc)
close_pending true false s l i m e f = wait_back (ends s l rdbuff) s false l (item Fetches rdbuff i m) tt refl (one_ends s false l (item Fetches rdbuff i m) tt) f
close_pending false true s l i m e f = wait_back (ends s l rdbuff) s true l (item Checks rdbuff i m) tt refl (one_ends s true l (item Checks rdbuff i m) tt) f
close_pending false false s l i m e f = absurd (cc)

-- ---- all requests

implied_false : (w u : Bool) → (w ≡ true → u ≡ true) → u ≡ false → w ≡ false
implied_false true u h e = absurd (both_ways u e (h refl))
implied_false false u h e = refl

clear_of : (o w set : Bool) → (set ≡ true → (o || w) ≡ true) → w ≡ false → (o ≡ true → set ≡ false) → set ≡ false
clear_of true w set owes e h = h refl
clear_of false w true owes e h = absurd (both_ways w e (owes refl))
clear_of false w false owes e h = refl

clear_at_end : (o u w set : Bool) → (w ≡ true → u ≡ true) → (set ≡ true → (o || w) ≡ true) → ((o || u) ≡ true → set ≡ false) → set ≡ false
clear_at_end true u w set w_u owes h = h refl
clear_at_end false true w set w_u owes h = h refl
clear_at_end false false w set w_u owes h = clear_of false w set owes (implied_false w false w_u refl) (λ e. absurd (cc))

at_start : (t : TargetState) (rs : List Request) (j : ℕ) → t.sticky ≡ false → j ≡ 0 → (target_after t j rs).sticky ≡ false
at_start t rs j clear e = subst (λ n. (target_after t n rs).sticky ≡ false) (sym e) clear

wait_done : (b : Bool) (t : TargetState) (o u w : Bool) (rs : List Request) (n : ℕ) → (w ≡ true → u ≡ true) → (t.sticky ≡ true → (o || w) ≡ true) →
    (b ≡ true → (o || u) ≡ true) → (b ≡ false → (u ≡ false) × (o ≡ true → t.sticky ≡ false)) → n + one_if (b && o) ≡ one_if o → (0 ≡ length rs → b ≡ true) → EndsAt t o u rs n 0 Wait b
wait_done true t o u w rs n w_u owes known_doubt known words last = record {
  most = omega arith;
  whole = λ e. absurd (cc);
  never = λ e. cc;
  clear = λ j h. absurd (omega arith);
  fault = λ e. absurd (cc);
  words = omega arith;
  unseen = λ e. known_doubt refl;
  unproven = λ e bad. refl;
  at_end = λ bad e. refl;
}
wait_done false t o u w rs n w_u owes known_doubt known words last =
    let h = known refl in
    let clear : t.sticky ≡ false = clear_of o w t.sticky owes (implied_false w u w_u h.0) h.1 in
    record {
      most = omega arith;
      whole = λ e. absurd (cc);
      never = λ e. cc;
      clear = λ j k. at_start t rs j clear (omega arith);
      fault = λ e. absurd (cc);
      words = omega arith;
      unseen = λ e. absurd (cc);
      unproven = λ e bad. absurd (both_ways u h.0 e);
      at_end = λ bad e. last e;
    }

-- no request is done from here on
pub none_done : (x : Response) (t : TargetState) (o u w waits : Bool) (after own : ℕ) (rs : List Request) (ran : RunResult) (pending : Bool) →
    (x ≡ Good → (rs ≡ []) × (waits ≡ u) × (after ≡ 0) × (own ≡ 0)) → (x ≡ Wait → pending ≡ ran.pending) →
    (w ≡ true → u ≡ true) → (t.sticky ≡ true → (o || w) ≡ true) →
    ReportsAs x o u t waits after own ran → (x ≡ Wait → 0 ≡ length rs → ran.pending ≡ true) → EndsAt t o u rs (length ran.words) 0 x (is_doubted x pending)
none_done Good t o u w waits after own rs ran pending good is w_u owes reports last =
    let g = good refl in
    let reported : (o || u) ≡ true → t.sticky ≡ false = λ h. (let f = reports.0 in f (ap (λ b. o || b) g.1 ∙ h)) in
    let clear : t.sticky ≡ false = clear_at_end o u w t.sticky w_u owes reported in
    record {
      most = omega arith;
      whole = λ _. ap length (sym g.0);
      never = λ e. cc;
      clear = λ j h. at_start t rs j clear (omega arith);
      fault = λ e. absurd (cc);
      words = (let n = reports.1 in let a = g.2 in let b = g.3 in omega arith);
      unseen = λ e. absurd (cc);
      unproven = λ e bad. absurd (bad refl);
      at_end = λ bad e. absurd (bad refl);
    }
none_done Wait t o u w waits after own rs ran pending good is w_u owes reports last =
    subst (λ (b : Bool). EndsAt t o u rs (length ran.words) 0 Wait b) (sym (is refl))
    (wait_done ran.pending t o u w rs (length ran.words) w_u owes reports.0 reports.1 reports.2 (last refl))
none_done Fault t o u w waits after own rs ran pending good is w_u owes reports last = record {
  most = omega arith;
  whole = λ e. absurd (cc);
  never = λ e. cc;
  clear = λ j h. absurd (omega arith);
  fault = λ e. reports.0;
  words = (let n = reports.1 in omega arith);
  unseen = λ e. or_weaker o w u w_u (owes reports.0);
  unproven = λ e bad. refl;
  at_end = λ bad e. refl;
}
none_done Mismatch t o u w waits after own rs ran pending good is w_u owes reports last = absurd reports

-- one request is done, and then so many
pub one_done : (t t' : TargetState) (o u o' u' : Bool) (r : Request) (rs : List Request) (came given n : ℕ) (x : Response) (doubt : Bool) →
    t' ≡ (attempt t (access_of r)).next → o' ≡ is_posted (kind r) → u' ≡ write_last (kind r) u → t.sticky ≡ false →
    came + one_if o' ≡ one_if o + word_of (kind r) → EndsAt t' o' u' rs given n x doubt → EndsAt t o u (r ∷ rs) (came + given) (suc n) x doubt
one_done t t' o u o' u' r rs came given n x doubt t_is o_is u_is clear count ends =
    let same : EndsAt (attempt t (access_of r)).next (is_posted (kind r)) (write_last (kind r) u) rs given n x doubt =
    subst (λ (y : TargetState × Bool × Bool). EndsAt y.0 y.1 y.2 rs given n x doubt) (λ i. (t_is i, o_is i, u_is i)) ends in
    record {
      most = (let h = same.most in omega arith);
      whole = λ e. (let h = same.whole e in ap suc h);
      never = same.never;
      clear = before;
      fault = same.fault;
      words =
          (let a = same.words in
          let b = reads_first (r ∷ take n rs) (take n rs) r refl in
          let c : came + one_if (is_posted (kind r)) ≡ one_if o + word_of (kind r) = ap (λ b. came + one_if b) (sym o_is) ∙ count in
          omega arith);
      unseen = same.unseen;
      unproven = same.unproven;
      at_end = λ bad e. same.at_end bad (omega arith);
    }
  where
    same' : EndsAt (attempt t (access_of r)).next (is_posted (kind r)) (write_last (kind r) u) rs given n x doubt
    same' = subst (λ (y : TargetState × Bool × Bool). EndsAt y.0 y.1 y.2 rs given n x doubt) (λ i. (t_is i, o_is i, u_is i)) ends

    before : (j : ℕ) → j + one_if doubt ≤ suc n → (target_after t j (r ∷ rs)).sticky ≡ false
    before zero h = clear
    before (suc j) h = same'.clear j (omega arith)

-- what a write of an AP leaves to be seen, and what else is seen at once
leaves_seen : (k : RequestKind) → IsNormalKind k → (t : TargetState) (r : Request) (u : Bool) → kind r ≡ k → t.sticky ≡ false →
    (attempt t (access_of r)).next.sticky ≡ true → (is_posted k || writes_ap (access_of r)) ≡ true
leaves_seen Posted h t r u e clear set = refl
leaves_seen Read h t r u e clear set = absurd (both_ways (attempt t (access_of r)).next.sticky (stays_clear t (access_of r) (read_bits r e) clear) set)
leaves_seen Write h t r u e clear set = by_port (access_of r).ap refl
  where
    by_port : (b : Bool) → (access_of r).ap ≡ b → (false || writes_ap (access_of r)) ≡ true
    by_port true f = λ i. f i && not (write_bits r e i)
    by_port false f = absurd (both_ways (attempt t (access_of r)).next.sticky (stays_clear t (access_of r) f clear) set)
leaves_seen Match h t r u e clear set = absurd h
leaves_seen Mask h t r u e clear set = absurd h

writes_noted : (k : RequestKind) → IsNormalKind k → (r : Request) (u : Bool) → kind r ≡ k → writes_ap (access_of r) ≡ true → write_last k u ≡ true
writes_noted Posted h r u e w = let bits = posted_bits r e in absurd (both_ways (writes_ap (access_of r)) (λ i. bits.0 i && not (bits.1 i)) w)
writes_noted Read h r u e w = absurd (both_ways (writes_ap (access_of r)) (λ i. read_bits r e i && not (access_of r).read) w)
writes_noted Write h r u e w = refl
writes_noted Match h r u e w = absurd h
writes_noted Mask h r u e w = absurd h

waits_then : (w : Bool) (t : TargetState) (a : RegAccess) → (w && may_be_free a) ≡ false → w ≡ true → is_free t a ≡ false
waits_then true t a h e = by_free (is_free t a) refl
  where
    by_free : (b : Bool) → is_free t a ≡ b → b ≡ false
    by_free true f = absurd (both_ways (may_be_free a) h (free_may t a f))
    by_free false f = refl
waits_then false t a h e = absurd (cc)

-- how the requests from here on end
pub record Reached (t : TargetState) (o u : Bool) (i before : ℕ) (rs : List Request) (d : Transferred) : Type 0 where
  pub least : i ≤ d.executed
  pub given : ℕ
  pub more : length d.words ≡ before + given
  pub ends : EndsAt t o u rs given (d.executed - i) d.response (in_doubt d)

wait_pending : (x : Response) (p : TransferState) (b : Bool) → x ≡ Wait → (state_after_command p x b).pending ≡ b
wait_pending Good p b e = absurd (cc)
wait_pending Wait p b e = refl
wait_pending Fault p b e = absurd (cc)
wait_pending Mismatch p b e = absurd (cc)

-- a command that ends here
ended_reached : (p : TransferState) (words : List ℕ) (i : ℕ) (ran : RunResult) (t : TargetState) (o u w waits : Bool) (after own : ℕ) (rs : List Request) (d : Transferred) →
    d ≡ ended_here p words i ran → (ran.response ≡ Good → (rs ≡ []) × (waits ≡ u) × (after ≡ 0) × (own ≡ 0)) →
    (w ≡ true → u ≡ true) → (t.sticky ≡ true → (o || w) ≡ true) → Reports o u t waits after own ran → (ran.response ≡ Wait → 0 ≡ length rs → ran.pending ≡ true) → Reached t o u i (length words) rs d
ended_reached p words i ran t o u w waits after own rs d is good w_u owes reports last =
    subst (Reached t o u i (length words) rs) (sym is)
    (record {
      least = omega arith;
      given = length ran.words;
      more = length-append words ran.words;
      ends = subst (λ (n : ℕ). EndsAt t o u rs (length ran.words) n ran.response (in_doubt (ended_here p words i ran))) none
          (none_done ran.response t o u w waits after own rs ran (ended_here p words i ran).next.pending good (wait_pending ran.response (record p { line = ran.line; work = grown_work p.work ran.work }) ran.pending) w_u owes reports last);
    })
  where
    none : 0 ≡ i - i
    none = omega arith

-- and one that goes on
goes_reached : (t t' : TargetState) (o u o' u' : Bool) (i : ℕ) (words ws : List ℕ) (r : Request) (rs : List Request) (d d' : Transferred) → d ≡ d' →
    t' ≡ (attempt t (access_of r)).next → o' ≡ is_posted (kind r) → u' ≡ write_last (kind r) u → t.sticky ≡ false →
    length ws + one_if o' ≡ one_if o + word_of (kind r) → Reached t' o' u' (i + 1) (length (words ++ ws)) rs d' → Reached t o u i (length words) (r ∷ rs) d
goes_reached t t' o u o' u' i words ws r rs d d' is t_is o_is u_is clear count next =
    subst (Reached t o u i (length words) (r ∷ rs)) (sym is)
    (record {
      least = (let h = next.least in omega arith);
      given = length ws + next.given;
      more = next.more ∙ ap (λ n. n + next.given) (length-append words ws) ∙ omega arith;
      ends = subst (λ (n : ℕ). EndsAt t o u (r ∷ rs) (length ws + next.given) n d'.response (in_doubt d')) one
          (one_done t t' o u o' u' r rs (length ws) next.given (d'.executed - (i + 1)) d'.response (in_doubt d') t_is o_is u_is clear count next.ends);
    })
  where
    one : suc (d'.executed - (i + 1)) ≡ d'.executed - i
    one = let h = next.least in omega arith

reported_good : (x : Response) (o u : Bool) (t : TargetState) (waits : Bool) (after own : ℕ) (ran : RunResult) → x ≡ Good → ReportsAs x o u t waits after own ran → ReportsAs Good o u t waits after own ran
reported_good x o u t waits after own ran e h = subst (λ (y : Response). ReportsAs y o u t waits after own ran) e h

clear_now : (o w set : Bool) → (set ≡ true → (o || w) ≡ true) → ((o || w) ≡ true → set ≡ false) → set ≡ false
clear_now o w true owes h = h (owes refl)
clear_now o w false owes h = refl

pub reaches : (p : TransferState) (words : List ℕ) (notes : Notes) (rs : List Request) (w : Bool) → AreNormal rs → AreGuarded w rs →
    (notes.outstanding && notes.unchecked) ≡ false → (w ≡ true → notes.unchecked ≡ true) → (p.line.target.sticky ≡ true → (notes.outstanding || w) ≡ true) →
    Reached p.line.target notes.outstanding notes.unchecked notes.executed (length words) rs (continued p words notes rs)
reaches p words notes [] w normal guarded one w_u owes =
    ended_reached p words notes.executed (close_ran p notes) p.line.target notes.outstanding notes.unchecked w notes.unchecked 0 0 [] (continued p words notes [])
    (closes p words notes) (λ _. (refl, refl, refl, refl)) w_u owes
    (close_reports notes.outstanding notes.unchecked p.setting p.line notes.executed p.mask one)
    (λ e _. close_pending notes.outstanding notes.unchecked p.setting p.line notes.executed p.mask one e)
reaches p words notes (r ∷ rs) w normal guarded one w_u owes =
    let t : TargetState = p.line.target in
    let ran : RunResult = request_ran p notes r in
    let reports : Reports notes.outstanding notes.unchecked t w (one_if (is_posted (kind r))) (word_of (kind r)) ran =
    between_reports (kind r) normal.0 notes.outstanding notes.unchecked p.setting p.line notes.executed p.mask r refl one w (waits_then w t (access_of r) guarded.0) in
    elim (good_or_not ran.response) [
      | inl good ↦
          let next : Notes = record { outstanding = is_posted (kind r); unchecked = ran.written; executed = notes.executed + 1 } in
          let q : TransferState = state_after_run p ran (kind r) r in
          let reported = reported_good ran.response _ _ _ _ _ _ ran good reports in
          let clear : t.sticky ≡ false = clear_now notes.outstanding w t.sticky owes reported.0 in
          let written : ran.written ≡ write_last (kind r) notes.unchecked =
          run_written p.setting notes.unchecked p.line (between (kind r) notes.outstanding notes.executed p.mask r) good
          ∙ between_written (kind r) notes.outstanding notes.unchecked notes.executed p.mask r one in
          let leaves : LeavesAs ran.response t ran.line.target (access_of r) =
          between_leaves (kind r) normal.0 notes.outstanding p.setting notes.unchecked p.line notes.executed p.mask r in
          let t_is : q.line.target ≡ (attempt t (access_of r)).next = leaves_good ran.response _ _ _ good leaves in
          goes_reached t q.line.target notes.outstanding notes.unchecked (is_posted (kind r)) ran.written notes.executed words ran.words r rs
          (continued p words notes (r ∷ rs)) (continued q (words ++ ran.words) next rs) (goes_on p words notes r rs good one) t_is refl written clear reported.1
          (reaches q (words ++ ran.words) next rs (writes_ap (access_of r)) normal.1 guarded.1 (one_after p notes r one good)
          (λ h. written ∙ writes_noted (kind r) normal.0 r notes.unchecked refl h)
          (λ set. leaves_seen (kind r) normal.0 t r notes.unchecked refl clear (ap (λ (v : TargetState). v.sticky) (sym t_is) ∙ set)))
      | inr bad ↦
          ended_reached (record p { mask = mask_if ran.response (kind r) p.mask r }) words notes.executed ran t notes.outstanding notes.unchecked w w _ _ (r ∷ rs) (continued p words notes (r ∷ rs))
          (breaks_off p words notes r rs bad) (λ good. absurd (bad good)) w_u owes reports (λ _ e. absurd (omega arith))
    ]

pub command_ends : (p : TransferState) (rs : List Request) → AreNormal rs → AreGuarded false rs → p.line.target.sticky ≡ false → Ends p rs
command_ends p rs normal guarded clear =
    let d : Transferred = continued p [] start_notes rs in
    let reached = reaches p [] start_notes rs false normal guarded refl (λ e. absurd (cc)) (λ set. absurd (both_ways p.line.target.sticky clear set)) in
    let all : d.executed - 0 ≡ d.executed = omega arith in
    let given : reached.given ≡ length d.words = (let h = reached.more in omega arith) in
    subst (λ (x : Transferred). EndsAt p.line.target false false rs (length x.words) x.executed x.response (in_doubt x)) (from_start p rs)
    (subst (λ (y : ℕ × ℕ). EndsAt p.line.target false false rs y.0 y.1 d.response (in_doubt d)) (λ i. (given i, all i)) reached.ends)
