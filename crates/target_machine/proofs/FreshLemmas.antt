-- A target at which runs begin stays one where nothing faults.
use Rattle.std.proofs.Common.{◌≡◌, ◌∙◌, ℕ, zero, suc, ◌+◌, ◌^◌, ◌<◌, ◌&&◌, Bool, true, false, cond, eqb, List, [], ◌∷◌, map, refl, sym, subst, arith, bit_and}
use Rattle.std.specs.List.{AllByRecursion}
use Rattle.std.proofs.lemmas.Nat.{and_assoc}
use Rattle.target_machine.proofs.AccessLaws.{attempt_keeps, setting_faults, fault_sets}
use Rattle.target_machine.proofs.OneAp.{csw_stays_stored}
use Rattle.target_machine.proofs.Values.{each_entry}
use Rattle.target_machine.specs.Attempt.{Attempt, attempt, done_attempt, is_free}
use Rattle.target_machine.specs.Fresh.{HasStoredCsw, HaveStoredCsw, IsFresh}
use Rattle.target_machine.specs.Lists.{PassTo}
use Rattle.target_machine.specs.Plain.{Action, Makes, Polls, Commands, Polled, poll_result, poll_read, dp_read_of, dp_write_of, command_attempt, action_attempt, is_fault, forgives}
use Rattle.target_machine.specs.Ranges.{IsTargetJob}
use Rattle.target_machine.specs.Registers.{abort_address, ctrl_stat_address, csw_stored}
use Rattle.target_machine.specs.Start.{ap_entry, start}
use Rattle.target_machine.specs.State.{TargetState}
use Rattle.target_machine.specs.declared.access.Outcome.{Outcome}
use Rattle.target_machine.specs.declared.access.Outcome.TheVariants.{Value, Done, Fault}
use Rattle.target_machine.specs.declared.access.RegAccess.{RegAccess}
use Rattle.target_machine.specs.declared.job.ApJob.{ApJob}
use Rattle.target_machine.specs.declared.job.TargetJob.{TargetJob}
use Rattle.target_machine.specs.declared.unit.ProbeCall.TheVariants as probe

-- ---- the start of a job

stored_entries : (aps : List ApJob) → AllByRecursion (λ e. HasStoredCsw e.1) (map ap_entry aps)
stored_entries [] = tt
stored_entries (a ∷ aps) = (and_assoc csw_stored a.csw csw_stored, stored_entries aps)

pub start_is_fresh : (job : TargetJob) → IsTargetJob job → IsFresh (start job)
unfolding start
start_is_fresh job sound = record {
  clear = refl;
  few = (let le = sound.power_reads in omega arith);
  stored = each_entry HasStoredCsw (map ap_entry job.aps) (stored_entries job.aps);
}

-- ---- what each action leaves

-- the count that power-up takes stays, and CSWs keep stored bits alone
pub record Stays (t u : TargetState) : Type 0 where
  pub power_reads : u.power_reads ≡ t.power_reads
  pub stored : HaveStoredCsw t → HaveStoredCsw u

stays_same : (t : TargetState) → Stays t t
stays_same t = record { power_reads = refl; stored = λ h. h }

attempt_stays : (t : TargetState) (a : RegAccess) → Stays t (attempt t a).next
attempt_stays t a = let k = attempt_keeps t a in record { power_reads = k.power_reads; stored = csw_stays_stored t a }

stays_then : (t u v : TargetState) → Stays t u → Stays u v → Stays t v
stays_then t u v h k = record { power_reads = k.power_reads ∙ h.power_reads; stored = λ s. k.stored (h.stored s) }

polled_either : (t : TargetState) (b : Bool) (p q : Polled) → Stays t p.next → Stays t q.next → Stays t (cond b p q).next
polled_either t true p q h k = h
polled_either t false p q h k = k

looked_stays : (t : TargetState) (o : Outcome) (u : TargetState) (mask requested : ℕ) (p : Polled) → Stays t u → Stays t p.next → Stays t (poll_read o u mask requested p).next
looked_stays t (Value n) u mask requested p h k =
    polled_either t (eqb (bit_and n mask) requested) (record { outcome = Value 1; reads = 1; next = u }) (record p { reads = p.reads + 1 }) h k
looked_stays t Done u mask requested p h k = k
looked_stays t Fault u mask requested p h k = h

polled_stays : (turns mask requested : ℕ) (t : TargetState) → Stays t (poll_result turns mask requested t).next
unfolding poll_result
polled_stays zero mask requested t = stays_same t
polled_stays (suc turns) mask requested t =
    let x : Attempt = attempt t (dp_read_of ctrl_stat_address) in
    let first : Stays t x.next = attempt_stays t (dp_read_of ctrl_stat_address) in
    looked_stays t x.outcome x.next mask requested (poll_result turns mask requested x.next) first
    (stays_then t x.next (poll_result turns mask requested x.next).next first (polled_stays turns mask requested x.next))

pub acted_stays : (t : TargetState) (x : Action) → Stays t (action_attempt t x).next
acted_stays t (Makes a) = attempt_stays t a
acted_stays t (Polls mask requested turns) = polled_stays turns mask requested t
acted_stays t (Commands (probe.Delay micros)) = record { power_reads = refl; stored = λ h. h }
acted_stays t (Commands (probe.Abort value)) = attempt_stays t (dp_write_of abort_address value)
acted_stays t (Commands (probe.Pins output select wait)) = record { power_reads = refl; stored = λ h. h }
acted_stays t (Commands (probe.Clock hertz)) = record { power_reads = refl; stored = λ h. h }
acted_stays t (Commands (probe.Line count bits)) = record { power_reads = refl; stored = λ h. h }

-- ---- STICKYERR is set exactly where an action faults

set_where_fault : (set : Bool) (o : Outcome) → (set ≡ true → o ≡ Fault) → (o ≡ Fault → set ≡ true) → set ≡ is_fault o
set_where_fault true (Value n) f g = absurd (cc (f refl))
set_where_fault true Done f g = absurd (cc (f refl))
set_where_fault true Fault f g = refl
set_where_fault false (Value n) f g = refl
set_where_fault false Done f g = refl
set_where_fault false Fault f g = absurd (cc (g refl))

pub attempt_sets : (t : TargetState) (a : RegAccess) → t.sticky ≡ false → (attempt t a).next.sticky ≡ is_fault (attempt t a).outcome
attempt_sets t a clear = set_where_fault (attempt t a).next.sticky (attempt t a).outcome (setting_faults t a clear) (fault_sets t a)

polled_set_either : (b : Bool) (p q : Polled) → p.next.sticky ≡ is_fault p.outcome → q.next.sticky ≡ is_fault q.outcome → (cond b p q).next.sticky ≡ is_fault (cond b p q).outcome
polled_set_either true p q h k = h
polled_set_either false p q h k = k

looked_sets : (o : Outcome) (u : TargetState) (mask requested : ℕ) (p : Polled) → u.sticky ≡ is_fault o → (u.sticky ≡ false → p.next.sticky ≡ is_fault p.outcome) →
    (poll_read o u mask requested p).next.sticky ≡ is_fault (poll_read o u mask requested p).outcome
looked_sets (Value n) u mask requested p h k =
    polled_set_either (eqb (bit_and n mask) requested) (record { outcome = Value 1; reads = 1; next = u }) (record p { reads = p.reads + 1 }) h (k h)
looked_sets Done u mask requested p h k = k h
looked_sets Fault u mask requested p h k = h

polled_sets : (turns mask requested : ℕ) (t : TargetState) → t.sticky ≡ false → (poll_result turns mask requested t).next.sticky ≡ is_fault (poll_result turns mask requested t).outcome
unfolding poll_result
polled_sets zero mask requested t clear = clear
polled_sets (suc turns) mask requested t clear =
    let x : Attempt = attempt t (dp_read_of ctrl_stat_address) in
    looked_sets x.outcome x.next mask requested (poll_result turns mask requested x.next) (attempt_sets t (dp_read_of ctrl_stat_address) clear)
    (λ e. polled_sets turns mask requested x.next e)

pub acted_sets : (t : TargetState) (x : Action) → t.sticky ≡ false → (action_attempt t x).next.sticky ≡ is_fault (action_attempt t x).outcome
acted_sets t (Makes a) clear = attempt_sets t a clear
acted_sets t (Polls mask requested turns) clear = polled_sets turns mask requested t clear
acted_sets t (Commands (probe.Delay micros)) clear = clear
acted_sets t (Commands (probe.Abort value)) clear = attempt_sets t (dp_write_of abort_address value) clear
acted_sets t (Commands (probe.Pins output select wait)) clear = clear
acted_sets t (Commands (probe.Clock hertz)) clear = clear
acted_sets t (Commands (probe.Line count bits)) clear = clear

-- ---- an action that does not fault

pub acted_fresh : (t : TargetState) (x : Action) → IsFresh t → is_fault (action_attempt t x).outcome ≡ false → IsFresh (action_attempt t x).next
acted_fresh t x h good =
    let k = acted_stays t x in
    record { clear = acted_sets t x h.clear ∙ good; few = subst (λ (n : ℕ). n < 2 ^ 32) (sym k.power_reads) h.few; stored = k.stored h.stored }

pub pass_fresh : (t u : TargetState) (xs : List Action) → IsFresh t → PassTo t xs u → IsFresh u
pass_fresh t u [] h p = subst IsFresh (sym p) h
pass_fresh t u (x ∷ xs) h p = pass_fresh (action_attempt t x).next u xs (acted_fresh t x h p.0) p.1

clear_either : (b : Bool) (x y : Attempt) → y.next.sticky ≡ false → (cond (b && false) x y).next.sticky ≡ false
clear_either true x y h = h
clear_either false x y h = h

forgives_clears : (t : TargetState) → (command_attempt t forgives).next.sticky ≡ false
unfolding attempt is_free
forgives_clears t = clear_either t.sticky _ (done_attempt (record t { sticky = false })) refl

-- the write of ABORT after a fault that is forgiven
pub forgiven_fresh : (t : TargetState) → t.power_reads < 2 ^ 32 → HaveStoredCsw t → IsFresh (command_attempt t forgives).next
forgiven_fresh t few stored =
    let k = acted_stays t (Commands forgives) in
    record { clear = forgives_clears t; few = subst (λ (n : ℕ). n < 2 ^ 32) (sym k.power_reads) few; stored = k.stored stored }
