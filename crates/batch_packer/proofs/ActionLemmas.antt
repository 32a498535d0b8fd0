-- Polls and commands of the probe as actions.
use Rattle.std.proofs.Common.{◌≡◌, ℕ, zero, suc, ◌+◌, eqb, Bool, true, false, cond, refl, ap, sym, ◌∙◌}
use Rattle.std.specs.Prelude.{bit_and}
use Rattle.std.proofs.lemmas.Bool.{false_from_ne_true, true≢false, false≢true}
use Rattle.target_machine.proofs.AccessLaws.{attempt_keeps, setting_faults}
use Rattle.target_machine.specs.Attempt.{Attempt, attempt}
use Rattle.target_machine.specs.Plain.{Polled, dp_read_of, is_fault, poll_read, poll_result}
use Rattle.target_machine.specs.State.{TargetState}
use Rattle.target_machine.specs.declared.access.Outcome.{Outcome}
use Rattle.target_machine.specs.declared.access.Outcome.TheVariants.{Value, Done, Fault}

-- ---- what the reads of a poll leave

-- an access that does not fault leaves STICKYERR clear
stays_clear : (t : TargetState) → t.sticky ≡ false → is_fault (attempt t (dp_read_of 4)).outcome ≡ false → (attempt t (dp_read_of 4)).next.sticky ≡ false
stays_clear t clear passes =
    false_from_ne_true (attempt t (dp_read_of 4)).next.sticky (λ set. false≢true (sym passes ∙ ap is_fault (setting_faults t (dp_read_of 4) clear set)))

pub record LeavesClear (t u : TargetState) : Type 0 where
  pub clear : u.sticky ≡ false
  pub dpidr : u.dpidr ≡ t.dpidr

looks_clear : (o : Outcome) (t u : TargetState) (mask requested : ℕ) (rest : Polled) → is_fault (poll_read o u mask requested rest).outcome ≡ false → (is_fault o ≡ false → u.sticky ≡ false) → u.dpidr ≡ t.dpidr →
    (u.sticky ≡ false → is_fault rest.outcome ≡ false → LeavesClear u rest.next) → LeavesClear t (poll_read o u mask requested rest).next
looks_clear (Value n) t u mask requested rest passes clear dpidr later = by_hit (eqb (bit_and n mask) requested) passes
  where
    by_hit : (b : Bool) → is_fault (cond b (record { outcome = Value 1; reads = 1; next = u }) (record rest { reads = rest.reads + 1 })).outcome ≡ false →
        LeavesClear t (cond b (record { outcome = Value 1; reads = 1; next = u }) (record rest { reads = rest.reads + 1 })).next
    by_hit true p = record { clear = clear refl; dpidr = dpidr }
    by_hit false p = let l = later (clear refl) p in record { clear = l.clear; dpidr = l.dpidr ∙ dpidr }
looks_clear Done t u mask requested rest passes clear dpidr later = let l = later (clear refl) passes in record { clear = l.clear; dpidr = l.dpidr ∙ dpidr }
looks_clear Fault t u mask requested rest passes clear dpidr later = absurd (true≢false passes)

pub poll_clear : (turns mask requested : ℕ) (t : TargetState) → t.sticky ≡ false → is_fault (poll_result turns mask requested t).outcome ≡ false → LeavesClear t (poll_result turns mask requested t).next
unfolding poll_result
poll_clear zero mask requested t clear passes = record { clear = clear; dpidr = refl }
poll_clear (suc turns) mask requested t clear passes =
    let x : Attempt = attempt t (dp_read_of 4) in
    let kept = attempt_keeps t (dp_read_of 4) in
    looks_clear x.outcome t x.next mask requested (poll_result turns mask requested x.next) passes (stays_clear t clear) kept.dpidr
    (λ e p. poll_clear turns mask requested x.next e p)
