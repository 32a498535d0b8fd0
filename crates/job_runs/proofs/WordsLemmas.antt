-- The memory at a stop is that of the sequences with so many units answered.
use Rattle.std.proofs.Common.{◌≡◌, ◌∙◌, ◌⊎◌, inl, inr, ℕ, zero, suc, ◌≤◌, max, Bool, true, false, cond, List, [], ◌∷◌, ◌++◌, length, take, Option, Some, refl, sym, ap, arith}
use Rattle.target_machine.specs.State.{TargetState}
use Rattle.target_machine.specs.Plain.{CallDone, call_done}
use Rattle.target_calls.specs.Asks.{settled_last}
use Rattle.target_calls.specs.Journal.{Entry}
use Rattle.target_calls.specs.World.{World, is_faulted, left_at, start_world, world_after}
use Rattle.target_calls.specs.declared.calls.Ask.{Ask}
use Rattle.target_calls.proofs.MarkLemmas.{after_marked, length_marked}
use Rattle.access_calls.specs.Made.{last_made, units_made}
use Rattle.access_calls.specs.declared.stop.Report.{Report}
use Rattle.access_calls.specs.declared.stop.StopCause.{StopCause}
use Rattle.access_calls.specs.declared.stop.StopCause.TheVariants.{Faulted, NoAnswer}
use Rattle.sequels.specs.Limits.{GoesOnFrom}
use Rattle.sequence_rules.specs.Runs.{Outcome}
use Rattle.followed_runs.specs.Followed.{Task, task_outcome, task_within}
use Rattle.followed_runs.specs.Laws as laws
use Rattle.followed_runs.specs.Laws.{OutcomeIsCutShort}
use Rattle.followed_runs.proofs.FollowLemmas.{limits_followed}
use Rattle.followed_runs.proofs.MadeLemmas.{followed_made}
use Rattle.job_runs.proofs.FrontLemmas.{Meets, beyond, within}

-- so many calls are answered
abbrev world : TargetState → List ℕ → ℕ → World
world t large n = record { target = t; large = large; answered = Some n }

-- more calls after those that are answered leave the target
after_front : (t : TargetState) (large : List ℕ) (n : ℕ) (xs more : List Ask) → n ≤ length xs → (world_after (world t large n) (xs ++ more)).target ≡ (world_after (world t large n) xs).target
after_front t large zero [] [] few = refl
after_front t large zero [] (m ∷ more) few = refl
after_front t large zero (x ∷ xs) more few = refl
after_front t large (suc n) [] more few = absurd (omega (arith, few))
after_front t large (suc n) (x ∷ xs) more few = by_end (is_faulted d.end) (after_front d.next d.large n xs more (omega (arith, few)))
  where
    d : CallDone
    d = call_done t large x.forgive x.call

    by_end : (b : Bool) → (world_after (world d.next d.large n) (xs ++ more)).target ≡ (world_after (world d.next d.large n) xs).target
        → (cond b (left_at (world t large (suc n)) x) (world_after (world d.next d.large n) (xs ++ more))).target ≡ (cond b (left_at (world t large (suc n)) x) (world_after (world d.next d.large n) xs)).target
    by_end true rest = refl
    by_end false rest = rest

-- the same of calls that go on from others, with or without a mark
pub after_from : (t : TargetState) (n : ℕ) (xs ys : List Ask) → GoesOnFrom xs ys → n ≤ length xs → (world_after (start_world t (Some n)) ys).target ≡ (world_after (start_world t (Some n)) xs).target
after_from t n xs ys g few = by_mark g.so
  where
    by_mark : (ys ≡ xs ++ g.more) ⊎ (ys ≡ settled_last xs ++ g.more) → (world_after (start_world t (Some n)) ys).target ≡ (world_after (start_world t (Some n)) xs).target
    by_mark (inl e) = ap (λ (l : List Ask). (world_after (start_world t (Some n)) l).target) e ∙ after_front t [] n xs g.more few
    by_mark (inr e) = ap (λ (l : List Ask). (world_after (start_world t (Some n)) l).target) e
        ∙ after_front t [] n (settled_last xs) g.more (let same = length_marked xs in omega (arith, few, same)) ∙ ap (λ (w : World). w.target) (after_marked (start_world t (Some n)) xs)

-- calls of which one list goes on from the other, where both have so many
pub after_meets : (t : TargetState) (n : ℕ) (asked calls : List Ask) → Meets asked calls → n ≤ length asked → n ≤ length calls → (world_after (start_world t (Some n)) asked).target ≡ (world_after (start_world t (Some n)) calls).target
after_meets t n asked calls (within g) few enough = sym (after_from t n asked calls g few)
after_meets t n asked calls (beyond g) few enough = after_from t n calls asked g enough

-- what the sequences leave with so many units answered is what their first calls leave
pub short_target : (k : Task) (t : TargetState) (before : Option (List ℕ)) (n : ℕ) → (task_within n k t before).target ≡ (world_after (start_world t (Some n)) (task_outcome k t before).calls).target
short_target k t before n = (followed_made (start_world t (Some n)) k before).target ∙ by_limit (limits_followed k.sequel n k.program t before)
  where
    by_limit : laws.OutcomeIsWhole n (task_outcome k t before) (task_within n k t before) ⊎ OutcomeIsCutShort n (task_outcome k t before) (task_within n k t before)
        → (world_after (start_world t (Some n)) (task_within n k t before).calls).target ≡ (world_after (start_world t (Some n)) (task_outcome k t before).calls).target
    by_limit (inl h) = ap (λ (o : Outcome). (world_after (start_world t (Some n)) o.calls).target) h.same
    by_limit (inr h) = sym (after_from t n (task_within n k t before).calls (task_outcome k t before).calls h.calls (let u = h.units in omega (arith, u)))

-- as many units were made where the same entries were performed
pub same_made_units : (cause : StopCause) (r : Report) (lines : ℕ) (ours theirs : List Entry) → take r.accesses ours ≡ take r.accesses theirs → units_made cause ours r lines ≡ units_made cause theirs r lines
same_made_units Faulted r lines ours theirs same = refl
same_made_units NoAnswer r lines ours theirs same = ap (λ (l : List Entry). max lines (last_made l)) same
