-- Worlds in which only so many calls are answered, beside those that answer all.
use Rattle.std.proofs.Common.{◌≡◌, ◌∙◌, ℕ, zero, suc, ◌+◌, ◌-◌, ◌<◌, ◌≤◌, Bool, true, false, cond, List, [], ◌∷◌, length, take, Option, None, Some, refl, ap, arith}
use Rattle.std.proofs.lemmas.List.{take-take}
use Rattle.target_calls.proofs.CallLists.{head_of}
use Rattle.target_calls.specs.World.{World, AtLeast, fewer, is_faulted, unlimited_world, done_now, next_world, stops_here, end_result, results, results_within, later_by, stop, world_after, one_if_skipped, skips}
use Rattle.target_calls.specs.declared.calls.Ask.{Ask}

-- so many calls are answered
abbrev limited : World → ℕ → World
limited w n = record w { answered = Some n }

-- whether the call faults, in a world that answers it
abbrev faults : World → Ask → Bool
faults w a = is_faulted (done_now w a).end

results_limited : (w : World) (n : ℕ) (calls : List Ask) → results (limited w n) calls ≡ take n (results (unlimited_world w) calls)
results_limited w zero [] = refl
results_limited w (suc n) [] = refl
results_limited w zero (a ∷ calls) = refl
results_limited w (suc n) (a ∷ calls) = one (faults w a) (results_limited (next_world (unlimited_world w) a) n calls)
  where
    one : (b : Bool) → results (limited (next_world (unlimited_world w) a) n) calls ≡ take n (results (next_world (unlimited_world w) a) calls)
        → cond b [] (end_result (done_now w a).end ∷ results (limited (next_world (unlimited_world w) a) n) calls) ≡ take (suc n) (cond b [] (end_result (done_now w a).end ∷ results (next_world (unlimited_world w) a) calls))
    one true rest = refl
    one false rest = ap (λ r. end_result (done_now w a).end ∷ r) rest

pub results_first : (w : World) (calls : List Ask) → results w calls ≡ results_within w.answered (results (unlimited_world w) calls)
results_first w calls = one w.answered
  where
    one : (o : Option ℕ) → results (record w { answered = o }) calls ≡ results_within o (results (unlimited_world w) calls)
    one None = refl
    one (Some n) = results_limited w n calls

pub front_first : (w : World) (calls : List Ask) (n : ℕ) → AtLeast n w.answered → take n (results w calls) ≡ take n (results (unlimited_world w) calls)
front_first w calls n low = ap (take n) (results_first w calls) ∙ one w.answered low
  where
    one : (o : Option ℕ) → AtLeast n o → take n (results_within o (results (unlimited_world w) calls)) ≡ take n (results (unlimited_world w) calls)
    one None low = refl
    one (Some m) low = take-take n m (results (unlimited_world w) calls) low

limited_least : (w : World) (n : ℕ) (calls : List Ask) → stop (limited w n) calls ≡ None → length calls ≤ n
limited_least w n [] h = omega arith
limited_least w zero (a ∷ calls) h = absurd cc
limited_least w (suc n) (a ∷ calls) h =
    let q = head_of (faults w a) (stop (limited (next_world (unlimited_world w) a) n) calls) h in
    let rest = limited_least (next_world (unlimited_world w) a) n calls q.1 in
    omega (arith, rest)

pub whole_least : (w : World) (calls : List Ask) → stop w calls ≡ None → AtLeast (length calls) w.answered
whole_least w calls h = one w.answered h
  where
    one : (o : Option ℕ) → stop (record w { answered = o }) calls ≡ None → AtLeast (length calls) o
    one None h = tt
    one (Some n) h = limited_least w n calls h

limited_unlimited : (w : World) (n : ℕ) (calls : List Ask) → stop (limited w n) calls ≡ None → stop (unlimited_world w) calls ≡ None
limited_unlimited w n [] h = refl
limited_unlimited w zero (a ∷ calls) h = absurd cc
limited_unlimited w (suc n) (a ∷ calls) h =
    let q = head_of (faults w a) (stop (limited (next_world (unlimited_world w) a) n) calls) h in
    rw q.0 (ap (later_by 1) (limited_unlimited (next_world (unlimited_world w) a) n calls q.1))

pub whole_unlimited : (w : World) (calls : List Ask) → stop w calls ≡ None → stop (unlimited_world w) calls ≡ None
whole_unlimited w calls h = one w.answered h
  where
    one : (o : Option ℕ) → stop (record w { answered = o }) calls ≡ None → stop (unlimited_world w) calls ≡ None
    one None h = h
    one (Some n) h = limited_unlimited w n calls h

unlimited_limited : (w : World) (n : ℕ) (calls : List Ask) → stop (unlimited_world w) calls ≡ None → length calls ≤ n → stop (limited w n) calls ≡ None
unlimited_limited w n [] h long = refl
unlimited_limited w zero (a ∷ calls) h long = absurd (omega (arith, long))
unlimited_limited w (suc n) (a ∷ calls) h long =
    let q = head_of (faults w a) (stop (next_world (unlimited_world w) a) calls) h in
    rw q.0 (ap (later_by 1) (unlimited_limited (next_world (unlimited_world w) a) n calls q.1 (omega (arith, long))))

pub unlimited_whole : (w : World) (calls : List Ask) → stop (unlimited_world w) calls ≡ None → AtLeast (length calls) w.answered → stop w calls ≡ None
unlimited_whole w calls h long = one w.answered long
  where
    one : (o : Option ℕ) → AtLeast (length calls) o → stop (record w { answered = o }) calls ≡ None
    one None long = h
    one (Some n) long = unlimited_limited w n calls h long

limited_after : (w : World) (n : ℕ) (calls : List Ask) → stop (limited w n) calls ≡ None → world_after (limited w n) calls ≡ record (world_after (unlimited_world w) calls) { answered = Some (n - length calls) }
limited_after w n [] h = ap (λ k. limited w k) (omega arith)
limited_after w zero (a ∷ calls) h = absurd cc
limited_after w (suc n) (a ∷ calls) h =
    let q = head_of (faults w a) (stop (limited (next_world (unlimited_world w) a) n) calls) h in
    rw q.0 (limited_after (next_world (unlimited_world w) a) n calls q.1 ∙ ap (λ k. limited (world_after (next_world (unlimited_world w) a) calls) k) (omega arith))

unlimited_after : (w : World) (calls : List Ask) → stop (unlimited_world w) calls ≡ None → world_after (unlimited_world w) calls ≡ unlimited_world (world_after (unlimited_world w) calls)
unlimited_after w [] h = refl
unlimited_after w (a ∷ calls) h =
    let q = head_of (faults w a) (stop (next_world (unlimited_world w) a) calls) h in
    rw q.0 (unlimited_after (next_world (unlimited_world w) a) calls q.1)

pub whole_after : (w : World) (calls : List Ask) → stop w calls ≡ None → world_after w calls ≡ record (world_after (unlimited_world w) calls) { answered = fewer w.answered (length calls) }
whole_after w calls h = one w.answered h
  where
    one : (o : Option ℕ) → stop (record w { answered = o }) calls ≡ None → world_after (record w { answered = o }) calls ≡ record (world_after (unlimited_world w) calls) { answered = fewer o (length calls) }
    one None h = unlimited_after w calls h
    one (Some n) h = limited_after w n calls h

limited_skips : (w : World) (n : ℕ) (calls : List Ask) → stop (limited w n) calls ≡ None → skips (limited w n) calls ≡ skips (unlimited_world w) calls
limited_skips w n [] h = refl
limited_skips w zero (a ∷ calls) h = absurd cc
limited_skips w (suc n) (a ∷ calls) h =
    let q = head_of (faults w a) (stop (limited (next_world (unlimited_world w) a) n) calls) h in
    rw q.0 (ap (λ k. one_if_skipped (done_now w a).end + k) (limited_skips (next_world (unlimited_world w) a) n calls q.1))

pub whole_skips : (w : World) (calls : List Ask) → stop w calls ≡ None → skips w calls ≡ skips (unlimited_world w) calls
whole_skips w calls h = one w.answered h
  where
    one : (o : Option ℕ) → stop (record w { answered = o }) calls ≡ None → skips (record w { answered = o }) calls ≡ skips (unlimited_world w) calls
    one None h = refl
    one (Some n) h = limited_skips w n calls h

-- ---- where they stop

-- a number that counts from 1, of the first or of a later one, is not 0
pub first_is_positive : (b : Bool) (at : Option ℕ) → cond b (Some 1) (later_by 1 at) ≡ Some 0 → ⊥
first_is_positive true at h = absurd cc
first_is_positive false None h = absurd cc
first_is_positive false (Some k) h = (let e : 1 + k ≡ 0 = cc in absurd (omega (arith, e)))

-- the number of a call at which calls stop is at least 1
stop_positive : (w : World) (calls : List Ask) → stop w calls ≡ Some 0 → ⊥
stop_positive w [] h = absurd cc
stop_positive w (a ∷ calls) h = first_is_positive (stops_here w a) (stop (next_world w a) calls) h

limited_fault : (w : World) (m : ℕ) (calls : List Ask) (n : ℕ) → stop (unlimited_world w) calls ≡ Some (suc n) → n ≤ m → stop (limited w m) calls ≡ Some (suc n)
limited_fault w m [] n h low = absurd cc
limited_fault w zero (a ∷ calls) n h low = ap (λ k. Some (suc k)) (let z : 0 ≡ n = omega (arith, low) in z)
limited_fault w (suc m) (a ∷ calls) n h low =
    one (faults w a) n (stop (next_world (unlimited_world w) a) calls) h low (stop_positive (next_world (unlimited_world w) a) calls) (λ k e low. limited_fault (next_world (unlimited_world w) a) m calls k e low)
  where
    one : (b : Bool) (n : ℕ) (at : Option ℕ) → cond b (Some 1) (later_by 1 at) ≡ Some (suc n) → n ≤ suc m → (at ≡ Some 0 → ⊥)
        → ((k : ℕ) → at ≡ Some (suc k) → k ≤ m → stop (limited (next_world (unlimited_world w) a) m) calls ≡ Some (suc k))
        → cond b (Some 1) (later_by 1 (stop (limited (next_world (unlimited_world w) a) m) calls)) ≡ Some (suc n)
    one true n at h low some rest = h
    one false n None h low some rest = absurd cc
    one false n (Some zero) h low some rest = absurd (some refl)
    one false n (Some (suc k)) h low some rest = (let e : 1 + suc k ≡ suc n = cc in ap (later_by 1) (rest k refl (omega (arith, e, low))) ∙ ap Some e)

pub fault_stops : (w : World) (calls : List Ask) (n : ℕ) → stop (unlimited_world w) calls ≡ Some (suc n) → AtLeast n w.answered → stop w calls ≡ Some (suc n)
fault_stops w calls n h low = one w.answered low
  where
    one : (o : Option ℕ) → AtLeast n o → stop (record w { answered = o }) calls ≡ Some (suc n)
    one None low = h
    one (Some m) low = limited_fault w m calls n h low

limited_stops : (w : World) (calls : List Ask) (n : ℕ) → n < length calls → stop (unlimited_world w) (take n calls) ≡ None → stop (limited w n) calls ≡ Some (suc n)
limited_stops w [] n short h = absurd (omega (arith, short))
limited_stops w (a ∷ calls) zero short h = refl
limited_stops w (a ∷ calls) (suc n) short h =
    let q = head_of (faults w a) (stop (next_world (unlimited_world w) a) (take n calls)) h in
    rw q.0 (ap (later_by 1) (limited_stops (next_world (unlimited_world w) a) calls n (omega (arith, short)) q.1) ∙ ap Some (omega arith))

pub limit_stops : (w : World) (calls : List Ask) (n : ℕ) → w.answered ≡ Some n → n < length calls → stop (unlimited_world w) (take n calls) ≡ None → stop w calls ≡ Some (suc n)
limit_stops w calls n e short h = ap (λ (o : Option ℕ). stop (record w { answered = o }) calls) e ∙ limited_stops w calls n short h
