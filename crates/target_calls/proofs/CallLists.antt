-- Calls in a row: what more calls come to, and what the first ones do.
use Rattle.std.proofs.Common.{◌≡◌, ◌∙◌, ℕ, zero, suc, ◌+◌, ◌<◌, ◌≤◌, Bool, true, false, cond, List, [], ◌∷◌, ◌++◌, length, take, slice_index, Option, None, Some, refl, sym, ap, arith}
use Rattle.std.proofs.Math.ListN.{get_or-append}
use Rattle.target_calls.specs.Values.{IsAsked, number_of}
use Rattle.target_calls.specs.World.{World, done_now, next_world, stops_here, end_result, results, later_by, stop, world_after, one_if_skipped, skips}
use Rattle.target_calls.specs.declared.calls.Ask.{Ask}
use Rattle.target_calls.specs.declared.calls.Value.{Value}
use Rattle.target_calls.specs.declared.calls.Value.TheVariants.{Number, Pending}

-- neither the first call stops, nor those after it
pub head_of : (b : Bool) (at : Option ℕ) → cond b (Some 1) (later_by 1 at) ≡ None → (b ≡ false) × (at ≡ None)
head_of true at h = absurd cc
head_of false None h = (refl, refl)
head_of false (Some n) h = absurd cc

pub later_twice : (k : ℕ) (at : Option ℕ) → later_by 1 (later_by k at) ≡ later_by (suc k) at
later_twice k None = refl
later_twice k (Some n) = ap Some (omega arith)

pub later_zero : (at : Option ℕ) → at ≡ later_by 0 at
later_zero None = refl
later_zero (Some n) = ap Some (omega arith)

pub append_after : (w : World) (calls more : List Ask) → stop w calls ≡ None → world_after w (calls ++ more) ≡ world_after (world_after w calls) more
append_after w [] more h = refl
append_after w (a ∷ calls) more h =
    let q = head_of (stops_here w a) (stop (next_world w a) calls) h in
    rw q.0 (append_after (next_world w a) calls more q.1)

pub append_results : (w : World) (calls more : List Ask) → stop w calls ≡ None → results w (calls ++ more) ≡ results w calls ++ results (world_after w calls) more
append_results w [] more h = refl
append_results w (a ∷ calls) more h =
    let q = head_of (stops_here w a) (stop (next_world w a) calls) h in
    rw q.0 (ap (λ r. end_result (done_now w a).end ∷ r) (append_results (next_world w a) calls more q.1))

pub append_skips : (w : World) (calls more : List Ask) → stop w calls ≡ None → skips w (calls ++ more) ≡ skips w calls + skips (world_after w calls) more
append_skips w [] more h = omega arith
append_skips w (a ∷ calls) more h =
    let q = head_of (stops_here w a) (stop (next_world w a) calls) h in
    let rest = append_skips (next_world w a) calls more q.1 in
    rw q.0 (omega (arith, rest))

pub append_stop : (w : World) (calls more : List Ask) → stop w calls ≡ None → stop w (calls ++ more) ≡ later_by (length calls) (stop (world_after w calls) more)
append_stop w [] more h = later_zero (stop w more)
append_stop w (a ∷ calls) more h =
    let q = head_of (stops_here w a) (stop (next_world w a) calls) h in
    rw q.0 (ap (later_by 1) (append_stop (next_world w a) calls more q.1) ∙ later_twice (length calls) (stop (world_after (next_world w a) calls) more))

-- ---- calls that stop

-- a test that is true, or the same after it
by_stop : {A : Type 0} (b : Bool) (n : ℕ) (at : Option ℕ) (x y z : A) → cond b (Some 1) (later_by 1 at) ≡ Some n → ((k : ℕ) → at ≡ Some k → y ≡ z) → cond b x y ≡ cond b x z
by_stop true n at x y z h same = refl
by_stop false n None x y z h same = absurd cc
by_stop false n (Some k) x y z h same = same k refl

pub stop_more : (w : World) (calls more : List Ask) (n : ℕ) → stop w calls ≡ Some n → stop w (calls ++ more) ≡ stop w calls
stop_more w [] more n h = absurd cc
stop_more w (a ∷ calls) more n h =
    by_stop (stops_here w a) n (stop (next_world w a) calls) _ _ _ h (λ k e. ap (later_by 1) (stop_more (next_world w a) calls more k e))

pub results_more : (w : World) (calls more : List Ask) (n : ℕ) → stop w calls ≡ Some n → results w (calls ++ more) ≡ results w calls
results_more w [] more n h = absurd cc
results_more w (a ∷ calls) more n h =
    by_stop (stops_here w a) n (stop (next_world w a) calls) _ _ _ h (λ k e. ap (λ r. end_result (done_now w a).end ∷ r) (results_more (next_world w a) calls more k e))

pub after_more : (w : World) (calls more : List Ask) (n : ℕ) → stop w calls ≡ Some n → world_after w (calls ++ more) ≡ world_after w calls
after_more w [] more n h = absurd cc
after_more w (a ∷ calls) more n h =
    by_stop (stops_here w a) n (stop (next_world w a) calls) _ _ _ h (λ k e. after_more (next_world w a) calls more k e)

pub skips_more : (w : World) (calls more : List Ask) (n : ℕ) → stop w calls ≡ Some n → skips w (calls ++ more) ≡ skips w calls
skips_more w [] more n h = absurd cc
skips_more w (a ∷ calls) more n h =
    by_stop (stops_here w a) n (stop (next_world w a) calls) _ _ _ h (λ k e. ap (λ s. one_if_skipped (done_now w a).end + s) (skips_more (next_world w a) calls more k e))

pub stop_stays : (w : World) (calls more : List Ask) (n : ℕ) → stop w calls ≡ Some n → stop w (calls ++ more) ≡ Some n
stop_stays w calls more n h = stop_more w calls more n h ∙ h

-- ---- the first calls

none_some : {n : ℕ} {A : Type 0} → Some n ≡ None → A
none_some e = absurd cc

pub whole_front : (w : World) (calls more : List Ask) → stop w (calls ++ more) ≡ None → stop w calls ≡ None
whole_front w calls more h = one (stop w calls) refl
  where
    one : (at : Option ℕ) → stop w calls ≡ at → stop w calls ≡ None
    one None e = e
    one (Some n) e = none_some (sym (stop_stays w calls more n e) ∙ h)

-- the first call does not stop, and those after it do at this number
pub later_head : (b : Bool) (at : Option ℕ) (n : ℕ) → cond b (Some 1) (later_by 1 at) ≡ Some (suc (suc n)) → (b ≡ false) × (at ≡ Some (suc n))
later_head true at n h = absurd (let e : 1 ≡ suc (suc n) = cc in omega (arith, e))
later_head false None n h = absurd cc
later_head false (Some k) n h = (refl, (let e : 1 + k ≡ suc (suc n) = cc in ap Some (omega (arith, e))))

pub stop_before : (w : World) (calls : List Ask) (n : ℕ) → stop w calls ≡ Some (suc n) → stop w (take n calls) ≡ None
stop_before w [] n h = absurd cc
stop_before w (a ∷ calls) zero h = refl
stop_before w (a ∷ calls) (suc n) h =
    let q = later_head (stops_here w a) (stop (next_world w a) calls) n h in
    rw q.0 (ap (later_by 1) (stop_before (next_world w a) calls n q.1))

pub results_take : (w : World) (calls : List Ask) (n : ℕ) → results w (take n calls) ≡ take n (results w calls)
results_take w [] zero = refl
results_take w [] (suc n) = refl
results_take w (a ∷ calls) zero = refl
results_take w (a ∷ calls) (suc n) = one (stops_here w a) (results_take (next_world w a) calls n)
  where
    one : (b : Bool) → results (next_world w a) (take n calls) ≡ take n (results (next_world w a) calls)
        → cond b [] (end_result (done_now w a).end ∷ results (next_world w a) (take n calls)) ≡ take (suc n) (cond b [] (end_result (done_now w a).end ∷ results (next_world w a) calls))
    one true rest = refl
    one false rest = ap (λ r. end_result (done_now w a).end ∷ r) rest

pub count_of : (w : World) (calls : List Ask) → stop w calls ≡ None → length (results w calls) ≡ length calls
count_of w [] h = refl
count_of w (a ∷ calls) h =
    let q = head_of (stops_here w a) (stop (next_world w a) calls) h in
    rw q.0 (ap suc (count_of (next_world w a) calls q.1))

pub count_stopped : (w : World) (calls : List Ask) (n : ℕ) → stop w calls ≡ Some n → length (results w calls) + 1 ≡ n
count_stopped w [] n h = absurd cc
count_stopped w (a ∷ calls) n h = one (stops_here w a) (stop (next_world w a) calls) h (λ k e. count_stopped (next_world w a) calls k e)
  where
    one : (b : Bool) (at : Option ℕ) → cond b (Some 1) (later_by 1 at) ≡ Some n → ((k : ℕ) → at ≡ Some k → length (results (next_world w a) calls) + 1 ≡ k)
        → length (cond b [] (end_result (done_now w a).end ∷ results (next_world w a) calls)) + 1 ≡ n
    one true at h rest = (let e : 1 ≡ n = cc in e)
    one false None h rest = absurd cc
    one false (Some k) h rest = (let e : 1 + k ≡ n = cc in let f = rest k refl in omega (arith, e, f))

pub count_within : (w : World) (calls : List Ask) (n : ℕ) → stop w calls ≡ Some n → n ≤ length calls
count_within w [] n h = absurd cc
count_within w (a ∷ calls) n h = one (stops_here w a) (stop (next_world w a) calls) h (λ k e. count_within (next_world w a) calls k e)
  where
    one : (b : Bool) (at : Option ℕ) → cond b (Some 1) (later_by 1 at) ≡ Some n → ((k : ℕ) → at ≡ Some k → k ≤ length calls) → n ≤ suc (length calls)
    one true at h rest = (let e : 1 ≡ n = cc in omega (arith, e))
    one false None h rest = absurd cc
    one false (Some k) h rest = (let e : 1 + k ≡ n = cc in let f = rest k refl in omega (arith, e, f))

-- the results that were there come first
pub results_front : (w : World) (calls more : List Ask) (i : ℕ) → i < length (results w calls) → slice_index (results w (calls ++ more)) i ≡ slice_index (results w calls) i
results_front w calls more i few = one (stop w calls) refl
  where
    one : (at : Option ℕ) → stop w calls ≡ at → slice_index (results w (calls ++ more)) i ≡ slice_index (results w calls) i
    one None e = rw (append_results w calls more e) (get_or-append (results w calls) (results (world_after w calls) more) 0 i few)
    one (Some n) e = ap (λ r. slice_index r i) (results_more w calls more n e)

pub value_stays : (w : World) (calls more : List Ask) (v : Value) → IsAsked (length (results w calls)) v → number_of w (calls ++ more) v ≡ number_of w calls v
value_stays w calls more (Number n) h = refl
value_stays w calls more (Pending slot) h = results_front w calls more slot.index h
