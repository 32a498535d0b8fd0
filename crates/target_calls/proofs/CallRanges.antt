-- From targets in range, calls write and give numbers of 32 bits, and leave targets in range.
use Rattle.std.proofs.Common.{◌≡◌, ◌⊎◌, inl, inr, ℕ, zero, suc, ◌*◌, ◌/◌, ◌%◌, ◌^◌, ◌<◌, ◌≤◌, Bool, true, false, cond, List, [], ◌∷◌, ◌++◌, refl, sym, subst, arith}
use Rattle.std.specs.Prelude.{◌==◌}
use Rattle.std.proofs.Math.Nat.{div-le_self, mod-le}
use Rattle.std.proofs.lemmas.Nat.{and_le_r}
use Rattle.std.specs.List.{AllByRecursion}
use Rattle.target_machine.proofs.ActionRanges.{acted_in_range, in_order_in_range, sound_in_range}
use Rattle.target_machine.specs.InRange.{IsActionInRange, IsInRange, IsWord}
use Rattle.target_machine.specs.Plain.{Action, Makes, Commands, CallDone, action_attempt, after_cfg, ap_access_of, call_actions, call_done, cfg_actions, contains, csw_actions, csw_for, ended_call, forgives, given_number, has_large, in_order, is_fault, issued_actions, memory_actions, needs_cfg, result_of, size_code, transfer_actions, unit_actions}
use Rattle.target_machine.specs.Registers.{csw_others}
use Rattle.target_machine.specs.Sound.{IsSound, IsSoundCall, IsSoundMemory}
use Rattle.target_machine.specs.State.{TargetState}
use Rattle.target_machine.specs.declared.unit.Call.{Call}
use Rattle.target_machine.specs.declared.unit.Call.TheVariants.{Access, Probe}
use Rattle.target_machine.specs.declared.unit.Unit.{Unit as AccessUnit}
use Rattle.target_machine.specs.declared.unit.Unit.TheVariants as unit
use Rattle.target_calls.specs.Asks.{AreAskable, IsAskable, IsCallInRange, IsUnitInRange}
use Rattle.target_calls.specs.World.{World, done_now, end_result, is_over, next_world, results, stops_here, world_after}
use Rattle.target_calls.specs.declared.calls.Ask.{Ask}

abbrev Fit : List Action → Type 0
Fit actions = AllByRecursion IsActionInRange actions

fit_append : (xs ys : List Action) → Fit xs → Fit ys → Fit (xs ++ ys)
fit_append [] ys h k = k
fit_append (x ∷ xs) ys h k = (h.0, fit_append xs ys h.1 k)

fit_either : (b : Bool) (xs ys : List Action) → Fit xs → Fit ys → Fit (cond b xs ys)
fit_either true xs ys h k = h
fit_either false xs ys h k = k

-- ---- what a unit writes

by_lane : (value lane : ℕ) → lane < 4 → value < 2 ^ 8 → value * 2 ^ (8 * lane) < 2 ^ 32
by_lane value zero lt small = omega arith
by_lane value (suc zero) lt small = omega arith
by_lane value (suc (suc zero)) lt small = omega arith
by_lane value (suc (suc (suc zero))) lt small = omega arith
by_lane value (suc (suc (suc (suc n)))) lt small = absurd (omega arith)

by_half : (value lane : ℕ) → lane < 4 → lane % 2 ≡ 0 → value < 2 ^ 16 → value * 2 ^ (8 * lane) < 2 ^ 32
by_half value zero lt even small = omega arith
by_half value (suc zero) lt even small = absurd (omega arith)
by_half value (suc (suc zero)) lt even small = omega arith
by_half value (suc (suc (suc zero))) lt even small = absurd (omega arith)
by_half value (suc (suc (suc (suc n)))) lt even small = absurd (omega arith)

-- a value fits the word in whose lanes it is
pub lanes_fit : (size address value : ℕ) → (size ≡ 1) ⊎ ((size ≡ 2) ⊎ (size ≡ 4)) → address % size ≡ 0 → value < 2 ^ (8 * size) → value * 2 ^ (8 * (address % 4)) < 2 ^ 32
lanes_fit size address value (inl e) aligned small = by_lane value (address % 4) (omega arith) (subst (λ (s : ℕ). value < 2 ^ (8 * s)) e small)
lanes_fit size address value (inr (inl e)) aligned small =
    let even : address % 2 ≡ 0 = subst (λ (s : ℕ). address % s ≡ 0) e aligned in
    by_half value (address % 4) (omega arith) (omega arith) (subst (λ (s : ℕ). value < 2 ^ (8 * s)) e small)
lanes_fit size address value (inr (inr e)) aligned small =
    let whole : address % 4 ≡ 0 = subst (λ (s : ℕ). address % s ≡ 0) e aligned in
    let fits : value < 2 ^ 32 = subst (λ (s : ℕ). value < 2 ^ (8 * s)) e small in
    subst (λ (l : ℕ). value * 2 ^ (8 * l) < 2 ^ 32) (sym whole) (omega arith)

size_few : (size : ℕ) → size_code size ≤ 2
size_few size = one (size == 1) (size == 2)
  where
    one : (a b : Bool) → cond a 0 (cond b 1 2) ≤ 2
    one true b = omega arith
    one false true = omega arith
    one false false = omega arith

csw_fits : (csw size : ℕ) → IsWord (csw_for csw size)
csw_fits csw size = let a = and_le_r csw csw_others in let b = size_few size in omega (arith, a, b)

-- what a read writes is 0
read_fits : (read : Bool) (value : ℕ) → (read ≡ false → IsWord value) → IsWord (cond read 0 value)
read_fits true value h = omega arith
read_fits false value h = h refl

transfer_fits : (large : Bool) (size : ℕ) (read : Bool) (address value csw : ℕ) → IsSoundMemory size read address value → address < 2 ^ 64 → Fit (transfer_actions large size read address value csw)
transfer_fits large size read address value csw sound wide = (
  csw_fits csw size,
  fit_append (cond large (Makes (ap_access_of false 0x8 (address / 2 ^ 32)) ∷ []) []) _
      (fit_either large _ [] (omega (arith, wide), tt) tt)
      (omega arith, (read_fits read _ (λ e. lanes_fit size address value sound.sized sound.aligned (sound.fits e)), tt)),
)

memory_fits : (t : TargetState) (large : Bool) (size : ℕ) (read : Bool) (port address value : ℕ) → IsSoundMemory size read address value → port < 2 ^ 8 → address < 2 ^ 64 → Fit (memory_actions t large size read port address value)
memory_fits t large size read port address value sound few wide =
    let csw : ℕ = given_number (in_order t (csw_actions port)).outcome in
    fit_append (csw_actions port) (transfer_actions large size read address value csw) (omega (arith, few), (omega arith, tt)) (transfer_fits large size read address value csw sound wide)

wide_fits : (t : TargetState) (size : ℕ) (read : Bool) (port address value : ℕ) → IsSoundMemory size read address value → port < 2 ^ 8 → address < 2 ^ 64
    → Fit (cfg_actions port ++ after_cfg t size read port address value)
wide_fits t size read port address value sound few wide =
    let u : TargetState = (in_order t (cfg_actions port)).next in
    fit_append (cfg_actions port) (after_cfg t size read port address value) (omega (arith, few), (omega arith, tt))
    (fit_either (has_large t port) (memory_actions u true size read port address value) [] (memory_fits u true size read port address value sound few wide) tt)

unit_fits : (t : TargetState) (large : List ℕ) (u : AccessUnit) → IsSound u → IsUnitInRange u → Fit (unit_actions t large u)
unit_fits t large (unit.Memory size read port address value) sound range =
    fit_either (needs_cfg large port address) (cfg_actions port ++ after_cfg t size read port address value) (memory_actions t (contains large port) size read port address value)
    (wide_fits t size read port address value sound range.0 range.1)
    (memory_fits t (contains large port) size read port address value sound range.0 range.1)
unit_fits t large (unit.Ap read port addr value) sound range = (let few = range.0 in let low = range.1 in omega (arith, few, low), (read_fits read value (λ e. range.2), tt))
unit_fits t large (unit.Dp true addr value) sound range = (omega arith, tt)
unit_fits t large (unit.Dp false addr value) sound range = (range, tt)
unit_fits t large (unit.Poll mask value turns) sound range = (tt, tt)

call_fits : (t : TargetState) (large : List ℕ) (call : Call) → IsSoundCall call → IsCallInRange call → Fit (call_actions t large call)
call_fits t large (Access u) sound range = unit_fits t large u sound range
call_fits t large (Probe c) sound range = (sound_in_range c sound range, tt)

-- ---- what a call issues, gives and leaves

issued_fits : (t : TargetState) (xs : List Action) → Fit xs → Fit (issued_actions t xs)
issued_fits t [] h = tt
issued_fits t (x ∷ xs) h = (h.0, fit_either (is_fault (action_attempt t x).outcome) [] _ tt (issued_fits (action_attempt t x).next xs h.1))

divided_fits : (n a b : ℕ) → IsWord n → IsWord (n / a % b)
divided_fits n a b h = let k = div-le_self n a in let m = mod-le (n / a) b in omega (arith, h, k, m)

result_fits : (call : Call) (n : ℕ) → IsWord n → IsWord (result_of call n)
result_fits (Access (unit.Memory size true port address value)) n h = divided_fits n (2 ^ (8 * (address % 4))) (2 ^ (8 * size)) h
result_fits (Access (unit.Memory size false port address value)) n h = h
result_fits (Access (unit.Ap read port addr value)) n h = h
result_fits (Access (unit.Dp read addr value)) n h = h
result_fits (Access (unit.Poll mask value turns)) n h = h
result_fits (Probe c) n h = h

record DoneFits (d : CallDone) : Type 0 where
  actions : Fit d.actions
  result : IsWord (end_result d.end)
  next : IsInRange d.next

ended_fits : (fault forgive small : Bool) (n : ℕ) (t : TargetState) (large : List ℕ) (actions : List Action) → IsWord n → IsInRange t → Fit actions → DoneFits (ended_call fault forgive small n t large actions)
ended_fits true true small n t large actions word range fit =
    let k = acted_in_range t (Commands forgives) range (omega arith) in
    record { actions = fit_append actions (Commands forgives ∷ []) fit (omega arith, tt); result = omega arith; next = k.next }
ended_fits true false small n t large actions word range fit = record { actions = fit; result = omega arith; next = range }
ended_fits false forgive true n t large actions word range fit = record { actions = fit; result = omega arith; next = range }
ended_fits false forgive false n t large actions word range fit = record { actions = fit; result = word; next = range }

done_fits : (w : World) (ask : Ask) → IsInRange w.target → IsAskable ask → DoneFits (done_now w ask)
unfolding call_done
done_fits w ask range askable =
    let fit = call_fits w.target w.large ask.call askable.sound askable.range in
    let ran = in_order_in_range (call_actions w.target w.large ask.call) w.target range fit in
    ended_fits _ _ _ _ _ _ _ (result_fits ask.call _ ran.value) ran.next (issued_fits w.target _ fit)

pub actions_fit : (w : World) (ask : Ask) → IsInRange w.target → IsAskable ask → AllByRecursion IsActionInRange (done_now w ask).actions
actions_fit w ask range askable = (done_fits w ask range askable).actions

pub result_word : (w : World) (ask : Ask) → IsInRange w.target → IsAskable ask → IsWord (end_result (done_now w ask).end)
result_word w ask range askable = (done_fits w ask range askable).result

pub next_fits : (w : World) (ask : Ask) → IsInRange w.target → IsAskable ask → IsInRange (next_world w ask).target
next_fits w ask range askable = (done_fits w ask range askable).next

pub results_words : (w : World) (calls : List Ask) → IsInRange w.target → AreAskable calls → AllByRecursion IsWord (results w calls)
results_words w [] range askable = tt
results_words w (ask ∷ calls) range askable =
    one (stops_here w ask) (result_word w ask range askable.0) (results_words (next_world w ask) calls (next_fits w ask range askable.0) askable.1)
  where
    one : (b : Bool) → IsWord (end_result (done_now w ask).end) → AllByRecursion IsWord (results (next_world w ask) calls) → AllByRecursion IsWord (cond b [] (end_result (done_now w ask).end ∷ results (next_world w ask) calls))
    one true first rest = tt
    one false first rest = (first, rest)

world_either : (b : Bool) (u v : World) → IsInRange u.target → IsInRange v.target → IsInRange (cond b u v).target
world_either true u v h k = h
world_either false u v h k = k

pub after_fits : (w : World) (calls : List Ask) → IsInRange w.target → AreAskable calls → IsInRange (world_after w calls).target
after_fits w [] range askable = range
after_fits w (ask ∷ calls) range askable =
    let next = next_fits w ask range askable.0 in
    world_either (stops_here w ask) _ _ (world_either (is_over w.answered) w (next_world w ask) range next) (after_fits (next_world w ask) calls next askable.1)
