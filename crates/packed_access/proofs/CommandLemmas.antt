-- A command of the probe as the last call.
use Rattle.std.proofs.Common.{◌≡◌, ◌∙◌, ℕ, ◌+◌, ◌/◌, ◌<◌, ◌≤◌, Bool, true, false, List, [], ◌∷◌, ◌++◌, length, get_or, set, cond, Option, Some, None, refl, sym, ap, arith, length-append}
use Rattle.std.specs.Prelude.{max, nat_lt, slice_get}
use Rattle.target_machine.specs.Plain.{Commands, call_done, result_of}
use Rattle.target_machine.specs.Sound.{IsSoundProbe}
use Rattle.target_machine.specs.State.{TargetState}
use Rattle.target_machine.specs.declared.unit.Call.TheVariants.{Probe}
use Rattle.target_machine.specs.declared.unit.ProbeCall.{ProbeCall}
use Rattle.target_machine.specs.declared.unit.ProbeCall.TheVariants as probe
use Rattle.target_calls.specs.Asks.{probe_ask}
use Rattle.target_calls.specs.NeedPoints.{Cost, asks_with_call, needed_more}
use Rattle.target_machine.specs.Packets.{commands_for}
use Rattle.target_calls.specs.World.{World, small_after, small_now, stop, world_after}
use Rattle.target_calls.specs.declared.calls.Ask.{Ask}
use Rattle.target_calls.specs.declared.journal.Part.TheVariants.{Ends}
use Rattle.access_calls.specs.Issued.{kept_of}
use Rattle.access_calls.specs.declared.issued.Issued.{Issued}
use Rattle.flight_laws.proofs.SmallLemmas.{not_small}
use Rattle.packed_access.specs.Actions.{entry_of_call, log_done}
use Rattle.packed_access.specs.Begun.{most_weight}
use Rattle.access_regs.specs.Costs.{command_cost, cost_by}
use Rattle.access_regs.specs.declared.planner.Planner.{Planner}
use Rattle.access_regs.specs.declared.planner.Planner.TheVariants.{Managed, Plain}
use Rattle.packed_access.specs.Logs.{LogState, asks_of, result_at, result_for, with_needs}
use Rattle.packed_access.specs.Sparing.{managed_points}
use Rattle.packed_access.proofs.NeedLemmas.{needs_more}
use Rattle.packed_access.proofs.AskLemmas.{set_here}

-- it weighs little
pub command_light : (call : ProbeCall) → IsSoundProbe call → commands_for call ≤ most_weight
command_light (probe.Delay micros) h = omega (arith, h)
command_light other h = omega arith

small_here : (x : Option ℕ) (w : World) (call : ProbeCall) → small_after x w (probe_ask call) ≡ false
unfolding call_done
small_here None w call = not_small _ false false _ _ _ _ refl
small_here (Some n) w call = refl

-- and never ends because its AP has no large addresses
pub command_not_small : (w : World) (calls : List Ask) (call : ProbeCall) → small_now w calls (probe_ask call) ≡ false
command_not_small w calls call = small_here (stop w calls) (world_after w calls) call

pub last_there : (calls : List Ask) (ask : Ask) → slice_get (calls ++ ask ∷ []) (length calls) ≡ Some ask
last_there [] ask = refl
last_there (c ∷ calls) ask = last_there calls ask

-- what is kept after it
pub command_log : (log new : LogState) (calls : List Ask) (call : ProbeCall) (word : ℕ) → log.calls ≡ calls ++ probe_ask call ∷ [] → log.came ≡ length calls →
    new ≡ log_done log (record { unit = length log.calls; part = Ends }) log.came (result_for (slice_get log.calls log.came) word) →
    new ≡ log_done log (kept_of (entry_of_call calls (Commands call))) (length calls) (result_of (Probe call) word)
command_log log new calls call word are came is =
    let count : length log.calls ≡ length calls + 1 = ap length are ∙ length-append calls (probe_ask call ∷ []) in
    let there : slice_get log.calls log.came ≡ Some (probe_ask call) = (λ j. slice_get (are j) (came j)) ∙ last_there calls (probe_ask call) in
    is ∙ (λ j. log_done log (record { unit = count j; part = Ends }) (came j) (result_for (there j) word))

-- its result is known
pub done_result : (log new : LogState) (entry : Issued) (index result : ℕ) → new ≡ log_done log entry index result → index < length log.calls → length log.results ≡ length log.calls → result_at new index ≡ result
done_result log new entry index result is less long =
    ap (λ (l : LogState). result_at l index) is
    ∙ ap (λ (b : Bool). cond b (get_or (set log.results index result) index 0) 0) (let e : nat_lt index (length log.calls) ≡ true = grind (arith, less) in e)
    ∙ set_here log.results index result (omega (arith, less, long))

-- ---- need points

command_cost_is : (p : Planner) (t : TargetState) (calls : List Ask) (call : ProbeCall) → record { before = 0; after = managed_points p (command_cost call) } ≡ cost_by p t calls (probe_ask call)
command_cost_is Managed t calls call = refl
command_cost_is Plain t calls call = refl

pub command_needs : (p : Planner) (t : TargetState) (calls : List Ask) (call : ProbeCall) (points count needs fence : ℕ) (log new : LogState) → points ≡ managed_points p (command_cost call) → new ≡ with_needs log points count → count ≡ length log.calls →
    asks_of log ≡ record { calls = calls ++ probe_ask call ∷ []; needs = needs; fence = fence } → asks_of new ≡ asks_with_call (cost_by p t calls (probe_ask call)) (probe_ask call) (record { calls = calls; needs = needs; fence = fence })
command_needs p t calls call points count needs fence log new points_are is at asks =
    ap asks_of is ∙ (λ j. asks_of (with_needs log (points_are j) (at j))) ∙ needs_more log (managed_points p (command_cost call)) ∙ ap (needed_more (managed_points p (command_cost call))) asks
    ∙ ap (λ (c : Cost). asks_with_call c (probe_ask call) (record { calls = calls; needs = needs; fence = fence })) (command_cost_is p t calls call)
