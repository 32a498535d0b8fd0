-- The steps of a planned unit, phase by phase.
use Rattle.std.proofs.Common.{◌≡◌, ◌∙◌, ℕ, ◌+◌, ◌-◌, ◌<◌, Bool, true, false, cond, List, [], ◌∷◌, ◌++◌, length, map, take, Option, refl, sym, ap, subst, arith, length-append}
use Rattle.std.proofs.lemmas.List.{map-append}
use Rattle.target_machine.specs.Lists.{after}
use Rattle.target_machine.specs.Plain.{Makes}
use Rattle.target_machine.specs.State.{TargetState}
use Rattle.target_machine.specs.declared.access.RegAccess.{RegAccess}
use Rattle.target_machine.specs.declared.unit.Unit.{Unit as AccessUnit}
use Rattle.target_machine.specs.declared.unit.Unit.TheVariants as unit
use Rattle.target_calls.specs.Journal.{Entry}
use Rattle.target_calls.specs.declared.journal.Part.TheVariants.{Ends, Leads, Settles}
use Rattle.access_regs.specs.Journal.{Issue, Step, before, by_csw, by_plan, gives, numbered_entries, port_of, steps_of}
use Rattle.access_regs.specs.Kept.{Kept}
use Rattle.access_regs.specs.Plan.{first_plan, last_access, leads, kept_after_csw, kept_after_plan, needs_csw}
use Rattle.probe_core.specs.Bench.{BenchState}
use Rattle.packed_access.specs.Begun.{HasIssued, IsNoPoll, strict_entries}
use Rattle.packed_access.specs.Logs.{LogState}
use Rattle.access_regs.specs.declared.planner.Planner.{Planner}

pub leads_numbered : (units : ℕ) (xs : List RegAccess) → numbered_entries units false (steps_of Leads xs) ≡ strict_entries (units + 1) Leads xs
leads_numbered units [] = refl
leads_numbered units (x ∷ xs) = ap (λ l. record { unit = units + 1; part = Leads; forgiving = false; action = Makes x } ∷ l) (leads_numbered units xs)

-- the plan
pub plan_numbered : (units : ℕ) (k : Kept) (asked : AccessUnit) → IsNoPoll asked → numbered_entries units false (by_plan k asked).steps ≡ strict_entries (units + 1) Leads (leads k asked) ++ (strict_entries (units + 1) Ends (last_access asked ∷ []) ++ [])
plan_numbered units k (unit.Memory size read ap' address value) h = map-append _ (steps_of Leads (leads k (unit.Memory size read ap' address value))) _ ∙ ap (λ (l : List Entry). l ++ (strict_entries (units + 1) Ends (last_access (unit.Memory size read ap' address value) ∷ []) ++ [])) (leads_numbered units (leads k (unit.Memory size read ap' address value)))
plan_numbered units k (unit.Ap read ap' addr value) h = map-append _ (steps_of Leads (leads k (unit.Ap read ap' addr value))) _ ∙ ap (λ (l : List Entry). l ++ (strict_entries (units + 1) Ends (last_access (unit.Ap read ap' addr value) ∷ []) ++ [])) (leads_numbered units (leads k (unit.Ap read ap' addr value)))
plan_numbered units k (unit.Dp read addr value) h = refl
plan_numbered units k (unit.Poll mask value turns) h = absurd h

-- after a read of CSW, where that is needed
pub csw_steps : (units : ℕ) (t : TargetState) (k : Kept) (asked : AccessUnit) → needs_csw k asked ≡ true →
    (numbered_entries units false (by_csw t k asked).steps ≡ strict_entries (units + 1) Leads (first_plan k (port_of asked)) ++ numbered_entries units false (by_plan (kept_after_csw k (port_of asked) (gives t (first_plan k (port_of asked)))) asked).steps)
    × ((by_csw t k asked).kept ≡ kept_after_plan (kept_after_csw k (port_of asked) (gives t (first_plan k (port_of asked)))) asked)
csw_steps units t k asked needs =
    let i : Issue = before (steps_of Leads (first_plan k (port_of asked))) (by_plan (kept_after_csw k (port_of asked) (gives t (first_plan k (port_of asked)))) asked) in
    let is : by_csw t k asked ≡ before (steps_of Leads (first_plan k (port_of asked))) (by_plan (kept_after_csw k (port_of asked) (gives t (first_plan k (port_of asked)))) asked) =
    ap (λ (b : Bool). cond b (before (steps_of Leads (first_plan k (port_of asked))) (by_plan (kept_after_csw k (port_of asked) (gives t (first_plan k (port_of asked)))) asked)) (by_plan k asked)) needs in (
      ap (λ (x : Issue). numbered_entries units false x.steps) is ∙ map-append _ (steps_of Leads (first_plan k (port_of asked))) _
          ∙ ap (λ (l : List Entry). l ++ numbered_entries units false (by_plan (kept_after_csw k (port_of asked) (gives t (first_plan k (port_of asked)))) asked).steps) (leads_numbered units (first_plan k (port_of asked))),
      ap (λ (x : Issue). x.kept) is,
    )

pub plain_steps : (units : ℕ) (t : TargetState) (k : Kept) (asked : AccessUnit) → needs_csw k asked ≡ false → (numbered_entries units false (by_csw t k asked).steps ≡ numbered_entries units false (by_plan k asked).steps) × ((by_csw t k asked).kept ≡ kept_after_plan k asked)
plain_steps units t k asked needs =
    let is : by_csw t k asked ≡ by_plan k asked = ap (λ (b : Bool). cond b (before (steps_of Leads (first_plan k (port_of asked))) (by_plan (kept_after_csw k (port_of asked) (gives t (first_plan k (port_of asked)))) asked)) (by_plan k asked)) needs in
    (ap (λ (x : Issue). numbered_entries units false x.steps) is, ap (λ (x : Issue). x.kept) is)

-- ---- with the number of the call

-- what is issued for a unit whose CSW is known
abbrev pub plan_entries : ℕ → Kept → AccessUnit → List Entry
plan_entries count k asked = strict_entries count Leads (leads k asked) ++ (strict_entries count Ends (last_access asked ∷ []) ++ [])

pub plain_left : (count : ℕ) (t : TargetState) (k : Kept) (asked : AccessUnit) → 0 < count → IsNoPoll asked → needs_csw k asked ≡ false → numbered_entries (count - 1) false (by_csw t k asked).steps ≡ plan_entries count k asked
plain_left count t k asked some no_poll needs =
    (plain_steps (count - 1) t k asked needs).0 ∙ plan_numbered (count - 1) k asked no_poll ∙ (let e : (count - 1) + 1 ≡ count = omega (arith, some) in ap (λ (n : ℕ). plan_entries n k asked) e)

pub csw_left : (count : ℕ) (t : TargetState) (k : Kept) (asked : AccessUnit) → 0 < count → IsNoPoll asked → needs_csw k asked ≡ true →
    numbered_entries (count - 1) false (by_csw t k asked).steps ≡ strict_entries count Leads (first_plan k (port_of asked)) ++ plan_entries count (kept_after_csw k (port_of asked) (gives t (first_plan k (port_of asked)))) asked
csw_left count t k asked some no_poll needs =
    let k' : Kept = kept_after_csw k (port_of asked) (gives t (first_plan k (port_of asked))) in
    (csw_steps (count - 1) t k asked needs).0
    ∙ ap (λ (l : List Entry). strict_entries ((count - 1) + 1) Leads (first_plan k (port_of asked)) ++ l) (plan_numbered (count - 1) (kept_after_csw k (port_of asked) (gives t (first_plan k (port_of asked)))) asked no_poll)
    ∙ (let e : (count - 1) + 1 ≡ count = omega (arith, some) in ap (λ (n : ℕ). strict_entries n Leads (first_plan k (port_of asked)) ++ plan_entries n (kept_after_csw k (port_of asked) (gives t (first_plan k (port_of asked)))) asked) e)

-- the same entries, by the registers and the calls as they are now
pub plan_now : (p : Planner) (x : Option BenchState) (log : LogState) (accesses accesses' : List RegAccess) (k k' : Kept) (asked : AccessUnit) (count : ℕ) (m0 : BenchState) → HasIssued p x log accesses (plan_entries count k asked) m0 → accesses' ≡ accesses → k' ≡ k → length log.calls ≡ count →
    HasIssued p x log accesses' (plan_entries (length log.calls) k' asked) m0
plan_now p x log accesses accesses' k k' asked count m0 h same kept counts =
    subst (λ (xs : List RegAccess). HasIssued p x log xs (plan_entries (length log.calls) k' asked) m0) (sym same)
    (subst (λ (q : Kept). HasIssued p x log accesses (plan_entries (length log.calls) q asked) m0) (sym kept)
    (subst (λ (n : ℕ). HasIssued p x log accesses (plan_entries n k asked) m0) (sym counts) h))
