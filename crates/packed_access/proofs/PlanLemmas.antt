-- The accesses of plans are ones that a flight takes.
use Rattle.std.proofs.Common.{◌≡◌, ◌⊎◌, inl, inr, ◌∙◌, ℕ, ◌+◌, ◌-◌, ◌/◌, ◌%◌, ◌<◌, ◌≤◌, Bool, true, false, List, [], ◌∷◌, ◌++◌, length, take, get_or, Option, Some, None, refl, sym, ap, subst, arith, length-append}
use Rattle.std.proofs.Math.Seq.{take-append_seam}
use Rattle.std.specs.List.{AllByRecursion}
use Rattle.target_machine.specs.Plain.{ap_access_of, dp_read_of, dp_write_of, drw_of, select_of}
use Rattle.target_machine.specs.Sound.{IsSound}
use Rattle.target_machine.specs.declared.access.RegAccess.{RegAccess}
use Rattle.target_machine.specs.declared.unit.Unit.{Unit as AccessUnit}
use Rattle.target_machine.specs.declared.unit.Unit.TheVariants as unit
use Rattle.flight_forms.specs.Packing.{IsTaken}
use Rattle.access_regs.specs.Kept.{Kept, known_at}
use Rattle.target_machine.specs.Registers.{cfg_register, csw_register}
use Rattle.access_regs.specs.Plan.{cfg_plan, csw_needed, first_plan, high_needed, last_access, leads, plan, port_writes, select_needed, settle, settling, tar_needed, unless}
use Rattle.access_regs.specs.declared.known.Unsettled.{Unsettled}
use Rattle.access_regs.proofs.Few.{few_unless}
use Rattle.access_regs.proofs.LightLemmas.{leads_short}

clash_true : ◌≡◌ {A = Bool} true false → ⊥
clash_true e = cc

-- an access of an AP
pub ap_taken : (read : Bool) (addr value : ℕ) → IsTaken (ap_access_of read addr value)
ap_taken read addr value = record { read = λ e. absurd (clash_true e); write = λ e. absurd (clash_true e) }

pub select_taken : (ap bank : ℕ) → IsTaken (select_of ap bank)
select_taken ap bank = record { read = λ e r. absurd (clash_true (sym r)); write = λ e r. inr (inr (inl refl)) }

settling_taken : (k : Kept) (s : Option Unsettled) → AllByRecursion IsTaken (settling k s)
settling_taken k None = tt
settling_taken k (Some s) = (ap_taken false _ _, (ap_taken false _ _, tt))

pub settle_taken : (k : Kept) → AllByRecursion IsTaken (settle k)
settle_taken k = settling_taken k k.unsettled

settling_few : (k : Kept) (s : Option Unsettled) → length (settling k s) ≤ 2
settling_few k None = omega arith
settling_few k (Some s) = omega arith

-- ---- the plan of a unit

both_taken : (xs ys : List RegAccess) → AllByRecursion IsTaken xs → AllByRecursion IsTaken ys → AllByRecursion IsTaken (xs ++ ys)
both_taken [] ys h k = k
both_taken (x ∷ xs) ys h k = (h.0, both_taken xs ys h.1 k)

unless_taken : (b : Bool) (a : RegAccess) → IsTaken a → AllByRecursion IsTaken (unless b a)
unless_taken true a h = tt
unless_taken false a h = (h, tt)

dp_taken : (read : Bool) (addr value : ℕ) → IsSound (unit.Dp read addr value) → IsTaken (last_access (unit.Dp read addr value))
dp_taken true addr value h = record { read = λ e r. h; write = λ e r. absurd (clash_true r) }
dp_taken false addr value h = record { read = λ e r. absurd (clash_true (sym r)); write = λ e r. to_four h }
  where
    to_four : (addr ≡ 0) ⊎ ((addr ≡ 4) ⊎ (addr ≡ 8)) → (addr ≡ 0x0) ⊎ ((addr ≡ 0x4) ⊎ ((addr ≡ 0x8) ⊎ (addr ≡ 0xC)))
    to_four (inl a) = inl a
    to_four (inr (inl a)) = inr (inl a)
    to_four (inr (inr a)) = inr (inr (inl a))

last_taken : (asked : AccessUnit) → IsSound asked → IsTaken (last_access asked)
last_taken (unit.Memory size read ap address value) h = ap_taken read _ _
last_taken (unit.Ap read ap addr value) h = ap_taken read _ _
last_taken (unit.Dp read addr value) h = dp_taken read addr value h
last_taken (unit.Poll mask value turns) h = record { read = λ e r. inr refl; write = λ e r. absurd (clash_true r) }

leads_taken : (k : Kept) (asked : AccessUnit) → AllByRecursion IsTaken (leads k asked)
leads_taken k (unit.Memory size read ap address value) =
    both_taken (select_needed k ap 0) (port_writes (known_at k ap) size address) (unless_taken _ _ (select_taken ap 0))
    (both_taken (csw_needed (known_at k ap) size) (high_needed (known_at k ap) address ++ tar_needed (known_at k ap) address) (unless_taken _ _ (ap_taken false _ _))
    (both_taken (high_needed (known_at k ap) address) (tar_needed (known_at k ap) address) (unless_taken _ _ (ap_taken false _ _)) (unless_taken _ _ (ap_taken false _ _))))
leads_taken k (unit.Ap read ap addr value) = unless_taken _ _ (select_taken ap (addr / 16))
leads_taken k (unit.Dp read addr value) = tt
leads_taken k (unit.Poll mask value turns) = tt

pub plan_taken : (k : Kept) (asked : AccessUnit) → IsSound asked → AllByRecursion IsTaken (plan k asked)
plan_taken k asked h = both_taken (leads k asked) (last_access asked ∷ []) (leads_taken k asked) (last_taken asked h, tt)

-- what comes before the last access, and that one
pub record IsParted (k : Kept) (asked : AccessUnit) (accesses : List RegAccess) : Type 0 where
  pub some : 0 < length accesses
  pub few : length accesses ≤ 5
  pub first : take (length accesses - 1) accesses ≡ leads k asked
  pub last : (d : RegAccess) → get_or accesses (length accesses - 1) d ≡ last_access asked
  pub first_taken : AllByRecursion IsTaken (take (length accesses - 1) accesses)
  pub last_taken : IsTaken (last_access asked)

get_last : (xs : List RegAccess) (x d : RegAccess) → get_or (xs ++ x ∷ []) (length xs) d ≡ x
get_last [] x d = refl
get_last (y ∷ xs) x d = get_last xs x d

pub plan_parts : (k : Kept) (asked : AccessUnit) (accesses : List RegAccess) → accesses ≡ plan k asked → IsSound asked → IsParted k asked accesses
plan_parts k asked accesses is sound =
    let n : length accesses ≡ length (leads k asked) + 1 = ap length is ∙ length-append (leads k asked) (last_access asked ∷ []) in
    let at : length accesses - 1 ≡ length (leads k asked) = omega (arith, n) in
    let few = leads_short k asked in
    let first : take (length accesses - 1) accesses ≡ leads k asked = (λ j. take (at j) (is j)) ∙ take-append_seam (leads k asked) (last_access asked ∷ []) in
    record {
      some = omega (arith, n);
      few = omega (arith, n, few);
      first = first;
      last = λ d. (λ j. get_or (is j) (at j) d) ∙ get_last (leads k asked) (last_access asked) d;
      first_taken = subst (AllByRecursion IsTaken) (sym first) (leads_taken k asked);
      last_taken = last_taken asked sound;
    }

-- ---- the first plan of an AP

pub first_taken : (k : Kept) (ap : ℕ) → AllByRecursion IsTaken (first_plan k ap)
first_taken k ap = both_taken (select_needed k ap 0) (ap_access_of true csw_register 0 ∷ []) (unless_taken _ _ (select_taken ap 0)) (ap_taken true csw_register 0, tt)

first_count : (k : Kept) (ap : ℕ) → length (first_plan k ap) ≡ length (select_needed k ap 0) + 1
first_count k ap = length-append (select_needed k ap 0) (ap_access_of true csw_register 0 ∷ [])

pub first_some : (k : Kept) (ap : ℕ) → 0 < length (first_plan k ap)
first_some k ap = (let n = first_count k ap in omega (arith, n))

pub first_few : (k : Kept) (ap : ℕ) → length (first_plan k ap) ≤ 2
first_few k ap = (let n = first_count k ap in let s : length (select_needed k ap 0) ≤ 1 = few_unless _ _ in omega (arith, n, s))

-- ---- the read of CFG

pub cfg_taken : (k : Kept) (ap : ℕ) → AllByRecursion IsTaken (cfg_plan k ap)
cfg_taken k ap = both_taken (select_needed k ap (cfg_register / 16)) (ap_access_of true (cfg_register % 16) 0 ∷ []) (unless_taken _ _ (select_taken ap (cfg_register / 16))) (ap_taken true (cfg_register % 16) 0, tt)

cfg_count : (k : Kept) (ap : ℕ) → length (cfg_plan k ap) ≡ length (select_needed k ap (cfg_register / 16)) + 1
cfg_count k ap = length-append (select_needed k ap (cfg_register / 16)) (ap_access_of true (cfg_register % 16) 0 ∷ [])

pub cfg_some : (k : Kept) (ap : ℕ) → 0 < length (cfg_plan k ap)
cfg_some k ap = (let n = cfg_count k ap in omega (arith, n))

pub cfg_few : (k : Kept) (ap : ℕ) → length (cfg_plan k ap) ≤ 2
cfg_few k ap = (let n = cfg_count k ap in let s : length (select_needed k ap (cfg_register / 16)) ≤ 1 = few_unless _ _ in omega (arith, n, s))

-- ---- what a plan comes to

pub ruleset cfg_planned = (cfg_taken, cfg_some, cfg_few)

pub ruleset first_planned = (first_taken, first_some, first_few)

pub ruleset planned = (plan_taken, leads_short, plan_parts)
