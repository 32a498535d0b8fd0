-- Neighbouring units after the first issue nothing but their accesses by DRW.
use Rattle.std.proofs.Common.{◌≡◌, ◌∙◌, ℕ, suc, ◌+◌, ◌*◌, ◌%◌, ◌^◌, ◌<◌, ◌≤◌, ◌⊎◌, Bool, true, List, [], ◌∷◌, ◌++◌, length, sym, ap, subst, arith}
use Rattle.std.proofs.Math.Nat.{mul-suc}
use Rattle.access_regs.proofs.Few.{Ready, first_unit, here_asked, made_large, made_ready, next_where, ready_leads, ready_plan, rest_where, some_size, start_narrow, start_where, unit_here}
use Rattle.access_regs.proofs.Lists.{actions_entries, actions_in_append}
use Rattle.access_regs.specs.Journal.{Issue, actions_of, entries_at, issued_from, issue_of_plan, steps_at, steps_of}
use Rattle.access_regs.specs.Kept.{Kept, known_at}
use Rattle.access_regs.specs.Neighbours.{AreNeighbours, NeighboursAreBare, drws_in}
use Rattle.access_regs.specs.Plan.{kept_after_plan}
use Rattle.access_regs.specs.declared.planner.Planner.TheVariants.{Managed}
use Rattle.target_calls.specs.Journal.{actions_in}
use Rattle.target_calls.specs.declared.calls.Ask.{Ask}
use Rattle.target_calls.specs.declared.journal.Part.TheVariants.{Ends, Leads}
use Rattle.target_machine.specs.Lists.{after}
use Rattle.target_machine.specs.Plain.{Action, Makes, drw_of}
use Rattle.target_machine.specs.State.{TargetState}
use Rattle.target_machine.specs.declared.access.RegAccess.{RegAccess}
use Rattle.target_machine.specs.declared.unit.Unit.{Unit as AccessUnit}

-- one unit, and more calls
module _ (size m address : ℕ) (read : Bool) (value n : ℕ) (t : TargetState) (k : Kept) where
  abbrev here : AccessUnit
  here = unit_here size m address read value

  abbrev asked : Ask
  asked = here_asked size m address read value

  abbrev next_kept : Kept
  next_kept = (issue_of_plan t k here).kept

  abbrev next_target : TargetState
  next_target = after t (actions_of (steps_at Managed t k asked))

  split : (cs : List Ask) → actions_in (issued_from Managed n k t (asked ∷ cs)) ≡ actions_in (entries_at Managed n t k asked) ++ actions_in (issued_from Managed (n + 1) next_kept next_target cs)
  split cs = actions_in_append (entries_at Managed n t k asked) (issued_from Managed (n + 1) next_kept next_target cs)

  -- where it needs nothing else
  bare : Ready size m address k → actions_in (entries_at Managed n t k asked) ≡ Makes (drw_of read address value) ∷ []
  bare r =
      actions_entries Managed n t k asked
      ∙ ap (λ (i : Issue). actions_of (i.steps ++ [])) (ready_plan size m address read value t k r)
      ∙ ap (λ (l : List RegAccess). actions_of ((steps_of Leads l ++ record { part = Ends; action = Makes (drw_of read address value) } ∷ []) ++ [])) (ready_leads size m address read value k r)

ready_bare : (c : Ask) (cs : List Ask) (n : ℕ) (k : Kept) (t : TargetState) (size m address : ℕ) → 0 < size → address % 1024 + size * suc (length cs) ≤ 1024 → AreNeighbours size m address (c ∷ cs) →
    ((known_at k m).large ≡ true) ⊎ (address + size * suc (length cs) ≤ 2 ^ 32) → Ready size m address k → actions_in (issued_from Managed n k t (c ∷ cs)) ≡ drws_in (c ∷ cs)
ready_bare c [] n k t size m address some fits near where_ ready =
    let u = near.0 in
    subst (λ (x : Ask). actions_in (issued_from Managed n k t (x ∷ [])) ≡ drws_in (x ∷ [])) (sym u.is)
    (split size m address u.read u.value n t k [] ∙ ap (λ (l : List Action). l ++ []) (bare size m address u.read u.value n t k ready))
ready_bare c (d ∷ ds) n k t size m address some fits near where_ ready =
    let u = near.0 in
    let unit_ : AccessUnit = unit_here size m address u.read u.value in
    let e : (issue_of_plan t k unit_).kept ≡ kept_after_plan k unit_ = ap (λ (i : Issue). i.kept) (ready_plan size m address u.read u.value t k ready) in
    let inside : address % 1024 + size < 1024 = (let x = mul-suc size (suc (length ds)) in let y = mul-suc size (length ds) in omega (arith, x, y)) in
    let more : (address + size) % 1024 + size * suc (length ds) ≤ 1024 = (let x = mul-suc size (suc (length ds)) in omega (arith, x)) in
    let next = made_ready size m address u.read u.value k ready.table some inside (next_where (known_at k m).large address size (length ds) where_ some) in
    let large : (known_at (kept_after_plan k unit_) m).large ≡ (known_at k m).large = made_large size m address u.read u.value k ready.table in
    let rest = rest_where (known_at k m).large address size (suc (length ds)) where_ in
    let g = ready_bare d ds (n + 1) (issue_of_plan t k unit_).kept (after t (actions_of (steps_at Managed t k (here_asked size m address u.read u.value)))) size m (address + size) some more near.1
    (subst (λ (x : Kept). ((known_at x m).large ≡ true) ⊎ ((address + size) + size * suc (length ds) ≤ 2 ^ 32)) (sym e)
    (subst (λ (l : Bool). (l ≡ true) ⊎ ((address + size) + size * suc (length ds) ≤ 2 ^ 32)) (sym large) rest))
    (subst (Ready size m (address + size)) (sym e) next) in
    subst (λ (x : Ask). actions_in (issued_from Managed n k t (x ∷ d ∷ ds)) ≡ drws_in (x ∷ d ∷ ds)) (sym u.is)
    (split size m address u.read u.value n t k (d ∷ ds) ∙ (λ j. bare size m address u.read u.value n t k ready j ++ g j))

pub neighbours_bare : NeighboursAreBare
neighbours_bare n k t size m address c [] table is lt fits near where_ = actions_in_append (entries_at Managed n t k c) []
neighbours_bare n k t size m address c (d ∷ ds) table is lt fits near where_ =
    let u = near.0 in
    let some : 0 < size = some_size size is in
    let unit_ : AccessUnit = unit_here size m address u.read u.value in
    let f = first_unit size m address u.read u.value n t k (omega arith) (start_narrow (known_at k m).large address where_) in
    let made_ = f.made in
    let from : Kept = made_.from in
    let below : m < length from.ports = (let x = made_.table in omega arith) in
    let inside : address % 1024 + size < 1024 = (let x = mul-suc size (suc (length ds)) in let y = mul-suc size (length ds) in omega (arith, x, y)) in
    let more : (address + size) % 1024 + size * suc (length ds) ≤ 1024 = (let x = mul-suc size (suc (length ds)) in omega (arith, x)) in
    let stored : ((known_at k m).large ≡ true) ⊎ (address + size * suc (suc (length ds)) ≤ 2 ^ 32) = start_where (known_at k m).large address size (suc (suc (length ds))) where_ fits in
    let next = made_ready size m address u.read u.value from below some inside
    (subst (λ (l : Bool). (l ≡ true) ⊎ (address + size < 2 ^ 32)) (sym made_.large) (next_where (known_at k m).large address size (length ds) stored some)) in
    let large : (known_at (kept_after_plan from unit_) m).large ≡ (known_at k m).large = made_large size m address u.read u.value from below ∙ made_.large in
    let g = ready_bare d ds (n + 1) (issue_of_plan t k unit_).kept (after t (actions_of (steps_at Managed t k (here_asked size m address u.read u.value)))) size m (address + size) some more near.1
    (subst (λ (x : Kept). ((known_at x m).large ≡ true) ⊎ ((address + size) + size * suc (length ds) ≤ 2 ^ 32)) (sym made_.is)
    (subst (λ (l : Bool). (l ≡ true) ⊎ ((address + size) + size * suc (length ds) ≤ 2 ^ 32)) (sym large) (rest_where (known_at k m).large address size (suc (length ds)) stored)))
    (subst (Ready size m (address + size)) (sym made_.is) next) in
    subst (λ (x : Ask). actions_in (issued_from Managed n k t (x ∷ d ∷ ds)) ≡ actions_in (entries_at Managed n t k x) ++ drws_in (d ∷ ds)) (sym u.is)
    (split size m address u.read u.value n t k (d ∷ ds) ∙ ap (λ (l : List Action). actions_in (entries_at Managed n t k (here_asked size m address u.read u.value)) ++ l) g)
