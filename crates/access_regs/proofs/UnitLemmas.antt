-- The unit of each entry is one of the calls.
use Rattle.std.proofs.Common.{◌≡◌, ◌⊎◌, inl, inr, ◌∙◌, ℕ, suc, ◌+◌, ◌≤◌, Bool, true, false, cond, not, ◌&&◌, List, [], ◌∷◌, ◌++◌, length, refl, ap, subst, arith}
use Rattle.access_regs.proofs.Seams.{InFirst, InSecond, seam_in}
use Rattle.access_regs.proofs.StopLists.{finish_settles, numbered_unit}
use Rattle.access_regs.specs.Entries.{UnitsInRange}
use Rattle.access_regs.specs.Journal.{Issue, Step, actions_of, after_settling, before, by_cfg, by_cfg_read, by_csw, by_plan, entries_at, finish_of, alone_at, done_alone, gives, is_alone, is_early, issue, issue_of, issued_from, last_action, making, numbered_entries, parts_of, issue_of_plan, port_of, steps_at, steps_of}
use Rattle.access_regs.specs.Kept.{Kept, nothing_kept}
use Rattle.access_regs.specs.Plan.{cfg_plan, first_plan, leads, kept_after_csw, learned_cfg, needs_cfg, needs_csw}
use Rattle.target_calls.specs.Asks.{is_forgiving}
use Rattle.target_calls.specs.Journal.{Entry, settles}
use Rattle.target_calls.specs.declared.calls.Ask.{Ask}
use Rattle.target_calls.specs.declared.journal.Part.TheVariants.{Ends, Leads}
use Rattle.dap_base.specs.Bits.{has_bit}
use Rattle.target_machine.specs.Lists.{after}
use Rattle.target_machine.specs.State.{TargetState}
use Rattle.target_machine.specs.Plain.{Action, may_forgive}
use Rattle.target_machine.specs.declared.access.RegAccess.{RegAccess}
use Rattle.target_machine.specs.declared.unit.Call.{Call}
use Rattle.target_machine.specs.declared.unit.Call.TheVariants.{Access, Probe}
use Rattle.target_machine.specs.declared.unit.Unit.{Unit as AccessUnit}
use Rattle.access_regs.specs.declared.planner.Planner.{Planner}
use Rattle.access_regs.proofs.Forgiving.{never_settles}

NoneSettles : List Step → Type 0
NoneSettles [] = Unit {0}
NoneSettles (s ∷ steps) = (settles s.part ≡ false) × NoneSettles steps

none_both : (xs ys : List Step) → NoneSettles xs → NoneSettles ys → NoneSettles (xs ++ ys)
unfolding NoneSettles
none_both [] ys h k = k
none_both (x ∷ xs) ys h k = (h.0, none_both xs ys h.1 k)

none_leads : (xs : List RegAccess) → NoneSettles (steps_of Leads xs)
unfolding NoneSettles
none_leads [] = tt
none_leads (x ∷ xs) = (refl, none_leads xs)

none_either : (b : Bool) (x y : Issue) → NoneSettles x.steps → NoneSettles y.steps → NoneSettles (cond b x y).steps
none_either true x y h k = h
none_either false x y h k = k

none_plan : (k : Kept) (asked : AccessUnit) → NoneSettles (by_plan k asked).steps
unfolding NoneSettles
none_plan k asked = none_both (steps_of Leads (leads k asked)) (record { part = Ends; action = last_action asked } ∷ []) (none_leads (leads k asked)) (refl, tt)

none_csw : (t : TargetState) (k : Kept) (asked : AccessUnit) → NoneSettles (by_csw t k asked).steps
none_csw t k asked =
    let l : Kept = kept_after_csw k (port_of asked) (gives t (first_plan k (port_of asked))) in
    none_either (needs_csw k asked) (before (steps_of Leads (first_plan k (port_of asked))) (by_plan l asked)) (by_plan k asked)
    (none_both (steps_of Leads (first_plan k (port_of asked))) (by_plan l asked).steps (none_leads (first_plan k (port_of asked))) (none_plan l asked)) (none_plan k asked)

none_read : (t : TargetState) (k : Kept) (asked : AccessUnit) (cfg : ℕ) → NoneSettles (by_cfg_read t k asked cfg).steps
unfolding NoneSettles
none_read t k asked cfg = none_either (has_bit cfg 2) (by_csw t (learned_cfg k (port_of asked) cfg) asked) (record { steps = []; kept = learned_cfg k (port_of asked) cfg }) (none_csw t (learned_cfg k (port_of asked) cfg) asked) tt

none_cfg : (t : TargetState) (k : Kept) (asked : AccessUnit) → NoneSettles (by_cfg t k asked).steps
none_cfg t k asked =
    let r : Issue = by_cfg_read (after t (making (cfg_plan k (port_of asked)))) k asked (gives t (cfg_plan k (port_of asked))) in
    none_either (needs_cfg k asked) (before (steps_of Leads (cfg_plan k (port_of asked))) r) (by_csw t k asked)
    (none_both (steps_of Leads (cfg_plan k (port_of asked))) r.steps (none_leads (cfg_plan k (port_of asked))) (none_read (after t (making (cfg_plan k (port_of asked)))) k asked (gives t (cfg_plan k (port_of asked)))))
    (none_csw t k asked)

part_either : (b : Bool) → settles (cond b Ends Leads) ≡ false
part_either true = refl
part_either false = refl

none_map : (early : Bool) (asked : AccessUnit) (xs : List Action) → NoneSettles (parts_of early asked xs)
unfolding NoneSettles
none_map early asked [] = tt
none_map early asked (x ∷ xs) = (never_settles early asked x, none_map early asked xs)

-- before anything is unsettled
none_first : (p : Planner) (t : TargetState) (c : Ask) → NoneSettles (issue_of p t nothing_kept c).steps
unfolding NoneSettles
none_first p t c = by_call c.forgive c.call
  where
    by_mark : (b f : Bool) (asked : AccessUnit) → NoneSettles (cond b (after_settling t nothing_kept (alone_at f asked)) (issue_of_plan t nothing_kept asked)).steps
    by_mark true f asked = none_map (is_early asked (done_alone t nothing_kept f asked).actions) asked (done_alone t nothing_kept f asked).actions
    by_mark false f asked = none_cfg t nothing_kept asked

    by_call : (f : Bool) (call : Call) → NoneSettles (issue p t nothing_kept f call).steps
    by_call f (Access asked) = by_mark (is_alone p f && may_forgive (Access asked)) f asked
    by_call f (Probe asked) = (refl, tt)

none_at : (n : ℕ) (b : Bool) (steps : List Step) (front : List Entry) (e : Entry) (more : List Entry) → NoneSettles steps → numbered_entries n b steps ≡ front ++ e ∷ more → settles e.part ≡ false
unfolding NoneSettles
none_at n b [] [] e more h is = absurd (cc)
none_at n b [] (x ∷ front) e more h is = absurd (cc)
none_at n b (s ∷ steps) [] e more h is =
    let head : record { unit = cond (settles s.part) n (n + 1); part = s.part; forgiving = b && not (settles s.part); action = s.action } ≡ e = cc in
    subst (λ (x : Entry). settles x.part ≡ false) head h.0
none_at n b (s ∷ steps) (x ∷ front) e more h is = none_at n b steps front e more h.1 (cc)

unit_by : (b : Bool) (n u : ℕ) → u ≡ cond b n (n + 1) → (n ≤ u) × (u ≤ n + 1)
unit_by true n u e = (omega (arith, e), omega (arith, e))
unit_by false n u e = (omega (arith, e), omega (arith, e))

pub list_units : (p : Planner) (n : ℕ) (k : Kept) (t : TargetState) (asks : List Ask) (front : List Entry) (e : Entry) (more : List Entry) → issued_from p n k t asks ≡ front ++ e ∷ more → (n ≤ e.unit) × (e.unit ≤ n + length asks)
list_units p n k t [] [] e more is = absurd (cc)
list_units p n k t [] (x ∷ front) e more is = absurd (cc)
list_units p n k t (ask ∷ asks) front e more is =
    by_seam (seam_in (entries_at p n t k ask) (issued_from p (n + 1) (finish_of p t k ask).kept (after t (actions_of (steps_at p t k ask))) asks) front e more is)
    (λ back h. (let r = list_units p (n + 1) (finish_of p t k ask).kept (after t (actions_of (steps_at p t k ask))) asks back e more h in (omega (arith, r.0), omega (arith, r.1))))
  where
    by_half : (more' : List Entry) → InFirst (numbered_entries n (is_forgiving ask) (issue_of p t k ask).steps) front e ⊎ InSecond (numbered_entries n (is_forgiving ask) (issue_of p t k ask).steps) (numbered_entries (n + 1) false (finish_of p t k ask).steps) front e more' → (n ≤ e.unit) × (e.unit ≤ n + suc (length asks))
    by_half more' (inl i) = (let u = unit_by (settles e.part) n e.unit (numbered_unit n (is_forgiving ask) (issue_of p t k ask).steps front e i.more i.is) in (u.0, omega (arith, u.1)))
    by_half more' (inr i) = (let s = finish_settles (n + 1) ask.settled (issue_of p t k ask).kept i.back e more' i.is in let u = numbered_unit (n + 1) false (finish_of p t k ask).steps i.back e more' i.is ∙ ap (λ (b : Bool). cond b (n + 1) (n + 1 + 1)) s in (omega (arith, u), omega (arith, u)))

    by_seam : InFirst (entries_at p n t k ask) front e ⊎ InSecond (entries_at p n t k ask) (issued_from p (n + 1) (finish_of p t k ask).kept (after t (actions_of (steps_at p t k ask))) asks) front e more
        → ((back : List Entry) → issued_from p (n + 1) (finish_of p t k ask).kept (after t (actions_of (steps_at p t k ask))) asks ≡ back ++ e ∷ more → (n ≤ e.unit) × (e.unit ≤ n + suc (length asks))) → (n ≤ e.unit) × (e.unit ≤ n + suc (length asks))
    by_seam (inl i) again = by_half i.more (seam_in (numbered_entries n (is_forgiving ask) (issue_of p t k ask).steps) (numbered_entries (n + 1) false (finish_of p t k ask).steps) front e i.more i.is)
    by_seam (inr i) again = again i.back i.is

pub units_in_range : UnitsInRange
units_in_range p t [] [] e more is = absurd (cc)
units_in_range p t [] (x ∷ front) e more is = absurd (cc)
units_in_range p t (ask ∷ asks) front e more is =
    let u = list_units p 0 nothing_kept t (ask ∷ asks) front e more is in
    (by_seam (seam_in (entries_at p 0 t nothing_kept ask) rest front e more is), omega (arith, u.1))
  where
    rest : List Entry
    rest = issued_from p 1 (finish_of p t nothing_kept ask).kept (after t (actions_of (steps_at p t nothing_kept ask))) asks

    by_half : (more' : List Entry) → InFirst (numbered_entries 0 (is_forgiving ask) (issue_of p t nothing_kept ask).steps) front e ⊎ InSecond (numbered_entries 0 (is_forgiving ask) (issue_of p t nothing_kept ask).steps) (numbered_entries 1 false (finish_of p t nothing_kept ask).steps) front e more' → 1 ≤ e.unit
    by_half more' (inl i) =
        let s = none_at 0 (is_forgiving ask) (issue_of p t nothing_kept ask).steps front e i.more (none_first p t ask) i.is in
        let u = numbered_unit 0 (is_forgiving ask) (issue_of p t nothing_kept ask).steps front e i.more i.is ∙ ap (λ (b : Bool). cond b 0 (0 + 1)) s in
        omega (arith, u)
    by_half more' (inr i) = (unit_by (settles e.part) 1 e.unit (numbered_unit 1 false (finish_of p t nothing_kept ask).steps i.back e more' i.is)).0

    by_seam : InFirst (entries_at p 0 t nothing_kept ask) front e ⊎ InSecond (entries_at p 0 t nothing_kept ask) (issued_from p 1 (finish_of p t nothing_kept ask).kept (after t (actions_of (steps_at p t nothing_kept ask))) asks) front e more → 1 ≤ e.unit
    by_seam (inl i) = by_half i.more (seam_in (numbered_entries 0 (is_forgiving ask) (issue_of p t nothing_kept ask).steps) (numbered_entries 1 false (finish_of p t nothing_kept ask).steps) front e i.more i.is)
    by_seam (inr i) = (list_units p 1 (finish_of p t nothing_kept ask).kept (after t (actions_of (steps_at p t nothing_kept ask))) asks i.back e more i.is).0
