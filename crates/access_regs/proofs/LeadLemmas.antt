-- What comes before the access that a forgiving unit is for.
use Rattle.std.proofs.Common.{◌≡◌, Bool, true, false, List, [], ◌∷◌, refl, sym, ap, subst, arith}
use Rattle.std.proofs.lemmas.Bool.{both_ways}
use Rattle.access_regs.proofs.Memory.{csw_reads, no_power}
use Rattle.access_regs.proofs.Port.{Selects}
use Rattle.access_regs.proofs.Select.{select_write, selected_is}
use Rattle.access_regs.proofs.Transfer.{plain_part}
use Rattle.access_regs.specs.Entries.{LeadsAreGood, NoneFault, SelectIsGood, before_drw}
use Rattle.access_regs.specs.Journal.{making}
use Rattle.access_regs.specs.Plan.{select_value}
use Rattle.target_machine.specs.Attempt.{Attempt, acknowledges, attempt, done_attempt}
use Rattle.target_machine.specs.Lists.{PassTo}
use Rattle.target_machine.specs.State.{TargetState}
use Rattle.target_machine.specs.Plain.{Makes, action_attempt, select_of, ap_access_of, is_fault}
use Rattle.target_machine.specs.declared.access.RegAccess.{RegAccess}

pass_good : (u v : TargetState) (xs : List RegAccess) → PassTo u (making xs) v → NoneFault u xs
pass_good u v [] h = tt
pass_good u v (x ∷ xs) h = (h.0, pass_good (action_attempt u (Makes x)).next v xs h.1)

pub select_is_good : SelectIsGood
select_is_good t n bank port banked clear = (ap (λ (x : Attempt). is_fault x.outcome) (select_write n bank port banked t clear), tt)

pub leads_are_good : LeadsAreGood
leads_are_good t n csw address large port clear good =
    let s : attempt t (select_of n 0) ≡ done_attempt (record t { select = select_value n 0 }) = select_write n 0 port (omega arith) t clear in
    let at : (attempt t (select_of n 0)).next ≡ record t { select = select_value n 0 } = ap (λ (x : Attempt). x.next) s in
    subst (λ (v : TargetState). NoneFault (attempt v (ap_access_of true 0 0)).next (before_drw csw large address)) (sym at)
    (by_power (record t { select = select_value n 0 }) clear refl (subst (λ (v : TargetState). is_fault (attempt v (ap_access_of true 0 0)).outcome ≡ false) at good) (acknowledges (record t { select = select_value n 0 }) 0x1000_0000) refl)
  where
    by_power : (v : TargetState) → v.sticky ≡ false → v.select ≡ select_value n 0 → is_fault (attempt v (ap_access_of true 0 0)).outcome ≡ false → (b : Bool) → acknowledges v 0x1000_0000 ≡ b → NoneFault (attempt v (ap_access_of true 0 0)).next (before_drw csw large address)
    by_power v clear at good false power = absurd (both_ways (is_fault (attempt v (ap_access_of true 0 0)).outcome) good (ap (λ (x : Attempt). is_fault x.outcome) (no_power v (ap_access_of true 0 0) clear power refl)))
    by_power v clear at good true power =
        let sel : Selects v n = selected_is v n port clear power at in
        let r = csw_reads v n sel in
        let next : (attempt v (ap_access_of true 0 0)).next ≡ record v { rdbuff = r.csw } = ap (λ (x : Attempt). x.next) r.is in
        let here : Selects (record v { rdbuff = r.csw }) n = record { power = sel.power; clear = sel.clear; here = sel.here; bank = sel.bank } in
        let p = plain_part (record v { rdbuff = r.csw }) n csw address large here in
        subst (λ (w : TargetState). NoneFault w (before_drw csw large address)) (sym next) (pass_good (record v { rdbuff = r.csw }) p.next (before_drw csw large address) p.pass)
