use Rattle.std.proofs.Common.{◌≡◌, ◌∙◌, ℕ, List, true, false, Some, sym, ap}
use Rattle.std.specs.FinMap as map
use Rattle.std.specs.Ordering.{nat_cmp}
use Rattle.target_machine.specs.Aim.{aimed_target}
use Rattle.target_machine.specs.Attempt.{acknowledges, done_attempt}
use Rattle.target_machine.specs.State.{TargetState}
use Rattle.target_machine.specs.declared.ap.ApState.{ApState}
use Rattle.target_machine.proofs.AimLemmas.{aimed}
use Rattle.target_machine.proofs.target.Target.aim.Goals as goal

pub returns-clause-made : goal.returns-clause-made
returns-clause-made c =
    let clear : c.args.self.now.sticky ≡ false = cc in
    let power : acknowledges c.args.self.now 0x1000_0000 ≡ true = cc in
    let number : c.from-number.result ≡ c.args.ap = cc in
    let there : map.get c.args.self.now.aps c.from-number.result ≡ Some c.in-Some.port =
    ap (λ (t : TargetState). map.get t.aps c.from-number.result) (sym c.self.view_is)
    ∙ ap (λ (ports : List (ℕ × ApState)). map.get (map.from_entries {R = nat_cmp} ports) c.from-number.result) (sym c.deref.ensures.value)
    ∙ sym c.ap_at.ensures ∙ c.in-Some.is in
    λ yes. aimed c.args.ap c.ranges.ap.fits c.args.self.now c.in-Some.port c.args.size c.args.address clear power (ap (map.get c.args.self.now.aps) (sym number) ∙ there)
    ∙ ap (λ (n : ℕ). done_attempt (aimed_target c.args.self.now n c.in-Some.port c.args.size c.args.address)) (sym number)
    ∙ ap done_attempt (sym c.aim_port.ensures)
