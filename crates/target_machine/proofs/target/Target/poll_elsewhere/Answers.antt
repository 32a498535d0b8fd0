use Rattle.std.proofs.Common.{ap, sym, ◌∙◌, ℕ, ◌<◌, arith}
use Rattle.target_machine.specs.Plain.{poll_result}
use Rattle.target_machine.specs.State.{TargetState}
use Rattle.target_machine.proofs.PollLemmas.{elsewhere_all, elsewhere_fault, elsewhere_match, polled_none}
use Rattle.target_machine.proofs.target.Target.poll_elsewhere.Goals as goal

pub returns-then-turns-eq0 : goal.returns-then-turns-eq0
returns-then-turns-eq0 c =
    sym (ap (λ (n : ℕ). poll_result n c.args.mask c.args.requested c.args.self.now) c.if-turns-eq0.true ∙ polled_none c.args.mask c.args.requested c.args.self.now)

pub returns-then-self : goal.returns-then-self
returns-then-self c =
    let some : 0 < c.args.turns = omega arith in
    sym (elsewhere_fault c.args.self.now c.requires c.args.mask c.args.requested c.args.turns some (ap (λ (t : TargetState). t.sticky) (sym c.self.view_is) ∙ c.if-self.true))

pub returns-then-requested-eq0 : goal.returns-then-requested-eq0
returns-then-requested-eq0 c =
    let some : 0 < c.args.turns = omega arith in
    sym (elsewhere_match c.args.self.now c.requires c.args.mask c.args.requested c.args.turns some (ap (λ (t : TargetState). t.sticky) (sym c.self.view_is) ∙ c.if-self.false) (sym c.if-requested-eq0.true))

pub returns-else-requested-eq0 : goal.returns-else-requested-eq0
returns-else-requested-eq0 c =
    sym (elsewhere_all c.args.self.now c.requires c.args.mask c.args.requested c.args.turns (ap (λ (t : TargetState). t.sticky) (sym c.self.view_is) ∙ c.if-self.false) (λ h. c.if-requested-eq0.false (sym h)))
