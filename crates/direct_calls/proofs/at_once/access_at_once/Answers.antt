use Rattle.std.proofs.Common.{sym, ap, ◌∙◌}
use Rattle.target_machine.specs.Attempt.{Attempt, attempt}
use Rattle.target_machine.specs.declared.access.RegAccess.{RegAccess}
use Rattle.target_machine.specs.declared.unit.Call.TheVariants.{Access}
use Rattle.direct_calls.proofs.AtOnceLemmas.{kept_end, skipped_end}
use Rattle.direct_calls.proofs.at_once.access_at_once.Goals as goal

pub returns-then-is_skipped-clause-made : goal.returns-then-is_skipped-clause-made
returns-then-is_skipped-clause-made c =
    skipped_end c.args.target.now c.args.large.now.items c.args.forgive (Access c.args.unit) _ _ _ _ (sym c.is_skipped.ensures ∙ c.if-is_skipped.true)
    (ap (λ (x : Attempt). x.next) c.attempt.ensures.access ∙ ap (λ (a : RegAccess). (attempt c.make_plain.new.target a).next) c.access_dp.ensures) c.in_ok-made.ensures.made

pub returns-clause-made : goal.returns-clause-made
returns-clause-made c = kept_end c.args.target.now c.args.large.now.items c.args.forgive (Access c.args.unit) _ _ _ (sym c.is_skipped.ensures ∙ c.if-is_skipped.false) c.in_ok-made.ensures.made
