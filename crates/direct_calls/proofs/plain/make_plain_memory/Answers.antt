use Rattle.std.proofs.Common.{sym, ap, ◌∙◌}
use Rattle.target_calls.proofs.CallRanges.{lanes_fit}
use Rattle.target_machine.specs.Plain.{contains, needs_cfg}
use Rattle.direct_calls.proofs.AtOnceLemmas.{near_made}
use Rattle.direct_calls.proofs.plain.make_plain_memory.Goals as goal

pub transfer-outcome-requires : goal.transfer-outcome-requires
transfer-outcome-requires c = λ write. lanes_fit c.args.size c.args.address c.args.value c.requires.sized c.requires.aligned (c.requires.fits write)

pub returns-clause-made : goal.returns-clause-made
returns-clause-made c =
    near_made c.args.target.now c.args.large.now.items c.args.size c.args.read c.args.ap c.args.address c.args.value _ _ _ _
    (sym c.if-reads_cfg.false ∙ c.reads_cfg.ensures ∙ ap (λ l. needs_cfg l c.args.ap c.args.address) c.deref.ensures.value)
    (c.is_among-is_large.ensures ∙ ap (λ l. contains l c.args.ap) c.deref-2.ensures.value) c.transfer-outcome.ensures c.memory_end.ensures
