use Rattle.std.proofs.Common.{sym, ◌∙◌, rules}
use Rattle.target_calls.proofs.CallRanges.{lanes_fit}
use Rattle.direct_calls.proofs.AtOnceLemmas.{wide_made, fault_made, small_made}
use Rattle.direct_calls.proofs.plain.make_wide_memory.Goals as goal

pub transfer-outcome-requires : goal.transfer-outcome-requires
transfer-outcome-requires c = λ write. lanes_fit c.args.size c.args.address c.args.value c.requires.sound.sized c.requires.sound.aligned (c.requires.sound.fits write)

pub returns-in_default-read_cfg-clause-made : goal.returns-in_default-read_cfg-clause-made
returns-in_default-read_cfg-clause-made c =
    fault_made c.args.target.now c.args.large.now.items c.args.size c.args.read c.args.ap c.args.address c.args.value c.requires.wide _ _ _ _ c.read_cfg.ensures.next c.in_default-read_cfg.ensures.large c.in-Ok.ensures.items (Prim.search rules) c.truncate.ensures.items

pub returns-then-is_large-clause-made : goal.returns-then-is_large-clause-made
returns-then-is_large-clause-made c =
    wide_made c.args.target.now c.args.large.now.items c.args.size c.args.read c.args.ap c.args.address c.args.value c.requires.wide _ _ _ _ _ c.read_cfg.ensures.next c.in-Some.ensures.large.0 (sym c.in-Some.ensures.large.1 ∙ c.if-is_large.true)
    c.transfer-outcome.ensures c.memory_end.ensures c.in-Ok.ensures.items

pub returns-clause-made : goal.returns-clause-made
returns-clause-made c =
    small_made c.args.target.now c.args.large.now.items c.args.size c.args.read c.args.ap c.args.address c.args.value c.requires.wide _ _ _ _ c.read_cfg.ensures.next c.in-Some.ensures.large.0 (sym c.in-Some.ensures.large.1 ∙ c.if-is_large.false)
    c.in-Ok.ensures.items (Prim.search rules) c.truncate-2.ensures.items
