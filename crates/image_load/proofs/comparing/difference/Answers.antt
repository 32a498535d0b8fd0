use Rattle.std.proofs.Common.{◌∙◌, sym, arith}
use Rattle.image_load.proofs.DifferenceLemmas.{next_byte}
use Rattle.image_load.proofs.comparing.difference.Goals as goal

pub loop-i-preserved : goal.loop-i-preserved
loop-i-preserved c =
    let inv = c.loop-i.invariant in
    let bit = inv.0 in (
      omega (arith, bit),
      inv.1 ∙ next_byte c.args.piece.size c.loop-i.i c.loop-i.bit c.args.piece.address c.args.piece.value c.args.found c.loop-i-test.true (sym c.byte_at-wanted.ensures ∙ c.if-wanted-byte.false ∙ c.byte_at-byte.ensures),
    )
