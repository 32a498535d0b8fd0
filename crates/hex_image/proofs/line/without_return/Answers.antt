use Rattle.hex_image.proofs.RecordLemmas.{returned_here, returned_none}
use Rattle.hex_image.proofs.line.without_return.Goals.{else-length-gt0-via-then-length-gt0+else-line-length-eq13, else-length-gt0-via-else-length-gt0}
use Rattle.std.proofs.Common.{arith}
use Rattle.hex_image.proofs.line.without_return.Goals as goal

pub returns-then-line-length-eq13 : goal.returns-then-line-length-eq13
returns-then-line-length-eq13 c = returned_here c.args.line.now c.if-length-gt0.true c.if-line-length-eq13.true

pub returns-else-length-gt0 : goal.returns-else-length-gt0
returns-else-length-gt0 c = returned_none c.args.line.now
    (λ some. elim c.else-length-gt0.branch [
      | else-length-gt0-via-then-length-gt0+else-line-length-eq13 w ↦ w.if-line-length-eq13.false
      | else-length-gt0-via-else-length-gt0 w ↦ absurd (let none = w.if-length-gt0.false in omega (arith, none, some))
    ])
