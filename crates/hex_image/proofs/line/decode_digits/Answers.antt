use Rattle.std.proofs.Common.{inl, inr}
use Rattle.hex_image.proofs.RecordLemmas.{none_long}
use Rattle.hex_image.proofs.line.decode_digits.Goals.{then-digits-lt10-via-then-digits-lt10, then-digits-lt10-via-else-digits-lt10+then-digits-gt520}
use Rattle.hex_image.proofs.line.decode_digits.Goals as goal

pub returns-then-digits-lt10 : goal.returns-then-digits-lt10
returns-then-digits-lt10 c = none_long c.args.digits.now
    (elim c.then-digits-lt10.branch [
      | then-digits-lt10-via-then-digits-lt10 w ↦ inl w.if-digits-lt10.true
      | then-digits-lt10-via-else-digits-lt10+then-digits-gt520 w ↦ inr w.if-digits-gt520.true
    ])
