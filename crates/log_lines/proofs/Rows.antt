-- The text of events, worked out by hand: the definitions compute.
use Rattle.std.proofs.Common.{refl}
use Rattle.std.specs.Fmt.{digits}
use Rattle.hex.specs.Hex.{encode_with}
use Rattle.log_lines.specs.CodeText.{expr_text, stmt_text}
use Rattle.log_lines.specs.LogText.{margin}
use Rattle.log_lines.specs.Rows.{Sample}

pub sample_is : Sample
unfolding digits encode_with expr_text stmt_text margin
sample_is = refl
