use Rattle.std.proofs.Common.{◌≡◌, ◌++◌}
use Rattle.image_load.proofs.piece.bytes_of.Given as goal

abbrev pub invariant-loop-address : goal.invariant-loop-address
invariant-loop-address l = l.bytes.items ++ l.address-iterator ≡ l.image
