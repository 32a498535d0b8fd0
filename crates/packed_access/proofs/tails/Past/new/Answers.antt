use Rattle.std.proofs.Common.{refl}
use Rattle.packed_access.proofs.tails.Past.new.Goals as goal

pub returns : goal.returns
returns g c = refl
