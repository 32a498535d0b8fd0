-- Sets that were checked: what private contracts cite.
use Rattle.std.specs.Prelude.{map}
use Rattle.std.specs.List.{IsDistinct}
use Rattle.std.specs.Str.{bytes_eq}
use Rattle.set_faults.specs.Answers.{AreSetFaults}
use Rattle.pack_faults.specs.declared.known.KnownSet.{KnownSet}

-- the faults are all faults of the set, whose names are distinct
pub record IsKnown (k : KnownSet) : Type 0 where
  pub faults : AreSetFaults k.set k.found
  pub distinct : IsDistinct bytes_eq (map (λ e. e.name) k.set.entries)
