use Rattle.std.proofs.Common.{◌≡◌, ℕ, ◌≤◌, List, length, drop}
use Rattle.dbgconf_text.specs.Cuts.{value_of}
use Rattle.dbgconf_text.specs.Replacing.{settings_of}
use Rattle.dbgconf_text.specs.Values.{value_in}
use Rattle.dbgconf_text.proofs.values.NamedValues.of.Given as goal

abbrev pub invariant-loop-index : goal.invariant-loop-index
invariant-loop-index l = (l.index ≤ length l.conf) × ((name : List ℕ) → value_in l.values name ≡ value_of name (settings_of (drop l.index l.conf)))

abbrev pub decreases-loop-index : goal.decreases-loop-index
decreases-loop-index l = l.index
