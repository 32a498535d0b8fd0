use Rattle.std.proofs.Common.{◌≡◌, drop}
use Rattle.dbgconf_text.specs.Splicing.{first_left}
use Rattle.dbgconf_text.specs.Values.{value_in}
use Rattle.dbgconf_text.proofs.replacing.find_left.Given as goal

abbrev pub invariant-loop-item : goal.invariant-loop-item
invariant-loop-item l = first_left (value_in l.left) (drop l.item-index l.conf) ≡ first_left (value_in l.left) l.conf
