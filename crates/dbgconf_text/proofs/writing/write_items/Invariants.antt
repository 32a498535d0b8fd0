use Rattle.std.proofs.Common.{◌≡◌, ◌++◌, drop}
use Rattle.std.specs.Prelude.{string_bytes}
use Rattle.dbgconf_text.specs.Written.{conf_bytes}
use Rattle.dbgconf_text.proofs.writing.write_items.Given as goal

abbrev pub invariant-loop-item : goal.invariant-loop-item
invariant-loop-item l = string_bytes l.out ++ conf_bytes (drop l.item-index l.conf) ≡ conf_bytes l.conf
