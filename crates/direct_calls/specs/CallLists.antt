-- Calls as a list keeps them.
use Rattle.std.specs.Prelude.{false}
use Rattle.target_calls.specs.Asks.{unit_ask}
use Rattle.target_calls.specs.declared.calls.Ask.{Ask}
use Rattle.target_machine.specs.declared.unit.Unit.TheVariants as unit
use Rattle.direct_calls.specs.declared.list.Noted.{Noted}
use Rattle.direct_calls.specs.declared.list.Noted.TheVariants as noted

-- what was asked
abbrev pub ask_of : Noted → Ask
ask_of (noted.Memory size read ap value address) = unit_ask (unit.Memory size read ap address value) false
ask_of (noted.Other ask) = ask.value
