use Rattle.std.proofs.Common.{sym, ◌∙◌}
use Rattle.flight_forms.proofs.SizeLemmas.{part_holds}
use Rattle.flight_forms.proofs.size.FlightSize.room.Goals as goal

pub returns-then-has_part_more : goal.returns-then-has_part_more
returns-then-has_part_more c accesses few h = sym (part_holds accesses c.args.self c.args.next few h (sym c.has_part_more.ensures ∙ c.if-has_part_more.true))
