use Rattle.target_machine.proofs.StartRanges.{pins_in_range, line_in_range, clock_in_range, delay_in_range}
use Rattle.target_machine.proofs.laws.ranges.lines_stay_in_range.Goals as goal

pub returns-clause-pins : goal.returns-clause-pins
returns-clause-pins c t output select h = pins_in_range t h output select

pub returns-clause-line : goal.returns-clause-line
returns-clause-line c t count bits h few = line_in_range t h count bits few

pub returns-clause-clock : goal.returns-clause-clock
returns-clause-clock c t hertz h v = clock_in_range t h hertz v

pub returns-clause-delay : goal.returns-clause-delay
returns-clause-delay c t micros h = delay_in_range t h micros
