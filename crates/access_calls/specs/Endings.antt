-- How a run ends that its access stopped.
use Rattle.access_calls.specs.declared.ended.Ending.{Ending}
use Rattle.access_calls.specs.declared.ended.Ending.TheVariants as e
use Rattle.access_calls.specs.declared.stop.Stop.{Stop}
use Rattle.access_calls.specs.declared.stop.Stop.TheVariants as stop

-- the ending of a run whose access stopped so, or did not begin
abbrev pub ending_of : Stop → Ending
ending_of (stop.Cut r) = e.Cut r
ending_of (stop.BenchFault issued confirmed) = e.BenchFault issued confirmed
ending_of stop.ReplyBad = e.ReplyBad
ending_of stop.OutOfMemory = e.OutOfMemory
