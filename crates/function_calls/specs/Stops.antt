-- How a run ends at an answer of its access.
use Rattle.access_calls.specs.declared.stop.Stop.{Stop}
use Rattle.access_calls.specs.declared.stop.Stop.TheVariants as stop
use Rattle.function_calls.specs.declared.end.End.{End}
use Rattle.function_calls.specs.declared.end.End.TheVariants as end

-- the access stopped, or memory was refused
abbrev pub end_at_stop : Stop → End
end_at_stop stop.OutOfMemory = end.OutOfMemory
end_at_stop other = end.Stopped
