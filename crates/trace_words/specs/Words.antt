-- The words of a trace.
use Rattle.std.specs.Prelude.{ℕ, Bool, List}
use Rattle.trace_events.specs.Events.{events_in_trace}
use Rattle.trace_words.specs.Telling.{first_telling, told_events}

-- what is written for these bytes
abbrev pub words_of_trace : List ℕ → List ℕ
words_of_trace bytes = (told_events first_telling (events_in_trace bytes)).text

-- whether each packet and reply of them is one
abbrev pub are_good : List ℕ → Bool
are_good bytes = (told_events first_telling (events_in_trace bytes)).telling.good
