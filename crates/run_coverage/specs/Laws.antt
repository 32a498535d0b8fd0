-- Laws of coverages.
use Rattle.std.specs.Prelude.{◌≡◌, ℕ, Bool, true, List, [], ◌∷◌, ◌++◌, Option, None}
use Rattle.target_calls.specs.World.{World}
use Rattle.sequence_rules.specs.Runs.{Program}
use Rattle.run_events.specs.Events.{Event}
use Rattle.run_events.specs.OfRuns.{events_in, each_turn}
use Rattle.run_coverage.specs.declared.coverage.Coverage.{Coverage}
use Rattle.run_coverage.specs.Covered.{IsOf, event_words, happens}

-- an event at which nothing happens that counts changes nothing
abbrev pub OthersDoNotCount : Type 0
OthersDoNotCount = (coverage : Coverage) (events : List Event) (e : Event) → event_words e ≡ None → IsOf coverage events → IsOf coverage (events ++ e ∷ [])

-- what the shown events of a run cover, all its events cover
abbrev pub ShownAreCovered : Type 0
ShownAreCovered = (shows : ℕ → Bool) (w : World) (p : Program) (written : Option (List ℕ)) (words : List ℕ)
    → happens (events_in shows w p written) words ≡ true → happens (events_in each_turn w p written) words ≡ true
