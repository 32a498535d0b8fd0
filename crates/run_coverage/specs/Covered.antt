-- What events cover.
use Rattle.std.specs.Prelude.{◌≡◌, ℕ, Bool, false, List, [], ◌∷◌, Option, Some, None, Result, OnOk, ◌++◌, is_some, if◌then◌else◌}
use Rattle.std.specs.List.{list_any}
use Rattle.std.specs.Str.{bytes_eq}
use Rattle.dap_base.specs.declared.text.OutOfMemory.{OutOfMemory}
use Rattle.run_events.specs.Events.{Event, Begins, Chooses, Leaves, TimesOut, Matches}
use Rattle.log_lines.specs.Places.{spot_words}
use Rattle.run_coverage.specs.declared.coverage.Coverage.{Coverage}
use Rattle.run_coverage.specs.Items.{ran_words, branch_words, left_words, timed_out_words}

-- what happens at an event, in words. The debug variables have no step, and do not count.
abbrev pub event_words : Event → Option (List ℕ)
event_words (Begins spot st) = if is_some spot.sequence then Some (ran_words spot) else None
event_words (Chooses spot n) = Some (branch_words n ++ spot_words spot)
event_words (Leaves spot n) = Some (left_words spot)
event_words (Matches spot) = Some (left_words spot)
event_words (TimesOut spot n) = Some (timed_out_words spot)
event_words other = None

-- an event, if it has words, has these
abbrev pub has_item_words : List ℕ → Option (List ℕ) → Bool
has_item_words words None = false
has_item_words words (Some said) = bytes_eq words said

-- at one of the events this happens
abbrev pub happens : List Event → List ℕ → Bool
happens events words = list_any (λ e. has_item_words words (event_words e)) events

-- a coverage has these words
abbrev pub has : Coverage → List ℕ → Bool
has coverage words = list_any (λ k. bytes_eq words k.items) coverage.words.keys

-- the coverage is that of these events
abbrev pub IsOf : Coverage → List Event → Type 0
IsOf coverage events = (words : List ℕ) → has coverage words ≡ happens events words

-- the coverage of some events becomes that of these and one more, unless memory is refused
abbrev pub Covers : Coverage → Coverage → Result (Unit {0}) OutOfMemory → Event → Type 0
Covers old new result e = (events : List Event) → IsOf old events → OnOk result (IsOf new (events ++ e ∷ []))
