-- The meaning itself: each call is made alone and at once, and a value is a number.
use Rattle.std.specs.Prelude.{ℕ, ◌+◌, min, Bool, if◌then◌else◌, List, [], ◌∷◌, ◌++◌, Option, option_map, Result, Ok, Err}
use Rattle.target_machine.specs.Plain.{CallEnd, Answered, Skipped, Faulted, Small}
use Rattle.target_machine.specs.declared.unit.HaltCause.TheVariants.{AddressTooLarge}
use Rattle.target_calls.specs.Asks.{unit_ask, probe_ask}
use Rattle.target_calls.specs.World.{World, is_over, done_now, next_world}
use Rattle.target_calls.specs.declared.calls.Ask.{Ask}
use Rattle.sequence_rules.specs.Machine as machine
use Rattle.sequence_rules.specs.Machine.{Over, Machine}

-- What is kept of a run on a target.
pub record Now : Type 0 where
  -- the target, the APs that are known to have large addresses, and how many further calls are answered
  pub world : World
  -- the calls so far
  pub calls : List Ask
  -- how many of them were skipped; it stops at 2^32 - 1
  pub skipped : ℕ
  -- what was written, where that is known
  pub written : Option (List ℕ)

-- nothing was called yet
abbrev pub now_at : World → Option (List ℕ) → Now
now_at w written = record { world = w; calls = []; skipped = 0; written = written }

-- one more call, after which the world is this
abbrev pub with_call : Ask → World → Now → Now
with_call ask w t = record t { world = w; calls = t.calls ++ ask ∷ [] }

-- one more call was skipped
abbrev pub skipped_more : Now → Now
skipped_more t = record t { skipped = min (t.skipped + 1) 4294967295 }

-- what known bytes are, with a line after them
abbrev pub line_after : List ℕ → List ℕ → List ℕ
line_after line bytes = bytes ++ line

-- one more line was written
abbrev pub with_line : List ℕ → Now → Now
with_line line t = record t { written = option_map (line_after line) t.written }

-- what a call answers by its end: its result; 0 where a fault was forgiven; and else why the run is over
abbrev pub answers : Ask → CallEnd → Now → Result (ℕ × Now) (Over × Now)
answers ask (Answered n) t = Ok (n, t)
answers ask Skipped t = Ok (0, skipped_more t)
answers ask Faulted t = Err (machine.Faulted ask.call, t)
answers ask Small t = Err (machine.Halted AddressTooLarge, t)

-- A call, made alone and at once. One that is not answered changes nothing.
unfoldable pub made_call : Ask → Now → Result (ℕ × Now) (Over × Now)
made_call ask t =
    if is_over t.world.answered then Err (machine.Unanswered, with_call ask t.world t)
    else answers ask (done_now t.world ask).end (with_call ask (next_world t.world ask) t)

-- the machine on which all is done at once
unfoldable pub direct : Bool → Machine ℕ Now
direct watchful = record {
  number = λ n. n;
  used = λ n t. (n, t);
  asked = λ u forgive t. made_call (unit_ask u forgive) t;
  commanded = λ c t. made_call (probe_ask c) t;
  confirmed = λ t. t;
  written = with_line;
  is_watchful = watchful;
}
