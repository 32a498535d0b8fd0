-- What follows a sequence: calls, each of which may depend on the results of those before it, lines, and an end.
use Rattle.std.specs.Prelude.{ℕ, if◌then◌else◌, List, [], ◌∷◌, ◌++◌, Option, Some, None}
use Rattle.target_calls.specs.World.{World, done_now, end_result, next_world, stops_here}
use Rattle.target_calls.specs.declared.calls.Ask.{Ask}

-- A sequel ends; or it asks a call, and goes on by its result; or it writes a line, and goes on.
pub data Sequel (X : Type 0) : Type 0 where
  Ends : X → Sequel X
  Asks : Ask → (ℕ → Sequel X) → Sequel X
  Writes : List ℕ → Sequel X → Sequel X

-- one sequel, and then another by the end of the first
abbrev pub followed_by : {X Y : Type 0} → Sequel X → (X → Sequel Y) → Sequel Y
followed_by (Ends x) next = next x
followed_by (Asks ask on) next = Asks ask (λ n. followed_by (on n) next)
followed_by (Writes line on) next = Writes line (followed_by on next)

-- a call, and its result
abbrev pub asks : Ask → Sequel ℕ
asks ask = Asks ask (λ n. Ends n)

-- ---- what it comes to

-- The calls that are made, up to the one at which they stop; what is written before; and the end, where they do not stop.
pub record Comes (X : Type 0) : Type 0 where
  pub calls : List Ask
  pub written : List ℕ
  pub end : Option X

-- a call before all else
abbrev pub call_first : {X : Type 0} → Ask → Comes X → Comes X
call_first ask c = record { calls = ask ∷ c.calls; written = c.written; end = c.end }

-- a line before all else
abbrev pub line_first : {X : Type 0} → List ℕ → Comes X → Comes X
line_first line c = record { calls = c.calls; written = line ++ c.written; end = c.end }

-- the calls stop at this one
abbrev pub stopped_at : {X : Type 0} → Ask → Comes X
stopped_at ask = record { calls = ask ∷ []; written = []; end = None }

-- What a sequel comes to in a world, each of its calls made alone and at once.
abbrev pub comes : {X : Type 0} → World → Sequel X → Comes X
comes w (Ends x) = record { calls = []; written = []; end = Some x }
comes w (Asks ask on) = if stops_here w ask then stopped_at ask else call_first ask (comes (next_world w ask) (on (end_result (done_now w ask).end)))
comes w (Writes line on) = line_first line (comes w on)

-- ---- what it comes to where each call has the result that a function gives of it

-- what is written, and the end
abbrev pub written_and_end : {X : Type 0} → (Ask → ℕ) → Sequel X → List ℕ × X
written_and_end f (Ends x) = ([], x)
written_and_end f (Asks ask on) = written_and_end f (on (f ask))
written_and_end f (Writes line on) = (line ++ (written_and_end f on).0, (written_and_end f on).1)
