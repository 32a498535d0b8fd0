-- What is seen of runs, worked out by hand. They ask nothing of the target, so they hold on each.
use Rattle.std.specs.Prelude.{◌≡◌, ℕ, nat_le, List, [], ◌∷◌, codes, None, Some}
use Rattle.expr_grammar.specs.declared.code.BinaryOp.TheVariants as b
use Rattle.expr_grammar.specs.Tree as t
use Rattle.expr_grammar.specs.Tree.{Tree, StmtTree}
use Rattle.sequence_trees.specs.Trees as c
use Rattle.sequence_trees.specs.declared.spot.Part.{Part}
use Rattle.sequence_trees.specs.declared.spot.Part.TheVariants as part
use Rattle.sequence_trees.specs.declared.spot.Spot.{Spot}
use Rattle.target_calls.specs.World.{World}
use Rattle.sequence_rules.specs.Rows.{here, v, arg, text, call, assign, declare, only, sequence, program}
use Rattle.sequence_rules.specs.Runs.{Program}
use Rattle.run_events.specs.Events.{Event, Begins, Tests, Chooses, Loops, Turns, Finds, Leaves, TimesOut, Assigns, Writes, Calls, places_reached}
use Rattle.run_events.specs.OfRuns.{events_in, each_turn}

-- a place in a step of a sequence; all texts begin where they have their first statement
abbrev pub spot : List ℕ → List ℕ → Part → Spot
spot name path part = record { sequence = Some name; path = path; part = part; place = here }

-- the place of the debug variables
abbrev pub debug_variables_spot : Spot
debug_variables_spot = record { sequence = None; path = []; part = part.Debugvars; place = here }

-- ---- a loop that is left

-- `n < 3`
abbrev pub is_less : Tree
is_less = t.Binary b.Lt (v (codes "n")) (t.Number 3)

-- `n = n + 1;`
abbrev pub increment_n : StmtTree
increment_n = assign (codes "n") (t.Binary b.Add (v (codes "n")) (t.Number 1))

-- `__var n = 0;` and a control with the `while` `n < 3`, a timeout of 60 and the block `n = n + 1;`
abbrev pub count_to_three : Program
count_to_three = program (declare (codes "n") (t.Number 0) ∷ [])
    (record { name = codes "Main"; steps = only (c.Control None (Some is_less) (Some 60) (only (c.Block (increment_n ∷ [])))) } ∷ [])

-- its first turn and its last one, the fourth, which finds 0
abbrev pub CountsToThree : Type 0
CountsToThree = (w : World) → events_in (λ number. nat_le number 1) w count_to_three (Some [])
    ≡ Begins debug_variables_spot (declare (codes "n") (t.Number 0)) ∷ Assigns (codes "n") 0
    ∷ Loops (spot (codes "Main") (0 ∷ []) part.While) is_less 6
    ∷ Turns (spot (codes "Main") (0 ∷ []) part.While) 1
    ∷ Finds (spot (codes "Main") (0 ∷ []) part.While) 1
    ∷ Begins (spot (codes "Main") (0 ∷ 0 ∷ []) part.Block) increment_n ∷ Assigns (codes "n") 1
    ∷ Turns (spot (codes "Main") (0 ∷ []) part.While) 4
    ∷ Finds (spot (codes "Main") (0 ∷ []) part.While) 0
    ∷ Leaves (spot (codes "Main") (0 ∷ []) part.While) 4 ∷ []

-- ---- a loop that times out

-- a control with the `while` `1`, a timeout of 35 and the block `;`
abbrev pub wait_until_timeout : Program
wait_until_timeout = program [] (record { name = codes "Main"; steps = only (c.Control None (Some (t.Number 1)) (Some 35) (only (c.Block (t.Empty here ∷ [])))) } ∷ [])

-- its last turn, the third
abbrev pub Waits : Type 0
Waits = (w : World) → events_in (λ number. nat_le number 0) w wait_until_timeout (Some [])
    ≡ Loops (spot (codes "Main") (0 ∷ []) part.While) (t.Number 1) 3
    ∷ Turns (spot (codes "Main") (0 ∷ []) part.While) 3
    ∷ Finds (spot (codes "Main") (0 ∷ []) part.While) 1
    ∷ Begins (spot (codes "Main") (0 ∷ 0 ∷ []) part.Block) (t.Empty here)
    ∷ TimesOut (spot (codes "Main") (0 ∷ []) part.While) 3 ∷ []

-- ---- a called sequence that halts

-- `Message(1, "a");`
abbrev pub says : StmtTree
says = call (codes "Message") (arg (t.Number 1) ∷ text (codes "a") ∷ [])

-- `Sequence("Inner");`
abbrev pub goes_in : StmtTree
goes_in = call (codes "Sequence") (text (codes "Inner") ∷ [])

-- `1 / 0;`
abbrev pub division_by_zero : StmtTree
division_by_zero = t.Plain here (t.Binary b.Div (t.Number 1) (t.Number 0))

-- `Message(1, "a"); Sequence("Inner");`, and in `Inner` a control that is skipped, by the `if` `0`, and the block `1 / 0;`
abbrev pub enters : Program
enters = program []
    (sequence (codes "Main") (says ∷ goes_in ∷ [])
    ∷ record { name = codes "Inner"; steps = c.MoreSteps (c.Control (Some (t.Number 0)) None None c.NoSteps) (only (c.Block (division_by_zero ∷ []))) } ∷ [])

-- it ends within the called sequence
abbrev pub EntersTo : List Event → Type 0
EntersTo events = (events
    ≡ Begins (spot (codes "Main") (0 ∷ []) part.Block) says ∷ Writes (codes "message 1 a\n")
    ∷ Begins (spot (codes "Main") (0 ∷ []) part.Block) goes_in ∷ Calls (codes "Inner")
    ∷ Tests (spot (codes "Inner") (0 ∷ []) part.If) (t.Number 0) ∷ Chooses (spot (codes "Inner") (0 ∷ []) part.If) 0
    ∷ Begins (spot (codes "Inner") (1 ∷ []) part.Block) division_by_zero ∷ [])
    × (places_reached events ≡ spot (codes "Inner") (1 ∷ []) part.Block ∷ spot (codes "Main") (0 ∷ []) part.Block ∷ [])

-- that is so in each world
abbrev pub Enters : Type 0
Enters = (w : World) → EntersTo (events_in each_turn w enters (Some []))
