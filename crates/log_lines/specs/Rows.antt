-- The text of events, worked out by hand.
use Rattle.std.specs.Prelude.{◌≡◌, ℕ, true, false, List, [], ◌∷◌, ◌++◌, codes, Option, Some}
use Rattle.expr_grammar.specs.declared.code.BinaryOp.TheVariants as b
use Rattle.expr_grammar.specs.Tree as t
use Rattle.expr_grammar.specs.Tree.{Tree, StmtTree, args_of}
use Rattle.sequence_trees.specs.declared.spot.Part.TheVariants as part
use Rattle.target_calls.specs.Asks.{unit_ask}
use Rattle.target_machine.specs.Plain.{CallEnd, Answered, Skipped, Faulted}
use Rattle.target_machine.specs.declared.unit.Unit.TheVariants as unit
use Rattle.sequence_rules.specs.Rows.{here, v, arg, name, call, text}
use Rattle.run_events.specs.Events.{Event, Begins, Tests, Chooses, Loops, Turns, Finds, Leaves, Assigns, Makes, Calls, Returns}
use Rattle.log_lines.specs.LogText.{text_of_events}
use Rattle.log_lines.specs.Places.{condition_spot, debug_spot, spot_in_step}

-- `Read32(0x40034FE0) & 4`
abbrev pub status : Tree
status = t.Binary b.BitAnd (t.Call (name (codes "Read32")) (args_of (arg (t.Number 0x40034FE0) ∷ []))) (t.Number 4)

-- a unit that reads the word
abbrev pub read_event : ℕ → Option CallEnd → Event
read_event number end = Makes (record { number = number; ask = unit_ask (unit.Memory 4 true 0 0x40034FE0 0) false; end = end })

-- `WriteDP(0, 30);` as a unit, which faults
abbrev pub write_event : ℕ → Event
write_event number = Makes (record { number = number; ask = unit_ask (unit.Dp false 0 30) false; end = Some Faulted })

-- a loop that is left, in a called sequence, with a message and a fault after it
abbrev pub sample : List Event
sample =
    Begins (debug_spot here) (t.Declare (name (codes "n")) (t.Number 16)) ∷ Assigns (codes "n") 16
    ∷ Begins (spot_in_step (codes "Main") (0 ∷ 2 ∷ []) part.Block here) (call (codes "Sequence") (text (codes "Inner") ∷ [])) ∷ Calls (codes "Inner")
    ∷ Loops (condition_spot (codes "Inner") (0 ∷ []) part.While) status 10
    ∷ Turns (condition_spot (codes "Inner") (0 ∷ []) part.While) 1 ∷ read_event 1 (Some (Answered 4)) ∷ Finds (condition_spot (codes "Inner") (0 ∷ []) part.While) 4
    ∷ Turns (condition_spot (codes "Inner") (0 ∷ []) part.While) 7 ∷ read_event 7 (Some Skipped) ∷ Finds (condition_spot (codes "Inner") (0 ∷ []) part.While) 0
    ∷ Leaves (condition_spot (codes "Inner") (0 ∷ []) part.While) 7
    ∷ Returns
    ∷ Tests (condition_spot (codes "Main") (1 ∷ []) part.If) (v (codes "n")) ∷ Chooses (condition_spot (codes "Main") (1 ∷ []) part.If) 16
    ∷ Begins (spot_in_step (codes "Main") (1 ∷ 0 ∷ []) part.Block here) (call (codes "WriteDP") (arg (t.Number 0) ∷ arg (t.Number 30) ∷ [])) ∷ write_event 8 ∷ []

-- its text
abbrev pub Sample : Type 0
Sample = text_of_events sample
    ≡ codes "debugvars 1:1  __var n = 0x10;\n"
    ++ codes "  n = 0x10\n"
    ++ codes "Main 0.2 block 1:1  Sequence(\"Inner\");\n"
    ++ codes "  call Inner\n"
    ++ codes "  Inner 0 while  Read32(0x40034fe0) & 4  at most 10 turns\n"
    ++ codes "    turn 1\n"
    ++ codes "    unit 1 read32 0x40034fe0 ap 0 -> 0x4\n"
    ++ codes "    -> 0x4\n"
    ++ codes "    turn 7\n"
    ++ codes "    unit 7 read32 0x40034fe0 ap 0 fault, forgiven\n"
    ++ codes "    -> 0x0\n"
    ++ codes "    left after 7 turns\n"
    ++ codes "  return\n"
    ++ codes "Main 1 if  n\n"
    ++ codes "  -> 0x10, taken\n"
    ++ codes "Main 1.0 block 1:1  WriteDP(0, 0x1e);\n"
    ++ codes "  unit 8 writedp 0x0 = 0x1e fault\n"
