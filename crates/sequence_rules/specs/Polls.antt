-- Which loops are one unit, a poll of CTRL/STAT: `while (ReadDP(0x4) & MASK) != VALUE` without steps, apart from groups of parentheses.
use Rattle.std.specs.Prelude.{ℕ, nat_le, nat_eq, Bool, false, ◌&&◌, codes, Option, Some, None, if◌then◌else◌}
use Rattle.std.specs.Str.{bytes_eq}
use Rattle.expr_grammar.specs.declared.code.BinaryOp.TheVariants as b
use Rattle.expr_grammar.specs.Tree as t
use Rattle.expr_grammar.specs.Tree.{Tree, ArgTree, ArgTrees}
use Rattle.sequence_trees.specs.Trees as c
use Rattle.sequence_trees.specs.Trees.{CodeSteps}

-- the expression in groups of parentheses
abbrev pub ungrouped_tree : Tree → Tree
ungrouped_tree (t.Group a) = ungrouped_tree a
ungrouped_tree e = e

-- a literal of at most 32 bits
abbrev pub word_of : Tree → Option ℕ
word_of (t.Number n) = if nat_le n 0xFFFFFFFF then Some n else None
word_of e = None

-- the literal 4
abbrev pub is_four : Tree → Bool
is_four (t.Number n) = nat_eq n 4
is_four e = false

-- the argument of a call that has one
abbrev pub only_arg : ArgTrees → Option ArgTree
only_arg t.NoArgs = None
only_arg (t.MoreArgs a t.NoArgs) = Some a
only_arg (t.MoreArgs a (t.MoreArgs other more)) = None

-- the argument is the literal 4
abbrev pub is_four_arg : Option ArgTree → Bool
is_four_arg None = false
is_four_arg (Some (t.ExprArg at e)) = is_four (ungrouped_tree e)
is_four_arg (Some (t.TextArg a)) = false

-- `ReadDP(0x4)`
abbrev pub reads_ctrl_stat : Tree → Bool
reads_ctrl_stat (t.Call name args) = bytes_eq name.text (codes "ReadDP") && is_four_arg (only_arg args)
reads_ctrl_stat e = false

-- the mask of `ReadDP(0x4) & MASK`
abbrev pub mask_of : Tree → Option ℕ
mask_of (t.Binary b.BitAnd a d) = if reads_ctrl_stat (ungrouped_tree a) then word_of (ungrouped_tree d) else None
mask_of e = None

-- both, where there are both
abbrev pub pair_of : Option ℕ → Option ℕ → Option (ℕ × ℕ)
pair_of None value = None
pair_of (Some mask) None = None
pair_of (Some mask) (Some value) = Some (mask, value)

-- the mask and the value of `(ReadDP(0x4) & MASK) != VALUE`
abbrev pub poll_form : Tree → Option (ℕ × ℕ)
poll_form (t.Binary b.Ne a d) = pair_of (mask_of (ungrouped_tree a)) (word_of (ungrouped_tree d))
poll_form e = None

-- the mask and the value of a `while` with these steps, where the control is a poll
abbrev pub poll_of : Tree → CodeSteps → Option (ℕ × ℕ)
poll_of e c.NoSteps = poll_form (ungrouped_tree e)
poll_of e (c.MoreSteps step more) = None
