-- Waits that are no poll because a name stands where a poll has a literal, and waits of more turns than a run may have units.
use Rattle.std.specs.Prelude.{ℕ, nat_lt, nat_le, Bool, false, List, [], ◌∷◌, codes, Option, Some, None, unwrap_or, if◌then◌else◌}
use Rattle.std.specs.Str.{bytes_eq}
use Rattle.expr_grammar.specs.declared.code.Name.{Name}
use Rattle.expr_grammar.specs.declared.code.BinaryOp.TheVariants as b
use Rattle.expr_grammar.specs.Tree as t
use Rattle.expr_grammar.specs.Tree.{Tree, ArgTree}
use Rattle.sequence_trees.specs.Trees as c
use Rattle.sequence_trees.specs.Trees.{CodeSteps}
use Rattle.sequence_rules.specs.Polls.{ungrouped_tree, is_four, only_arg}
use Rattle.sequence_rules.specs.Steps.{timeout_of, turn_count}
use Rattle.set_warnings.specs.declared.warning.Warning.{Warning}
use Rattle.set_warnings.specs.declared.warning.WarningKind.TheVariants as k
use Rattle.set_warnings.specs.Sites.{PartAt, warning_at}
use Rattle.expr_grammar.specs.Bare.{nowhere}

-- ---- a poll with names
--
-- `poll_of` of `sequence_rules` says that the control of `while (ReadDP(0x4) & MASK) != VALUE` is a poll. Here each of the three literals may be a name.
-- Each answer is `None` where the form is another one, and else the first name in it, `Some None` where there is none.

-- the literal 4, or a name
abbrev pub four_form : Tree → Option (Option Name)
four_form (t.Named name) = Some (Some name)
four_form e = if is_four e then Some None else None

-- a literal of at most 32 bits, or a name
abbrev pub word_form : Tree → Option (Option Name)
word_form (t.Named name) = Some (Some name)
word_form (t.Number n) = if nat_le n 0xFFFFFFFF then Some None else None
word_form e = None

-- the first name of two forms, one after the other
abbrev pub both_forms : Option (Option Name) → Option (Option Name) → Option (Option Name)
both_forms None second = None
both_forms (Some first) None = None
both_forms (Some None) (Some second) = Some second
both_forms (Some (Some name)) (Some second) = Some (Some name)

-- the only argument, as the address
abbrev pub address_form : Option ArgTree → Option (Option Name)
address_form None = None
address_form (Some (t.ExprArg at e)) = four_form (ungrouped_tree e)
address_form (Some (t.TextArg a)) = None

-- `ReadDP(ADDRESS)`
abbrev pub read_form : Tree → Option (Option Name)
read_form (t.Call name args) = if bytes_eq name.text (codes "ReadDP") then address_form (only_arg args) else None
read_form e = None

-- `ReadDP(ADDRESS) & MASK`
abbrev pub masked_form : Tree → Option (Option Name)
masked_form (t.Binary b.BitAnd a d) = both_forms (read_form (ungrouped_tree a)) (word_form (ungrouped_tree d))
masked_form e = None

-- `(ReadDP(ADDRESS) & MASK) != VALUE`
abbrev pub wait_form : Tree → Option (Option Name)
wait_form (t.Binary b.Ne a d) = both_forms (masked_form (ungrouped_tree a)) (word_form (ungrouped_tree d))
wait_form e = None

-- the first name of a `while` with these steps, where the control would be a poll if each such name were a number
abbrev pub wait_name : Tree → CodeSteps → Option Name
wait_name e c.NoSteps = unwrap_or (wait_form (ungrouped_tree e)) None
wait_name e (c.MoreSteps step more) = None

-- a warning of this name, where there is one
abbrev pub named_wait : PartAt → Option Name → List Warning
named_wait at None = []
named_wait at (Some name) = warning_at k.WaitByName at name.at (Some name.text) ∷ []

-- a `while` that waits by a name
abbrev pub wait_warnings : PartAt → Option Tree → CodeSteps → List Warning
wait_warnings at None steps = []
wait_warnings at (Some e) steps = named_wait at (wait_name e steps)

-- ---- long waits

-- The `while` has more turns than the 1,000,000 units that a run may have, at 10 microseconds a turn, as where a job names no `turn_us`.
abbrev pub is_long : Option Tree → Option ℕ → Bool
is_long None timeout = false
is_long (Some e) timeout = nat_lt 1000000 (turn_count 10 (unwrap_or (timeout_of timeout) 0))

-- a warning of a control itself whose `while` is such
abbrev pub long_warnings : PartAt → Option Tree → Option ℕ → List Warning
long_warnings at repeat timeout = if is_long repeat timeout then warning_at k.LongWait at nowhere None ∷ [] else []
