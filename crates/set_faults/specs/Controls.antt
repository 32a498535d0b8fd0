-- What is wrong with the form of a control, as tests: what private contracts cite.
use Rattle.std.specs.Prelude.{ℕ, nat_lt, ◌==◌, Bool, true, false, Option, None, Some}
use Rattle.expr_grammar.specs.Tree.{Tree}

-- a timeout is over the longest
abbrev pub is_too_long : Option ℕ → Bool
is_too_long None = false
is_too_long (Some timeout) = nat_lt 60000000 timeout

-- a `while` has no timeout, or 0
abbrev pub is_unbounded : Option Tree → Option ℕ → Bool
is_unbounded None timeout = false
is_unbounded (Some e) None = true
is_unbounded (Some e) (Some timeout) = timeout == 0
