-- The arithmetic of expressions: numbers modulo 2^64.
use Rattle.std.specs.Prelude.{ℕ, ◌+◌, ◌-◌, ◌*◌, ◌/◌, ◌%◌, ◌^◌, Bool, ◌&&◌, ◌||◌, ◌==◌, not, nat_lt, nat_le, Option, Some, None, bit_and, bit_or, bit_xor, if◌then◌else◌}
use Rattle.expr_grammar.specs.declared.code.UnaryOp.{UnaryOp}
use Rattle.expr_grammar.specs.declared.code.UnaryOp.TheVariants as u
use Rattle.expr_grammar.specs.declared.code.BinaryOp.{BinaryOp}
use Rattle.expr_grammar.specs.declared.code.BinaryOp.TheVariants as b

-- 1 for a test that holds, else 0
abbrev pub truth : Bool → ℕ
truth test = if test then 1 else 0

-- the value of `op value`
abbrev pub unary_value : UnaryOp → ℕ → ℕ
unary_value u.Not value = truth (value == 0)
unary_value u.Flip value = 2 ^ 64 - 1 - value
unary_value u.Minus value = (2 ^ 64 - value) % 2 ^ 64
unary_value u.Plus value = value

-- the quotient and the remainder, where the divisor is not 0
abbrev pub quotient : ℕ → ℕ → Option ℕ
quotient left right = if right == 0 then None else Some (left / right)

-- the remainder, where the divisor is not 0
abbrev pub remainder : ℕ → ℕ → Option ℕ
remainder left right = if right == 0 then None else Some (left % right)

-- a shift by 64 or more gives 0
abbrev pub shifted_left : ℕ → ℕ → ℕ
shifted_left left right = if nat_lt right 64 then (left * 2 ^ right) % 2 ^ 64 else 0

-- a shift by 64 or more gives 0
abbrev pub shifted_right : ℕ → ℕ → ℕ
shifted_right left right = if nat_lt right 64 then left / 2 ^ right else 0

-- the value of `left op right`
abbrev pub binary_value : BinaryOp → ℕ → ℕ → Option ℕ
binary_value b.Mul left right = Some ((left * right) % 2 ^ 64)
binary_value b.Div left right = quotient left right
binary_value b.Rem left right = remainder left right
binary_value b.Add left right = Some ((left + right) % 2 ^ 64)
binary_value b.Sub left right = Some ((left + (2 ^ 64 - right)) % 2 ^ 64)
binary_value b.Shl left right = Some (shifted_left left right)
binary_value b.Shr left right = Some (shifted_right left right)
binary_value b.Lt left right = Some (truth (nat_lt left right))
binary_value b.Le left right = Some (truth (nat_le left right))
binary_value b.Gt left right = Some (truth (nat_lt right left))
binary_value b.Ge left right = Some (truth (nat_le right left))
binary_value b.Eq left right = Some (truth (left == right))
binary_value b.Ne left right = Some (truth (not (left == right)))
binary_value b.BitAnd left right = Some (bit_and left right)
binary_value b.BitXor left right = Some (bit_xor left right)
binary_value b.BitOr left right = Some (bit_or left right)
binary_value b.And left right = Some (truth (not (left == 0) && not (right == 0)))
binary_value b.Or left right = Some (truth (not (left == 0) || not (right == 0)))
