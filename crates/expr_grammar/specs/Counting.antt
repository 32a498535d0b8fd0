-- Counting tokens and parentheses, and the answer that follows from what was read before the limit: what private
-- contracts cite.
use Rattle.std.specs.Prelude.{◌≡◌, ℕ, ◌+◌, ◌-◌, Bool, false, ◌&&◌, ◌||◌, ◌==◌, List, length, count_by, Result, Ok, Err, codes, nat_lt, if◌then◌else◌}
use Rattle.expr_grammar.specs.declared.limit.Count.{Count}
use Rattle.expr_grammar.specs.declared.limit.Span.{Span}
use Rattle.expr_grammar.specs.declared.limit.Span.TheVariants.{Text, Statement}
use Rattle.expr_grammar.specs.declared.fault.Fault.{Fault}
use Rattle.expr_grammar.specs.declared.fault.Fault.TheVariants as faults
use Rattle.expr_grammar.specs.declared.parse.ParseError.{ParseError}
use Rattle.expr_grammar.specs.declared.parse.ParseError.TheVariants.{Unexpected, TooDeep, OutOfMemory}
use Rattle.expr_grammar.specs.Lexeme.{Lexeme}
use Rattle.expr_grammar.specs.Reading.{is_mark}
use Rattle.expr_grammar.specs.Refusal.{place_of}

-- these tokens were counted
pub record IsCountOf (count : Count) (ts : List Lexeme) : Type 0 where
  pub tokens : count.tokens ≡ length ts
  pub opened : count.opened ≡ count_by (is_mark (codes "(")) ts
  pub closed : count.closed ≡ count_by (is_mark (codes ")")) ts

-- the token would be the 513th, or the 65th parenthesis that is open at once
abbrev pub is_full : Count → Lexeme → Bool
is_full count k = count.tokens == 512 || (is_mark (codes "(") k && count.opened - count.closed == 64)

-- counting begins again after this token
abbrev pub ends : Span → Lexeme → Bool
ends Text k = false
ends Statement k = is_mark (codes ";") k

-- what is counted with this token more
abbrev pub count_with : Count → Lexeme → Count
count_with count k = record {
  tokens = count.tokens + 1;
  opened = count.opened + (if is_mark (codes "(") k then 1 else 0);
  closed = count.closed + (if is_mark (codes ")") k then 1 else 0);
}

-- no token
abbrev pub nothing_counted : Count
nothing_counted = record { tokens = 0; opened = 0; closed = 0 }

-- what is counted after this token
abbrev pub with_token : Span → Count → Lexeme → Count
with_token span count k = if ends span k then nothing_counted else count_with count k

-- the answer, from what was read of the tokens before the limit
abbrev pub limited_answer : {V : Type 0} → Result V Fault → List Lexeme → ℕ → Result V ParseError
limited_answer (Ok v) ts limit = if limit == length ts then Ok v else Err (TooDeep (place_of ts limit))
limited_answer (Err faults.Memory) ts limit = Err OutOfMemory
limited_answer (Err (faults.Unexpected left)) ts limit =
    if left == 0 && nat_lt limit (length ts) then Err (TooDeep (place_of ts limit))
    else Err (Unexpected (place_of ts (limit - left)))
