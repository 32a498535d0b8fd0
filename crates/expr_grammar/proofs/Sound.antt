-- What is read is in the grammar. Where nothing is read, what stands before can go on, and not with the next token.
use Rattle.std.proofs.Common.{ℕ, zero, suc, ◌<◌, ◌≤◌, List, ◌++◌, length, arith}
use Rattle.expr_grammar.specs.Lexeme.{Lexeme}
use Rattle.expr_grammar.specs.Grammar.{Reads, ReadsCode}
use Rattle.expr_grammar.specs.Reading.{Aim, Whole, Choice, Level, Climb, Operand, Arguments, Further, Statements, arguments, further, statements, read, whole, choice, at_level, climb, operand}
use Rattle.expr_grammar.specs.Refusal.{Begins}
use Rattle.expr_grammar.proofs.Fix.{whole_is, choice_is, level_is, climb_is, operand_is, arguments_is, further_is, statements_is}
use Rattle.expr_grammar.proofs.Outcome.{Outcome}
use Rattle.expr_grammar.proofs.Viable.{Viable, SomeArgs, MoreArgs, Law, by_steps}
use Rattle.expr_grammar.proofs.SoundOperands.{operand_law}
use Rattle.expr_grammar.proofs.SoundLevels.{level_law, climb_law}
use Rattle.expr_grammar.proofs.SoundChoices.{choice_law, whole_law}
use Rattle.expr_grammar.proofs.SoundArgs.{arguments_law, further_law}
use Rattle.expr_grammar.proofs.SoundStatements.{statements_law}

module _ (n : ℕ) (H : (aim : Aim) (ts : List Lexeme) → length ts < n → Law aim ts) where
  law_step : (aim : Aim) (ts : List Lexeme) → length ts ≤ n → Law aim ts
  law_step Whole ts le = by_steps (Reads 0) (Viable 0) (read Whole) (whole read) ts whole_is (whole_law n H ts le)
  law_step Choice ts le = by_steps (Reads 1) (Viable 1) (read Choice) (choice read) ts choice_is (choice_law n H ts le)
  law_step Operand ts le = by_steps (Reads 12) (Viable 12) (read Operand) (operand read) ts operand_is (operand_law n H ts le)
  law_step (Level l) ts le = λ two most. by_steps (Reads l) (Viable l) (read (Level l)) (at_level read l) ts (level_is l) (level_law n H l ts le two most)
  law_step (Climb l e) ts le = λ two before r tops. by_steps (λ front x. Reads l (before ++ front) x) (λ front. Viable l (before ++ front)) (read (Climb l e)) (climb read l e) ts (climb_is l e) (climb_law n H l two e before r ts le tops)
  law_step Arguments ts le = by_steps SomeArgs (Begins SomeArgs) (read Arguments) (arguments read) ts arguments_is (arguments_law n H ts le)
  law_step Further ts le = by_steps MoreArgs (Begins MoreArgs) (read Further) (further read) ts further_is (further_law n H ts le)
  law_step Statements ts le = by_steps ReadsCode (Begins ReadsCode) (read Statements) (statements read) ts statements_is (statements_law n H ts le)

law_within : (n : ℕ) (aim : Aim) (ts : List Lexeme) → length ts < n → Law aim ts
law_within zero aim ts lt = absurd (omega arith)
law_within (suc n) aim ts lt = law_step n (law_within n) aim ts (omega arith)

pub law : (aim : Aim) (ts : List Lexeme) → Law aim ts
law aim ts = law_within (suc (length ts)) aim ts (omega arith)

pub whole_outcome : (ts : List Lexeme) → Outcome (Reads 0) (Begins (Reads 0)) (whole read) ts (whole read ts)
whole_outcome ts = whole_law (length ts) (λ aim us lt. law aim us) ts (omega arith)

pub statements_outcome : (ts : List Lexeme) → Outcome ReadsCode (Begins ReadsCode) (statements read) ts (statements read ts)
statements_outcome ts = statements_law (length ts) (λ aim us lt. law aim us) ts (omega arith)
