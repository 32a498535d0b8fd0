-- A statement that was found, and what is read after it: what a private contract cites.
use Rattle.std.specs.Prelude.{List, [], ◌∷◌, Option, Some, None, Ok}
use Rattle.std.specs.Borrow.{Bor}
use Rattle.expr_grammar.specs.declared.code.Stmt.{Stmt}
use Rattle.expr_grammar.specs.declared.token.Token.{Token}
use Rattle.expr_grammar.specs.Lexeme.{lexemes}
use Rattle.expr_grammar.specs.Tree.{StmtTree, stmt_tree}
use Rattle.expr_grammar.specs.Reading.{Front, read, statements}
use Rattle.dap_base.specs.Outcome.{◌>>=◌}

-- the statement and those after it; none where no statement was found
abbrev pub found_statements : Option (Stmt × Bor (List Token)) → Front (List StmtTree)
found_statements None = Ok ([], [])
found_statements (Some x) = statements read (lexemes x.1.now) >>= λ more. Ok (stmt_tree x.0 ∷ more.0, more.1)
