use Rattle.expr_grammar.specs.Lexeme.{lexeme}
use Rattle.dbgconf_text.proofs.Turns.{refused_name}
use Rattle.dbgconf_text.proofs.reading.read_name.Goals as goal

pub returns-in_default-kind-clause-refused : goal.returns-in_default-kind-clause-refused
returns-in_default-kind-clause-refused c =
    refused_name c.args.tokens.now c.args.index c.args.found.now c.requires.stands (lexeme c.in-Some.token.now) c.place.result c.in-Some.ensures c.in_default-kind.not-Name c.place.ensures
