use Rattle.std.proofs.Common.{arith}
use Rattle.std.proofs.lemmas.Str.Pattern.{strip_prefix_char, strip_suffix_char}
use Rattle.expr_grammar.proofs.Quotes.{between_suffix, between_none}
use Rattle.expr_grammar.proofs.operators.between_quotes.Goals as goal

pub returns-in-Some : goal.returns-in-Some
returns-in-Some c =
    let h = strip_prefix_char 34 c.args.text.now c.strip_prefix.result c.strip_prefix.ensures.cases (omega arith) in
    let k = strip_suffix_char 34 c.in-Some.rest.now c.strip_suffix.result c.strip_suffix.ensures.cases (omega arith) in
    let first = rw c.in-Some.is at h in
    between_suffix c.args.text.now c.in-Some.rest.now c.strip_suffix.result first k

pub returns-in-None : goal.returns-in-None
returns-in-None c =
    let h = strip_prefix_char 34 c.args.text.now c.strip_prefix.result c.strip_prefix.ensures.cases (omega arith) in
    let first = rw c.in-None.is at h in between_none c.args.text.now first
