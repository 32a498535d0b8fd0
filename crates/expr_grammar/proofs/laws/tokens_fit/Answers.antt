use Rattle.std.proofs.Common.{[]}
use Rattle.expr_grammar.proofs.Fits.{fits, none_deep, fits_after, fits_other, fits_moved}
use Rattle.expr_grammar.proofs.laws.tokens_fit.Goals as goal

pub returns-clause-fits : goal.returns-clause-fits
returns-clause-fits c = fits

pub returns-clause-none_deep : goal.returns-clause-none_deep
returns-clause-none_deep c = none_deep

pub returns-clause-after : goal.returns-clause-after
returns-clause-after c = λ own front rest semicolon is f. fits_after front own semicolon rest is f

pub returns-clause-other : goal.returns-clause-other
returns-clause-other c = λ own front rest next semicolon is f g. fits_other front own semicolon rest next is f g

pub returns-clause-moved : goal.returns-clause-moved
returns-clause-moved c = λ ts us f m. fits_moved ts us [] [] f m tt
