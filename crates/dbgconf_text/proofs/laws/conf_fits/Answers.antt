use Rattle.dbgconf_text.proofs.Spelled.{fits_length, read_names, small_values}
use Rattle.dbgconf_text.proofs.laws.conf_fits.Goals as goal

pub returns-clause-names : goal.returns-clause-names
returns-clause-names c = read_names

pub returns-clause-values : goal.returns-clause-values
returns-clause-values c = λ ts conf is. small_values conf ts is.reads

pub returns-clause-size : goal.returns-clause-size
returns-clause-size c = λ text ts conf are is. fits_length text ts conf are is.reads
