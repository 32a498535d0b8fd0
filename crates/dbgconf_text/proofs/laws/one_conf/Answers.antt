use Rattle.dbgconf_text.proofs.Items as laws
use Rattle.dbgconf_text.proofs.laws.one_conf.Goals as goal

pub returns : goal.returns
returns c = λ ts x y r s. laws.one_conf x y ts r.reads s.reads
