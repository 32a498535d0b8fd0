use Rattle.dbgconf_text.proofs.OneConf as conf
use Rattle.dbgconf_text.proofs.OneFault.{one_fault}
use Rattle.dbgconf_text.proofs.OneRefusal.{one_unexpected, one_repeated, not_both}
use Rattle.dbgconf_text.proofs.laws.one_refusal.Goals as goal

pub returns-clause-unexpected : goal.returns-clause-unexpected
returns-clause-unexpected c = λ ts i j u v. one_unexpected ts i j u.unexpected v.unexpected

pub returns-clause-repeated : goal.returns-clause-repeated
returns-clause-repeated c = one_repeated

pub returns-clause-either : goal.returns-clause-either
returns-clause-either c = not_both

pub returns-clause-not_unexpected : goal.returns-clause-not_unexpected
returns-clause-not_unexpected c = λ ts made i is u. conf.not_unexpected ts i made u is.reads

pub returns-clause-not_repeated : goal.returns-clause-not_repeated
returns-clause-not_repeated c = λ ts made i is r. conf.not_repeated ts i made r.repeated is

pub returns-clause-text : goal.returns-clause-text
returns-clause-text c = one_fault
