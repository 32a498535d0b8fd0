use Rattle.dbgconf_text.proofs.OneConf as conf
use Rattle.dbgconf_text.proofs.Spelled.{are_names}
use Rattle.dbgconf_text.proofs.reading.conf_of.Goals as goal

pub returns-clause-names : goal.returns-clause-names
returns-clause-names c = are_names c.args.text.now c.read_text.result c.read_text.ensures

pub returns-clause-only : goal.returns-clause-only
returns-clause-only c = λ ts made are is. conf.gives c.args.text.now ts made c.read_text.result c.read_text.ensures are is

pub returns-clause-only_bad : goal.returns-clause-only_bad
returns-clause-only_bad c = conf.only_bad c.args.text.now c.read_text.result c.read_text.ensures

pub returns-clause-only_unexpected : goal.returns-clause-only_unexpected
returns-clause-only_unexpected c = λ ts i are u. conf.only_unexpected c.args.text.now ts i c.read_text.result c.read_text.ensures are u

pub returns-clause-only_repeated : goal.returns-clause-only_repeated
returns-clause-only_repeated c = λ ts i are r. conf.only_repeated c.args.text.now ts i c.read_text.result c.read_text.ensures are r
