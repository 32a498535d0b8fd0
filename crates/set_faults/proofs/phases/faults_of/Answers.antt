use Rattle.sequence_trees.specs.SetView.{set_trees}
use Rattle.seq_check.proofs.CheckLemmas.{distinct_names}
use Rattle.set_faults.proofs.PhaseLemmas.{read_answer, syntax_answer}
use Rattle.set_faults.proofs.phases.faults_of.Goals as goal

pub read_faults-requires : goal.read_faults-requires
read_faults-requires c = distinct_names c.args.set.now (set_trees c.in-Ok.read) c.in-Ok.ensures.answer c.requires

pub returns-in-Ok : goal.returns-in-Ok
returns-in-Ok c = read_answer c.args.set.now (set_trees c.in-Ok.read) c.read_faults.result c.in-Ok.ensures.answer c.read_faults.ensures

pub returns-in-Err-Syntax : goal.returns-in-Err-Syntax
returns-in-Err-Syntax c =
    let faults = c.in_ok-syntax_faults-in-Err-Syntax.field-0 in
    let are = c.in_ok-syntax_faults-in-Err-Syntax.ensures in
    let first = rw c.in-Err-Syntax.field-0-is at c.in-Err-Syntax.ensures.answer in
    syntax_answer c.args.set.now c.in-Err-Syntax.field-0-0 faults first are
