use Rattle.std.proofs.lemmas.Result.{IfOk-weaker}
use Rattle.faults_tool.specs.Asked.{sets}
use Rattle.faults_tool.proofs.AskLemmas.{none_by, refused_asks}
use Rattle.faults_tool.proofs.asking.ask_of_pack.Goals as goal

pub returns-in-Ok : goal.returns-in-Ok
returns-in-Ok c =
    IfOk-weaker c.list_of.result _ _ (λ answer is. sets c.in-Ok.faults (none_by _ c.in-Ok.ensures.only_fault) c.in-Ok.ensures.answer is) c.list_of.ensures

pub returns : goal.returns
returns c = refused_asks c.args.pack.now c.args.asked c.in-Err.refusal c.refused_by.result c.in-Err.ensures.answer_fault c.refused_by.ensures
