use Rattle.std.proofs.lemmas.Result.{on_ok_weaker}
use Rattle.set_faults.specs.Sites.{site_step}
use Rattle.set_faults.proofs.TextLemmas.{added_none, added_condition}
use Rattle.set_faults.proofs.texts.add_condition.Goals as goal

pub returns-in_ok-condition_fault-in-Some : goal.returns-in_ok-condition_fault-in-Some
returns-in_ok-condition_fault-in-Some c =
    rw c.in-Some.is (on_ok_weaker c.add_syntax.result (added_condition (site_step c.args.site) c.args.part c.in-Some.text c.in_ok-condition_fault-in-Some.field-0 c.args.found.now c.add_syntax.new.found c.requires c.in_ok-condition_fault-in-Some.ensures) c.add_syntax.ensures)

pub returns-in-None : goal.returns-in-None
returns-in-None c = rw c.in-None.is (added_none c.args.found.now)
