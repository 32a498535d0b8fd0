use Rattle.std.proofs.Common.{sym, subst, refl}
use Rattle.sequence_trees.specs.SetView.{set_trees}
use Rattle.code_check.specs.declared.fault.FaultKind.TheVariants as k
use Rattle.seq_check.specs.Valid as valid
use Rattle.seq_check.specs.Valid.{IsSound}
use Rattle.seq_check.proofs.CheckLemmas.{distinct_names, not_sound}
use Rattle.seq_check.proofs.OneFault.{one_first_fault, valid_or_faulty}
use Rattle.seq_check.proofs.set_check.check.Goals as goal

pub read_fault-requires : goal.read_fault-requires
read_fault-requires c = distinct_names c.args.set.now (set_trees c.in-Ok.read) c.in-Ok.ensures.answer c.requires

pub returns-in-Some-clause-answer : goal.returns-in-Some-clause-answer
returns-in-Some-clause-answer c = valid.rules (set_trees c.in-Ok.read) c.in-Ok.ensures.answer (rw c.in-Some.is at c.in_ok-reported.ensures)

pub returns-in-Some-clause-only : goal.returns-in-Some-clause-only
returns-in-Some-clause-only c = λ trees reads sound. (
    let same = c.in-Ok.ensures.only trees reads in
    not_sound (set_trees c.in-Ok.read) c.in-Some.reported.kind c.in-Some.reported.spot (subst IsSound (sym same) sound) (rw c.in-Some.is at c.in_ok-reported.ensures))

pub returns-in-Err-Syntax-clause-only_fault : goal.returns-in-Err-Syntax-clause-only_fault
returns-in-Err-Syntax-clause-only_fault c = λ kind spot fault. (
    let first = rw c.in-Err-Syntax.field-0-is at c.in-Err-Syntax.ensures.answer in
    rw c.in-Err-Syntax.field-0-is (one_first_fault c.args.set.now k.Syntax kind c.in-Err-Syntax.spot spot (valid.syntax first refl) fault))

pub returns-in-Some-clause-only_fault : goal.returns-in-Some-clause-only_fault
returns-in-Some-clause-only_fault c = λ kind spot fault. (
    let reported = valid.rules (set_trees c.in-Ok.read) c.in-Ok.ensures.answer (rw c.in-Some.is at c.in_ok-reported.ensures) in
    one_first_fault c.args.set.now c.in-Some.reported.kind kind c.in-Some.reported.spot spot reported fault)

pub returns-in-None-clause-only_fault : goal.returns-in-None-clause-only_fault
returns-in-None-clause-only_fault c = λ kind spot fault.
    valid_or_faulty c.args.set.now kind spot (record { trees = set_trees c.in-Ok.read; reads = c.in-Ok.ensures.answer; sound = rw c.in-None.is at c.in_ok-reported.ensures }) fault
