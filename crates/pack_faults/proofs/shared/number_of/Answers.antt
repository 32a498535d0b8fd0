use Rattle.std.proofs.lemmas.List.Elements.{All-push}
use Rattle.pack_faults.specs.Known.{IsKnown}
use Rattle.pack_faults.proofs.SharedLemmas.{there_equal, there_new, grown_new}
use Rattle.pack_faults.proofs.shared.number_of.Goals as goal

pub returns-in-Some-clause-number : goal.returns-in-Some-clause-number
returns-in-Some-clause-number c = there_equal c.args.known.now c.as_slice.result.now c.args.set c.in-Some.number c.as_slice.ensures c.in-Some.ensures

pub returns-clause-number : goal.returns-clause-number
returns-clause-number c =
    there_new c.args.known.now c.push.new.self c.in_ok-check_new.field-0 c.args.set c.len-number.result c.in_ok-push.ensures.ok c.len-number.ensures c.in_ok-check_new.ensures.set

pub returns-clause-known : goal.returns-clause-known
returns-clause-known c = rw c.in_ok-push.ensures.ok (All-push IsKnown c.args.known.now c.in_ok-check_new.field-0 c.requires.known c.in_ok-check_new.ensures.found)

pub returns-clause-grown : goal.returns-clause-grown
returns-clause-grown c = grown_new c.args.known.now c.push.new.self c.in_ok-check_new.field-0 c.in_ok-push.ensures.ok
