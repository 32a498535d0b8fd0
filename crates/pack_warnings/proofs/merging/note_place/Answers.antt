use Rattle.std.proofs.Common.{rules, Some}
use Rattle.std.specs.BTreeMap.{Updates}
use Rattle.pack_warnings.specs.Keys.{warning_key_cmp}
use Rattle.pack_warnings.proofs.merging.note_place.Goals as goal

pub returns : goal.returns
returns c = λ other. (
    let updates : Updates warning_key_cmp c.args.places.now c.insert.new.self c.args.key (Some c.args.place) = search rules in
    updates.0 other)
