use Rattle.pack_warnings.proofs.SetLemmas.{lined_within, list_of_warned}
use Rattle.pack_warnings.proofs.warnings.list_from.Goals as goal

pub warnings_in-requires : goal.warnings_in-requires
warnings_in-requires c =
    lined_within c.args.warned.now c.in_ok-lined.lined c.as_slice.result.now c.args.sets.now c.in_ok-lined.ensures c.as_slice.ensures c.requires.within

pub returns : goal.returns
returns c =
    list_of_warned c.args.warned.now c.in_ok-lined.lined c.as_slice.result.now c.args.sets.now c.in_ok-warnings.warnings.list.items c.list_of.result c.requires.warned
    c.in_ok-lined.ensures c.as_slice.ensures c.list_of.ensures c.in_ok-warnings.ensures
