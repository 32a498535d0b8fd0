use Rattle.device_tree.proofs.levels.only_family_keys.Goals as goal

pub returns : goal.returns
returns c = c.only_keys_of.ensures
