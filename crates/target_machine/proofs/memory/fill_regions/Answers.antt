use Rattle.std.proofs.Common.{◌∙◌}
use Rattle.target_machine.proofs.Building.{filled_so}
use Rattle.target_machine.proofs.memory.fill_regions.Goals as goal

pub returns : goal.returns
returns c =
    filled_so c.args.memory.now c.args.words.now c.args.scripts.now c.in_ok-regions.regions.items c.deref_mut.result.now c.fill.new.regions c.in_ok-regions.regions.len
    c.in_ok-regions.ensures.laid_out c.in_ok-regions.ensures.zeros c.requires.short c.deref_mut.ensures.value (c.fill.auto.regions ∙ c.deref_mut.ensures.len) c.fill.ensures
