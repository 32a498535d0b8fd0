use Rattle.sequence_rules.specs.Lines.{load_line}
use Rattle.sequence_meaning.proofs.functions.write_load.Goals as goal

pub returns : goal.returns
returns g c = λ target.
    c.write_line.ensures target (load_line c.args.text.now) c.load_line.ensures
