use Rattle.std.specs.Prelude.{codes, decimal, ◌*◌}
use Rattle.dapseq_tool.specs.Generated.{word_address, write_text}
use Rattle.dapseq_tool.proofs.TextLemmas.{made_of_four}
use Rattle.dapseq_tool.proofs.generating.with_block.Goals as goal

pub returns : goal.returns
returns c =
    made_of_four c.text-2.result c.args.line c.in_ok-with_write.field-0 c.in_ok-line.line c.in_ok-decimal.field-0
    (write_text c.args.i) (codes "s = s + Read32(") (decimal (word_address (7 * c.args.i))) (codes ");\"},")
    c.in_ok-with_write.ensures c.in_ok-line.ensures c.in_ok-decimal.ensures c.text-2.ensures
