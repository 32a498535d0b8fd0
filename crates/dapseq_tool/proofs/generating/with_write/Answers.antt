use Rattle.std.specs.Prelude.{codes, decimal, ◌*◌, ◌%◌, ◌^◌}
use Rattle.dapseq_tool.specs.Generated.{word_address}
use Rattle.dapseq_tool.proofs.TextLemmas.{made_of_five}
use Rattle.dapseq_tool.proofs.generating.with_write.Goals as goal

pub returns : goal.returns
returns c =
    made_of_five c.text-3.result c.args.line c.in_ok-line.line c.in_ok-decimal.field-0 c.in_ok-line-2.line c.in_ok-decimal-2.field-0
    (codes "{\"block\":\"Write32(") (decimal (word_address c.args.i)) (codes ", ") (decimal (2654435761 * c.args.i % 2 ^ 32)) (codes "); ")
    c.in_ok-line.ensures c.in_ok-decimal.ensures c.in_ok-line-2.ensures c.in_ok-decimal-2.ensures c.text-3.ensures
