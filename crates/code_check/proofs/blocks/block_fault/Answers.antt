use Rattle.std.proofs.Common.{refl, ◌∙◌}
use Rattle.code_check.proofs.BlockLemmas.{block_more, names_more}
use Rattle.code_check.proofs.blocks.block_fault.Goals as goal

pub loop-statement-preserved : goal.loop-statement-preserved
loop-statement-preserved c =
    let inv = c.loop-statement.invariant in
    let i = c.loop-statement.statement-index in
    let x = c.statement-item.result in
    let noted = c.note_statement.ensures in
    let more = names_more c.args.names.now c.args.code.now i x c.loop-statement-test.true in record {
      first = block_more (record { visible = c.args.names.now; sequences = c.args.sequences.now; in_debugvars = c.args.in_debugvars }) c.args.code.now i x c.loop-statement-test.true c.note_statement.new.found c.loop-statement.found noted.first
          noted.kept inv.first (rw (← inv.names, ← c.statement-item.is) noted.is_first);
      names = c.in_ok-declare.ensures.ok ∙ rw (inv.names, more, ← c.statement-item.is) refl;
    }
