use Rattle.std.proofs.Common.{◌≡◌, ◌∙◌, ◌≤◌, take, length, refl, subst, []}
use Rattle.std.proofs.lemmas.List.{take_all}
use Rattle.expr_grammar.specs.Tree.{code_trees}
use Rattle.code_check.specs.ExprFaults.{Scope}
use Rattle.code_check.specs.BlockFaults.{BlockFault}
use Rattle.code_check.proofs.BlockLemmas.{names_more}
use Rattle.set_faults.specs.Listed.{Adds}
use Rattle.set_faults.proofs.AddLemmas.{adds_listed}
use Rattle.set_faults.proofs.CallLemmas.{block_more}
use Rattle.set_faults.proofs.blocks.block_faults.Goals as goal

pub loop-statement-preserved : goal.loop-statement-preserved
loop-statement-preserved c =
    let s : Scope = record { visible = c.args.names.now; sequences = c.args.sequences.now; in_debugvars = c.args.in_debugvars } in
    let inv = c.loop-statement.invariant in
    let i = c.loop-statement.statement-index in
    let x = c.statement-item.result in
    let more = names_more c.args.names.now c.args.code.now i x c.loop-statement-test.true in record {
      added = block_more s c.args.code.now i x c.loop-statement-test.true [] c.loop-statement.found c.add_statement.new.found inv.added (rw (← inv.names, ← c.statement-item.is) c.in_ok-add_statement.ensures);
      names = c.in_ok-declare.ensures ∙ rw (inv.names, more, ← c.statement-item.is) refl;
    }

pub returns-clause-list : goal.returns-clause-list
returns-clause-list c =
    let s : Scope = record { visible = c.args.names.now; sequences = c.args.sequences.now; in_debugvars = c.args.in_debugvars } in
    let past : length c.args.code.now ≤ c.loop-statement.statement-index = c.loop-statement-test.false in
    let all : take c.loop-statement.statement-index c.args.code.now ≡ c.args.code.now = take_all c.loop-statement.statement-index c.args.code.now past in
    adds_listed (subst (λ code. Adds (BlockFault s (code_trees code)) [] c.loop-statement.found) all c.loop-statement.invariant.added) c.in_order.ensures
