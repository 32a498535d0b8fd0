use Rattle.function_table.proofs.Fronts.{answer_found, answer_every}
use Rattle.function_table.proofs.format.front_piece.Goals as goal

pub returns : goal.returns
returns c = record {
  answer = answer_found c.args.format.now c.front.result c.front.ensures;
  only = answer_every c.args.format.now c.front.result c.front.ensures;
  front = c.front.ensures;
}
