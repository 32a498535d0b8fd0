use Rattle.function_table.proofs.Lookup.{exactly}
use Rattle.function_table.proofs.function.function_of.Goals as goal

pub returns : goal.returns
returns c = record { only = exactly c.args.name.now c.find_function.result c.find_function.ensures; answer = c.find_function.ensures }
