use Rattle.std.proofs.Common.{◌∙◌, [], ◌∷◌, ap, refl}
use Rattle.std.specs.Prelude.{Ok}
use Rattle.dap_messages.specs.Commands.{command_value}
use Rattle.batch_packer.specs.Commands.{number_by}
use Rattle.batch_packer.proofs.single.read_number.Goals as goal

pub returns-in-None-clause-read : goal.returns-in-None-clause-read
returns-in-None-clause-read c = λ kind is. ap (number_by (command_value c.args.command.now)) (c.in-None.ensures kind (command_value c.args.command.now ∷ []) (command_value c.args.command.now) is refl)

pub returns-in-Some-clause-read : goal.returns-in-Some-clause-read
returns-in-Some-clause-read c = λ kind is.
    ap (λ n. Ok n) c.number_in.ensures
    ∙ ap (number_by (command_value c.args.command.now)) (c.in-Some.ensures kind (command_value c.args.command.now ∷ []) (command_value c.args.command.now) is refl)
