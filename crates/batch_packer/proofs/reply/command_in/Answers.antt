use Rattle.batch_packer.proofs.PacketLemmas.{command_read, never_err}
use Rattle.batch_packer.proofs.reply.command_in.Goals as goal

pub returns-in-Ok : goal.returns-in-Ok
returns-in-Ok c = λ kind commands is. command_read kind commands c.args.packet.now c.args.index c.in-Ok.view c.command.result is c.in-Ok.ensures.first_fault c.command.ensures

pub returns-in-Err : goal.returns-in-Err
returns-in-Err c = λ kind commands is. absurd (never_err kind commands c.args.packet.now c.in-Err.field-0 is c.in-Err.ensures.first_fault)
