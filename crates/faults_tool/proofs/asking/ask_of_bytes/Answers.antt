use Rattle.std.proofs.Common.{refl}
use Rattle.std.proofs.lemmas.Result.{IfOk-weaker}
use Rattle.faults_tool.specs.Asked.{AsksOfPack, AsksOfPackBytes, no_pack, pack}
use Rattle.faults_tool.proofs.asking.ask_of_bytes.Goals as goal

pub returns-in-Ok : goal.returns-in-Ok
returns-in-Ok c =
    IfOk-weaker c.ask_of_pack.result (AsksOfPack c.in-Ok.pack c.args.asked) (AsksOfPackBytes c.args.bytes.now c.args.asked) (λ answer of. pack c.in-Ok.pack c.in-Ok.ensures.found of) c.ask_of_pack.ensures

pub returns-in-Err-Refused : goal.returns-in-Err-Refused
returns-in-Err-Refused c = no_pack c.in-Err-Refused.refusal (rw c.in-Err-Refused.field-0-is at c.in-Err-Refused.ensures.refused) (rw c.in-Err-Refused.field-0-is refl)
