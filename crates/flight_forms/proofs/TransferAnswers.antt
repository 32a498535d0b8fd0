-- The reply of a probe to a Transfer of accesses is one that the command may get.
use Rattle.std.proofs.Common.{◌≡◌, false, List}
use Rattle.target_machine.specs.InRange.{IsInRange}
use Rattle.target_machine.specs.declared.access.RegAccess.{RegAccess}
use Rattle.dap_messages.specs.declared.request.Request.{Request}
use Rattle.dap_messages.specs.Replies.{Answers}
use Rattle.dap_transfer.specs.Laws.{AreNormal}
use Rattle.dap_transfer.specs.State.{TransferState, Transferred}
use Rattle.dap_transfer.specs.Transfer.{transfer_result}
use Rattle.dap_transfer.proofs.CommandEnds.{command_ends}
use Rattle.dap_transfer.proofs.NormalAnswers.{answers_normal}
use Rattle.dap_transfer.proofs.WordRanges.{words_in_range}
use Rattle.flight_forms.specs.Packets.{transfer_answer, transfer_command}
use Rattle.flight_forms.specs.Packing.{AreTaken, AreWords, requests_for}
use Rattle.flight_forms.proofs.AskedRequests.{all_guarded, are_normal}
use Rattle.flight_forms.proofs.Ranges.{plain_words}

-- the reply to one Transfer of accesses
pub transfer_answers : (p : TransferState) (accesses : List RegAccess) → AreTaken accesses → AreWords accesses → p.line.target.sticky ≡ false → IsInRange p.line.target →
    Answers (transfer_command accesses) (transfer_answer (transfer_result p (requests_for false accesses)))
transfer_answers p accesses taken ranges clear h =
    let rs : List Request = requests_for false accesses in
    let d : Transferred = transfer_result p rs in
    let normal : AreNormal rs = are_normal false accesses in
    answers_normal p.line.target rs d.executed d.response d.next.pending d.words normal (words_in_range p rs normal h (plain_words false accesses ranges))
    (command_ends p rs normal (all_guarded accesses taken) clear)
