use Rattle.std.proofs.Common.{arith, sym, subst, ℕ}
use Rattle.dap_messages.specs.Requests.{IsRequest}
use Rattle.dap_messages.proofs.RequestBits.{write_is_request}
use Rattle.dap_messages.proofs.request.Request.write.Goals as goal

pub returns-clause-in_range : goal.returns-clause-in_range
returns-clause-in_range c =
    subst (λ (b : ℕ). IsRequest (record { byte = b; word = c.args.word })) (sym c.access_byte.ensures) (write_is_request c.args.ap c.args.addr c.args.word (omega (arith, c.ranges.word.fits)))
