use Rattle.std.proofs.Common.{◌≡◌, ◌∙◌, Bool, true, cond, ℕ, List, ap, sym, refl}
use Rattle.std.specs.Prelude.{Err, slice_range}
use Rattle.dap_messages.specs.declared.command_value.CommandValue.{CommandValue}
use Rattle.dap_messages.specs.declared.command_value.CommandValue.TheVariants.{Transfer}
use Rattle.dap_replies.specs.ReplyReading.{reply_read}
use Rattle.dap_messages.specs.Responses.{response_of}
use Rattle.flight_forms.specs.Polls.{poll_commands, poll_requests}
use Rattle.batch_packer.specs.Polling.{is_framed, match_by, match_end}
use Rattle.batch_packer.specs.Readings.{shown_in}
use Rattle.batch_packer.specs.declared.ends.FlightEnd.TheVariants as ends
use Rattle.batch_packer.proofs.poll.read_poll.Goals as goal

pub returns-in-None-clause-read : goal.returns-in-None-clause-read
returns-in-None-clause-read c = λ kind config ask is.
    (let commands : List CommandValue = poll_commands config.idle config.retry ask.mask ask.value ask.turns in
    let framed : true ≡ is_framed config ask c.args.reply.now = sym c.if-not-is_framed.false ∙ c.is_framed.ensures.framed kind config ask is in
    let view = c.in-None.ensures kind commands (Transfer (poll_requests ask.mask ask.value)) is refl in
    ap match_by view
    ∙ ap (λ (b : Bool). cond b (match_by (shown_in (reply_read (Transfer (poll_requests ask.mask ask.value)) (slice_range c.args.reply.now 4 7)))) (Err ends.ReplyBad)) framed)

pub returns-in-Some-clause-read : goal.returns-in-Some-clause-read
returns-in-Some-clause-read c = λ kind config ask is.
    (let commands : List CommandValue = poll_commands config.idle config.retry ask.mask ask.value ask.turns in
    let framed : true ≡ is_framed config ask c.args.reply.now = sym c.if-not-is_framed.false ∙ c.is_framed.ensures.framed kind config ask is in
    let view = c.in-Some.ensures kind commands (Transfer (poll_requests ask.mask ask.value)) is refl in
    c.match_end.ensures.end
    ∙ ap match_end c.from_code.ensures
    ∙ ap (λ (r : ℕ). match_end (response_of r)) c.response.ensures
    ∙ ap match_by view
    ∙ ap (λ (b : Bool). cond b (match_by (shown_in (reply_read (Transfer (poll_requests ask.mask ask.value)) (slice_range c.args.reply.now 4 7)))) (Err ends.ReplyBad)) framed)
