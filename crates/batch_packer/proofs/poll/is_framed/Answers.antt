use Rattle.std.proofs.Common.{◌≡◌, ◌∙◌, ◌-◌, ◌&&◌, true, List, sym, refl}
use Rattle.dap_messages.specs.declared.command_value.CommandValue.{CommandValue}
use Rattle.dap_messages.specs.declared.command_value.CommandValue.TheVariants.{Configure, Transfer}
use Rattle.flight_forms.specs.Polls.{clear_mask, poll_commands}
use Rattle.batch_packer.specs.Polling.{is_of_four}
use Rattle.batch_packer.proofs.poll.is_framed.Goals as goal

pub returns-clause-framed : goal.returns-clause-framed
returns-clause-framed c = λ kind config ask is.
    (let commands : List CommandValue = poll_commands config.idle config.retry ask.mask ask.value ask.turns in
    let before = c.is_read-before.ensures kind commands (Configure config.idle config.retry (ask.turns - 1)) is refl in
    let cleared = c.is_read-cleared.ensures kind commands (Transfer clear_mask) is refl in
    let after = c.is_read-after.ensures kind commands (Configure config.idle config.retry 0) is refl in
    let four : true ≡ is_of_four c.args.reply.now = sym c.if-not-is_of_four.false ∙ c.is_of_four.ensures in
    c.are_all.ensures ∙ (λ i. four i && (before i && (cleared i && after i))))
