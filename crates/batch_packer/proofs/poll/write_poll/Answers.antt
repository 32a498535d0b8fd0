use Rattle.std.proofs.Common.{◌≡◌, ◌∙◌, ◌-◌, ◌≤◌, ◌++◌, ℕ, List, [], ◌∷◌, length, ap, refl, set, take, arith}
use Rattle.dap_messages.specs.declared.command_value.CommandValue.TheVariants.{Configure, Transfer}
use Rattle.dap_messages.specs.Commands.{command_bytes}
use Rattle.flight_forms.specs.Polls.{clear_mask, poll_requests}
use Rattle.batch_packer.proofs.poll.write_poll.Goals as goal

first_two : (bytes : List ℕ) → 2 ≤ length bytes → take 2 (set (set bytes 0 0x7F) 1 4) ≡ 0x7F ∷ 4 ∷ []
first_two [] h = absurd (omega arith)
first_two (a ∷ []) h = absurd (omega arith)
first_two (a ∷ b ∷ bytes) h = refl

pub returns-clause-front : goal.returns-clause-front
returns-clause-front c =
    let idle : ℕ = c.args.config.idle in
    let retry : ℕ = c.args.config.retry in
    let before : List ℕ = command_bytes (Configure idle retry (c.args.ask.turns - 1)) in
    let matched : List ℕ = command_bytes (Transfer (poll_requests c.args.ask.mask c.args.ask.value)) in
    let cleared : List ℕ = command_bytes (Transfer clear_mask) in
    let one : take c.put_command-at.result c.put_command-at.new.bytes ≡ 0x7F ∷ 4 ∷ before = c.put_command-at.ensures.front ∙ ap (λ xs. xs ++ before) (first_two c.args.bytes.now (omega arith)) in
    let two : take c.put_command-at-2.result c.put_command-at-2.new.bytes ≡ (0x7F ∷ 4 ∷ before) ++ matched =
    c.put_command-at-2.ensures.front ∙ (λ i. one i ++ command_bytes (Transfer (c.match_mask.ensures.value i ∷ c.value_match.ensures.value i ∷ []))) in
    let three : take c.put_command-at-3.result c.put_command-at-3.new.bytes ≡ ((0x7F ∷ 4 ∷ before) ++ matched) ++ cleared =
    c.put_command-at-3.ensures.front ∙ (λ i. two i ++ command_bytes (Transfer (c.match_mask-2.ensures.value i ∷ []))) in
    c.put_command.ensures.front ∙ ap (λ xs. xs ++ command_bytes (Configure idle retry 0)) three
