use Rattle.std.proofs.Common.{◌≡◌, ◌≤◌, ℕ, List, [], ◌∷◌, ◌++◌, length, set, take, refl, ap, ◌∙◌, arith}
use Rattle.dap_messages.specs.Commands.{command_bytes}
use Rattle.dap_messages.specs.declared.command_value.CommandValue.TheVariants.{Transfer}
use Rattle.batch_packer.proofs.PartLemmas.{part_bytes}
use Rattle.batch_packer.proofs.packing.write_part.Goals as goal

first_two : (bytes : List ℕ) (a b : ℕ) → 2 ≤ length bytes → take 2 (set (set bytes 0 a) 1 b) ≡ a ∷ b ∷ []
first_two [] a b h = absurd (omega (arith, h))
first_two (x ∷ []) a b h = absurd (omega (arith, h))
first_two (x ∷ y ∷ bytes) a b h = refl

pub returns : goal.returns
returns c =
    let command : List ℕ = command_bytes (Transfer (take c.put_guarded_requests-count.result c.put_guarded_requests-count.new.requests)) in
    let room : 2 ≤ length c.args.bytes.now = omega (arith, c.requires.buffers.for_bytes) in
    record {
      front = record {
        within = c.write_transfer_at.ensures.front.within;
        first = part_bytes c.args.is_last c.args.accesses.now command _ (ap (λ rs. command_bytes (Transfer rs)) c.put_guarded_requests-count.ensures.front)
            (c.write_transfer_at.ensures.front.first ∙ ap (λ xs. xs ++ command) (first_two c.args.bytes.now c.id_of.result 1 room ∙ ap (λ (n : ℕ). n ∷ 1 ∷ []) c.id_of.ensures));
      };
    }
