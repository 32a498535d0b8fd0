use Rattle.std.proofs.Common.{◌≡◌, ◌+◌, length, drop, get_or, ℕ, List, ◌∷◌, ap, sym, ◌∙◌, arith}
use Rattle.std.proofs.lemmas.List.{drop_more}
use Rattle.std.specs.Prelude.{slice_get}
use Rattle.dap_messages.specs.declared.request.Request.{Request}
use Rattle.dap_messages.specs.Requests.{kind, write_after}
use Rattle.dap_transfer.proofs.Words.{reads_first, word_of_most}
use Rattle.batch_packer.specs.SlotList.{SlotList}
use Rattle.flight_forms.proofs.SeenValues.{few_seen, goes_seen}
use Rattle.batch_packer.proofs.part.put_values.Goals as goal

no_request : Request
no_request = record { byte = 0; word = 0 }

pub loop-request-preserved : goal.loop-request-preserved
loop-request-preserved c =
    let rs : List Request = c.args.executed.now in
    let i : ℕ = c.loop-request.request-index in
    let n : ℕ = c.loop-request.word in
    let m : ℕ = c.put_value-word.result in
    let r : Request = get_or rs i (record { byte = 0; word = 0 }) in
    let inv = c.loop-request.invariant in
    let is : drop i rs ≡ r ∷ drop (i + 1) rs = drop_more rs i (record { byte = 0; word = 0 }) c.loop-request-test.true in
    let put = c.put_value-word.ensures.values in
    let word = c.put_value-word.ensures.word in
    record {
      values = goes_seen rs c.args.view.now.words i n m r c.loop-request.slots.values c.put_value-word.new.slots.values _ c.requires.normal is word inv.values (ap (λ (s : SlotList). s.values) put);
      room_is = ap (λ (s : SlotList). s.room) put ∙ inv.room_is;
      few = (let f = few_seen r (slice_get c.args.view.now.words n) c.loop-request.slots.values c.put_value-word.new.slots.values (length c.args.slots.now.values + i) (ap (λ (s : SlotList). s.values) put) inv.few in omega arith);
      words = (let f = reads_first (drop i rs) (drop (i + 1) rs) r is in let g = inv.words in let h = word in omega arith);
      below = (let f = word_of_most (kind r) in let g = inv.below in let h = word in omega arith);
      write = ap (λ b. write_after b (drop (i + 1) rs)) c.is_write_after-is_write.ensures ∙ ap (write_after c.loop-request.is_write) (sym is) ∙ inv.write;
    }
