use Rattle.std.proofs.Common.{◌≡◌, ◌-◌, ◌++◌, ◌∷◌, [], length, ◌∙◌, arith, length-append, List}
use Rattle.dap_messages.specs.declared.request.Request.{Request}
use Rattle.dap_messages.specs.Requests.{mask_request}
use Rattle.flight_forms.specs.Packing.{payload}
use Rattle.flight_forms.proofs.GuardedPut.{guarded_put, part_length}
use Rattle.flight_forms.proofs.packing.put_guarded_requests.Goals as goal

pub returns-clause-front : goal.returns-clause-front
returns-clause-front c =
    let one = c.value_match.ensures.value in
    let two = c.match_mask.ensures.value in
    let three = c.match_mask-2.ensures.value in
    let rs : List Request = payload c.args.accesses.now in
    let room = c.requires in
    let whole = length-append rs (mask_request 0 ∷ []) in
    let count = c.put_payload-end.ensures.count in
    let size = c.put_payload-end.auto.requests in
    let left : length c.put_payload-end.new.requests ≡ length c.args.requests.now - 2 = size ∙ part_length c.args.requests.now c.value_match.result c.match_mask.result in
    guarded_put c.args.requests.now c.put_payload-end.new.requests _ c.put_payload-end.result c.value_match.result c.match_mask.result c.match_mask-2.result rs
    c.put_payload-end.ensures.front (omega arith) (omega arith)
    ∙ (λ i. one i ∷ two i ∷ (rs ++ three i ∷ []))
