use Rattle.std.proofs.Common.{rules, arith, ◌∙◌, ◌++◌, ◌∷◌, [], List, ℕ, ap}
use Rattle.target_calls.specs.declared.calls.Ask.{Ask}
use Rattle.packed_access.proofs.LogLemmas.{sound_taken}
use Rattle.packed_access.proofs.log.CallLog.ask.Goals as goal

pub invariant_of-self-2 : goal.invariant_of-self-2
invariant_of-self-2 c =
    let before = c.self.invariant.taken in
    let more = c.in_ok-take_room.ensures.entries.room in
    let many = c.len.ensures in
    let room = c.in_ok-take_room.ensures.room in
    let most = c.max-self-inside.ensures in
    sound_taken _ _ _ _ _ _ _ _ _ _ _ _ _ _ _ _ _ _ _ _ _ _ _ _ c.args.ask c.self.invariant
    (c.push-3.ensures.added ∙ ap (λ (l : List Ask). l ++ c.args.ask ∷ []) c.in_ok-take_room.ensures.asks.all)
    (search rules)
    (c.push-2.ensures.added ∙ ap (λ (l : List ℕ). l ++ 0 ∷ []) c.in_ok-take_room.ensures.places.all)
    (omega (arith, most)) (omega (arith, before, more, many, room, most)) c.in_ok-take_room.ensures.entries.all c.in_ok-take_room.ensures.entries.gone
    (c.push-3.ensures.gone ∙ c.in_ok-take_room.ensures.asks.gone) (c.push-2.ensures.gone ∙ c.in_ok-take_room.ensures.places.gone) c.requires.sound (search rules)
