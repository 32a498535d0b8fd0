use Rattle.std.proofs.Common.{rules, ◌≡◌, ◌∙◌, ap, cond, Some, List, ℕ, bytes_eq, string_bytes, string_cmp}
use Rattle.std.specs.BTreeMap.{get_by_text, Updates}
use Rattle.std.proofs.lemmas.Map.Text.{btree_map_updates_text}
use Rattle.sequence_resolve.proofs.winners.note_place.Goals as goal

pub returns : goal.returns
returns c = λ other. (
    let updates : Updates string_cmp c.args.places.now c.insert.new.self c.in-Ok.key (Some c.args.place) = search rules in
    let key_is : string_bytes c.in-Ok.key ≡ c.args.name.now = search rules in
    btree_map_updates_text (string_bytes c.in-Ok.key) c.args.places.now c.insert.new.self (Some c.args.place) updates other
    ∙ ap (λ (name : List ℕ). cond (bytes_eq name other) (Some c.args.place) (get_by_text c.args.places.now other)) key_is)
