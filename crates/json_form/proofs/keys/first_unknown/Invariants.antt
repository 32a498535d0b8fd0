use Rattle.std.proofs.Common.{◌≡◌, map, string_bytes, string_cmp}
use Rattle.std.specs.List.Sorted.{IsStrictlySortedBy}
use Rattle.serde_json.specs.View.{members_view}
use Rattle.json_form.specs.Names.{names, least_unknown}
use Rattle.json_form.proofs.keys.first_unknown.Given as goal

-- the names that are left ascend, and their least unknown one is that of all
abbrev pub invariant-loop-name : goal.invariant-loop-name
invariant-loop-name l =
    (least_unknown (map (λ k. k.now) l.known) (map string_bytes l.name-iterator) ≡ least_unknown (map (λ k. k.now) l.known) (names (members_view l.members.entries)))
    × IsStrictlySortedBy string_cmp l.name-iterator
