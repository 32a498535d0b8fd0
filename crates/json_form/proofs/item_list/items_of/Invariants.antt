use Rattle.std.proofs.Common.{◌≡◌, [], drop}
use Rattle.serde_json.specs.View.{items_view}
use Rattle.json_form.specs.Reading.{items_after}
use Rattle.json_form.proofs.item_list.items_of.Given as goal

-- reading the rest after what was read is reading all, and what is seen is kept of what was read
abbrev pub invariant-loop-value : goal.invariant-loop-value
invariant-loop-value g l =
    let reads = g.R.ItemReader.reads l.reader in
    let repeats = g.R.ItemReader.repeats l.reader in
    (items_after reads repeats l.items (items_view (drop l.value-index l.values)) ≡ items_after reads repeats [] (items_view l.values))
    × g.R.ItemReader.keeps l.reader l.items l.seen
