use Rattle.std.proofs.Common.{◌∙◌, take, map, ap, sym}
use Rattle.std.proofs.lemmas.List.{take-map}
use Rattle.direct_calls.specs.CallLists.{ask_of}
use Rattle.direct_calls.proofs.list.CallList.truncate.Goals as goal

pub returns : goal.returns
returns c = ap (map ask_of) c.truncate.ensures.items ∙ sym (take-map ask_of c.args.len c.self.inside.noted.items) ∙ ap (take c.args.len) c.self.view_is
