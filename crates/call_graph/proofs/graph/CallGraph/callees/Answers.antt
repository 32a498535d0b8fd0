use Rattle.std.proofs.Common.{◌≡◌, List, ℕ, [], ap, subst, sym, ◌∙◌, unwrap_or, Option}
use Rattle.std.specs.Option.{option_copied}
use Rattle.std.proofs.lemmas.Option.{unwrap_or-slice_get}
use Rattle.call_graph.specs.Graph.{callees_of}
use Rattle.call_graph.proofs.graph.CallGraph.callees.Goals as goal

pub returns-in-None : goal.returns-in-None
returns-in-None c =
    let nodes = c.self.inside.nodes in
    let none = ap (λ (o : Option (List ℕ)). unwrap_or o []) (ap option_copied (sym c.in-None.is) ∙ c.get.ensures) ∙ unwrap_or-slice_get nodes c.args.node [] in
    subst (λ (graph : List (List ℕ)). ◌≡◌ {A = List ℕ} [] (callees_of graph c.args.node)) c.self.view_is none
