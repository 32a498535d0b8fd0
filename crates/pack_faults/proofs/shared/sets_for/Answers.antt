use Rattle.std.proofs.Common.{◌∙◌, ◌++◌, ◌∷◌, [], List, map, option_map, ap, sym, subst}
use Rattle.std.specs.List.{All}
use Rattle.std.proofs.lemmas.List.{map-append}
use Rattle.sequence_resolve.specs.Levels.{path_of}
use Rattle.sequence_resolve.specs.Views.{place_view}
use Rattle.pack_faults.specs.declared.shared.PnameSet.{PnameSet}
use Rattle.pack_faults.specs.Shared.{pname_view, IsKnownSetOf}
use Rattle.pack_faults.proofs.SharedLemmas.{map_taken, each_more, grown_then}
use Rattle.pack_faults.proofs.shared.sets_for.Goals as goal

pub loop-pname-preserved : goal.loop-pname-preserved
loop-pname-preserved c =
    let path = path_of c.args.pack.now (place_view c.args.place.now) (option_map (λ v. v.now) c.args.variant) in
    let m : PnameSet = record { pname = c.pname-item.result; number = c.in_ok-number.number } in
    let known = c.number_along.new.known in
    record {
      pnames =
          ap (map pname_view) c.in_ok-push.ensures.ok ∙ map-append pname_view c.loop-pname.sets (m ∷ []) ∙ ap (λ ns. ns ++ pname_view m ∷ []) c.loop-pname.invariant.pnames
          ∙ sym (map_taken (λ pname. option_map (λ name. name.now) pname) c.args.pnames.now c.loop-pname.pname-index c.pname-item.result c.loop-pname-test.true c.pname-item.is);
      each =
          subst (λ (sets : List PnameSet). All (λ (x : PnameSet). IsKnownSetOf known path (pname_view x) x.number) sets) (sym c.in_ok-push.ensures.ok)
          (each_more c.loop-pname.known known path c.loop-pname.sets m c.in_ok-number.ensures.grown c.loop-pname.invariant.each c.in_ok-number.ensures.number);
      known = c.in_ok-number.ensures.known;
      grown = grown_then c.args.known.now c.loop-pname.known known c.loop-pname.invariant.grown c.in_ok-number.ensures.grown;
    }
