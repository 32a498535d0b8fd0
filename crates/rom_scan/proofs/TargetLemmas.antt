-- What a scan lists on a target whose words it can read.
use Rattle.std.proofs.Common.{◌≡◌, ◌∙◌, ◌⊎◌, ℕ, ◌^◌, ◌<◌, Bool, true, false, not, ◌&&◌, List, ◌∷◌, take, Option, Some, None, refl, sym, ap, subst, arith}
use Rattle.std.specs.FinMap as map
use Rattle.std.specs.Prelude.{is_some}
use Rattle.target_machine.specs.Attempt.{acknowledges}
use Rattle.target_machine.specs.Memory.{Memory}
use Rattle.target_machine.specs.Plain.{contains}
use Rattle.target_machine.specs.declared.ap.ApState.{ApState}
use Rattle.target_calls.specs.World.{World, done_now, end_result, next_world, stops_here, world_after}
use Rattle.target_calls.specs.declared.calls.Ask.{Ask}
use Rattle.sequels.specs.Laws.{AsAnswered}
use Rattle.sequels.specs.Sequel.{Sequel, Asks, Comes, written_and_end, comes, call_first}
use Rattle.sequels.specs.Steady.{OnlyAsks}
use Rattle.sequels.proofs.SequelLemmas.{steady_comes}
use Rattle.rom_scan.specs.Components.{base_ask, word_ask}
use Rattle.rom_scan.specs.Listing.{ListsComponents, component_lines, components, components_by, listed_within}
use Rattle.rom_scan.specs.Showing.{CanScan, HasLowTar, ListsTarget, base_at, base_in, shows}
use Rattle.rom_scan.specs.Walk.{Walked, components_below, scanned_port}
use Rattle.rom_scan.specs.declared.component.Component.{Component}
use Rattle.rom_scan.proofs.ListLemmas.{lists_components}
use Rattle.rom_scan.proofs.OnlyLemmas.{Reads, only_all}
use Rattle.rom_scan.proofs.ShowLemmas.{Fine, Gives, Ready, base_call, by_call, by_unit, f, fine_after, fine_next, goes_here, steady}

-- ---- a whole scan

-- a call that does not stop
asks_comes : {X : Type 0} (w : World) (ask : Ask) (on : ℕ → Sequel X) (k : ℕ) → stops_here w ask ≡ false → end_result (done_now w ask).end ≡ k → comes w (Asks ask on) ≡ call_first ask (comes (next_world w ask) (on k))
asks_comes w ask on k goes result = rw goes (rw result refl)

asks_after : (w : World) (ask : Ask) (calls : List Ask) → stops_here w ask ≡ false → world_after w (ask ∷ calls) ≡ world_after (next_world w ask) calls
asks_after w ask calls goes = rw goes refl

module _ (w : World) (most n : ℕ) (port : n < 2 ^ 8) (can : CanScan w n) where
  -- what is so at the start
  by_aim : (a b c : Bool) → (not a && (b && c)) ≡ true → (a ≡ false) × (b ≡ true) × (c ≡ true)
  by_aim false true true h = (refl, refl, refl)
  by_aim true b c h = absurd (cc)
  by_aim false false c h = absurd (cc)
  by_aim false true false h = absurd (cc)

  port_of : (o : Option ApState) → map.get w.target.aps n ≡ o → is_some o ≡ true → HasLowTar o ⊎ (contains w.large n ≡ true)
      → (r : Ready n w.target.words w.large w.target) × (base_in o ≡ r.port.base) × (r.port.base < 2 ^ 32)
  port_of None is h low = absurd (cc)
  port_of (Some p) is h low =
      let aim = by_aim w.target.sticky (acknowledges w.target 0x1000_0000) (is_some (map.get w.target.aps n)) can.aim in
      (record { clear = aim.0; power = aim.1; port = p; some = is; low = low; words_are = refl }, refl, (can.range.aps n p is).base)

  abbrev base : ℕ
  base = base_at w.target n

  abbrev words : Memory
  words = w.target.words

  start : (r : Ready n words w.large w.target) × (base ≡ r.port.base) × (r.port.base < 2 ^ 32)
  start =
      let aim = by_aim w.target.sticky (acknowledges w.target 0x1000_0000) (is_some (map.get w.target.aps n)) can.aim in
      port_of (map.get w.target.aps n) refl aim.2 can.low

  -- the first call
  first : Gives n words base w.large (done_now w (base_ask n))
  first = subst (λ (k : ℕ). Gives n words k w.large (done_now w (base_ask n))) (sym start.1) (base_call n port words w.large w.target start.0)

  abbrev after_base : World
  after_base = next_world w (base_ask n)

  abbrev g : Ask → ℕ
  g = f n port words can.single can.range.words base

  begun : Fine n port words can.single can.range.words base w
  begun = record { free = can.free; ready = start.0 }

  goes : stops_here w (base_ask n) ≡ false
  goes = goes_here n port words can.single can.range.words base w (base_ask n) base begun first

  fine : Fine n port words can.single can.range.words base after_base
  fine = fine_next n port words can.single can.range.words base w (base_ask n) base begun first

  only : OnlyAsks (Reads n) (components_below most n base)
  only = only_all n most base (let is = start.1 in let lt = start.2 in omega (arith, is, lt))

  rest : AsAnswered g after_base (components_below most n base)
  rest = steady_comes (Fine n port words can.single can.range.words base) (Reads n) g after_base (components_below most n base) (steady n port words can.single can.range.words base) fine only

  law : ListsComponents g most n
  law = lists_components g most n

  -- what it says of words and of the base
  by_words : (address : ℕ) → g (word_ask n address) ≡ shows w.target address
  unfolding f by_call by_unit
  by_words address = refl

  by_base : g (base_ask n) ≡ base
  unfolding f by_call by_unit
  by_base = refl

  shown : components_by g n ≡ components (shows w.target) base
  shown = ap (components (λ address. g (word_ask n address))) by_base ∙ ap (λ (word : ℕ → ℕ). components word base) (λ i address. by_words address i)

  from_base : written_and_end g (scanned_port most n) ≡ written_and_end g (components_below most n base)
  from_base = ap (λ (k : ℕ). written_and_end g (components_below most n k)) by_base

  comes_is : comes w (scanned_port most n) ≡ call_first (base_ask n) (comes after_base (components_below most n base))
  comes_is = asks_comes w (base_ask n) (λ k. components_below most n k) base goes first.result_is

  pub lists_target : ListsTarget w most n
  lists_target = record {
    written =
        ap (λ (c : Comes Walked). c.written) comes_is ∙ rest.written ∙ ap (λ (p : List ℕ × Walked). p.0) (sym from_base) ∙ law.written
        ∙ ap (λ (l : List Component). component_lines (take most l)) shown;
    end =
        ap (λ (c : Comes Walked). c.end) comes_is ∙ rest.end ∙ ap (λ (p : List ℕ × Walked). Some p.1) (sym from_base) ∙ ap Some law.end
        ∙ ap (λ (l : List Component). Some (listed_within most l)) shown;
    words =
        ap (λ (c : Comes Walked). (world_after w c.calls).target.words) comes_is ∙ ap (λ (u : World). u.target.words) (asks_after w (base_ask n) (comes after_base (components_below most n base)).calls goes)
        ∙ (fine_after n port words can.single can.range.words base after_base (components_below most n base) fine only).ready.words_are;
  }
