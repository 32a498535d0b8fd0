-- What a scan lists on a target whose words it can read.
use Rattle.std.proofs.Common.{◌≡◌, ◌∙◌, ◌⊎◌, inl, inr, ℕ, ◌+◌, ◌/◌, ◌%◌, ◌^◌, ◌<◌, nat_lt, Bool, true, false, cond, not, ◌&&◌, List, [], ◌∷◌, ◌++◌, length, Option, Some, None, refl, sym, ap, subst, arith, bit_and}
use Rattle.std.specs.FinMap as map
use Rattle.std.specs.Ordering.{nat_cmp}
use Rattle.std.proofs.lemmas.Bool.{le-ltb}
use Rattle.std.proofs.lemmas.Nat.{and_mask}
use Rattle.target_machine.specs.Attempt.{Attempt, above, acknowledges, attempt, done_attempt, is_free, read_through}
use Rattle.target_machine.specs.InRange.{EachValue, IsCellInRange}
use Rattle.target_machine.proofs.AccessRanges.{shown_in_range}
use Rattle.target_machine.specs.Memory.{Cell, Memory, moved_on, read_cell, shown_value, word_read}
use Rattle.target_machine.specs.Plain.{CallDone, Action, after_cfg, call_done, cfg_actions, command_attempt, contains, ended_call, forgives, from_lanes, given_number, has_large, in_order, is_fault, issued_actions, memory_actions, unit_actions}
use Rattle.target_machine.specs.State.{TargetState}
use Rattle.target_machine.specs.declared.ap.ApState.{ApState}
use Rattle.target_machine.specs.declared.unit.Call.TheVariants.{Access, Probe}
use Rattle.target_machine.specs.declared.unit.Call.{Call}
use Rattle.target_machine.specs.declared.unit.Unit.TheVariants as unit
use Rattle.target_machine.specs.declared.unit.Unit.{Unit as AccessUnit}
use Rattle.target_calls.specs.World.{World, done_now, end_result, is_faulted, next_world, one_fewer, stops_here, world_after}
use Rattle.target_calls.specs.declared.calls.Ask.{Ask}
use Rattle.sequels.specs.Sequel.{Sequel, Asks, Ends, Writes, comes}
use Rattle.sequels.specs.Steady.{OnlyAsks, Steady}
use Rattle.rom_scan.specs.Showing.{HasOneValueAtMost, cell_value}
use Rattle.rom_scan.specs.Walk.{on}
use Rattle.rom_scan.proofs.OnlyLemmas.{Reads}
use Rattle.rom_scan.proofs.PortLemmas.{above_low, above_raised, aimed_at, base_gives, got_put, pointed, same_inserted, sized_port, word_gives}

-- ---- one read of a word

-- from these a word is read, and they stay so
pub record Ready (n : ℕ) (words : Memory) (large : List ℕ) (t : TargetState) : Type 0 where
  pub clear : t.sticky ≡ false
  pub power : acknowledges t 0x1000_0000 ≡ true
  pub port : ApState
  pub some : map.get t.aps n ≡ Some port
  pub low : (port.high ≡ 0) ⊎ (contains large n ≡ true)
  pub words_are : t.words ≡ words

-- a call gave this, and leaves such a target
pub record Gives (n : ℕ) (words : Memory) (result : ℕ) (large : List ℕ) (d : CallDone) : Type 0 where
  pub goes : is_faulted d.end ≡ false
  pub result_is : end_result d.end ≡ result
  pub large_is : d.large ≡ large
  pub next : Ready n words large d.next

moved_same : (c : Cell) → HasOneValueAtMost c → moved_on c ≡ c
moved_same c single = (let last : nat_lt (c.place + 1) (length c.values) ≡ false = le-ltb (c.place + 1) (length c.values) (omega (arith, single)) in ap (λ (b : Bool). record c { place = cond b (c.place + 1) c.place }) last)

module _ (n : ℕ) (port : n < 256) (words : Memory) (single : EachValue HasOneValueAtMost words) (range : EachValue IsCellInRange words) (large : List ℕ) (address : ℕ) (aligned : address % 4 ≡ 0) (low : address < 2 ^ 32) where
  module _ (t : TargetState) (r : Ready n words large t) where
    abbrev aimed : Bool → TargetState
    aimed b = aimed_at n port t r.port address r.clear r.power r.some b

    abbrev there : Bool → ApState
    there b = pointed n port t r.port address r.clear r.power r.some b

    -- the port points to the address, and still may be read by
    points : (b : Bool) → contains large n ≡ b → (above (there b) ≡ 0) × (((there b).high ≡ 0) ⊎ (contains large n ≡ true))
    points true e = (above_raised r.port.large (sized_port n port t r.port address r.clear r.power r.some) (address / 2 ^ 32) (address % 2 ^ 32) (omega arith) refl, inr e)
    points false e = by_low r.low
      where
        by_low : (r.port.high ≡ 0) ⊎ (contains large n ≡ true) → (above (there false) ≡ 0) × (((there false).high ≡ 0) ⊎ (contains large n ≡ true))
        by_low (inl z) = (above_low r.port.large (sized_port n port t r.port address r.clear r.power r.some) (address % 2 ^ 32) z refl, inl z)
        by_low (inr y) = absurd (let bad : false ≡ true = sym e ∙ y in cc)

    abbrev actions : List Action
    actions = memory_actions t (contains large n) 4 true n address 0

    abbrev made : Attempt → List Action → CallDone
    made x all = ended_call (is_fault x.outcome) true false (from_lanes 4 address (given_number x.outcome)) x.next large all

    narrow : nat_lt 0xFFFF_FFFF address ≡ false
    narrow = le-ltb 0xFFFF_FFFF address (omega (arith, low))

    -- no CFG is read
    actions_are : unit_actions t large (unit.Memory 4 true n address 0) ≡ actions
    actions_are = ap (λ (b : Bool). cond (b && not (contains large n)) (cfg_actions n ++ after_cfg t 4 true n address 0) actions) narrow

    -- what it comes to, by what is issued, and by whether CFG is read
    as_made : List Action → Bool → CallDone
    as_made all b =
        ended_call (is_fault (in_order t all).outcome) true ((b && not (contains large n)) && not (has_large t n)) (from_lanes 4 address (given_number (in_order t all).outcome)) (in_order t all).next
        (cond ((b && not (contains large n)) && has_large t n) (large ++ n ∷ []) large) (issued_actions t all)

    unfolded : call_done t large true (Access (unit.Memory 4 true n address 0)) ≡ as_made (unit_actions t large (unit.Memory 4 true n address 0)) (nat_lt 0xFFFF_FFFF address)
    unfolding call_done as_made
    unfolded = refl

    folded : (all : List Action) → as_made all false ≡ made (in_order t all) (issued_actions t all)
    unfolding as_made
    folded all = refl

    called : call_done t large true (Access (unit.Memory 4 true n address 0)) ≡ made (in_order t actions) (issued_actions t actions)
    called = unfolded ∙ ap (λ (all : List Action). as_made all (nat_lt 0xFFFF_FFFF address)) actions_are ∙ ap (as_made actions) narrow ∙ folded actions

    -- the target after the forgiven fault
    cleared : (u : TargetState) → command_attempt (record u { sticky = true }) forgives ≡ done_attempt (record u { sticky = false })
    unfolding attempt is_free
    cleared u = refl

    -- by the word that is there
    module _ (b : Bool) (low_there : ((there b).high ≡ 0) ⊎ (contains large n ≡ true)) (all : List Action) where
      ready_after : (u : TargetState) → u.sticky ≡ false → acknowledges u 0x1000_0000 ≡ true → u.aps ≡ (aimed b).aps → u.words ≡ words → Ready n words large u
      ready_after u clear power aps words_are = record {
        clear = clear;
        power = power;
        port = there b;
        some = ap (λ (m : map.FinMap nat_cmp ApState). map.get m n) aps ∙ got_put n port t (there b);
        low = low_there;
        words_are = words_are;
      }

      by_cell : (o : Option Cell) → map.get words address ≡ o → Gives n words (cell_value o) large (made (read_through (aimed b) (aimed b) 0xFFFF_FFFF (read_cell words address o).value (read_cell words address o).next) all)
      by_cell None is = record {
        goes = refl;
        result_is = refl;
        large_is = refl;
        next = ready_after (command_attempt (record (aimed b) { sticky = true }) forgives).next (ap (λ (x : Attempt). x.next.sticky) (cleared (aimed b))) (ap (λ (x : Attempt). acknowledges x.next 0x1000_0000) (cleared (aimed b)) ∙ r.power)
            (ap (λ (x : Attempt). x.next.aps) (cleared (aimed b))) (ap (λ (x : Attempt). x.next.words) (cleared (aimed b)) ∙ r.words_are);
      }
      by_cell (Some c) is =
          let v = shown_value c in
          let small : v < 2 ^ 32 = shown_in_range c (range address c is) in
          let whole : bit_and v 0xFFFF_FFFF ≡ v % 2 ^ 32 = and_mask v 32 in
          record {
            goes = refl;
            result_is = (let shift : address % 4 ≡ 0 = aligned in rw shift (omega (arith, small, whole)));
            large_is = refl;
            next = ready_after (record (aimed b) { rdbuff = bit_and v 0xFFFF_FFFF; words = map.insert words address (moved_on c) }) r.clear r.power refl
                (ap (map.insert words address) (moved_same c (single address c is)) ∙ same_inserted words address c is);
          }

    -- a read that came to this
    by_read : (x : Attempt) (all : List Action) → x ≡ read_through (aimed (contains large n)) (aimed (contains large n)) 0xFFFF_FFFF (word_read t.words address).value (word_read t.words address).next
        → Gives n words (cell_value (map.get words address)) large (made x all)
    by_read x all is =
        subst (λ (y : Attempt). Gives n words (cell_value (map.get words address)) large (made y all))
        (sym (is ∙ ap (λ (m : Memory). read_through (aimed (contains large n)) (aimed (contains large n)) 0xFFFF_FFFF (word_read m address).value (word_read m address).next) r.words_are))
        (by_cell (contains large n) (points (contains large n) refl).1 all (map.get words address) refl)

    pub word_call : Gives n words (cell_value (map.get words address)) large (call_done t large true (Access (unit.Memory 4 true n address 0)))
    word_call =
        subst (Gives n words (cell_value (map.get words address)) large) (sym called)
        (by_read (in_order t actions) (issued_actions t actions) (word_gives n port t r.port address r.clear r.power r.some (contains large n) (points (contains large n) refl).0 aligned low))

-- ---- the base

pub base_call : (n : ℕ) (port : n < 256) (words : Memory) (large : List ℕ) (t : TargetState) (r : Ready n words large t) → Gives n words r.port.base large (call_done t large true (Access (unit.Ap true n 0xF8 0)))
unfolding call_done
base_call n port words large t r =
    subst (Gives n words r.port.base large) (sym (called ∙ ap (λ (x : Attempt). made x) (base_gives n port t r.port r.clear r.power r.some)))
    (record { goes = refl; result_is = refl; large_is = refl; next = record { clear = r.clear; power = r.power; port = r.port; some = r.some; low = r.low; words_are = r.words_are } })
  where
    actions : List Action
    actions = unit_actions t large (unit.Ap true n 0xF8 0)

    made : Attempt → CallDone
    made x = ended_call (is_fault x.outcome) true false (given_number x.outcome) x.next large (issued_actions t actions)

    called : call_done t large true (Access (unit.Ap true n 0xF8 0)) ≡ made (in_order t actions)
    called = refl

-- ---- all calls

module _ (n : ℕ) (port : n < 256) (words : Memory) (single : EachValue HasOneValueAtMost words) (range : EachValue IsCellInRange words) (base : ℕ) where
  -- what a call gives
  unfoldable pub by_unit : AccessUnit → ℕ
  by_unit (unit.Memory size read ap_ address value) = cell_value (map.get words address)
  by_unit (unit.Ap read ap_ addr value) = base
  by_unit (unit.Dp read addr value) = 0
  by_unit (unit.Poll mask value turns) = 0

  unfoldable pub by_call : Call → ℕ
  by_call (Access asked) = by_unit asked
  by_call (Probe asked) = 0

  unfoldable pub f : Ask → ℕ
  f ask = by_call ask.call

  pub record Fine (w : World) : Type 0 where
    pub free : w.answered ≡ None
    pub ready : Ready n words w.large w.target

  pub fine_next : (w : World) (ask : Ask) (result : ℕ) → Fine w → Gives n words result w.large (done_now w ask) → Fine (next_world w ask)
  fine_next w ask result p g = record { free = ap one_fewer p.free; ready = subst (λ (l : List ℕ). Ready n words l (done_now w ask).next) (sym g.large_is) g.next }

  pub goes_here : (w : World) (ask : Ask) (result : ℕ) → Fine w → Gives n words result w.large (done_now w ask) → stops_here w ask ≡ false
  goes_here w ask result p g = let free = p.free in let goes = g.goes in rw free goes

  word_done : (w : World) → Fine w → (ask : Ask) → (q : Reads n ask) → Gives n words (cell_value (map.get words q.address)) w.large (done_now w ask)
  word_done w p ask q =
      subst (λ (a : Ask). Gives n words (cell_value (map.get words q.address)) w.large (done_now w a)) (sym q.is) (word_call n port words single range w.large q.address q.aligned q.low w.target p.ready)

  pub steady : Steady Fine (Reads n) f
  unfolding f by_call by_unit
  steady = record {
    goes = λ w ask p q. goes_here w ask (cell_value (map.get words q.address)) p (word_done w p ask q);
    result = λ w ask p q. (word_done w p ask q).result_is ∙ ap (λ (a : Ask). by_call a.call) (sym q.is);
    next = λ w ask p q. fine_next w ask (cell_value (map.get words q.address)) p (word_done w p ask q);
  }

  -- the world after all calls is such a one too
  pub fine_after : {X : Type 0} (w : World) (s : Sequel X) → Fine w → OnlyAsks (Reads n) s → Fine (world_after w (comes w s).calls)
  fine_after w (Ends x) p q = p
  fine_after w (Asks ask on) p q =
      let goes = steady.goes w ask p q.0 in
      rw goes (rw goes (fine_after (next_world w ask) (on (end_result (done_now w ask).end)) (steady.next w ask p q.0) (q.1 (end_result (done_now w ask).end))))
  fine_after w (Writes line on) p q = fine_after w on p q
