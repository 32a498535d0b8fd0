-- A memory access through a port, where all that leads to it is done.
use Rattle.std.proofs.Common.{◌≡◌, ◌∙◌, ◌⊎◌, inl, inr, ℕ, ◌+◌, ◌*◌, ◌/◌, ◌^◌, ◌<◌, ◌==◌, Bool, true, false, cond, List, [], ◌∷◌, ◌++◌, append_assoc, Option, Some, refl, sym, ap, subst, arith, bit_and, bit_or}
use Rattle.std.specs.FinMap as map
use Rattle.std.specs.Option.{option_map}
use Rattle.std.proofs.lemmas.Bool.{cond-true, eq-eqb}
use Rattle.target_machine.proofs.ActionLists.{pass_append, pass_last}
use Rattle.target_machine.proofs.Maps.{got_inserted}
use Rattle.target_machine.specs.Attempt.{Attempt, above, acknowledges, advanced_target, attempt, bus_error, done_attempt, drw_address, drw_read, drw_write, lanes, memory_read, memory_write, next_tar, posted_attempt, read_through, size_of}
use Rattle.target_machine.specs.Lists.{PassTo}
use Rattle.target_machine.specs.Memory.{Cell, Memory, WordWritten, merged_word, moved_on, read_cell, shown_value, with_values, write_cell}
use Rattle.target_machine.specs.Plain.{Action, Answered, CallDone, Makes, ap_access_of, call_done, contains, csw_actions, csw_for, drw_of, from_lanes, given_number, in_order, is_fault, memory_actions, needs_cfg, select_of, to_lanes, transfer_actions}
use Rattle.target_machine.specs.State.{TargetState}
use Rattle.target_machine.specs.declared.ap.ApState.{ApState}
use Rattle.target_machine.specs.declared.unit.Call.TheVariants.{Access}
use Rattle.target_machine.specs.declared.unit.Unit.TheVariants as unit
use Rattle.access_regs.specs.Journal.{making}
use Rattle.access_regs.specs.Plan.{select_value}
use Rattle.access_regs.proofs.Csw.{IsSize, plain_size, stored_for}
use Rattle.access_regs.proofs.Few.{start_narrow}
use Rattle.access_regs.proofs.Memory.{done_memory, memory_done, transfer_is}
use Rattle.access_regs.proofs.Port.{Selects, drw_some, read_some}
use Rattle.access_regs.proofs.Select.{Part, select_write, selected_is}
use Rattle.access_regs.proofs.Transfer.{plain_part, plain_writes, ready}

-- A port is there with its power acknowledged and STICKYERR clear; and the upper word of its TAR is written, or 0.
pub record Aims (large : Bool) (n : ℕ) (t : TargetState) : Type 0 where
  pub clear : t.sticky ≡ false
  pub power : acknowledges t 0x1000_0000 ≡ true
  pub port : ApState
  pub there : map.get t.aps n ≡ Some port
  pub narrow : (large ≡ true) ⊎ (above port ≡ 0)

-- A call came to this result and left this memory, with the same list of ports with large addresses; and the port is there as it was.
pub record Went (ls : List ℕ) (n : ℕ) (d : CallDone) (result : ℕ) (memory : Memory) : Type 0 where
  pub end : d.end ≡ Answered result
  pub large : d.large ≡ ls
  pub words : d.next.words ≡ memory
  pub aims : Aims (contains ls n) n d.next

module _ (ls : List ℕ) (n : ℕ) (lt : n < 256) (t : TargetState) (aims : Aims (contains ls n) n t) (size address : ℕ) (is : IsSize size) (low : address < 2 ^ 32) where
  abbrev large : Bool
  large = contains ls n

  abbrev csw : ℕ
  csw = bit_or aims.port.csw 0x40

  -- after SELECT, and after the read of CSW
  abbrev selected : TargetState
  selected = record t { select = select_value n 0 }

  abbrev shown : TargetState
  shown = record selected { rdbuff = csw }

  at_selected : Selects selected n
  at_selected = selected_is selected n lt aims.clear aims.power refl

  at_shown : Selects shown n
  at_shown = selected_is shown n lt aims.clear aims.power refl

  first : attempt t (select_of n 0) ≡ done_attempt selected
  first = select_write n 0 lt (omega arith) t aims.clear

  second : attempt selected (ap_access_of true 0 0) ≡ posted_attempt csw selected
  second = read_some selected n at_selected aims.port aims.there

  selects : PassTo t (Makes (select_of n 0) ∷ []) selected
  selects = (ap (λ (z : Attempt). is_fault z.outcome) first, sym (ap (λ (z : Attempt). z.next) first))

  shows_csw : PassTo selected (Makes (ap_access_of true 0 0) ∷ []) shown
  shows_csw = (ap (λ (z : Attempt). is_fault z.outcome) second, sym (ap (λ (z : Attempt). z.next) second))

  passes : PassTo t (csw_actions n) shown
  passes = pass_append t selected shown (Makes (select_of n 0) ∷ []) (Makes (ap_access_of true 0 0) ∷ []) selects shows_csw

  gave : given_number (in_order t (csw_actions n)).outcome ≡ csw
  gave = ap (λ (z : Attempt). given_number z.outcome) (pass_last t selected (Makes (select_of n 0) ∷ []) (Makes (ap_access_of true 0 0)) selects ∙ second)

  -- CSW, the upper word and TAR
  aimed : Part shown n (ready (csw_for csw size) large address) (plain_writes (csw_for csw size) large address)
  aimed = plain_part shown n (csw_for csw size) address large at_shown

  -- the target and the port before DRW
  abbrev ready_target : TargetState
  ready_target = record t { select = select_value n 0; rdbuff = aimed.next.rdbuff; aps = aimed.next.aps }

  abbrev ready_port : ApState
  ready_port = ready (csw_for csw size) large address aims.port

  at_ready : Selects ready_target n
  at_ready = selected_is ready_target n lt aims.clear aims.power refl

  ready_there : map.get aimed.next.aps n ≡ Some ready_port
  ready_there = aimed.turns.port ∙ ap (option_map (ready (csw_for csw size) large address)) aims.there

  order : (read : Bool) (value : ℕ) → in_order t (memory_actions t large size read n address value) ≡ attempt ready_target (drw_of read address value)
  order read value =
      ap (λ (x : ℕ). in_order t (csw_actions n ++ transfer_actions large size read address value x)) gave
      ∙ ap (λ (l : List Action). in_order t (csw_actions n ++ l)) (transfer_is large size read address value csw)
      ∙ ap (in_order t) (sym (append_assoc (csw_actions n) (making (plain_writes (csw_for csw size) large address)) (Makes (drw_of read address value) ∷ [])))
      ∙ pass_last t aimed.next (csw_actions n ++ making (plain_writes (csw_for csw size) large address)) (Makes (drw_of read address value))
      (pass_append t shown aimed.next (csw_actions n) (making (plain_writes (csw_for csw size) large address)) passes aimed.pass)
      ∙ ap (λ (u : TargetState). attempt u (drw_of read address value)) aimed.turns.rest

  sized : size_of ready_port.csw ≡ Some size
  sized = ap size_of (stored_for csw size) ∙ plain_size csw size is

  pointed : ready_port.tar ≡ address
  pointed = omega (arith, low)

  -- the upper word of TAR is 0
  upper : above ready_port ≡ 0
  upper = by_large aims.port.large refl large aims.narrow
    where
      over : address / 2 ^ 32 * 2 ^ 32 ≡ 0
      over = omega (arith, low)

      by_large : (b : Bool) → aims.port.large ≡ b → (l : Bool) → (l ≡ true) ⊎ (above aims.port ≡ 0)
          → cond aims.port.large (cond l (cond aims.port.large (address / 2 ^ 32) aims.port.high) aims.port.high * 2 ^ 32) 0 ≡ 0
      by_large false e l h = ap (λ (b : Bool). cond b (cond l (cond aims.port.large (address / 2 ^ 32) aims.port.high) aims.port.high * 2 ^ 32) 0) e
      by_large true e true h = ap (λ (b : Bool). cond b (cond b (address / 2 ^ 32) aims.port.high * 2 ^ 32) 0) e ∙ over
      by_large true e false (inl written) = absurd cc
      by_large true e false (inr none) = none

  at_word : drw_address ready_port ≡ address / 4 * 4
  at_word = ap (λ (x : ℕ). x + ready_port.tar / 4 * 4) upper ∙ ap (λ (x : ℕ). 0 + x / 4 * 4) pointed ∙ omega arith

  -- the target after an access by DRW, except for the memory
  abbrev after : TargetState
  after = advanced_target ready_target ready_port size

  aims_after : (words : Memory) (rdbuff : ℕ) → Aims large n (record after { words = words; rdbuff = rdbuff })
  aims_after words rdbuff = record {
    clear = aims.clear;
    power = aims.power;
    port = record ready_port { tar = cond (bit_and ready_port.csw 0x30 == 0x10) (next_tar t.carry ready_port.tar size) ready_port.tar };
    there = got_inserted aimed.next.aps (ready_target.select / 2 ^ 24) _ n ∙ cond-true _ _ _ (eq-eqb n (ready_target.select / 2 ^ 24) (sym at_ready.here));
    narrow = inr upper;
  }

  module _ (c : Cell) (there : map.get t.words (address / 4 * 4) ≡ Some c) where
    abbrev mask : ℕ
    mask = lanes size address

    -- a read by DRW
    read_done : (value : ℕ) → attempt ready_target (drw_of true address value)
        ≡ posted_attempt (bit_and (shown_value c) mask) (record after { words = map.insert t.words (address / 4 * 4) (moved_on c) })
    read_done value =
        drw_some ready_target n at_ready ready_port true (to_lanes address value) ready_there
        ∙ ap (drw_read ready_target ready_port) sized
        ∙ ap (λ (x : ℕ). memory_read ready_target after x (lanes size ready_port.tar)) at_word
        ∙ ap (λ (x : ℕ). memory_read ready_target after (address / 4 * 4) (lanes size x)) pointed
        ∙ ap (λ (o : Option Cell). read_through ready_target after mask (read_cell t.words (address / 4 * 4) o).value (read_cell t.words (address / 4 * 4) o).next) there

    -- a write by DRW
    write_done : (value : ℕ) → c.read_only ≡ false → attempt ready_target (drw_of false address value)
        ≡ done_attempt (record after { words = map.insert t.words (address / 4 * 4) (with_values c (merged_word (shown_value c) (to_lanes address value) mask ∷ [])) })
    write_done value writable =
        drw_some ready_target n at_ready ready_port false (to_lanes address value) ready_there
        ∙ ap (drw_write ready_target ready_port (to_lanes address value)) sized
        ∙ ap (λ (x : ℕ). memory_write ready_target after x (lanes size ready_port.tar) (to_lanes address value)) at_word
        ∙ ap (λ (x : ℕ). memory_write ready_target after (address / 4 * 4) (lanes size x) (to_lanes address value)) pointed
        ∙ ap (λ (o : Option Cell). by_written (write_cell t.words (address / 4 * 4) mask (to_lanes address value) o)) there
        ∙ ap (λ (b : Bool). by_written (cond b (record { done = false; next = t.words })
        (record { done = true; next = map.insert t.words (address / 4 * 4) (with_values c (merged_word (shown_value c) (to_lanes address value) mask ∷ [])) }))) writable
      where
        by_written : WordWritten → Attempt
        by_written w = cond w.done (done_attempt (record after { words = w.next })) (bus_error ready_target)

    narrow : needs_cfg ls n address ≡ false
    narrow = start_narrow large address (inr low)

    pub read_goes : Went ls n (call_done t ls false (Access (unit.Memory size true n address 0))) (from_lanes size address (bit_and (shown_value c) mask)) (map.insert t.words (address / 4 * 4) (moved_on c))
    read_goes =
        let all = done_memory t ls size true n address 0 narrow ∙ ap (memory_done t ls size true n address 0) (order true 0 ∙ read_done 0) in
        record {
          end = ap (λ (d : CallDone). d.end) all;
          large = ap (λ (d : CallDone). d.large) all;
          words = ap (λ (d : CallDone). d.next.words) all;
          aims = subst (λ (d : CallDone). Aims large n d.next) (sym all) (aims_after (map.insert t.words (address / 4 * 4) (moved_on c)) (bit_and (shown_value c) mask));
        }

    pub write_goes : (value : ℕ) → c.read_only ≡ false → Went ls n (call_done t ls false (Access (unit.Memory size false n address value))) 0
        (map.insert t.words (address / 4 * 4) (with_values c (merged_word (shown_value c) (to_lanes address value) mask ∷ [])))
    write_goes value writable =
        let all = done_memory t ls size false n address value narrow ∙ ap (memory_done t ls size false n address value) (order false value ∙ write_done value writable) in
        record {
          end = ap (λ (d : CallDone). d.end) all;
          large = ap (λ (d : CallDone). d.large) all;
          words = ap (λ (d : CallDone). d.next.words) all;
          aims = subst (λ (d : CallDone). Aims large n d.next) (sym all)
              (aims_after (map.insert t.words (address / 4 * 4) (with_values c (merged_word (shown_value c) (to_lanes address value) mask ∷ []))) aimed.next.rdbuff);
        }
