-- A load lays its image over the memory of the target.
use Rattle.std.proofs.Common.{◌≡◌, ◌∙◌, ◌⊎◌, inl, inr, ℕ, zero, suc, ◌+◌, ◌*◌, ◌/◌, ◌<◌, ◌^◌, not, ◌&&◌, ◌||◌, Bool, true, false, List, [], ◌∷◌, ◌++◌, length, map, fold, slice_index, Option, None, Some, refl, sym, ap, subst, arith}
use Rattle.std.specs.FinMap as finite
use Rattle.std.specs.Prelude.{is_some}
use Rattle.std.specs.List.{AllByRecursion}
use Rattle.hex_image.specs.Image.{Bytes}
use Rattle.target_machine.specs.Aim.{can_aim}
use Rattle.target_machine.specs.Attempt.{above, acknowledges}
use Rattle.target_machine.specs.Memory.{Cell, Memory}
use Rattle.target_machine.specs.Plain.{Answered, contains}
use Rattle.target_machine.specs.State.{TargetState}
use Rattle.target_machine.specs.declared.ap.ApState.{ApState}
use Rattle.target_calls.specs.World.{World, done_now, end_result, is_faulted, is_over, later_by, next_world, one_fewer, results, stop, stops_here, world_after}
use Rattle.target_calls.specs.declared.calls.Ask.{Ask}
use Rattle.target_calls.proofs.CallLists.{append_after, append_results, append_stop, count_of}
use Rattle.access_regs.proofs.Csw.{IsSize}
use Rattle.image_load.specs.Laid.{CanLoad, Laid, laid_memory}
use Rattle.image_load.specs.Pieces.{IsPiece, asked_all, difference, first_difference, first_of, load_calls, pieces, read_ask, write_ask}
use Rattle.image_load.specs.declared.piece.Difference.{Difference}
use Rattle.image_load.specs.declared.piece.WordOrByte.{WordOrByte}
use Rattle.image_load.proofs.AccessLemmas.{Aims, Went, read_goes, write_goes}
use Rattle.image_load.proofs.ByteLemmas.{MayPut, Shows, bytes_fit, laid_there, pieces_may, pieces_show, put_keeps}
use Rattle.image_load.proofs.CallLemmas.{count_all}
use Rattle.image_load.proofs.CellLemmas.{inserted_same, laid_by_pieces, put, word_put}
use Rattle.image_load.proofs.DifferenceLemmas.{same_byte, same_found}
use Rattle.image_load.proofs.FoundLemmas.{index_past}

-- ---- a piece

size_of_piece : (p : WordOrByte) → IsPiece p → IsSize p.size
size_of_piece p h = by_size h.sized
  where
    by_size : (p.size ≡ 1) ⊎ (p.size ≡ 4) → IsSize p.size
    by_size (inl e) = inl e
    by_size (inr e) = inr (inr e)

low_piece : (p : WordOrByte) → IsPiece p → p.address < 2 ^ 32
low_piece p h = by_size h.sized
  where
    by_size : (p.size ≡ 1) ⊎ (p.size ≡ 4) → p.address < 2 ^ 32
    by_size (inl e) = (let low = h.low in omega (arith, e, low))
    by_size (inr e) = (let low = h.low in omega (arith, e, low))

-- the port is there, and all calls are answered
pub record IsOpen (n : ℕ) (w : World) : Type 0 where
  pub aims : Aims (contains w.large n) n w.target
  pub free : w.answered ≡ None

module _ (n : ℕ) (lt : n < 256) where
  -- the world after a call that came to a result
  went_on : (w : World) (ask : Ask) (result : ℕ) (words : Memory) → IsOpen n w → Went w.large n (done_now w ask) result words → (stops_here w ask ≡ false) × IsOpen n (next_world w ask)
  went_on w ask result words open_ went = (
    ap (λ (a : Option ℕ). is_over a || is_faulted (done_now w ask).end) open_.free ∙ ap is_faulted went.end,
    record {
      aims = subst (λ (l : List ℕ). Aims (contains l n) n (done_now w ask).next) (sym went.large) went.aims;
      free = ap one_fewer open_.free;
    },
  )

  -- ---- writes

  written : (w : World) (p : WordOrByte) → IsOpen n w → (h : MayPut w.target.words p) → Went w.large n (done_now w (write_ask n p)) 0 (put w.target.words p)
  written w p open_ h =
      let went = write_goes w.large n lt w.target open_.aims p.size p.address (size_of_piece p h.sound) (low_piece p h.sound) h.has.word h.has.there p.value h.has.writable in
      record { end = went.end; large = went.large; words = went.words ∙ sym (ap (word_put w.target.words p) h.has.there); aims = went.aims }

  may_stay : (m k : Memory) (p : WordOrByte) (ps : List WordOrByte) → k ≡ put m p → AllByRecursion (MayPut m) ps → AllByRecursion (MayPut k) ps
  may_stay m k p [] is h = tt
  may_stay m k p (q ∷ ps) is h =
      (subst (λ (x : Memory). MayPut x q) (sym is) (record { sound = h.0.sound; has = put_keeps m p (q.address / 4 * 4) h.0.has }), may_stay m k p ps is h.1)

  record Wrote (w : World) (ps : List WordOrByte) : Type 0 where
    goes : stop w (asked_all false n ps) ≡ None
    words : (world_after w (asked_all false n ps)).target.words ≡ fold put w.target.words ps
    after : IsOpen n (world_after w (asked_all false n ps))

  writes : (ps : List WordOrByte) (w : World) → IsOpen n w → AllByRecursion (MayPut w.target.words) ps → Wrote w ps
  writes [] w open_ h = record { goes = refl; words = refl; after = open_ }
  writes (p ∷ ps) w open_ h =
      let went = written w p open_ h.0 in
      let on = went_on w (write_ask n p) 0 (put w.target.words p) open_ went in
      let rest = writes ps (next_world w (write_ask n p)) on.1 (may_stay w.target.words (next_world w (write_ask n p)).target.words p ps went.words h.1) in
      let go = on.0 in
      record {
        goes = rw go (ap (later_by 1) rest.goes);
        words = rw go (rest.words ∙ ap (λ (m : Memory). fold put m ps) went.words);
        after = rw go rest.after;
      }

  -- ---- reads

  read_back : (w : World) (p : WordOrByte) → IsOpen n w → IsPiece p → Shows w.target.words p → Went w.large n (done_now w (read_ask n p)) p.value w.target.words
  read_back w p open_ sound h =
      let went = read_goes w.large n lt w.target open_.aims p.size p.address (size_of_piece p sound) (low_piece p sound) h.word h.there in
      record {
        end = went.end ∙ ap Answered h.value;
        large = went.large;
        words = went.words ∙ ap (λ (c : Cell). finite.insert w.target.words (p.address / 4 * 4) c) h.still ∙ inserted_same w.target.words (p.address / 4 * 4) h.word h.there;
        aims = went.aims;
      }

  record ReadAll (w : World) (ps : List WordOrByte) : Type 0 where
    goes : stop w (asked_all true n ps) ≡ None
    found : results w (asked_all true n ps) ≡ map (λ (p : WordOrByte). p.value) ps
    words : (world_after w (asked_all true n ps)).target.words ≡ w.target.words

  reads : (ps : List WordOrByte) (w : World) → IsOpen n w → AllByRecursion IsPiece ps → AllByRecursion (Shows w.target.words) ps → ReadAll w ps
  reads [] w open_ sound h = record { goes = refl; found = refl; words = refl }
  reads (p ∷ ps) w open_ sound h =
      let went = read_back w p open_ sound.0 h.0 in
      let on = went_on w (read_ask n p) p.value w.target.words open_ went in
      let rest = reads ps (next_world w (read_ask n p)) on.1 sound.1 (subst (λ (m : Memory). AllByRecursion (Shows m) ps) (sym went.words) h.1) in
      let go = on.0 in
      record {
        goes = rw go (ap (later_by 1) rest.goes);
        found = rw go (ap (λ (v : ℕ). v ∷ results (next_world w (read_ask n p)) (asked_all true n ps)) (ap end_result went.end) ∙ ap (λ (l : List ℕ). p.value ∷ l) rest.found);
        words = rw go (rest.words ∙ went.words);
      }

  -- ---- both

  record DidBoth (w : World) (ps : List WordOrByte) : Type 0 where
    goes : stop w (load_calls n ps) ≡ None
    found : results w (load_calls n ps) ≡ results w (asked_all false n ps) ++ map (λ (p : WordOrByte). p.value) ps
    before : stop w (asked_all false n ps) ≡ None
    words : (world_after w (load_calls n ps)).target.words ≡ fold put w.target.words ps

  both : (w : World) (ps : List WordOrByte) → IsOpen n w → AllByRecursion (MayPut w.target.words) ps → AllByRecursion IsPiece ps → AllByRecursion (Shows (fold put w.target.words ps)) ps → DidBoth w ps
  both w ps open_ may sound shows =
      let first = writes ps w open_ may in
      let second = reads ps (world_after w (asked_all false n ps)) first.after sound (subst (λ (m : Memory). AllByRecursion (Shows m) ps) (sym first.words) shows) in
      record {
        goes = append_stop w (asked_all false n ps) (asked_all true n ps) first.goes ∙ ap (later_by (length (asked_all false n ps))) second.goes;
        found = append_results w (asked_all false n ps) (asked_all true n ps) first.goes ∙ ap (λ (l : List ℕ). results w (asked_all false n ps) ++ l) second.found;
        before = first.goes;
        words = ap (λ (u : World). u.target.words) (append_after w (asked_all false n ps) (asked_all true n ps) first.goes) ∙ second.words ∙ first.words;
      }

-- ---- differences

no_difference : (k bit address v : ℕ) → difference k bit address v v ≡ None
no_difference zero bit address v = refl
no_difference (suc k) bit address v = same_byte k bit address v v refl ∙ no_difference k (bit + 8) (address + 1) v

-- where each read gave the value of its piece nothing differs
none_differs : (ps : List WordOrByte) → first_difference ps (slice_index (map (λ (p : WordOrByte). p.value) ps)) ≡ None
none_differs [] = refl
none_differs (p ∷ ps) =
    ap (λ (o : Option Difference). first_of o (first_difference ps (λ i. slice_index (map (λ (q : WordOrByte). q.value) (p ∷ ps)) (i + 1)))) (no_difference p.size 0 p.address p.value)
    ∙ same_found ps (λ i. slice_index (map (λ (q : WordOrByte). q.value) (p ∷ ps)) (i + 1)) (slice_index (map (λ (q : WordOrByte). q.value) ps))
    (λ i. let more : i + 1 ≡ suc i = omega arith in ap (slice_index (map (λ (q : WordOrByte). q.value) (p ∷ ps))) more)
    ∙ none_differs ps

-- ---- the port

can_parts : (t : TargetState) (n : ℕ) (large : Bool) → can_aim t n ≡ true → (large ≡ true) ⊎ ((p : ApState) → finite.get t.aps n ≡ Some p → above p ≡ 0) → Aims large n t
can_parts t n large can narrow = by_clear t.sticky refl can
  where
    narrow_at : (p : ApState) → finite.get t.aps n ≡ Some p → (large ≡ true) ⊎ ((q : ApState) → finite.get t.aps n ≡ Some q → above q ≡ 0) → (large ≡ true) ⊎ (above p ≡ 0)
    narrow_at p there (inl e) = inl e
    narrow_at p there (inr zero_above) = inr (zero_above p there)

    by_port : (o : Option ApState) → finite.get t.aps n ≡ o → t.sticky ≡ false → acknowledges t 0x1000_0000 ≡ true → is_some o ≡ true → Aims large n t
    by_port None there clear power h = absurd cc
    by_port (Some p) there clear power h = record { clear = clear; power = power; port = p; there = there; narrow = narrow_at p there narrow }

    by_power : (b : Bool) → acknowledges t 0x1000_0000 ≡ b → t.sticky ≡ false → (b && is_some (finite.get t.aps n)) ≡ true → Aims large n t
    by_power true power clear h = by_port (finite.get t.aps n) refl clear power h
    by_power false power clear h = absurd cc

    by_clear : (b : Bool) → t.sticky ≡ b → (not b && (acknowledges t 0x1000_0000 && is_some (finite.get t.aps n))) ≡ true → Aims large n t
    by_clear false clear h = by_power (acknowledges t 0x1000_0000) refl clear h
    by_clear true clear h = absurd cc

sound_all : (m : Memory) (ps : List WordOrByte) → AllByRecursion (MayPut m) ps → AllByRecursion IsPiece ps
sound_all m [] h = tt
sound_all m (p ∷ ps) h = (h.0.sound, sound_all m ps h.1)

-- ---- the law

pub loads_lay : (w : World) (n : ℕ) (image : Bytes) → CanLoad w n image → Laid w n image
loads_lay w n image can =
    let ps : List WordOrByte = pieces image in
    let may = pieces_may image w.target.words can.bytes in
    let lays : fold put w.target.words ps ≡ laid_memory w.target.words image = laid_by_pieces image w.target.words (bytes_fit image w.target.words can.bytes) in
    let there = laid_there image w.target.words can.rising can.bytes in
    let shows = subst (λ (m : Memory). AllByRecursion (Shows m) ps) (sym lays) (pieces_show image (laid_memory w.target.words image) there) in
    let port = can.port in
    let did = both n (omega (arith, port)) w ps (record { aims = can_parts w.target n (contains w.large n) can.aim can.narrow; free = can.free }) may (sound_all w.target.words ps may) shows in
    let count : length (results w (asked_all false n ps)) ≡ length ps = count_of w (asked_all false n ps) did.before ∙ count_all false n ps in
    record {
      goes = did.goes;
      words = did.words ∙ lays;
      same =
          same_found ps (λ i. slice_index (results w (load_calls n ps)) (length ps + i)) (slice_index (map (λ (p : WordOrByte). p.value) ps))
          (λ i. ap (λ (l : List ℕ). slice_index l (length ps + i)) did.found
          ∙ ap (λ (k : ℕ). slice_index (results w (asked_all false n ps) ++ map (λ (p : WordOrByte). p.value) ps) (k + i)) (sym count)
          ∙ index_past (results w (asked_all false n ps)) (map (λ (p : WordOrByte). p.value) ps) i)
          ∙ none_differs ps;
    }
