-- The warnings of a whole set.
use Rattle.std.proofs.Common.{◌≡◌, ◌∙◌, sym, ap, subst, Result, Ok, Err, IfOk, ℕ, suc, ◌+◌, ◌<◌, List, [], ◌∷◌, ◌++◌, length, take, get_or, append_assoc, arith}
use Rattle.std.proofs.lemmas.List.{take_more, append-nil, length-take-le}
use Rattle.dap_base.specs.declared.text.OutOfMemory.{OutOfMemory}
use Rattle.sequence_resolve.specs.declared.entry.SeqEntry.{SeqEntry}
use Rattle.sequence_resolve.specs.declared.entry.SeqSet.{SeqSet}
use Rattle.sequence_trees.specs.declared.spot.Spot.{Spot}
use Rattle.sequence_trees.specs.Trees.{SetTrees}
use Rattle.sequence_trees.specs.Order.{IsFirstFault}
use Rattle.sequence_trees.specs.Reading.{ReadsSet}
use Rattle.sequence_trees.proofs.SetLaws.{one_set, not_both}
use Rattle.seq_check.proofs.OneFault.{valid_or_faulty}
use Rattle.seq_check.specs.Calls.{set_calls}
use Rattle.seq_check.specs.Valid.{IsSound, IsValid}
use Rattle.set_warnings.specs.declared.warning.Warning.{Warning}
use Rattle.set_warnings.specs.Sequences.{is_called, entry_warnings, entries_warnings}
use Rattle.set_warnings.specs.Answers.{AreSetWarnings, valid, faulty, HasSetFault}

-- ---- sequences

module _ (trees : SetTrees) where
  entries-append : (n : ℕ) (front : List SeqEntry) (e : SeqEntry)
      → entries_warnings trees n (front ++ e ∷ []) ≡ entries_warnings trees n front ++ entry_warnings trees (is_called (set_calls trees) (n + length front)) e
  entries-append n [] e =
      let same : n ≡ n + 0 = omega arith in
      append-nil (entry_warnings trees (is_called (set_calls trees) n) e) ∙ ap (λ m. entry_warnings trees (is_called (set_calls trees) m) e) same
  entries-append n (x ∷ front) e =
      let same : suc n + length front ≡ n + suc (length front) = omega arith in
      let first = entry_warnings trees (is_called (set_calls trees) n) x in
      ap (λ ws. first ++ ws) (entries-append (suc n) front e ∙ ap (λ m. entries_warnings trees (suc n) front ++ entry_warnings trees (is_called (set_calls trees) m) e) same)
      ∙ sym (append_assoc first (entries_warnings trees (suc n) front) (entry_warnings trees (is_called (set_calls trees) (n + suc (length front))) e))

  pub entries_more : (xs : List SeqEntry) (i : ℕ) (x : SeqEntry) → i < length xs
      → entries_warnings trees 0 (take (i + 1) xs) ≡ entries_warnings trees 0 (take i xs) ++ entry_warnings trees (is_called (set_calls trees) i) (get_or xs i x)
  entries_more xs i x h =
      let size : length (take i xs) ≡ i = length-take-le i xs (omega (arith, h)) in
      let e : 0 + length (take i xs) ≡ i = omega (arith, size) in
      ap (entries_warnings trees 0) (take_more xs i x h) ∙ entries-append 0 (take i xs) (get_or xs i x)
      ∙ ap (λ m. entries_warnings trees 0 (take i xs) ++ entry_warnings trees (is_called (set_calls trees) m) (get_or xs i x)) e

-- ---- one list

pub one_list : (set : SeqSet) (x y : List Warning) → AreSetWarnings set x → AreSetWarnings set y → x ≡ y
one_list set x y (valid trees reads sound is) (valid others read all other) = is ∙ ap (λ t. entries_warnings t 0 set.entries) (one_set set trees others reads read) ∙ sym other
one_list set x y (valid trees reads sound is) (faulty kind spot first none) =
    absurd (valid_or_faulty set kind spot (record { trees = trees; reads = reads; sound = sound }) first)
one_list set x y (faulty kind spot first none) (valid trees reads sound is) =
    absurd (valid_or_faulty set kind spot (record { trees = trees; reads = reads; sound = sound }) first)
one_list set x y (faulty kind spot first none) (faulty k s f other) = none ∙ sym other

pub only_list : (set : SeqSet) (r : Result (List Warning) OutOfMemory) → IfOk r (AreSetWarnings set) → (other : List Warning) → AreSetWarnings set other → IfOk r (λ x. x ≡ other)
only_list set (Ok x) are other is = one_list set x other are is
only_list set (Err e) are other is = tt

pub faulty_list : (set : SeqSet) (none : List Warning) → HasSetFault set → none ≡ [] → AreSetWarnings set none
faulty_list set none f is = faulty f.0 f.1 f.2 is

pub only_faulty : (set : SeqSet) (none : List Warning) → HasSetFault set → none ≡ [] → (other : List Warning) → AreSetWarnings set other → none ≡ other
only_faulty set none f is other are = one_list set none other (faulty_list set none f is) are

-- the trees that were read are those of the valid set
pub read_list : (set : SeqSet) (trees : SetTrees) (r : Result (List Warning) OutOfMemory) → ReadsSet set trees → IsValid set
    → IfOk r (λ found. found ≡ entries_warnings trees 0 set.entries) → IfOk r (AreSetWarnings set)
read_list set trees (Ok found) reads is_valid is =
    valid trees reads (subst IsSound (one_set set is_valid.trees trees is_valid.reads reads) is_valid.sound) is
read_list set trees (Err e) reads is_valid is = tt

pub not_read : (set : SeqSet) (spot : Spot) → IsValid set → IsFirstFault set spot → ⊥
not_read set spot is_valid first = not_both set is_valid.trees spot is_valid.reads first
