-- The line of a place.
use Rattle.std.proofs.Common.{◌≡◌, ◌∙◌, ℕ, zero, suc, ◌+◌, ◌-◌, ◌<◌, ◌≤◌, ◌==◌, nat_le, Bool, true, false, cond, List, [], ◌∷◌, drop, map, Option, Some, None, option_map, find, bytes_eq, refl, ap, sym, arith}
use Rattle.std.specs.List.{before_first, after_first, slice_get, AllByRecursion, IsDistinct}
use Rattle.std.specs.Option.{option_and_then}
use Rattle.std.proofs.lemmas.Bool.{leb-true, and_parts}
use Rattle.std.proofs.lemmas.Option.{same_Some, none-some}
use Rattle.std.proofs.lemmas.Map.Keys.{IsDistinct-head, IsDistinct-tail}
use Rattle.std.proofs.lemmas.Slice.Eq.{bytes_eq-Decides}
use Rattle.device_tree.specs.Same.{same_text}
use Rattle.sequence_resolve.specs.declared.entry.SeqEntry.{SeqEntry}
use Rattle.sequence_resolve.specs.declared.entry.SeqSet.{SeqSet}
use Rattle.sequence_trees.specs.declared.spot.Part.{Part}
use Rattle.sequence_trees.specs.declared.spot.Spot.{Spot}
use Rattle.set_lines.specs.Lines.{line_after, text_along, text_in, line_of}
use Rattle.set_lines.specs.Rests.{rest_after, rest_of, follows, from_named, AreLast}
use Rattle.set_lines.proofs.SameLemmas.{text_equal, same_part}
use Rattle.sequence_trees.specs.Parts.{part_rank}

pub next_rest : (n : ℕ) (text : List ℕ) → 0 < n → rest_after n text ≡ rest_after (n - 1) (after_first (λ b. b == 10) text)
next_rest zero text some = absurd (omega arith)
next_rest (suc n) text some = let e : suc n - 1 ≡ n = omega arith in rw e refl

pub last_rest : (n : ℕ) (text : List ℕ) → n ≤ 0 → rest_after n text ≡ text
last_rest zero text none = refl
last_rest (suc n) text none = absurd (omega arith)

-- a line is the first one of the text from it on
line_first : (n : ℕ) (text : List ℕ) → line_after n text ≡ before_first (λ b. b == 10) (rest_after n text)
line_first zero text = refl
line_first (suc n) text = line_first n (after_first (λ b. b == 10) text)

rest_more : (m n : ℕ) (text : List ℕ) → rest_after (m + n) text ≡ rest_after n (rest_after m text)
rest_more zero n text = let e : 0 + n ≡ n = omega arith in rw e refl
rest_more (suc m) n text = (let e : suc m + n ≡ suc (m + n) = omega arith in rw e (rest_more m n (after_first (λ b. b == 10) text)))

-- ---- the sequence of a place

none_at_all : (name : List ℕ) (xs : List SeqEntry) → AllByRecursion (λ y. bytes_eq name y ≡ false) (map (λ e. e.name) xs) → from_named name xs ≡ None
none_at_all name [] all = refl
none_at_all name (x ∷ xs) all = rw all.0 (none_at_all name xs all.1)

none_later : (name : List ℕ) (xs : List SeqEntry) (k : ℕ) → AllByRecursion (λ y. bytes_eq name y ≡ false) (map (λ e. e.name) xs) → from_named name (drop k xs) ≡ None
none_later name xs zero all = none_at_all name xs all
none_later name [] (suc k) all = refl
none_later name (x ∷ xs) (suc k) all = none_later name xs k all.1

-- one of the last sequences that has the name is the first that has it
named_after : (name : List ℕ) (x : SeqEntry) (xs : List SeqEntry) (k : ℕ) (found : List SeqEntry) (b : Bool) → bytes_eq name x.name ≡ b
    → AllByRecursion (λ y. bytes_eq x.name y ≡ false) (map (λ e. e.name) xs) → from_named name (drop k xs) ≡ Some found → from_named name xs ≡ Some found
    → cond b (Some (x ∷ xs)) (from_named name xs) ≡ Some found
named_after name x xs k found true same differ e later =
    let is : name ≡ x.name = (bytes_eq-Decides name x.name).0 same in
    let lacks : from_named name (drop k xs) ≡ None = ap (λ n. from_named n (drop k xs)) is ∙ none_later x.name xs k differ in
    absurd (none-some found (sym lacks ∙ e))
named_after name x xs k found false same differ e later = later

named_last : (name : List ℕ) (xs : List SeqEntry) (k : ℕ) (found : List SeqEntry) → IsDistinct bytes_eq (map (λ e. e.name) xs) → from_named name (drop k xs) ≡ Some found
    → from_named name xs ≡ Some found
named_last name xs zero found distinct e = e
named_last name [] (suc k) found distinct e = e
named_last name (x ∷ xs) (suc k) found distinct e =
    let names = map (λ (e : SeqEntry). e.name) xs in
    named_after name x xs k found (bytes_eq name x.name) refl (IsDistinct-head bytes_eq x.name names distinct) e
    (named_last name xs k found (IsDistinct-tail bytes_eq x.name names distinct) e)

pub named_in : (set : SeqSet) (last : List SeqEntry) (name : List ℕ) (found : List SeqEntry) → IsDistinct bytes_eq (map (λ e. e.name) set.entries) → AreLast set last
    → Some found ≡ from_named name last → Some found ≡ from_named name set.entries
named_in set last name found distinct is e =
    sym (named_last name set.entries is.passed found distinct (ap (from_named name) (sym is.are) ∙ sym e))

tail_after : (x : SeqEntry) (xs found : List SeqEntry) (b : Bool) (later : Option (List SeqEntry)) → (later ≡ Some found → (k : ℕ) × (found ≡ drop k xs))
    → cond b (Some (x ∷ xs)) later ≡ Some found → (k : ℕ) × (found ≡ drop k (x ∷ xs))
tail_after x xs found true later of_later e = (0, sym (same_Some (x ∷ xs) found e))
tail_after x xs found false later of_later e = (let tail = of_later e in (suc tail.0, tail.1))

named_tail : (name : List ℕ) (xs found : List SeqEntry) → from_named name xs ≡ Some found → (k : ℕ) × (found ≡ drop k xs)
named_tail name [] found e = absurd cc
named_tail name (x ∷ xs) found e = tail_after x xs found (bytes_eq name x.name) (from_named name xs) (λ is. named_tail name xs found is) e

pub tail_of : (set : SeqSet) (name : List ℕ) (found : List SeqEntry) → Some found ≡ from_named name set.entries → AreLast set found
tail_of set name found e = (let tail = named_tail name set.entries found (sym e) in record { passed = tail.0; are = tail.1 })

-- the first of them is the sequence of the name
first_after : (x : SeqEntry) (xs : List SeqEntry) (b : Bool) (entry : Option SeqEntry) (later : Option (List SeqEntry)) → entry ≡ option_and_then (λ ys. slice_get ys 0) later
    → cond b (Some x) entry ≡ option_and_then (λ ys. slice_get ys 0) (cond b (Some (x ∷ xs)) later)
first_after x xs true entry later e = refl
first_after x xs false entry later e = e

named_first : (name : List ℕ) (xs : List SeqEntry) → find (λ e. bytes_eq name e.name) xs ≡ option_and_then (λ ys. slice_get ys 0) (from_named name xs)
named_first name [] = refl
named_first name (x ∷ xs) =
    first_after x xs (bytes_eq name x.name) (find (λ e. bytes_eq name e.name) xs) (from_named name xs) (named_first name xs)

text_at : (set : SeqSet) (name path : List ℕ) (part : Part) (found : Option (List SeqEntry)) → found ≡ from_named name set.entries
    → text_in set (Some name) path part ≡ option_and_then (λ e. text_along part path e.steps) (option_and_then (λ ys. slice_get ys 0) found)
text_at set name path part found e =
    ap (option_and_then (λ (e : SeqEntry). text_along part path e.steps)) (named_first name set.entries ∙ ap (option_and_then (λ (ys : List SeqEntry). slice_get ys 0)) (sym e))

-- the text from the line of a place in a sequence on, by what was found: the sequence, its entry, and the text
pub rest_in : (set : SeqSet) (spot : Spot) (name : List ℕ) (found : Option (List SeqEntry)) (entry : Option SeqEntry) (text : Option (List ℕ)) → spot.sequence ≡ Some name
    → found ≡ from_named name set.entries → entry ≡ option_and_then (λ ys. slice_get ys 0) found → text ≡ option_and_then (λ e. text_along spot.part spot.path e.steps) entry
    → rest_of set spot ≡ option_map (rest_after (spot.place.line - 1)) text
rest_in set spot name found entry text named e entry_is text_is =
    ap (option_map (rest_after (spot.place.line - 1)))
    (ap (λ s. text_in set s spot.path spot.part) named ∙ text_at set name spot.path spot.part found e
    ∙ ap (option_and_then (λ (x : SeqEntry). text_along spot.part spot.path x.steps)) (sym entry_is) ∙ sym text_is)

-- the line of a place is the first one of the text from there on
pub line_at : (set : SeqSet) (spot : Spot) (rest line : List ℕ) → Some rest ≡ rest_of set spot → line ≡ before_first (λ b. b == 10) rest → Some line ≡ line_of set spot
line_at set spot rest line is first =
    ap (λ t. Some t) first ∙ ap (option_map (before_first (λ b. b == 10))) is
    ∙ first_of (spot.place.line - 1) (text_in set spot.sequence spot.path spot.part) where
      first_of : (n : ℕ) (text : Option (List ℕ)) → option_map (before_first (λ b. b == 10)) (option_map (rest_after n) text) ≡ option_map (line_after n) text
      first_of n None = refl
      first_of n (Some t) = ap (λ x. Some x) (sym (line_first n t))

-- the text from a place on, found from an earlier one in the same text
pub rest_later : (set : SeqSet) (before spot : Spot) (passed : ℕ) (old rest : List ℕ) → follows before spot ≡ true → rest_of set before ≡ Some old
    → passed ≡ (spot.place.line - 1) - (before.place.line - 1) → rest ≡ rest_after passed old → rest_of set spot ≡ Some rest
rest_later set before spot passed old rest same is far new =
    let a = and_parts (same_text before.sequence spot.sequence) _ same in
    let b = and_parts (bytes_eq before.path spot.path) _ a.1 in
    let c = and_parts (part_rank before.part == part_rank spot.part) (nat_le before.place.line spot.place.line) b.1 in
    let le : before.place.line ≤ spot.place.line = leb-true before.place.line spot.place.line c.1 in
    let sum : (before.place.line - 1) + passed ≡ spot.place.line - 1 = omega (arith, le, far) in
    let text : text_in set spot.sequence spot.path spot.part ≡ text_in set before.sequence before.path before.part =
    sym (ap (λ s. text_in set s before.path before.part) (text_equal before.sequence spot.sequence a.0)
    ∙ ap (λ p. text_in set spot.sequence p before.part) ((bytes_eq-Decides before.path spot.path).0 b.0)
    ∙ ap (λ p. text_in set spot.sequence spot.path p) (same_part before.part spot.part c.0)) in
    ap (option_map (rest_after (spot.place.line - 1))) text ∙ ap (λ n. option_map (rest_after n) (text_in set before.sequence before.path before.part)) (sym sum)
    ∙ on (before.place.line - 1) (text_in set before.sequence before.path before.part) is where
      on : (m : ℕ) (t : Option (List ℕ)) → option_map (rest_after m) t ≡ Some old → option_map (rest_after (m + passed)) t ≡ Some rest
      on m None none = absurd cc
      on m (Some t) there = ap (λ x. Some x) (rest_more m passed t ∙ ap (rest_after passed) (same_Some (rest_after m t) old there) ∙ sym new)
