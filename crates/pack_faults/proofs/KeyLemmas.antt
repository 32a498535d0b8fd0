-- Keys of faults, and where each is.
use Rattle.std.proofs.Common.{◌≡◌, ◌∙◌, ℕ, zero, suc, ◌+◌, ◌<◌, ◌==◌, Bool, true, false, cond, ◌&&◌, List, [], ◌∷◌, ◌++◌, length, drop, drop-cons, add-one, map, get_or, slice_set, Option, Some, None, option_map, Bor, bytes_eq, refl, ap, sym, subst, true≢false, eqb-true, arith}
use Rattle.std.specs.Ordering.{is_eq, ordering_then, nat_cmp}
use Rattle.std.specs.declared.cmp.Ordering.{Ordering}
use Rattle.std.specs.declared.cmp.Ordering.TheVariants.{Less, Equal, Greater}
use Rattle.std.specs.Cmp.{unsigned_tied, both_ways}
use Rattle.std.specs.Cmp.Lexicographic.{slice_cmp}
use Rattle.std.specs.Option.{option_cmp}
use Rattle.std.specs.BTreeMap.{BTreeMap, get}
use Rattle.std.proofs.lemmas.Map.Text.{is_eq-slice_cmp}
use Rattle.std.proofs.lemmas.Slice.Eq.{bytes_eq-Decides}
use Rattle.std.proofs.lemmas.Option.{same_Some}
use Rattle.std.proofs.lemmas.Bool.{and_parts}
use Rattle.device_tree.specs.Same.{same_text}
use Rattle.set_lines.proofs.SameLemmas.{text_equal}
use Rattle.pack_faults.specs.declared.answer.Found.{Found}
use Rattle.pack_faults.specs.declared.answer.PackFault.{PackFault}
use Rattle.pack_faults.specs.declared.keys.FoundKey.{FoundKey}
use Rattle.pack_faults.specs.declared.lined.LinedFault.{LinedFault}
use Rattle.pack_faults.specs.Keys.{KeyView, same_view, found_view, key_view, key_cmp, place_in_faults, KnowsFaultPlaces, fault_noted_at}
use Rattle.pack_faults.specs.Merged.{same_found}
use Rattle.pack_faults.specs.Lined.{lined_view}
use Rattle.pack_faults.specs.Steps.{numbers_with, with_found, with_each}
use Rattle.pack_faults.proofs.SameLemmas.{and_true, text_itself, number_itself}
use Rattle.sequence_resolve.proofs.WinnerLemmas.{not_first, later_at}

-- ---- what is the same is equal

view_equal_at : (v w : KeyView) → v.kind ≡ w.kind → v.sequence ≡ w.sequence → v.path ≡ w.path → v.part ≡ w.part → v.line ≡ w.line → v.column ≡ w.column → v.text ≡ w.text → v ≡ w
view_equal_at v w a b c d e f g =
    let one : v ≡ record v { kind = w.kind } = ap (λ x. record v { kind = x }) a in
    let two : record v { kind = w.kind } ≡ record v { kind = w.kind; sequence = w.sequence } = ap (λ x. record v { kind = w.kind; sequence = x }) b in
    let three : record v { kind = w.kind; sequence = w.sequence } ≡ record v { kind = w.kind; sequence = w.sequence; path = w.path } =
    ap (λ x. record v { kind = w.kind; sequence = w.sequence; path = x }) c in
    let four : record v { kind = w.kind; sequence = w.sequence; path = w.path } ≡ record w { line = v.line; column = v.column; text = v.text } =
    ap (λ x. record w { part = x; line = v.line; column = v.column; text = v.text }) d in
    let five : record w { line = v.line; column = v.column; text = v.text } ≡ record w { column = v.column; text = v.text } = ap (λ x. record w { line = x; column = v.column; text = v.text }) e in
    let six : record w { column = v.column; text = v.text } ≡ record w { text = v.text } = ap (λ x. record w { column = x; text = v.text }) f in
    let seven : record w { text = v.text } ≡ w = ap (λ x. record w { text = x }) g in
    one ∙ two ∙ three ∙ four ∙ five ∙ six ∙ seven

view_equal : (v w : KeyView) → same_view v w ≡ true → v ≡ w
view_equal v w e =
    let a = and_parts (v.kind == w.kind) _ e in
    let b = and_parts _ (same_text v.text w.text) a.1 in
    let c = and_parts (same_text v.sequence w.sequence) _ b.0 in
    let d = and_parts (bytes_eq v.path w.path) _ c.1 in
    let f = and_parts (v.part == w.part) _ d.1 in
    let g = and_parts (v.line == w.line) (v.column == w.column) f.1 in
    view_equal_at v w (eqb-true v.kind w.kind a.0) (text_equal v.sequence w.sequence c.0) ((bytes_eq-Decides v.path w.path).0 d.0) (eqb-true v.part w.part f.0)
    (eqb-true v.line w.line g.0) (eqb-true v.column w.column g.1) (text_equal v.text w.text b.1)

view_itself : (v : KeyView) → same_view v v ≡ true
view_itself v =
    and_true (v.kind == v.kind) _ (number_itself v.kind)
    (and_true _ (same_text v.text v.text)
    (and_true (same_text v.sequence v.sequence) _ (text_itself v.sequence)
    (and_true (bytes_eq v.path v.path) _ ((bytes_eq-Decides v.path v.path).1 refl)
    (and_true (v.part == v.part) _ (number_itself v.part) (and_true (v.line == v.line) (v.column == v.column) (number_itself v.line) (number_itself v.column)))))
    (text_itself v.text))

view_turned : (v w : KeyView) (b : Bool) → same_view v w ≡ false → same_view w v ≡ b → b ≡ false
view_turned v w true lacks is = absurd (true≢false (sym (subst (λ (x : KeyView). same_view v x ≡ true) (sym (view_equal w v is)) (view_itself v)) ∙ lacks))
view_turned v w false lacks is = refl

-- ---- keys that the order does not distinguish

eq_then : (a b : Ordering) → is_eq (ordering_then a b) ≡ (is_eq a && is_eq b)
eq_then Less b = refl
eq_then Equal b = refl
eq_then Greater b = refl

abbrev pub text_cmp : Bor (List ℕ) → Bor (List ℕ) → Ordering
text_cmp x y = slice_cmp nat_cmp x.now y.now

pub texts_tied : (a b : Option (Bor (List ℕ))) → is_eq (option_cmp text_cmp a b) ≡ same_text (option_map (λ w. w.now) a) (option_map (λ w. w.now) b)
texts_tied None None = refl
texts_tied None (Some y) = refl
texts_tied (Some x) None = refl
texts_tied (Some x) (Some y) = is_eq-slice_cmp x.now y.now

-- the same parts in the order of the fields
abbrev in_order : KeyView → KeyView → Bool
in_order v w = v.kind == w.kind && (v.line == w.line && (v.column == w.column && (v.part == w.part && (same_text v.sequence w.sequence && (bytes_eq v.path w.path && same_text v.text w.text)))))

reordered : (v w : KeyView) → in_order v w ≡ same_view v w
reordered v w = both_ways (in_order v w) (same_view v w) there back where
  there : in_order v w ≡ true → same_view v w ≡ true
  there e =
      let a = and_parts (v.kind == w.kind) _ e in
      let b = and_parts (v.line == w.line) _ a.1 in
      let c = and_parts (v.column == w.column) _ b.1 in
      let d = and_parts (v.part == w.part) _ c.1 in
      let f = and_parts (same_text v.sequence w.sequence) _ d.1 in
      let g = and_parts (bytes_eq v.path w.path) (same_text v.text w.text) f.1 in
      and_true (v.kind == w.kind) _ a.0 (and_true _ (same_text v.text w.text)
      (and_true (same_text v.sequence w.sequence) _ f.0 (and_true (bytes_eq v.path w.path) _ g.0 (and_true (v.part == w.part) _ d.0
      (and_true (v.line == w.line) (v.column == w.column) b.0 c.0)))) g.1)

  back : same_view v w ≡ true → in_order v w ≡ true
  back e = subst (λ (x : KeyView). in_order v x ≡ true) (view_equal v w e) (
      and_true (v.kind == v.kind) _ (number_itself v.kind) (and_true (v.line == v.line) _ (number_itself v.line) (and_true (v.column == v.column) _ (number_itself v.column)
      (and_true (v.part == v.part) _ (number_itself v.part) (and_true (same_text v.sequence v.sequence) _ (text_itself v.sequence)
      (and_true (bytes_eq v.path v.path) (same_text v.text v.text) ((bytes_eq-Decides v.path v.path).1 refl) (text_itself v.text)))))))

and_of : (a b c d : Bool) → a ≡ c → b ≡ d → (a && b) ≡ (c && d)
and_of a b c d p q = rw (p, q) refl

-- one field, and those after it
pub field : (a b : Ordering) (c d : Bool) → is_eq a ≡ c → is_eq b ≡ d → is_eq (ordering_then a b) ≡ (c && d)
field a b c d p q = eq_then a b ∙ and_of (is_eq a) (is_eq b) c d p q

pub key_tied : (p q : FoundKey) → is_eq (key_cmp p q) ≡ same_view (key_view p) (key_view q)
key_tied p q =
    field (nat_cmp p.kind q.kind) _ _ _ (unsigned_tied p.kind q.kind) (field (nat_cmp p.line q.line) _ _ _ (unsigned_tied p.line q.line)
    (field (nat_cmp p.column q.column) _ _ _ (unsigned_tied p.column q.column) (field (nat_cmp p.part q.part) _ _ _ (unsigned_tied p.part q.part)
    (field (option_cmp text_cmp p.sequence q.sequence) _ _ _ (texts_tied p.sequence q.sequence) (field (slice_cmp nat_cmp p.path.now q.path.now) (option_cmp text_cmp p.text q.text) _ _
    (is_eq-slice_cmp p.path.now q.path.now) (texts_tied p.text q.text))))))
    ∙ reordered (key_view p) (key_view q)

-- ---- where a fault is

none_suc : (o : Option ℕ) → option_map (λ j. suc j) o ≡ None → o ≡ None
none_suc None e = refl
none_suc (Some j) e = absurd cc

pub within_at : (b : Bool) (o : Option ℕ) (n i : ℕ) → ((j : ℕ) → o ≡ Some j → j < n) → cond b (Some 0) (option_map (λ j. suc j) o) ≡ Some i → i < n + 1
within_at true o n i less e = let same : 0 ≡ i = same_Some 0 i e in omega arith
within_at false None n i less e = absurd cc
within_at false (Some j) n i less e =
    let lt : j < n = less j refl in
    let same : suc j ≡ i = same_Some (suc j) i e in
    omega arith

pub place_within : (v : KeyView) (faults : List PackFault) (i : ℕ) → place_in_faults v faults ≡ Some i → i < length faults
place_within v [] i e = absurd cc
place_within v (p ∷ faults) i e =
    let lt : i < length faults + 1 = within_at (same_view v (found_view p.found)) (place_in_faults v faults) (length faults) i (λ j later. place_within v faults j later) e in
    omega arith

there_at : (k : ℕ) (x : Found) (p : PackFault) (faults : List PackFault) (i : ℕ) (d : PackFault) (b : Bool) → same_found x p.found ≡ b
    → ((j : ℕ) → place_in_faults (found_view x) faults ≡ Some j → with_found k x faults ≡ fault_noted_at k faults j d)
    → cond b (Some 0) (option_map (λ j. suc j) (place_in_faults (found_view x) faults)) ≡ Some i
    → cond b (record { found = p.found; sets = numbers_with k p.sets } ∷ faults) (p ∷ with_found k x faults) ≡ fault_noted_at k (p ∷ faults) i d
there_at k x p faults i d true is later e = rw (← same_Some 0 i e) refl
there_at k x p faults i d false is later e =
    let at = later_at (place_in_faults (found_view x) faults) i e in
    rw at.2 (ap (λ ps. p ∷ ps) (later at.0 at.1))

pub found_there : (k : ℕ) (x : Found) (faults : List PackFault) (i : ℕ) (d : PackFault) → place_in_faults (found_view x) faults ≡ Some i → with_found k x faults ≡ fault_noted_at k faults i d
found_there k x [] i d e = absurd cc
found_there k x (p ∷ faults) i d e = there_at k x p faults i d (same_found x p.found) refl (λ j later. found_there k x faults j d later) e

pub found_last : (k : ℕ) (x : Found) (faults : List PackFault) → place_in_faults (found_view x) faults ≡ None → with_found k x faults ≡ faults ++ record { found = x; sets = k ∷ [] } ∷ []
found_last k x [] e = refl
found_last k x (p ∷ faults) e =
    let parts = not_first (same_found x p.found) (place_in_faults (found_view x) faults) e in
    rw parts.0 (ap (λ ps. p ∷ ps) (found_last k x faults parts.1))

-- a change of the sets moves nothing
place_noted : (v : KeyView) (faults : List PackFault) (i k : ℕ) (d : PackFault) → i < length faults → place_in_faults v (fault_noted_at k faults i d) ≡ place_in_faults v faults
place_noted v [] i k d lt = absurd (omega arith)
place_noted v (p ∷ faults) zero k d lt = refl
place_noted v (p ∷ faults) (suc i) k d lt = ap (λ o. cond (same_view v (found_view p.found)) (Some 0) (option_map (λ j. suc j) o)) (place_noted v faults i k d (omega arith))

-- one more at the end
place_before : (v : KeyView) (faults : List PackFault) (p : PackFault) → same_view v (found_view p.found) ≡ false → place_in_faults v (faults ++ p ∷ []) ≡ place_in_faults v faults
place_before v [] p e = rw e refl
place_before v (q ∷ faults) p e = ap (λ o. cond (same_view v (found_view q.found)) (Some 0) (option_map (λ j. suc j) o)) (place_before v faults p e)

place_last : (v : KeyView) (faults : List PackFault) (p : PackFault) → place_in_faults v faults ≡ None → same_view v (found_view p.found) ≡ true → place_in_faults v (faults ++ p ∷ []) ≡ Some (length faults)
place_last v [] p none e = rw e refl
place_last v (q ∷ faults) p none e =
    let parts = not_first (same_view v (found_view q.found)) (place_in_faults v faults) none in
    rw (parts.0, place_last v faults p parts.1 e) refl

-- ---- the map

-- one more in the map and in the list
pub knows_more : (old new : BTreeMap FoundKey ℕ) (faults : List PackFault) (key : FoundKey) (x : Found) (sets : List ℕ) → KnowsFaultPlaces old faults → key_view key ≡ found_view x
    → get key_cmp old key ≡ None → ((other : FoundKey) → get key_cmp new other ≡ cond (is_eq (key_cmp key other)) (Some (length faults)) (get key_cmp old other))
    → KnowsFaultPlaces new (faults ++ record { found = x; sets = sets } ∷ [])
knows_more old new faults key x sets knows is none updates = λ other. updates other ∙ at other (is_eq (key_cmp key other)) refl where
  at : (other : FoundKey) (b : Bool) → is_eq (key_cmp key other) ≡ b
      → cond b (Some (length faults)) (get key_cmp old other) ≡ place_in_faults (key_view other) (faults ++ record { found = x; sets = sets } ∷ [])
  at other true tied =
      let same : key_view key ≡ key_view other = view_equal (key_view key) (key_view other) (sym (key_tied key other) ∙ tied) in
      let absent : place_in_faults (key_view other) faults ≡ None = subst (λ (v : KeyView). place_in_faults v faults ≡ None) same (sym (knows key) ∙ none) in
      let here : same_view (key_view other) (found_view x) ≡ true = subst (λ (v : KeyView). same_view v (found_view x) ≡ true) (sym is ∙ same) (view_itself (found_view x)) in
      sym (place_last (key_view other) faults (record { found = x; sets = sets }) absent here)
  at other false tied =
      let lacks : same_view (key_view key) (key_view other) ≡ false = sym (key_tied key other) ∙ tied in
      let apart : same_view (key_view other) (found_view x) ≡ false =
      subst (λ (v : KeyView). same_view (key_view other) v ≡ false) is (view_turned (key_view key) (key_view other) (same_view (key_view other) (key_view key)) lacks refl) in
      knows other ∙ sym (place_before (key_view other) faults (record { found = x; sets = sets }) apart)

pub knows_noted : (places : BTreeMap FoundKey ℕ) (faults : List PackFault) (i k : ℕ) (d : PackFault) → KnowsFaultPlaces places faults → i < length faults → KnowsFaultPlaces places (fault_noted_at k faults i d)
knows_noted places faults i k d knows lt = λ key. knows key ∙ sym (place_noted (key_view key) faults i k d lt)

-- ---- as the code has it

pub there_known : (places : BTreeMap FoundKey ℕ) (faults : List PackFault) (key : FoundKey) (x : Found) (o : Option ℕ) → KnowsFaultPlaces places faults → key_view key ≡ found_view x → o ≡ get key_cmp places key
    → place_in_faults (found_view x) faults ≡ o
there_known places faults key x o knows is e = ap (λ v. place_in_faults v faults) (sym is) ∙ sym (knows key) ∙ sym e

pub noted_same : (faults : List PackFault) (i n : ℕ) (now d : PackFault) (sets : List ℕ) → i < length faults → now ≡ get_or faults i now → sets ≡ numbers_with n now.sets
    → slice_set faults i (record { found = now.found; sets = sets }) ≡ fault_noted_at n faults i d
noted_same faults i n now d sets lt at e =
    let same : now ≡ get_or faults i d = at ∙ get_or-default faults i now d lt in
    ap (λ (ns : List ℕ). slice_set faults i (record { found = now.found; sets = ns })) e
    ∙ ap (λ (p : PackFault). slice_set faults i (record { found = p.found; sets = numbers_with n p.sets })) same where
      get_or-default : (xs : List PackFault) (j : ℕ) (a b : PackFault) → j < length xs → get_or xs j a ≡ get_or xs j b
      get_or-default [] j a b less = absurd (omega arith)
      get_or-default (x ∷ xs) zero a b less = refl
      get_or-default (x ∷ xs) (suc j) a b less = get_or-default xs j a b (omega arith)

pub each_next : (n : ℕ) (found : List LinedFault) (i : ℕ) (one : LinedFault) (list : List PackFault) → i < length found → one ≡ get_or found i one
    → with_each n (map lined_view (drop i found)) list ≡ with_each n (map lined_view (drop (i + 1) found)) (with_found n (lined_view one) list)
each_next n found i one list lt at =
    let opened : drop i found ≡ one ∷ drop (i + 1) found = rw (add-one, drop-cons found i one) (ap (λ y. y ∷ drop (suc i) found) (sym at)) in
    ap (λ fs. with_each n (map lined_view fs) list) opened
