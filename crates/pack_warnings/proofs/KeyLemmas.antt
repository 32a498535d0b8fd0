-- Keys of warnings, and where each stands.
use Rattle.std.proofs.Common.{◌≡◌, ◌∙◌, ℕ, zero, suc, ◌+◌, ◌<◌, ◌==◌, Bool, true, false, cond, ◌&&◌, List, [], ◌∷◌, ◌++◌, length, drop, drop-cons, add-one, map, get_or, slice_set, Option, Some, None, option_map, bytes_eq, refl, ap, sym, subst, true≢false, eqb-true, arith}
use Rattle.std.specs.Ordering.{is_eq, nat_cmp}
use Rattle.std.specs.Cmp.{unsigned_tied, both_ways}
use Rattle.std.specs.Cmp.Lexicographic.{slice_cmp}
use Rattle.std.specs.Option.{option_cmp}
use Rattle.std.specs.BTreeMap.{BTreeMap, get}
use Rattle.std.proofs.lemmas.Map.Text.{is_eq-slice_cmp}
use Rattle.std.proofs.lemmas.Slice.Eq.{bytes_eq-Decides}
use Rattle.std.proofs.lemmas.Option.{same_Some}
use Rattle.std.proofs.lemmas.Bool.{and_parts}
use Rattle.device_tree.specs.Same.{same_text}
use Rattle.set_lines.proofs.SameLemmas.{text_equal}
use Rattle.pack_faults.specs.Steps.{numbers_with}
use Rattle.pack_faults.proofs.SameLemmas.{and_true, text_itself, number_itself}
use Rattle.pack_faults.proofs.KeyLemmas.{text_cmp, texts_tied, field, within_at}
use Rattle.pack_warnings.specs.declared.answer.FoundWarning.{FoundWarning}
use Rattle.pack_warnings.specs.declared.answer.PackWarning.{PackWarning}
use Rattle.pack_warnings.specs.declared.keys.WarningKey.{WarningKey}
use Rattle.pack_warnings.specs.declared.lined.LinedWarning.{LinedWarning}
use Rattle.pack_warnings.specs.Keys.{WarningKeyView, same_warning_view, warning_found_view, warning_key_view, warning_key_cmp, place_in_warnings, KnowsWarningPlaces, warning_noted_at}
use Rattle.pack_warnings.specs.Lined.{lined_warning_view}
use Rattle.pack_warnings.specs.Merged.{same_warning, with_warning, with_each_warning}
use Rattle.sequence_resolve.proofs.WinnerLemmas.{not_first, later_at}

-- ---- what is the same is equal

view_equal_at : (v w : WarningKeyView) → v.kind ≡ w.kind → v.sequence ≡ w.sequence → v.path ≡ w.path → v.part ≡ w.part → v.line ≡ w.line → v.column ≡ w.column → v.name ≡ w.name → v.text ≡ w.text → v ≡ w
view_equal_at v w a b c d e f g h =
    let one : v ≡ record v { kind = w.kind } = ap (λ x. record v { kind = x }) a in
    let two : record v { kind = w.kind } ≡ record v { kind = w.kind; sequence = w.sequence } = ap (λ x. record v { kind = w.kind; sequence = x }) b in
    let three : record v { kind = w.kind; sequence = w.sequence } ≡ record w { part = v.part; line = v.line; column = v.column; name = v.name; text = v.text } =
    ap (λ x. record v { kind = w.kind; sequence = w.sequence; path = x }) c in
    let four : record w { part = v.part; line = v.line; column = v.column; name = v.name; text = v.text } ≡ record w { line = v.line; column = v.column; name = v.name; text = v.text } =
    ap (λ x. record w { part = x; line = v.line; column = v.column; name = v.name; text = v.text }) d in
    let five : record w { line = v.line; column = v.column; name = v.name; text = v.text } ≡ record w { column = v.column; name = v.name; text = v.text } =
    ap (λ x. record w { line = x; column = v.column; name = v.name; text = v.text }) e in
    let six : record w { column = v.column; name = v.name; text = v.text } ≡ record w { name = v.name; text = v.text } = ap (λ x. record w { column = x; name = v.name; text = v.text }) f in
    let seven : record w { name = v.name; text = v.text } ≡ record w { text = v.text } = ap (λ x. record w { name = x; text = v.text }) g in
    let eight : record w { text = v.text } ≡ w = ap (λ x. record w { text = x }) h in
    one ∙ two ∙ three ∙ four ∙ five ∙ six ∙ seven ∙ eight

view_equal : (v w : WarningKeyView) → same_warning_view v w ≡ true → v ≡ w
view_equal v w e =
    let a = and_parts (v.kind == w.kind) _ e in
    let b = and_parts _ (same_text v.name w.name && same_text v.text w.text) a.1 in
    let c = and_parts (same_text v.sequence w.sequence) _ b.0 in
    let d = and_parts (bytes_eq v.path w.path) _ c.1 in
    let f = and_parts (v.part == w.part) _ d.1 in
    let g = and_parts (v.line == w.line) (v.column == w.column) f.1 in
    let h = and_parts (same_text v.name w.name) (same_text v.text w.text) b.1 in
    view_equal_at v w (eqb-true v.kind w.kind a.0) (text_equal v.sequence w.sequence c.0) ((bytes_eq-Decides v.path w.path).0 d.0) (eqb-true v.part w.part f.0)
    (eqb-true v.line w.line g.0) (eqb-true v.column w.column g.1) (text_equal v.name w.name h.0) (text_equal v.text w.text h.1)

view_itself : (v : WarningKeyView) → same_warning_view v v ≡ true
view_itself v =
    and_true (v.kind == v.kind) _ (number_itself v.kind)
    (and_true _ (same_text v.name v.name && same_text v.text v.text)
    (and_true (same_text v.sequence v.sequence) _ (text_itself v.sequence)
    (and_true (bytes_eq v.path v.path) _ ((bytes_eq-Decides v.path v.path).1 refl)
    (and_true (v.part == v.part) _ (number_itself v.part) (and_true (v.line == v.line) (v.column == v.column) (number_itself v.line) (number_itself v.column)))))
    (and_true (same_text v.name v.name) (same_text v.text v.text) (text_itself v.name) (text_itself v.text)))

view_turned : (v w : WarningKeyView) (b : Bool) → same_warning_view v w ≡ false → same_warning_view w v ≡ b → b ≡ false
view_turned v w true lacks is = absurd (true≢false (sym (subst (λ (x : WarningKeyView). same_warning_view v x ≡ true) (sym (view_equal w v is)) (view_itself v)) ∙ lacks))
view_turned v w false lacks is = refl

-- ---- keys that the order does not distinguish

-- the same parts in the order of the fields
abbrev in_order : WarningKeyView → WarningKeyView → Bool
in_order v w = v.kind == w.kind && (v.line == w.line && (v.column == w.column && (v.part == w.part && (same_text v.sequence w.sequence
    && (bytes_eq v.path w.path && (same_text v.name w.name && same_text v.text w.text))))))

reordered : (v w : WarningKeyView) → in_order v w ≡ same_warning_view v w
reordered v w = both_ways (in_order v w) (same_warning_view v w) there back where
  there : in_order v w ≡ true → same_warning_view v w ≡ true
  there e =
      let a = and_parts (v.kind == w.kind) _ e in
      let b = and_parts (v.line == w.line) _ a.1 in
      let c = and_parts (v.column == w.column) _ b.1 in
      let d = and_parts (v.part == w.part) _ c.1 in
      let f = and_parts (same_text v.sequence w.sequence) _ d.1 in
      let g = and_parts (bytes_eq v.path w.path) (same_text v.name w.name && same_text v.text w.text) f.1 in
      and_true (v.kind == w.kind) _ a.0 (and_true _ (same_text v.name w.name && same_text v.text w.text)
      (and_true (same_text v.sequence w.sequence) _ f.0 (and_true (bytes_eq v.path w.path) _ g.0 (and_true (v.part == w.part) _ d.0
      (and_true (v.line == w.line) (v.column == w.column) b.0 c.0)))) g.1)

  back : same_warning_view v w ≡ true → in_order v w ≡ true
  back e = subst (λ (x : WarningKeyView). in_order v x ≡ true) (view_equal v w e) (
      and_true (v.kind == v.kind) _ (number_itself v.kind) (and_true (v.line == v.line) _ (number_itself v.line) (and_true (v.column == v.column) _ (number_itself v.column)
      (and_true (v.part == v.part) _ (number_itself v.part) (and_true (same_text v.sequence v.sequence) _ (text_itself v.sequence)
      (and_true (bytes_eq v.path v.path) _ ((bytes_eq-Decides v.path v.path).1 refl)
      (and_true (same_text v.name v.name) (same_text v.text v.text) (text_itself v.name) (text_itself v.text))))))))

pub key_tied : (p q : WarningKey) → is_eq (warning_key_cmp p q) ≡ same_warning_view (warning_key_view p) (warning_key_view q)
key_tied p q =
    field (nat_cmp p.kind q.kind) _ _ _ (unsigned_tied p.kind q.kind) (field (nat_cmp p.line q.line) _ _ _ (unsigned_tied p.line q.line)
    (field (nat_cmp p.column q.column) _ _ _ (unsigned_tied p.column q.column) (field (nat_cmp p.part q.part) _ _ _ (unsigned_tied p.part q.part)
    (field (option_cmp text_cmp p.sequence q.sequence) _ _ _ (texts_tied p.sequence q.sequence) (field (slice_cmp nat_cmp p.path.now q.path.now) _ _ _
    (is_eq-slice_cmp p.path.now q.path.now) (field (option_cmp text_cmp p.name q.name) (option_cmp text_cmp p.text q.text) _ _
    (texts_tied p.name q.name) (texts_tied p.text q.text)))))))
    ∙ reordered (warning_key_view p) (warning_key_view q)

-- ---- where a warning stands

pub place_within : (v : WarningKeyView) (warnings : List PackWarning) (i : ℕ) → place_in_warnings v warnings ≡ Some i → i < length warnings
place_within v [] i e = absurd cc
place_within v (p ∷ warnings) i e =
    let lt : i < length warnings + 1 = within_at (same_warning_view v (warning_found_view p.found)) (place_in_warnings v warnings) (length warnings) i (λ j later. place_within v warnings j later) e in
    omega arith

there_at : (k : ℕ) (x : FoundWarning) (p : PackWarning) (warnings : List PackWarning) (i : ℕ) (d : PackWarning) (b : Bool) → same_warning x p.found ≡ b
    → ((j : ℕ) → place_in_warnings (warning_found_view x) warnings ≡ Some j → with_warning k x warnings ≡ warning_noted_at k warnings j d)
    → cond b (Some 0) (option_map (λ j. suc j) (place_in_warnings (warning_found_view x) warnings)) ≡ Some i
    → cond b (record { found = p.found; sets = numbers_with k p.sets } ∷ warnings) (p ∷ with_warning k x warnings) ≡ warning_noted_at k (p ∷ warnings) i d
there_at k x p warnings i d true is later e = rw (← same_Some 0 i e) refl
there_at k x p warnings i d false is later e =
    let at = later_at (place_in_warnings (warning_found_view x) warnings) i e in
    rw at.2 (ap (λ ps. p ∷ ps) (later at.0 at.1))

pub found_there : (k : ℕ) (x : FoundWarning) (warnings : List PackWarning) (i : ℕ) (d : PackWarning) → place_in_warnings (warning_found_view x) warnings ≡ Some i → with_warning k x warnings ≡ warning_noted_at k warnings i d
found_there k x [] i d e = absurd cc
found_there k x (p ∷ warnings) i d e = there_at k x p warnings i d (same_warning x p.found) refl (λ j later. found_there k x warnings j d later) e

pub found_last : (k : ℕ) (x : FoundWarning) (warnings : List PackWarning) → place_in_warnings (warning_found_view x) warnings ≡ None → with_warning k x warnings ≡ warnings ++ record { found = x; sets = k ∷ [] } ∷ []
found_last k x [] e = refl
found_last k x (p ∷ warnings) e =
    let parts = not_first (same_warning x p.found) (place_in_warnings (warning_found_view x) warnings) e in
    rw parts.0 (ap (λ ps. p ∷ ps) (found_last k x warnings parts.1))

-- a change of the sets moves nothing
place_noted : (v : WarningKeyView) (warnings : List PackWarning) (i k : ℕ) (d : PackWarning) → i < length warnings → place_in_warnings v (warning_noted_at k warnings i d) ≡ place_in_warnings v warnings
place_noted v [] i k d lt = absurd (omega arith)
place_noted v (p ∷ warnings) zero k d lt = refl
place_noted v (p ∷ warnings) (suc i) k d lt = ap (λ o. cond (same_warning_view v (warning_found_view p.found)) (Some 0) (option_map (λ j. suc j) o)) (place_noted v warnings i k d (omega arith))

-- one more at the end
place_before : (v : WarningKeyView) (warnings : List PackWarning) (p : PackWarning) → same_warning_view v (warning_found_view p.found) ≡ false → place_in_warnings v (warnings ++ p ∷ []) ≡ place_in_warnings v warnings
place_before v [] p e = rw e refl
place_before v (q ∷ warnings) p e = ap (λ o. cond (same_warning_view v (warning_found_view q.found)) (Some 0) (option_map (λ j. suc j) o)) (place_before v warnings p e)

place_last : (v : WarningKeyView) (warnings : List PackWarning) (p : PackWarning) → place_in_warnings v warnings ≡ None → same_warning_view v (warning_found_view p.found) ≡ true → place_in_warnings v (warnings ++ p ∷ []) ≡ Some (length warnings)
place_last v [] p none e = rw e refl
place_last v (q ∷ warnings) p none e =
    let parts = not_first (same_warning_view v (warning_found_view q.found)) (place_in_warnings v warnings) none in
    rw (parts.0, place_last v warnings p parts.1 e) refl

-- ---- the map

-- one more in the map and in the list
pub knows_more : (old new : BTreeMap WarningKey ℕ) (warnings : List PackWarning) (key : WarningKey) (x : FoundWarning) (sets : List ℕ) → KnowsWarningPlaces old warnings → warning_key_view key ≡ warning_found_view x
    → get warning_key_cmp old key ≡ None → ((other : WarningKey) → get warning_key_cmp new other ≡ cond (is_eq (warning_key_cmp key other)) (Some (length warnings)) (get warning_key_cmp old other))
    → KnowsWarningPlaces new (warnings ++ record { found = x; sets = sets } ∷ [])
knows_more old new warnings key x sets knows is none updates = λ other. updates other ∙ at other (is_eq (warning_key_cmp key other)) refl where
  at : (other : WarningKey) (b : Bool) → is_eq (warning_key_cmp key other) ≡ b
      → cond b (Some (length warnings)) (get warning_key_cmp old other) ≡ place_in_warnings (warning_key_view other) (warnings ++ record { found = x; sets = sets } ∷ [])
  at other true tied =
      let same : warning_key_view key ≡ warning_key_view other = view_equal (warning_key_view key) (warning_key_view other) (sym (key_tied key other) ∙ tied) in
      let absent : place_in_warnings (warning_key_view other) warnings ≡ None = subst (λ (v : WarningKeyView). place_in_warnings v warnings ≡ None) same (sym (knows key) ∙ none) in
      let here : same_warning_view (warning_key_view other) (warning_found_view x) ≡ true = subst (λ (v : WarningKeyView). same_warning_view v (warning_found_view x) ≡ true) (sym is ∙ same) (view_itself (warning_found_view x)) in
      sym (place_last (warning_key_view other) warnings (record { found = x; sets = sets }) absent here)
  at other false tied =
      let lacks : same_warning_view (warning_key_view key) (warning_key_view other) ≡ false = sym (key_tied key other) ∙ tied in
      let apart : same_warning_view (warning_key_view other) (warning_found_view x) ≡ false =
      subst (λ (v : WarningKeyView). same_warning_view (warning_key_view other) v ≡ false) is (view_turned (warning_key_view key) (warning_key_view other) (same_warning_view (warning_key_view other) (warning_key_view key)) lacks refl) in
      knows other ∙ sym (place_before (warning_key_view other) warnings (record { found = x; sets = sets }) apart)

pub knows_noted : (places : BTreeMap WarningKey ℕ) (warnings : List PackWarning) (i k : ℕ) (d : PackWarning) → KnowsWarningPlaces places warnings → i < length warnings → KnowsWarningPlaces places (warning_noted_at k warnings i d)
knows_noted places warnings i k d knows lt = λ key. knows key ∙ sym (place_noted (warning_key_view key) warnings i k d lt)

-- ---- as the code has it

pub there_known : (places : BTreeMap WarningKey ℕ) (warnings : List PackWarning) (key : WarningKey) (x : FoundWarning) (o : Option ℕ) → KnowsWarningPlaces places warnings → warning_key_view key ≡ warning_found_view x → o ≡ get warning_key_cmp places key
    → place_in_warnings (warning_found_view x) warnings ≡ o
there_known places warnings key x o knows is e = ap (λ v. place_in_warnings v warnings) (sym is) ∙ sym (knows key) ∙ sym e

pub noted_same : (warnings : List PackWarning) (i n : ℕ) (now d : PackWarning) (sets : List ℕ) → i < length warnings → now ≡ get_or warnings i now → sets ≡ numbers_with n now.sets
    → slice_set warnings i (record { found = now.found; sets = sets }) ≡ warning_noted_at n warnings i d
noted_same warnings i n now d sets lt at e =
    let same : now ≡ get_or warnings i d = at ∙ get_or-default warnings i now d lt in
    ap (λ (ns : List ℕ). slice_set warnings i (record { found = now.found; sets = ns })) e
    ∙ ap (λ (p : PackWarning). slice_set warnings i (record { found = p.found; sets = numbers_with n p.sets })) same where
      get_or-default : (xs : List PackWarning) (j : ℕ) (a b : PackWarning) → j < length xs → get_or xs j a ≡ get_or xs j b
      get_or-default [] j a b less = absurd (omega arith)
      get_or-default (x ∷ xs) zero a b less = refl
      get_or-default (x ∷ xs) (suc j) a b less = get_or-default xs j a b (omega arith)

pub each_next : (n : ℕ) (found : List LinedWarning) (i : ℕ) (one : LinedWarning) (list : List PackWarning) → i < length found → one ≡ get_or found i one
    → with_each_warning n (map lined_warning_view (drop i found)) list ≡ with_each_warning n (map lined_warning_view (drop (i + 1) found)) (with_warning n (lined_warning_view one) list)
each_next n found i one list lt at =
    let opened : drop i found ≡ one ∷ drop (i + 1) found = rw (add-one, drop-cons found i one) (ap (λ y. y ∷ drop (suc i) found) (sym at)) in
    ap (λ fs. with_each_warning n (map lined_warning_view fs) list) opened
