-- Reading the items of lists.
use Rattle.std.proofs.Common.{◌≡◌, ℕ, Bool, true, false, cond, List, [], ◌∷◌, ◌++◌, Option, Result, Ok, Err, refl, ap, sym, subst, length}
use Rattle.serde_json.specs.Data.{Data, null, boolean, number, string, array, object, Items, no_items, item}
use Rattle.json_form.specs.declared.fault.JobFault.{JobFault}
use Rattle.json_form.specs.declared.fault.JobFault.TheVariants.{Repeated}
use Rattle.json_form.specs.declared.path.PathStep.TheVariants.{Index}
use Rattle.json_form.specs.Faults.{at}
use Rattle.json_form.specs.Reading.{alone, item_after, items_after, items_len, has_room, list_of}
use Rattle.json_form.specs.Form.{Alone, EachItem, IsListOf}
use Rattle.json_form.proofs.ReadingLaws.{Reads, ReadsAfter, done, bind_ok, at_ok}

pub alone_reads : {A : Type 0} (reads : Data → Result A JobFault) (R : Data → A → Type 0) → Reads reads R → ReadsAfter (alone reads) (Alone R)
alone_reads reads R law = record { after = λ earlier. record { sound = law.sound; complete = law.complete } }

fresh : {A : Type 0} (b : Bool) (fault : JobFault) (x y : A) → cond b (Err fault) (done x) ≡ Ok y → (b ≡ false) × (x ≡ y)
fresh true fault x y e = absurd cc
fresh false fault x y e = (refl, cc)

item_sound : {A : Type 0} (reads : List A → Data → Result A JobFault) (R : List A → Data → A → Type 0) (repeats : List A → A → Bool) → ReadsAfter reads R
    → (earlier : List A) (d : Data) (x : A) → item_after reads repeats earlier d ≡ Ok x → R earlier d x × (repeats earlier x ≡ false)
item_sound reads R repeats law earlier d x e =
    let a = bind_ok (at (Index (length earlier)) (reads earlier d)) (λ y. cond (repeats earlier y) (Err (Repeated (Index (length earlier) ∷ []))) (Ok y)) x e in
    let b = fresh (repeats earlier a.0) (Repeated (Index (length earlier) ∷ [])) a.0 x a.2 in
    subst (λ y. R earlier d y × (repeats earlier y ≡ false)) b.1 ((law.after earlier).sound d a.0 (at_ok (Index (length earlier)) (reads earlier d) a.0 a.1), b.0)

items_sound : {A : Type 0} (reads : List A → Data → Result A JobFault) (R : List A → Data → A → Type 0) (repeats : List A → A → Bool) → ReadsAfter reads R
    → (earlier : List A) (ds : Items) (xs : List A) → items_after reads repeats earlier ds ≡ Ok xs → EachItem R repeats earlier ds xs
unfolding items_after
items_sound reads R repeats law earlier no_items xs e = (let same : earlier ≡ xs = cc in sym same)
items_sound reads R repeats law earlier (item d ds) xs e =
    let a = bind_ok (item_after reads repeats earlier d) (λ x. items_after reads repeats (earlier ++ x ∷ []) ds) xs e in
    let b = item_sound reads R repeats law earlier d a.0 a.1 in
    (a.0, b.0, b.1, items_sound reads R repeats law (earlier ++ a.0 ∷ []) ds xs a.2)

items_complete : {A : Type 0} (reads : List A → Data → Result A JobFault) (R : List A → Data → A → Type 0) (repeats : List A → A → Bool) → ReadsAfter reads R
    → (earlier : List A) (ds : Items) (xs : List A) → EachItem R repeats earlier ds xs → items_after reads repeats earlier ds ≡ Ok xs
unfolding items_after
items_complete reads R repeats law earlier no_items xs p = ap (λ ys. done ys) (sym p)
items_complete reads R repeats law earlier (item d ds) xs p = rw ((law.after earlier).complete d p.0 p.1, p.2) (items_complete reads R repeats law (earlier ++ p.0 ∷ []) ds xs p.3)

within : {A : Type 0} (b : Bool) (r : Result A JobFault) (fault : JobFault) (x : A) → cond b r (Err fault) ≡ Ok x → (b ≡ true) × (r ≡ Ok x)
within true r fault x e = (refl, e)
within false r fault x e = absurd cc

list_sound : {A : Type 0} (limit : Option ℕ) (reads : List A → Data → Result A JobFault) (R : List A → Data → A → Type 0) (repeats : List A → A → Bool) → ReadsAfter reads R
    → (d : Data) (xs : List A) → list_of limit reads repeats d ≡ Ok xs → IsListOf limit R repeats d xs
unfolding list_of
list_sound limit reads R repeats law null xs e = absurd cc
list_sound limit reads R repeats law (boolean b) xs e = absurd cc
list_sound limit reads R repeats law (number n) xs e = absurd cc
list_sound limit reads R repeats law (string s) xs e = absurd cc
list_sound limit reads R repeats law (array ds) xs e =
    let a = within (has_room limit (items_len ds)) (items_after reads repeats [] ds) _ xs e in
    (ds, refl, a.0, items_sound reads R repeats law [] ds xs a.1)
list_sound limit reads R repeats law (object ms) xs e = absurd cc

pub list_reads : {A : Type 0} (limit : Option ℕ) (reads : List A → Data → Result A JobFault) (R : List A → Data → A → Type 0) (repeats : List A → A → Bool) → ReadsAfter reads R
    → Reads (list_of limit reads repeats) (IsListOf limit R repeats)
unfolding list_of
list_reads limit reads R repeats law = record {
  sound = list_sound limit reads R repeats law;
  complete = λ d xs p. rw (p.1, p.2) (items_complete reads R repeats law [] p.0 xs p.3);
}
