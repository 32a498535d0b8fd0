-- Reading the members of objects.
use Rattle.std.proofs.Common.{◌≡◌, ℕ, Bool, true, false, cond, List, [], ◌∷◌, Option, Some, None, Result, Ok, Err, refl, ap, sym, inl, inr, ◌⊎◌}
use Rattle.std.specs.Option.{option_map_or}
use Rattle.serde_json.specs.Data.{Data, null, boolean, number, string, array, object, Members, no_members, member}
use Rattle.serde_json.specs.Find.{get}
use Rattle.json_form.specs.declared.fault.JobFault.{JobFault}
use Rattle.json_form.specs.declared.fault.JobFault.TheVariants.{Missing, UnknownKey}
use Rattle.json_form.specs.declared.path.PathStep.TheVariants.{Key}
use Rattle.json_form.specs.Faults.{at}
use Rattle.json_form.specs.Names.{names, is_among, lesser, least_unknown}
use Rattle.json_form.specs.Reading.{only_keys, required_value, optional, or_else, some_of}
use Rattle.json_form.specs.Form.{NamesAmong, HasOnly, Has, HasOr, MayHave}
use Rattle.json_form.proofs.ReadingLaws.{Reads, done, at_ok}

-- ---- members

required_at : {A : Type 0} (key : List ℕ) (reads : Data → Result A JobFault) (o : Option Data) (x : A) → option_map_or (λ v. at (Key key) (reads v)) o (Err (Missing (Key key ∷ []))) ≡ Ok x → (v : Data) × (o ≡ Some v) × (reads v ≡ Ok x)
required_at key reads None x e = absurd cc
required_at key reads (Some v) x e = (v, refl, at_ok (Key key) (reads v) x e)

pub required_reads : {A : Type 0} (key : List ℕ) (reads : Data → Result A JobFault) (R : Data → A → Type 0) → Reads reads R → Reads (required_value key reads) (Has key R)
unfolding required_value
required_reads key reads R law = record {
  sound = λ d x e. (let a = required_at key reads (get key d) x e in (a.0, a.1, law.sound a.0 x a.2));
  complete = λ d x p. rw (p.1, law.complete p.0 x p.2) refl;
}

or_else_at : {A : Type 0} (key : List ℕ) (reads : Data → Result A JobFault) (other : A) (o : Option Data) (x : A) → option_map_or (λ v. at (Key key) (reads v)) o (Ok other) ≡ Ok x → ((v : Data) × (o ≡ Some v) × (reads v ≡ Ok x)) ⊎ ((o ≡ None) × (x ≡ other))
or_else_at key reads other None x e = inr (refl, (let same : other ≡ x = cc in sym same))
or_else_at key reads other (Some v) x e = inl (v, refl, at_ok (Key key) (reads v) x e)

pub or_else_reads : {A : Type 0} (key : List ℕ) (reads : Data → Result A JobFault) (R : Data → A → Type 0) (other : A) → Reads reads R → Reads (or_else key reads other) (HasOr key R other)
unfolding or_else
or_else_reads key reads R other law = record {
  sound = λ d x e. (elim (or_else_at key reads other (get key d) x e) [ inl a ↦ inl (a.0, a.1, law.sound a.0 x a.2) | inr a ↦ inr a ]);
  complete = λ d x p. (elim p [ inl a ↦ rw (a.1, law.complete a.0 x a.2) refl | inr a ↦ rw a.0 (ap (λ y. done y) (sym a.1)) ]);
}

optional_at : {A : Type 0} (key : List ℕ) (reads : Data → Result A JobFault) (o : Option Data) (x : Option A) → option_map_or (λ v. some_of (at (Key key) (reads v))) o (Ok None) ≡ Ok x
    → ((y : A) × (x ≡ Some y) × (v : Data) × (o ≡ Some v) × (reads v ≡ Ok y)) ⊎ ((o ≡ None) × (x ≡ None))
optional_at key reads None x e = inr (refl, (let same : None ≡ x = cc in sym same))
optional_at {A} key reads (Some v) x e = inner (reads v) refl e where
  inner : (r : Result A JobFault) → reads v ≡ r → some_of (at (Key key) r) ≡ Ok x → ((y : A) × (x ≡ Some y) × (w : Data) × (Some v ≡ Some w) × (reads w ≡ Ok y)) ⊎ ((Some v ≡ None) × (x ≡ None))
  inner (Ok y) is e' = inl (y, (let same : Some y ≡ x = cc in sym same), v, refl, is)
  inner (Err fault) is e' = absurd cc

pub optional_reads : {A : Type 0} (key : List ℕ) (reads : Data → Result A JobFault) (R : Data → A → Type 0) → Reads reads R → Reads (optional key reads) (MayHave key R)
unfolding optional
optional_reads key reads R law = record {
  sound = λ d x e. (elim (optional_at key reads (get key d) x e) [ inl a ↦ inl (a.0, a.1, (a.2, a.3, law.sound a.2 a.0 a.4)) | inr a ↦ inr a ]);
  complete = λ d x p. (elim p [ inl a ↦ rw (a.1, a.2.1, law.complete a.2.0 a.0 a.2.2) refl | inr a ↦ rw (a.0, a.1) refl ]);
}

-- ---- only these keys

lesser_some : (name : List ℕ) (o : Option (List ℕ)) → lesser name o ≡ None → ⊥
lesser_some name None e = cc
lesser_some name (Some other) e = cc

known_first : (b : Bool) (rest : Option (List ℕ)) (name : List ℕ) → cond b rest (lesser name rest) ≡ None → (b ≡ true) × (rest ≡ None)
known_first true rest name e = (refl, e)
known_first false rest name e = absurd (lesser_some name rest e)

none_unknown : (known : List (List ℕ)) (members : Members) → least_unknown known (names members) ≡ None → NamesAmong known members
none_unknown known no_members e = tt
none_unknown known (member name d rest) e = let a = known_first (is_among known name) (least_unknown known (names rest)) name e in (a.0, none_unknown known rest a.1)

all_known : (known : List (List ℕ)) (members : Members) → NamesAmong known members → least_unknown known (names members) ≡ None
all_known known no_members h = refl
all_known known (member name d rest) h = rw h.0 (all_known known rest h.1)

known_at : (o : Option (List ℕ)) (x : Unit {0}) → option_map_or (λ name. Err (UnknownKey (Key name ∷ []))) o (done tt) ≡ Ok x → o ≡ None
known_at None x e = refl
known_at (Some name) x e = absurd cc

pub only_keys_sound : (known : List (List ℕ)) (d : Data) (x : Unit {0}) → only_keys known d ≡ Ok x → HasOnly known d
unfolding only_keys
only_keys_sound known null x e = absurd cc
only_keys_sound known (boolean b) x e = absurd cc
only_keys_sound known (number n) x e = absurd cc
only_keys_sound known (string s) x e = absurd cc
only_keys_sound known (array ds) x e = absurd cc
only_keys_sound known (object members) x e = (members, refl, none_unknown known members (known_at (least_unknown known (names members)) x e))

pub only_keys_complete : (known : List (List ℕ)) (d : Data) → HasOnly known d → only_keys known d ≡ Ok tt
unfolding only_keys
only_keys_complete known d h = rw (h.1, all_known known h.0 h.2) refl
