-- A walk with the tables that are open.
use Rattle.std.proofs.Common.{◌≡◌, ◌∙◌, ℕ, zero, suc, ◌+◌, ◌-◌, ◌*◌, ◌%◌, ◌==◌, ◌<◌, ◌≤◌, ◌&&◌, Bool, true, false, cond, List, [], ◌∷◌, ◌++◌, length, refl, sym, ap, arith}
use Rattle.std.proofs.Math.Bool.{and-false}
use Rattle.std.proofs.lemmas.Bool.{lt-ltb, le-ltb}
use Rattle.sequels.specs.Sequel.{Sequel, Asks, Ends, Writes, followed_by}
use Rattle.sequels.proofs.SequelLemmas.{after_after, after_ends, after_same}
use Rattle.rom_scan.specs.declared.component.Component.{Component}
use Rattle.rom_scan.specs.Components.{component_at, component_line, is_table, named_by, word_ask}
use Rattle.rom_scan.specs.Walk.{Walked, Listed, Full, component, entries, entry, is_listed, on, on_listed, visited_component}
use Rattle.rom_scan.specs.declared.tables.Table.{Table}
use Rattle.rom_scan.specs.Tables.{GoesOnByEntry, OpensTables, next_entry, tables_after, unwound, walk_from_component}

-- one part of a walk after the other
pub on_on : (s : Sequel Walked) (f g : List Component → Sequel Walked) → on (on s f) g ≡ on s (λ l. on (f l) g)
on_on s f g = after_after s (on_listed f) (on_listed g) ∙ after_same s _ _ each
  where
    each : (r : Walked) → followed_by (on_listed f r) (on_listed g) ≡ on_listed (λ l. on (f l) g) r
    each (Listed l) = refl
    each Full = refl

-- nothing after it
pub on_listed_same : (s : Sequel Walked) → on s (λ l. Ends (Listed l)) ≡ s
on_listed_same s = after_same s _ _ each ∙ after_ends s
  where
    each : (r : Walked) → on_listed (λ l. Ends (Listed l)) r ≡ Ends r
    each (Listed l) = refl
    each Full = refl

module _ (most ap_ : ℕ) where
  -- a component that has room, and then the rest of a walk
  room_on : (depth address : ℕ) (listed : List Component) (inside : Component → List Component → Sequel Walked) (next : List Component → Sequel Walked) → length listed < most
      → on (visited_component most ap_ depth address listed inside) next ≡ followed_by (component_at ap_ address depth) (λ c. Writes (component_line c) (on (inside c (listed ++ c ∷ [])) next))
  room_on depth address listed inside next less =
      ap (λ (b : Bool). on (cond b (followed_by (component_at ap_ address depth) (λ c. Writes (component_line c) (inside c (listed ++ c ∷ [])))) (Ends Full)) next) (lt-ltb (length listed) most less)
      ∙ after_after (component_at ap_ address depth) (λ c. Writes (component_line c) (inside c (listed ++ c ∷ []))) (on_listed next)

  full_on : (depth address : ℕ) (listed : List Component) (inside : Component → List Component → Sequel Walked) (next : List Component → Sequel Walked) → most ≤ length listed
      → on (visited_component most ap_ depth address listed inside) next ≡ Ends Full
  full_on depth address listed inside next le =
      ap (λ (b : Bool). on (cond b (followed_by (component_at ap_ address depth) (λ c. Writes (component_line c) (inside c (listed ++ c ∷ [])))) (Ends Full)) next) (le-ltb (length listed) most le)

  -- what comes after the line of a component
  next_of : (tables : List Table) (levels : ℕ) (c : Component) (more : List Component) → 7 - length tables ≡ suc levels
      → on (cond (is_table c.known) (entries ap_ (component most ap_ levels) c.address 960 more) (Ends (Listed more))) (λ l. unwound most ap_ tables l) ≡ unwound most ap_ (tables_after tables c) more
  next_of tables levels c more is =
      one (is_table c.known)
      ∙ ap (λ (b : Bool). unwound most ap_ (cond (is_table c.known && b) (record { address = c.address; left = 960 } ∷ tables) tables) more) (sym (lt-ltb (length tables) 7 (omega (arith, is))))
    where
      level : 6 - length tables ≡ levels
      level = omega (arith, is)

      one : (b : Bool) → on (cond b (entries ap_ (component most ap_ levels) c.address 960 more) (Ends (Listed more))) (λ l. unwound most ap_ tables l)
          ≡ unwound most ap_ (cond (b && true) (record { address = c.address; left = 960 } ∷ tables) tables) more
      one true = ap (λ (k : ℕ). on (entries ap_ (component most ap_ k) c.address 960 more) (λ l. unwound most ap_ tables l)) (sym level)
      one false = refl

  last_of : (tables : List Table) (c : Component) (more : List Component) → 7 - length tables ≡ 0 → length tables ≤ 7 → unwound most ap_ tables more ≡ unwound most ap_ (tables_after tables c) more
  last_of tables c more is le = ap (λ (b : Bool). unwound most ap_ (cond b (record { address = c.address; left = 960 } ∷ tables) tables) more)
      (sym (and-false (is_table c.known))) ∙ ap (λ (b : Bool). unwound most ap_ (cond (is_table c.known && b) (record { address = c.address; left = 960 } ∷ tables) tables) more) (sym (le-ltb (length tables) 7 (omega (arith, is, le))))

  pub opens : (tables : List Table) (address : ℕ) (listed : List Component) → OpensTables most ap_ tables address listed
  opens tables address listed = record {
    room = λ le less. room_by (7 - length tables) refl le less;
    full = λ le. full_by (7 - length tables) le;
  }
    where
      full_by : (levels : ℕ) → most ≤ length listed → on (component most ap_ levels address listed) (λ l. unwound most ap_ tables l) ≡ Ends Full
      full_by zero le = full_on 8 address listed (λ c more. Ends (Listed more)) (λ l. unwound most ap_ tables l) le
      full_by (suc levels) le = full_on (7 - levels) address listed (λ c more. cond (is_table c.known) (entries ap_ (component most ap_ levels) c.address 960 more) (Ends (Listed more))) (λ l. unwound most ap_ tables l) le

      room_by : (levels : ℕ) → 7 - length tables ≡ levels → length tables ≤ 7 → length listed < most → on (component most ap_ levels address listed) (λ l. unwound most ap_ tables l)
          ≡ followed_by (component_at ap_ address (1 + length tables)) (λ c. Writes (component_line c) (unwound most ap_ (tables_after tables c) (listed ++ c ∷ [])))
      room_by zero is le less =
          room_on 8 address listed (λ c more. Ends (Listed more)) (λ l. unwound most ap_ tables l) less
          ∙ (let depth : 8 ≡ 1 + length tables = omega (arith, is, le) in ap (λ (k : ℕ). followed_by (component_at ap_ address k) (λ c. Writes (component_line c) (unwound most ap_ tables (listed ++ c ∷ [])))) depth)
          ∙ after_same (component_at ap_ address (1 + length tables)) (λ c. Writes (component_line c) (unwound most ap_ tables (listed ++ c ∷ []))) (λ c. Writes (component_line c) (unwound most ap_ (tables_after tables c) (listed ++ c ∷ []))) (λ c. ap (Writes (component_line c)) (last_of tables c (listed ++ c ∷ []) is le))
      room_by (suc levels) is le less =
          room_on (7 - levels) address listed (λ c more. cond (is_table c.known) (entries ap_ (component most ap_ levels) c.address 960 more) (Ends (Listed more))) (λ l. unwound most ap_ tables l) less
          ∙ (let depth : 7 - levels ≡ 1 + length tables = omega (arith, is, le) in
          ap (λ (k : ℕ). followed_by (component_at ap_ address k) (λ c. Writes (component_line c) (on (cond (is_table c.known) (entries ap_ (component most ap_ levels) c.address 960 (listed ++ c ∷ [])) (Ends (Listed (listed ++ c ∷ [])))) (λ l. unwound most ap_ tables l)))) depth)
          ∙ after_same (component_at ap_ address (1 + length tables))
          (λ c. Writes (component_line c) (on (cond (is_table c.known) (entries ap_ (component most ap_ levels) c.address 960 (listed ++ c ∷ [])) (Ends (Listed (listed ++ c ∷ [])))) (λ l. unwound most ap_ tables l)))
          (λ c. Writes (component_line c) (unwound most ap_ (tables_after tables c) (listed ++ c ∷ [])))
          (λ c. ap (Writes (component_line c)) (next_of tables levels c (listed ++ c ∷ []) is))

  -- the root
  pub root : (address : ℕ) → component most ap_ 7 address [] ≡ walk_from_component most ap_ [] address []
  root address = sym (on_listed_same (component most ap_ 7 address []))

  -- an entry of the innermost table
  pub entry_on : (tables : List Table) (table n e : ℕ) (listed : List Component)
      → on (entry (component most ap_ (6 - length tables)) table e listed (λ more. entries ap_ (component most ap_ (6 - length tables)) table n more)) (λ l. unwound most ap_ tables l) ≡ next_entry most ap_ tables table n e listed
  entry_on tables table n e listed = one (e == 0) (e % 2 == 0) (is_listed (named_by table e) listed)
    where
      visit : ℕ → List Component → Sequel Walked
      visit = component most ap_ (6 - length tables)

      rest : List Component → Sequel Walked
      rest more = entries ap_ visit table n more

      last : on (on (visit (named_by table e) listed) rest) (λ l. unwound most ap_ tables l) ≡ walk_from_component most ap_ (record { address = table; left = n } ∷ tables) (named_by table e) listed
      last =
          on_on (visit (named_by table e) listed) rest (λ l. unwound most ap_ tables l)
          ∙ (let level : 6 - length tables ≡ 7 - suc (length tables) = omega arith in
          ap (λ (k : ℕ). on (component most ap_ k (named_by table e) listed) (λ l. on (entries ap_ visit table n l) (λ m. unwound most ap_ tables m))) level)

      one : (a b d : Bool)
          → on (cond a (Ends (Listed listed)) (cond b (rest listed) (cond d (rest listed) (on (visit (named_by table e) listed) rest)))) (λ l. unwound most ap_ tables l)
          ≡ cond a (unwound most ap_ tables listed) (cond b (unwound most ap_ (record { address = table; left = n } ∷ tables) listed)
          (cond d (unwound most ap_ (record { address = table; left = n } ∷ tables) listed) (walk_from_component most ap_ (record { address = table; left = n } ∷ tables) (named_by table e) listed)))
      one true b d = refl
      one false true d = refl
      one false false true = refl
      one false false false = last

  pub by_entry : (tables : List Table) (table n : ℕ) (listed : List Component) → GoesOnByEntry most ap_ tables table n listed
  by_entry tables table n listed = record {
    none = refl;
    next =
        let more : n + 1 ≡ suc n = omega arith in
        ap (λ (k : ℕ). unwound most ap_ (record { address = table; left = k } ∷ tables) listed) more
        ∙ (λ i. Asks (word_ask ap_ (table + 4 * (959 - n))) (λ e. entry_on tables table n e listed i));
  }
