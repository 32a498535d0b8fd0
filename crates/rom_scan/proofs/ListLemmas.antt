-- What a scan lists where each call has the result that a function gives of it.
use Rattle.std.proofs.Common.{◌≡◌, ◌∙◌, ℕ, zero, suc, ◌+◌, ◌-◌, ◌*◌, ◌%◌, ◌==◌, ◌<◌, ◌≤◌, nat_lt, Bool, true, false, cond, List, [], ◌∷◌, ◌++◌, append_assoc, append-nil, length, take, refl, sym, ap, arith}
use Rattle.std.specs.Prelude.{nat_le}
use Rattle.std.proofs.lemmas.Bool.{le-leb, leb-false, leb-true, lt-leb, ltb-false, ltb-true}
use Rattle.std.proofs.lemmas.List.{flat_map_more, length-append, take-append-le}
use Rattle.std.proofs.Math.Seq.{take-append-add}
use Rattle.target_calls.specs.declared.calls.Ask.{Ask}
use Rattle.sequels.specs.Sequel.{Sequel, Ends, Writes, followed_by, written_and_end}
use Rattle.sequels.proofs.SequelLemmas.{answered_after}
use Rattle.rom_scan.specs.Components.{base_ask, by_words, component_at, component_line, identified_component, is_component, is_no_base, is_table, known_as, named_by, page, unknown_at, word_ask, words_sequel}
use Rattle.rom_scan.specs.Listing.{ListsComponents, component_lines, component_of, components_by, listed_within, row_of_words, with_component, with_entries}
use Rattle.rom_scan.specs.Walk.{Walked, Listed, Full, component, entries, entry, is_listed, on, on_listed, visited_component}
use Rattle.rom_scan.specs.declared.component.Component.{Component}

-- ---- a list only grows

pub record Adds (listed all : List Component) : Type 0 where
  pub more : List Component
  pub joined : all ≡ listed ++ more

adds_none : (l : List Component) → Adds l l
adds_none l = record { more = []; joined = sym (append-nil l) }

adds_on : (a b c : List Component) → Adds a b → Adds b c → Adds a c
adds_on a b c g h = record { more = g.more ++ h.more; joined = h.joined ∙ ap (λ (l : List Component). l ++ h.more) g.joined ∙ append_assoc a g.more h.more }

adds_either : (b : Bool) (a x y : List Component) → Adds a x → Adds a y → Adds a (cond b x y)
adds_either true a x y g h = g
adds_either false a x y g h = h

module _ (word : ℕ → ℕ) where
  entries_add : (visit : ℕ → List Component → List Component) → ((a : ℕ) (l : List Component) → Adds l (visit a l)) → (table n : ℕ) (listed : List Component) → Adds listed (with_entries word visit table n listed)
  entries_add visit grows table zero listed = adds_none listed
  entries_add visit grows table (suc n) listed =
      let e : ℕ = word (table + 4 * (959 - n)) in
      adds_either (e == 0) listed _ _ (adds_none listed)
      (adds_either (e % 2 == 0) listed _ _ (entries_add visit grows table n listed)
      (adds_either (is_listed (named_by table e) listed) listed _ _ (entries_add visit grows table n listed)
      (adds_on listed (visit (named_by table e) listed) _ (grows (named_by table e) listed) (entries_add visit grows table n (visit (named_by table e) listed)))))

  -- a component comes first, and then all below it
  below_adds : (levels : ℕ) → ((a : ℕ) (l : List Component) → Adds l (with_component word levels a l)) → (address : ℕ) (listed : List Component)
      → Adds (listed ++ component_of word address (7 - levels) ∷ []) (with_component word (suc levels) address listed)
  below_adds levels grows address listed =
      let more : List Component = listed ++ component_of word address (7 - levels) ∷ [] in
      adds_either (is_table (component_of word address (7 - levels)).known) more _ _ (entries_add (with_component word levels) grows (component_of word address (7 - levels)).address 960 more) (adds_none more)

  component_adds : (levels address : ℕ) (listed : List Component) → Adds listed (with_component word levels address listed)
  component_adds zero address listed = record { more = component_of word address 8 ∷ []; joined = refl }
  component_adds (suc levels) address listed =
      adds_on listed (listed ++ component_of word address (7 - levels) ∷ []) (with_component word (suc levels) address listed) (record { more = component_of word address (7 - levels) ∷ []; joined = refl })
      (below_adds levels (component_adds levels) address listed)

-- ---- what a walk comes to

-- From the components so far a walk goes on to all of these, within the limit.
pub record Goes (f : Ask → ℕ) (most : ℕ) (s : Sequel Walked) (listed all : List Component) : Type 0 where
  pub written : component_lines listed ++ (written_and_end f s).0 ≡ component_lines (take most all)
  pub end : (written_and_end f s).1 ≡ listed_within most all

take_all : (most : ℕ) (l : List Component) → length l ≤ most → take most l ≡ l
take_all most l le = by_count (most - length l) (omega (arith, le))
  where
    by_count : (k : ℕ) → most ≡ length l + k → take most l ≡ l
    by_count k is = ap (λ (n : ℕ). take n l) is ∙ ap (take (length l + k)) (sym (append-nil l)) ∙ take-append-add l [] k ∙ none k
      where
        none : (k : ℕ) → l ++ take k [] ≡ l
        none zero = append-nil l
        none (suc k) = append-nil l

-- all are within the limit, or there are more
within : (most : ℕ) (all : List Component) → length all ≤ most → listed_within most all ≡ Listed all
within most all le = ap (λ (b : Bool). cond b (Listed all) Full) (le-leb (length all) most le)

past : (most : ℕ) (all : List Component) → most < length all → listed_within most all ≡ Full
past most all lt = ap (λ (b : Bool). cond b (Listed all) Full) (lt-leb (length all) most lt)

-- the lines of those that come first, where there are as many
lines_past : (most : ℕ) (mid all : List Component) → most ≤ length mid → Adds mid all → component_lines (take most mid) ≡ component_lines (take most all)
lines_past most mid all le grows = ap component_lines (sym (ap (take most) grows.joined ∙ take-append-le most mid grows.more le))

more_than : (most : ℕ) (mid all : List Component) → most < length mid → Adds mid all → most < length all
more_than most mid all lt grows = (let count : length all ≡ length mid + length grows.more = ap length grows.joined ∙ length-append mid grows.more in omega (arith, lt, count))

-- the line of one more
one_more : (listed : List Component) (c : Component) → component_lines listed ++ component_line c ≡ component_lines (listed ++ c ∷ [])
one_more listed c = flat_map_more component_line [] listed c

module _ (f : Ask → ℕ) (most : ℕ) where
  goes_nowhere : (listed : List Component) → length listed ≤ most → Goes f most (Ends (Listed listed)) listed listed
  goes_nowhere listed le = record {
    written = append-nil (component_lines listed) ∙ ap component_lines (sym (take_all most listed le));
    end = sym (within most listed le);
  }

  goes_either : (b : Bool) (s q : Sequel Walked) (listed all more : List Component) → Goes f most s listed all → Goes f most q listed more → Goes f most (cond b s q) listed (cond b all more)
  goes_either true s q listed all more g h = g
  goes_either false s q listed all more g h = h

  -- one part of a walk after the other
  goes_on : (s : Sequel Walked) (next : List Component → Sequel Walked) (listed mid all : List Component) → Goes f most s listed mid → Adds mid all → (length mid ≤ most → Goes f most (next mid) mid all)
      → Goes f most (on s next) listed all
  goes_on s next listed mid all g grows rest = one (nat_le (length mid) most) refl
    where
      first : List ℕ
      first = (written_and_end f s).0

      -- by the end of the first part
      by_end : (x : Walked) → (written_and_end f s).1 ≡ x → written_and_end f (on s next) ≡ (first ++ (written_and_end f (on_listed next x)).0, (written_and_end f (on_listed next x)).1)
      by_end x e = answered_after f s (on_listed next) ∙ ap (λ (w : Walked). (first ++ (written_and_end f (on_listed next w)).0, (written_and_end f (on_listed next w)).1)) e

      one : (b : Bool) → nat_le (length mid) most ≡ b → Goes f most (on s next) listed all
      one true e =
          let le : length mid ≤ most = leb-true (length mid) most e in
          let r = rest le in
          let q = by_end (Listed mid) (g.end ∙ within most mid le) in
          record {
            written =
                ap (λ (p : List ℕ × Walked). component_lines listed ++ p.0) q ∙ sym (append_assoc (component_lines listed) first (written_and_end f (next mid)).0)
                ∙ ap (λ (l : List ℕ). l ++ (written_and_end f (next mid)).0) (g.written ∙ ap component_lines (take_all most mid le)) ∙ r.written;
            end = ap (λ (p : List ℕ × Walked). p.1) q ∙ r.end;
          }
      one false e =
          let lt : most < length mid = leb-false (length mid) most e in
          let q = by_end Full (g.end ∙ past most mid lt) in
          record {
            written =
                ap (λ (p : List ℕ × Walked). component_lines listed ++ p.0) q ∙ ap (λ (l : List ℕ). component_lines listed ++ l) (append-nil first)
                ∙ g.written ∙ lines_past most mid all (omega (arith, lt)) grows;
            end = ap (λ (p : List ℕ × Walked). p.1) q ∙ sym (past most all (more_than most mid all lt grows));
          }

  -- ---- a component

  -- what is read without a line
  silent : {X Y : Type 0} (s : Sequel X) (next : X → Sequel Y) (x : X) → written_and_end f s ≡ ([], x) → written_and_end f (followed_by s next) ≡ written_and_end f (next x)
  silent s next x e = answered_after f s next ∙ ap (λ (p : List ℕ × _). (p.0 ++ (written_and_end f (next p.1)).0, (written_and_end f (next p.1)).1)) e

  module _ (ap_ : ℕ) where
    abbrev word : ℕ → ℕ
    word address = f (word_ask ap_ address)

    words_are : (n address : ℕ) (read : List ℕ) → written_and_end f (words_sequel ap_ n address read) ≡ ([], read ++ row_of_words word n address)
    words_are zero address read = ap (λ (l : List ℕ). ([], l)) (sym (append-nil read))
    words_are (suc n) address read =
        words_are n (address + 4) (read ++ word address ∷ []) ∙ ap (λ (l : List ℕ). ([], l)) (append_assoc read (word address ∷ []) (row_of_words word n (address + 4)))

    identified_is : (address depth : ℕ) (cidr : List ℕ) → written_and_end f (identified_component ap_ address depth cidr) ≡ ([], known_as address depth cidr (row_of_words word 1 (address + 0xFD0)) (row_of_words word 4 (address + 0xFE0)))
    identified_is address depth cidr =
        silent (words_sequel ap_ 1 (address + 0xFD0) []) (λ fourth. followed_by (words_sequel ap_ 4 (address + 0xFE0) []) (λ first. Ends (known_as address depth cidr fourth first))) (row_of_words word 1 (address + 0xFD0)) (words_are 1 (address + 0xFD0) [])
        ∙ silent (words_sequel ap_ 4 (address + 0xFE0) []) (λ first. Ends (known_as address depth cidr (row_of_words word 1 (address + 0xFD0)) first)) (row_of_words word 4 (address + 0xFE0)) (words_are 4 (address + 0xFE0) [])

    component_is : (address depth : ℕ) → written_and_end f (component_at ap_ address depth) ≡ ([], component_of word address depth)
    unfolding component_at component_of
    component_is address depth =
        silent (words_sequel ap_ 4 (address + 0xFF0) []) (λ cidr. by_words ap_ address depth cidr) (row_of_words word 4 (address + 0xFF0)) (words_are 4 (address + 0xFF0) [])
        ∙ one (is_component (row_of_words word 4 (address + 0xFF0)))
      where
        one : (b : Bool) → written_and_end f (cond b (identified_component ap_ address depth (row_of_words word 4 (address + 0xFF0))) (Ends (unknown_at address depth)))
            ≡ ([], cond b (known_as address depth (row_of_words word 4 (address + 0xFF0)) (row_of_words word 1 (address + 0xFD0)) (row_of_words word 4 (address + 0xFE0))) (unknown_at address depth))
        one true = identified_is address depth (row_of_words word 4 (address + 0xFF0))
        one false = refl

    -- it has room, or there are as many as may be listed
    goes_visiting : (depth address : ℕ) (listed all : List Component) (inside : Component → List Component → Sequel Walked) → length listed ≤ most
        → Adds (listed ++ component_of word address depth ∷ []) all
        → (length (listed ++ component_of word address depth ∷ []) ≤ most → Goes f most (inside (component_of word address depth) (listed ++ component_of word address depth ∷ [])) (listed ++ component_of word address depth ∷ []) all)
        → Goes f most (visited_component most ap_ depth address listed inside) listed all
    goes_visiting depth address listed all inside le grows rest = one (nat_lt (length listed) most) refl
      where
        c : Component
        c = component_of word address depth

        count : length (listed ++ c ∷ []) ≡ length listed + 1
        count = length-append listed (c ∷ [])

        lined : Component → Sequel Walked
        lined x = Writes (component_line x) (inside x (listed ++ x ∷ []))

        one : (b : Bool) → nat_lt (length listed) most ≡ b → Goes f most (cond b (followed_by (component_at ap_ address depth) lined) (Ends Full)) listed all
        one true e =
            let room : length (listed ++ c ∷ []) ≤ most = (let lt = ltb-true (length listed) most e in omega (arith, count, lt)) in
            let r = rest room in
            let q : written_and_end f (followed_by (component_at ap_ address depth) lined) ≡ written_and_end f (lined c) = silent (component_at ap_ address depth) lined c (component_is address depth) in
            record {
              written =
                  ap (λ (p : List ℕ × Walked). component_lines listed ++ p.0) q
                  ∙ sym (append_assoc (component_lines listed) (component_line c) (written_and_end f (inside c (listed ++ c ∷ []))).0)
                  ∙ ap (λ (l : List ℕ). l ++ (written_and_end f (inside c (listed ++ c ∷ []))).0) (one_more listed c)
                  ∙ r.written;
              end = ap (λ (p : List ℕ × Walked). p.1) q ∙ r.end;
            }
        one false e =
            let many : most < length (listed ++ c ∷ []) = (let ge = ltb-false (length listed) most e in omega (arith, count, ge)) in
            record {
              written = append-nil (component_lines listed) ∙ ap component_lines (sym (take_all most listed le)) ∙ lines_past most listed all (let ge = ltb-false (length listed) most e in ge)
                  (adds_on listed (listed ++ c ∷ []) all (record { more = c ∷ []; joined = refl }) grows);
              end = sym (past most all (more_than most (listed ++ c ∷ []) all many grows));
            }

    goes_entries : (levels : ℕ) → ((a : ℕ) (l : List Component) → length l ≤ most → Goes f most (component most ap_ levels a l) l (with_component word levels a l))
        → (table n : ℕ) (listed : List Component) → length listed ≤ most → Goes f most (entries ap_ (component most ap_ levels) table n listed) listed (with_entries word (with_component word levels) table n listed)
    goes_entries levels visit table zero listed le = goes_nowhere listed le
    goes_entries levels visit table (suc n) listed le =
        same (goes_either (e == 0) _ _ listed _ _ (goes_nowhere listed le)
        (goes_either (e % 2 == 0) _ _ listed _ _ (goes_entries levels visit table n listed le)
        (goes_either (is_listed (named_by table e) listed) _ _ listed _ _ (goes_entries levels visit table n listed le)
        (goes_on (component most ap_ levels (named_by table e) listed) (λ more. entries ap_ (component most ap_ levels) table n more) listed (with_component word levels (named_by table e) listed)
        (with_entries word (with_component word levels) table n (with_component word levels (named_by table e) listed))
        (visit (named_by table e) listed le)
        (entries_add word (with_component word levels) (component_adds word levels) table n (with_component word levels (named_by table e) listed))
        (λ room. goes_entries levels visit table n (with_component word levels (named_by table e) listed) room)))))
      where
        e : ℕ
        e = word (table + 4 * (959 - n))

        -- a call writes nothing
        same : Goes f most (entry (component most ap_ levels) table e listed (λ more. entries ap_ (component most ap_ levels) table n more)) listed (with_entries word (with_component word levels) table (suc n) listed)
            → Goes f most (entries ap_ (component most ap_ levels) table (suc n) listed) listed (with_entries word (with_component word levels) table (suc n) listed)
        same g = record { written = g.written; end = g.end }

    goes_below : (levels address : ℕ) (listed : List Component) → length listed ≤ most → Goes f most (component most ap_ levels address listed) listed (with_component word levels address listed)
    goes_below zero address listed le =
        goes_visiting 8 address listed (with_component word zero address listed) (λ c more. Ends (Listed more)) le (adds_none (listed ++ component_of word address 8 ∷ [])) (λ room. goes_nowhere (listed ++ component_of word address 8 ∷ []) room)
    goes_below (suc levels) address listed le =
        goes_visiting (7 - levels) address listed (with_component word (suc levels) address listed) (λ c more. cond (is_table c.known) (entries ap_ (component most ap_ levels) c.address 960 more) (Ends (Listed more))) le
        (below_adds word levels (component_adds word levels) address listed)
        (λ room. goes_either (is_table (component_of word address (7 - levels)).known) _ _ (listed ++ component_of word address (7 - levels) ∷ []) _ _
        (goes_entries levels (goes_below levels) (component_of word address (7 - levels)).address 960 (listed ++ component_of word address (7 - levels) ∷ []) room)
        (goes_nowhere (listed ++ component_of word address (7 - levels) ∷ []) room))

    pub lists_components : ListsComponents f most ap_
    lists_components = as_scanned (one (is_no_base (f (base_ask ap_))))
      where
        one : (b : Bool) → Goes f most (cond b (Ends (Listed [])) (component most ap_ 7 (page (f (base_ask ap_))) [])) [] (cond b [] (with_component word 7 (page (f (base_ask ap_))) []))
        one true = goes_nowhere [] (omega arith)
        one false = goes_below 7 (page (f (base_ask ap_))) [] (omega arith)

        as_scanned : Goes f most (cond (is_no_base (f (base_ask ap_))) (Ends (Listed [])) (component most ap_ 7 (page (f (base_ask ap_))) [])) [] (components_by f ap_) → ListsComponents f most ap_
        as_scanned g = record { written = g.written; end = g.end }
