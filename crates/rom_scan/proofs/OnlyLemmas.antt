-- What a scan asks.
use Rattle.std.proofs.Common.{◌≡◌, ℕ, zero, suc, ◌+◌, ◌-◌, ◌*◌, ◌%◌, ◌^◌, ◌<◌, ◌≤◌, nat_lt, ◌==◌, Bool, true, false, cond, List, [], ◌∷◌, ◌++◌, length, refl, arith}
use Rattle.target_calls.specs.declared.calls.Ask.{Ask}
use Rattle.sequels.specs.Sequel.{Sequel, Asks, Ends, Writes, followed_by}
use Rattle.sequels.specs.Steady.{OnlyAsks}
use Rattle.rom_scan.specs.Components.{by_words, component_at, component_line, identified_component, is_component, is_no_base, is_table, known_as, named_by, page, unknown_at, word_ask}
use Rattle.rom_scan.specs.Components.{words_sequel as words_from}
use Rattle.rom_scan.specs.Walk.{Walked, Listed, Full, components_below, component, entries, entry, is_listed, on, on_listed, visited_component}
use Rattle.rom_scan.specs.declared.component.Component.{Component}

-- a read of a word of the first 4 GB
pub record Reads (n : ℕ) (ask : Ask) : Type 0 where
  pub address : ℕ
  pub aligned : address % 4 ≡ 0
  pub low : address < 2 ^ 32
  pub is : ask ≡ word_ask n address

module _ (n : ℕ) where
  -- each end of a sequel is such a one
  EachEnd : {X : Type 0} → (X → Type 0) → Sequel X → Type 0
  EachEnd R (Ends x) = R x
  EachEnd R (Asks ask on) = (k : ℕ) → EachEnd R (on k)
  EachEnd R (Writes line on) = EachEnd R on

  -- the same after each end
  ends_after : {X Y : Type 0} (R : Y → Type 0) (s : Sequel X) (next : X → Sequel Y) → ((x : X) → EachEnd R (next x)) → EachEnd R (followed_by s next)
  unfolding EachEnd
  ends_after R (Ends x) next h = h x
  ends_after R (Asks ask on) next h = λ k. ends_after R (on k) next h
  ends_after R (Writes line on) next h = ends_after R on next h

  only_after : {X Y : Type 0} (R : X → Type 0) (s : Sequel X) (next : X → Sequel Y) → OnlyAsks (Reads n) s → EachEnd R s → ((x : X) → R x → OnlyAsks (Reads n) (next x)) → OnlyAsks (Reads n) (followed_by s next)
  unfolding EachEnd
  only_after R (Ends x) next q e h = h x e
  only_after R (Asks ask on) next q e h = (q.0, λ k. only_after R (on k) next (q.1 k) (e k) h)
  only_after R (Writes line on) next q e h = only_after R on next q e h

  any_end : {X : Type 0} (s : Sequel X) → EachEnd (λ x. Unit {0}) s
  unfolding EachEnd
  any_end (Ends x) = tt
  any_end (Asks ask on) = λ k. any_end (on k)
  any_end (Writes line on) = any_end on

  only_then : {X Y : Type 0} (s : Sequel X) (next : X → Sequel Y) → OnlyAsks (Reads n) s → ((x : X) → OnlyAsks (Reads n) (next x)) → OnlyAsks (Reads n) (followed_by s next)
  only_then s next q h = only_after (λ x. Unit {0}) s next q (any_end s) (λ x e. h x)

  only_either : {X : Type 0} (b : Bool) (s q : Sequel X) → OnlyAsks (Reads n) s → OnlyAsks (Reads n) q → OnlyAsks (Reads n) (cond b s q)
  only_either true s q g h = g
  only_either false s q g h = h

  only_words : (count address : ℕ) (read : List ℕ) → address % 4 ≡ 0 → address + 4 * count ≤ 2 ^ 32 → OnlyAsks (Reads n) (words_from n count address read)
  only_words zero address read aligned low = tt
  only_words (suc count) address read aligned low =
      (record { address = address; aligned = aligned; low = omega (arith, low); is = refl }, λ word. only_words count (address + 4) (read ++ word ∷ []) (omega (arith, aligned)) (omega (arith, low)))

  only_identified : (address depth : ℕ) (cidr : List ℕ) → address % 4096 ≡ 0 → address < 2 ^ 32 → OnlyAsks (Reads n) (identified_component n address depth cidr)
  only_identified address depth cidr aligned low =
      only_then (words_from n 1 (address + 0xFD0) []) (λ fourth. followed_by (words_from n 4 (address + 0xFE0) []) (λ first. Ends (known_as address depth cidr fourth first))) (only_words 1 (address + 0xFD0) [] (omega (arith, aligned)) (omega (arith, aligned, low)))
      (λ fourth. only_then (words_from n 4 (address + 0xFE0) []) (λ first. Ends (known_as address depth cidr fourth first)) (only_words 4 (address + 0xFE0) [] (omega (arith, aligned)) (omega (arith, aligned, low))) (λ first. tt))

  only_component : (address depth : ℕ) → address % 4096 ≡ 0 → address < 2 ^ 32 → OnlyAsks (Reads n) (component_at n address depth)
  unfolding component_at
  only_component address depth aligned low =
      only_then (words_from n 4 (address + 0xFF0) []) (λ cidr. by_words n address depth cidr) (only_words 4 (address + 0xFF0) [] (omega (arith, aligned)) (omega (arith, aligned, low)))
      (λ cidr. only_either (is_component cidr) (identified_component n address depth cidr) (Ends (unknown_at address depth)) (only_identified address depth cidr aligned low) tt)

  -- it stands where it was read
  IsAt : ℕ → Component → Type 0
  IsAt address c = c.address ≡ address

  component_ends : (address depth : ℕ) → EachEnd (IsAt address) (component_at n address depth)
  unfolding component_at EachEnd IsAt
  component_ends address depth = ends_after (IsAt address) (words_from n 4 (address + 0xFF0) []) (λ cidr. by_words n address depth cidr) (λ cidr. one cidr (is_component cidr))
    where
      one : (cidr : List ℕ) (b : Bool) → EachEnd (IsAt address) (cond b (identified_component n address depth cidr) (Ends (unknown_at address depth)))
      one cidr true =
          ends_after (IsAt address) (words_from n 1 (address + 0xFD0) []) (λ fourth. followed_by (words_from n 4 (address + 0xFE0) []) (λ first. Ends (known_as address depth cidr fourth first)))
          (λ fourth. ends_after (IsAt address) (words_from n 4 (address + 0xFE0) []) (λ first. Ends (known_as address depth cidr fourth first)) (λ first. refl))
      one cidr false = refl

  only_on : (s : Sequel Walked) (next : List Component → Sequel Walked) → OnlyAsks (Reads n) s → ((l : List Component) → OnlyAsks (Reads n) (next l)) → OnlyAsks (Reads n) (on s next)
  only_on s next q h = only_then s (on_listed next) q each
    where
      each : (x : Walked) → OnlyAsks (Reads n) (on_listed next x)
      each (Listed l) = h l
      each Full = tt

  only_visited : (most depth address : ℕ) (listed : List Component) (inside : Component → List Component → Sequel Walked) → address % 4096 ≡ 0 → address < 2 ^ 32
      → ((c : Component) (l : List Component) → c.address ≡ address → OnlyAsks (Reads n) (inside c l)) → OnlyAsks (Reads n) (visited_component most n depth address listed inside)
  unfolding IsAt
  only_visited most depth address listed inside aligned low h =
      only_either (nat_lt (length listed) most) (followed_by (component_at n address depth) (λ c. Writes (component_line c) (inside c (listed ++ c ∷ [])))) (Ends Full)
      (only_after (IsAt address) (component_at n address depth) (λ c. Writes (component_line c) (inside c (listed ++ c ∷ []))) (only_component address depth aligned low) (component_ends address depth) (λ c is. h c (listed ++ c ∷ []) is)) tt

  -- an entry, and then the rest of its table
  only_entry : (visit : ℕ → List Component → Sequel Walked) → ((a : ℕ) (l : List Component) → a % 4096 ≡ 0 → a < 2 ^ 32 → OnlyAsks (Reads n) (visit a l)) → (table e : ℕ) (listed : List Component) (rest : List Component → Sequel Walked)
      → table % 4096 ≡ 0 → ((l : List Component) → OnlyAsks (Reads n) (rest l)) → OnlyAsks (Reads n) (entry visit table e listed rest)
  only_entry visit h table e listed rest aligned more =
      only_either (e == 0) (Ends (Listed listed)) _ tt
      (only_either (e % 2 == 0) (rest listed) _ (more listed)
      (only_either (is_listed (named_by table e) listed) (rest listed) (on (visit (named_by table e) listed) rest) (more listed)
      (only_on (visit (named_by table e) listed) rest (h (named_by table e) listed (omega (arith, aligned)) (omega arith)) more)))

  only_entries : (visit : ℕ → List Component → Sequel Walked) → ((a : ℕ) (l : List Component) → a % 4096 ≡ 0 → a < 2 ^ 32 → OnlyAsks (Reads n) (visit a l)) → (table left : ℕ) (listed : List Component) → table % 4096 ≡ 0 → table < 2 ^ 32
      → OnlyAsks (Reads n) (entries n visit table left listed)
  only_entries visit h table zero listed aligned low = tt
  only_entries visit h table (suc left) listed aligned low = (
    record { address = table + 4 * (959 - left); aligned = omega (arith, aligned); low = omega (arith, aligned, low); is = refl },
    λ e. only_entry visit h table e listed (λ l. entries n visit table left l) aligned (λ l. only_entries visit h table left l aligned low),
  )

  only_below : (most levels address : ℕ) (listed : List Component) → address % 4096 ≡ 0 → address < 2 ^ 32 → OnlyAsks (Reads n) (component most n levels address listed)
  only_below most zero address listed aligned low = only_visited most 8 address listed (λ c more. Ends (Listed more)) aligned low (λ c l is. tt)
  only_below most (suc levels) address listed aligned low =
      only_visited most (7 - levels) address listed (λ c more. cond (is_table c.known) (entries n (component most n levels) c.address 960 more) (Ends (Listed more))) aligned low
      (λ c l is. only_either (is_table c.known) (entries n (component most n levels) c.address 960 l) (Ends (Listed l))
      (only_entries (component most n levels) (only_below most levels) c.address 960 l (rw is aligned) (rw is low)) tt)

  pub only_all : (most k : ℕ) → k < 2 ^ 32 → OnlyAsks (Reads n) (components_below most n k)
  only_all most k low = only_either (is_no_base k) (Ends (Listed [])) (component most n 7 (page k) []) tt (only_below most 7 (page k) [] (omega arith) (omega (arith, low)))
