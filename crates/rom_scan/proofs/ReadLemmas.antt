-- Words and components that are read.
use Rattle.std.proofs.Common.{◌≡◌, ◌∙◌, ℕ, suc, ◌+◌, ◌-◌, ◌*◌, ◌<◌, ◌≤◌, Bool, true, false, cond, List, [], ◌∷◌, ◌++◌, Option, None, refl, sym, ap, arith}
use Rattle.target_calls.specs.World.{World, stop}
use Rattle.target_calls.specs.declared.calls.Ask.{Ask}
use Rattle.access_calls.specs.declared.stop.Stop.{Stop}
use Rattle.sequels.specs.Meeting.{Gave, Reaches}
use Rattle.sequels.specs.Sequel.{Sequel, Asks, Ends, followed_by, asks}
use Rattle.sequels.proofs.MeetingLemmas.{gave_by, reaches_by, reaches_on, reaches_same, reaches_to}
use Rattle.rom_scan.specs.Components.{by_words, component_at, identified_component, is_component, known_as, unknown_at, word_ask, words_sequel}
use Rattle.rom_scan.specs.Meets.{StopsIn}
use Rattle.rom_scan.specs.declared.component.Component.{Component}
use Rattle.rom_scan.proofs.StopLemmas.{stops_by, stops_on}

-- ---- words

-- what comes after a word
abbrev on_word : ℕ → ℕ → ℕ → ℕ → List ℕ → ℕ → Sequel (List ℕ)
on_word n count i address read word = words_sequel n (count - (i + 1)) (address + 4 * (i + 1)) (read ++ word ∷ [])

words_step : (n count i address : ℕ) (read : List ℕ) → i < count → words_sequel n (count - i) (address + 4 * i) read ≡ Asks (word_ask n (address + 4 * i)) (on_word n count i address read)
words_step n count i address read less =
    (let more : count - i ≡ suc (count - (i + 1)) = omega (arith, less) in ap (λ (k : ℕ). words_sequel n k (address + 4 * i) read) more)
    ∙ (let next : address + 4 * i + 4 ≡ address + 4 * (i + 1) = omega arith in
    ap (λ (a : ℕ). Asks (word_ask n (address + 4 * i)) (λ word. words_sequel n (count - (i + 1)) a (read ++ word ∷ []))) next)

module _ (w : World) (n count i address : ℕ) (read : List ℕ) (u : Ask) (old mid new : List Ask) (written : Option (List ℕ)) (less : i < count) (is : u ≡ word_ask n (address + 4 * i)) (whole : stop w old ≡ None)
    (r : Reaches w (words_sequel n count address []) old mid written written (words_sequel n (count - i) (address + 4 * i) read)) where
  abbrev here : Sequel (List ℕ)
  here = Asks u (on_word n count i address read)

  reached : Reaches w (words_sequel n count address []) old mid written written here
  reached = reaches_to w (words_sequel n count address []) (words_sequel n (count - i) (address + 4 * i) read) here old mid written written
      (words_step n count i address read less ∙ ap (λ (a : Ask). Asks a (on_word n count i address read)) (sym is)) r

  pub next_word : (word : ℕ) → Gave w (asks u) mid new written written word → Reaches w (words_sequel n count address []) old new written written (words_sequel n (count - (i + 1)) (address + 4 * (i + 1)) (read ++ word ∷ []))
  next_word word g =
      reaches_on w (words_sequel n count address []) here (on_word n count i address read word) old mid new written written written whole reached
      (reaches_by w (asks u) (on_word n count i address read) word mid new written written g)

  pub stops_word : (lines : ℕ) (e : Stop) → StopsIn w lines (asks u) mid new written written e → StopsIn w lines (words_sequel n count address []) old new written written e
  stops_word lines e h =
      stops_on w lines (words_sequel n count address []) here old mid new written written written e whole reached (stops_by w lines (asks u) (on_word n count i address read) mid new written written e h)

pub words_start : (w : World) (n count address : ℕ) (read : List ℕ) (calls : List Ask) (written : Option (List ℕ)) → read ≡ [] → Reaches w (words_sequel n count address []) calls calls written written (words_sequel n (count - 0) (address + 4 * 0) read)
words_start w n count address read calls written none =
    reaches_to w (words_sequel n count address []) (words_sequel n count address []) (words_sequel n (count - 0) (address + 4 * 0) read) calls calls written written
    ((let a : count ≡ count - 0 = omega arith in ap (λ (k : ℕ). words_sequel n k address []) a) ∙ (let b : address ≡ address + 4 * 0 = omega arith in ap (λ (x : ℕ). words_sequel n (count - 0) x []) b) ∙ ap (words_sequel n (count - 0) (address + 4 * 0)) (sym none))
    (reaches_same w (words_sequel n count address []) calls written)

pub words_end : (w : World) (n count i address : ℕ) (read : List ℕ) (old new : List Ask) (written : Option (List ℕ)) → count ≤ i → Reaches w (words_sequel n count address []) old new written written (words_sequel n (count - i) (address + 4 * i) read)
    → Gave w (words_sequel n count address []) old new written written read
words_end w n count i address read old new written le r =
    gave_by w (words_sequel n count address []) read old new written written
    (reaches_to w (words_sequel n count address []) (words_sequel n (count - i) (address + 4 * i) read) (Ends read) old new written written
    (let none : count - i ≡ 0 = omega (arith, le) in ap (λ (k : ℕ). words_sequel n k (address + 4 * i) read) none) r)

-- ---- a component

module _ (w : World) (n address depth : ℕ) (old : List Ask) (written : Option (List ℕ)) where
  abbrev all : Sequel Component
  all = component_at n address depth

  abbrev last : List ℕ → List ℕ → Sequel Component
  last cidr fourth = followed_by (words_sequel n 4 (address + 0xFE0) []) (λ first. Ends (known_as address depth cidr fourth first))

  by_test : (cidr : List ℕ) (b : Bool) → is_component cidr ≡ b → by_words n address depth cidr ≡ cond b (identified_component n address depth cidr) (Ends (unknown_at address depth))
  by_test cidr b e = ap (λ (x : Bool). cond x (identified_component n address depth cidr) (Ends (unknown_at address depth))) e

  pub known_reach : (new : List Ask) (cidr : List ℕ) → Gave w (words_sequel n 4 (address + 0xFF0) []) old new written written cidr → is_component cidr ≡ true → Reaches w all old new written written (identified_component n address depth cidr)
  unfolding component_at
  known_reach new cidr g e = reaches_to w all (by_words n address depth cidr) (identified_component n address depth cidr) old new written written (by_test cidr true e)
      (reaches_by w (words_sequel n 4 (address + 0xFF0) []) (λ x. by_words n address depth x) cidr old new written written g)

  pub unknown_gave : (new : List Ask) (cidr : List ℕ) → Gave w (words_sequel n 4 (address + 0xFF0) []) old new written written cidr → is_component cidr ≡ false → Gave w all old new written written (unknown_at address depth)
  unfolding component_at
  unknown_gave new cidr g e = gave_by w all (unknown_at address depth) old new written written
      (reaches_to w all (by_words n address depth cidr) (Ends (unknown_at address depth)) old new written written (by_test cidr false e)
      (reaches_by w (words_sequel n 4 (address + 0xFF0) []) (λ x. by_words n address depth x) cidr old new written written g))

  pub cidr_stops : (lines : ℕ) (new : List Ask) (e : Stop) → StopsIn w lines (words_sequel n 4 (address + 0xFF0) []) old new written written e → StopsIn w lines all old new written written e
  unfolding component_at
  cidr_stops lines new e h = stops_by w lines (words_sequel n 4 (address + 0xFF0) []) (λ x. by_words n address depth x) old new written written e h

  module _ (whole : stop w old ≡ None) (mid : List Ask) (cidr : List ℕ) where
    pub fourth_reach : (new : List Ask) (fourth : List ℕ) → Reaches w all old mid written written (identified_component n address depth cidr) → Gave w (words_sequel n 1 (address + 0xFD0) []) mid new written written fourth → Reaches w all old new written written (last cidr fourth)
    fourth_reach new fourth r g = reaches_on w all (identified_component n address depth cidr) (last cidr fourth) old mid new written written written whole r
        (reaches_by w (words_sequel n 1 (address + 0xFD0) []) (last cidr) fourth mid new written written g)

    pub fourth_stops : (lines : ℕ) (new : List Ask) (e : Stop) → Reaches w all old mid written written (identified_component n address depth cidr) → StopsIn w lines (words_sequel n 1 (address + 0xFD0) []) mid new written written e → StopsIn w lines all old new written written e
    fourth_stops lines new e r h = stops_on w lines all (identified_component n address depth cidr) old mid new written written written e whole r (stops_by w lines (words_sequel n 1 (address + 0xFD0) []) (last cidr) mid new written written e h)

    pub first_gave : (new : List Ask) (fourth first : List ℕ) → Reaches w all old mid written written (last cidr fourth) → Gave w (words_sequel n 4 (address + 0xFE0) []) mid new written written first → Gave w all old new written written (known_as address depth cidr fourth first)
    first_gave new fourth first r g = gave_by w all (known_as address depth cidr fourth first) old new written written
        (reaches_on w all (last cidr fourth) (Ends (known_as address depth cidr fourth first)) old mid new written written written whole r
        (reaches_by w (words_sequel n 4 (address + 0xFE0) []) (λ x. Ends (known_as address depth cidr fourth x)) first mid new written written g))

    pub first_stops : (lines : ℕ) (new : List Ask) (fourth : List ℕ) (e : Stop) → Reaches w all old mid written written (last cidr fourth) → StopsIn w lines (words_sequel n 4 (address + 0xFE0) []) mid new written written e → StopsIn w lines all old new written written e
    first_stops lines new fourth e r h = stops_on w lines all (last cidr fourth) old mid new written written written e whole r (stops_by w lines (words_sequel n 4 (address + 0xFE0) []) (λ x. Ends (known_as address depth cidr fourth x)) mid new written written e h)

-- a component by other names of the same words
pub known_same : (address depth : ℕ) (a b c x y z : List ℕ) → a ≡ x → b ≡ y → c ≡ z → known_as address depth a b c ≡ known_as address depth x y z
known_same address depth a b c x y z e f h = rw (e, f, h) refl
