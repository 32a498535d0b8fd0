-- The lines of components, written one after the other.
use Rattle.std.proofs.Common.{◌≡◌, ℕ, List, [], ◌∷◌, ◌++◌, append-nil, Option, Result, Ok, Err, sym, subst}
use Rattle.std.specs.Io.KnownBytes.{Appends}
use Rattle.std.proofs.KnownBytes.{Appends-nil, Appends-trans}
use Rattle.std.proofs.lemmas.List.Concat.{flat_map-append}
use Rattle.rom_scan.specs.Components.{component_line}
use Rattle.rom_scan.specs.Listing.{component_lines}
use Rattle.rom_scan.specs.Written.{AppendsComponents, WritesComponents}
use Rattle.rom_scan.specs.declared.component.Component.{Component}
use Rattle.rom_scan.specs.declared.scan_end.ScanEnd.{ScanEnd}
use Rattle.rom_scan.specs.declared.scan_end.ScanEnd.TheVariants as e

pub none_written : (a : Option (List ℕ)) → AppendsComponents a a
none_written a = record { components = []; appends = Appends-nil a }

pub unwritten : (a b : Option (List ℕ)) → b ≡ a → AppendsComponents a b
unwritten a b same = subst (λ (o : Option (List ℕ)). AppendsComponents a o) (sym same) (none_written a)

pub one_written : (a b : Option (List ℕ)) (c : Component) → Appends a b (component_line c) → AppendsComponents a b
one_written a b c put = record { components = c ∷ []; appends = subst (λ (l : List ℕ). Appends a b l) (sym (append-nil (component_line c))) put }

pub more_written : (a b c : Option (List ℕ)) → AppendsComponents a b → AppendsComponents b c → AppendsComponents a c
more_written a b c first second = record {
  components = first.components ++ second.components;
  appends = subst (λ (l : List ℕ). Appends a c l) (sym (flat_map-append component_line first.components second.components))
      (Appends-trans a b c (component_lines first.components) (component_lines second.components) first.appends second.appends);
}

-- after what was written before
pub written_on : (r : Result ℕ ScanEnd) (a b c : Option (List ℕ)) → AppendsComponents a b → WritesComponents r b c → WritesComponents r a c
written_on (Ok x) a b c first h = more_written a b c first h
written_on (Err e.Full) a b c first h = more_written a b c first h
written_on (Err e.WriteFault) a b c first h = tt
written_on (Err (e.Stop s)) a b c first h = more_written a b c first h

-- the same end under another name
pub written_at : (x y : ScanEnd) (a b : Option (List ℕ)) → x ≡ y → WritesComponents (Err x) a b → WritesComponents (Err y) a b
written_at x y a b same h = subst (λ (k : ScanEnd). WritesComponents (Err k) a b) same h
