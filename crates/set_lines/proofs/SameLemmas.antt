-- Parts of one number, and texts that are the same, are equal.
use Rattle.std.proofs.Common.{◌≡◌, ◌∙◌, ℕ, ◌==◌, true, false, if◌then◌else◌, List, Option, Some, None, refl, ap, sym, true≢false, eqb-true}
use Rattle.std.proofs.lemmas.Slice.Eq.{bytes_eq-Decides}
use Rattle.device_tree.specs.Same.{same_text}
use Rattle.sequence_trees.specs.declared.spot.Part.{Part}
use Rattle.sequence_trees.specs.Parts.{part_rank}
use Rattle.sequence_trees.specs.declared.spot.Part.TheVariants as parts

abbrev part_at : ℕ → Part
part_at n = if n == 0 then parts.Debugvars else if n == 1 then parts.Control else if n == 2 then parts.Block else if n == 3 then parts.If else parts.While

part_again : (part : Part) → part_at (part_rank part) ≡ part
part_again parts.Debugvars = refl
part_again parts.Control = refl
part_again parts.Block = refl
part_again parts.If = refl
part_again parts.While = refl

pub same_part : (x y : Part) → part_rank x == part_rank y ≡ true → x ≡ y
same_part x y e = sym (part_again x) ∙ ap part_at (eqb-true (part_rank x) (part_rank y) e) ∙ part_again y

pub text_equal : (x y : Option (List ℕ)) → same_text x y ≡ true → x ≡ y
text_equal None None e = refl
text_equal None (Some y) e = absurd (true≢false (sym e))
text_equal (Some x) None e = absurd (true≢false (sym e))
text_equal (Some x) (Some y) e = ap (λ t. Some t) ((bytes_eq-Decides x y).0 e)
