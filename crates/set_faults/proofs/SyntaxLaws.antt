-- The faults of texts are one list, whose head is the first fault.
use Rattle.std.proofs.Common.{◌≡◌, ◌∙◌, sym, ap, subst, ℕ, List, [], ◌∷◌, ◌++◌, Option, Some, None, refl}
use Rattle.dap_base.specs.declared.text.Place.{Place}
use Rattle.sequence_trees.specs.declared.spot.Part.{Part}
use Rattle.sequence_trees.specs.declared.spot.Spot.{Spot}
use Rattle.sequence_resolve.specs.declared.entry.SeqSet.{SeqSet}
use Rattle.sequence_trees.specs.Order.{TextAt, SetStep, IsFirstFaulty, IsFirstFault, step_of, set_texts}
use Rattle.sequence_trees.proofs.OrderLaws.{AreFine, fine_not_faulty, not_both, first_after, one_place}
use Rattle.code_check.specs.declared.fault.FaultKind.TheVariants as k
use Rattle.seq_check.specs.Valid as valid
use Rattle.seq_check.specs.Valid.{IsFirstFaultOf}
use Rattle.set_faults.specs.declared.site.Fault.{Fault}
use Rattle.set_faults.specs.Syntax.{IsFaultOf, syntax_fault, AreFaultsOf, AreSyntaxFaults}

-- the step of a text that stands alone
here : SetStep
here = record { sequence = None; path = [] }

one_fault : (part : Part) (text : List ℕ) (a b : Option Place) → IsFaultOf part text a → IsFaultOf part text b → a ≡ b
one_fault part text None None h j = refl
one_fault part text None (Some b) h j = absurd (not_both part text b h j)
one_fault part text (Some a) None h j = absurd (not_both part text a j h)
one_fault part text (Some a) (Some b) h j = ap (λ x. Some x) (one_place part text a b h j)

one_list : (texts : List (TextAt SetStep)) (f g : List Fault) → AreFaultsOf texts f → AreFaultsOf texts g → f ≡ g
one_list [] f g h j = h ∙ sym j
one_list (t ∷ texts) f g h j =
    h.3 ∙ ap (λ at. syntax_fault t.step t.part at ++ h.1) (one_fault t.part t.text h.0 j.0 h.2 j.2) ∙ ap (λ more. syntax_fault t.step t.part j.0 ++ more) (one_list texts h.1 j.1 h.4 j.4) ∙ sym j.3

-- a set has one list of such faults
pub one_syntax_list : (set : SeqSet) (faults other : List Fault) → AreSyntaxFaults set faults → AreSyntaxFaults set other → faults ≡ other
one_syntax_list set faults other h j = one_list (set_texts set) faults other h j

pub record IsHead (texts : List (TextAt SetStep)) (fault : Fault) : Type 0 where
  pub first : IsFirstFaulty texts (step_of fault.spot) fault.spot.part fault.spot.place
  pub kind_is : fault.kind ≡ k.Syntax

head_at : (t : TextAt SetStep) (texts : List (TextAt SetStep)) (fault : Fault) (more : List Fault) (at : Option Place) (rest : List Fault) → IsFaultOf t.part t.text at → fault ∷ more ≡ syntax_fault t.step t.part at ++ rest
    → ((f : Fault) (fs : List Fault) → rest ≡ f ∷ fs → IsHead texts f) → IsHead (t ∷ texts) fault
head_at t texts fault more None rest fine e later =
    let first = later fault more (sym e) in
    record { first = first_after (t ∷ []) texts (step_of fault.spot) fault.spot.part fault.spot.place (fine, tt) first.first; kind_is = first.kind_is }
head_at t texts fault more (Some at) rest faulty e later =
    let is : fault ≡ record { kind = k.Syntax; spot = record { sequence = t.step.sequence; path = t.step.path; part = t.part; place = at } } = cc in
    subst (IsHead (t ∷ texts)) (sym is) (record { first = record { before = []; text = t.text; after = texts; parts = refl; fine = tt; faulty = faulty }; kind_is = refl })

head_of : (texts : List (TextAt SetStep)) (fault : Fault) (more : List Fault) → AreFaultsOf texts (fault ∷ more) → IsHead texts fault
head_of [] fault more h = absurd cc
head_of (t ∷ texts) fault more h = head_at t texts fault more h.0 h.1 h.2 h.3 (λ f fs e. head_of texts f fs (subst (AreFaultsOf texts) e h.4))

pub first_at_head : (set : SeqSet) (fault : Fault) (more : List Fault) → AreSyntaxFaults set (fault ∷ more) → IsFirstFault set fault.spot
first_at_head set fault more h = (head_of (set_texts set) fault more h).first

-- the head of the list is the first fault of the set
pub first_is_head : (set : SeqSet) (fault : Fault) (more : List Fault) → AreSyntaxFaults set (fault ∷ more) → IsFirstFaultOf set fault.kind fault.spot
first_is_head set fault more h = (let head = head_of (set_texts set) fault more h in valid.syntax head.first head.kind_is)

-- where no fault is listed, each text is fine
fine_at : (t : TextAt SetStep) (texts : List (TextAt SetStep)) (at : Option Place) (rest : List Fault) → IsFaultOf t.part t.text at → [] ≡ syntax_fault t.step t.part at ++ rest → (rest ≡ [] → AreFine texts) → AreFine (t ∷ texts)
fine_at t texts None rest fine e later = (fine, later (sym e))
fine_at t texts (Some at) rest faulty e later = absurd cc

fine_all : (texts : List (TextAt SetStep)) → AreFaultsOf texts [] → AreFine texts
fine_all [] h = tt
fine_all (t ∷ texts) h = fine_at t texts h.0 h.1 h.2 h.3 (λ e. fine_all texts (subst (AreFaultsOf texts) e h.4))

-- a set with a first fault has some
pub some_listed : (set : SeqSet) (spot : Spot) (faults : List Fault) → IsFirstFault set spot → AreSyntaxFaults set faults → faults ≡ [] → ⊥
some_listed set spot faults first h e = fine_not_faulty (set_texts set) (step_of spot) spot.part spot.place (fine_all (set_texts set) (subst (AreFaultsOf (set_texts set)) e h)) first
