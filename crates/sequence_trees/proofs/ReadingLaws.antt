-- Steps that are read have fine texts, and stand for one tree.
use Rattle.std.proofs.Common.{◌≡◌, ◌∙◌, sym, ap, ℕ, suc, List, ◌∷◌, ◌++◌, Option, None, Some, cond}
use Rattle.expr_grammar.specs.declared.limit.Span.TheVariants as spans
use Rattle.expr_grammar.specs.Grammar.{ReadsCode, ReadsExpr}
use Rattle.expr_grammar.specs.Tree.{Tree}
use Rattle.device_tree.specs.StepTree as device
use Rattle.sequence_trees.specs.declared.spot.Part.TheVariants as kinds
use Rattle.sequence_trees.specs.Trees.{CodeStep, Block, Control, CodeSteps, MoreSteps}
use Rattle.sequence_trees.specs.Order.{StepText, text_if_some, block_texts, control_texts, under, steps_texts}
use Rattle.sequence_trees.specs.Reading.{MayBeCondition, ReadsBlock, ReadsControl, Begins, ReadsSteps}
use Rattle.sequence_trees.proofs.TextLaws.{one_value, exact_code, exact_condition}
use Rattle.sequence_trees.proofs.OrderLaws.{AreFine, fine_both, fine_moved}

-- ---- what is read is fine

pub cond_fine : (text : Option (List ℕ)) (condition : Option Tree) → MayBeCondition text condition → AreFine (text_if_some kinds.If text)
cond_fine None condition is = tt
cond_fine (Some text) condition is = ((is.0, is.2), tt)

pub repeat_fine : (text : Option (List ℕ)) (condition : Option Tree) → MayBeCondition text condition → AreFine (text_if_some kinds.While text)
repeat_fine None condition is = tt
repeat_fine (Some text) condition is = ((is.0, is.2), tt)

pub block_fine : (text : List ℕ) (step : CodeStep) → ReadsBlock text step → AreFine (block_texts text)
block_fine text step is = ((is.code, is.reads), tt)

pub control_fine : (cond repeat : Option (List ℕ)) (timeout : Option ℕ) (Inner : CodeSteps → Type 0) (inner : List StepText) (step : CodeStep)
    → ((own : CodeSteps) → Inner own → AreFine inner) → ReadsControl cond repeat timeout Inner step → AreFine (control_texts cond repeat inner)
control_fine cond repeat timeout Inner inner step inside is =
    fine_both (text_if_some kinds.If cond ++ text_if_some kinds.While repeat) inner
    (fine_both (text_if_some kinds.If cond) (text_if_some kinds.While repeat) (cond_fine cond is.cond is.reads_cond) (repeat_fine repeat is.repeat is.reads_repeat))
    (inside is.inner is.reads_inner)

pub steps_fine : (s : device.StepTree) (n : ℕ) (steps : CodeSteps) → ReadsSteps s steps → AreFine (steps_texts n s)
steps_fine device.no_steps n steps is = tt
steps_fine (device.block text atomic rest) n steps is =
    fine_both (under n (block_texts text)) (steps_texts (suc n) rest)
    (fine_moved (λ path. n ∷ path) (block_texts text) (block_fine text is.first is.reads_first))
    (steps_fine rest (suc n) is.more is.reads_more)
steps_fine (device.control cond repeat timeout inner rest) n steps is =
    fine_both (under n (control_texts cond repeat (steps_texts 0 inner))) (steps_texts (suc n) rest)
    (fine_moved (λ path. n ∷ path) (control_texts cond repeat (steps_texts 0 inner))
    (control_fine cond repeat timeout (λ own. ReadsSteps inner own) (steps_texts 0 inner) is.first (λ own r. steps_fine inner 0 own r) is.reads_first))
    (steps_fine rest (suc n) is.more is.reads_more)

-- ---- there is one tree

one_condition : (text : Option (List ℕ)) (c d : Option Tree) → MayBeCondition text c → MayBeCondition text d → c ≡ d
one_condition None c d a b = a ∙ sym b
one_condition (Some text) c d a b =
    let same : a.0 ≡ b.0 = one_value ReadsExpr spans.Text exact_condition text a.0 b.0 a.2 b.2 in
    a.1 ∙ ap (λ e. Some e) same ∙ sym b.1

one_block : (text : List ℕ) (s t : CodeStep) → ReadsBlock text s → ReadsBlock text t → s ≡ t
one_block text s t a b =
    let same : a.code ≡ b.code = one_value ReadsCode spans.Statement exact_code text a.code b.code a.reads b.reads in
    a.is ∙ ap (λ c. Block c) same ∙ sym b.is

same_control : (c d r s : Option Tree) (timeout : Option ℕ) (x y : CodeSteps) → c ≡ d → r ≡ s → x ≡ y → Control c r timeout x ≡ Control d s timeout y
same_control c d r s timeout x y e f g = cc

one_control : (cond repeat : Option (List ℕ)) (timeout : Option ℕ) (Inner : CodeSteps → Type 0) → ((x y : CodeSteps) → Inner x → Inner y → x ≡ y)
    → (s t : CodeStep) → ReadsControl cond repeat timeout Inner s → ReadsControl cond repeat timeout Inner t → s ≡ t
one_control cond repeat timeout Inner one s t a b =
    let c : a.cond ≡ b.cond = one_condition cond a.cond b.cond a.reads_cond b.reads_cond in
    let r : a.repeat ≡ b.repeat = one_condition repeat a.repeat b.repeat a.reads_repeat b.reads_repeat in
    let i : a.inner ≡ b.inner = one a.inner b.inner a.reads_inner b.reads_inner in
    a.is ∙ same_control a.cond b.cond a.repeat b.repeat timeout a.inner b.inner c r i ∙ sym b.is

same_more : (s t : CodeStep) (x y : CodeSteps) → s ≡ t → x ≡ y → MoreSteps s x ≡ MoreSteps t y
same_more s t x y e f = cc

one_begin : (First : CodeStep → Type 0) (More : CodeSteps → Type 0) → ((s t : CodeStep) → First s → First t → s ≡ t) → ((x y : CodeSteps) → More x → More y → x ≡ y)
    → (x y : CodeSteps) → Begins First More x → Begins First More y → x ≡ y
one_begin First More one_step one_rest x y a b =
    let first : a.first ≡ b.first = one_step a.first b.first a.reads_first b.reads_first in
    let more : a.more ≡ b.more = one_rest a.more b.more a.reads_more b.reads_more in
    a.parts ∙ same_more a.first b.first a.more b.more first more ∙ sym b.parts

pub one_steps : (s : device.StepTree) (x y : CodeSteps) → ReadsSteps s x → ReadsSteps s y → x ≡ y
one_steps device.no_steps x y a b = a ∙ sym b
one_steps (device.block text atomic rest) x y a b =
    one_begin (ReadsBlock text) (λ more. ReadsSteps rest more) (one_block text) (λ p q c d. one_steps rest p q c d) x y a b
one_steps (device.control cond repeat timeout inner rest) x y a b =
    one_begin (ReadsControl cond repeat timeout (λ own. ReadsSteps inner own)) (λ more. ReadsSteps rest more)
    (one_control cond repeat timeout (λ own. ReadsSteps inner own) (λ p q c d. one_steps inner p q c d))
    (λ p q c d. one_steps rest p q c d) x y a b
