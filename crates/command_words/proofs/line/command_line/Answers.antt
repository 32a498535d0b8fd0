use Rattle.std.proofs.Common.{◌≡◌, ◌∙◌, ap, false}
use Rattle.std.proofs.lemmas.Result.{IfOk-weaker}
use Rattle.clap.specs.Words.{app_of}
use Rattle.word_options.proofs.LineLemmas.{needed_rule, one_more, unnamed, unnamed_app}
use Rattle.command_words.proofs.LineLemmas.{is_whole, with_device, with_mode, with_pname, with_sequence, with_variant}
use Rattle.command_words.proofs.line.command_line.Goals as goal

pub returns : goal.returns
returns c =
    let started = unnamed_app _ _ c.no_binary_name.ensures ∙ ap unnamed c.new.ensures.app in
    let local : c.required.result.global ≡ false = ap (λ a. a.global) c.required.ensures ∙ c.new-2.ensures.optional.1 in
    let is_mode = needed_rule _ _ _ c.required.ensures c.new-2.ensures.rule in
    let mode : app_of c.in_ok-arg.field-0 ≡ with_mode = one_more _ _ _ _ _ c.in_ok-arg.ensures local started is_mode in
    let device : app_of c.in_ok-arg-2.field-0 ≡ with_device = one_more _ _ _ _ _ c.in_ok-arg-2.ensures c.option_arg.ensures.local mode c.option_arg.ensures.rule in
    let variant : app_of c.in_ok-arg-3.field-0 ≡ with_variant = one_more _ _ _ _ _ c.in_ok-arg-3.ensures c.option_arg-2.ensures.local device c.option_arg-2.ensures.rule in
    let pname : app_of c.in_ok-arg-4.field-0 ≡ with_pname = one_more _ _ _ _ _ c.in_ok-arg-4.ensures c.option_arg-3.ensures.local variant c.option_arg-3.ensures.rule in
    let sequence : app_of c.in_ok-arg-5.field-0 ≡ with_sequence = one_more _ _ _ _ _ c.in_ok-arg-5.ensures c.option_arg-4.ensures.local pname c.option_arg-4.ensures.rule in
    IfOk-weaker c.arg-6.result _ _ (λ m h. one_more _ _ _ _ _ h c.option_arg-5.ensures.local sequence c.option_arg-5.ensures.rule ∙ is_whole) c.arg-6.ensures
