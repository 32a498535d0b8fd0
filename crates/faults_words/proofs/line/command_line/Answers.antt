use Rattle.std.proofs.Common.{◌≡◌, ◌∙◌, ap}
use Rattle.std.proofs.lemmas.Result.{IfOk-weaker}
use Rattle.clap.specs.Words.{app_of}
use Rattle.word_options.proofs.LineLemmas.{one_more, unnamed, unnamed_app}
use Rattle.faults_words.proofs.LineLemmas.{is_whole, with_device, with_format, with_pname, with_variant}
use Rattle.faults_words.proofs.line.command_line.Goals as goal

pub returns : goal.returns
returns c =
    let started = unnamed_app _ _ c.no_binary_name.ensures ∙ ap unnamed c.new.ensures.app in
    let device : app_of c.in_ok-arg.field-0 ≡ with_device = one_more _ _ _ _ _ c.in_ok-arg.ensures c.option_arg.ensures.local started c.option_arg.ensures.rule in
    let variant : app_of c.in_ok-arg-2.field-0 ≡ with_variant = one_more _ _ _ _ _ c.in_ok-arg-2.ensures c.option_arg-2.ensures.local device c.option_arg-2.ensures.rule in
    let pname : app_of c.in_ok-arg-3.field-0 ≡ with_pname = one_more _ _ _ _ _ c.in_ok-arg-3.ensures c.option_arg-3.ensures.local variant c.option_arg-3.ensures.rule in
    let format : app_of c.in_ok-arg-4.field-0 ≡ with_format = one_more _ _ _ _ _ c.in_ok-arg-4.ensures c.option_arg-4.ensures.local pname c.option_arg-4.ensures.rule in
    IfOk-weaker c.arg-5.result _ _ (λ m h. one_more _ _ _ _ _ h c.flag_arg.ensures.local format c.flag_arg.ensures.rule ∙ is_whole) c.arg-5.ensures
