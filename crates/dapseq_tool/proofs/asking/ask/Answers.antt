use Rattle.std.proofs.Common.{Err, Ok, ap, refl, inr}
use Rattle.job_source.specs.Source.{AreTaken}
use Rattle.dapseq_tool.proofs.AskedLemmas.{memory_only, never_read, none_taken, taken_by_line, with_number, with_source, with_usage}
use Rattle.dapseq_tool.proofs.asking.ask.Goals as goal

-- ---- the words are no command

pub returns-in-Err-Usage-clause-asked : goal.returns-in-Err-Usage-clause-asked
returns-in-Err-Usage-clause-asked g c =
    with_usage c.args.words.now (g.S.Source.left c.args.source.now) (λ command is. c.in-Err-Usage.ensures.usage c.in-Err-Usage.field-0-is command is)

pub returns-in-Err-Usage-clause-taken : goal.returns-in-Err-Usage-clause-taken
returns-in-Err-Usage-clause-taken g c = λ line. absurd (c.in-Err-Usage.ensures.usage c.in-Err-Usage.field-0-is line.0 line.1)

pub returns-in-Err-Usage-clause-unread : goal.returns-in-Err-Usage-clause-unread
returns-in-Err-Usage-clause-unread g c = λ none. refl

pub returns-in-Err-Usage-clause-fault : goal.returns-in-Err-Usage-clause-fault
returns-in-Err-Usage-clause-fault g c = λ is. absurd (cc is)

pub returns-in-Err-Usage-clause-source : goal.returns-in-Err-Usage-clause-source
returns-in-Err-Usage-clause-source g c = record { failed = λ is. absurd (cc is); else = refl }

-- ---- memory was refused

pub returns-in-Err-OutOfMemory-clause-unread : goal.returns-in-Err-OutOfMemory-clause-unread
returns-in-Err-OutOfMemory-clause-unread g c = λ none. refl

pub returns-in-Err-OutOfMemory-clause-fault : goal.returns-in-Err-OutOfMemory-clause-fault
returns-in-Err-OutOfMemory-clause-fault g c = λ is. absurd (cc is)

pub returns-in-Err-OutOfMemory-clause-source : goal.returns-in-Err-OutOfMemory-clause-source
returns-in-Err-OutOfMemory-clause-source g c = record { failed = λ is. absurd (cc is); else = inr refl }

-- ---- a job is made of a number

pub returns-in-Some-clause-asked : goal.returns-in-Some-clause-asked
returns-in-Some-clause-asked g c =
    with_number c.args.words.now (g.S.Source.left c.args.source.now) c.in-Ok.command c.in-Ok.ensures.answer c.in-Some.number c.ask_with_number.result c.in-Some.ensures
    c.ask_with_number.ensures.number c.ask_with_number.ensures.asked c.ask_with_number.ensures.fit

pub returns-in-Some-clause-taken : goal.returns-in-Some-clause-taken
returns-in-Some-clause-taken g c =
    none_taken c.args.words.now c.in-Ok.command c.in-Some.number (AreTaken (g.S.Source.left c.args.source.now) (g.S.Source.left c.args.source.now)) c.ask_with_number.result
    c.in-Ok.ensures.answer c.in-Some.ensures

pub returns-in-Some-clause-unread : goal.returns-in-Some-clause-unread
returns-in-Some-clause-unread g c = λ none. refl

pub returns-in-Some-clause-fault : goal.returns-in-Some-clause-fault
returns-in-Some-clause-fault g c = λ is. absurd (never_read c.ask_with_number.result c.ask_with_number.ensures.memory is)

pub returns-in-Some-clause-source : goal.returns-in-Some-clause-source
returns-in-Some-clause-source g c = memory_only c.ask_with_number.result (g.S.Source.faults c.args.source.now) c.ask_with_number.ensures.memory

-- ---- the source is read

pub returns-clause-asked : goal.returns-clause-asked
returns-clause-asked g c =
    with_source c.args.words.now (g.S.Source.left c.args.source.now) c.in-Ok.command c.in-Ok.ensures.answer c.ask_by_words.result c.in-None.ensures
    c.ask_by_words.ensures.number c.ask_by_words.ensures.asked c.ask_by_words.ensures.fit

pub returns-clause-taken : goal.returns-clause-taken
returns-clause-taken g c =
    taken_by_line c.args.words.now (AreTaken (g.S.Source.left c.args.source.now) (g.S.Source.left c.ask_by_words.new.source)) c.ask_by_words.result c.ask_by_words.ensures.reads.taken

pub returns-clause-unread : goal.returns-clause-unread
returns-clause-unread g c = λ none. absurd (none (c.in-Ok.command, c.in-Ok.ensures.answer, c.in-None.ensures))

pub returns-clause-fault : goal.returns-clause-fault
returns-clause-fault g c = λ is. (c.in-Ok.command, c.in-Ok.ensures.answer, c.in-None.ensures)

pub returns-clause-source : goal.returns-clause-source
returns-clause-source g c = c.ask_by_words.ensures.reads.source
