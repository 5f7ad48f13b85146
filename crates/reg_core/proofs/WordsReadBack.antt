-- The word of a value reads to it, and to no other.
use Rattle.std.proofs.Common.{refl}
use Rattle.reg_ranges.specs.Words.{ReadsWords}
use Rattle.reg_ranges.proofs.WordsReadBack.{reads_words}
use Rattle.reg_core.specs.ActKind.{act_kinds, act_kind_word, read_act_kind}
use Rattle.reg_core.specs.Advice.{verdicts, verdict_word, read_verdict}
use Rattle.reg_core.specs.AskKind.{ask_kinds, ask_kind_word, read_ask_kind}
use Rattle.reg_core.specs.Capability.{kinds, kind_word, read_kind}
use Rattle.reg_core.specs.Request.{states, state_word, read_state}
use Rattle.reg_core.specs.declared.advice.Verdict.TheVariants.{For}
use Rattle.reg_core.specs.declared.ask_kind.AskKind.TheVariants as ask
use Rattle.reg_core.specs.declared.capability.Kind.TheVariants.{Applicant}
use Rattle.reg_core.specs.declared.journal.ActKind.TheVariants as act
use Rattle.reg_core.specs.declared.request.StateWord.TheVariants as state

pub verdicts_read : ReadsWords verdict_word read_verdict
verdicts_read = reads_words verdicts verdict_word (elim [ For ↦ refl | _ ↦ refl ])

pub kinds_read : ReadsWords kind_word read_kind
kinds_read = reads_words kinds kind_word (elim [ Applicant ↦ refl | _ ↦ refl ])

pub ask_kinds_read : ReadsWords ask_kind_word read_ask_kind
ask_kinds_read = reads_words ask_kinds ask_kind_word (elim [ ask.Code ↦ refl | _ ↦ refl ])

pub act_kinds_read : ReadsWords act_kind_word read_act_kind
act_kinds_read = reads_words act_kinds act_kind_word (elim [ act.Grant ↦ refl | _ ↦ refl ])

pub states_read : ReadsWords state_word read_state
states_read = reads_words states state_word (elim [ state.Pending ↦ refl | _ ↦ refl ])
