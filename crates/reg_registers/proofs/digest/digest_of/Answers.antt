use Rattle.std.proofs.Common.{rules}
use Rattle.reg_registers.specs.Caller.{token_digest}
use Rattle.reg_registers.proofs.Digests.{is_digest-token_digest}
use Rattle.reg_registers.proofs.digest.digest_of.Goals as goal

pub digest_text-requires : goal.digest_text-requires
unfolding token_digest
digest_text-requires c = rw c.digest-hash.ensures (is_digest-token_digest c.args.token.now)

pub returns-clause-value : goal.returns-clause-value
unfolding token_digest
returns-clause-value c = search rules

pub returns-clause-form : goal.returns-clause-form
returns-clause-form c = is_digest-token_digest c.args.token.now
