use Rattle.reg_jobs.specs.CommandLine.{check_app, copy_app, journal_app, revoke_app, telling_app, tokens_app}
use Rattle.reg_jobs.proofs.Adding.{job_added}
use Rattle.reg_jobs.proofs.definition.office.Goals as goal

pub returns : goal.returns
returns c =
    let one = job_added c.telling.result c.check.result c.with_job-program.result telling_app check_app c.with_job-program.ensures c.telling.ensures
    c.check.ensures.shape c.check.ensures.local in
    let two = job_added c.with_job-program.result c.copy.result c.with_job-program-2.result _ copy_app c.with_job-program-2.ensures one
    c.copy.ensures.shape c.copy.ensures.local in
    let three = job_added c.with_job-program-2.result c.journal.result c.with_job-program-3.result _ journal_app c.with_job-program-3.ensures two
    c.journal.ensures.shape c.journal.ensures.local in
    let four = job_added c.with_job-program-3.result c.tokens.result c.with_job-program-4.result _ tokens_app c.with_job-program-4.ensures three
    c.tokens.ensures.shape c.tokens.ensures.local in
    job_added c.with_job-program-4.result c.revoke.result c.with_job.result _ revoke_app c.with_job.ensures four
    c.revoke.ensures.shape c.revoke.ensures.local
