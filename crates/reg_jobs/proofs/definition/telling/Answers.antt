use Rattle.reg_jobs.specs.CommandLine.{asking_app, due_app, publish_app, verify_app}
use Rattle.reg_jobs.proofs.Adding.{job_added}
use Rattle.reg_jobs.proofs.definition.telling.Goals as goal

pub returns : goal.returns
returns c =
    let one = job_added c.asking.result c.due.result c.with_job-program.result asking_app due_app c.with_job-program.ensures c.asking.ensures
    c.due.ensures.shape c.due.ensures.local in
    let two = job_added c.with_job-program.result c.publish.result c.with_job-program-2.result _ publish_app c.with_job-program-2.ensures one
    c.publish.ensures.shape c.publish.ensures.local in
    job_added c.with_job-program-2.result c.verify.result c.with_job.result _ verify_app c.with_job.ensures two
    c.verify.ensures.shape c.verify.ensures.local
