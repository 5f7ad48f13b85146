use Rattle.reg_jobs.specs.CommandLine.{define_app, listing_app, request_app, serving_app}
use Rattle.reg_jobs.proofs.Adding.{job_added}
use Rattle.reg_jobs.proofs.definition.asking.Goals as goal

pub returns : goal.returns
returns c =
    let one = job_added c.serving.result c.request.result c.with_job-program.result serving_app request_app c.with_job-program.ensures c.serving.ensures
    c.request.ensures.shape c.request.ensures.local in
    let two = job_added c.with_job-program.result c.define.result c.with_job-program-2.result _ define_app c.with_job-program-2.ensures one
    c.define.ensures.shape c.define.ensures.local in
    job_added c.with_job-program-2.result c.listing.result c.with_job.result _ listing_app c.with_job.ensures two
    c.listing.ensures.shape c.listing.ensures.local
