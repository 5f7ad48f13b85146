use Rattle.std.proofs.Common.{◌≡◌, ◌∙◌, Ok, ap, true}
use Rattle.clap.specs.Simple.{app_of_fields}
use Rattle.clap.specs.Words.{App, app_of}
use Rattle.reg_jobs.specs.CommandLine.{import_app, init_app, program_app, script_app, serve_app}
use Rattle.reg_jobs.proofs.Adding.{job_added}
use Rattle.reg_jobs.proofs.definition.serving.Goals as goal

pub returns : goal.returns
returns c =
    let versioned = ap app_of_fields c.version.ensures
    ∙ ap (λ (a : App). record a { top = record a.top { has_version = true } }) c.command.ensures.shape in
    let start : app_of c.subcommand_required-program.result ≡ program_app = ap app_of_fields c.subcommand_required-program.ensures
    ∙ ap (λ (a : App). record a { top = record a.top { subcommand_required = true } }) versioned in
    let one = job_added (Ok c.subcommand_required-program.result) c.script.result c.with_job-program.result program_app script_app
    c.with_job-program.ensures start c.script.ensures.shape c.script.ensures.local in
    let two = job_added c.with_job-program.result c.import.result c.with_job-program-2.result _ import_app c.with_job-program-2.ensures one
    c.import.ensures.shape c.import.ensures.local in
    let three = job_added c.with_job-program-2.result c.init.result c.with_job-program-3.result _ init_app c.with_job-program-3.ensures two
    c.init.ensures.shape c.init.ensures.local in
    job_added c.with_job-program-3.result c.serve.result c.with_job.result _ serve_app c.with_job.ensures three
    c.serve.ensures.shape c.serve.ensures.local
