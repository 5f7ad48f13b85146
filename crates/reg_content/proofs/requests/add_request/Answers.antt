use Rattle.std.proofs.Common.{sym, ap, ◌∙◌}
use Rattle.std.specs.FinMap.{insert}
use Rattle.reg_core.specs.declared.request.State.{State}
use Rattle.reg_records.specs.Requests.Forms.{gives_its_kind}
use Rattle.reg_core.specs.Minutes.{bare, bare_ask}
use Rattle.reg_records.proofs.RequestLaws.Rows.{bare_form, request_values-bare}
use Rattle.reg_statements.specs.Content.{content_of, parts_of}
use Rattle.reg_rows.proofs.Joining.{steps_in}
use Rattle.reg_rows.proofs.MinutesWritten.{request_added}
use Rattle.reg_content.proofs.requests.add_request.Goals as goal

pub returns-clause-steps : goal.returns-clause-steps
returns-clause-steps g c =
    let r = c.args.request.now in
    steps_in (c.add.ensures.steps (bare r)
    (bare_form r c.formed.ensures (ap (gives_its_kind r.ask) c.requires))
    (c.request_values.ensures ∙ sym (request_values-bare r))) (λ db was none.
    let it = request_added (parts_of db) was.kept.tied r none in (
      it.0,
      it.1 ∙ ap (λ (s : State). record (content_of db) {
        requests = insert (content_of db).requests (r.account, r.reference)
            (record { ask = bare_ask r.ask; state = s });
      }) c.requires,
    ))
