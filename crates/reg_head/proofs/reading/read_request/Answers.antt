use Rattle.std.proofs.Common.{None, refl, sym, ap, ◌∙◌}
use Rattle.std.proofs.lemmas.Result.{err_from_is_err_and}
use Rattle.reg_head.specs.Fields.{token_of}
use Rattle.reg_head.proofs.Asked.{headless, refused, lacks_body, is_message, asked}
use Rattle.reg_head.proofs.reading.read_request.Goals as goal

pub returns-in_err-spans-clause-err : goal.returns-in_err-spans-clause-err
returns-in_err-spans-clause-err g c =
    let out = err_from_is_err_and c.from_residual.result c.from_residual.ensures.1 in
    rw (out.1, out.2) (headless _ _ _ c.in_err-spans.ensures.err)

pub returns-in_err-end-clause-err : goal.returns-in_err-end-clause-err
returns-in_err-end-clause-err g c =
    let out = err_from_is_err_and c.from_residual-in_err-end.result c.from_residual-in_err-end.ensures.1 in
    let found = c.in_ok-spans.ensures.found in
    rw (out.1, out.2)
    (refused _ _ _ _ _ found.0 found.1 c.in_ok-spans.ensures.short _ c.in_ok-spans.ensures.read
    (sym (rw c.as_slice-2.ensures.value at c.in_err-end.ensures)))

pub returns-in_err-read_up_to-clause-err : goal.returns-in_err-read_up_to-clause-err
returns-in_err-read_up_to-clause-err g c =
    let out = err_from_is_err_and c.from_residual-in_err-read_up_to.result c.from_residual-in_err-read_up_to.ensures.1 in
    let found = c.in_ok-spans.ensures.found in
    rw (out.1, out.2)
    (lacks_body _ _ _ _ _ found.0 found.1 c.in_ok-spans.ensures.short c.in_ok-end.field-0
    (sym (rw c.as_slice-2.ensures.value at c.in_ok-end.ensures)) _ _ c.in_ok-spans.ensures.read c.in_err-read_up_to.ensures.err)

pub returns-clause-ok : goal.returns-clause-ok
returns-clause-ok g c =
    let found = c.in_ok-spans.ensures.found in
    let read = c.in_ok-read_up_to.ensures.ok in
    let says = sym (rw c.as_slice-2.ensures.value at c.in_ok-end.ensures) in
    let token = rw c.as_slice.ensures.value at c.authorization-authorization.ensures.token in
    let within = rw c.as_slice.ensures.value at c.authorization-authorization.ensures.within in (
      _,
      is_message None None _ _ _ found.0 found.1 c.in_ok-spans.ensures.short c.in_ok-end.field-0
          says read.0.0
          (rw read.0.2 at read.1) _ read.0.2 refl refl
          within
          (token ∙ ap token_of found.1.at.fields) refl refl,
      asked _ _ _ _ _ found.0 found.1 c.in_ok-spans.ensures.short c.in_ok-end.field-0 says read.0.0
          (rw read.0.2 at read.1) _ c.in_ok-spans.ensures.read read.0.1 (rw read.0.2 at read.0.3),
    )
