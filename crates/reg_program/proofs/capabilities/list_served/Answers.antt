use Rattle.std.proofs.Common.{◌≡◌, ◌∙◌, codes, rules}
use Rattle.std.specs.Option.{option_map}
use Rattle.reg_program.specs.Requests.{IsBodiless}
use Rattle.reg_program.proofs.Results.{ok_as}
use Rattle.reg_program.proofs.capabilities.list_served.Goals as goal

pub returns : goal.returns
returns g c =
    let get : c.as_str.result.now ≡ codes "GET" = search rules in
    let token = option_map (λ t. t.items) c.in_ok-token.token in
    let asked = c.in_ok-request.ensures in
    let asks : IsBodiless token (codes "GET") (codes "/desk/tokens") c.in_ok-request.request =
    record {
      token = asked.token;
      method = asked.method ∙ get;
      path = asked.path ∙ c.in_ok-path.ensures.ok;
      body = asked.body;
    } in
    ok_as c.print_listed.result
    (λ of. (
      c.in_ok-answer.answer.items,
      (c.in_ok-request.request, (token, c.in_ok-token.ensures, asks), c.in_ok-answer.ensures),
      of,
    ))
    (rw c.as_slice.ensures.value at c.print_listed.ensures.printed)
