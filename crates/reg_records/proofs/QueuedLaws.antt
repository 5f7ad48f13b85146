-- A row that joins a request with an advice, or with none, reads as these.
use Rattle.std.proofs.Common.{◌≡◌, [], ◌∷◌, ◌++◌, Some, None, refl, sym, ◌∙◌}
use Rattle.sqlite.specs.Order.{Row, column}
use Rattle.sqlite.specs.declared.types.Value.TheVariants.{Null}
use Rattle.reg_core.specs.declared.request.Request.{Request}
use Rattle.reg_records.specs.Advice.{advice_in}
use Rattle.reg_records.specs.Queued.{queued_in}
use Rattle.reg_records.specs.Requests.Reading.{request_columns, request_in}
use Rattle.reg_records.specs.declared.advice.ExpertAdvice.{ExpertAdvice}
use Rattle.reg_records.proofs.AdviceLaws.{own_advice_back}
use Rattle.reg_records.proofs.ColumnLaws.{given-at}
use Rattle.reg_records.proofs.RequestLaws.Selected.{request_in_columns}

-- what stands after the columns of a request does not count for it
request_before : (row more : Row) → request_in (request_columns row ++ more) ≡ request_in row
request_before row more =
    sym (request_in_columns (request_columns row ++ more)) ∙ request_in_columns row

-- a request without an advice
pub queued_alone : (row : Row) (request : Request) → request_in row ≡ Some request
    → queued_in (request_columns row ++ Null ∷ Null ∷ [])
    ≡ Some (record { request = request; advice = None })
queued_alone row request is =
    given-at (request_before row (Null ∷ Null ∷ []) ∙ is) _ _ refl

-- a request with an advice that another row holds
pub queued_advised : (row other : Row) (request : Request) (a : ExpertAdvice)
    → request_in row ≡ Some request → advice_in other ≡ Some a
    → queued_in (request_columns row ++ column other 3 ∷ column other 4 ∷ [])
    ≡ Some (record { request = request; advice = Some a.advice })
queued_advised row other request a is at =
    let own = own_advice_back other a at in
    given-at (request_before row _ ∙ is) _ _ (given-at own _ _ refl)
