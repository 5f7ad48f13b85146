-- The rows of requests that are written.
use Rattle.std.proofs.Common.{◌≡◌, ℕ, pos, length, List, ◌∷◌, ◌++◌, Bool, Option, Some, None, refl}
use Rattle.std.specs.Prelude.{if◌then◌else◌}
use Rattle.sqlite.specs.Cast.{cast, cast_all}
use Rattle.sqlite.specs.Values.{or_null}
use Rattle.sqlite.specs.Kind.TheVariants as kind
use Rattle.sqlite.specs.declared.types.Value.TheVariants.{Text}
use Rattle.reg_ranges.specs.Rfcs.{PublishedRfc}
use Rattle.reg_ranges.specs.Words.{stream_word, track_word}
use Rattle.reg_core.specs.declared.ask.Ask.{Ask}
use Rattle.reg_core.specs.declared.ask.Ask.TheVariants.{Renew}
use Rattle.reg_core.specs.declared.ask.Want.{Want}
use Rattle.reg_core.specs.declared.ask.Want.TheVariants as want
use Rattle.reg_core.specs.declared.request.State.{State}
use Rattle.reg_core.specs.declared.request.Request.{Request}
use Rattle.reg_records.specs.Requests.Values.{ask_values, request_values, state_values, value_wanted, least_wanted}
use Rattle.reg_records.specs.Columns.{flag_value, whole_value}
use Rattle.reg_tables.specs.Schema.{requests_table}
use Rattle.reg_tables.proofs.Library.Casts.{cast_int, cast_null}

-- ---- What is written is stored as it is

text_kept : (o : Option (List ℕ)) → cast kind.Text (or_null Text o) ≡ or_null Text o
text_kept None = refl
text_kept (Some t) = refl

number_kept : (o : Option PublishedRfc)
    → cast kind.Integer (or_null (λ rfc. whole_value rfc.number) o)
    ≡ or_null (λ rfc. whole_value rfc.number) o
number_kept None = cast_null
number_kept (Some rfc) = cast_int (pos rfc.number)

stream_kept : (o : Option PublishedRfc)
    → cast kind.Text (or_null (λ rfc. Text (stream_word rfc.stream)) o)
    ≡ or_null (λ rfc. Text (stream_word rfc.stream)) o
stream_kept None = refl
stream_kept (Some rfc) = refl

track_kept : (o : Option PublishedRfc)
    → cast kind.Text (or_null (λ rfc. Text (track_word rfc.track)) o)
    ≡ or_null (λ rfc. Text (track_word rfc.track)) o
track_kept None = refl
track_kept (Some rfc) = refl

value_kept : (w : Want) → cast kind.Integer (value_wanted w) ≡ value_wanted w
value_kept (want.Value v) = cast_int (pos v)
value_kept (want.Least policy) = cast_null

least_kept : (w : Want) → cast kind.Text (least_wanted w) ≡ least_wanted w
least_kept (want.Value v) = refl
least_kept (want.Least policy) = refl

flag_kept : (b : Bool) → cast kind.Integer (flag_value b) ≡ flag_value b
flag_kept b = cast_int (pos (if b then 1 else 0))

ruleset kept = (
  cast_int,
  cast_null,
  text_kept,
  number_kept,
  stream_kept,
  track_kept,
  value_kept,
  least_kept,
  flag_kept,
)

-- a column for each of the table's
pub request_long : (a : Ask) (r : Request) → r.ask ≡ a
    → length (request_values r) ≡ length requests_table.columns
request_long (Renew a) r is = rw is refl
request_long ask r is = rw is refl

pub request_kept : (account reference : List ℕ) (a : Ask) (s : State)
    → cast_all requests_table.columns
    (Text account ∷ Text reference ∷ ask_values a ++ state_values s)
    ≡ Text account ∷ Text reference ∷ ask_values a ++ state_values s
request_kept account reference (Renew a) s = simp kept
request_kept account reference ask s = simp kept
