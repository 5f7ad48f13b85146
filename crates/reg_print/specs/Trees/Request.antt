-- The JSON of requests.
use Rattle.std.specs.Prelude.{ℕ, List, [], ◌∷◌, map, Option, Some, None, codes}
use Rattle.std.specs.Fmt.{decimal}
use Rattle.serde_json.specs.Data.{Data, array}
use Rattle.serde_json.specs.View.{items_of}
use Rattle.reg_blocks.specs.Digits.{block_text}
use Rattle.reg_core.specs.declared.request.Given.{Given}
use Rattle.reg_core.specs.declared.request.Given.TheVariants.{Value, Block}
use Rattle.reg_core.specs.declared.request.Request.{Request}
use Rattle.reg_core.specs.declared.request.State.{State}
use Rattle.reg_core.specs.declared.request.State.TheVariants.{Pending, Approved, Declined, Withdrawn}
use Rattle.reg_core.specs.Request.{state_word, word_of}
use Rattle.reg_print.specs.Trees.Members.{Listed, object_with, text}
use Rattle.reg_print.specs.Trees.Ask.{ask_tree}

-- what was given, as a text: a value in decimal, a block as the digits of its prefix
abbrev pub given_text : Given → List ℕ
given_text (Value v) = decimal v
given_text (Block b) = block_text b

-- what an approved request was given
abbrev pub given_if : State → Option Data
given_if Pending = None
given_if (Approved given) = text (given_text given)
given_if (Declined reason) = None
given_if Withdrawn = None

-- why a declined request was given nothing
abbrev pub reason_if : State → Option Data
reason_if Pending = None
reason_if (Approved given) = None
reason_if (Declined reason) = text reason
reason_if Withdrawn = None

-- a request's reference, and where the request stands
abbrev pub standing_members : Request → Listed
standing_members request =
    (codes "given", given_if request.state)
    ∷ (codes "reason", reason_if request.state)
    ∷ (codes "reference", text request.reference)
    ∷ (codes "state", text (state_word (word_of request.state)))
    ∷ []

-- a request as its applicant sees it
abbrev pub request_members : Request → Listed
request_members request = (codes "ask", Some (ask_tree request.ask)) ∷ standing_members request

-- the JSON of a request: as its applicant sees it, and with the account as the desk does
abbrev pub request_tree : Request → Data
request_tree request = object_with (request_members request)

abbrev pub requests_tree : List Request → Data
requests_tree requests = array (items_of (map request_tree requests))

-- a request as the desk sees it
abbrev pub desk_members : Request → Listed
desk_members request = (codes "account", text request.account) ∷ request_members request

abbrev pub desk_tree : Request → Data
desk_tree request = object_with (desk_members request)

abbrev pub desks_tree : List Request → Data
desks_tree requests = array (items_of (map desk_tree requests))
