-- The lines of a script that make an entry, by the ordinary procedure.
use Rattle.std.specs.Prelude.{ℕ, ◌+◌, Bool, false, List, [], ◌∷◌, ◌++◌, take, Option, Some, None, codes, if◌then◌else◌}
use Rattle.std.specs.Fmt.{decimal}
use Rattle.std.specs.List.{flat_map}
use Rattle.std.specs.String.{string_bytes}
use Rattle.hex.specs.Hex.{encode_lower}
use Rattle.sha2.specs.Sha256.{sha256}
use Rattle.serde_json.specs.Written.{compact_text}
use Rattle.reg_ranges.specs.Requirements.{is_expert_policy}
use Rattle.reg_core.specs.Capability.{kind_word}
use Rattle.reg_core.specs.declared.ask.Ask.{Ask}
use Rattle.reg_core.specs.declared.ask.Ask.TheVariants as ask
use Rattle.reg_core.specs.declared.ask.Want.TheVariants.{Value}
use Rattle.reg_core.specs.declared.capability.Kind.{Kind}
use Rattle.reg_core.specs.declared.capability.Kind.TheVariants.{Applicant, Expert}
use Rattle.reg_print.specs.Trees.Ask.{ask_tree}
use Rattle.reg_early.specs.DayReading.{midnight}
use Rattle.reg_import.specs.declared.entry.EarlyStanding.{EarlyStanding}
use Rattle.reg_import.specs.declared.entry.ListedEntry.{ListedEntry}
use Rattle.reg_import.specs.declared.entry.ListedStanding.{ListedStanding}
use Rattle.reg_import.specs.declared.entry.ListedStanding.TheVariants.{ForGood, Early}
use Rattle.reg_import.specs.declared.import.Import.{Import}
use Rattle.reg_import.specs.declared.lines.Filing.{Filing as FilingRow}
use Rattle.reg_import.specs.declared.marks.Pass.{Pass}

-- ---- Lines

-- what a line asks
pub data Errand : Type 0 where
  -- that a token be given a capability of an account, of a kind, that ends at a moment
  grant : List ℕ → List ℕ → Kind → ℕ → Errand
  -- a request under a reference
  submit : List ℕ → Ask → Errand
  -- that a request, by its account and its reference, be assigned to an expert
  assign : List ℕ → List ℕ → List ℕ → Errand
  -- that a request be given advice
  advise : List ℕ → List ℕ → Errand
  -- that it be approved
  approve : List ℕ → List ℕ → Errand
  -- that the entry at a value of a registry be held
  hold : List ℕ → ℕ → Errand

-- a line of a script: when it is asked, with which token, and what
pub record Line : Type 0 where
  pub moment : ℕ
  pub token : List ℕ
  pub errand : Errand

abbrev pub line : ℕ → List ℕ → Errand → Line
line moment token errand = record { moment = moment; token = token; errand = errand }

-- the advice that is given, by its body
abbrev pub advice_body : List ℕ
advice_body = codes " {\"text\":\"imported\",\"verdict\":\"for\"}"

-- the path and the body of what a line asks
unfoldable pub errand_text : Errand → List ℕ
errand_text (grant token account kind until) =
    codes "/desk/tokens {\"account\":\"" ++ (account ++ (codes "\",\"kind\":\"" ++ (kind_word kind
    ++ (codes "\",\"token\":\"" ++ (token ++ (codes "\",\"until\":" ++ (decimal until ++ codes "}")))))))
errand_text (submit reference ask) =
    codes "/requests/" ++ (reference ++ (codes " " ++ compact_text (ask_tree ask)))
errand_text (assign account reference expert) =
    codes "/desk/experts/" ++ (account ++ (codes "/" ++ (reference ++ (codes "/" ++ expert))))
errand_text (advise account reference) =
    codes "/queue/" ++ (account ++ (codes "/" ++ (reference ++ advice_body)))
errand_text (approve account reference) =
    codes "/desk/approve/" ++ (account ++ (codes "/" ++ reference))
errand_text (hold registry value) =
    codes "/desk/holds/" ++ (registry ++ (codes "/" ++ (decimal value ++ codes " {\"held\":true}")))

-- the text of a line, with what is asked
abbrev pub asking_text : ℕ → List ℕ → List ℕ → List ℕ
asking_text moment token asked =
    decimal moment ++ (codes " " ++ (token ++ (codes " PUT " ++ (asked ++ codes "\n"))))

unfoldable pub line_text : Line → List ℕ
line_text l = asking_text l.moment l.token (errand_text l.errand)

-- ---- Names

-- the text whose digest a token is: the clerk's token, and what it is for
abbrev pub pass_text : Import → Pass → List ℕ
pass_text by pass =
    by.clerk ++ (codes " " ++ (kind_word pass.kind ++ (codes " " ++ (pass.account ++ (codes " "
    ++ (by.registry ++ (codes " " ++ (decimal pass.value ++ (codes " " ++ decimal pass.until)))))))))

-- a token that nobody guesses who does not know the clerk's
unfoldable pub pass_token : Import → Pass → List ℕ
pass_token by pass = encode_lower (sha256 (pass_text by pass))

-- a token for an account and a value that is valid for the one second that begins at a moment
abbrev pub pass_at : Kind → List ℕ → ℕ → ℕ → Pass
pass_at kind account value moment =
    record { kind = kind; account = account; value = value; until = moment + 1 }

-- twelve digits that tell a registry from others
unfoldable pub registry_mark : List ℕ → List ℕ
registry_mark registry = encode_lower (take 6 (sha256 registry))

-- a reference: what is asked for, the value, and the registry's digits
abbrev pub reference_of : List ℕ → List ℕ → ℕ → List ℕ
reference_of word registry value =
    word ++ (codes "-" ++ (decimal value ++ (codes "-" ++ registry_mark registry)))

-- ---- Procedures

-- a request that is filed and approved at a moment: whose, of which value, under which reference, for
-- what, and whether an expert looks at it
pub record Filing : Type 0 where
  pub moment : ℕ
  pub account : List ℕ
  pub value : ℕ
  pub reference : List ℕ
  pub ask : Ask
  pub reviewed : Bool

-- a filing without where its reference lies in memory
abbrev pub filing_view : FilingRow → Filing
filing_view f = record {
  moment = f.moment;
  account = f.account;
  value = f.value;
  reference = string_bytes f.reference;
  ask = f.ask;
  reviewed = f.reviewed;
}

-- a token for an account that is valid for the second of a filing; that of its applicant, and of its
-- expert
abbrev pub token_for : Import → Filing → Kind → List ℕ → List ℕ
token_for by f kind account = pass_token by (pass_at kind account f.value f.moment)

abbrev pub applicant_token : Import → Filing → List ℕ
applicant_token by f = token_for by f Applicant f.account

abbrev pub expert_token : Import → Filing → List ℕ
expert_token by f = token_for by f Expert by.expert

-- a clerk gives a token to an account, for one second
abbrev pub grant_line : Import → Filing → List ℕ → List ℕ → Kind → Line
grant_line by f token account kind =
    line f.moment by.clerk (grant token account kind (f.moment + 1))

-- a request is filed; it is assigned to the expert; the expert is for it; and a clerk approves it
abbrev pub submission_line : Filing → List ℕ → Line
submission_line f token = line f.moment token (submit f.reference f.ask)

abbrev pub assignment_line : Import → Filing → Line
assignment_line by f = line f.moment by.clerk (assign f.account f.reference by.expert)

abbrev pub advice_line : Filing → List ℕ → Line
advice_line f token = line f.moment token (advise f.account f.reference)

abbrev pub approval_line : Import → Filing → Line
approval_line by f = line f.moment by.clerk (approve f.account f.reference)

-- the expert looks at it
abbrev pub review_lines : Import → Filing → List Line
review_lines by f =
    assignment_line by f
    ∷ grant_line by f (expert_token by f) by.expert Expert
    ∷ advice_line f (expert_token by f)
    ∷ []

abbrev pub review_if : Import → Filing → List Line
review_if by f = if f.reviewed then review_lines by f else []

-- the applicant gets a token and files the request, it is reviewed where that is wanted, and approved
abbrev pub filing_lines : Import → Filing → List Line
filing_lines by f =
    grant_line by f (applicant_token by f) f.account Applicant
    ∷ submission_line f (applicant_token by f)
    ∷ (review_if by f ++ approval_line by f ∷ [])

-- ---- Entries

-- what is asked for a new entry
abbrev pub entry_ask_by : Import → ListedEntry → ListedStanding → Ask
entry_ask_by by entry (ForGood evidence) =
    ask.Code (record {
      registry = by.registry;
      want = Value entry.value;
      label = entry.label;
      evidence = evidence;
    })
entry_ask_by by entry (Early standing) =
    ask.Early (record {
      registry = by.registry;
      want = Value entry.value;
      label = entry.label;
      evidence = standing.evidence;
    })

abbrev pub entry_ask : Import → ListedEntry → Ask
entry_ask by entry = entry_ask_by by entry entry.standing

-- the request for a new entry, on its first day
abbrev pub entry_filing : Import → ListedEntry → Filing
entry_filing by entry = record {
  moment = midnight entry.first;
  account = entry.assignee;
  value = entry.value;
  reference = reference_of (codes "import") by.registry entry.value;
  ask = entry_ask by entry;
  reviewed = is_expert_policy entry.policy;
}

-- the request for its renewal, on a day; no expert looks at it
abbrev pub renewal_filing : Import → ListedEntry → EarlyStanding → ℕ → Filing
renewal_filing by entry standing day = record {
  moment = midnight day;
  account = entry.assignee;
  value = entry.value;
  reference = reference_of (codes "renewal") by.registry entry.value;
  ask = ask.Renew (record {
    registry = by.registry;
    value = entry.value;
    evidence = standing.evidence;
    iesg = None;
  });
  reviewed = false;
}

-- a clerk holds the entry, on its first day
abbrev pub hold_line : Import → ListedEntry → Line
hold_line by entry = line (midnight entry.first) by.clerk (hold by.registry entry.value)

abbrev pub hold_lines : Import → ListedEntry → Bool → List Line
hold_lines by entry held = if held then hold_line by entry ∷ [] else []

abbrev pub renewal_lines : Import → ListedEntry → EarlyStanding → Option ℕ → List Line
renewal_lines by entry standing None = []
renewal_lines by entry standing (Some day) =
    filing_lines by (renewal_filing by entry standing day)

-- what is done with an entry once it is there
abbrev pub later_lines : Import → ListedEntry → ListedStanding → List Line
later_lines by entry (ForGood evidence) = []
later_lines by entry (Early standing) =
    hold_lines by entry standing.held ++ renewal_lines by entry standing standing.renewal

-- the lines that make an entry: its request, its hold and its renewal
abbrev pub entry_lines : Import → ListedEntry → List Line
entry_lines by entry =
    filing_lines by (entry_filing by entry) ++ later_lines by entry entry.standing

unfoldable pub lines_text : List Line → List ℕ
lines_text lines = flat_map line_text lines
