-- The kinds of asks, and their words.
use Rattle.std.specs.Prelude.{ℕ, List, [], ◌∷◌, Option, codes}
use Rattle.reg_ranges.specs.Words.{read_among}
use Rattle.reg_core.specs.declared.ask.Ask.{Ask}
use Rattle.reg_core.specs.declared.ask.Ask.TheVariants as ask
use Rattle.reg_core.specs.declared.ask_kind.AskKind.{AskKind}
use Rattle.reg_core.specs.declared.ask_kind.AskKind.TheVariants.{Code, Early, Renew, Permanent, Block}

-- the kind of an ask
abbrev pub ask_kind_of : Ask → AskKind
ask_kind_of (ask.Code a) = Code
ask_kind_of (ask.Early a) = Early
ask_kind_of (ask.Renew a) = Renew
ask_kind_of (ask.Permanent a) = Permanent
ask_kind_of (ask.Block a) = Block

-- all five
abbrev pub ask_kinds : List AskKind
ask_kinds = Code ∷ Early ∷ Renew ∷ Permanent ∷ Block ∷ []

abbrev pub ask_kind_word : AskKind → List ℕ
ask_kind_word Code = codes "code"
ask_kind_word Early = codes "early"
ask_kind_word Renew = codes "renew"
ask_kind_word Permanent = codes "permanent"
ask_kind_word Block = codes "block"

-- the kind of this word
abbrev pub read_ask_kind : List ℕ → Option AskKind
read_ask_kind s = read_among ask_kinds ask_kind_word s
