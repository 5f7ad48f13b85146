-- What is printed of a tree: the tokens of its text, which read as that tree again.
use Rattle.std.specs.Prelude.{◌≡◌, ◌≤◌, ℕ, List, [], ◌∷◌, ◌++◌, Option, Some, None, IsTrue}
use Rattle.json.specs.Token.{Token, key}
use Rattle.json.specs.Tree.{json_tokens}
use Rattle.json.specs.Written.{Written}
use Rattle.serde_json.specs.Data.{Data, depth}
use Rattle.serde_json.specs.Read.{of_json}
use Rattle.serde_json.specs.Written.{outline}
use Rattle.reg_print.specs.declared.printing.Printer.{Printer}
use Rattle.reg_print.specs.Trees.Members.{Listed}

abbrev pub data_tokens : Data → List Token
data_tokens tree = json_tokens (outline tree)

-- of a member, which may be absent
abbrev pub member_tokens : List ℕ → Option Data → List Token
member_tokens name None = []
member_tokens name (Some tree) = key name ∷ data_tokens tree

-- of the members that are there, without brackets
abbrev pub listed_tokens : Listed → List Token
listed_tokens [] = []
listed_tokens (m ∷ more) = member_tokens m.0 m.1 ++ listed_tokens more

-- a tree that its tokens spell, no deeper than so many levels
pub record IsExact (levels : ℕ) (tree : Data) : Type 0 where
  pub reads : of_json (outline tree) ≡ Some tree
  pub shallow : depth tree ≤ levels

abbrev pub IfExact : ℕ → Option Data → Type 0
IfExact levels None = Unit {0}
IfExact levels (Some tree) = IsExact levels tree

abbrev pub AllExact : ℕ → Listed → Type 0
AllExact levels [] = Unit {0}
AllExact levels (m ∷ more) = IfExact levels m.1 × AllExact levels more

-- these tokens were added, and nothing else
pub record Added (old new : Written) (more : List Token) : Type 0 where
  pub before : new.before ≡ old.before
  pub tokens : new.tokens ≡ old.tokens ++ more

-- this tree was printed
pub record Printed (old new : Written) (levels : ℕ) (tree : Data) : Type 0 where
  pub added : Added old new (data_tokens tree)
  pub exact : IsExact levels tree

-- these members were printed, with their names
pub record PrintedMembers (old new : Written) (levels : ℕ) (members : Listed) : Type 0 where
  pub added : Added old new (listed_tokens members)
  pub exact : AllExact levels members

-- if memory was there for all that was printed so far, it was there before, and this was done
pub record IfWhole (old new : Printer) (done : Type 0) : Type 0 where
  pub told : IsTrue new.is_whole → IsTrue old.is_whole × done
