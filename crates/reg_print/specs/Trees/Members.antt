-- Objects of JSON by their members, some of which may be absent.
use Rattle.std.specs.Prelude.{ℕ, Bool, true, false, List, [], ◌∷◌, map, Option, Some, None, option_map}
use Rattle.serde_json.specs.Data.{Data, boolean, number, unsigned, string, array, object, Members, no_members, put}
use Rattle.serde_json.specs.View.{items_of}

-- An object of the members that are there. `put` keeps them in byte order of their names.
abbrev pub put_some : List ℕ → Option Data → Members → Members
put_some name None more = more
put_some name (Some json) more = put name json more

-- members by their names, some of which may be absent
abbrev pub Listed : Type 0
Listed = List (List ℕ × Option Data)

abbrev pub with_members : Listed → Members
with_members [] = no_members
with_members (m ∷ more) = put_some m.0 m.1 (with_members more)

-- an object by its members, some of which may be absent
abbrev pub object_with : Listed → Data
object_with members = object (with_members members)

abbrev pub text : List ℕ → Option Data
text bytes = Some (string bytes)

abbrev pub text_if : Option (List ℕ) → Option Data
text_if bytes = option_map string bytes

abbrev pub whole_number : ℕ → Option Data
whole_number n = Some (number (unsigned n))

-- a mark, which is a member only where it is set
abbrev pub true_if : Bool → Option Data
true_if true = Some (boolean true)
true_if false = None

-- an array of texts
abbrev pub names_tree : List (List ℕ) → Data
names_tree names = array (items_of (map string names))
