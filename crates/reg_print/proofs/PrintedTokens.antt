-- What is printed one behind another, and between brackets, spells objects and arrays.
use Rattle.std.proofs.Common.{rules, max, option_and_then, suc, ◌+◌, length, take, get_or, append-nil, ◌≡◌, ℕ, ◌^◌, ◌<◌, ◌≤◌, List, [], ◌∷◌, ◌++◌, Bool, true, false, Option, Some, None, Result, Ok, Err, map, refl, sym, ap, ap₂, ◌∙◌, append_assoc, arith}
use Rattle.std.specs.List.{All, flat_map, AllByRecursion}
use Rattle.std.specs.Result.{IfErr, IfOk}
use Rattle.std.proofs.lemmas.Grind.{flat_map-append}
use Rattle.std.proofs.lemmas.List.{take_more, take_all}
use Rattle.std.proofs.lemmas.List.Elements.{All-append, All-cons, All-nil}
use Rattle.json.specs.Json as json
use Rattle.json.specs.Lex.{tokens}
use Rattle.json.specs.Print.{print}
use Rattle.json.specs.Token.{Token, begin_object, end_object, begin_array, end_array, key}
use Rattle.json.specs.Tree.{members_tokens, items_tokens}
use Rattle.json.specs.Tree as tree
use Rattle.json.specs.Written.{Written}
use Rattle.json.proofs.Printed.Trees.{value-json_tokens}
use Rattle.serde_json.specs.Data.{Data, null, boolean, number, unsigned, string, object, array, Members, member, no_members, Items, no_items, item, depth, items_depth, members_depth}
use Rattle.serde_json.specs.Read.{read, max_depth, of_json, of_items}
use Rattle.serde_json.specs.View.{items_of}
use Rattle.serde_json.specs.Written.{outline, members_outline, items_outline, compact_text}
use Rattle.serde_json.proofs.Numbers.{number_of-decimal}
use Rattle.serde_json.proofs.Texts.{print-outline}
use Rattle.reg_print.specs.Trees.Members.{Listed, object_with, with_members}
use Rattle.reg_print.specs.declared.printing.Printer.{Printer}
use Rattle.reg_print.specs.Printed.{data_tokens, member_tokens, listed_tokens, IsExact, IfExact, AllExact, Added, IfWhole, Printed, PrintedMembers}
use Rattle.reg_print.proofs.ListedMembers.{as_listed, ascends, some_member, with_members-as_listed}
use Rattle.reg_print.proofs.ReadObjects.{IfReads, AllRead, object_with-reads}

joined : (a b c ts us : List Token) → b ≡ a ++ ts → c ≡ b ++ us → c ≡ a ++ (ts ++ us)
joined a b c ts us e d = d ∙ ap (λ xs. xs ++ us) e ∙ append_assoc a ts us

-- tokens behind tokens
pub behind : {a b c : Written} {ts us : List Token} → Added a b ts → Added b c us
    → Added a c (ts ++ us)
behind {a} {b} {c} {ts} {us} one more = record {
  before = more.before ∙ one.before;
  tokens = joined a.tokens b.tokens c.tokens ts us one.tokens more.tokens;
}

-- the same tokens, said otherwise
same_added : {a b : Written} {ts us : List Token} → ts ≡ us → Added a b ts → Added a b us
same_added {a} {b} {ts} {us} e one = rw (← e) one

-- ---- what is printed while memory lasts

-- one step behind another
both : {a b c : Printer} {P Q R : Type 0} → (P → Q → R) → IfWhole a b P → IfWhole b c Q
    → IfWhole a c R
both {a} {b} {c} {P} {Q} {R} f one more = record {
  told = λ h. let later = more.told h in
      let earlier = one.told later.0 in (earlier.0, f earlier.1 later.1);
}

-- ---- single values

pub number-exact : (n : ℕ) → n < 2 ^ 64 → IsExact 0 (number (unsigned n))
number-exact n h = record { reads = rw (number_of-decimal n h) refl; shallow = omega arith }

-- ---- members

no_deeper : (n m : ℕ) (d : Data) → n ≤ m → IsExact n d → IsExact m d
no_deeper n m d h e = record { reads = e.reads; shallow = omega (arith, h, e.shallow) }

none_deeper_at : (n m : ℕ) (o : Option Data) → n ≤ m → IfExact n o → IfExact m o
none_deeper_at n m None h e = tt
none_deeper_at n m (Some d) h e = no_deeper n m d h e

none_deeper : (n m : ℕ) (ms : Listed) → n ≤ m → AllExact n ms → AllExact m ms
none_deeper n m [] h e = tt
none_deeper n m (x ∷ ms) h e = (none_deeper_at n m x.1 h e.0, none_deeper n m ms h e.1)

both_exact : (n : ℕ) (xs ys : Listed) → AllExact n xs → AllExact n ys → AllExact n (xs ++ ys)
both_exact n [] ys h k = k
both_exact n (x ∷ xs) ys h k = (h.0, both_exact n xs ys h.1 k)

listed_tokens-append : (xs ys : Listed)
    → listed_tokens xs ++ listed_tokens ys ≡ listed_tokens (xs ++ ys)
listed_tokens-append [] ys = refl
listed_tokens-append (x ∷ xs) ys =
    append_assoc (member_tokens x.0 x.1) (listed_tokens xs) (listed_tokens ys)
    ∙ ap (λ ts. member_tokens x.0 x.1 ++ ts) (listed_tokens-append xs ys)

-- members behind members
members_behind : {a b c : Written} {n m : ℕ} {xs ys : Listed} → PrintedMembers a b n xs
    → PrintedMembers b c m ys → PrintedMembers a c (max n m) (xs ++ ys)
members_behind {a} {b} {c} {n} {m} {xs} {ys} one more = record {
  added = same_added (listed_tokens-append xs ys) (behind one.added more.added);
  exact =
      both_exact (max n m) xs ys (none_deeper n (max n m) xs (omega arith) one.exact)
      (none_deeper m (max n m) ys (omega arith) more.exact);
}

infixr 5 ◌▸◌
pub ◌▸◌ : {a b c : Printer} {n m : ℕ} {xs ys : Listed}
    → IfWhole a b (PrintedMembers a.json b.json n xs)
    → IfWhole b c (PrintedMembers b.json c.json m ys)
    → IfWhole a c (PrintedMembers a.json c.json (max n m) (xs ++ ys))
◌▸◌ one more = both (λ p q. members_behind p q) one more

-- a name and its value are a member
pub is_member : {a b c : Printer} {n : ℕ} {k : List ℕ} {d : Data}
    → IfWhole a b (Added a.json b.json (key k ∷ [])) → IfWhole b c (Printed b.json c.json n d)
    → IfWhole a c (PrintedMembers a.json c.json n ((k, Some d) ∷ []))
is_member {a} {b} {c} {n} {k} {d} named valued =
    both
    (λ p q. record {
      added = same_added (sym (append-nil (key k ∷ data_tokens d))) (behind p q.added);
      exact = (q.exact, tt);
    })
    named valued

-- a text that was made, if there was memory for it
pub printed_made : {a b : Printer} {S E : Type 0} {k text : List ℕ} (bytes : S → List ℕ)
    (r : Result S E) → IfOk r (λ t. bytes t ≡ text)
    → IfOk r (λ t. IfWhole a b (PrintedMembers a.json b.json 0 ((k, Some (string (bytes t))) ∷ [])))
    → IfErr r (λ _. b.is_whole ≡ false)
    → IfWhole a b (PrintedMembers a.json b.json 0 ((k, Some (string text)) ∷ []))
printed_made bytes (Ok t) is made wanting = rw is at made
printed_made bytes (Err e) is made wanting = record {
  told = λ h. let e : false ≡ true = sym wanting ∙ h in cc;
}

-- ---- objects

some_tokens : (k : List ℕ) (o : Option Data) (ms : Members)
    → members_tokens (members_outline (some_member k o ms))
    ≡ member_tokens k o ++ members_tokens (members_outline ms)
some_tokens k None ms = refl
some_tokens k (Some d) ms = refl

as_listed-tokens : (ms : Listed)
    → members_tokens (members_outline (as_listed ms)) ≡ listed_tokens ms ++ end_object ∷ []
as_listed-tokens [] = refl
as_listed-tokens (m ∷ ms) =
    some_tokens m.0 m.1 (as_listed ms)
    ∙ ap (λ ts. member_tokens m.0 m.1 ++ ts) (as_listed-tokens ms)
    ∙ sym (append_assoc (member_tokens m.0 m.1) (listed_tokens ms) (end_object ∷ []))

object_tokens : (ms : Listed) → ascends ms ≡ true
    → begin_object ∷ (listed_tokens ms ++ end_object ∷ []) ≡ data_tokens (object_with ms)
object_tokens ms h =
    ap (λ ts. begin_object ∷ ts) (sym (as_listed-tokens ms))
    ∙ ap (λ found. data_tokens (object found)) (sym (with_members-as_listed ms h))

if_reads : (n : ℕ) (o : Option Data) → IfExact n o → IfReads o
if_reads n None e = tt
if_reads n (Some d) e = e.reads

all_read : (n : ℕ) (ms : Listed) → AllExact n ms → AllRead ms
all_read n [] e = tt
all_read n (m ∷ ms) e = (if_reads n m.1 e.0, all_read n ms e.1)

shallow_at : (n : ℕ) (k : List ℕ) (o : Option Data) (ms : Members) → IfExact n o
    → members_depth ms ≤ n → members_depth (some_member k o ms) ≤ n
shallow_at n k None ms e h = h
shallow_at n k (Some d) ms e h = omega (arith, e.shallow, h)

all_shallow : (n : ℕ) (ms : Listed) → AllExact n ms → members_depth (as_listed ms) ≤ n
all_shallow n [] e = omega arith
all_shallow n (m ∷ ms) e = shallow_at n m.0 m.1 (as_listed ms) e.0 (all_shallow n ms e.1)

members_depth-with : (n : ℕ) (ms : Listed) → ascends ms ≡ true → AllExact n ms
    → members_depth (with_members ms) ≤ n
members_depth-with n ms h e = rw (with_members-as_listed ms h) (all_shallow n ms e)

object-exact : (n : ℕ) (ms : Listed) → ascends ms ≡ true → AllExact n ms
    → IsExact (suc n) (object_with ms)
object-exact n ms h e = record {
  reads = object_with-reads ms h (all_read n ms e);
  shallow = let within = members_depth-with n ms h e in omega (arith, within);
}

-- the test holds, which `tt` proves where it computes
abbrev pub IsSo : Bool → Type 0
IsSo true = Unit {0}
IsSo false = ⊥

is_so : (b : Bool) → IsSo b → b ≡ true
is_so true h = refl
is_so false h = absurd h

an_object : {a b c d : Written} {n : ℕ} {ms : Listed} → Added a b (begin_object ∷ [])
    → PrintedMembers b c n ms → Added c d (end_object ∷ []) → ascends ms ≡ true
    → Printed a d (suc n) (object_with ms)
an_object {a} {b} {c} {d} {n} {ms} begun members ended up = record {
  added = same_added (object_tokens ms up) (behind begun (behind members.added ended));
  exact = object-exact n ms up members.exact;
}

-- members that ascend, between brackets, are an object
pub prints_object : {a b c d : Printer} {n : ℕ} {ms : Listed}
    → IfWhole a b (Added a.json b.json (begin_object ∷ []))
    → IfWhole b c (PrintedMembers b.json c.json n ms)
    → IfWhole c d (Added c.json d.json (end_object ∷ [])) → IsSo (ascends ms)
    → IfWhole a d (Printed a.json d.json (suc n) (object_with ms))
prints_object {a} {b} {c} {d} {n} {ms} begun members ended up =
    let h = is_so (ascends ms) up in
    both {Q = PrintedMembers b.json c.json n ms × Added c.json d.json (end_object ∷ [])}
    (λ p q. an_object p q.0 q.1 h) begun (both (λ p q. (p, q)) members ended)

-- what was printed nests no deeper than any greater number of levels
pub printed_within : {a b : Printer} {n m : ℕ} {d : Data} → n ≤ m
    → IfWhole a b (Printed a.json b.json n d) → IfWhole a b (Printed a.json b.json m d)
printed_within {a} {b} {n} {m} {d} h printed = record {
  told = λ w. let p = printed.told w in
      (p.0, record { added = p.1.added; exact = no_deeper n m d h p.1.exact });
}

-- ---- arrays

array_tokens : {X : Type 0} (f : X → Data) (xs : List X)
    → flat_map (λ x. data_tokens (f x)) xs ++ end_array ∷ []
    ≡ items_tokens (items_outline (items_of (map f xs)))
array_tokens f [] = refl
array_tokens f (x ∷ xs) =
    append_assoc (data_tokens (f x)) (flat_map (λ y. data_tokens (f y)) xs) (end_array ∷ [])
    ∙ ap (λ ts. data_tokens (f x) ++ ts) (array_tokens f xs)

items-read : {X : Type 0} (n : ℕ) (f : X → Data) (xs : List X)
    → AllByRecursion (λ x. IsExact n (f x)) xs
    → of_items (items_outline (items_of (map f xs))) ≡ Some (items_of (map f xs))
items-read n f [] h = refl
items-read n f (x ∷ xs) h = rw (h.0.reads, items-read n f xs h.1) refl

items-shallow : {X : Type 0} (n : ℕ) (f : X → Data) (xs : List X)
    → AllByRecursion (λ x. IsExact n (f x)) xs → items_depth (items_of (map f xs)) ≤ n
items-shallow n f [] h = omega arith
items-shallow n f (x ∷ xs) h =
    let more = items-shallow n f xs h.1 in omega (arith, h.0.shallow, more)

all_by_recursion : {X : Type 0} (P : X → Type 0) (xs : List X) → All P xs → AllByRecursion P xs
all_by_recursion P [] h = tt
all_by_recursion P (x ∷ xs) h =
    (h 0 x (search rules), all_by_recursion P xs (λ k d b. h (suc k) d (search rules)))

-- one more of them
pub one_more : {X : Type 0} (xs : List X) (i : ℕ) (x : X) → i < length xs → x ≡ get_or xs i x
    → take (i + 1) xs ≡ take i xs ++ x ∷ []
one_more xs i x b is = take_more xs i x b ∙ ap (λ y. take i xs ++ y ∷ []) (sym is)

-- the first i of these trees were printed
pub record Front {X : Type 0} (n : ℕ) (f : X → Data) (xs : List X) (i : ℕ) (a b : Written) : Type 0
  where
    pub added : Added a b (flat_map (λ x. data_tokens (f x)) (take i xs))
    pub exact : All (λ x. IsExact n (f x)) (take i xs)

one_behind : {X : Type 0} {a b c : Written} (n : ℕ) (f : X → Data) (xs : List X) (i : ℕ) (x : X)
    → i < length xs → x ≡ get_or xs i x → Front n f xs i a b → Printed b c n (f x)
    → Front n f xs (i + 1) a c
one_behind {X} {a} {b} {c} n f xs i x h is front one =
    let g : X → List Token = λ y. data_tokens (f y) in
    let P : X → Type 0 = λ y. IsExact n (f y) in
    let tokens : flat_map g (take i xs) ++ g x ≡ flat_map g (take (i + 1) xs) =
    ap (λ ts. flat_map g (take i xs) ++ ts) (sym (append-nil (g x)))
    ∙ sym (ap (flat_map g) (one_more xs i x h is)
    ∙ flat_map-append g (take i xs) (x ∷ [])) in
    record {
      added = same_added tokens (behind front.added one.added);
      exact =
          rw (one_more xs i x h is)
          (All-append P (take i xs) (x ∷ []) front.exact (All-cons P x [] one.exact (All-nil P)));
    }

an_array : {X : Type 0} {a b c d : Written} (n : ℕ) (f : X → Data) (xs : List X) (i : ℕ)
    → length xs ≤ i → Added a b (begin_array ∷ []) → Front n f xs i b c
    → Added c d (end_array ∷ []) → Printed a d (suc n) (array (items_of (map f xs)))
an_array {X} {a} {b} {c} {d} n f xs i h begun front ended =
    let g : X → List Token = λ y. data_tokens (f y) in
    let all : take i xs ≡ xs = take_all i xs h in
    let tokens : begin_array ∷ (flat_map g (take i xs) ++ end_array ∷ [])
    ≡ data_tokens (array (items_of (map f xs))) =
    ap (λ ys. begin_array ∷ (flat_map g ys ++ end_array ∷ [])) all
    ∙ ap (λ ts. begin_array ∷ ts) (array_tokens f xs) in
    let each = all_by_recursion (λ x. IsExact n (f x)) xs (rw (← all) front.exact) in
    record {
      added = same_added tokens (behind begun (behind front.added ended));
      exact = record {
        reads = rw (items-read n f xs each) refl;
        shallow = let within = items-shallow n f xs each in omega (arith, within);
      };
    }

-- the first i of these trees were printed, while memory lasts
abbrev pub IfFront : {X : Type 0} → ℕ → (X → Data) → List X → ℕ → Printer → Printer → Type 0
IfFront n f xs i a b = IfWhole a b (Front n f xs i a.json b.json)

pub front_more : {X : Type 0} {a b c : Printer} (n : ℕ) (f : X → Data) (xs : List X) (i : ℕ) (x : X)
    → i < length xs → x ≡ get_or xs i x → IfFront n f xs i a b
    → IfWhole b c (Printed b.json c.json n (f x)) → IfFront n f xs (i + 1) a c
front_more n f xs i x h is front one = both (λ p q. one_behind n f xs i x h is p q) front one

-- trees, between brackets, are an array
pub prints_array : {X : Type 0} {a b c d : Printer} (n : ℕ) (f : X → Data) (xs : List X) (i : ℕ)
    → length xs ≤ i → IfWhole a b (Added a.json b.json (begin_array ∷ [])) → IfFront n f xs i b c
    → IfWhole c d (Added c.json d.json (end_array ∷ []))
    → IfWhole a d (Printed a.json d.json (suc n) (array (items_of (map f xs))))
prints_array {X} {a} {b} {c} {d} n f xs i h begun front ended =
    both {Q = Front n f xs i b.json c.json × Added c.json d.json (end_array ∷ [])}
    (λ p q. an_array n f xs i h p q.0 q.1) begun
    (both (λ p q. (p, q)) front ended)

-- ---- the text of a tree that was printed

mutual
  depth-outline : (d : Data) → tree.depth (outline d) ≡ depth d
  depth-outline null = refl
  depth-outline (boolean b) = refl
  depth-outline (number n) = refl
  depth-outline (string s) = refl
  depth-outline (array ds) = ap suc (depth-items ds)
  depth-outline (object ms) = ap suc (depth-members ms)

  depth-items : (ds : Items) → tree.items_depth (items_outline ds) ≡ items_depth ds
  depth-items no_items = refl
  depth-items (item d ds) = ap₂ max (depth-outline d) (depth-items ds)

  depth-members : (ms : Members) → tree.members_depth (members_outline ms) ≡ members_depth ms
  depth-members no_members = refl
  depth-members (member k d ms) = ap₂ max (depth-outline d) (depth-members ms)

pub printed_text : (a b : Written) (n : ℕ) (d : Data) → a.before ≡ [] → a.tokens ≡ []
    → Printed a b n d → b.before ++ print b.tokens ≡ compact_text d
printed_text a b n d none first p =
    rw (p.added.before, none, p.added.tokens, first) (print-outline d)

pub printed_reads : (a b : Written) (n : ℕ) (d : Data) → a.tokens ≡ [] → Printed a b n d
    → tokens (print b.tokens) ≡ b.tokens → n ≤ max_depth → read (compact_text d) ≡ Some d
printed_reads a b n d first p lexed deep =
    let all : b.tokens ≡ data_tokens d = rw first at p.added.tokens in
    let shallow : tree.depth (outline d) ≤ max_depth =
    rw (depth-outline d) (omega (arith, p.exact.shallow, deep)) in
    ap (λ ts. option_and_then of_json
    (option_and_then (λ q. json.if_last q.0 q.1) (json.value max_depth ts)))
    (ap tokens (sym (print-outline d)) ∙ (rw all at lexed) ∙ sym (append-nil (data_tokens d)))
    ∙ ap (λ o. option_and_then of_json (option_and_then (λ q. json.if_last q.0 q.1) o))
    (value-json_tokens (outline d) max_depth [] shallow)
    ∙ p.exact.reads
