-- A line is read as it is written.
use Rattle.std.proofs.Common.{◌≡◌, ◌≢◌, ℕ, ◌<◌, ◌≤◌, ◌^◌, suc, List, [], ◌∷◌, ◌++◌, length, drop, map, Bool, true, false, Option, Some, None, refl, sym, ap, ◌∙◌, subst, arith, add-one, append-nil, length-append, inl, inr}
use Rattle.std.proofs.Math.Seq.{take-append_seam}
use Rattle.std.proofs.lemmas.Bool.{lt-ltb, ltb-false}
use Rattle.std.proofs.lemmas.Bool.Decides.{nat_tests}
use Rattle.std.proofs.lemmas.Option.{same_Some, none-some}
use Rattle.std.specs.Prelude.{◌==◌, ◌⊎◌, nat_lt, position, unwrap_or, if◌then◌else◌}
use Rattle.std.specs.Fmt.{decimal}
use Rattle.std.specs.List.{AllByRecursion, position_or_len}
use Rattle.reg_wire.specs.Exchange.{Call}
use Rattle.reg_wire.specs.Script.Line.{◌>>=◌, is_space, field_before, first_field, path_before, path_and_body, moment_of, token_of, line_feed_of, fields_of, line_of, most_bytes}
use Rattle.reg_wire.specs.Script.Laws.{IsField, after_path, written, IsWritten}
use Rattle.reg_wire.proofs.Moments.{moment_reads, moment_is, decimal_field}

abbrev HasNoSpace : List ℕ → Type 0
HasNoSpace bytes = AllByRecursion (λ b. b ≢ 32) bytes

-- ---- The first space

no_space : (b : ℕ) → b ≢ 32 → (b == 32) ≡ false
no_space b other = grind (arith, nat_tests)

space : (b : ℕ) → (b == 32) ≡ true → b ≡ 32
space b t = grind (arith, nat_tests)

no_space_of : (b : ℕ) → (b == 32) ≡ false → b ≢ 32
no_space_of b t = grind (arith, nat_tests)

not_less : (n : ℕ) → nat_lt n n ≡ false
not_less n = grind (arith, nat_tests)

not_zero : (n : ℕ) → 0 < n → (n == 0) ≡ false
not_zero n h = grind (arith, nat_tests)

first_at : (field rest : List ℕ) → HasNoSpace field
    → position_or_len is_space (field ++ 32 ∷ rest) ≡ length field
first_at [] rest h = refl
first_at (b ∷ bs) rest h = rw (no_space b h.0) (omega (arith, first_at bs rest h.1))

first_nowhere : (bytes : List ℕ) → HasNoSpace bytes → position_or_len is_space bytes ≡ length bytes
first_nowhere [] h = refl
first_nowhere (b ∷ bs) h = rw (no_space b h.0) (omega (arith, first_nowhere bs h.1))

position_at : (field rest : List ℕ) → HasNoSpace field
    → position is_space (field ++ 32 ∷ rest) ≡ Some (length field)
position_at field rest h =
    let within : nat_lt (length field) (length (field ++ 32 ∷ rest)) ≡ true =
    lt-ltb _ _ (omega (arith, length-append field (32 ∷ rest))) in
    rw (first_at field rest h, within) refl

position_nowhere : (bytes : List ℕ) → HasNoSpace bytes → position is_space bytes ≡ None
position_nowhere bytes h = rw (first_nowhere bytes h, not_less (length bytes)) refl

drop_past : (field rest : List ℕ) (b : ℕ) → drop (suc (length field)) (field ++ b ∷ rest) ≡ rest
drop_past [] rest b = refl
drop_past (x ∷ xs) rest b = drop_past xs rest b

-- a line has a first space, or none
abbrev Parted : List ℕ → Type 0
Parted bytes =
    ((field : List ℕ) × (rest : List ℕ) × (bytes ≡ field ++ 32 ∷ rest) × HasNoSpace field)
    ⊎ HasNoSpace bytes

part_byte : (t : Bool) (b : ℕ) (bytes : List ℕ) → (b == 32) ≡ t → Parted bytes → Parted (b ∷ bytes)
part_byte true b bytes e p = inl ([], bytes, ap (λ x. x ∷ bytes) (space b e), tt)
part_byte false b bytes e (inl p) = inl (b ∷ p.0, p.1, ap (λ t. b ∷ t) p.2, (no_space_of b e, p.3))
part_byte false b bytes e (inr p) = inr (no_space_of b e, p)

part : (bytes : List ℕ) → Parted bytes
part [] = inr tt
part (b ∷ bytes) = part_byte (b == 32) b bytes refl (part bytes)

-- ---- Fields

cut_field : (field rest : List ℕ) → 0 < length field
    → field_before (field ++ 32 ∷ rest) (Some (length field)) ≡ Some (field, rest)
cut_field field rest h =
    rw (
      not_zero (length field) h,
      take-append_seam field (32 ∷ rest),
      add-one,
      drop_past field rest 32,
    ) refl

field_reads : (field rest : List ℕ) → IsField field
    → first_field (field ++ 32 ∷ rest) ≡ Some (field, rest)
field_reads field rest h = rw (position_at field rest h.1) (cut_field field rest h.0)

-- a line whose first field is this one
abbrev Begins : List ℕ → List ℕ × List ℕ → Type 0
Begins bytes p = (bytes ≡ p.0 ++ 32 ∷ p.1) × IsField p.0

field_of_part : (field rest : List ℕ) (p : List ℕ × List ℕ) → HasNoSpace field
    → first_field (field ++ 32 ∷ rest) ≡ Some p → Begins (field ++ 32 ∷ rest) p
field_of_part [] rest p h e =
    absurd (none-some p (sym (ap (field_before (32 ∷ rest)) (position_at [] rest tt)) ∙ e))
field_of_part (b ∷ bs) rest p h e =
    let is : IsField (b ∷ bs) = (omega arith, h) in
    subst (Begins ((b ∷ bs) ++ 32 ∷ rest)) (same_Some _ p (sym (field_reads (b ∷ bs) rest is) ∙ e))
    (refl, is)

field_part : (bytes : List ℕ) (p : List ℕ × List ℕ) → Parted bytes → first_field bytes ≡ Some p
    → Begins bytes p
field_part bytes p (inl s) e =
    subst (λ (t : List ℕ). Begins t p) (sym s.2)
    (field_of_part s.0 s.1 p s.3 (ap first_field (sym s.2) ∙ e))
field_part bytes p (inr s) e =
    absurd (none-some p (sym (ap (field_before bytes) (position_nowhere bytes s)) ∙ e))

field_is : (bytes : List ℕ) (p : List ℕ × List ℕ) → first_field bytes ≡ Some p → Begins bytes p
field_is bytes p e = field_part bytes p (part bytes) e

-- ---- The path and the body

cut_path : (path rest : List ℕ) → 0 < length path
    → path_before (path ++ 32 ∷ rest) (Some (length path)) ≡ Some (path, rest)
cut_path path rest h =
    rw (
      not_zero (length path) h,
      take-append_seam path (32 ∷ rest),
      add-one,
      drop_past path rest 32,
    ) refl

path_reads : (path : List ℕ) (body : Option (List ℕ)) → IsField path
    → path_and_body (path ++ after_path body) ≡ Some (path, unwrap_or body [])
path_reads path (Some body) h = rw (position_at path body h.1) (cut_path path body h.0)
path_reads path None h =
    rw (append-nil path, position_nowhere path h.1, not_zero (length path) h.0) refl

-- what a path and a body are read from
abbrev Ends : List ℕ → List ℕ × List ℕ → Type 0
Ends bytes p =
    (body : Option (List ℕ)) × (bytes ≡ p.0 ++ after_path body) × IsField p.0
    × (p.1 ≡ unwrap_or body [])

path_of_part : (path rest : List ℕ) (p : List ℕ × List ℕ) → HasNoSpace path
    → path_and_body (path ++ 32 ∷ rest) ≡ Some p → Ends (path ++ 32 ∷ rest) p
path_of_part [] rest p h e =
    absurd (none-some p (sym (ap (path_before (32 ∷ rest)) (position_at [] rest tt)) ∙ e))
path_of_part (b ∷ bs) rest p h e =
    let is : IsField (b ∷ bs) = (omega arith, h) in
    subst (Ends ((b ∷ bs) ++ 32 ∷ rest))
    (same_Some _ p (sym (path_reads (b ∷ bs) (Some rest) is) ∙ e)) (Some rest, refl, is, refl)

path_alone : (path : List ℕ) (p : List ℕ × List ℕ) → HasNoSpace path → path_and_body path ≡ Some p
    → Ends path p
path_alone [] p h e = absurd (none-some p e)
path_alone (b ∷ bs) p h e =
    let is : IsField (b ∷ bs) = (omega arith, h) in
    let same = append-nil (b ∷ bs) in
    subst (Ends (b ∷ bs))
    (same_Some _ p (sym (ap path_and_body (sym same) ∙ path_reads (b ∷ bs) None is) ∙ e))
    (None, sym same, is, refl)

path_part : (bytes : List ℕ) (p : List ℕ × List ℕ) → Parted bytes → path_and_body bytes ≡ Some p
    → Ends bytes p
path_part bytes p (inl s) e =
    subst (λ (t : List ℕ). Ends t p) (sym s.2)
    (path_of_part s.0 s.1 p s.3 (ap path_and_body (sym s.2) ∙ e))
path_part bytes p (inr s) e = path_alone bytes p s e

path_is : (bytes : List ℕ) (p : List ℕ × List ℕ) → path_and_body bytes ≡ Some p → Ends bytes p
path_is bytes p e = path_part bytes p (part bytes) e

-- ---- Lines

bind_is : {A B : Type 0} (o : Option A) (f : A → Option B) (y : B) → (o >>= f) ≡ Some y
    → (x : A) × (o ≡ Some x) × (f x ≡ Some y)
bind_is None f y e = absurd (none-some y e)
bind_is (Some x) f y e = (x, refl, e)

-- what follows each step of the reading
abbrev Pair : Type 0
Pair = List ℕ × List ℕ

abbrev asks : ℕ → List ℕ → List ℕ → Pair → Call
asks seconds token method p =
    record {
      moment = seconds;
      token = token_of token;
      method = method;
      path = p.0;
      body = map line_feed_of p.1;
    }

abbrev from_path : ℕ → List ℕ → List ℕ → Pair → Option Call
from_path seconds token method p = Some (asks seconds token method p)

abbrev from_method : ℕ → List ℕ → Pair → Option Call
from_method seconds token p = path_and_body p.1 >>= from_path seconds token p.0

abbrev from_token : ℕ → Pair → Option Call
from_token seconds p = first_field p.1 >>= from_method seconds p.0

abbrev from_seconds : Pair → ℕ → Option Call
from_seconds p seconds = first_field p.1 >>= from_token seconds

abbrev from_moment : Pair → Option Call
from_moment p = moment_of p.0 >>= from_seconds p

written_fields : (moment : ℕ) (token method path : List ℕ) (body : Option (List ℕ))
    → moment < 2 ^ 64 → IsField token → IsField method → IsField path
    → fields_of (written moment token method path body)
    ≡ Some (asks moment token method (path, unwrap_or body []))
written_fields moment token method path body h t m p =
    let after_method = path ++ after_path body in
    let after_token = method ++ 32 ∷ after_method in
    let after_moment = token ++ 32 ∷ after_token in
    ap (λ (o : Option Pair). o >>= from_moment)
    (field_reads (decimal moment) after_moment (decimal_field moment h))
    ∙ ap (λ (o : Option ℕ). o >>= from_seconds (decimal moment, after_moment))
    (moment_reads moment h)
    ∙ ap (λ (o : Option Pair). o >>= from_token moment) (field_reads token after_token t)
    ∙ ap (λ (o : Option Pair). o >>= from_method moment token) (field_reads method after_method m)
    ∙ ap (λ (o : Option Pair). o >>= from_path moment token method) (path_reads path body p)

not_long : (n most : ℕ) → n ≤ most → nat_lt most n ≡ false
not_long n most h = grind (arith, nat_tests)

-- the call with this token and this body
abbrev call_with : Call → Option (List ℕ) → List ℕ → Call
call_with asked token body = record {
  moment = asked.moment;
  token = token;
  method = asked.method;
  path = asked.path;
  body = body;
}

pub written_reads : (bytes : List ℕ) (asked : Call) → IsWritten bytes asked
    → line_of bytes ≡ Some asked
unfolding line_of
written_reads bytes asked w =
    let by_token =
    ap (λ (t : Option (List ℕ)). Some (call_with asked t (map line_feed_of (unwrap_or w.body []))))
    (sym w.asks_by) in
    let by_body =
    ap (λ (b : List ℕ). Some (call_with asked asked.token b)) (sym w.asks_with) in
    rw (not_long (length bytes) most_bytes w.fits)
    (ap fields_of w.whole ∙ written_fields asked.moment w.token asked.method asked.path w.body
    w.moment_fits w.token_is w.method_is w.path_is ∙ by_token ∙ by_body)

whole_is : (bytes first after_moment after_token after_method : List ℕ) (seconds : ℕ)
    (token method path : List ℕ) (body : Option (List ℕ))
    → bytes ≡ first ++ 32 ∷ after_moment → first ≡ decimal seconds
    → after_moment ≡ token ++ 32 ∷ after_token → after_token ≡ method ++ 32 ∷ after_method
    → after_method ≡ path ++ after_path body → bytes ≡ written seconds token method path body
whole_is bytes first after_moment after_token after_method seconds token method path body b s t m
    p =
    b ∙ ap (λ x. x ++ 32 ∷ after_moment) s
    ∙ ap (λ x. decimal seconds ++ 32 ∷ x)
    (t ∙ ap (λ x. token ++ 32 ∷ x) (m ∙ ap (λ x. method ++ 32 ∷ x) p))

fields_are : (bytes : List ℕ) (asked : Call) → fields_of bytes ≡ Some asked
    → length bytes ≤ most_bytes → IsWritten bytes asked
fields_are bytes asked e fits =
    let a = bind_is (first_field bytes) from_moment asked e in
    let s = bind_is (moment_of a.0.0) (from_seconds a.0) asked a.2 in
    let t = bind_is (first_field a.0.1) (from_token s.0) asked s.2 in
    let m = bind_is (first_field t.0.1) (from_method s.0 t.0.0) asked t.2 in
    let p = bind_is (path_and_body m.0.1) (from_path s.0 t.0.0 m.0.0) asked m.2 in
    let moment_first = field_is bytes a.0 a.1 in
    let seconds = moment_is a.0.0 s.0 s.1 in
    let token_first = field_is a.0.1 t.0 t.1 in
    let method_first = field_is t.0.1 m.0 m.1 in
    let path_last = path_is m.0.1 p.0 p.1 in
    let reading : IsWritten bytes (asks s.0 t.0.0 m.0.0 p.0) = record {
      token = t.0.0;
      body = path_last.0;
      whole = whole_is bytes a.0.0 a.0.1 t.0.1 m.0.1 s.0 t.0.0 m.0.0 p.0.0 path_last.0
          moment_first.0 seconds.0 token_first.0 method_first.0 path_last.1;
      fits = fits;
      moment_fits = seconds.1;
      token_is = token_first.1;
      method_is = method_first.1;
      path_is = path_last.2;
      asks_by = refl;
      asks_with = ap (map line_feed_of) path_last.3;
    } in
    subst (IsWritten bytes) (same_Some _ asked p.2) reading

by_length : (bytes : List ℕ) (asked : Call) (t : Bool) → nat_lt most_bytes (length bytes) ≡ t
    → (if t then None else fields_of bytes) ≡ Some asked → IsWritten bytes asked
by_length bytes asked true test e = absurd (none-some asked e)
by_length bytes asked false test e =
    fields_are bytes asked e (ltb-false most_bytes (length bytes) test)

pub written_is : (bytes : List ℕ) (asked : Call) → line_of bytes ≡ Some asked
    → IsWritten bytes asked
unfolding line_of
written_is bytes asked e = by_length bytes asked (nat_lt most_bytes (length bytes)) refl e
