-- What the bytes ask that were read.
use Rattle.std.proofs.Common.{◌≡◌, ℕ, ◌+◌, ◌-◌, ◌<◌, ◌≤◌, max, List, ◌++◌, Bool, true, false, Option, None, Some, Ok, Err, length, take, drop, map, refl, sym, ap, ◌∙◌, inl, inr, arith, append_assoc, length-append, length-drop}
use Rattle.std.proofs.lemmas.Bool.Decides.{nat_tests}
use Rattle.std.proofs.lemmas.List.{take-append-le, drop-append-le}
use Rattle.std.proofs.KnownBytes.{Consumes-trans}
use Rattle.std.specs.Prelude.{nat_le}
use Rattle.std.specs.Io.KnownBytes.{Consumes}
use Rattle.httparse.specs.Grammar.{RequestHead, print_request}
use Rattle.httparse.specs.Spans.{IsWithin, header_bytes, span_bytes}
use Rattle.httparse.specs.declared.spans.HeaderSpan.{HeaderSpan}
use Rattle.httparse.specs.declared.spans.RequestSpans.{RequestSpans}
use Rattle.httparse.specs.declared.spans.Span.{Span}
use Rattle.reg_head.specs.Fields.{announced, token_of, bearer}
use Rattle.reg_head.specs.Found.{IsWithinIf, token_at}
use Rattle.reg_head.specs.Head.{HasHead, fields_of}
use Rattle.reg_head.specs.Looks.{IsHeadAt, IsHeadless}
use Rattle.reg_head.specs.Pieces.{LacksBytes}
use Rattle.reg_head.specs.Reading.{IsAsked, IsMessage, IsNoFurther, IsUnread}
use Rattle.reg_head.specs.Request.{BytesAsk, request_with, request_by, request_of}
use Rattle.reg_head.specs.declared.malformed.Malformed.{Malformed}
use Rattle.reg_head.specs.declared.malformed.Malformed.TheVariants as malformed
use Rattle.reg_head.specs.declared.message.Message.{Message}
use Rattle.reg_head.specs.declared.unread.Unread.{Unread}
use Rattle.reg_head.specs.declared.unread.Unread.TheVariants as unread

-- ---- No head

pub headless : (before left : Option (List ℕ)) (why : Unread) → IsHeadless before left why
    → IsUnread before left why
headless before left (unread.Refused malformed.Head) (bytes, is_read, little, inl none) = record {
  bytes = bytes;
  is_read = is_read;
  no_further = inl little;
  asks = inl (λ more. inr (none more, refl));
}
headless before left (unread.Refused malformed.Head) (bytes, is_read, little, inr (end, none)) = record {
  bytes = bytes;
  is_read = is_read;
  no_further = inl little;
  asks = inr (end, inr (none, refl));
}
headless before left (unread.Refused malformed.Encoding) h = absurd h
headless before left (unread.Refused malformed.Length) h = absurd h
headless before left (unread.Refused malformed.Large) h = absurd h
headless before left (unread.Refused malformed.Short) h = absurd h
headless before left unread.Read (bytes, is_read, none, still) = record {
  bytes = bytes;
  is_read = is_read;
  no_further = inl (omega (arith, still.1));
  lacks = inl (inr (none, refl), still);
}
headless before left unread.Memory h = tt

-- ---- More bytes after a head

has_head_more : (buf : List ℕ) (head : RequestHead) (rest more : List ℕ) → HasHead buf head rest
    → HasHead (buf ++ more) head (rest ++ more)
has_head_more buf head rest more h = record {
  reads = (h.reads.0, ap (λ t. t ++ more) h.reads.1 ∙ append_assoc (print_request head) rest more);
  short = h.short;
  few = h.few;
}

span_more : (buf more : List ℕ) (span : Span) → IsWithin (length buf) span
    → span_bytes (buf ++ more) span ≡ span_bytes buf span
span_more buf more span within =
    ap (take (span.end - span.start))
    (drop-append-le span.start buf more (omega (arith, within.0, within.1)))
    ∙ take-append-le (span.end - span.start) (drop span.start buf) more
    (omega (arith, within.0, within.1, length-drop span.start buf))

token_more : (buf more : List ℕ) (span : Option Span) → IsWithinIf (length buf) span
    → token_at (buf ++ more) span ≡ token_at buf span
token_more buf more None within = refl
token_more buf more (Some span) within = ap bearer (span_more buf more span within)

within_more : (buf more : List ℕ) (span : Span) → IsWithin (length buf) span
    → IsWithin (length (buf ++ more)) span
within_more buf more span within =
    (within.0, omega (arith, within.1, length-append buf more))

within_if_more : (buf more : List ℕ) (span : Option Span) → IsWithinIf (length buf) span
    → IsWithinIf (length (buf ++ more)) span
within_if_more buf more None within = tt
within_if_more buf more (Some span) within = within_more buf more span within

-- ---- A head

module _ (before left : Option (List ℕ)) (buf : List ℕ) (headers : List HeaderSpan)
    (spans : RequestSpans) (head : RequestHead) (is : IsHeadAt buf headers spans head)
    (little : length buf ≤ 8192) where
  abbrev rest : List ℕ
  rest = drop spans.len buf

  announces : announced (map (header_bytes buf) (take spans.headers headers))
      ≡ announced (fields_of head)
  announces = ap announced is.at.fields

  -- what the fields refuse
  pub refused : (why : Malformed) → Consumes before left buf
      → announced (map (header_bytes buf) (take spans.headers headers)) ≡ Err why
      → IsAsked before left (Err why)
  refused why is_read e = record {
    bytes = buf;
    is_read = is_read;
    no_further = inl little;
    asks = inl (λ more. inl (
      head,
      rest ++ more,
      has_head_more buf head rest more is.has,
      ap (request_by head (rest ++ more)) (sym e ∙ announces),
    ));
  }

  module _ (n : ℕ)
      (e : announced (map (header_bytes buf) (take spans.headers headers)) ≡ Ok n) where
    says : announced (fields_of head) ≡ Ok n
    says = sym announces ∙ e

    near : (more : List ℕ) (fits : Bool) → length (buf ++ more) ≤ max (spans.len + n) (length buf)
        → nat_le (length (rest ++ more)) n ≡ fits → IsNoFurther (buf ++ more)
    near more false bound e =
        let past : n < length (rest ++ more) = grind (arith, nat_tests, e) in
        inl (omega (
          arith,
          bound,
          past,
          little,
          length-append buf more,
          length-append rest more,
          length-drop spans.len buf,
          is.within.section.len_fits,
        ))
    near more true bound e =
        let body : length (rest ++ more) ≤ n = grind (arith, nat_tests, e) in
        inr (head, rest ++ more, n, has_head_more buf head rest more is.has, says, body)

    -- no more was read than the head and the body, or than the most of a head
    no_further : (more : List ℕ) → length (buf ++ more) ≤ max (spans.len + n) (length buf)
        → IsNoFurther (buf ++ more)
    no_further more bound = near more (nat_le (length (rest ++ more)) n) bound refl

    -- the bytes end before the body does
    short : (more : List ℕ) → length (buf ++ more) < spans.len + n
        → BytesAsk (buf ++ more) (Err malformed.Short)
    short more lacks =
        let fewer : nat_le n (length (rest ++ more)) ≡ false =
        grind (
          arith,
          nat_tests,
          lacks,
          length-append buf more,
          length-append rest more,
          length-drop spans.len buf,
          is.within.section.len_fits,
        ) in
        inl (
          head,
          rest ++ more,
          has_head_more buf head rest more is.has,
          sym (ap (request_by head (rest ++ more)) says ∙ rw fewer refl),
        )

    pub lacks_body : (after : Option (List ℕ)) (why : Unread) → Consumes before left buf
        → LacksBytes left after buf (spans.len + n) why → IsUnread before after why
    lacks_body after (unread.Refused malformed.Short) is_read ((more, read_more, fewer), end) =
        record {
          bytes = buf ++ more;
          is_read = Consumes-trans before left after buf more is_read read_more;
          no_further = no_further more (omega (arith, fewer));
          asks = inr (end, short more fewer);
        }
    lacks_body after (unread.Refused malformed.Head) is_read h = absurd h
    lacks_body after (unread.Refused malformed.Encoding) is_read h = absurd h
    lacks_body after (unread.Refused malformed.Length) is_read h = absurd h
    lacks_body after (unread.Refused malformed.Large) is_read h = absurd h
    lacks_body after unread.Read is_read (more, read_more, fewer) = record {
      bytes = buf ++ more;
      is_read = Consumes-trans before left after buf more is_read read_more;
      no_further = no_further more (omega (arith, fewer));
      lacks = inr (short more fewer);
    }
    lacks_body after unread.Memory is_read h = tt

    -- the whole request
    module _ (more : List ℕ) (enough : spans.len + n ≤ length (buf ++ more)) where
      fits : n ≤ length (rest ++ more)
      fits = omega (
        arith,
        enough,
        length-append buf more,
        length-append rest more,
        length-drop spans.len buf,
        is.within.section.len_fits,
      )

      whole : (others : List ℕ)
          → BytesAsk ((buf ++ more) ++ others) (Ok (request_with head (rest ++ more) n))
      whole others =
          let all = (rest ++ more) ++ others in
          let fit : nat_le n (length all) ≡ true =
          grind (arith, nat_tests, fits, length-append (rest ++ more) others) in
          let same : request_of head all ≡ Ok (request_with head all n) =
          ap (request_by head all) says ∙ rw fit refl in
          let body : take n all ≡ take n (rest ++ more) =
          take-append-le n (rest ++ more) others fits in
          inl (
            head,
            all,
            has_head_more (buf ++ more) head (rest ++ more) others
                (has_head_more buf head rest more is.has),
            sym (same ∙ ap
                (λ b. Ok (record {
                  method = head.method;
                  path = head.target;
                  token = token_of (fields_of head);
                  body = b;
                }))
                body),
          )

      pub asked : (after : Option (List ℕ)) → Consumes before left buf
          → Consumes left after more
          → length (buf ++ more) ≤ max (spans.len + n) (length buf)
          → IsAsked before after (Ok (request_with head (rest ++ more) n))
      asked after is_read read_more bound = record {
        bytes = buf ++ more;
        is_read = Consumes-trans before left after buf more is_read read_more;
        no_further = no_further more bound;
        asks = inl whole;
      }

      widen : (span : Span) → IsWithin spans.len span → IsWithin (length (buf ++ more)) span
      widen span within =
          within_more buf more span
          (within.0, omega (arith, within.1, is.within.section.len_fits))

      part : (span : Span) → IsWithin spans.len span
          → span_bytes (buf ++ more) span ≡ span_bytes buf span
      part span within =
          span_more buf more span
          (within.0, omega (arith, within.1, is.within.section.len_fits))

      body_at : take (spans.len + n - spans.len) (drop spans.len (buf ++ more))
          ≡ take n (rest ++ more)
      body_at =
          let count : spans.len + n - spans.len ≡ n = omega arith in
          rw count
          (ap (take n) (drop-append-le spans.len buf more is.within.section.len_fits))

      pub is_message : (m : Message) → m.bytes.items ≡ buf ++ more → m.method ≡ spans.method
          → m.path ≡ spans.path → IsWithinIf (length buf) m.authorization
          → token_at buf m.authorization ≡ token_of (fields_of head)
          → m.body.start ≡ spans.len → m.body.end ≡ spans.len + n
          → IsMessage m (request_with head (rest ++ more) n)
      is_message m bytes method path within token start end = record {
        placed = record {
          method = rw (bytes, method) (widen spans.method is.within.method);
          path = rw (bytes, path) (widen spans.path is.within.path);
          authorization = rw bytes (within_if_more buf more m.authorization within);
          body = rw (bytes, start, end) (omega arith, enough);
        };
        method = rw (bytes, method) (part spans.method is.within.method ∙ is.at.method);
        path = rw (bytes, path) (part spans.path is.within.path ∙ is.at.path);
        token = rw bytes (token_more buf more m.authorization within ∙ token);
        body = rw (bytes, start, end) body_at;
      }
