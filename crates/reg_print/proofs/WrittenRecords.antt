-- What a writer of CSV has written, a record at a time.
use Rattle.std.proofs.Common.{◌≡◌, ◌≢◌, ℕ, ◌+◌, ◌<◌, length, take, get_or, List, [], ◌∷◌, ◌++◌, map, Option, Some, None, false, sym, ap, ◌∙◌, append-nil}
use Rattle.std.specs.Io.KnownBytes.{Appends}
use Rattle.std.proofs.lemmas.Grind.{flat_map-append}
use Rattle.std.proofs.lemmas.List.{map-append}
use Rattle.csv.specs.Writing.{default_writer, writer_setup, fields_written, has_written, text_written, row_text}
use Rattle.csv.specs.declared.writer.QuoteStyle.TheVariants as style
use Rattle.csv.specs.declared.writer.Writer.{Writer}
use Rattle.csv.specs.declared.writer.WriterBuilder.{WriterBuilder}
use Rattle.reg_print.specs.Listing.{csv_text}
use Rattle.reg_print.specs.Records.{Adds}
use Rattle.reg_print.proofs.PrintedTokens.{one_more}

grown : (xs : List ℕ) (o : Option (List ℕ)) (bs : List ℕ) → Appends (Some xs) o bs
    → o ≡ Some (xs ++ bs)
grown xs None bs h = absurd h
grown xs (Some ys) bs h = ap Some h

csv_text-more : (records : List (List (List ℕ))) (fields : List (List ℕ))
    → csv_text records ++ row_text default_writer fields ≡ csv_text (records ++ fields ∷ [])
csv_text-more records fields =
    ap (λ ts. csv_text records ++ ts) (sym (append-nil (row_text default_writer fields)))
    ∙ sym (flat_map-append (row_text default_writer) records (fields ∷ []))

quotes_needed : (cfg : WriterBuilder) → cfg ≡ default_writer → cfg.style ≢ style.NonNumeric
quotes_needed cfg h = rw h (λ e. cc)

pub adds : {W : Type 0} (contents : W → Option (List ℕ)) (old new : Writer W)
    (fields : List (List ℕ))
    → (fields_written old ≡ 0 → has_written old ≡ false
    → (writer_setup old).style ≢ style.NonNumeric
    → Appends (text_written contents old) (text_written contents new)
    (row_text (writer_setup old) fields))
    → fields_written new ≡ 0 → has_written new ≡ false → writer_setup new ≡ writer_setup old
    → Adds contents old new fields
adds contents old new fields bytes ended clean setup records h =
    let appended = bytes h.fields h.wrote (quotes_needed (writer_setup old) h.setup) in
    let known = rw (h.text, h.setup) at appended in
    record {
      text =
          grown (csv_text records) (text_written contents new) (row_text default_writer fields)
          known
          ∙ ap Some (csv_text-more records fields);
      fields = ended;
      wrote = clean;
      setup = setup ∙ h.setup;
    }

-- the records of the first rows, and of one more
pub records_more : {X Y : Type 0} (f : X → Y) (first : Y) (xs : List X) (i : ℕ) (x : X)
    → i < length xs → x ≡ get_or xs i x
    → (first ∷ map f (take i xs)) ++ f x ∷ [] ≡ first ∷ map f (take (i + 1) xs)
records_more f first xs i x h is =
    ap (λ ys. first ∷ ys)
    (sym (map-append f (take i xs) (x ∷ [])) ∙ ap (map f) (sym (one_more xs i x h is)))

-- the same, of rows as they are seen
pub rows_more : {X Y Z : Type 0} (f : Y → Z) (g : X → Y) (first : Z) (xs : List X) (i : ℕ) (x : X)
    → i < length xs → x ≡ get_or xs i x
    → (first ∷ map f (map g (take i xs))) ++ f (g x) ∷ []
    ≡ first ∷ map f (map g (take (i + 1) xs))
rows_more f g first xs i x h is =
    ap (λ ys. first ∷ ys)
    (sym (map-append f (map g (take i xs)) (g x ∷ []))
    ∙ ap (map f) (sym (map-append g (take i xs) (x ∷ [])))
    ∙ ap (λ ys. map f (map g ys)) (sym (one_more xs i x h is)))
