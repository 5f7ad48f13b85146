-- What is published is a fact of each range, entry, prefix and block, and no more.
use Rattle.std.proofs.Common.{◌≡◌, ◌≢◌, ◌∙◌, ℕ, zero, suc, ◌+◌, ◌<◌, Bool, true, false, List, [], ◌∷◌, ◌++◌, length, map, inl, inr, refl, sym, ap, subst, arith}
use Rattle.std.specs.Prelude.{All, Contains, Option, option_map, unwrap_or, codes, decimal, if◌then◌else◌, ◌==◌, slice_index_or, sum_by, flat_map}
use Rattle.std.proofs.lemmas.Bool.Decides.{nat_tests}
use Rattle.std.proofs.lemmas.List.{length-append, length-map}
use Rattle.std.proofs.lemmas.List.Concat.{flat_map-cons}
use Rattle.std.proofs.lemmas.List.Elements.{All-append, All-contains_itself, All-map, All-nil, All-weaker, Contains-append_left, Contains-append_right}
use Rattle.std.proofs.lemmas.List.Sums.{sum_by-cons}
use Rattle.reg_maps.proofs.MapLaws.{Contains-map}
use Rattle.reg_early.specs.DayText.{text_of_day}
use Rattle.reg_ranges.specs.declared.range.Range.{Range}
use Rattle.reg_core.specs.declared.entry.PageEntry.{PageEntry}
use Rattle.reg_core.specs.declared.holding.Listed.{Listed}
use Rattle.reg_core.specs.declared.page.Page.{Page}
use Rattle.reg_changes.specs.declared.change.Fact.{Fact}
use Rattle.reg_history.specs.FactsInWords.{FactsArePublished, HasFactThat, IsBlockFact, IsEntryFact, IsOfPage, IsPrefixFact, IsPublishedFact, IsRangeFact, page_size}
use Rattle.reg_history.specs.Published.{block_fact, entry_fact, held_text, page_facts, prefix_fact, published_facts, range_fact}

-- ---- One fact

one_value : (lo hi : ℕ) → lo ≡ hi → (lo == hi) ≡ true
one_value lo hi same = grind (arith, nat_tests)

two_values : (lo hi : ℕ) → lo ≢ hi → (lo == hi) ≡ false
two_values lo hi differ = by (lo == hi) refl
  where
    by : (b : Bool) → (lo == hi) ≡ b → (lo == hi) ≡ false
    by false t = t
    by true t = absurd (differ (grind (arith, nat_tests)))

abbrev value_by : Range → Bool → List ℕ
value_by range one =
    if one then decimal range.lo else decimal range.lo ++ codes "-" ++ decimal range.hi

range_said : (name : List ℕ) (range : Range) → IsRangeFact name range (range_fact name range)
range_said name range = record {
  class = refl;
  registry = refl;
  one = λ same. ap (value_by range) (one_value range.lo range.hi same);
  more = λ differ. ap (value_by range) (two_values range.lo range.hi differ);
  note = λ text is. ap (λ (n : Option (List ℕ)). unwrap_or n []) is;
  no_note = λ is. ap (λ (n : Option (List ℕ)). unwrap_or n []) is;
  policy = refl;
  rest = (refl, refl, refl, refl);
}

entry_said : (name : List ℕ) (entry : PageEntry) → IsEntryFact name entry (entry_fact name entry)
entry_said name entry = record {
  class = refl;
  registry = refl;
  value = refl;
  label = refl;
  first = refl;
  expires = λ day is. ap (λ (o : Option ℕ). unwrap_or (option_map text_of_day o) []) is;
  permanent = λ is. ap (λ (o : Option ℕ). unwrap_or (option_map text_of_day o) []) is;
  held = λ is. ap held_text is;
  free = λ is. ap held_text is;
  assignee = refl;
  rest = refl;
}

prefix_said : (prefix : ℕ) → IsPrefixFact prefix (prefix_fact prefix)
prefix_said prefix = record {
  class = refl;
  registry = refl;
  value = refl;
  rest = (refl, refl, refl, refl, refl, refl);
}

block_said : (row : Listed) → IsBlockFact row.block (block_fact row.block)
block_said row = record {
  class = refl;
  registry = refl;
  value = refl;
  rest = (refl, refl, refl, refl, refl, refl);
}

-- ---- All facts

-- what is so of each that is shown
each_shown : {A : Type 0} (Is : Fact → Type 0) (f : A → Fact) (xs : List A)
    → ((x : A) → Contains xs x → Is (f x)) → All Is (map f xs)
each_shown Is f xs each =
    All-map Is f xs
    (All-weaker (Contains xs) (λ x. Is (f x)) (λ x inside. each x inside) xs (All-contains_itself xs))

abbrev block_of : Listed → Fact
block_of row = block_fact row.block

module _ (pages : List Page) (prefixes : List ℕ) (rows : List Listed) where
  abbrev of_pages : List Fact
  of_pages = flat_map page_facts pages

  abbrev others : List Fact
  others = map prefix_fact prefixes ++ map block_of rows

  of_page : (page : Page) → Contains pages page → All (IsOfPage pages) (page_facts page)
  of_page page inside =
      All-append (IsOfPage pages) (map (range_fact page.name) page.table.ranges)
      (map (entry_fact page.name) page.entries)
      (each_shown (IsOfPage pages) (range_fact page.name) page.table.ranges (λ range has.
      (page, inside, inl (range, has, range_said page.name range))))
      (each_shown (IsOfPage pages) (entry_fact page.name) page.entries (λ entry has.
      (page, inside, inr (entry, has, entry_said page.name entry))))

  all_of : (some : List Page) → All (Contains pages) some → All (IsOfPage pages) (flat_map page_facts some)
  all_of [] inside = All-nil (IsOfPage pages)
  all_of (page ∷ more) inside =
      subst (All (IsOfPage pages)) (sym (flat_map-cons page_facts page more))
      (All-append (IsOfPage pages) (page_facts page) (flat_map page_facts more)
      (of_page page (inside 0 page (omega arith)))
      (all_of more (λ k d within. inside (suc k) d (omega (arith, within)))))

  only_these : All (IsPublishedFact pages prefixes rows) (published_facts pages prefixes rows)
  only_these =
      All-append (IsPublishedFact pages prefixes rows) of_pages others
      (All-weaker (IsOfPage pages) (IsPublishedFact pages prefixes rows) (λ fact is. inl is) of_pages
      (all_of pages (All-contains_itself pages)))
      (All-append (IsPublishedFact pages prefixes rows) (map prefix_fact prefixes)
      (map block_of rows)
      (each_shown (IsPublishedFact pages prefixes rows) prefix_fact prefixes (λ prefix has.
      inr (inl (prefix, has, prefix_said prefix))))
      (each_shown (IsPublishedFact pages prefixes rows) block_of rows (λ row has.
      inr (inr (row, has, block_said row)))))

  -- a fact of a page is among all
  from_page : (some : List Page) (page : Page) (fact : Fact) (k : ℕ) → k < length some
      → slice_index_or some k page ≡ page → Contains (page_facts page) fact
      → Contains (flat_map page_facts some) fact
  from_page [] page fact k inside is has = absurd (omega (arith, inside))
  from_page (first ∷ more) page fact zero inside is has =
      subst (λ all. Contains all fact) (sym (flat_map-cons page_facts first more))
      (Contains-append_left (page_facts first) (flat_map page_facts more) fact
      (subst (λ p. Contains (page_facts p) fact) (sym is) has))
  from_page (first ∷ more) page fact (suc k) inside is has =
      subst (λ all. Contains all fact) (sym (flat_map-cons page_facts first more))
      (Contains-append_right (page_facts first) (flat_map page_facts more) fact
      (from_page more page fact k (omega (arith, inside)) is has))

  of_a_page : (page : Page) (fact : Fact) → Contains pages page → Contains (page_facts page) fact
      → Contains (published_facts pages prefixes rows) fact
  of_a_page page fact at has =
      Contains-append_left of_pages others fact (from_page pages page fact at.0 at.1 at.2 has)

  each_range : (page : Page) (range : Range) → Contains pages page
      → Contains page.table.ranges range
      → HasFactThat (IsRangeFact page.name range) (published_facts pages prefixes rows)
  each_range page range at has = (
    range_fact page.name range,
    of_a_page page (range_fact page.name range) at
        (Contains-append_left (map (range_fact page.name) page.table.ranges)
        (map (entry_fact page.name) page.entries) (range_fact page.name range)
        (Contains-map (range_fact page.name) page.table.ranges range has)),
    range_said page.name range,
  )

  each_entry : (page : Page) (entry : PageEntry) → Contains pages page
      → Contains page.entries entry
      → HasFactThat (IsEntryFact page.name entry) (published_facts pages prefixes rows)
  each_entry page entry at has = (
    entry_fact page.name entry,
    of_a_page page (entry_fact page.name entry) at
        (Contains-append_right (map (range_fact page.name) page.table.ranges)
        (map (entry_fact page.name) page.entries) (entry_fact page.name entry)
        (Contains-map (entry_fact page.name) page.entries entry has)),
    entry_said page.name entry,
  )

  each_prefix : (prefix : ℕ) → Contains prefixes prefix
      → HasFactThat (IsPrefixFact prefix) (published_facts pages prefixes rows)
  each_prefix prefix has = (
    prefix_fact prefix,
    Contains-append_right of_pages others (prefix_fact prefix)
        (Contains-append_left (map prefix_fact prefixes) (map block_of rows) (prefix_fact prefix)
        (Contains-map prefix_fact prefixes prefix has)),
    prefix_said prefix,
  )

  each_block : (row : Listed) → Contains rows row
      → HasFactThat (IsBlockFact row.block) (published_facts pages prefixes rows)
  each_block row has = (
    block_of row,
    Contains-append_right of_pages others (block_of row)
        (Contains-append_right (map prefix_fact prefixes) (map block_of rows) (block_of row)
        (Contains-map block_of rows row has)),
    block_said row,
  )

  -- ---- How many

  many_of : (some : List Page) → length (flat_map page_facts some) ≡ sum_by page_size some
  many_of [] = refl
  many_of (page ∷ more) =
      let rest = many_of more in
      let ranges = length-map page.table.ranges (range_fact page.name) in
      let entries = length-map page.entries (entry_fact page.name) in
      let both = length-append (map (range_fact page.name) page.table.ranges)
      (map (entry_fact page.name) page.entries) in
      let all = length-append (page_facts page) (flat_map page_facts more) in
      let sum = sum_by-cons page_size page more in
      ap length (flat_map-cons page_facts page more)
      ∙ omega (arith, rest, ranges, entries, both, all, sum)

  many_facts : length (published_facts pages prefixes rows)
      ≡ sum_by page_size pages + (length prefixes + length rows)
  many_facts =
      let first = many_of pages in
      let second = length-map prefixes prefix_fact in
      let third = length-map rows block_of in
      let two = length-append (map prefix_fact prefixes) (map block_of rows) in
      let all = length-append of_pages others in
      omega (arith, first, second, third, two, all)

pub facts_published : FactsArePublished
facts_published = record {
  only = only_these;
  ranges = each_range;
  entries = each_entry;
  prefixes = each_prefix;
  blocks = each_block;
  many = many_facts;
}
