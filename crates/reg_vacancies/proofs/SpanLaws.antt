-- Runs: which numbers lie in them, and which is free next.
use Rattle.std.proofs.Common.{◌≡◌, ℕ, suc, ◌+◌, ◌^◌, ◌<◌, ◌≤◌, Bool, true, false, ◌&&◌, nat_le, List, [], ◌∷◌, ◌++◌, Option, Some, None, refl, sym, ap, ◌∙◌, inl, inr, arith}
use Rattle.std.specs.Prelude.{Contains}
use Rattle.std.specs.BTreeMap.{IsOrdered}
use Rattle.std.specs.BTreeMap.Range.{IsRangeOf, IsLeBy}
use Rattle.std.specs.Bool.{Decides}
use Rattle.std.specs.Cmp.{nat_cmp_total}
use Rattle.std.specs.List.{list_any}
use Rattle.std.specs.Option.{SomeIff}
use Rattle.std.specs.Ordering.{nat_cmp}
use Rattle.std.specs.declared.ops.Bound.TheVariants.{Included, Unbounded}
use Rattle.std.proofs.lemmas.Bool.{and_from, and_parts, cases_eq, cases_lt, cases_order, false_from_ne_true, le-leb, leb-true, or_cases}
use Rattle.std.proofs.lemmas.Bool.Decides.{nat_tests, same_from_decides}
use Rattle.std.proofs.lemmas.List.Folds.{list_any_at}
use Rattle.std.proofs.lemmas.Map.Keys.{ge_from_not_lt, le_from_not_gt}
use Rattle.std.proofs.lemmas.Map.Lookups.{exact_unsigned}
use Rattle.std.proofs.lemmas.Map.Views.{btree_map_get_iff}
use Rattle.reg_maps.specs.Spans.{Spans, IsRun, Lies}
use Rattle.reg_maps.proofs.Runs.{is_some_at, same_run}
use Rattle.reg_vacancies.specs.ValueSpans.{Apart, IsBefore, IsNextFree, is_within, reaches}

-- ---- the test as a fact

abbrev pub covers : ℕ → ℕ × ℕ → Bool
covers n run = nat_le run.0 n && nat_le n run.1

record Found (es : List (ℕ × ℕ)) (n : ℕ) : Type 0 where
  pub run : ℕ × ℕ
  pub has : Contains es run
  pub passes : covers n run ≡ true

found : (es : List (ℕ × ℕ)) (n : ℕ) → list_any (covers n) es ≡ true → Found es n
found [] n h = absurd (cc)
found (e ∷ es) n h = elim (or_cases (covers n e) (list_any (covers n) es) h) [
  | inl here ↦ record { run = e; has = (0, omega arith, refl); passes = here }
  | inr more ↦
      let later = found es n more in
      record {
        run = later.run;
        has = (suc later.has.0, let below = later.has.1 in omega arith, later.has.2);
        passes = later.passes;
      }
]

lies_found : (spans : Spans) → IsOrdered nat_cmp spans → (n : ℕ) → is_within spans n ≡ true
    → Lies spans n
lies_found spans ordered n h =
    let f = found spans.entries n h in
    let parts = and_parts (nat_le f.run.0 n) (nat_le n f.run.1) f.passes in
    record {
      first = f.run.0;
      last = f.run.1;
      run = (btree_map_get_iff nat_cmp_total exact_unsigned spans ordered f.run.0 f.run.1).1 f.has;
      low = leb-true f.run.0 n parts.0;
      high = leb-true n f.run.1 parts.1;
    }

pub lies_within : (spans : Spans) → IsOrdered nat_cmp spans → (n : ℕ) → Lies spans n
    → is_within spans n ≡ true
lies_within spans ordered n l =
    let run : ℕ × ℕ = (l.first, l.last) in
    let has =
    (btree_map_get_iff nat_cmp_total exact_unsigned spans ordered l.first l.last).0 l.run in
    let passes : covers n run ≡ true =
    and_from (nat_le l.first n) (nat_le n l.last) (le-leb l.first n l.low)
    (le-leb n l.last l.high) in
    list_any_at (covers n) spans.entries has.0 run has.1 (ap (covers n) has.2 ∙ passes)

pub Decides-within : (spans : Spans) → IsOrdered nat_cmp spans → (n : ℕ)
    → Decides (is_within spans n) (Lies spans n)
Decides-within spans ordered n = (lies_found spans ordered n, lies_within spans ordered n)

-- a number that lies in no run is not within
pub not_within : (spans : Spans) → IsOrdered nat_cmp spans → (n : ℕ) → (Lies spans n → ⊥)
    → is_within spans n ≡ false
not_within spans ordered n none =
    false_from_ne_true (is_within spans n) (λ h. none (lies_found spans ordered n h))

-- ---- the last run that begins at or below a number

not_above : (a b : ℕ) → a ≤ b → IsLeBy nat_cmp a b
not_above a b le = grind (arith, nat_tests)

pub before_found : (spans : Spans) (value : ℕ) (between : List (ℕ × ℕ))
    → IsRangeOf nat_cmp Unbounded (Included value) spans between
    → (first last : ℕ) (rest : List (ℕ × ℕ)) → between ≡ rest ++ (first, last) ∷ []
    → IsBefore spans value (Some (first, last))
before_found spans value between range first last rest is =
    let entry = range.3 (first, last) rest is in (
      entry.1,
      le_from_not_gt first value entry.0.1,
      λ f l run le. ge_from_not_lt first f
          (range.4 (first, last) rest is f (tt, not_above f value le) (is_some_at spans f l run)),
    )

-- ---- tests by that run

-- a number that lies in a run lies in the last one that begins at or below it
lies_in_last : (spans : Spans) → Apart spans → (value : ℕ) (run : ℕ × ℕ)
    → IsBefore spans value (Some run) → Lies spans value → value ≤ run.1
lies_in_last spans apart value run before l =
    let up : l.first ≤ run.0 = before.2 l.first l.last l.run l.low in
    let low : run.0 ≤ value = before.1 in
    elim (cases_eq l.first run.0) [
      | inl same ↦ let e : l.last ≡ run.1 =
          same_run spans run.0 run.1 l.first l.last same before.0 l.run in omega arith
      | inr other ↦ let gap =
          apart.apart l.first l.last run.0 run.1 l.run before.0 (omega arith) in omega arith
    ]

within_last : (spans : Spans) → IsOrdered nat_cmp spans → Apart spans → (value : ℕ) (run : ℕ × ℕ)
    → IsBefore spans value (Some run) → nat_le value run.1 ≡ is_within spans value
within_last spans ordered apart value run before =
    same_from_decides (nat_le value run.1) (is_within spans value) (
      (λ h. record {
        first = run.0;
        last = run.1;
        run = before.0;
        low = before.1;
        high = leb-true value run.1 h;
      }),
      (λ l. le-leb value run.1 (lies_in_last spans apart value run before l)),
    ) (Decides-within spans ordered value)

lies_nowhere : (spans : Spans) (value : ℕ) → IsBefore spans value None → Lies spans value → ⊥
lies_nowhere spans value before l = let none = before l.first l.low in let run = l.run in cc

within_none : (spans : Spans) → IsOrdered nat_cmp spans → (value : ℕ) → IsBefore spans value None
    → is_within spans value ≡ false
within_none spans ordered value before =
    not_within spans ordered value (lies_nowhere spans value before)

pub within_reaches : (spans : Spans) → IsOrdered nat_cmp spans → Apart spans
    → (value : ℕ) (run : Option (ℕ × ℕ)) → IsBefore spans value run
    → reaches run value ≡ is_within spans value
within_reaches spans ordered apart value None before = sym (within_none spans ordered value before)
within_reaches spans ordered apart value (Some run) before =
    within_last spans ordered apart value run before

-- ---- the next free number

after_run : (spans : Spans) → Apart spans → (first last : ℕ) → IsRun spans first last
    → Lies spans (last + 1) → ⊥
after_run spans apart first last run l =
    let filled = apart.filled first last run in
    let low = l.low in
    let high = l.high in
    elim (cases_order l.first first) [
      | inl same ↦ let e : l.last ≡ last =
          same_run spans first last l.first l.last same run l.run in omega arith
      | inr (inl less) ↦ let gap =
          apart.apart l.first l.last first last l.run run less in omega arith
      | inr (inr more) ↦ let gap =
          apart.apart first last l.first l.last run l.run more in omega arith
    ]

pub next_after : (spans : Spans) → IsOrdered nat_cmp spans → Apart spans
    → (from : ℕ) (run : ℕ × ℕ) (o : Option ℕ) → IsBefore spans from (Some run) → from ≤ run.1
    → SomeIff o (run.1 + 1 < 2 ^ 32) (run.1 + 1) → IsNextFree (is_within spans) from o
next_after spans ordered apart from run None before le none =
    λ n low high. lies_within spans ordered n (record {
      first = run.0;
      last = run.1;
      run = before.0;
      low = let begins = before.1 in omega arith;
      high =
          elim (cases_lt run.1 n) [ inl past ↦ absurd (none (omega arith)) | inr in_it ↦ in_it ];
    })
next_after spans ordered apart from run (Some free) before le some =
    let is : free ≡ run.1 + 1 = some.1 in (
      omega arith,
      rw is (not_within spans ordered (run.1 + 1) (after_run spans apart run.0 run.1 before.0)),
      λ n low high. lies_within spans ordered n
          (record {
            first = run.0;
            last = run.1;
            run = before.0;
            low = let begins = before.1 in omega arith;
            high = omega arith;
          }),
    )

pub next_here : (test : ℕ → Bool) (from : ℕ) → test from ≡ false → IsNextFree test from (Some from)
next_here test from free = (omega arith, free, λ n low high. absurd (omega arith))

pub free_past : (spans : Spans) → IsOrdered nat_cmp spans → Apart spans → (from : ℕ) (run : ℕ × ℕ)
    → IsBefore spans from (Some run) → run.1 < from → is_within spans from ≡ false
free_past spans ordered apart from run before past =
    not_within spans ordered from
    (λ l. let le = lies_in_last spans apart from run before l in absurd (omega arith))

pub free_nowhere : (spans : Spans) → IsOrdered nat_cmp spans → (from : ℕ) (run : Option (ℕ × ℕ))
    → run ≡ None → IsBefore spans from run → is_within spans from ≡ false
free_nowhere spans ordered from None none before = within_none spans ordered from before
free_nowhere spans ordered from (Some run) none before = absurd (cc)
