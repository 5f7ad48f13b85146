-- Which numbers lie in runs once a number is joined to them, and that they stay apart.
use Rattle.std.proofs.Common.{◌≡◌, ◌≢◌, ℕ, ◌+◌, ◌^◌, ◌<◌, ◌≤◌, true, false, nat_eq, ◌||◌, Option, Some, None, refl, sym, ap, ◌∙◌, ◌⊎◌, inl, inr, arith}
use Rattle.std.specs.Prelude.{unwrap_or}
use Rattle.std.specs.BTreeMap.{IsOrdered, IsUnchanged, Updates, get}
use Rattle.std.specs.List.{list_any}
use Rattle.std.specs.Ordering.{nat_cmp}
use Rattle.std.proofs.lemmas.Bool.{cases_eq, cases_lt, cases_order, eq-eqb, leb-false, ne_eqb, or_left}
use Rattle.std.proofs.lemmas.Bool.Decides.{Decides-eqb, Decides-like, Decides-or, same_from_decides}
use Rattle.reg_maps.specs.Spans.{Spans, IsRun, Lies}
use Rattle.reg_maps.proofs.Runs.{apart_keys, run_unchanged, same_run}
use Rattle.reg_vacancies.specs.ValueSpans.{Apart, IsBefore, IsFirst, Joins, is_within, reaches}
use Rattle.reg_vacancies.proofs.SpanLaws.{Decides-within, covers}

none_above : (spans : Spans) → Apart spans → (n : ℕ) → 2 ^ 32 ≤ n → get nat_cmp spans n ≡ None
none_above spans apart n big =
    elim (get nat_cmp spans n) as (λ o. get nat_cmp spans n ≡ o → o ≡ None) [
      | None ↦ λ is. refl
      | Some last ↦ λ is. let filled = apart.filled n last is in let fits =
          apart.fits n last is in absurd (omega arith)
    ] refl

pub joins_top : (old new : Spans) (first last value : ℕ) → Apart old → first ≤ value
    → 2 ^ 32 ≤ value + 1 → Updates nat_cmp old new first (Some last)
    → Joins old new first last value
joins_top old new first last value apart le top put = record {
  put = put.1;
  gone =
      put.2 (value + 1) (apart_keys first (value + 1) (omega arith))
      ∙ none_above old apart (value + 1) top;
  others = λ n ne ne'. put.2 n (apart_keys first n (λ e. ne (sym e)));
}

pub last_at_top : (spans : Spans) → Apart spans → (value : ℕ) → 2 ^ 32 ≤ value + 1
    → value ≡ unwrap_or (get nat_cmp spans (value + 1)) value
last_at_top spans apart value top = rw (none_above spans apart (value + 1) top) refl

-- what is known of the joined run from first to last around a value that lies in no run
pub record Between (old : Spans) (first last value : ℕ) : Type 0 where
  pub low : first ≤ value
  pub high : value ≤ last
  pub left : (first ≡ value) ⊎ ((end : ℕ) × IsRun old first end × (end + 1 ≡ value))
  pub right : (last ≡ value) ⊎ IsRun old (value + 1) last
  pub below : (f l : ℕ) → IsRun old f l → f ≤ value
      → ((f ≡ first) × (l + 1 ≡ value)) ⊎ (l + 1 < first)
  pub above : (f l : ℕ) → IsRun old f l → value < f
      → ((f ≡ value + 1) × (l ≡ last)) ⊎ (last + 1 < f)

record Left (old : Spans) (first value : ℕ) : Type 0 where
  pub low : first ≤ value
  pub left : (first ≡ value) ⊎ ((end : ℕ) × IsRun old first end × (end + 1 ≡ value))
  pub below : (f l : ℕ) → IsRun old f l → f ≤ value
      → ((f ≡ first) × (l + 1 ≡ value)) ⊎ (l + 1 < first)

no_run : {A : Type 0} (spans : Spans) (first last : ℕ) → get nat_cmp spans first ≡ None
    → IsRun spans first last → A
no_run spans first last none some = absurd (cc)

left_of : (old : Spans) → Apart old → (first value : ℕ) (run : Option (ℕ × ℕ))
    → IsBefore old value run → reaches run value ≡ false → IsFirst run value first
    → Left old first value
left_of old apart first value None before ends is = record {
  low = omega arith;
  left = inl is;
  below = λ f l some le. no_run old f l (before f le) some;
}
left_of old apart first value (Some run) before short (inl touches) = record {
  low = let begins = before.1 in let e : first ≡ run.0 = touches.1 in omega arith;
  left = let e : first ≡ run.0 = touches.1 in inr (run.1, rw e before.0, touches.0);
  below = λ f l some le.
      let e : first ≡ run.0 = touches.1 in
      let touch : run.1 + 1 ≡ value = touches.0 in
      let up : f ≤ run.0 = before.2 f l some le in
      elim (cases_eq f run.0) [
        | inl same ↦ let l_is : l ≡ run.1 =
            same_run old run.0 run.1 f l same before.0 some in inl (omega arith, omega arith)
        | inr other ↦ let gap =
            apart.apart f l run.0 run.1 some before.0 (omega arith) in inr (omega arith)
      ];
}
left_of old apart first value (Some run) before short (inr alone) = record {
  low = let e : first ≡ value = alone.1 in omega arith;
  left = inl alone.1;
  below = λ f l some le.
      let e : first ≡ value = alone.1 in
      let far : run.1 + 1 ≢ value = alone.0 in
      let ends : run.1 < value = leb-false value run.1 short in
      let begins : run.0 ≤ value = before.1 in
      let up : f ≤ run.0 = before.2 f l some le in
      elim (cases_eq f run.0) [
        | inl same ↦ let l_is : l ≡ run.1 =
            same_run old run.0 run.1 f l same before.0 some in inr (omega arith)
        | inr other ↦ let gap =
            apart.apart f l run.0 run.1 some before.0 (omega arith) in inr (omega arith)
      ];
}

record Right (old : Spans) (last value : ℕ) : Type 0 where
  pub high : value ≤ last
  pub right : (last ≡ value) ⊎ IsRun old (value + 1) last
  pub above : (f l : ℕ) → IsRun old f l → value < f
      → ((f ≡ value + 1) × (l ≡ last)) ⊎ (last + 1 < f)

right_at : (old : Spans) → Apart old → (last value : ℕ) (o : Option ℕ)
    → get nat_cmp old (value + 1) ≡ o → last ≡ unwrap_or o value → Right old last value
right_at old apart last value None none is = record {
  high = omega arith;
  right = inl is;
  above = λ f l some lt. elim (cases_eq f (value + 1)) [
    | inl same ↦ no_run old (value + 1) l none (rw (sym same) some)
    | inr other ↦ inr (omega arith)
  ];
}
right_at old apart last value (Some end) at is = record {
  high = let filled = apart.filled (value + 1) end at in omega arith;
  right = inr (rw is at);
  above = λ f l some lt. elim (cases_eq f (value + 1)) [
    | inl same ↦ let l_is : l ≡ end =
        same_run old (value + 1) end f l same at some in inl (same, omega arith)
    | inr other ↦ let gap =
        apart.apart (value + 1) end f l at some (omega arith) in inr (omega arith)
  ];
}

pub between : (old : Spans) → Apart old → (first last value : ℕ) (run : Option (ℕ × ℕ))
    → IsBefore old value run → reaches run value ≡ false → IsFirst run value first
    → last ≡ unwrap_or (get nat_cmp old (value + 1)) value → Between old first last value
between old apart first last value run before ends is_first is_last =
    let l = left_of old apart first value run before ends is_first in
    let r = right_at old apart last value (get nat_cmp old (value + 1)) refl is_last in
    record {
      low = l.low;
      left = l.left;
      below = l.below;
      high = r.high;
      right = r.right;
      above = r.above;
    }

-- each run of the new map is the joined one, or an old one that does not touch it
abbrev NewRun : Spans → ℕ → ℕ → ℕ → ℕ → Type 0
NewRun old first last f l =
    ((f ≡ first) × (l ≡ last)) ⊎ (IsRun old f l × ((l + 1 < first) ⊎ (last + 1 < f)))

beside : (old : Spans) (first last value : ℕ) → Between old first last value → (f l : ℕ)
    → f ≢ first → f ≢ value + 1 → IsRun old f l → (l + 1 < first) ⊎ (last + 1 < f)
beside old first last value b f l ne ne' some = elim (cases_lt value f) [
  | inl up ↦ elim (b.above f l some up) [ inl same ↦ absurd (ne' same.0) | inr far ↦ inr far ]
  | inr down ↦ elim (b.below f l some down) [ inl same ↦ absurd (ne same.0) | inr far ↦ inl far ]
]

new_run : (old new : Spans) (first last value : ℕ) → Between old first last value
    → Joins old new first last value → (f l : ℕ) → IsRun new f l → NewRun old first last f l
new_run old new first last value b j f l some = elim (cases_eq f first) [
  | inl same ↦ inl (same, same_run new first last f l same j.put some)
  | inr ne ↦ elim (cases_eq f (value + 1)) [
    | inl same ↦ no_run new (value + 1) l j.gone (rw (sym same) some)
    | inr ne' ↦ let was : IsRun old f l =
        sym (j.others f ne ne') ∙ some in inr (was, beside old first last value b f l ne ne' was)
  ]
]

filled_run : (old : Spans) (first last value : ℕ) → Apart old → Between old first last value
    → (f l : ℕ) → NewRun old first last f l → f ≤ l
filled_run old first last value apart b f l (inl a) = let e : f ≡ first =
    a.0 in let e' : l ≡ last = a.1 in let low = b.low in let high = b.high in omega arith
filled_run old first last value apart b f l (inr (some, side)) = apart.filled f l some

apart_runs : (old new : Spans) (first last value : ℕ) → Apart old → Between old first last value
    → (f l g k : ℕ) → NewRun old first last f l → NewRun old first last g k → f < g → l + 1 < g
apart_runs old new first last value apart b f l g k (inr (some, side)) (inr (other, side')) lt =
    apart.apart f l g k some other lt
apart_runs old new first last value apart b f l g k p q lt =
    let low = b.low in
    let high = b.high in
    let filled = filled_run old first last value apart b g k q in
    grind arith

fits_run : (old : Spans) (first last : ℕ) → Apart old → last < 2 ^ 32 → (f l : ℕ)
    → NewRun old first last f l → l < 2 ^ 32
fits_run old first last apart fits f l (inl a) = let e : l ≡ last = a.1 in omega arith
fits_run old first last apart fits f l (inr (some, side)) = apart.fits f l some

pub apart_joined : (old new : Spans) (first last value : ℕ) → Apart old → last < 2 ^ 32
    → Between old first last value → Joins old new first last value → Apart new
apart_joined old new first last value apart fits b j = record {
  filled =
      λ f l some. filled_run old first last value apart b f l
      (new_run old new first last value b j f l some);
  fits =
      λ f l some. fits_run old first last apart fits f l
      (new_run old new first last value b j f l some);
  apart = λ f l g k some other lt.
      apart_runs old new first last value apart b f l g k
      (new_run old new first last value b j f l some)
      (new_run old new first last value b j g k other) lt;
}

lies_in_old : (old : Spans) (first last value : ℕ) → Between old first last value → (n : ℕ)
    → first ≤ n → n ≤ last → (n ≡ value) ⊎ Lies old n
lies_in_old old first last value b n low high = elim (cases_order n value) [
  | inl same ↦ inl same
  | inr (inl less) ↦ inr (elim b.left [
    | inl e ↦ absurd (omega arith)
    | inr (end, some, touch) ↦
        record { first = first; last = end; run = some; low = low; high = omega arith }
  ])
  | inr (inr more) ↦ inr (elim b.right [
    | inl e ↦ absurd (omega arith)
    | inr some ↦ record {
      first = value + 1;
      last = last;
      run = some;
      low = omega arith;
      high = high;
    }
  ])
]

was_there : (old new : Spans) (first last value : ℕ) → Between old first last value
    → Joins old new first last value → (n : ℕ) → Lies new n → (n ≡ value) ⊎ Lies old n
was_there old new first last value b j n l =
    elim (new_run old new first last value b j l.first l.last l.run) [
      | inl a ↦
          let e : l.first ≡ first = a.0 in
          let e' : l.last ≡ last = a.1 in
          let low = l.low in
          let high = l.high in
          lies_in_old old first last value b n (omega arith) (omega arith)
      | inr (some, side) ↦
          inr (record { first = l.first; last = l.last; run = some; low = l.low; high = l.high })
    ]

-- each number of the joined run lies in the new map
in_joined : (old new : Spans) (first last value n : ℕ) → Joins old new first last value
    → first ≤ n → n ≤ last → Lies new n
in_joined old new first last value n j low high =
    record { first = first; last = last; run = j.put; low = low; high = high }

stays : (old new : Spans) (first last value : ℕ) → Apart old → Between old first last value
    → Joins old new first last value → (n : ℕ) → Lies old n → Lies new n
stays old new first last value apart b j n l =
    let filled = apart.filled l.first l.last l.run in
    let low = l.low in
    let high = l.high in
    let first_low = b.low in
    let last_high = b.high in
    let kept : l.first ≢ first → l.first ≢ value + 1 → Lies new n =
    λ ne ne'. record {
      first = l.first;
      last = l.last;
      run = j.others l.first ne ne' ∙ l.run;
      low = l.low;
      high = l.high;
    } in
    elim (cases_lt value l.first) [
      | inl up ↦ elim (b.above l.first l.last l.run up) [
        | inl same ↦
            let e : l.last ≡ last = same.1 in
            in_joined old new first last value n j (omega arith) (omega arith)
        | inr far ↦ kept (omega arith) (omega arith)
      ]
      | inr down ↦ elim (b.below l.first l.last l.run down) [
        | inl same ↦
            let e : l.first ≡ first = same.0 in
            let e' : l.last + 1 ≡ value = same.1 in
            in_joined old new first last value n j (omega arith) (omega arith)
        | inr far ↦ kept (omega arith) (omega arith)
      ]
    ]

is_there : (old new : Spans) (first last value : ℕ) → Apart old → Between old first last value
    → Joins old new first last value → (n : ℕ) → (n ≡ value) ⊎ Lies old n → Lies new n
is_there old new first last value apart b j n (inl e) =
    let low = b.low in
    let high = b.high in
    in_joined old new first last value n j (omega arith) (omega arith)
is_there old new first last value apart b j n (inr l) =
    stays old new first last value apart b j n l

pub within_joined : (old new : Spans) → IsOrdered nat_cmp old → IsOrdered nat_cmp new
    → (first last value : ℕ) → Apart old → Between old first last value
    → Joins old new first last value → (n : ℕ)
    → is_within new n ≡ (nat_eq n value || is_within old n)
within_joined old new was_ordered ordered first last value apart b j n =
    same_from_decides (is_within new n) (nat_eq n value || is_within old n)
    (Decides-within new ordered n)
    (Decides-like _ (is_there old new first last value apart b j n)
    (was_there old new first last value b j n)
    (Decides-or (nat_eq n value) (is_within old n) (Decides-eqb n value)
    (Decides-within old was_ordered n)))

-- a number that is within is not added
pub within_already : (spans : Spans) (value : ℕ) → is_within spans value ≡ true → (n : ℕ)
    → is_within spans n ≡ (nat_eq n value || is_within spans n)
within_already spans value here n = elim (cases_eq n value) [
  | inl same ↦ rw same
      (here ∙ sym (or_left (nat_eq value value) (is_within spans value) (eq-eqb value value refl)))
  | inr other ↦ rw (ne_eqb n value other) refl
]

-- ---- an insert that finds no memory

pub within_unchanged : (old new : Spans) → IsUnchanged old new → (n : ℕ)
    → is_within new n ≡ is_within old n
within_unchanged old new same n = ap (list_any (covers n)) same

pub apart_unchanged : (old new : Spans) → IsUnchanged old new → Apart old → Apart new
apart_unchanged old new same apart =
    let was = run_unchanged old new same in
    record {
      filled = λ f l some. apart.filled f l (was f l some);
      fits = λ f l some. apart.fits f l (was f l some);
      apart = λ f l g k some other lt. apart.apart f l g k (was f l some) (was g k other) lt;
    }
