-- What the rows of a command hold after words that it takes, where each use of a rule keeps it.
use Rattle.std.proofs.Common.{◌≡◌, ◌&&◌, ℕ, Bool, cond, true, false, zero, suc, refl, sym, ap, subst, List, [], ◌∷◌, length, Option, Some, None, is_some, drop}
use Rattle.std.specs.Prelude.{⊤, encode_utf8, slice_get, find}
use Rattle.std.specs.List.{fold}
use Rattle.std.specs.Option.{option_map_or, unwrap_or}
use Rattle.std.specs.Str.{bytes_eq, chars}
use Rattle.clap.specs.Lexer.{long_of, short_of}
use Rattle.clap.specs.Kinds.{Kinds, or_else}
use Rattle.clap.specs.Walk.{Held, Names, Outcome, Row, Rule, Step, Text, Waiting, Walk, after_flag, after_step, arg_by_id, arg_by_index, arg_by_long, arg_by_short, attached_value, bundle_met, bundle_step, done, flag_met, idle, is_pending, long_met, long_or_other, nothing_held, option, option_met, option_word, plain, plain_word, positional, positional_held, reacted, refused, rows_after, settled, settled_rows, short_met, short_or_plain, subcommand_met, subcommand_or_other, takes_several, takes_values, used, used_by_id, value, waits, walk, walk_from, walked, walked_from, with_default, word_met, has_row, default_rows, reading_by, to_positional, subcommand, trailing, next}
use Rattle.clap.specs.Simple.{Shape}
use Rattle.clap.specs.Faults.{bundle_fault, bundle_step_fault, check_fault, defaults_fault, flag_word_fault, flags_fault, level_fault, long_fault, option_fault, other_fault, positional_fault, react_fault, settle_fault, short_fault, step_fault, turn_fault, use_fault, walk_fault, word_fault}
use Rattle.clap.specs.declared.error.kind.ErrorKind.TheVariants as kind

abbrev pub Each : {X : Type 0} → (X → Type 0) → List X → Type 0
Each P [] = ⊤
Each P (x ∷ xs) = P x × Each P xs

pub found_holds : {X : Type 0} (P : X → Type 0) (f : X → Bool) (xs : List X) (x : X) → Each P xs → find f xs ≡ Some x → P x × (f x ≡ true)
found_holds P f [] x each found = absurd (cc)
found_holds P f (y ∷ ys) x each found = go (f y) refl found (λ e. found_holds P f ys x each.1 e)
  where
    go : (b : Bool) → f y ≡ b → cond b (Some y) (find f ys) ≡ Some x → (find f ys ≡ Some x → P x × (f x ≡ true)) → P x × (f x ≡ true)
    go true t e later = subst (λ z. P z × (f z ≡ true)) (ap (λ o. unwrap_or o y) e) (each.0, t)
    go false t e later = later e

pub no_faults : (a b : Kinds) → or_else a b ≡ [] → (a ≡ []) × (b ≡ [])
no_faults [] b e = (refl, e)
no_faults (k ∷ ks) b e = absurd (cc)

-- a use of the rule that nothing is wrong with keeps what each row holds
abbrev pub Keeps : (Row → Type 0) → Bool → Rule → Type 0
Keeps P again a = (values : List Text) (rows : List Row) → use_fault again a values rows ≡ [] → Each P rows → Each P (used a values rows)

module _ (P : Row → Type 0) (c : List Rule) (again : Bool) (keeps : Each (Keeps P again) c) where
  use_keeps : (f : Rule → Bool) (a : Rule) (values : List Text) (rows : List Row) → find f c ≡ Some a → use_fault again a values rows ≡ [] → Each P rows
      → Each P (used a values rows)
  use_keeps f a values rows found = (found_holds (Keeps P again) f c a keeps found).0 values rows

  pub settle_keeps : (h : Held) → settle_fault c again h ≡ [] → Each P h.rows → Each P (settled c h).rows
  settle_keeps h none each = by_pending h.pending none
    where
      by_rule : (p : Text × List Text) (o : Option Rule) → arg_by_id c p.0 ≡ o → option_map_or (λ a. use_fault again a p.1 h.rows) o [] ≡ []
          → Each P (used_by_id o p.1 h.rows)
      by_rule p None found none = each
      by_rule p (Some a) found none = use_keeps _ a p.1 h.rows found none each

      by_pending : (o : Option (Text × List Text)) → option_map_or (λ p. option_map_or (λ a. use_fault again a p.1 h.rows) (arg_by_id c p.0) []) o [] ≡ []
          → Each P (settled_rows c o h.rows)
      by_pending None none = each
      by_pending (Some p) none = by_rule p (arg_by_id c p.0) refl none

  react_keeps : (f : Rule → Bool) (a : Rule) (values : List Text) (h : Held) → find f c ≡ Some a → react_fault c again a values h ≡ [] → Each P h.rows
      → Each P (reacted c a values h).rows
  react_keeps f a values h found none each =
      let parts = no_faults _ _ none in
      use_keeps f a values (settled c h).rows found parts.1 (settle_keeps h parts.0 each)

  option_keeps : (f : Rule → Bool) (a : Rule) (v : Option Text) (h : Held) → find f c ≡ Some a → option_fault c again a v h ≡ [] → Each P h.rows
      → Each P (option_met c a v h).0.rows
  option_keeps f a (Some v) h found none each = react_keeps f a (v ∷ []) h found none each
  option_keeps f a None h found none each = settle_keeps h none each

  long_keeps : (name : Text) (o : Option Rule) (v : Option Text) (h : Held) → arg_by_long c name ≡ o → long_fault c again o v h ≡ [] → Each P h.rows
      → Each P (long_met c o v h).0.rows
  long_keeps name None v h found none each = each
  long_keeps name (Some a) v h found none each = by_takes (takes_values a) none
    where
      by_value : (o : Option Text) → cond (is_some o) (kind.TooManyValues ∷ []) (react_fault c again a [] h) ≡ [] → Each P (flag_met c a o h).0.rows
      by_value None none = react_keeps _ a [] h found none each
      by_value (Some x) none = each

      by_takes : (b : Bool) → cond b (option_fault c again a v h) (cond (is_some v) (kind.TooManyValues ∷ []) (react_fault c again a [] h)) ≡ []
          → Each P (cond b (option_met c a v h) (flag_met c a v h)).0.rows
      by_takes true none = option_keeps _ a v h found none each
      by_takes false none = by_value v none

  short_keeps : (x : ℕ) (o : Option Rule) (rest : Text) (h : Held) (later : Held → Held × Outcome) (fault : Held → Kinds) → arg_by_short c x ≡ o
      → ((k : Held) → fault k ≡ [] → Each P k.rows → Each P (later k).0.rows) → short_fault c again o rest h fault ≡ [] → Each P h.rows
      → Each P (short_met c o rest h later).0.rows
  short_keeps x None rest h later fault found rec none each = each
  short_keeps x (Some a) rest h later fault found rec none each = by_takes (takes_values a) none
    where
      by_takes : (b : Bool) → cond b (option_fault c again a (attached_value rest) h) (or_else (react_fault c again a [] h) (fault (reacted c a [] h))) ≡ []
          → Each P (cond b (option_met c a (attached_value rest) h) (later (reacted c a [] h))).0.rows
      by_takes true none = option_keeps _ a (attached_value rest) h found none each
      by_takes false none =
          let parts = no_faults _ _ none in
          rec (reacted c a [] h) parts.1 (react_keeps _ a [] h found parts.0 each)

  character_keeps : (o : Option ℕ) (flags : Text) (skip : ℕ) (so_far : Outcome) (h : Held) (later : Text → ℕ → Outcome → Held → Held × Outcome)
      (fault : Text → ℕ → Held → Kinds)
      → ((t : Text) (n : ℕ) (x : Outcome) (k : Held) → fault t n k ≡ [] → Each P k.rows → Each P (later t n x k).0.rows)
      → bundle_step_fault c again o flags skip h fault ≡ [] → Each P h.rows → Each P (bundle_step c o flags skip so_far h later).0.rows
  character_keeps None flags skip so_far h later fault rec none each = each
  character_keeps (Some x) flags zero so_far h later fault rec none each =
      let rest = drop (length (encode_utf8 x)) flags in
      short_keeps x (arg_by_short c x) rest h (later rest 0 done) (fault rest 0) refl (rec rest 0 done) none each
  character_keeps (Some x) flags (suc skip) so_far h later fault rec none each = rec _ skip so_far h none each

  bundle_keeps : (k : ℕ) (flags : Text) (skip : ℕ) (so_far : Outcome) (h : Held) → flags_fault c again k flags skip h ≡ [] → Each P h.rows
      → Each P (bundle_met c k flags skip so_far h).0.rows
  unfolding bundle_met flags_fault
  bundle_keeps zero flags skip so_far h none each = each
  bundle_keeps (suc k) flags skip so_far h none each =
      character_keeps (slice_get (chars flags) 0) flags skip so_far h (bundle_met c k) (flags_fault c again k) (bundle_keeps k) none each

  plain_keeps : (waiting : Waiting) (word : Text) (h : Held) → Each P h.rows → Each P (plain_word c waiting word h).0.rows
  plain_keeps idle word h each = each
  plain_keeps positional word h each = each
  plain_keeps (option id) word h each = by_rule (arg_by_id c id)
    where
      by_rule : (o : Option Rule) → Each P (option_word o id word h).0.rows
      by_rule None = each
      by_rule (Some a) = each

  after_keeps : (waiting : Waiting) (word : Text) (h : Held) (o : Outcome) → Each P h.rows → Each P (after_flag c waiting word h o).0.rows
  after_keeps waiting word h done each = each
  after_keeps waiting word h (waits id) each = each
  after_keeps waiting word h plain each = plain_keeps waiting word h each
  after_keeps waiting word h refused each = plain_keeps waiting word h each

  flag_word_keeps : (waiting : Waiting) (word : Text) (o : Option (Text × Option Text)) (h : Held) → flag_word_fault c again o word h ≡ [] → Each P h.rows
      → Each P (long_or_other c waiting word o h).0.rows
  flag_word_keeps waiting word (Some p) h none each =
      after_keeps waiting word (long_met c (arg_by_long c p.0) p.1 h).0 (long_met c (arg_by_long c p.0) p.1 h).1
      (long_keeps p.0 (arg_by_long c p.0) p.1 h refl none each)
  flag_word_keeps waiting word None h none each = by_flags (short_of word) none
    where
      by_flags : (o : Option Text) → option_map_or (λ flags. bundle_fault c again flags h) o [] ≡ [] → Each P (short_or_plain c waiting word o h).0.rows
      by_flags None none = plain_keeps waiting word h each
      by_flags (Some flags) none =
          let met = bundle_met c (length flags) flags h.skip plain (record h { skip = 0 }) in
          after_keeps waiting word met.0 met.1 (bundle_keeps (length flags) flags h.skip plain (record h { skip = 0 }) none each)

  positional_keeps : (a : Rule) (word : Text) (h : Held) → positional_fault c again a h ≡ [] → Each P h.rows → Each P (positional_held c a word h).rows
  positional_keeps a word h none each = by_pending (is_pending a h.pending && takes_several a) none
    where
      by_pending : (b : Bool) → cond b [] (settle_fault c again h) ≡ [] → Each P (cond b h (settled c h)).rows
      by_pending true none = each
      by_pending false none = settle_keeps h none each

module _ (P : Row → Type 0) (s : Shape) (names : Names) (keeps : Each (Keeps P s.args_override_self) s.rules) where
  other_keeps : (o : Option Text) (waiting : Waiting) (position : ℕ) (word : Text) (h : Held) → other_fault s o word h ≡ [] → Each P h.rows
      → Each P (subcommand_or_other s.rules o waiting position word h).0.rows
  other_keeps (Some name) waiting position word h none each = each
  other_keeps None waiting position word h none each = by_dashes (bytes_eq word (45 ∷ 45 ∷ [])) none
    where
      by_dashes : (b : Bool) → cond b [] (flag_word_fault s.rules s.args_override_self (long_of word) word h) ≡ []
          → Each P (cond b (h, trailing position) (long_or_other s.rules waiting word (long_of word) h)).0.rows
      by_dashes true none = each
      by_dashes false none = flag_word_keeps P s.rules s.args_override_self keeps waiting word (long_of word) h none each

  word_keeps : (w : Walk) (word : Text) → word_fault s names w.is_trailing w.waiting word w.held ≡ [] → Each P w.held.rows
      → Each P (word_met s.rules names w.is_trailing w.waiting w.position word w.held).0.rows
  word_keeps w word none each = by_trailing w.is_trailing none
    where
      by_trailing : (b : Bool) → word_fault s names b w.waiting word w.held ≡ [] → Each P (word_met s.rules names b w.waiting w.position word w.held).0.rows
      by_trailing true none = each
      by_trailing false none = other_keeps (subcommand_met names w.waiting word) w.waiting w.position word w.held none each

  step_keeps : (w : Walk) (word : Text) (h : Held) (step : Step) → step_fault s w.position h step ≡ [] → Each P h.rows
      → Each P (after_step s.rules word w h step).held.rows
  step_keeps w word h (next waiting) none each = each
  step_keeps w word h (trailing position) none each = each
  step_keeps w word h (subcommand name) none each = each
  step_keeps w word h value none each = by_rule (arg_by_index s.rules w.position) none
    where
      by_rule : (o : Option Rule) → option_map_or (λ a. positional_fault s.rules s.args_override_self a h) o (cond s.is_leaf (kind.UnknownArgument ∷ []) (kind.UnknownArgument ∷ kind.InvalidSubcommand ∷ [])) ≡ []
          → Each P (to_positional s.rules o word w h).held.rows
      by_rule None none = each
      by_rule (Some a) none = positional_keeps P s.rules s.args_override_self keeps a word h none each

  turn_keeps : (w : Walk) (word : Text) → turn_fault s names w word ≡ [] → Each P w.held.rows → Each P (walked s.rules names w word).held.rows
  unfolding walked
  turn_keeps w word none each = by_stop w.stopped none
    where
      by_stop : (o : Option (Text × List Text))
          → cond (is_some o) [] (or_else (word_fault s names w.is_trailing w.waiting word w.held) (step_fault s w.position (word_met s.rules names w.is_trailing w.waiting w.position word w.held).0 (word_met s.rules names w.is_trailing w.waiting w.position word w.held).1)) ≡ []
          → Each P (walked_from s.rules names o w word).held.rows
      by_stop (Some p) none = each
      by_stop None none =
          let parts = no_faults _ _ none in
          step_keeps w word _ _ parts.1 (word_keeps w word parts.0 each)

  pub walk_keeps : (words : List Text) (w : Walk) → walk_fault s names w words ≡ [] → Each P w.held.rows → Each P (fold (walked s.rules names) w words).held.rows
  unfolding walk_fault
  walk_keeps [] w none each = each
  walk_keeps (word ∷ rest) w none each =
      let parts = no_faults _ _ none in
      walk_keeps rest (walked s.rules names w word) parts.1 (turn_keeps w word parts.0 each)

-- ---- defaults

default_keeps : (rows : List Row) (a : Rule) → a.defaults ≡ [] → with_default rows a ≡ rows
default_keeps rows a none = by_row (has_row a.id rows)
  where
    by_row : (b : Bool) → cond b rows (default_rows a.id (reading_by a) a.defaults rows) ≡ rows
    by_row true = refl
    by_row false = ap (λ values. default_rows a.id (reading_by a) values rows) none

-- where the rule has a default, this keeps what each row holds
abbrev pub KeepsDefault : (Row → Type 0) → Rule → Type 0
KeepsDefault P a = (rows : List Row) → Each P rows → Each P (with_default rows a)

pub none_keeps : (P : Row → Type 0) (a : Rule) → a.defaults ≡ [] → KeepsDefault P a
none_keeps P a none rows each = subst (Each P) (sym (default_keeps rows a none)) each

defaults_keep : (P : Row → Type 0) (c : List Rule) (rows : List Row) → Each (KeepsDefault P) c → Each P rows → Each P (fold with_default rows c)
defaults_keep P [] rows fills each = each
defaults_keep P (a ∷ c) rows fills each = defaults_keep P c (with_default rows a) fills.1 (fills.0 rows each)

-- what the rows of a command with no subcommand hold, and that its last checks pass
pub leaf_holds : (P : Row → Type 0) (s : Shape) → Each (Keeps P s.args_override_self) s.rules → Each (KeepsDefault P) s.rules → (words : List Text)
    → level_fault s [] nothing_held words false [] ≡ []
    → Each P (rows_after s.rules [] words) × (check_fault s (rows_after s.rules [] words) false ≡ [])
leaf_holds P s keeps fills words none =
    let end = (walk s.rules [] nothing_held words).held in
    let parts = no_faults _ _ none in
    let settling = no_faults _ _ (no_faults [] _ parts.1).1 in
    let checks = no_faults (defaults_fault (settled s.rules end).rows s.rules) _ settling.1 in
    let walked_rows = walk_keeps P s [] keeps words (walk_from nothing_held) parts.0 tt in
    let rows = settle_keeps P s.rules s.args_override_self keeps end settling.0 walked_rows in
    (defaults_keep P s.rules (settled s.rules end).rows fills rows, checks.1)
