-- The name at which a walk stops, where its words are taken: it is not the command for help.
use Rattle.std.proofs.Common.{◌≡◌, ◌&&◌, Bool, ℕ, cond, true, false, refl, subst, List, [], ◌∷◌, Option, Some, None, is_some, not}
use Rattle.std.specs.Prelude.{⊤, codes}
use Rattle.std.specs.List.{fold}
use Rattle.std.specs.Str.{bytes_eq}
use Rattle.clap.specs.Lexer.{long_of, short_of}
use Rattle.clap.specs.Kinds.{or_else}
use Rattle.clap.specs.Walk.{Held, Names, Outcome, Rule, Step, Text, Waiting, Walk, after_flag, after_step, arg_by_index, done, idle, long_or_other, next, option, plain, plain_word, positional, refused, short_or_plain, subcommand, subcommand_met, subcommand_or_other, to_positional, trailing, value, waits, walked, walked_from, word_met}
use Rattle.clap.specs.Simple.{Shape}
use Rattle.clap.specs.Faults.{other_fault, step_fault, turn_fault, walk_fault, word_fault}
use Rattle.clap.specs.declared.error.kind.ErrorKind.TheVariants as kind
use Rattle.reg_jobs.proofs.Walks.{no_faults}

-- where the walk stopped, it did so at another name
abbrev pub StopsElsewhere : Option (Text × List Text) → Type 0
StopsElsewhere None = ⊤
StopsElsewhere (Some p) = bytes_eq p.0 (codes "help") ≡ false

-- the step enters no command for help
abbrev GoesElsewhere : Step → Type 0
GoesElsewhere (subcommand name) = bytes_eq name (codes "help") ≡ false
GoesElsewhere _ = ⊤

plain_goes : (c : List Rule) (waiting : Waiting) (word : Text) (h : Held) → GoesElsewhere (plain_word c waiting word h).1
plain_goes c idle word h = tt
plain_goes c positional word h = tt
plain_goes c (option id) word h = tt

after_goes : (c : List Rule) (waiting : Waiting) (word : Text) (h : Held) (o : Outcome) → GoesElsewhere (after_flag c waiting word h o).1
after_goes c waiting word h done = tt
after_goes c waiting word h (waits id) = tt
after_goes c waiting word h plain = plain_goes c waiting word h
after_goes c waiting word h refused = plain_goes c waiting word h

short_goes : (c : List Rule) (waiting : Waiting) (word : Text) (o : Option Text) (h : Held) → GoesElsewhere (short_or_plain c waiting word o h).1
short_goes c waiting word None h = plain_goes c waiting word h
short_goes c waiting word (Some flags) h = after_goes c waiting word _ _

flag_goes : (c : List Rule) (waiting : Waiting) (word : Text) (o : Option (Text × Option Text)) (h : Held) → GoesElsewhere (long_or_other c waiting word o h).1
flag_goes c waiting word None h = short_goes c waiting word (short_of word) h
flag_goes c waiting word (Some p) h = after_goes c waiting word _ _

module _ (s : Shape) (names : Names) (enabled : s.disable_help_subcommand ≡ false) where
  name_goes : (name : Text) (b : Bool) → bytes_eq name (codes "help") ≡ b → cond (b && not s.disable_help_subcommand) (kind.DisplayHelp ∷ kind.InvalidSubcommand ∷ []) [] ≡ []
      → bytes_eq name (codes "help") ≡ false
  name_goes name false is none = is
  name_goes name true is none =
      let bad = subst (λ d. cond (not d) (kind.DisplayHelp ∷ kind.InvalidSubcommand ∷ []) [] ≡ []) enabled none in
      absurd (cc)

  other_goes : (o : Option Text) (waiting : Waiting) (position : ℕ) (word : Text) (h : Held) → other_fault s o word h ≡ []
      → GoesElsewhere (subcommand_or_other s.rules o waiting position word h).1
  other_goes (Some name) waiting position word h none = name_goes name (bytes_eq name (codes "help")) refl none
  other_goes None waiting position word h none = by_dashes (bytes_eq word (45 ∷ 45 ∷ []))
    where
      by_dashes : (b : Bool) → GoesElsewhere (cond b (h, trailing position) (long_or_other s.rules waiting word (long_of word) h)).1
      by_dashes true = tt
      by_dashes false = flag_goes s.rules waiting word (long_of word) h

  word_goes : (w : Walk) (word : Text) → word_fault s names w.is_trailing w.waiting word w.held ≡ []
      → GoesElsewhere (word_met s.rules names w.is_trailing w.waiting w.position word w.held).1
  word_goes w word none = by_trailing w.is_trailing none
    where
      by_trailing : (b : Bool) → word_fault s names b w.waiting word w.held ≡ [] → GoesElsewhere (word_met s.rules names b w.waiting w.position word w.held).1
      by_trailing true none = tt
      by_trailing false none = other_goes (subcommand_met names w.waiting word) w.waiting w.position word w.held none

  step_stops : (w : Walk) (word : Text) (h : Held) (step : Step) → GoesElsewhere step → StopsElsewhere w.stopped → StopsElsewhere (after_step s.rules word w h step).stopped
  step_stops w word h (next waiting) goes stops = stops
  step_stops w word h (trailing position) goes stops = stops
  step_stops w word h (subcommand name) goes stops = goes
  step_stops w word h value goes stops = by_rule (arg_by_index s.rules w.position)
    where
      by_rule : (o : Option Rule) → StopsElsewhere (to_positional s.rules o word w h).stopped
      by_rule None = stops
      by_rule (Some a) = tt

  turn_stops : (w : Walk) (word : Text) → turn_fault s names w word ≡ [] → StopsElsewhere w.stopped → StopsElsewhere (walked s.rules names w word).stopped
  unfolding walked
  turn_stops w word none stops = by_stop w.stopped stops none
    where
      by_stop : (o : Option (Text × List Text)) → StopsElsewhere o
          → cond (is_some o) [] (or_else (word_fault s names w.is_trailing w.waiting word w.held) (step_fault s w.position (word_met s.rules names w.is_trailing w.waiting w.position word w.held).0 (word_met s.rules names w.is_trailing w.waiting w.position word w.held).1)) ≡ []
          → StopsElsewhere (walked_from s.rules names o w word).stopped
      by_stop (Some p) at none = at
      by_stop None at none = step_stops w word _ _ (word_goes w word (no_faults _ _ none).0) stops

  pub walk_stops : (words : List Text) (w : Walk) → walk_fault s names w words ≡ [] → StopsElsewhere w.stopped → StopsElsewhere (fold (walked s.rules names) w words).stopped
  unfolding walk_fault
  walk_stops [] w none stops = stops
  walk_stops (word ∷ rest) w none stops =
      let parts = no_faults _ _ none in
      walk_stops rest (walked s.rules names w word) parts.1 (turn_stops w word parts.0 stops)
