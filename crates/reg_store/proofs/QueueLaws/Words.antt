-- The rows of one request in some queues, given a word one after the other.
use Rattle.std.proofs.Common.{◌≡◌, ℕ, Bool, true, false, cond, ◌&&◌, List, [], ◌∷◌, ◌++◌, refl}
use Rattle.std.proofs.Common.{sym, ap, ◌∙◌}
use Rattle.std.specs.Prelude.{Option, Some, None, is_some, option_map, ◌||◌}
use Rattle.std.specs.Cmp.{eq_by_cmp_equiv}
use Rattle.std.specs.Ordering.{eq_by_cmp}
use Rattle.std.specs.BTreeMap.{is_at}
use Rattle.std.specs.FinMap.{FinMap, get}
use Rattle.std.specs.Map.{lookup, keys_of}
use Rattle.reg_maps.specs.Maps.{text_cmp, update}
use Rattle.reg_maps.proofs.MapLaws.{get-update, tied}
use Rattle.reg_maps.proofs.Tests.{or-false}
use Rattle.reg_maps.proofs.Orderings.{tie}
use Rattle.reg_core.specs.World.{RequestName, name_cmp}
use Rattle.reg_core.specs.declared.queue.QueueRow.{QueueRow}
use Rattle.reg_core.specs.declared.request.StateWord.{StateWord}
use Rattle.reg_core.proofs.KeyOrders.{name_keys}
use Rattle.reg_store.specs.Lists.Queues.{AreWorded, queue_cmp, with_word}
use Rattle.reg_store.proofs.QueueLaws.Rows.{queue_keys}

-- an account is one of these
abbrev pub is_among : List ℕ → List (List ℕ) → Bool
is_among e [] = false
is_among e (x ∷ xs) = is_at (text_cmp e) x || is_among e xs

-- or of one more
is_among-push : (e : List ℕ) (xs : List (List ℕ)) (x : List ℕ)
    → is_among e (xs ++ x ∷ []) ≡ (is_among e xs || is_at (text_cmp e) x)
is_among-push e [] x = or-false (is_at (text_cmp e) x)
is_among-push e (y ∷ xs) x =
    ap (λ b. is_at (text_cmp e) y || b) (is_among-push e xs x)
    ∙ along (is_at (text_cmp e) y) (is_among e xs) (is_at (text_cmp e) x)
  where
    along : (a b c : Bool) → (a || (b || c)) ≡ ((a || b) || c)
    along true b c = refl
    along false b c = refl

-- the keys of a map's entries are those at which it has a row
pub is_among-keys : {X : Type 0} (e : List ℕ) (es : List (List ℕ × X))
    → is_among e (keys_of es) ≡ is_some (lookup (is_at (text_cmp e)) es)
is_among-keys e [] = refl
is_among-keys e (x ∷ es) =
    elim (is_at (text_cmp e) x.0) as (λ b. (b || is_among e (keys_of es))
    ≡ is_some (cond b (Some x.1) (lookup (is_at (text_cmp e)) es))) [
      | true ↦ refl
      | false ↦ is_among-keys e es
    ]

-- a row that may have the word, given the word where it is one more
once : (word : StateWord) (p s a : Bool) (o : Option QueueRow)
    → cond (s && a) (option_map (with_word word) (cond (p && a) (option_map (with_word word) o) o))
    (cond (p && a) (option_map (with_word word) o) o)
    ≡ cond ((p || s) && a) (option_map (with_word word) o) o
once word false s a o = refl
once word true false a o = refl
once word true true false o = refl
once word true true true None = refl
once word true true true (Some row) = refl

-- a row that is changed at its own place
at_own : (rows : FinMap queue_cmp QueueRow) (f : QueueRow → QueueRow) (name n : RequestName)
    (x e : List ℕ)
    → get (update rows (x, name) f) (e, n)
    ≡ cond (is_at (text_cmp e) x && is_at (name_cmp name) n) (option_map f (get rows (e, n)))
    (get rows (e, n))
at_own rows f name n x e =
    get-update queue_keys rows (x, name) f (e, n)
    ∙ elim (eq_by_cmp queue_cmp (e, n) (x, name)) as (λ b. eq_by_cmp queue_cmp (e, n) (x, name) ≡ b
    → cond b (option_map f (get rows (x, name))) (get rows (e, n))
    ≡ cond b (option_map f (get rows (e, n))) (get rows (e, n))) [
      | true ↦ λ t. ap (λ k. option_map f (get rows k)) (sym (tied queue_keys (e, n) (x, name) t))
      | false ↦ λ t. refl
    ] refl
    ∙ ap (λ b. cond b (option_map f (get rows (e, n))) (get rows (e, n)))
    (tie (text_cmp e x) (name_cmp n name)
    ∙ ap (λ b. is_at (text_cmp e) x && b) ((eq_by_cmp_equiv name_keys.total).symm n name))

-- the rows of a request in some queues have the word, and then in one more
pub one_more : (word : StateWord) (name : RequestName) (old mid : FinMap queue_cmp QueueRow)
    (xs : List (List ℕ)) (x : List ℕ) → AreWorded (λ e. is_among e xs) name word old mid
    → AreWorded (λ e. is_among e (xs ++ x ∷ [])) name word old (update mid (x, name) (with_word word))
one_more word name old mid xs x done e n =
    let at = is_at (name_cmp name) n in
    at_own mid (with_word word) name n x e
    ∙ ap (λ row. cond (is_at (text_cmp e) x && at) (option_map (with_word word) row) row)
    (done e n)
    ∙ once word (is_among e xs) (is_at (text_cmp e) x) at (get old (e, n))
    ∙ ap (λ b. cond (b && at) (option_map (with_word word) (get old (e, n))) (get old (e, n)))
    (sym (is_among-push e xs x))
