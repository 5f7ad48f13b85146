-- What one try to copy files reads.
use Rattle.std.proofs.Common.{◌≡◌, Bool, IsTrue, false, true≢false, sym, List, ℕ, [], ◌∷◌, ◌++◌, ap, append_assoc, refl, subst, ◌∙◌}
use Rattle.reg_sql.specs.Steady.{File, Header, IsReadAgain, IsSteadyTry, IsUnsteadyTry, Log, CopyReading, Try, readings_of}

module _ (header file log : List ℕ) (same : Bool) (old first second third new : List CopyReading)
    (of_header : first ≡ old ++ Header header ∷ []) (of_file : second ≡ first ++ File file ∷ [])
    (of_log : third ≡ second ++ Log log ∷ []) (again : IsReadAgain header file same third new) where
  abbrev tried : Try
  tried = record {
    header = header;
    file = file;
    log = log;
    later_file = again.later_file;
    later_header = again.later_header;
  }

  in_turn : new ≡ old ++ readings_of tried
  in_turn =
      let rest : List CopyReading = File again.later_file ∷ Header again.later_header ∷ [] in
      again.read
      ∙ ap (λ l. l ++ rest)
      (of_log ∙ ap (λ l. l ++ Log log ∷ []) (of_file ∙ ap (λ l. l ++ File file ∷ []) of_header))
      ∙ append_assoc ((old ++ Header header ∷ []) ++ File file ∷ []) (Log log ∷ []) rest
      ∙ append_assoc (old ++ Header header ∷ []) (File file ∷ []) (Log log ∷ rest)
      ∙ append_assoc old (Header header ∷ []) (File file ∷ Log log ∷ rest)

  pub steady : IsTrue same → IsSteadyTry log file old new
  steady is = (tried, in_turn, again.told.0 is, refl, refl)

  pub unsteady : same ≡ false → IsUnsteadyTry old new
  unsteady isnt = (tried, in_turn, λ is. true≢false (sym (again.told.1 is) ∙ isnt))

-- the same, of bytes that are these
pub of_these : (h header f file : List ℕ) (same : Bool) (old new : List CopyReading) → h ≡ header → f ≡ file
    → IsReadAgain h f same old new → IsReadAgain header file same old new
of_these h header f file same old new is_header is_file again =
    subst (λ (x : List ℕ). IsReadAgain header x same old new) is_file
    (subst (λ (x : List ℕ). IsReadAgain x f same old new) is_header again)
