-- A history that goes on, fact by fact.
use Rattle.std.proofs.Common.{◌≡◌, ℕ, false, List, [], ◌∷◌, ◌++◌, map, refl, sym, ap, ◌∙◌, subst, append_assoc, append-nil}
use Rattle.std.specs.Prelude.{Option, Some, None, MatchOption, is_some, option_to_list}
use Rattle.reg_history.specs.Chain.{Chained, at, begun, chained, record_of, says}
use Rattle.reg_history.specs.History.{later, news}
use Rattle.reg_history.specs.Moment.{moment_text}
use Rattle.reg_history.specs.Overview.{AddsToOverview, IsOverview}
use Rattle.reg_changes.specs.KeepingUp.{KeepsUp}
use Rattle.reg_history.specs.Recording.{Aim, Ends, IsBegunOn, IsRecorded, Records, moment_of}
use Rattle.reg_changes.specs.Replay.{IsLost, Said, StandsIf, changes_to, nothing, recorded, replay, without}
use Rattle.reg_changes.specs.Said.{DoesNotStand, said_by}
use Rattle.reg_history.specs.declared.chain.RecordLine.{RecordLine}
use Rattle.reg_changes.specs.declared.change.PublishedChange.{PublishedChange}
use Rattle.reg_changes.specs.declared.change.Details.{Details}
use Rattle.reg_changes.specs.declared.change.Fact.{Fact}
use Rattle.reg_changes.specs.declared.change.HistoryRecord.{HistoryRecord}
use Rattle.reg_changes.specs.declared.change.Subject.{Subject}
use Rattle.reg_history.specs.declared.history.History.{History}
use Rattle.reg_history.specs.declared.recorder.Recorded.{Recorded}
use Rattle.reg_history.specs.declared.recorder.Recorder.{Recorder}
use Rattle.reg_changes.specs.declared.said.Unrecorded.TheVariants.{Lost}
use Rattle.reg_history.proofs.Histories.{chain_from-append, changes-at, grows, in_order-at, later-le, map-append, text-more}
use Rattle.reg_changes.proofs.Replayed.{keeps_up-kept, keeps_up-left, keeps_up-next, keeps_up-says, keeps_up-start, tells_loss}

-- ---- One record more

-- bytes came to a history, with what is shown of it
pub recorded_more : (w w' : Recorded) (records : List HistoryRecord) (r : HistoryRecord) (l : RecordLine)
    → IsRecorded w records → w'.text.items ≡ w.text.items ++ l.bytes.items
    → AddsToOverview w'.overview records r l → IsRecorded w' (records ++ r ∷ [])
recorded_more w w' records r l is text adds = record {
  text =
      text ∙ ap (λ t. t ++ l.bytes.items) is.text ∙ sym (text-more records r l.bytes.items adds.line);
  shown = adds.grown;
}

-- nothing came
pub recorded_same : (w : Recorded) (records : List HistoryRecord) → IsRecorded w records
    → IsRecorded w (records ++ [])
recorded_same w records is = subst (IsRecorded w) (sym (append-nil records)) is

-- ---- Facts

module _ (aim : Aim) where
  -- a history begins to go on
  pub records_begun : (h : History) (r : Recorder) (text : List ℕ) (moment : ℕ)
      → IsBegunOn aim h text moment → r.said ≡ h.said → r.whole.overview ≡ h.overview
      → r.whole.text.items ≡ text → r.moment ≡ later h.moment (moment_text moment)
      → Records aim r aim.facts
  records_begun h r text moment is said overview bytes now =
      let was : said_by r.said ≡ says aim.records =
      ap said_by said ∙ (λ i s. is.history.said s i) in
      record {
        changes = [];
        up = subst (λ (f : Said). KeepsUp (says aim.records) aim.facts f aim.facts []) (sym was)
            (keeps_up-start (says aim.records) aim.facts);
        whole =
            subst (IsRecorded r.whole) (sym (append-nil aim.records))
            (record {
              text = bytes ∙ sym is.text;
              shown = subst (λ o. IsOverview o aim.records) (sym overview) is.history.shown;
            });
        moment =
            now ∙ ap (λ m. later h.moment (moment_text m)) is.moment
            ∙ ap (λ m. later m (moment_text aim.moment)) is.history.moment;
        in_order = is.history.in_order;
      }

  at-append : (moment : List ℕ) (xs ys : List PublishedChange)
      → (aim.records ++ at moment xs) ++ at moment ys ≡ aim.records ++ at moment (xs ++ ys)
  at-append moment xs ys =
      append_assoc aim.records (at moment xs) (at moment ys)
      ∙ ap (λ t. aim.records ++ t) (sym (map-append (record_of moment) xs ys))

  -- a fact was taken
  pub records_next : (r r' : Recorder) (fact : Fact) (rest : List Fact) (before : Option Details)
      (change : Option PublishedChange) → Records aim r (fact ∷ rest) → before ≡ said_by r.said fact.subject
      → ((s : Subject) → said_by r'.said s ≡ without fact.subject (said_by r.said) s)
      → StandsIf before fact → option_to_list change ≡ recorded before fact
      → ((records : List HistoryRecord) → IsRecorded r.whole records
      → IsRecorded r'.whole (records ++ at r.moment (option_to_list change)))
      → r'.moment ≡ r.moment → Records aim r' rest
  records_next r r' fact rest before change so was removed stands made whole now =
      let m = moment_of aim in
      let Stands : Option Details → Type 0 = λ o. StandsIf o fact in
      record {
        changes = so.changes ++ option_to_list change;
        up =
            keeps_up-next (says aim.records) aim.facts (said_by r.said) (said_by r'.said) fact rest
            so.changes (so.changes ++ option_to_list change) so.up removed (subst Stands was stands)
            (ap (λ cs. so.changes ++ cs) (made ∙ ap (λ o. recorded o fact) was));
        whole =
            subst (IsRecorded r'.whole)
            (ap (λ t. (aim.records ++ at m so.changes) ++ at t (option_to_list change)) so.moment
            ∙ at-append m so.changes (option_to_list change))
            (whole (aim.records ++ at m so.changes) so.whole);
        moment = now ∙ so.moment;
        in_order = so.in_order;
      }

  -- or what was said of its subject does not stand
  pub records_lost : (r : Recorder) (fact : Fact) (rest : List Fact) (before : Option Details)
      (subject : Subject) → Records aim r (fact ∷ rest) → before ≡ said_by r.said fact.subject
      → DoesNotStand before fact (Lost subject) → IsLost (says aim.records) aim.facts subject
  records_lost r fact rest before subject so was h =
      tells_loss (says aim.records) aim.facts (said_by r.said) fact rest so.changes before
      (Lost subject) so.up was h

  -- nothing is left of what was said
  pub records_end : (r : Recorder) → Records aim r [] → ((s : Subject) → said_by r.said s ≡ None)
      → Ends aim r.whole
  records_end r so none =
      let rs = aim.records in
      let m = moment_of aim in
      let new = changes_to (says rs) aim.facts in
      let are : so.changes ≡ new = sym (append-nil so.changes) ∙ sym so.up.made in
      let all : rs ++ at m so.changes ≡ rs ++ news rs aim.moment aim.facts =
      ap (λ cs. rs ++ at m cs) are in
      let grown = chain_from-append begun rs (at m new) in
      let grew = grows (chained rs) (at m new) in
      let changed : map (λ (x : HistoryRecord). x.change) (rs ++ at m new)
      ≡ map (λ (x : HistoryRecord). x.change) rs ++ so.changes =
      map-append (λ (x : HistoryRecord). x.change) rs (at m new)
      ∙ ap (λ t. map (λ (x : HistoryRecord). x.change) rs ++ t) (changes-at m new ∙ sym are) in
      let after = keeps_up-says (says rs) aim.facts (said_by r.said) so.changes so.up none in
      record {
        more = grew.0;
        continues = record {
          text = ap (λ (k : Chained). k.text) grown ∙ grew.1;
          tied = refl;
          in_order =
              ap (λ (k : Chained). k.in_order) grown
              ∙ in_order-at (chained rs) m new so.in_order
              (later-le (chained rs).moment (moment_text aim.moment));
          kept = keeps_up-kept (says rs) aim.facts (said_by r.said) so.changes so.up none;
          replayed = λ s. ap (λ cs. replay nothing cs s) changed
              ∙ after (map (λ (x : HistoryRecord). x.change) rs) (λ t. refl) s;
        };
        whole = subst (IsRecorded r.whole) all so.whole;
      }

  -- something is left of it
  pub records_left : (r : Recorder) (s : Subject) (before : Details) → Records aim r []
      → said_by r.said s ≡ Some before → IsLost (says aim.records) aim.facts s
  records_left r s before so was =
      keeps_up-left (says aim.records) aim.facts (said_by r.said) so.changes s before so.up was

-- ---- Whether something was lost

module _ (A : Type 0) (L : Subject → Type 0) where
  pub is_not_lost : (o : Option Subject) → is_some o ≡ false → MatchOption o A L → A
  is_not_lost None is h = h
  is_not_lost (Some s) is h = cc is

  pub was_not_lost : (o : Option Subject) → o ≡ None → MatchOption o A L → A
  was_not_lost None is h = h
  was_not_lost (Some s) is h = cc is

  pub not_lost : (o : Option Subject) → is_some o ≡ false → A → MatchOption o A L
  not_lost None is h = h
  not_lost (Some s) is h = cc is
