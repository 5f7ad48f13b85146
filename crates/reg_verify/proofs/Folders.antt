-- What the files of a folder publish, one after the other.
use Rattle.std.proofs.Common.{◌≡◌, ℕ, List, [], ◌∷◌, ◌++◌, map, Option, Some, None, refl, sym, ap, ◌∙◌, subst, append_assoc, append-nil}
use Rattle.std.specs.List.{flat_map}
use Rattle.std.proofs.lemmas.Grind.{flat_map-append}
use Rattle.std.proofs.lemmas.List.Elements.{All-nil, All-push}
use Rattle.reg_core.specs.declared.command.PublicCommand.TheVariants.{Registry}
use Rattle.reg_core.specs.declared.page.Page.{Page}
use Rattle.reg_core.specs.declared.told.Told.{Told}
use Rattle.reg_core.specs.declared.told.Told.TheVariants as tells
use Rattle.reg_history.specs.Published.{block_fact, page_facts, prefix_fact}
use Rattle.reg_changes.specs.declared.change.Fact.{Fact}
use Rattle.reg_print.specs.Listing.{listing_text}
use Rattle.reg_site.specs.Site.{told_text}
use Rattle.reg_client.specs.Reading.{IsToldBy}
use Rattle.reg_changes.specs.declared.change.HistoryRecord.{HistoryRecord}
use Rattle.reg_history.specs.Chain.{says as says_of}
use Rattle.reg_history.specs.History.{IsHistory, SaysJust}
use Rattle.reg_changes.specs.Said.{said_by}
use Rattle.reg_history.specs.declared.history.History.{History}
use Rattle.reg_verify.specs.Index.{IsInHistory, NamedRecord, named_record}
use Rattle.reg_verify.specs.Strays.{AllHaveNames, HasNoStray}
use Rattle.reg_verify.proofs.Nameless.{names_said}
use Rattle.reg_verify.proofs.StrayFiles.{none_said}
use Rattle.reg_verify.specs.Verifying.{AddsBlocks, AddsPage, AddsPool, AreFactsOf, AreFactsOfPages, HasIndex, HasPage, IsHistoryIn, IsNotedIn, IsPageIn, IsVerified}
use Rattle.reg_verify.specs.declared.part.FolderPart.{FolderPart}
use Rattle.reg_verify.specs.declared.part.FolderPart.TheVariants as part

-- the page that is told, if one is
abbrev page_or : Page → Told → Page
page_or other (tells.Page page) = page
page_or other _ = other

-- a page that is told by a registry of this name has this name
told_name : (name : List ℕ) (page : Page) → IsToldBy (Registry name) (tells.Page page)
    → page.name ≡ name
told_name name page told =
    ap (λ (t : Told). (page_or page t).name) told.1 ∙ told.2

module _ (Found : FolderPart → Option (List ℕ) → Type 0) where
  -- the JSON of a registry tells its page
  pub page_told : (name : List ℕ) (told : Told) (page : Page)
      → Found (part.Registry name) (Some (told_text told)) → IsToldBy (Registry name) told
      → told ≡ tells.Page page → IsPageIn Found name page
  page_told name told page found by is = record {
    named = told_name name page (subst (IsToldBy (Registry name)) is by);
    tree = subst (λ (t : Told). Found (part.Registry name) (Some (told_text t))) is found;
  }

  -- with its listing
  pub page_has : (name : List ℕ) (page : Page) → IsPageIn Found name page
      → Found (part.Listing name) (Some (listing_text page)) → HasPage Found page
  page_has name page is listed = record {
    tree = subst (λ n. Found (part.Registry n) (Some (told_text (tells.Page page))))
        (sym is.named) is.tree;
    listing = subst (λ n. Found (part.Listing n) (Some (listing_text page))) (sym is.named) listed;
  }

  pub no_pages : AreFactsOfPages Found []
  no_pages = ([], All-nil (HasPage Found), refl)

  pub one_page_more : (facts facts' : List Fact) → AreFactsOfPages Found facts
      → AddsPage Found facts facts' → AreFactsOfPages Found facts'
  one_page_more facts facts' are adds = (
    are.0 ++ adds.0 ∷ [],
    All-push (HasPage Found) are.0 adds.0 are.1 adds.1,
    adds.2
        ∙ ap (λ fs. fs ++ page_facts adds.0) are.2
        ∙ ap (λ fs. flat_map page_facts are.0 ++ fs) (sym (append-nil (page_facts adds.0)))
        ∙ sym (flat_map-append page_facts are.0 (adds.0 ∷ [])),
  )

  -- the registries, the pool and the blocks
  pub all_facts : (pages pooled all : List Fact) → AreFactsOfPages Found pages
      → AddsPool Found pages pooled → AddsBlocks Found pooled all → AreFactsOf Found all
  all_facts pages pooled all are pool blocks = record {
    pages = are.0;
    prefixes = pool.0;
    rows = blocks.0;
    registries = are.1;
    pool = pool.1;
    blocks = blocks.1;
    are =
        blocks.2
        ∙ ap (λ fs. fs ++ added) (pool.2 ∙ ap (λ fs. fs ++ map prefix_fact pool.0) are.2)
        ∙ append_assoc (flat_map page_facts are.0) (map prefix_fact pool.0) added;
  } where
    added : List Fact
    added = map (λ row. block_fact row.block) blocks.0

  -- the record that the index names was found
  pub index_found : (digests : List (List ℕ)) (bytes : List ℕ) (named : NamedRecord)
      → Found part.Index (Some bytes) → named_record bytes ≡ Some named
      → IsInHistory digests named → HasIndex Found digests
  index_found digests bytes named found names has =
      record { bytes = bytes; named = named; found = found; names = names; has = has }

-- what is verified, by its parts
module _ (Found : FolderPart → Option (List ℕ) → Type 0) (Names : List (List ℕ) → Type 0) where
  -- a history that says just what the files publish, and has the record of the index, where each registry
  -- has a name and no file is stray
  pub verified_by : (h : History) (digests : List (List ℕ)) (facts : List Fact)
      → IsHistoryIn Found h → HasIndex Found h.chain.digests.items → AreFactsOf Found facts
      → AllHaveNames (said_by h.said) → HasNoStray Names (said_by h.said)
      → ((records : List HistoryRecord) → IsHistory h records → SaysJust records facts)
      → digests ≡ h.chain.digests.items → IsVerified Found Names None digests
  verified_by h digests facts is index are named none says same = record {
    records = is.0;
    facts = facts;
    history = is.1;
    tied = same ∙ is.2.digests;
    index = subst (HasIndex Found) (sym same) index;
    published = are;
    says = says is.0 is.2;
    named = names_said (said_by h.said) (says_of is.0) is.2.said named;
    no_stray = none_said Names (said_by h.said) (says_of is.0) is.2.said none;
    has = tt;
  }

  -- and a digest that was noted
  pub verified_with : (noted : Option (List ℕ)) (digests digests' : List (List ℕ))
      → IsVerified Found Names None digests → digests' ≡ digests → IsNotedIn digests noted
      → IsVerified Found Names noted digests'
  verified_with noted digests digests' is same has =
      subst (IsVerified Found Names noted) (sym same)
      (record {
        records = is.records;
        facts = is.facts;
        history = is.history;
        tied = is.tied;
        index = is.index;
        published = is.published;
        says = is.says;
        named = is.named;
        no_stray = is.no_stray;
        has = has;
      })
