-- What the statements that list a whole table select, and what is made of its rows.
use Rattle.std.proofs.Common.{◌≡◌, true, [], ◌∷◌, codes, map, refl, ap, ◌∙◌}
use Rattle.sqlite.specs.Listing.{understood}
use Rattle.sqlite_tied.specs.Compute.{everything}
use Rattle.std.proofs.lemmas.Simd.{map-map}
use Rattle.reg_maps.proofs.MapLaws.{text_keys}
use Rattle.reg_core.specs.CapRows.{cap_rows}
use Rattle.reg_core.specs.Link.{link_rows}
use Rattle.reg_tables.specs.Selecting.{SelectsFrom, columns_of, ordered_by}
use Rattle.reg_statements.specs.Defined.{Chooses, rows_where}
use Rattle.reg_statements.specs.Office as office
use Rattle.reg_statements.specs.Parts.{Parts}
use Rattle.reg_statements.proofs.Defined.{by_all}
use Rattle.reg_statements.proofs.Office as laws
use Rattle.reg_rows.specs.Whole.{cap_of, link_of, select_agents, select_caps}
use Rattle.reg_rows.proofs.PoolRowsListed.{entries_all}
use Rattle.reg_core.proofs.KeyOrders.{link_keys}

-- ---- Statements

pub all_caps : SelectsFrom 2 select_caps 1 [] (columns_of 4) (ordered_by (1 ∷ []))
unfolding understood everything
all_caps = record {
  names = codes "digest" ∷ codes "account" ∷ codes "kind" ∷ codes "until" ∷ [];
  is = λ more indexes. refl;
  plain = (refl, refl);
  unlisted = λ more indexes. refl;
}

pub all_links : SelectsFrom 13 select_agents 25 [] (columns_of 2) (ordered_by (1 ∷ 2 ∷ []))
unfolding understood everything
all_links = record {
  names = codes "principal" ∷ codes "agent" ∷ [];
  is = λ more indexes. refl;
  plain = (refl, refl);
  unlisted = λ more indexes. refl;
}

pub lists_caps : Chooses office.caps select_caps [] (λ digest cap. true)
lists_caps = by_all office.caps laws.caps _ _ all_caps

pub lists_links : Chooses office.agents select_agents [] (λ link u. true)
lists_links = by_all office.agents laws.agents _ _ all_links

-- ---- Rows

pub caps_listed : (p : Parts)
    → map cap_of (rows_where office.caps (λ digest cap. true) p) ≡ cap_rows p.caps
caps_listed p =
    map-map _ _ _
    ∙ ap (λ es. map (λ e. cap_of (office.caps.item e.0 e.1)) es) (entries_all text_keys p.caps)

pub links_listed : (p : Parts)
    → map link_of (rows_where office.agents (λ link u. true) p) ≡ link_rows p.agents
links_listed p =
    map-map _ _ _
    ∙ ap (λ es. map (λ e. link_of (office.agents.item e.0 e.1)) es) (entries_all link_keys p.agents)
