-- What the queries of the rowids select.
use Rattle.std.proofs.Common.{ℕ, List, [], ◌∷◌, codes, inl, inr, refl, subst, sym}
use Rattle.std.specs.List.{AllByRecursion}
use Rattle.sqlite.specs.Listing.{understood}
use Rattle.sqlite.specs.Table.{Table}
use Rattle.sqlite_tied.specs.Compute.{everything}
use Rattle.reg_tables.specs.Kinds.{IsQuery}
use Rattle.reg_tables.specs.Schema.{office_table, registries_table, ranges_table}
use Rattle.reg_tables.specs.Selecting.{ordered_by}
use Rattle.reg_opening.specs.Rowids.{AreRowids, AsksRowids, IsAmong, SelectsRowids, ordered_tables}

abbrev names : List (List ℕ)
names = codes "rowid" ∷ []

pub office_rowids : SelectsRowids (codes "SELECT rowid FROM office ORDER BY rowid") office_table.tree
    (ordered_by (0 ∷ []))
unfolding understood everything
office_rowids = record {
  names = names;
  is = λ more indexes. refl;
  plain = (refl, refl);
  unlisted = λ more indexes. refl;
}

pub registries_rowids : SelectsRowids (codes "SELECT rowid FROM registries ORDER BY rowid") registries_table.tree
    (ordered_by (0 ∷ []))
unfolding understood everything
registries_rowids = record {
  names = names;
  is = λ more indexes. refl;
  plain = (refl, refl);
  unlisted = λ more indexes. refl;
}

pub ranges_rowids : SelectsRowids (codes "SELECT rowid FROM ranges ORDER BY rowid") ranges_table.tree
    (ordered_by (0 ∷ []))
unfolding understood everything
ranges_rowids = record {
  names = names;
  is = λ more indexes. refl;
  plain = (refl, refl);
  unlisted = λ more indexes. refl;
}

abbrev pub rowid_texts : List (List ℕ)
rowid_texts =
    codes "SELECT rowid FROM office ORDER BY rowid" ∷
    codes "SELECT rowid FROM registries ORDER BY rowid" ∷
    codes "SELECT rowid FROM ranges ORDER BY rowid" ∷
    []

pub all_rowids : AreRowids rowid_texts ordered_tables
all_rowids = (office_rowids, (registries_rowids, (ranges_rowids, tt)))

-- each is a query
pub plain_rowids : (texts : List (List ℕ)) (tables : List Table) → AreRowids texts tables
    → AllByRecursion IsQuery texts
plain_rowids [] [] rowids = tt
plain_rowids [] (t ∷ tables) rowids = absurd rowids
plain_rowids (text ∷ texts) [] rowids = absurd rowids
plain_rowids (text ∷ texts) (t ∷ tables) rowids =
    (rowids.0.plain, plain_rowids texts tables rowids.1)

-- and asks for the rowids of one of the tables
pub asks_rowids : (texts : List (List ℕ)) (tables : List Table) → AreRowids texts tables
    → (sql : List ℕ) → IsAmong texts sql → AsksRowids tables sql
asks_rowids [] tables rowids sql among = absurd among
asks_rowids (text ∷ texts) [] rowids sql among = absurd rowids
asks_rowids (text ∷ texts) (t ∷ tables) rowids sql (inl is) =
    inl (subst (λ text. SelectsRowids text t.tree (ordered_by (0 ∷ []))) (sym is) rowids.0)
asks_rowids (text ∷ texts) (t ∷ tables) rowids sql (inr among) =
    inr (asks_rowids texts tables rowids.1 sql among)
