-- The queries of all rows of a table, each with its rowid.
use Rattle.std.proofs.Common.{List, ℕ, [], ◌∷◌, ◌++◌, codes, refl}
use Rattle.sqlite.specs.Listing.{understood}
use Rattle.sqlite.specs.Table.{Table}
use Rattle.sqlite.specs.Term.{Term}
use Rattle.sqlite_value.specs.declared.keys.Key.{Key}
use Rattle.sqlite_tied.specs.Compute.{everything}
use Rattle.reg_tables.specs.Selecting.{column_names, ordered_by}
use Rattle.reg_statements.specs.Office as office
use Rattle.reg_opening.specs.Numbered.{ShowsNumbered}

-- in the order of the rowids
abbrev by_rowid : List (Term × Key)
by_rowid = ordered_by (0 ∷ [])

-- the names of the columns, and of the rowid behind them
abbrev numbered_names : Table → List (List ℕ)
numbered_names table = column_names table ++ codes "rowid" ∷ []

pub shows_caps : ShowsNumbered office.caps (codes "SELECT digest, account, kind, until, rowid FROM caps ORDER BY rowid")
unfolding understood everything
shows_caps = record {
  order = by_rowid;
  selects = record {
    names = numbered_names office.caps.table;
    is = λ more indexes. refl;
    plain = (refl, refl);
    unlisted = λ more indexes. refl;
  };
}

pub shows_entries : ShowsNumbered office.entries (codes "SELECT registry, value, label, assignee, first, expires, renewed, rowid FROM entries ORDER BY rowid")
unfolding understood everything
shows_entries = record {
  order = by_rowid;
  selects = record {
    names = numbered_names office.entries.table;
    is = λ more indexes. refl;
    plain = (refl, refl);
    unlisted = λ more indexes. refl;
  };
}

pub shows_pool : ShowsNumbered office.pool (codes "SELECT prefix, rowid FROM pool ORDER BY rowid")
unfolding understood everything
shows_pool = record {
  order = by_rowid;
  selects = record {
    names = numbered_names office.pool.table;
    is = λ more indexes. refl;
    plain = (refl, refl);
    unlisted = λ more indexes. refl;
  };
}

pub shows_blocks : ShowsNumbered office.blocks (codes "SELECT first, size, holder, organization, address, private, rowid FROM blocks ORDER BY rowid")
unfolding understood everything
shows_blocks = record {
  order = by_rowid;
  selects = record {
    names = numbered_names office.blocks.table;
    is = λ more indexes. refl;
    plain = (refl, refl);
    unlisted = λ more indexes. refl;
  };
}

pub shows_requests : ShowsNumbered office.requests (codes "SELECT account, reference, kind, registry, value, least, label, contact, specification, rfc_number, rfc_stream, rfc_track, minute, draft, stable, interest, chair, director, will_be_rfc, size, organization, address, state, given, reason, rowid FROM requests ORDER BY rowid")
unfolding understood everything
shows_requests = record {
  order = by_rowid;
  selects = record {
    names = numbered_names office.requests.table;
    is = λ more indexes. refl;
    plain = (refl, refl);
    unlisted = λ more indexes. refl;
  };
}

pub shows_queue : ShowsNumbered office.queue (codes "SELECT account, reference, expert, rowid FROM queue ORDER BY rowid")
unfolding understood everything
shows_queue = record {
  order = by_rowid;
  selects = record {
    names = numbered_names office.queue.table;
    is = λ more indexes. refl;
    plain = (refl, refl);
    unlisted = λ more indexes. refl;
  };
}

pub shows_advice : ShowsNumbered office.advice (codes "SELECT account, reference, expert, verdict, text, rowid FROM advice ORDER BY rowid")
unfolding understood everything
shows_advice = record {
  order = by_rowid;
  selects = record {
    names = numbered_names office.advice.table;
    is = λ more indexes. refl;
    plain = (refl, refl);
    unlisted = λ more indexes. refl;
  };
}

pub shows_holds : ShowsNumbered office.holds (codes "SELECT registry, value, rowid FROM holds ORDER BY rowid")
unfolding understood everything
shows_holds = record {
  order = by_rowid;
  selects = record {
    names = numbered_names office.holds.table;
    is = λ more indexes. refl;
    plain = (refl, refl);
    unlisted = λ more indexes. refl;
  };
}

pub shows_minutes : ShowsNumbered office.minutes (codes "SELECT account, reference, minute, rowid FROM minutes ORDER BY rowid")
unfolding understood everything
shows_minutes = record {
  order = by_rowid;
  selects = record {
    names = numbered_names office.minutes.table;
    is = λ more indexes. refl;
    plain = (refl, refl);
    unlisted = λ more indexes. refl;
  };
}

pub shows_agents : ShowsNumbered office.agents (codes "SELECT principal, agent, rowid FROM agents ORDER BY rowid")
unfolding understood everything
shows_agents = record {
  order = by_rowid;
  selects = record {
    names = numbered_names office.agents.table;
    is = λ more indexes. refl;
    plain = (refl, refl);
    unlisted = λ more indexes. refl;
  };
}
