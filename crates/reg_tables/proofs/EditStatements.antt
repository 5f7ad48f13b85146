-- What each UPDATE and DELETE of an office does to its table.
use Rattle.std.proofs.Common.{◌≡◌, ℕ, ℤ, List, [], ◌∷◌, ◌++◌, true, refl}
use Rattle.sqlite.specs.declared.types.Value.{Value}
use Rattle.sqlite.specs.declared.types.Value.TheVariants.{Int, Text}
use Rattle.sqlite.specs.Kind.TheVariants as kind
use Rattle.sqlite.specs.Listing.{understood}
use Rattle.sqlite.specs.Term.{Term, col}
use Rattle.sqlite_schema.specs.Rules.{is_of}
use Rattle.sqlite_tied.specs.Compute.{everything}
use Rattle.reg_tables.specs.Kinds.{WritesRows}
use Rattle.reg_tables.specs.Schema.{agents_table, blocks_table, caps_table}
use Rattle.reg_tables.specs.Schema.{holds_table, office_table, requests_table}
use Rattle.reg_tables.specs.Selecting.{equals, columns_of}
use Rattle.reg_tables.specs.declared.texts.TheConstants as texts
use Rattle.reg_tables.proofs.EditLemmas.Deleting.{Deletes}
use Rattle.reg_tables.proofs.EditLemmas.Changing.{Changes}

-- ---- the version

pub version_changes : (n : ℤ)
    → Changes texts.CHANGE_VERSION.now 0 office_table [] (col 0 0 ∷ []) (Int n ∷ [])
unfolding understood everything
version_changes n = record { slot = refl; is = refl; plain = (refl, refl); given = (refl, tt) }

pub change_version_writes : WritesRows texts.CHANGE_VERSION.now
unfolding everything
change_version_writes = refl

-- ---- capabilities

pub cap_deletes : Deletes texts.DELETE_CAP.now 1 caps_table (equals ((1, 0) ∷ []))
unfolding understood everything
cap_deletes = record { slot = refl; is = refl; plain = (refl, refl); writes = refl }

-- ---- requests

abbrev pub request_terms : List Term
request_terms = columns_of 22 ++ col 0 2 ∷ col 0 3 ∷ col 0 4 ∷ []

module _ (account reference state : List ℕ) (given reason : Value)
    (typed : (is_of kind.Text given ≡ true) × (is_of kind.Text reason ≡ true)) where
  pub request_changes : Changes texts.CHANGE_REQUEST.now 5 requests_table
      (equals ((1, 0) ∷ (2, 1) ∷ [])) request_terms
      (Text account ∷ Text reference ∷ Text state ∷ given ∷ reason ∷ [])
  unfolding understood everything
  request_changes = record { slot = refl; is = refl; plain = (refl, refl); given = (refl, (typed.0, (typed.1, tt))) }

pub change_request_writes : WritesRows texts.CHANGE_REQUEST.now
unfolding everything
change_request_writes = refl

-- ---- blocks

abbrev pub block_terms : List Term
block_terms = columns_of 5 ++ col 0 1 ∷ []

module _ (first private : ℤ) where
  pub block_changes : Changes texts.CHANGE_BLOCK.now 9 blocks_table (equals ((1, 0) ∷ [])) block_terms
      (Int first ∷ Int private ∷ [])
  unfolding understood everything
  block_changes = record { slot = refl; is = refl; plain = (refl, refl); given = (refl, tt) }

pub change_block_writes : WritesRows texts.CHANGE_BLOCK.now
unfolding everything
change_block_writes = refl

-- ---- entries that are held

pub hold_deletes : Deletes texts.DELETE_HOLD.now 10 holds_table (equals ((1, 0) ∷ (2, 1) ∷ []))
unfolding understood everything
hold_deletes = record { slot = refl; is = refl; plain = (refl, refl); writes = refl }

-- ---- agents

pub agent_deletes : Deletes texts.DELETE_AGENT.now 12 agents_table (equals ((1, 0) ∷ (2, 1) ∷ []))
unfolding understood everything
agent_deletes = record { slot = refl; is = refl; plain = (refl, refl); writes = refl }
